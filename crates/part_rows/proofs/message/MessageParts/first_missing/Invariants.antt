use Rattle.std.proofs.Common.{◌≡◌, drop}
use Rattle.part_rows.specs.Choices.{first_missing}
use Rattle.part_rows.specs.PartViews.{parts_of}
use Rattle.part_rows.proofs.message.MessageParts.first_missing.Given as goal

abbrev pub invariant-loop-path : goal.invariant-loop-path
invariant-loop-path l = first_missing (drop l.path-index l.wanted) (parts_of l.self) ≡ first_missing l.wanted (parts_of l.self)
