use Rattle.std.proofs.Common.{◌≡◌, drop}
use Rattle.mime_tree.specs.Trees.{part_at}
use Rattle.mime_tree.proofs.part.Part.below.Given as goal

abbrev pub invariant-loop-number : goal.invariant-loop-number
invariant-loop-number l = part_at (drop l.number-index l.path) l.part ≡ part_at l.path l.self
