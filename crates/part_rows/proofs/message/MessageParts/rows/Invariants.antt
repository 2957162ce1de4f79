use Rattle.std.proofs.Common.{◌≡◌, take, map}
use Rattle.part_rows.specs.PartViews.{view_of}
use Rattle.part_rows.specs.Rows.{part_row}
use Rattle.part_rows.proofs.message.MessageParts.rows.Given as goal

abbrev pub invariant-loop-part : goal.invariant-loop-part
invariant-loop-part l = l.rows ≡ map (λ p. part_row l.number (view_of l.self p.now)) (take l.part-index l.part-items)
