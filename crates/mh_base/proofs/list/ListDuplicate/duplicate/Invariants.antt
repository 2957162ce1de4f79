use Rattle.std.proofs.Common.{◌≡◌, take}
use Rattle.mh_base.proofs.list.ListDuplicate.duplicate.Given as goal

abbrev pub invariant-loop-item : goal.invariant-loop-item
invariant-loop-item g l = (l.copied ≡ take l.item-index l.item-items) × (l.item-items ≡ l.self)
