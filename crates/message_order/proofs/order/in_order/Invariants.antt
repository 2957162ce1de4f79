use Rattle.std.proofs.Common.{◌≡◌, take, map}
use Rattle.message_order.proofs.order.in_order.Given as goal

abbrev pub invariant-loop-item : goal.invariant-loop-item
invariant-loop-item g l = l.numbers.items ≡ map (λ x. x.1) (take l.item-index l.item-items)
