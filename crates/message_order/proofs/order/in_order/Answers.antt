use Rattle.std.proofs.Common.{map, ap, ◌∙◌, take_all}
use Rattle.message_order.proofs.OneOrder.{one_arrangement}
use Rattle.message_order.proofs.order.in_order.Goals as goal

pub returns-clause-order : goal.returns-clause-order
returns-clause-order c = λ d. record {
  ordered = d.sort.new.self.items;
  same = d.sort.ensures.permutation;
  ascends = d.in_ok-sort.ensures.sorted;
  are = d.loop-item.invariant ∙ ap (map (λ x. x.1)) (take_all d.loop-item.item-index d.deref-item-items.result.now d.loop-item-test.false ∙ d.deref-item-items.ensures.value);
}

pub returns-clause-alone : goal.returns-clause-alone
returns-clause-alone c = λ d other g. one_arrangement c.K.Ord.cmp c.met.K.Ord.total d.args.keyed.items d.loop-item.numbers.items other (returns-clause-order c d) g
