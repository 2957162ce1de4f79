use Rattle.std.proofs.Common.{sym, ◌∙◌}
use Rattle.sortm_plans.proofs.Sorted.{are_in_order}
use Rattle.sortm_command.proofs.ordering.ordered.Goals as goal

pub returns : goal.returns
returns g c = c.from_vec.ensures ∙ sym (c.in_ok-order.ensures.alone _ (are_in_order g.K.Ord.cmp g.met.K.Ord.total c.args.keyed.items))
