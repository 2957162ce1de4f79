use Rattle.std.proofs.Common.{◌≤◌, subst}
use Rattle.sortm_plans.proofs.Zipped.{all_zipped}
use Rattle.sortm_command.proofs.ordering.with_dates.Goals as goal

pub returns : goal.returns
returns c = all_zipped c.args.keys.now c.args.numbers.now c.loop-i.keyed.items c.loop-i.i (subst (λ n. n ≤ c.loop-i.i) c.min-i-end.ensures c.loop-i-test.false) c.loop-i.invariant
