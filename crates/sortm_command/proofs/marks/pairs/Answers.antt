use Rattle.std.proofs.Common.{◌≤◌, subst}
use Rattle.sortm_plans.proofs.Zipped.{all_paired}
use Rattle.sortm_command.proofs.marks.pairs.Goals as goal

pub returns : goal.returns
returns c = all_paired (λ x. record { from = x.0.from; to = x.1 }) c.args.moves.now c.args.ends.now c.loop-i.pairs c.loop-i.i (subst (λ n. n ≤ c.loop-i.i) c.min-i-end.ensures c.loop-i-test.false) c.loop-i.invariant
