use Rattle.std.proofs.Common.{◌≤◌, subst}
use Rattle.pack_plans.proofs.Stood.{all_seen}
use Rattle.pack_command.proofs.places.staying.Goals as goal

pub returns : goal.returns
returns c = all_seen c.args.numbers.now c.args.places.now c.loop-i.staying c.loop-i.i (subst (λ n. n ≤ c.loop-i.i) c.min-i-end.ensures c.loop-i-test.false) c.loop-i.invariant
