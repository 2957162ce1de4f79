use Rattle.mh_sequences.proofs.Piling.{each_run}
use Rattle.mh_sequences.proofs.pile.Pile.settle.Goals as goal

pub invariant_of-self-2 : goal.invariant_of-self-2
invariant_of-self-2 c = each_run c.into_runs.result.items c.into_runs.ensures.valid
