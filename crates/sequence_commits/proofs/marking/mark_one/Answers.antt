use Rattle.mh_sequences.proofs.Bools.{ok_then}
use Rattle.sequence_commits.proofs.MarkedOnce.{marks}
use Rattle.sequence_commits.proofs.marking.mark_one.Goals as goal

pub returns-clause-ok : goal.returns-clause-ok
returns-clause-ok c = ok_then _ _ c.apply.result (λ is. marks c.args.mark.now c.args.sequences.now c.apply.new.self c.apply.ensures.valid is) c.apply.ensures.ok
