use Rattle.mh_sequences.proofs.Bools.{ok_then}
use Rattle.sequence_commits.proofs.CutOnce.{cuts}
use Rattle.sequence_commits.proofs.cutting.cut_sequences.Goals as goal

pub returns-clause-ok : goal.returns-clause-ok
returns-clause-ok c = ok_then _ _ c.cut.result (λ is. cuts c.args.listing.now.runs c.args.sequences.now c.cut.new.self c.cut.ensures.valid is) c.cut.ensures.ok
