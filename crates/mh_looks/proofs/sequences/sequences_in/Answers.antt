use Rattle.mh_looks.proofs.Marking.{if_read}
use Rattle.mh_looks.proofs.sequences.sequences_in.Goals as goal

pub returns-in-Some : goal.returns-in-Some
returns-in-Some c = rw c.in-Some.ensures (if_read _ _ _ _ c.read.ensures.reading)

pub returns-in-None : goal.returns-in-None
returns-in-None c = rw c.in-None.ensures (if_read _ _ _ _ (rw c.new.ensures at c.read-in-None-2.ensures.reading))
