use Rattle.mh_drafts.proofs.Signing.{Passed}
use Rattle.mh_drafts.proofs.sign.first_wrong.Given as goal

abbrev pub invariant-loop-place : goal.invariant-loop-place
invariant-loop-place l = Passed l.signs l.place l.ends l.bare l.first

abbrev pub decreases-loop-place : goal.decreases-loop-place
decreases-loop-place l = l.place
