use Rattle.inc_plans.proofs.Rounds.{read_all, read_more, read_stops}
use Rattle.inc_command.proofs.counting.count_rest.Goals as goal

pub returns-in_err-bytes : goal.returns-in_err-bytes
returns-in_err-bytes g c = λ h d fuel counted long enough.
    read_stops _ _ _ fuel d _ _ _ _ (c.loop-at.invariant h d fuel counted long enough) c.loop-at-test.true _ c.min-asked.ensures _ _ (c.in_err-bytes.ensures.plan h) _ c.from_residual.ensures

pub loop-at-preserved : goal.loop-at-preserved
loop-at-preserved g c = λ h d fuel counted long enough.
    read_more _ _ _ fuel d _ _ _ _ (c.loop-at.invariant h d fuel counted long enough) c.loop-at-test.true c.requires.few _ c.min-asked.ensures _ _ (c.in_ok-bytes.ensures.plan h) c.in_ok-bytes.ensures.whole _
    (λ e few before. rw c.as_slice.ensures at (c.feed.ensures e (rw c.as_slice.ensures few) before))

pub returns : goal.returns
returns g c = λ h d fuel counted long enough. read_all _ _ _ fuel d _ _ _ _ (c.loop-at.invariant h d fuel counted long enough) c.loop-at-test.false
