use Rattle.file_plans.proofs.Following.{go, stop}
use Rattle.refile_plans.proofs.LetGo.{all_let_go, next_let_go}
use Rattle.refile_command.proofs.letting_go.finish_all.Goals as goal

pub returns-in_err-end : goal.returns-in_err-end
returns-in_err-end g c = λ h. c.loop-one.invariant h _ _ (next_let_go _ _ _ _ c.loop-one-test.true c.one-item.is (stop _ (rw c.place.ensures at (c.in_err-end.ensures h)) c.from_residual.ensures))

pub loop-one-preserved : goal.loop-one-preserved
loop-one-preserved g c = λ h z r f. c.loop-one.invariant h z r (next_let_go _ _ _ _ c.loop-one-test.true c.one-item.is (go _ (rw c.place.ensures at (c.in_ok-end.ensures h)) f))

pub returns : goal.returns
returns g c = λ h. c.loop-one.invariant h _ _ (all_let_go _ _ _ c.loop-one-test.false)
