use Rattle.file_plans.proofs.Following.{go_from, stop_from}
use Rattle.command_stages.proofs.Causes.{stop_same}
use Rattle.refile_plans.proofs.LetGo.{all_given, next_given}
use Rattle.refile_command.proofs.letting_go.give_up_all.Goals as goal

pub returns-in_err-attempt_unlock : goal.returns-in_err-attempt_unlock
returns-in_err-attempt_unlock g c = λ h. c.loop-one.invariant.1 h _ _ (next_given _ _ _ _ _ c.loop-one-test.true c.one-item.is (stop_from _ stop_same (rw c.place.ensures at (c.in_err-attempt_unlock.ensures h)) c.from_residual.ensures))

pub loop-one-preserved : goal.loop-one-preserved
loop-one-preserved g c = (c.loop-one.invariant.0, λ h z r f. c.loop-one.invariant.1 h z r (next_given _ _ _ _ _ c.loop-one-test.true c.one-item.is (go_from _ _ (rw c.place.ensures at (c.in_ok-attempt_unlock.ensures h)) f)))

pub returns : goal.returns
returns g c = λ h. rw c.loop-one.invariant.0 (c.loop-one.invariant.1 h _ _ (all_given _ _ _ _ c.loop-one-test.false c.requires))
