use Rattle.file_plans.proofs.Following.{beside, go, stop, whole}
use Rattle.mhbuild_plans.specs.Building.{mhbuild}
use Rattle.mhbuild_plans.proofs.BuildPledged.{build_promises}
use Rattle.mhbuild_plans.proofs.BuiltAlone.{build_alone}
use Rattle.mhbuild_command.proofs.building.mhbuild.Goals as goal

pub returns-in_err-text-clause-plan : goal.returns-in_err-text-clause-plan
unfolding mhbuild
returns-in_err-text-clause-plan g c = stop _ (rw c.run.ensures at (c.in_err-text.ensures.plan c.args.hand.now.kept (g.O.Sink.state c.args.out.now))) c.from_residual.ensures

pub returns-in_err-message-clause-plan : goal.returns-in_err-message-clause-plan
unfolding mhbuild
returns-in_err-message-clause-plan g c =
    go _ (rw c.run.ensures at (c.in_ok-text.ensures.plan c.args.hand.now.kept (g.O.Sink.state c.args.out.now)))
    (stop _ (beside (whole c.in_err-message.ensures)) c.from_residual-in_err-message.ensures)

pub returns-clause-plan : goal.returns-clause-plan
unfolding mhbuild
returns-clause-plan g c =
    go _ (rw c.run.ensures at (c.in_ok-text.ensures.plan c.args.hand.now.kept (g.O.Sink.state c.args.out.now)))
    (go _ (beside (whole c.in_ok-message.ensures)) (beside c.finish.ensures.plan))

pub returns-in_err-text-clause-alone : goal.returns-in_err-text-clause-alone
returns-in_err-text-clause-alone g c = build_alone _ _ _ _ _ _ _ _ _ _ _ _ (returns-in_err-text-clause-plan g c)

pub returns-in_err-message-clause-alone : goal.returns-in_err-message-clause-alone
returns-in_err-message-clause-alone g c = build_alone _ _ _ _ _ _ _ _ _ _ _ _ (returns-in_err-message-clause-plan g c)

pub returns-clause-alone : goal.returns-clause-alone
returns-clause-alone g c = build_alone _ _ _ _ _ _ _ _ _ _ _ _ (returns-clause-plan g c)

pub returns-in_err-text-clause-steps : goal.returns-in_err-text-clause-steps
returns-in_err-text-clause-steps g c = λ few valid. build_promises _ few _ _ valid _ _ _ (returns-in_err-text-clause-plan g c)

pub returns-in_err-message-clause-steps : goal.returns-in_err-message-clause-steps
returns-in_err-message-clause-steps g c = λ few valid. build_promises _ few _ _ valid _ _ _ (returns-in_err-message-clause-plan g c)

pub returns-clause-steps : goal.returns-clause-steps
returns-clause-steps g c = λ few valid. build_promises _ few _ _ valid _ _ _ (returns-clause-plan g c)
