use Rattle.std.proofs.Common.{refl}
use Rattle.file_plans.proofs.Following.{no_room}
use Rattle.step_plans.proofs.CommitAlone.{commit_caused, commits_alone}
use Rattle.step_plans.proofs.Noted.{context_promises}
use Rattle.step_plans.proofs.context.commit_context.Goals as goal

pub returns-in_err-duplicate-clause-plan : goal.returns-in_err-duplicate-clause-plan
returns-in_err-duplicate-clause-plan g c = no_room _ c.from_residual.ensures refl

pub returns-in_err-duplicate-clause-steps : goal.returns-in_err-duplicate-clause-steps
returns-in_err-duplicate-clause-steps g c = context_promises c.args.hand.now.run (rw c.run-run.ensures at c.run-run.type_inv) c.args.hand.now.mail c.args.changes.now _ _ c.from_residual.result (returns-in_err-duplicate-clause-plan g c)

pub returns-in_err-duplicate-clause-caused : goal.returns-in_err-duplicate-clause-caused
returns-in_err-duplicate-clause-caused g c = commit_caused c.args.hand.now.run _ c.args.changes.now _ _ c.from_residual.result (returns-in_err-duplicate-clause-plan g c)

pub returns-clause-plan : goal.returns-clause-plan
returns-clause-plan g c = rw (← c.hand.view_is) (rw (c.run-run.ensures, ← c.hand.view_is, c.in_ok-duplicate.ensures, c.as_slice.ensures) at c.commit_at.ensures)

pub returns-clause-steps : goal.returns-clause-steps
returns-clause-steps g c = context_promises c.args.hand.now.run (rw c.run-run.ensures at c.run-run.type_inv) c.args.hand.now.mail c.args.changes.now _ _ c.commit_at.result (returns-clause-plan g c)

pub returns-clause-caused : goal.returns-clause-caused
returns-clause-caused g c = commit_caused c.args.hand.now.run _ c.args.changes.now _ _ c.commit_at.result (returns-clause-plan g c)

pub returns-clause-alone : goal.returns-clause-alone
returns-clause-alone g c = commits_alone c.args.hand.now.run (rw c.run-run.ensures at c.run-run.type_inv) c.args.hand.now.mail c.args.changes.now _ _ c.commit_at.result (returns-clause-plan g c)
