use Rattle.std.proofs.Common.{sym, ◌∙◌}
use Rattle.file_plans.proofs.Following.{same_plan}
use Rattle.folder_command.specs.Folder.{folder}
use Rattle.folder_command.proofs.FolderAlone.{folder_alone}
use Rattle.folder_command.proofs.FolderPledged.{folder_promises}
use Rattle.folder_command.proofs.WordsGiven.{by_none, by_words}
use Rattle.folder_command.proofs.changing.folder.Goals as goal

pub returns-then-is_empty-clause-plan : goal.returns-then-is_empty-clause-plan
unfolding folder
returns-then-is_empty-clause-plan g c = same_plan _ _ (by_none c.args.hand.now.run c.args.hand.now.mail c.args.job.now c.args.job.now.specs (sym c.is_empty.ensures ∙ c.if-is_empty.true)) c.look.ensures.plan

pub returns-else-is_empty-clause-plan : goal.returns-else-is_empty-clause-plan
unfolding folder
returns-else-is_empty-clause-plan g c = same_plan _ _ (by_words c.args.hand.now.run c.args.hand.now.mail c.args.job.now c.args.job.now.specs (sym c.is_empty.ensures ∙ c.if-is_empty.false)) c.change.ensures.plan

pub returns-then-is_empty-clause-alone : goal.returns-then-is_empty-clause-alone
returns-then-is_empty-clause-alone g c = folder_alone _ _ _ _ _ _ _ _ _ _ (returns-then-is_empty-clause-plan g c)

pub returns-else-is_empty-clause-alone : goal.returns-else-is_empty-clause-alone
returns-else-is_empty-clause-alone g c = folder_alone _ _ _ _ _ _ _ _ _ _ (returns-else-is_empty-clause-plan g c)

pub returns-then-is_empty-clause-steps : goal.returns-then-is_empty-clause-steps
returns-then-is_empty-clause-steps g c = λ few. folder_promises _ few _ _ _ _ _ (returns-then-is_empty-clause-plan g c)

pub returns-else-is_empty-clause-steps : goal.returns-else-is_empty-clause-steps
returns-else-is_empty-clause-steps g c = λ few. folder_promises _ few _ _ _ _ _ (returns-else-is_empty-clause-plan g c)
