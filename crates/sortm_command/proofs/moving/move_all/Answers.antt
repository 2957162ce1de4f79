use Rattle.std.proofs.Common.{sym, ◌∙◌}
use Rattle.file_plans.proofs.Following.{same_plan}
use Rattle.opening_plans.proofs.OneStep.{done_as}
use Rattle.step_plans.specs.Hands.{mail_place}
use Rattle.sortm_plans.proofs.MovesMade.{by_moves, by_none, none_after}
use Rattle.sortm_command.proofs.moving.move_all.Goals as goal

pub returns-then-is_empty-clause-plan : goal.returns-then-is_empty-clause-plan
returns-then-is_empty-clause-plan g c = same_plan _ _ (by_none c.args.hand.now.run (mail_place c.args.hand.now) c.args.opened.now c.args.takes.now c.args.moves.now (sym c.is_empty.ensures ∙ c.if-is_empty.true)) (done_as c.new.ensures)

pub returns-else-is_empty-clause-plan : goal.returns-else-is_empty-clause-plan
returns-else-is_empty-clause-plan g c = same_plan _ _ (by_moves c.args.hand.now.run (mail_place c.args.hand.now) c.args.opened.now c.args.takes.now c.args.moves.now (sym c.is_empty.ensures ∙ c.if-is_empty.false)) c.move_marked.ensures.plan

pub returns-then-is_empty-clause-left : goal.returns-then-is_empty-clause-left
returns-then-is_empty-clause-left g c = sym (none_after c.args.moves.now _ c.args.opened.now.sequences (sym c.is_empty.ensures ∙ c.if-is_empty.true))
