use Rattle.std.proofs.Common.{sym, ◌∙◌}
use Rattle.file_plans.proofs.Following.{done, go, same_plan, stop}
use Rattle.message_moves.proofs.Turns.{goes_away, goes_nowhere}
use Rattle.message_moves.proofs.refiling.refile_message.Goals as goal

pub returns-in_err-held-clause-plan : goal.returns-in_err-held-clause-plan
returns-in_err-held-clause-plan g c =
    same_plan _ _ (goes_away _ _ _ _ _ (sym c.is_empty.ensures ∙ c.if-is_empty.false)) (stop _ (rw c.run-run.ensures at (c.in_err-held.ensures c.args.hand.now.kept)) c.from_residual.ensures)

pub returns-then-is_empty-clause-plan : goal.returns-then-is_empty-clause-plan
returns-then-is_empty-clause-plan g c = same_plan _ _ (goes_nowhere _ _ _ _ _ (sym c.is_empty.ensures ∙ c.if-is_empty.true)) (rw c.new.ensures done)

pub returns-in_err-bytes-clause-plan : goal.returns-in_err-bytes-clause-plan
returns-in_err-bytes-clause-plan g c =
    same_plan _ _ (goes_away _ _ _ _ _ (sym c.is_empty.ensures ∙ c.if-is_empty.false))
    (go _ (rw c.run-run.ensures at (c.in_ok-held.ensures c.args.hand.now.kept)) (stop _ (rw c.run-run.ensures at (c.in_err-bytes.ensures c.args.hand.now.kept)) c.from_residual-in_err-bytes.ensures))

pub returns-in_err-later-clause-plan : goal.returns-in_err-later-clause-plan
returns-in_err-later-clause-plan g c =
    same_plan _ _ (goes_away _ _ _ _ _ (sym c.is_empty.ensures ∙ c.if-is_empty.false))
    (go _ (rw c.run-run.ensures at (c.in_ok-held.ensures c.args.hand.now.kept))
    (go _ (rw c.run-run.ensures at (c.in_ok-bytes.ensures c.args.hand.now.kept)) (stop _ c.in_err-later.ensures.plan c.from_residual-in_err-later.ensures)))

pub returns-in_err-discard_in-clause-plan : goal.returns-in_err-discard_in-clause-plan
returns-in_err-discard_in-clause-plan g c =
    same_plan _ _ (goes_away _ _ _ _ _ (sym c.is_empty.ensures ∙ c.if-is_empty.false))
    (go _ (rw c.run-run.ensures at (c.in_ok-held.ensures c.args.hand.now.kept))
    (go _ (rw c.run-run.ensures at (c.in_ok-bytes.ensures c.args.hand.now.kept))
    (go _ c.in_ok-later.ensures.plan (stop _ (rw c.run-run.ensures at (c.in_err-discard_in.ensures c.copy_to_all.new.hand.kept)) c.from_residual-in_err-discard_in.ensures))))

pub returns-clause-plan : goal.returns-clause-plan
returns-clause-plan g c =
    same_plan _ _ (goes_away _ _ _ _ _ (sym c.is_empty.ensures ∙ c.if-is_empty.false))
    (go _ (rw c.run-run.ensures at (c.in_ok-held.ensures c.args.hand.now.kept))
    (go _ (rw c.run-run.ensures at (c.in_ok-bytes.ensures c.args.hand.now.kept)) (go _ c.in_ok-later.ensures.plan (go _ (rw c.run-run.ensures at (c.in_ok-discard_in.ensures c.copy_to_all.new.hand.kept)) done))))
