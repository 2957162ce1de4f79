use Rattle.file_plans.specs.Follows.{by_hand}
use Rattle.file_plans.proofs.Following.{done, go, stop}
use Rattle.message_notes.specs.Noting.{message_noted}
use Rattle.message_notes.proofs.noting.note_message.Goals as goal

pub returns-in_err-held-clause-plan : goal.returns-in_err-held-clause-plan
unfolding message_noted
returns-in_err-held-clause-plan g c = stop _ (rw c.run-run.ensures at (c.in_err-held.ensures.plan c.args.hand.now.kept)) c.from_residual.ensures

pub returns-in_err-bytes-clause-plan : goal.returns-in_err-bytes-clause-plan
unfolding message_noted
returns-in_err-bytes-clause-plan g c =
    go _ (rw c.run-run.ensures at (c.in_ok-held.ensures.plan c.args.hand.now.kept)) (stop _ (rw c.run-run.ensures at (c.in_err-bytes.ensures c.args.hand.now.kept)) c.from_residual-in_err-bytes.ensures)

pub returns-in_err-new-clause-plan : goal.returns-in_err-new-clause-plan
unfolding message_noted
returns-in_err-new-clause-plan g c =
    go _ (rw c.run-run.ensures at (c.in_ok-held.ensures.plan c.args.hand.now.kept))
    (go _ (rw c.run-run.ensures at (c.in_ok-bytes.ensures c.args.hand.now.kept))
    (stop _ (rw c.as_slice.ensures at (c.in_err-new.ensures c.args.hand.now.run (by_hand c.args.hand.now.kept (g.F.Files.state c.content.new.files)))) c.from_residual-in_err-new.ensures))

pub returns-in_err-end-clause-plan : goal.returns-in_err-end-clause-plan
unfolding message_noted
returns-in_err-end-clause-plan g c =
    go _ (rw c.run-run.ensures at (c.in_ok-held.ensures.plan c.args.hand.now.kept))
    (go _ (rw c.run-run.ensures at (c.in_ok-bytes.ensures c.args.hand.now.kept))
    (go _ (rw c.as_slice.ensures at (c.in_ok-new.ensures c.args.hand.now.run (by_hand c.args.hand.now.kept (g.F.Files.state c.content.new.files)))) (stop _ c.in_err-end.ensures.plan c.from_residual-in_err-end.ensures)))

pub returns-in_err-discard-clause-plan : goal.returns-in_err-discard-clause-plan
unfolding message_noted
returns-in_err-discard-clause-plan g c =
    go _ (rw c.run-run.ensures at (c.in_ok-held.ensures.plan c.args.hand.now.kept))
    (go _ (rw c.run-run.ensures at (c.in_ok-bytes.ensures c.args.hand.now.kept))
    (go _ (rw c.as_slice.ensures at (c.in_ok-new.ensures c.args.hand.now.run (by_hand c.args.hand.now.kept (g.F.Files.state c.content.new.files))))
    (go _ c.in_ok-end.ensures.plan (stop _ (rw c.run-run.ensures at (c.in_err-discard.ensures c.store_at.new.hand.kept)) c.from_residual-in_err-discard.ensures))))

pub returns-clause-plan : goal.returns-clause-plan
unfolding message_noted
returns-clause-plan g c =
    go _ (rw c.run-run.ensures at (c.in_ok-held.ensures.plan c.args.hand.now.kept))
    (go _ (rw c.run-run.ensures at (c.in_ok-bytes.ensures c.args.hand.now.kept))
    (go _ (rw c.as_slice.ensures at (c.in_ok-new.ensures c.args.hand.now.run (by_hand c.args.hand.now.kept (g.F.Files.state c.content.new.files))))
    (go _ c.in_ok-end.ensures.plan (go _ (rw c.run-run.ensures at (c.in_ok-discard.ensures c.store_at.new.hand.kept)) done))))
