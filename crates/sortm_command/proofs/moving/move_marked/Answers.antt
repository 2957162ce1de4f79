use Rattle.std.proofs.Common.{refl, sym, ap, ◌∙◌}
use Rattle.file_plans.proofs.Following.{done, go, no_room, same_plan, stop}
use Rattle.step_plans.specs.Hands.{mail_place}
use Rattle.sequence_commits.specs.Committing.{changed_sequences}
use Rattle.sortm_plans.specs.Marking.{pairs_of}
use Rattle.sortm_plans.proofs.Restored.{moved_again}
use Rattle.sortm_plans.specs.Moving.{marked_moved}
use Rattle.sortm_command.proofs.moving.move_marked.Goals as goal
use Rattle.refile_plans.specs.Rmm.{withdrawn}

pub returns-in_err-marks-clause-plan : goal.returns-in_err-marks-clause-plan
returns-in_err-marks-clause-plan g c = no_room _ c.from_residual.ensures refl

pub returns-in_err-withdraw-clause-plan : goal.returns-in_err-withdraw-clause-plan
unfolding marked_moved
returns-in_err-withdraw-clause-plan g c = stop _ c.in_err-withdraw.ensures.plan c.from_residual-in_err-withdraw.ensures

pub returns-in_err-ends-clause-plan : goal.returns-in_err-ends-clause-plan
unfolding marked_moved
returns-in_err-ends-clause-plan g c =
    go _ c.in_ok-withdraw.ensures.plan
    (stop _ (rw (c.run.ensures, c.in_ok-withdraw.ensures.same.0, c.place.ensures, c.in_ok-withdraw.ensures.left, c.highest-top.ensures.value) at (c.in_err-ends.ensures c.withdraw.new.hand.kept)) c.from_residual-in_err-ends.ensures)

pub returns-in_err-pairs-clause-plan : goal.returns-in_err-pairs-clause-plan
unfolding marked_moved
returns-in_err-pairs-clause-plan g c =
    go _ c.in_ok-withdraw.ensures.plan
    (go _ (rw (c.run.ensures, c.in_ok-withdraw.ensures.same.0, c.place.ensures, c.in_ok-withdraw.ensures.left, c.highest-top.ensures.value) at (c.in_ok-ends.ensures c.withdraw.new.hand.kept))
    (no_room _ c.from_residual-in_err-pairs.ensures refl))

pub returns-in_err-restore-clause-plan : goal.returns-in_err-restore-clause-plan
unfolding marked_moved
returns-in_err-restore-clause-plan g c =
    go _ c.in_ok-withdraw.ensures.plan
    (go _ (rw (c.run.ensures, c.in_ok-withdraw.ensures.same.0, c.place.ensures, c.in_ok-withdraw.ensures.left, c.highest-top.ensures.value) at (c.in_ok-ends.ensures c.withdraw.new.hand.kept))
    (stop _ (same_plan _ _ (ap (changed_sequences c.args.hand.now.run c.args.opened.now.place (mail_place c.args.hand.now) c.args.opened.now.folder (withdrawn c.args.takes.now c.args.opened.now.sequences))
    (sym (moved_again c.args.takes.now c.args.opened.now.sequences (rw c.sequences.ensures at c.in_ok-marks.ensures.valid) (pairs_of c.args.moves.now c.in_ok-ends.ends))))
    (rw (c.in_ok-withdraw.ensures.same.0, c.in_ok-withdraw.ensures.same.1, c.in_ok-withdraw.ensures.left, c.in_ok-marks.ensures.marks, c.sequences.ensures, c.in_ok-pairs.ensures, c.as_slice.ensures) at c.in_err-restore.ensures.plan)) c.from_residual-in_err-restore.ensures))

pub returns-clause-plan : goal.returns-clause-plan
unfolding marked_moved
returns-clause-plan g c =
    go _ c.in_ok-withdraw.ensures.plan
    (go _ (rw (c.run.ensures, c.in_ok-withdraw.ensures.same.0, c.place.ensures, c.in_ok-withdraw.ensures.left, c.highest-top.ensures.value) at (c.in_ok-ends.ensures c.withdraw.new.hand.kept))
    (go _ (same_plan _ _ (ap (changed_sequences c.args.hand.now.run c.args.opened.now.place (mail_place c.args.hand.now) c.args.opened.now.folder (withdrawn c.args.takes.now c.args.opened.now.sequences))
    (sym (moved_again c.args.takes.now c.args.opened.now.sequences (rw c.sequences.ensures at c.in_ok-marks.ensures.valid) (pairs_of c.args.moves.now c.in_ok-ends.ends))))
    (rw (c.in_ok-withdraw.ensures.same.0, c.in_ok-withdraw.ensures.same.1, c.in_ok-withdraw.ensures.left, c.in_ok-marks.ensures.marks, c.sequences.ensures, c.in_ok-pairs.ensures, c.as_slice.ensures) at c.in_ok-restore.ensures.plan)) done))

pub returns-clause-left : goal.returns-clause-left
returns-clause-left g c =
    ap (λ o. o.sequences) (rw (c.in_ok-withdraw.ensures.left, c.in_ok-marks.ensures.marks, c.sequences.ensures, c.in_ok-pairs.ensures, c.as_slice.ensures) at c.in_ok-restore.ensures.left)
    ∙ moved_again c.args.takes.now c.args.opened.now.sequences (rw c.sequences.ensures at c.in_ok-marks.ensures.valid) (pairs_of c.args.moves.now c.in_ok-ends.ends)
