use Rattle.std.proofs.Common.{refl, ap, ◌∙◌}
use Rattle.file_plans.proofs.Following.{go, stop, no_room}
use Rattle.sequence_commits.specs.Reading.{sequences_in}
use Rattle.opening_plans.specs.Opening.{marks_read}
use Rattle.opening_plans.proofs.OneStep.{done_as, knows}
use Rattle.opened_folders.proofs.reading.read_marks.Goals as goal

pub returns-in_err-text-clause-plan : goal.returns-in_err-text-clause-plan
unfolding marks_read
returns-in_err-text-clause-plan g c = stop _ (rw c.run.ensures at (c.in_err-text.ensures c.args.hand.now.kept)) c.from_residual.ensures

pub returns-in_err-entries-clause-plan : goal.returns-in_err-entries-clause-plan
unfolding marks_read
returns-in_err-entries-clause-plan g c =
    go _ (rw c.run.ensures at (c.in_ok-text.ensures c.args.hand.now.kept))
    (stop _ (rw (c.run-2.ensures, c.mail.ensures) at (c.in_err-entries.ensures c.args.hand.now.kept)) c.from_residual-in_err-entries.ensures)

pub returns-in_err-sequences-clause-plan : goal.returns-in_err-sequences-clause-plan
unfolding marks_read
returns-in_err-sequences-clause-plan g c =
    go _ (rw c.run.ensures at (c.in_ok-text.ensures c.args.hand.now.kept))
    (go _ (rw (c.run-2.ensures, c.mail.ensures) at (c.in_ok-entries.ensures c.args.hand.now.kept)) (no_room _ c.from_residual-in_err-sequences.ensures refl))

pub returns-clause-plan : goal.returns-clause-plan
unfolding marks_read
returns-clause-plan g c =
    go _ (rw c.run.ensures at (c.in_ok-text.ensures c.args.hand.now.kept))
    (go _ (rw (c.run-2.ensures, c.mail.ensures) at (c.in_ok-entries.ensures c.args.hand.now.kept))
    (rw c.saw_context.ensures (go _ (knows _ c.args.hand.now.kept) (done_as (c.in_ok-sequences.ensures ∙ ap (λ t. sequences_in t c.in_ok-entries.entries c.args.folder.now) c.as_slice.ensures)))))
