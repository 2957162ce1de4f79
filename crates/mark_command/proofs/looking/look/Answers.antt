use Rattle.std.proofs.Common.{refl}
use Rattle.file_plans.proofs.Following.{go, no_room, stop, whole}
use Rattle.told_folders.specs.Plans.{folder_looked}
use Rattle.told_folders.specs.Tasks.{sequences_seen}
use Rattle.mark_command.specs.Mark.{look_task}
use Rattle.command_stages.proofs.Values.{seen_off, seen_on}
use Rattle.mark_command.proofs.looking.look.Goals as goal
use Rattle.mh_profile.specs.Reading.{entries_seen}

pub returns-in_err-place-clause-plan : goal.returns-in_err-place-clause-plan
returns-in_err-place-clause-plan g c = no_room _ c.from_residual.ensures refl

pub returns-in_err-names-clause-plan : goal.returns-in_err-names-clause-plan
unfolding folder_looked
returns-in_err-names-clause-plan g c = stop _ (whole (rw (c.in_ok-place.ensures, c.run.ensures) at (c.in_err-names.ensures c.args.hand.now.kept))) c.from_residual-in_err-names.ensures

pub returns-in_err-text-clause-plan : goal.returns-in_err-text-clause-plan
unfolding folder_looked
returns-in_err-text-clause-plan g c =
    go _ (whole (rw (c.in_ok-place.ensures, c.run.ensures) at (c.in_ok-names.ensures c.args.hand.now.kept)))
    (stop _ (whole (rw (c.in_ok-place.ensures, c.run-2.ensures) at (c.in_err-text.ensures c.args.hand.now.kept))) c.from_residual-in_err-text.ensures)

pub returns-in_err-sequences-clause-plan : goal.returns-in_err-sequences-clause-plan
unfolding folder_looked
returns-in_err-sequences-clause-plan g c =
    go _ (whole (rw (c.in_ok-place.ensures, c.run.ensures) at (c.in_ok-names.ensures c.args.hand.now.kept)))
    (go _ (whole (rw (c.in_ok-place.ensures, c.run-2.ensures) at (c.in_ok-text.ensures c.args.hand.now.kept)))
    (seen_off _ (λ h. sequences_seen (look_task c.args.job.now) c.in_ok-names.names c.in_ok-text.text (entries_seen h.context)) _ _ c.in_err-sequences.ensures c.from_residual-in_err-sequences.ensures))

pub returns-in_err-say_sequences-clause-plan : goal.returns-in_err-say_sequences-clause-plan
unfolding folder_looked
returns-in_err-say_sequences-clause-plan g c =
    go _ (whole (rw (c.in_ok-place.ensures, c.run.ensures) at (c.in_ok-names.ensures c.args.hand.now.kept)))
    (go _ (whole (rw (c.in_ok-place.ensures, c.run-2.ensures) at (c.in_ok-text.ensures c.args.hand.now.kept)))
    (seen_on _ (λ h. sequences_seen (look_task c.args.job.now) c.in_ok-names.names c.in_ok-text.text (entries_seen h.context)) _ c.in_ok-sequences.ensures
    (stop _ (c.in_err-say_sequences.ensures _ _ _) c.from_residual-in_err-say_sequences.ensures)))

pub returns-clause-plan : goal.returns-clause-plan
unfolding folder_looked
returns-clause-plan g c =
    go _ (whole (rw (c.in_ok-place.ensures, c.run.ensures) at (c.in_ok-names.ensures c.args.hand.now.kept)))
    (go _ (whole (rw (c.in_ok-place.ensures, c.run-2.ensures) at (c.in_ok-text.ensures c.args.hand.now.kept)))
    (seen_on _ (λ h. sequences_seen (look_task c.args.job.now) c.in_ok-names.names c.in_ok-text.text (entries_seen h.context)) _ c.in_ok-sequences.ensures
    (go _ (c.in_ok-say_sequences.ensures _ _ _) (whole c.make_current.ensures.plan))))
