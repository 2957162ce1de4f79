use Rattle.std.proofs.Common.{[], ap, refl, sym}
use Rattle.std.specs.Prelude.{Ok}
use Rattle.file_plans.proofs.Following.{go, no_room, stop, whole}
use Rattle.command_stages.proofs.Values.{seen_on}
use Rattle.told_folders.specs.Plans.{folder_looked}
use Rattle.told_folders.specs.Tasks.{sequences_seen}
use Rattle.folder_command.specs.Folder.{task_with}
use Rattle.folder_command.proofs.looking.look.Goals as goal
use Rattle.mh_profile.specs.Reading.{entries_seen}

pub returns-in_err-place-clause-plan : goal.returns-in_err-place-clause-plan
returns-in_err-place-clause-plan g c = no_room _ c.from_residual.ensures refl

pub returns-in_err-names-clause-plan : goal.returns-in_err-names-clause-plan
unfolding folder_looked
returns-in_err-names-clause-plan g c = stop _ (whole (rw (c.in_ok-place.ensures, c.run.ensures) at (c.in_err-names.ensures c.args.hand.now.kept))) c.from_residual-in_err-names.ensures

pub returns-in_err-text-clause-plan : goal.returns-in_err-text-clause-plan
unfolding folder_looked
returns-in_err-text-clause-plan g c =
    go _ (whole (rw (c.in_ok-place.ensures, c.run.ensures) at (c.in_ok-names.ensures c.args.hand.now.kept)))
    (stop _ (whole (rw (c.in_ok-place.ensures, c.run-2.ensures) at (c.in_err-text.ensures c.args.hand.now.kept))) c.from_residual-in_err-text.ensures)

pub returns-in_err-listing-clause-plan : goal.returns-in_err-listing-clause-plan
unfolding folder_looked
returns-in_err-listing-clause-plan g c =
    go _ (whole (rw (c.in_ok-place.ensures, c.run.ensures) at (c.in_ok-names.ensures c.args.hand.now.kept)))
    (go _ (whole (rw (c.in_ok-place.ensures, c.run-2.ensures) at (c.in_ok-text.ensures c.args.hand.now.kept)))
    (no_room _ c.from_residual-in_err-listing.ensures refl))

pub returns-in_err-sequences-clause-plan : goal.returns-in_err-sequences-clause-plan
unfolding folder_looked
returns-in_err-sequences-clause-plan g c =
    go _ (whole (rw (c.in_ok-place.ensures, c.run.ensures) at (c.in_ok-names.ensures c.args.hand.now.kept)))
    (go _ (whole (rw (c.in_ok-place.ensures, c.run-2.ensures) at (c.in_ok-text.ensures c.args.hand.now.kept)))
    (no_room _ c.from_residual-in_err-sequences.ensures refl))

pub returns-in_err-say_summary-clause-plan : goal.returns-in_err-say_summary-clause-plan
unfolding folder_looked
returns-in_err-say_summary-clause-plan g c =
    go _ (whole (rw (c.in_ok-place.ensures, c.run.ensures) at (c.in_ok-names.ensures c.args.hand.now.kept)))
    (go _ (whole (rw (c.in_ok-place.ensures, c.run-2.ensures) at (c.in_ok-text.ensures c.args.hand.now.kept)))
    (seen_on _ (λ h. sequences_seen (task_with [] c.args.job.now) c.in_ok-names.names c.in_ok-text.text (entries_seen h.context)) _
    (ap (λ m. Ok m) (sym (rw (c.in_ok-listing.ensures, c.as_slice.ensures) at c.in_ok-sequences.ensures)))
    (stop _ (rw c.in_ok-listing.ensures at (c.in_err-say_summary.ensures c.args.hand.now.run c.args.hand.now.kept (g.F.Files.state c.read_sequences_text.new.files))) c.from_residual-in_err-say_summary.ensures)))

pub returns-clause-plan : goal.returns-clause-plan
unfolding folder_looked
returns-clause-plan g c =
    go _ (whole (rw (c.in_ok-place.ensures, c.run.ensures) at (c.in_ok-names.ensures c.args.hand.now.kept)))
    (go _ (whole (rw (c.in_ok-place.ensures, c.run-2.ensures) at (c.in_ok-text.ensures c.args.hand.now.kept)))
    (seen_on _ (λ h. sequences_seen (task_with [] c.args.job.now) c.in_ok-names.names c.in_ok-text.text (entries_seen h.context)) _
    (ap (λ m. Ok m) (sym (rw (c.in_ok-listing.ensures, c.as_slice.ensures) at c.in_ok-sequences.ensures)))
    (go _ (rw c.in_ok-listing.ensures at (c.in_ok-say_summary.ensures c.args.hand.now.run c.args.hand.now.kept (g.F.Files.state c.read_sequences_text.new.files))) (whole c.make_current.ensures.plan))))
