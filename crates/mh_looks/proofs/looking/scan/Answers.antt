use Rattle.std.proofs.Common.{refl}
use Rattle.std.specs.Prelude.{Ok}
use Rattle.file_plans.proofs.Following.{go, no_room, stop, whole}
use Rattle.mh_looks.specs.Asked.{asked}
use Rattle.mh_looks.specs.Scan.{chosen_by, scan}
use Rattle.mh_looks.proofs.Choosing.{chosen_on, listed_by, recalls_shown, refused_by_words}
use Rattle.mh_looks.proofs.looking.scan.Goals as goal
use Rattle.mh_profile.specs.Reading.{entries_seen}

pub returns-in_err-place-clause-plan : goal.returns-in_err-place-clause-plan
returns-in_err-place-clause-plan g c = no_room _ c.from_residual.ensures refl

pub returns-in_err-names-clause-plan : goal.returns-in_err-names-clause-plan
unfolding scan
returns-in_err-names-clause-plan g c = stop _ (whole (rw (c.in_ok-place.ensures, c.run.ensures) at (c.in_err-names.ensures c.args.hand.now.kept))) c.from_residual-in_err-names.ensures

pub returns-in_err-text-clause-plan : goal.returns-in_err-text-clause-plan
unfolding scan
returns-in_err-text-clause-plan g c =
    go _ (whole (rw (c.in_ok-place.ensures, c.run.ensures) at (c.in_ok-names.ensures c.args.hand.now.kept)))
    (stop _ (whole (rw (c.in_ok-place.ensures, c.run-2.ensures) at (c.in_err-text.ensures c.args.hand.now.kept))) c.from_residual-in_err-text.ensures)

pub returns-in_err-sequences-clause-plan : goal.returns-in_err-sequences-clause-plan
unfolding scan
returns-in_err-sequences-clause-plan g c =
    go _ (whole (rw (c.in_ok-place.ensures, c.run.ensures) at (c.in_ok-names.ensures c.args.hand.now.kept)))
    (go _ (whole (rw (c.in_ok-place.ensures, c.run-2.ensures) at (c.in_ok-text.ensures c.args.hand.now.kept)))
    (no_room _ c.from_residual-in_err-sequences.ensures refl))

pub returns-in_err-found-clause-plan : goal.returns-in_err-found-clause-plan
unfolding scan
returns-in_err-found-clause-plan g c =
    go _ (whole (rw (c.in_ok-place.ensures, c.run.ensures) at (c.in_ok-names.ensures c.args.hand.now.kept)))
    (go _ (whole (rw (c.in_ok-place.ensures, c.run-2.ensures) at (c.in_ok-text.ensures c.args.hand.now.kept)))
    (refused_by_words (asked c.args.job.now) c.in_ok-names.names c.in_ok-text.text _ _ _ _ c.in_err-found.ensures (rw c.as_slice.ensures at c.in_ok-sequences.ensures) c.from_residual-in_err-found.ensures))

pub returns-in_err-unseen-clause-plan : goal.returns-in_err-unseen-clause-plan
unfolding scan
returns-in_err-unseen-clause-plan g c =
    go _ (whole (rw (c.in_ok-place.ensures, c.run.ensures) at (c.in_ok-names.ensures c.args.hand.now.kept)))
    (go _ (whole (rw (c.in_ok-place.ensures, c.run-2.ensures) at (c.in_ok-text.ensures c.args.hand.now.kept)))
    (chosen_on (λ h. chosen_by (asked c.args.job.now) c.in_ok-names.names c.in_ok-text.text (entries_seen h.context)) _ _
    (listed_by (asked c.args.job.now) c.in_ok-names.names _ _ (Ok c.in_ok-found.found) (rw c.as_slice.ensures at c.in_ok-sequences.ensures) c.in_ok-found.ensures)
    (no_room _ c.from_residual-in_err-unseen.ensures refl)))

pub returns-in_err-show_all-clause-plan : goal.returns-in_err-show_all-clause-plan
unfolding scan
returns-in_err-show_all-clause-plan g c =
    go _ (whole (rw (c.in_ok-place.ensures, c.run.ensures) at (c.in_ok-names.ensures c.args.hand.now.kept)))
    (go _ (whole (rw (c.in_ok-place.ensures, c.run-2.ensures) at (c.in_ok-text.ensures c.args.hand.now.kept)))
    (chosen_on (λ h. chosen_by (asked c.args.job.now) c.in_ok-names.names c.in_ok-text.text (entries_seen h.context)) _ _
    (listed_by (asked c.args.job.now) c.in_ok-names.names _ _ (Ok c.in_ok-found.found) (rw c.as_slice.ensures at c.in_ok-sequences.ensures) c.in_ok-found.ensures)
    (stop _ (recalls_shown (asked c.args.job.now) _ c.in_ok-text.text _ _ (rw (c.in_ok-place.ensures, c.run-3.ensures, c.as_slice-3.ensures.value, c.ordered.ensures, c.in_ok-unseen.ensures.0, c.in_ok-unseen.ensures.1, c.as_slice-2.ensures) at (c.in_err-show_all.ensures c.args.hand.now.kept)) (rw c.as_slice.ensures at c.in_ok-sequences.ensures)) c.from_residual-in_err-show_all.ensures)))

pub returns-clause-plan : goal.returns-clause-plan
unfolding scan
returns-clause-plan g c =
    go _ (whole (rw (c.in_ok-place.ensures, c.run.ensures) at (c.in_ok-names.ensures c.args.hand.now.kept)))
    (go _ (whole (rw (c.in_ok-place.ensures, c.run-2.ensures) at (c.in_ok-text.ensures c.args.hand.now.kept)))
    (chosen_on (λ h. chosen_by (asked c.args.job.now) c.in_ok-names.names c.in_ok-text.text (entries_seen h.context)) _ _
    (listed_by (asked c.args.job.now) c.in_ok-names.names _ _ (Ok c.in_ok-found.found) (rw c.as_slice.ensures at c.in_ok-sequences.ensures) c.in_ok-found.ensures)
    (go _ (recalls_shown (asked c.args.job.now) _ c.in_ok-text.text _ _ (rw (c.in_ok-place.ensures, c.run-3.ensures, c.as_slice-3.ensures.value, c.ordered.ensures, c.in_ok-unseen.ensures.0, c.in_ok-unseen.ensures.1, c.as_slice-2.ensures) at (c.in_ok-show_all.ensures c.args.hand.now.kept)) (rw c.as_slice.ensures at c.in_ok-sequences.ensures)) (whole c.make_current.ensures.plan))))
