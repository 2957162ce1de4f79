use Rattle.std.proofs.Common.{refl}
use Rattle.file_plans.proofs.Following.{go, no_room, stop, whole}
use Rattle.command_stages.proofs.Values.{seen_off, seen_on}
use Rattle.pick_plans.specs.Pick.{chosen_seen, pick_looks}
use Rattle.pick_command.proofs.looking.look.Goals as goal
use Rattle.mh_profile.specs.Reading.{entries_seen}

pub returns-in_err-place-clause-plan : goal.returns-in_err-place-clause-plan
returns-in_err-place-clause-plan g c = no_room _ c.from_residual.ensures refl

pub returns-in_err-names-clause-plan : goal.returns-in_err-names-clause-plan
unfolding pick_looks
returns-in_err-names-clause-plan g c = stop _ (whole (rw (c.in_ok-place.ensures, c.run.ensures) at (c.in_err-names.ensures c.args.hand.now.kept))) c.from_residual-in_err-names.ensures

pub returns-in_err-text-clause-plan : goal.returns-in_err-text-clause-plan
unfolding pick_looks
returns-in_err-text-clause-plan g c =
    go _ (whole (rw (c.in_ok-place.ensures, c.run.ensures) at (c.in_ok-names.ensures c.args.hand.now.kept)))
    (stop _ (whole (rw (c.in_ok-place.ensures, c.run-2.ensures) at (c.in_err-text.ensures c.args.hand.now.kept))) c.from_residual-in_err-text.ensures)

pub returns-in_err-numbers-clause-plan : goal.returns-in_err-numbers-clause-plan
unfolding pick_looks
returns-in_err-numbers-clause-plan g c =
    go _ (whole (rw (c.in_ok-place.ensures, c.run.ensures) at (c.in_ok-names.ensures c.args.hand.now.kept)))
    (go _ (whole (rw (c.in_ok-place.ensures, c.run-2.ensures) at (c.in_ok-text.ensures c.args.hand.now.kept)))
    (seen_off _ (λ h. chosen_seen c.args.job.now c.in_ok-names.names c.in_ok-text.text (entries_seen h.context)) _ _ c.in_err-numbers.ensures c.from_residual-in_err-numbers.ensures))

pub returns-in_err-found-clause-plan : goal.returns-in_err-found-clause-plan
unfolding pick_looks
returns-in_err-found-clause-plan g c =
    go _ (whole (rw (c.in_ok-place.ensures, c.run.ensures) at (c.in_ok-names.ensures c.args.hand.now.kept)))
    (go _ (whole (rw (c.in_ok-place.ensures, c.run-2.ensures) at (c.in_ok-text.ensures c.args.hand.now.kept)))
    (seen_on _ (λ h. chosen_seen c.args.job.now c.in_ok-names.names c.in_ok-text.text (entries_seen h.context)) _ c.in_ok-numbers.ensures
    (stop _ (rw (c.in_ok-place.ensures, c.run-3.ensures, c.as_slice.ensures.value) at (c.in_err-found.ensures c.args.hand.now.kept)) c.from_residual-in_err-found.ensures)))

pub returns-clause-plan : goal.returns-clause-plan
unfolding pick_looks
returns-clause-plan g c =
    go _ (whole (rw (c.in_ok-place.ensures, c.run.ensures) at (c.in_ok-names.ensures c.args.hand.now.kept)))
    (go _ (whole (rw (c.in_ok-place.ensures, c.run-2.ensures) at (c.in_ok-text.ensures c.args.hand.now.kept)))
    (seen_on _ (λ h. chosen_seen c.args.job.now c.in_ok-names.names c.in_ok-text.text (entries_seen h.context)) _ c.in_ok-numbers.ensures
    (go _ (rw (c.in_ok-place.ensures, c.run-3.ensures, c.as_slice.ensures.value) at (c.in_ok-found.ensures c.args.hand.now.kept)) (rw c.as_slice-2.ensures at c.tell.ensures.plan))))
