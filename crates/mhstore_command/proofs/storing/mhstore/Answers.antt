use Rattle.std.proofs.Common.{refl}
use Rattle.file_plans.proofs.Following.{go, no_room, stop, whole}
use Rattle.command_stages.proofs.Values.{seen_off, seen_on}
use Rattle.mhstore_plans.specs.Storing.{chosen_seen, mhstore}
use Rattle.mhstore_plans.proofs.StoreAlone.{store_alone}
use Rattle.mhstore_plans.proofs.StorePledged.{store_promises}
use Rattle.mhstore_command.proofs.storing.mhstore.Goals as goal
use Rattle.mh_profile.specs.Reading.{entries_seen}

pub returns-in_err-place-clause-plan : goal.returns-in_err-place-clause-plan
returns-in_err-place-clause-plan g c = no_room _ c.from_residual.ensures refl

pub returns-in_err-names-clause-plan : goal.returns-in_err-names-clause-plan
unfolding mhstore
returns-in_err-names-clause-plan g c = stop _ (whole (rw (c.in_ok-place.ensures, c.run.ensures) at (c.in_err-names.ensures c.args.hand.now.kept))) c.from_residual-in_err-names.ensures

pub returns-in_err-text-clause-plan : goal.returns-in_err-text-clause-plan
unfolding mhstore
returns-in_err-text-clause-plan g c =
    go _ (whole (rw (c.in_ok-place.ensures, c.run.ensures) at (c.in_ok-names.ensures c.args.hand.now.kept)))
    (stop _ (whole (rw (c.in_ok-place.ensures, c.run-2.ensures) at (c.in_err-text.ensures c.args.hand.now.kept))) c.from_residual-in_err-text.ensures)

pub returns-in_err-found-clause-plan : goal.returns-in_err-found-clause-plan
unfolding mhstore
returns-in_err-found-clause-plan g c =
    go _ (whole (rw (c.in_ok-place.ensures, c.run.ensures) at (c.in_ok-names.ensures c.args.hand.now.kept)))
    (go _ (whole (rw (c.in_ok-place.ensures, c.run-2.ensures) at (c.in_ok-text.ensures c.args.hand.now.kept)))
    (seen_off _ (λ h. chosen_seen c.args.job.now c.in_ok-names.names c.in_ok-text.text (entries_seen h.context)) _ _ (rw c.as_slice.ensures at c.in_err-found.ensures) c.from_residual-in_err-found.ensures))

pub returns-in_err-store_all-clause-plan : goal.returns-in_err-store_all-clause-plan
unfolding mhstore
returns-in_err-store_all-clause-plan g c =
    go _ (whole (rw (c.in_ok-place.ensures, c.run.ensures) at (c.in_ok-names.ensures c.args.hand.now.kept)))
    (go _ (whole (rw (c.in_ok-place.ensures, c.run-2.ensures) at (c.in_ok-text.ensures c.args.hand.now.kept)))
    (seen_on _ (λ h. chosen_seen c.args.job.now c.in_ok-names.names c.in_ok-text.text (entries_seen h.context)) _ (rw c.as_slice.ensures at c.in_ok-found.ensures)
    (stop _ (rw (c.in_ok-place.ensures, c.as_slice-2.ensures.value) at c.in_err-store_all.ensures.plan) c.from_residual-in_err-store_all.ensures)))

pub returns-clause-plan : goal.returns-clause-plan
unfolding mhstore
returns-clause-plan g c =
    go _ (whole (rw (c.in_ok-place.ensures, c.run.ensures) at (c.in_ok-names.ensures c.args.hand.now.kept)))
    (go _ (whole (rw (c.in_ok-place.ensures, c.run-2.ensures) at (c.in_ok-text.ensures c.args.hand.now.kept)))
    (seen_on _ (λ h. chosen_seen c.args.job.now c.in_ok-names.names c.in_ok-text.text (entries_seen h.context)) _ (rw c.as_slice.ensures at c.in_ok-found.ensures)
    (go _ (rw (c.in_ok-place.ensures, c.as_slice-2.ensures.value) at c.in_ok-store_all.ensures.plan) (whole (rw (c.in_ok-store_all.ensures.same.0, c.in_ok-store_all.ensures.same.1) at c.make_current.ensures.plan)))))

pub returns-in_err-place-clause-alone : goal.returns-in_err-place-clause-alone
returns-in_err-place-clause-alone g c = store_alone _ _ _ _ _ _ _ _ _ _ (returns-in_err-place-clause-plan g c)

pub returns-in_err-names-clause-alone : goal.returns-in_err-names-clause-alone
returns-in_err-names-clause-alone g c = store_alone _ _ _ _ _ _ _ _ _ _ (returns-in_err-names-clause-plan g c)

pub returns-in_err-text-clause-alone : goal.returns-in_err-text-clause-alone
returns-in_err-text-clause-alone g c = store_alone _ _ _ _ _ _ _ _ _ _ (returns-in_err-text-clause-plan g c)

pub returns-in_err-found-clause-alone : goal.returns-in_err-found-clause-alone
returns-in_err-found-clause-alone g c = store_alone _ _ _ _ _ _ _ _ _ _ (returns-in_err-found-clause-plan g c)

pub returns-in_err-store_all-clause-alone : goal.returns-in_err-store_all-clause-alone
returns-in_err-store_all-clause-alone g c = store_alone _ _ _ _ _ _ _ _ _ _ (returns-in_err-store_all-clause-plan g c)

pub returns-clause-alone : goal.returns-clause-alone
returns-clause-alone g c = store_alone _ _ _ _ _ _ _ _ _ _ (returns-clause-plan g c)

pub returns-in_err-place-clause-steps : goal.returns-in_err-place-clause-steps
returns-in_err-place-clause-steps g c = λ few. store_promises _ few _ _ _ _ _ (returns-in_err-place-clause-plan g c)

pub returns-in_err-names-clause-steps : goal.returns-in_err-names-clause-steps
returns-in_err-names-clause-steps g c = λ few. store_promises _ few _ _ _ _ _ (returns-in_err-names-clause-plan g c)

pub returns-in_err-text-clause-steps : goal.returns-in_err-text-clause-steps
returns-in_err-text-clause-steps g c = λ few. store_promises _ few _ _ _ _ _ (returns-in_err-text-clause-plan g c)

pub returns-in_err-found-clause-steps : goal.returns-in_err-found-clause-steps
returns-in_err-found-clause-steps g c = λ few. store_promises _ few _ _ _ _ _ (returns-in_err-found-clause-plan g c)

pub returns-in_err-store_all-clause-steps : goal.returns-in_err-store_all-clause-steps
returns-in_err-store_all-clause-steps g c = λ few. store_promises _ few _ _ _ _ _ (returns-in_err-store_all-clause-plan g c)

pub returns-clause-steps : goal.returns-clause-steps
returns-clause-steps g c = λ few. store_promises _ few _ _ _ _ _ (returns-clause-plan g c)
