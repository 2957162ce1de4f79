use Rattle.std.proofs.Common.{refl}
use Rattle.file_plans.proofs.Following.{go, no_room, stop, whole}
use Rattle.command_stages.proofs.Values.{seen_off, seen_on}
use Rattle.mhlist_plans.specs.Listing.{chosen_seen, mhlist}
use Rattle.mhlist_plans.proofs.ListAlone.{list_alone}
use Rattle.mhlist_plans.proofs.ListPledged.{list_promises}
use Rattle.mhlist_command.proofs.looking.mhlist.Goals as goal
use Rattle.mh_profile.specs.Reading.{entries_seen}

pub returns-in_err-place-clause-plan : goal.returns-in_err-place-clause-plan
returns-in_err-place-clause-plan g c = no_room _ c.from_residual.ensures refl

pub returns-in_err-names-clause-plan : goal.returns-in_err-names-clause-plan
unfolding mhlist
returns-in_err-names-clause-plan g c = stop _ (whole (rw (c.in_ok-place.ensures, c.run.ensures) at (c.in_err-names.ensures c.args.hand.now.kept))) c.from_residual-in_err-names.ensures

pub returns-in_err-text-clause-plan : goal.returns-in_err-text-clause-plan
unfolding mhlist
returns-in_err-text-clause-plan g c =
    go _ (whole (rw (c.in_ok-place.ensures, c.run.ensures) at (c.in_ok-names.ensures c.args.hand.now.kept)))
    (stop _ (whole (rw (c.in_ok-place.ensures, c.run-2.ensures) at (c.in_err-text.ensures c.args.hand.now.kept))) c.from_residual-in_err-text.ensures)

pub returns-in_err-found-clause-plan : goal.returns-in_err-found-clause-plan
unfolding mhlist
returns-in_err-found-clause-plan g c =
    go _ (whole (rw (c.in_ok-place.ensures, c.run.ensures) at (c.in_ok-names.ensures c.args.hand.now.kept)))
    (go _ (whole (rw (c.in_ok-place.ensures, c.run-2.ensures) at (c.in_ok-text.ensures c.args.hand.now.kept)))
    (seen_off _ (λ h. chosen_seen c.args.job.now c.in_ok-names.names c.in_ok-text.text (entries_seen h.context)) _ _ (rw c.as_slice.ensures at c.in_err-found.ensures) c.from_residual-in_err-found.ensures))

pub returns-in_err-say_header-clause-plan : goal.returns-in_err-say_header-clause-plan
unfolding mhlist
returns-in_err-say_header-clause-plan g c =
    go _ (whole (rw (c.in_ok-place.ensures, c.run.ensures) at (c.in_ok-names.ensures c.args.hand.now.kept)))
    (go _ (whole (rw (c.in_ok-place.ensures, c.run-2.ensures) at (c.in_ok-text.ensures c.args.hand.now.kept)))
    (seen_on _ (λ h. chosen_seen c.args.job.now c.in_ok-names.names c.in_ok-text.text (entries_seen h.context)) _ (rw c.as_slice.ensures at c.in_ok-found.ensures)
    (stop _ (c.in_err-say_header.ensures c.args.hand.now.run c.args.hand.now.kept (g.F.Files.state c.read_sequences_text.new.files)) c.from_residual-in_err-say_header.ensures)))

pub returns-in_err-list_all-clause-plan : goal.returns-in_err-list_all-clause-plan
unfolding mhlist
returns-in_err-list_all-clause-plan g c =
    go _ (whole (rw (c.in_ok-place.ensures, c.run.ensures) at (c.in_ok-names.ensures c.args.hand.now.kept)))
    (go _ (whole (rw (c.in_ok-place.ensures, c.run-2.ensures) at (c.in_ok-text.ensures c.args.hand.now.kept)))
    (seen_on _ (λ h. chosen_seen c.args.job.now c.in_ok-names.names c.in_ok-text.text (entries_seen h.context)) _ (rw c.as_slice.ensures at c.in_ok-found.ensures)
    (go _ (c.in_ok-say_header.ensures c.args.hand.now.run c.args.hand.now.kept (g.F.Files.state c.read_sequences_text.new.files))
    (stop _ (rw (c.in_ok-place.ensures, c.run-3.ensures, c.as_slice-2.ensures, c.as_slice-3.ensures.value) at (c.in_err-list_all.ensures c.args.hand.now.kept)) c.from_residual-in_err-list_all.ensures))))

pub returns-clause-plan : goal.returns-clause-plan
unfolding mhlist
returns-clause-plan g c =
    go _ (whole (rw (c.in_ok-place.ensures, c.run.ensures) at (c.in_ok-names.ensures c.args.hand.now.kept)))
    (go _ (whole (rw (c.in_ok-place.ensures, c.run-2.ensures) at (c.in_ok-text.ensures c.args.hand.now.kept)))
    (seen_on _ (λ h. chosen_seen c.args.job.now c.in_ok-names.names c.in_ok-text.text (entries_seen h.context)) _ (rw c.as_slice.ensures at c.in_ok-found.ensures)
    (go _ (c.in_ok-say_header.ensures c.args.hand.now.run c.args.hand.now.kept (g.F.Files.state c.read_sequences_text.new.files))
    (go _ (rw (c.in_ok-place.ensures, c.run-3.ensures, c.as_slice-2.ensures, c.as_slice-3.ensures.value) at (c.in_ok-list_all.ensures c.args.hand.now.kept)) (whole c.make_current.ensures.plan)))))

pub returns-in_err-place-clause-steps : goal.returns-in_err-place-clause-steps
returns-in_err-place-clause-steps g c = λ few. list_promises _ few _ _ _ _ _ (returns-in_err-place-clause-plan g c)

pub returns-in_err-names-clause-steps : goal.returns-in_err-names-clause-steps
returns-in_err-names-clause-steps g c = λ few. list_promises _ few _ _ _ _ _ (returns-in_err-names-clause-plan g c)

pub returns-in_err-text-clause-steps : goal.returns-in_err-text-clause-steps
returns-in_err-text-clause-steps g c = λ few. list_promises _ few _ _ _ _ _ (returns-in_err-text-clause-plan g c)

pub returns-in_err-found-clause-steps : goal.returns-in_err-found-clause-steps
returns-in_err-found-clause-steps g c = λ few. list_promises _ few _ _ _ _ _ (returns-in_err-found-clause-plan g c)

pub returns-in_err-say_header-clause-steps : goal.returns-in_err-say_header-clause-steps
returns-in_err-say_header-clause-steps g c = λ few. list_promises _ few _ _ _ _ _ (returns-in_err-say_header-clause-plan g c)

pub returns-in_err-list_all-clause-steps : goal.returns-in_err-list_all-clause-steps
returns-in_err-list_all-clause-steps g c = λ few. list_promises _ few _ _ _ _ _ (returns-in_err-list_all-clause-plan g c)

pub returns-clause-steps : goal.returns-clause-steps
returns-clause-steps g c = λ few. list_promises _ few _ _ _ _ _ (returns-clause-plan g c)

pub returns-in_err-place-clause-alone : goal.returns-in_err-place-clause-alone
returns-in_err-place-clause-alone g c = list_alone _ _ _ _ _ _ _ _ _ _ (returns-in_err-place-clause-plan g c)

pub returns-in_err-names-clause-alone : goal.returns-in_err-names-clause-alone
returns-in_err-names-clause-alone g c = list_alone _ _ _ _ _ _ _ _ _ _ (returns-in_err-names-clause-plan g c)

pub returns-in_err-text-clause-alone : goal.returns-in_err-text-clause-alone
returns-in_err-text-clause-alone g c = list_alone _ _ _ _ _ _ _ _ _ _ (returns-in_err-text-clause-plan g c)

pub returns-in_err-found-clause-alone : goal.returns-in_err-found-clause-alone
returns-in_err-found-clause-alone g c = list_alone _ _ _ _ _ _ _ _ _ _ (returns-in_err-found-clause-plan g c)

pub returns-in_err-say_header-clause-alone : goal.returns-in_err-say_header-clause-alone
returns-in_err-say_header-clause-alone g c = list_alone _ _ _ _ _ _ _ _ _ _ (returns-in_err-say_header-clause-plan g c)

pub returns-in_err-list_all-clause-alone : goal.returns-in_err-list_all-clause-alone
returns-in_err-list_all-clause-alone g c = list_alone _ _ _ _ _ _ _ _ _ _ (returns-in_err-list_all-clause-plan g c)

pub returns-clause-alone : goal.returns-clause-alone
returns-clause-alone g c = list_alone _ _ _ _ _ _ _ _ _ _ (returns-clause-plan g c)
