use Rattle.std.proofs.Common.{refl}
use Rattle.file_plans.proofs.Following.{go, no_room, stop}
use Rattle.command_stages.proofs.Values.{seen_off, seen_on}
use Rattle.draft_contents.specs.Forwards.{chosen_seen}
use Rattle.draft_contents.specs.Messages.{messages_given}
use Rattle.draft_contents.proofs.messages.give_messages.Goals as goal
use Rattle.mh_profile.specs.Reading.{entries_seen}

pub returns-in_err-place : goal.returns-in_err-place
returns-in_err-place g c = no_room _ c.from_residual.ensures refl

pub returns-in_err-names : goal.returns-in_err-names
unfolding messages_given
returns-in_err-names g c = stop _ (rw (c.in_ok-place.ensures, c.run.ensures) at (c.in_err-names.ensures c.args.hand.now.kept)) c.from_residual-in_err-names.ensures

pub returns-in_err-text : goal.returns-in_err-text
unfolding messages_given
returns-in_err-text g c =
    go _ (rw (c.in_ok-place.ensures, c.run.ensures) at (c.in_ok-names.ensures c.args.hand.now.kept))
    (stop _ (rw (c.in_ok-place.ensures, c.run-2.ensures) at (c.in_err-text.ensures c.args.hand.now.kept)) c.from_residual-in_err-text.ensures)

pub returns-in_err-found : goal.returns-in_err-found
unfolding messages_given
returns-in_err-found g c =
    go _ (rw (c.in_ok-place.ensures, c.run.ensures) at (c.in_ok-names.ensures c.args.hand.now.kept))
    (go _ (rw (c.in_ok-place.ensures, c.run-2.ensures) at (c.in_ok-text.ensures c.args.hand.now.kept))
    (seen_off _ (λ h. chosen_seen c.args.forwarding.now.negation c.args.folder.now c.args.specs.now c.in_ok-names.names c.in_ok-text.text (entries_seen h.context)) _ _ (rw c.as_slice.ensures at c.in_err-found.ensures) c.from_residual-in_err-found.ensures))

pub returns : goal.returns
unfolding messages_given
returns g c =
    go _ (rw (c.in_ok-place.ensures, c.run.ensures) at (c.in_ok-names.ensures c.args.hand.now.kept))
    (go _ (rw (c.in_ok-place.ensures, c.run-2.ensures) at (c.in_ok-text.ensures c.args.hand.now.kept))
    (seen_on _ (λ h. chosen_seen c.args.forwarding.now.negation c.args.folder.now c.args.specs.now c.in_ok-names.names c.in_ok-text.text (entries_seen h.context)) _ (rw c.as_slice.ensures at c.in_ok-found.ensures)
    (rw (c.in_ok-place.ensures, c.run-3.ensures, c.as_slice-2.ensures.value) at (c.read_messages.ensures c.args.hand.now.kept))))
