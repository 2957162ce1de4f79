-- Messages that go to other folders leave the context's entries as they are.
use Rattle.std.proofs.Common.{◌≡◌, ◌∷◌, [], ℕ, Bool, true, false, List, Option, Some, None, refl, map, length, nat_lt}
use Rattle.std.specs.Prelude.{if◌then◌else◌}
use Rattle.mh_profile.specs.declared.named_value.NamedValue.{NamedValue}
use Rattle.folder_files.specs.declared.place.Place.{Place}
use Rattle.step_plans.specs.ContextCommit.{LIMIT_BYTES}
use Rattle.opening_plans.specs.Kept.{Commits, Kept, kept_of, too_long}
use Rattle.message_moves.specs.RefiledAlone.{raised}
use Rattle.message_moves.specs.declared.destination.Destination.{Destination}
use Rattle.refile_plans.specs.MailMoved.{Moves, mail_moved, message_of, where_message}

-- whether there is a message or none
pub where_entries : (entries : List NamedValue) (o : Option (List ℕ)) (without : Commits) (next : List ℕ → Commits) → without.kept.entries ≡ entries → ((b : List ℕ) → (next b).kept.entries ≡ entries) → (where_message o without next).kept.entries ≡ entries
where_entries entries None without next f g = f
where_entries entries (Some b) without next f g = g b

-- whether it is too long or not
if_entries : (entries : List NamedValue) (b : Bool) (c d : Commits) → c.kept.entries ≡ entries → d.kept.entries ≡ entries → (if b then c else d).kept.entries ≡ entries
if_entries entries true c d f g = f
if_entries entries false c d f g = g

-- whatever goes
pub moved_entries : (moves : Moves) (p : Place) (ns : List ℕ) (to : List Destination) (k : Kept) → (mail_moved moves p ns to k).kept.entries ≡ k.entries
unfolding mail_moved
moved_entries moves p [] to k = refl
moved_entries moves p (n ∷ ns) to k =
    where_entries k.entries (message_of (k.mailbox.folders p) n) (mail_moved moves p ns to k)
    (λ bytes. if nat_lt LIMIT_BYTES (length bytes) then too_long (kept_of (moves.stays n bytes k.mailbox) k.entries) (length bytes) else mail_moved moves p ns (map raised to) (kept_of (moves.goes n bytes to k.mailbox) k.entries)) (moved_entries moves p ns to k)
    (λ bytes. if_entries k.entries (nat_lt LIMIT_BYTES (length bytes)) (too_long (kept_of (moves.stays n bytes k.mailbox) k.entries) (length bytes)) (mail_moved moves p ns (map raised to) (kept_of (moves.goes n bytes to k.mailbox) k.entries)) refl (moved_entries moves p ns (map raised to) (kept_of (moves.goes n bytes to k.mailbox) k.entries)))
