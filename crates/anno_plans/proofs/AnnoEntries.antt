-- Messages that get lines leave the context's entries as they are.
use Rattle.std.proofs.Common.{◌≡◌, ◌++◌, ◌∷◌, [], ℕ, Bool, true, false, List, refl, length, nat_lt}
use Rattle.std.specs.Prelude.{if◌then◌else◌}
use Rattle.mh_profile.specs.declared.named_value.NamedValue.{NamedValue}
use Rattle.folder_files.specs.declared.place.Place.{Place}
use Rattle.step_plans.specs.ContextCommit.{LIMIT_BYTES}
use Rattle.opening_plans.specs.Kept.{Commits, Kept, kept_of}
use Rattle.refile_plans.specs.MailMoved.{message_of}
use Rattle.refile_plans.proofs.MovedEntries.{where_entries}
use Rattle.anno_plans.specs.AnnoOutcome.{held_long, mail_noted, with_noted}

two_entries : (entries : List NamedValue) (u v : Bool) (a b c : Commits) → a.kept.entries ≡ entries → b.kept.entries ≡ entries → c.kept.entries ≡ entries → (if u then a else (if v then b else c)).kept.entries ≡ entries
two_entries entries true v a b c f g h = f
two_entries entries false true a b c f g h = g
two_entries entries false false a b c f g h = h

module _ (run : ℕ) (p : Place) (lines : List ℕ) where
  abbrev pub by_length : ℕ → List ℕ → Kept → List ℕ → Commits
  by_length n ns k bytes =
      if nat_lt LIMIT_BYTES (length bytes) then held_long run p n bytes (length bytes) k
      else (if nat_lt LIMIT_BYTES (length (lines ++ bytes)) then held_long run p n bytes (length (lines ++ bytes)) k
      else mail_noted run p lines ns (kept_of (with_noted run p n (lines ++ bytes) k.mailbox) k.entries))

  pub noted_entries : (ns : List ℕ) (k : Kept) → (mail_noted run p lines ns k).kept.entries ≡ k.entries
  unfolding mail_noted
  noted_entries [] k = refl
  noted_entries (n ∷ ns) k =
      where_entries k.entries (message_of (k.mailbox.folders p) n) (mail_noted run p lines ns k) (by_length n ns k) (noted_entries ns k)
      (λ bytes.
      two_entries k.entries (nat_lt LIMIT_BYTES (length bytes)) (nat_lt LIMIT_BYTES (length (lines ++ bytes))) (held_long run p n bytes (length bytes) k) (held_long run p n bytes (length (lines ++ bytes)) k)
      (mail_noted run p lines ns (kept_of (with_noted run p n (lines ++ bytes) k.mailbox) k.entries)) refl refl (noted_entries ns (kept_of (with_noted run p n (lines ++ bytes) k.mailbox) k.entries)))
