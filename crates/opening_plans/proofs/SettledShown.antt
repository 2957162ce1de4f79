-- What the contents of a folder that was settled alone show.
use Rattle.std.proofs.Common.{◌≡◌, inl, inr, ◌<◌, ◌≤◌, ◌^◌, ◌||◌, ◌==◌, ◌∷◌, ℕ, Bool, true, false, List, [], Option, None, Some, refl, sym, ◌∙◌, ap, subst}
use Rattle.std.specs.Prelude.{is_some, if◌then◌else◌}
use Rattle.mh_base.specs.Entries.{entry_text, kind_of}
use Rattle.mh_base.specs.declared.entry.Entry.TheVariants.{Number, Sequences}
use Rattle.std.proofs.lemmas.Bool.Decides.{Decides-eqb}
use Rattle.mh_base.proofs.EntryKinds.{kind_of-entry_text}
use Rattle.mh_profile.specs.Reading.{entries_in}
use Rattle.mh_sequences.specs.Runs.{has}
use Rattle.folder_files.specs.Named.{is_temp}
use Rattle.folder_files.specs.Standing.{is_standing}
use Rattle.folder_files.specs.declared.place.Place.{Place}
use Rattle.folder_files.specs.declared.place.Place.TheVariants.{Folder, Mail}
use Rattle.folder_files.proofs.Sameness.{place_is}
use Rattle.file_plans.specs.Contents.{Contents, IsListingIn, filled, folder_at, mailbox_in, with_folder}
use Rattle.file_plans.specs.Mailboxes.{Folder as FolderValue, is_message_number, numbered}
use Rattle.file_plans.specs.Sightings.{has_number}
use Rattle.file_plans.proofs.Showing.{number_ok, shows_cleared, shows_made}
use Rattle.step_plans.specs.ContextCommit.{context_name}
use Rattle.step_plans.proofs.Committed.{entries_at}
use Rattle.held_messages.specs.declared.held.HeldPair.{HeldPair}
use Rattle.held_messages.specs.HeldPairs.{AreHeld, held_pairs, homes, is_in_ends, settled, with_folder_changed}
use Rattle.held_messages.specs.Highest.{IsTop, highest}
use Rattle.held_messages.specs.Settle.{Settled, settled_in}
use Rattle.held_messages.proofs.Homecoming.{AreEnds}
use Rattle.held_messages.proofs.Numbers.{folder_all_held, settled_numbers}
use Rattle.held_messages.proofs.ListedPairs.{AreApart, ArePairs, are_apart, are_pairs, pairs_listed, pairs_ordered}
use Rattle.held_messages.proofs.Shown.{shows_settled}
use Rattle.held_messages.proofs.Telling.{TellsHeld, folder_holds, folder_top, highest_small, plain_settled, taken_in}
use Rattle.held_messages.proofs.Tops.{list_told}
use Rattle.sequence_commits.specs.RunsOfAll.{runs_of_all}
use Rattle.sequence_commits.proofs.RunTests.{all_has, all_runs, none_outside}
use Rattle.sequence_commits.proofs.SequencesPledged.{sequences_name}
use Rattle.opening_plans.specs.Existing.{are_tried, exists_in, numbers_settled}
use Rattle.opening_plans.proofs.FolderGiven.{begun_contents}
use Rattle.opening_plans.proofs.ExistingNumbers.{in_range_or}
use Rattle.opening_plans.proofs.TriedAlone.{tried_alone}

-- the folder's text is no temporary name, and stands apart from messages
text_plain : is_temp (kind_of sequences_name) ≡ false
text_plain = rw (kind_of-entry_text Sequences tt) refl

text_quiet : is_standing sequences_name ≡ false
text_quiet = rw (kind_of-entry_text Sequences tt) refl

pub there_shown : (c : Contents) (p : Place) (b : Bool) → b ≡ true → (if b then Some (folder_at c p) else None) ≡ Some (folder_at c p)
there_shown c p true e = refl
there_shown c p false e = cc (e)

none_numbered : (n : ℕ) (t : Option (List ℕ)) → (1 ≤ n → n ≤ 999999 → ⊥) → is_some (numbered n t) ≡ false
none_numbered n t out = go (is_message_number n) refl
  where
    go : (b : Bool) → is_message_number n ≡ b → is_some (if b then t else None) ≡ false
    go true e = let ok = number_ok n e in absurd (out ok.0 ok.1)
    go false e = refl

-- held messages go to message numbers alone
none_ends : (n : ℕ) → (1 ≤ n → n ≤ 999999 → ⊥) → (hs : List HeldPair) (ends : List (Option ℕ)) → AreEnds hs ends → is_in_ends n ends ≡ false
unfolding is_in_ends
none_ends n out [] [] ok = refl
none_ends n out [] (end ∷ ends) ok = absurd ok
none_ends n out (h ∷ hs) [] ok = absurd ok
none_ends n out (h ∷ hs) (None ∷ ends) ok = none_ends n out hs ends ok.1
none_ends n out (h ∷ hs) (Some m ∷ ends) ok = go (m == n) refl (none_ends n out hs ends ok.1)
  where
    go : (b : Bool) → m == n ≡ b → is_in_ends n ends ≡ false → b || is_in_ends n ends ≡ false
    go true e f = let same : m ≡ n = (Decides-eqb m n).0 e in absurd (out (subst (λ k. 1 ≤ k) same ok.0.0) (subst (λ k. k ≤ 999999) same ok.0.1))
    go false e f = f

module _ (run : ℕ) (few : run < 2 ^ 128) (path folder ns : List ℕ) (c : Contents) (s : Settled) (listing : IsListingIn (with_folder c (Mail path)) (Folder path folder) s.names)
    (holds : TellsHeld (with_folder c (Mail path)) (Folder path folder) s.names) (ends_so : AreEnds (held_pairs run s.names) s.ends)
    (homes_so : s.ends ≡ homes (taken_in (with_folder c (Mail path)) (Folder path folder)) (highest s.names) (held_pairs run s.names)) where
  abbrev p : Place
  p = Folder path folder

  abbrev made : Contents
  made = with_folder c (Mail path)

  abbrev hs : List HeldPair
  hs = held_pairs run s.names

  abbrev old : FolderValue
  old = folder_at c p

  abbrev d : Contents
  d = begun_contents true ns run few path folder c s

  pub pairs_are : ArePairs hs
  pairs_are = are_pairs s.names hs (pairs_listed run s.names)

  pub apart : AreApart hs
  apart = are_apart hs pairs_are (pairs_ordered run s.names)

  -- what the contents show
  pub shows : mailbox_in d ≡ with_folder_changed (mailbox_in c) p (λ f. settled f hs s.ends)
  shows =
      shows_cleared (settled_in made p hs s.ends) p refl refl
      ∙ (shows_settled path folder hs pairs_are apart s.ends ends_so made
      ∙ ap (λ m. with_folder_changed m p (λ f. settled f hs s.ends)) (shows_made c path))

  -- the texts that were read are those of the start
  pub text_same : d.texts p sequences_name ≡ c.texts p sequences_name
  text_same = rw (place_is p, text_plain) (plain_settled made p hs s.ends sequences_name pairs_are ends_so text_quiet)

  pub context_same : d.texts (Mail path) context_name ≡ c.texts (Mail path) context_name
  unfolding mailbox_in
  context_same = ap (λ m. m.context (Mail path)) shows

  pub entries_same : entries_at d (Mail path) ≡ entries_in (filled (c.texts (Mail path) context_name))
  entries_same = ap (λ t. entries_in (filled t)) context_same

  -- the listing has just the numbers of the messages that are there then
  pub taken_same : (k : ℕ) → has_number k s.names ≡ is_some (old.messages k)
  unfolding entry_text
  taken_same k = sym (list_told made p s.names listing k)

  pub top_is : IsTop old (highest s.names)
  top_is = folder_top made p s.names listing

  pub held_are : AreHeld run old hs
  held_are = folder_holds run made p s.names holds

  numbers_then : (k : ℕ) → exists_in run s k ≡ is_some ((settled old hs s.ends).messages k)
  numbers_then k =
      ap (λ t. t || has_number k s.names) (ap (λ ends. are_tried hs ends (highest s.names) k) homes_so)
      ∙ (ap (λ t. are_tried hs alone_ends (highest s.names) k || t) (taken_same k)
      ∙ (tried_alone hs pairs_are (λ i. is_some (old.messages i)) (highest s.names) (record { above = top_is.above; attained = top_is.attained }) (highest_small s.names) k
      ∙ (ap (λ ends. is_some (old.messages k) || is_in_ends k ends) (sym homes_so)
      ∙ sym (settled_numbers old hs pairs_are apart (folder_all_held run old hs held_are) s.ends ends_so k))))
    where
      alone_ends : List (Option ℕ)
      alone_ends = homes (λ i. is_some (old.messages i)) (highest s.names) hs

  pub listing_is : (n : ℕ) → has (numbers_settled run s) n ≡ is_some ((settled old hs s.ends).messages n)
  unfolding numbers_settled
  listing_is n = elim (in_range_or n) [
    | inl l ↦ all_has (exists_in run s) n l.0 l.1 ∙ numbers_then n
    | inr out ↦ none_outside (runs_of_all (exists_in run s)) n (all_runs (exists_in run s)) out ∙ sym (nothing n out)
  ]
    where
      nothing : (n : ℕ) → (1 ≤ n → n ≤ 999999 → ⊥) → is_some ((settled old hs s.ends).messages n) ≡ false
      nothing n out =
          settled_numbers old hs pairs_are apart (folder_all_held run old hs held_are) s.ends ends_so n
          ∙ (ap (λ t. t || is_in_ends n s.ends) (none_numbered n (c.texts p (entry_text (Number n))) out) ∙ none_ends n out hs s.ends ends_so)
