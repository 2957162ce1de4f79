-- What messages that go to other folders show of the mailbox.
use Rattle.std.proofs.Common.{◌≡◌, ℕ, ◌<◌, ◌^◌, ◌∷◌, ◌==◌, ◌&&◌, [], suc, Bool, true, false, List, Option, Some, None, refl, sym, ◌∙◌, ap, subst, bytes_eq, nat_lt}
use Rattle.std.specs.Prelude.{decimal, if◌then◌else◌}
use Rattle.std.proofs.lemmas.Bool.Decides.{Decides-ltb}
use Rattle.mh_base.specs.Entries.{entry_text, kind_of}
use Rattle.mh_base.specs.Numbers.{IsMsgNum}
use Rattle.mh_base.specs.declared.entry.Entry.TheVariants.{Backup, Held, Number, Sequences}
use Rattle.mh_base.proofs.EntryKinds.{kind_of-entry_text}
use Rattle.folder_files.specs.Named.{is_held}
use Rattle.folder_files.specs.Places.{same_place}
use Rattle.folder_files.specs.declared.place.Place.{Place}
use Rattle.folder_files.specs.declared.place.Place.TheVariants.{Folder}
use Rattle.folder_files.proofs.Names.{both, bytes_true, not_both, num_same}
use Rattle.folder_files.proofs.Sameness.{place_is}
use Rattle.file_plans.specs.Contents.{Contents, folder_at, mailbox_in, with_text}
use Rattle.file_plans.specs.MailboxChanges.{with_message}
use Rattle.file_plans.specs.Mailboxes.{is_message_number, numbered}
use Rattle.file_plans.proofs.Existing.{bytes_turned}
use Rattle.file_plans.proofs.Showing.{context_no_number, foreign, is_number_of, message_at, number_ok, numbered_same, shows_message}
use Rattle.step_plans.specs.ContextCommit.{context_name}
use Rattle.held_messages.specs.HeldPairs.{held_name, is_pair, with_folder_changed}
use Rattle.held_messages.specs.declared.held.HeldPair.{HeldPair}
use Rattle.held_messages.proofs.ListedPairs.{same_name}
use Rattle.held_messages.proofs.Shown.{shows_folder}
use Rattle.message_moves.specs.RefiledAlone.{copied_in, next_of}
use Rattle.message_moves.specs.declared.destination.Destination.{Destination}
use Rattle.refile_plans.specs.MailMoved.{message_of, with_aside, with_copies}
use Rattle.refile_plans.proofs.Roomy.{AreRoomy, all_kept, next_number}

-- a message that stands at a number of a folder that is there shows there
pub message_shown : (c : Contents) (path name : List ℕ) (n : ℕ) → c.there (Folder path name) ≡ true → IsMsgNum n → message_of ((mailbox_in c).folders (Folder path name)) n ≡ c.texts (Folder path name) (decimal n)
unfolding mailbox_in entry_text
message_shown c path name n there ok = rw (there, is_number_of n ok) refl

module _ (path : List ℕ) (bytes : List ℕ) where
  -- a copy in each of these
  pub shows_copies : (to : List Destination) (c : Contents) (count : ℕ) → AreRoomy path c to (suc count) → mailbox_in (copied_in c bytes to) ≡ with_copies (mailbox_in c) bytes to
  unfolding copied_in with_copies
  shows_copies [] c count r = refl
  shows_copies (to ∷ others) c count r =
      shows_copies others (with_text c to.place (decimal (next_of to)) (Some bytes)) count (all_kept path c to.place (decimal (next_of to)) (Some bytes) others (suc count) r.1 r.2)
      ∙ ap (λ m. with_copies m bytes others) one
    where
      one : mailbox_in (with_text c to.place (decimal (next_of to)) (Some bytes)) ≡ with_message (mailbox_in c) to.place (next_of to) bytes
      one =
          subst (λ q. mailbox_in (with_text c q (decimal (next_of to)) (Some bytes)) ≡ with_message (mailbox_in c) q (next_of to) bytes) (sym r.0.place)
          (shows_message (next_of to) (next_number path c to count r.0) c path to.folder bytes)

-- a message that no longer stands at its number, and this under the run's held name of it
module _ (run : ℕ) (few : run < 2 ^ 128) (path name : List ℕ) (n : ℕ) (ok : IsMsgNum n) (s : Option (List ℕ)) (c : Contents) where
  abbrev p : Place
  p = Folder path name

  abbrev h : HeldPair
  h = record { run = run; number = n }

  abbrev held : List ℕ
  held = held_name h

  abbrev gone : Contents
  gone = with_text c p (decimal n) None

  abbrev new : Contents
  new = with_text gone p held s

  -- by the names
  new_is : with_text (with_text c p (entry_text (Number n)) None) p (entry_text (Held run n)) s ≡ new
  unfolding entry_text
  new_is = refl

  -- what each name of the folder leads to
  text_at : (x : List ℕ) → new.texts p x ≡ (if bytes_eq held x then s else (if bytes_eq (decimal n) x then None else c.texts p x))
  text_at x = rw (place_is p) refl

  -- a held name is no name of any other kind
  pub held_number : (k : ℕ) → IsMsgNum k → bytes_eq held (decimal k) ≡ false
  held_number k good = bytes_turned (decimal k) held (foreign k good held (rw (kind_of-entry_text (Held run n) (few, ok)) refl))

  held_backup : (k : ℕ) → bytes_eq held (entry_text (Backup k)) ≡ false
  unfolding entry_text
  held_backup k = refl

  held_sequences : bytes_eq held (entry_text Sequences) ≡ false
  unfolding entry_text
  held_sequences = refl

  held_context : bytes_eq held context_name ≡ false
  unfolding entry_text
  held_context = refl

  -- other names of the folder
  other_at : (x : List ℕ) → bytes_eq held x ≡ false → bytes_eq (decimal n) x ≡ false → new.texts p x ≡ c.texts p x
  other_at x e f = text_at x ∙ rw (e, f) refl

  -- the messages
  messages_at : (k : ℕ) → numbered k (new.texts p (decimal k)) ≡ (if n == k then None else numbered k (c.texts p (decimal k)))
  messages_at k =
      numbered_same k (new.texts p (decimal k)) (if bytes_eq (decimal n) (decimal k) then None else c.texts p (decimal k)) (λ good. text_at (decimal k) ∙ rw (held_number k good) refl)
      ∙ message_at n ok k None (c.texts p (decimal k))

  -- a run and a number that are no run's or no message's are another pair
  other_run : (r k : ℕ) → nat_lt r (2 ^ 128) ≡ false → is_pair r k h ≡ false
  other_run r k e = go ((run == r) && (n == k)) refl
    where
      go : (b : Bool) → (run == r) && (n == k) ≡ b → b ≡ false
      go true f = absurd (let same : run ≡ r = num_same run r (both (run == r) (n == k) f).0 in let no : true ≡ false = sym ((Decides-ltb r (2 ^ 128)).1 (subst (λ x. x < 2 ^ 128) same few)) ∙ e in cc (no))
      go false f = refl

  other_number : (r k : ℕ) → is_message_number k ≡ false → is_pair r k h ≡ false
  other_number r k e = go ((run == r) && (n == k)) refl
    where
      go : (b : Bool) → (run == r) && (n == k) ≡ b → b ≡ false
      go true f = absurd (let same : n ≡ k = num_same n k (both (run == r) (n == k) f).1 in let no : true ≡ false = sym (is_number_of n ok) ∙ (ap is_message_number same ∙ e) in cc (no))
      go false f = refl

  -- what is held aside
  held_at : (r k : ℕ) → (if nat_lt r (2 ^ 128) then numbered k (new.texts p (entry_text (Held r k))) else None) ≡ (if is_pair r k h then s else (if nat_lt r (2 ^ 128) then numbered k (c.texts p (entry_text (Held r k))) else None))
  held_at r k = go (nat_lt r (2 ^ 128)) refl (is_message_number k) refl
    where
      go : (u : Bool) → nat_lt r (2 ^ 128) ≡ u → (v : Bool) → is_message_number k ≡ v
          → (if u then (if v then new.texts p (entry_text (Held r k)) else None) else None) ≡ (if is_pair r k h then s else (if u then (if v then c.texts p (entry_text (Held r k)) else None) else None))
      go true e true f =
          text_at (entry_text (Held r k))
          ∙ (rw (foreign n ok (entry_text (Held r k)) (rw (kind_of-entry_text (Held r k) ((Decides-ltb r (2 ^ 128)).0 e, number_ok k f)) refl)) refl ∙ ap (λ b. if b then s else c.texts p (entry_text (Held r k))) (same_name h (few, ok) r k ((Decides-ltb r (2 ^ 128)).0 e) (number_ok k f)))
      go true e false f = rw (other_number r k f) refl
      go false e v f = rw (other_run r k e) refl

  -- the folder
  folder_aside : folder_at new p ≡ with_aside run n s (folder_at c p)
  unfolding entry_text
  folder_aside = λ i. record {
    messages = λ k. messages_at k i;
    removed = λ k. numbered_same k (new.texts p (entry_text (Backup k))) (c.texts p (entry_text (Backup k))) (λ good. other_at (entry_text (Backup k)) (held_backup k) (foreign n ok (entry_text (Backup k)) (rw (kind_of-entry_text (Backup k) good) refl))) i;
    held = λ r k. held_at r k i;
    sequences = other_at (entry_text Sequences) held_sequences (foreign n ok (entry_text Sequences) (rw (kind_of-entry_text Sequences tt) refl)) i;
  }

  -- the mailbox
  pub shows_aside : mailbox_in (with_text (with_text c p (entry_text (Number n)) None) p (entry_text (Held run n)) s) ≡ with_folder_changed (mailbox_in c) p (with_aside run n s)
  shows_aside = ap mailbox_in new_is ∙ shows_folder c new path name (with_aside run n s) (λ q. refl) folder_aside (λ q x e. rw e refl) (other_at context_name held_context (foreign n ok context_name context_no_number)) refl

  -- other names lead to what they led to
  pub aside_other : (q : Place) (x : List ℕ) → bytes_eq held x ≡ false → bytes_eq (decimal n) x ≡ false → (with_text (with_text c p (entry_text (Number n)) None) p (entry_text (Held run n)) s).texts q x ≡ c.texts q x
  aside_other q x e f = ap (λ d. d.texts q x) new_is ∙ go (same_place p q)
    where
      go : (b : Bool) → (if b && bytes_eq held x then s else (if b && bytes_eq (decimal n) x then None else c.texts q x)) ≡ c.texts q x
      go true = rw (e, f) refl
      go false = refl

  -- a name of another kind
  pub held_other : (x : List ℕ) → is_held (kind_of x) ≡ false → bytes_eq held x ≡ false
  held_other x isnt = go (bytes_eq held x) refl
    where
      go : (b : Bool) → bytes_eq held x ≡ b → b ≡ false
      go true e = absurd (not_both (is_held (kind_of x)) (ap (λ z. is_held (kind_of z)) (sym (bytes_true held x e)) ∙ rw (kind_of-entry_text (Held run n) (few, ok)) refl) isnt)
      go false e = refl
