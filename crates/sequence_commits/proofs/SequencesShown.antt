-- A new text of a folder's sequences shows as that, and nothing else changes.
use Rattle.std.proofs.Common.{◌≡◌, ◌&&◌, ℕ, Bool, true, false, List, Some, None, refl, sym, ◌∙◌, ap, bytes_eq}
use Rattle.std.specs.Prelude.{option_map, if◌then◌else◌}
use Rattle.mh_base.specs.Entries.{IsEntry, kind_of, entry_text}
use Rattle.mh_base.specs.declared.entry.Entry.{Entry}
use Rattle.mh_base.specs.declared.entry.Entry.TheVariants.{Number, Backup, Held, Sequences}
use Rattle.mh_base.proofs.EntryKinds.{kind_of-entry_text}
use Rattle.folder_files.specs.Named.{is_sequences, is_temp}
use Rattle.folder_files.specs.Places.{same_place, is_folder}
use Rattle.folder_files.specs.declared.place.Place.{Place}
use Rattle.folder_files.specs.declared.place.Place.TheVariants.{Home, Work, Folder}
use Rattle.folder_files.proofs.Names.{bytes_true, bytes_self, not_both}
use Rattle.file_plans.specs.Contents.{Contents, mailbox_in, folder_at, with_text}
use Rattle.file_plans.specs.Mailboxes.{where_mail}
use Rattle.file_plans.proofs.Showing.{numbered_same, held_same}
use Rattle.sequence_commits.specs.SequencesChanged.{folder_with_sequences, with_sequences_text}
use Rattle.sequence_commits.proofs.SequencesPledged.{sequences_name}
use Rattle.step_plans.specs.ContextCommit.{context_name}

sequences_kind : kind_of sequences_name ≡ Sequences
sequences_kind = kind_of-entry_text Sequences tt

-- the name is that of no temporary file, nor the context's
pub sequences_no_temp : is_temp (kind_of sequences_name) ≡ false
sequences_no_temp = ap is_temp sequences_kind

pub context_apart : bytes_eq sequences_name context_name ≡ false
unfolding entry_text
context_apart = refl

-- a name of another kind is another
other_kind : (x : List ℕ) → is_sequences (kind_of x) ≡ false → bytes_eq sequences_name x ≡ false
other_kind x isnt = go (bytes_eq sequences_name x) refl
  where
    go : (v : Bool) → bytes_eq sequences_name x ≡ v → v ≡ false
    go true e = absurd (not_both (is_sequences (kind_of x)) (ap (λ z. is_sequences (kind_of z)) (sym (bytes_true sequences_name x e)) ∙ ap is_sequences sequences_kind) isnt)
    go false e = refl

module _ (c : Contents) (path name text : List ℕ) where
  abbrev p : Place
  p = Folder path name

  abbrev new : Contents
  new = with_text c p sequences_name (Some text)

  apart : (q : Place) (x : List ℕ) → bytes_eq sequences_name x ≡ false → new.texts q x ≡ c.texts q x
  apart q x e = go (same_place p q)
    where
      go : (s : Bool) → (if s && bytes_eq sequences_name x then Some text else c.texts q x) ≡ c.texts q x
      go true = rw e refl
      go false = refl

  other : (q : Place) (e : Entry) → IsEntry e → is_sequences e ≡ false → new.texts q (entry_text e) ≡ c.texts q (entry_text e)
  other q e ok isnt = apart q (entry_text e) (other_kind (entry_text e) (ap is_sequences (kind_of-entry_text e ok) ∙ isnt))

  here : (q : Place) → same_place p q ≡ true → folder_at new q ≡ folder_with_sequences text (folder_at c q)
  here q s = λ i. record {
    messages = λ k. numbered_same k (new.texts q (entry_text (Number k))) (c.texts q (entry_text (Number k))) (λ o. other q (Number k) o refl) i;
    removed = λ k. numbered_same k (new.texts q (entry_text (Backup k))) (c.texts q (entry_text (Backup k))) (λ o. other q (Backup k) o refl) i;
    held = λ r k. held_same r k (new.texts q (entry_text (Held r k))) (c.texts q (entry_text (Held r k))) (λ l o. other q (Held r k) (l, o) refl) i;
    sequences = written i;
  }
    where
      written : new.texts q sequences_name ≡ Some text
      written = rw (s, bytes_self sequences_name) refl

  elsewhere : (q : Place) → same_place p q ≡ false → folder_at new q ≡ folder_at c q
  elsewhere q s = λ i. record {
    messages = λ k. numbered_same k (new.texts q (entry_text (Number k))) (c.texts q (entry_text (Number k))) (λ o. other q (Number k) o refl) i;
    removed = λ k. numbered_same k (new.texts q (entry_text (Backup k))) (c.texts q (entry_text (Backup k))) (λ o. other q (Backup k) o refl) i;
    held = λ r k. held_same r k (new.texts q (entry_text (Held r k))) (c.texts q (entry_text (Held r k))) (λ l o. other q (Held r k) (l, o) refl) i;
    sequences = kept i;
  }
    where
      kept : new.texts q sequences_name ≡ c.texts q sequences_name
      kept = rw s refl

  each_folder : (q : Place) (f v s : Bool) → same_place p q ≡ s
      → (if f then (if v then Some (folder_at new q) else None) else None)
      ≡ (if s then option_map (folder_with_sequences text) (if f then (if v then Some (folder_at c q) else None) else None) else (if f then (if v then Some (folder_at c q) else None) else None))
  each_folder q true true true e = ap Some (here q e)
  each_folder q true true false e = ap Some (elsewhere q e)
  each_folder q true false true e = refl
  each_folder q true false false e = refl
  each_folder q false v true e = refl
  each_folder q false v false e = refl

  pub shows_sequences : mailbox_in new ≡ with_sequences_text (mailbox_in c) p text
  unfolding mailbox_in
  shows_sequences = λ i. record {
    folders = λ q. each_folder q (is_folder q) (c.there q) (same_place p q) refl i;
    home = λ x. c.texts Home x;
    work = λ x. c.texts Work x;
    context = λ q. where_mail q (apart q context_name context_apart i);
    outside = c.outside;
  }
