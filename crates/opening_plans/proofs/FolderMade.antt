-- A folder that is made shows as an empty one.
use Rattle.std.proofs.Common.{◌≡◌, ◌||◌, ◌^◌, ℕ, Bool, true, false, List, Option, Some, None, refl, sym, ap, nat_lt}
use Rattle.std.specs.Prelude.{codes, if◌then◌else◌}
use Rattle.mh_base.specs.Entries.{entry_text}
use Rattle.mh_base.specs.declared.entry.Entry.TheVariants.{Backup, Held, Number, Sequences}
use Rattle.folder_files.specs.Places.{is_folder, is_parent, same_place}
use Rattle.folder_files.specs.declared.place.Place.{Place}
use Rattle.folder_files.specs.declared.place.Place.TheVariants.{Folder, Home, Work as WorkPlace}
use Rattle.file_plans.specs.Contents.{Contents, folder_at, mailbox_in, with_folder}
use Rattle.file_plans.specs.Mailboxes.{numbered, where_mail}
use Rattle.file_plans.proofs.EmptyFolders.{numbered_none}
use Rattle.opening_plans.specs.MadeFolder.{empty_folder, or_empty, with_folder_made}

-- no name of a folder that isn't there leads anywhere
abbrev pub AreBare : Contents → Type 0
AreBare c = (q : Place) → is_folder q ≡ true → c.there q ≡ false → (x : List ℕ) → c.texts q x ≡ None

pub held_none : (b : Bool) (n : ℕ) (o : Option (List ℕ)) → o ≡ None → (if b then numbered n o else None) ≡ None
held_none true n o e = numbered_none n o e
held_none false n o e = refl

-- a folder whose names lead nowhere is empty
pub is_empty : (c : Contents) (q : Place) → ((x : List ℕ) → c.texts q x ≡ None) → folder_at c q ≡ empty_folder
is_empty c q none = λ i. record {
  messages = λ n. numbered_none n (c.texts q (entry_text (Number n))) (none (entry_text (Number n))) i;
  removed = λ n. numbered_none n (c.texts q (entry_text (Backup n))) (none (entry_text (Backup n))) i;
  held = λ run n. held_none (nat_lt run (2 ^ 128)) n (c.texts q (entry_text (Held run n))) (none (entry_text (Held run n))) i;
  sequences = none (entry_text Sequences) i;
}

-- with the folder the mailbox is the same but for it, which is empty where it was missing
pub shows_folder_made : (c : Contents) (p : Place) → AreBare c → mailbox_in (with_folder c p) ≡ with_folder_made (mailbox_in c) p
unfolding mailbox_in
shows_folder_made c p bare = λ i. record {
  folders = λ q. each q (is_folder q) refl (same_place p q || is_parent q p) (c.there q) refl i;
  home = λ x. c.texts Home x;
  work = λ x. c.texts WorkPlace x;
  context = λ q. where_mail q (c.texts q (codes "context"));
  outside = c.outside;
}
  where
    each : (q : Place) (f : Bool) → is_folder q ≡ f → (s t : Bool) → c.there q ≡ t
        → (if f then (if s || t then Some (folder_at c q) else None) else None)
        ≡ (if s then (if f then or_empty (if f then (if t then Some (folder_at c q) else None) else None) else None) else (if f then (if t then Some (folder_at c q) else None) else None))
    each q true is true true e = refl
    each q true is true false e = ap Some (is_empty c q (bare q is e))
    each q true is false t e = refl
    each q false is true t e = refl
    each q false is false t e = refl

-- a folder, or an empty one where it is missing
pub folder_or_empty : (c : Contents) (path name : List ℕ) → AreBare c → or_empty ((mailbox_in c).folders (Folder path name)) ≡ Some (folder_at c (Folder path name))
unfolding mailbox_in
folder_or_empty c path name bare = go (c.there (Folder path name)) refl
  where
    go : (b : Bool) → c.there (Folder path name) ≡ b → or_empty (if b then Some (folder_at c (Folder path name)) else None) ≡ Some (folder_at c (Folder path name))
    go true e = refl
    go false e = ap Some (sym (is_empty c (Folder path name) (bare (Folder path name) refl e)))
