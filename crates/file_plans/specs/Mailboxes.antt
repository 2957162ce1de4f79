-- Mailboxes: what stands in folders and files, by numbers and names. Nothing here knows of steps.
use Rattle.std.specs.Prelude.{ℕ, Bool, ◌&&◌, ◌^◌, nat_le, nat_lt, zero, suc, ◌+◌, List, [], ◌∷◌, Option, Some, None, is_some, option_map, codes, if◌then◌else◌}
use Rattle.mh_base.specs.Entries.{entry_text}
use Rattle.mh_base.specs.declared.entry.Entry.TheVariants.{Number, Backup, Held, Sequences}
use Rattle.folder_files.specs.Directory.{DirectoryMap, now_in}
use Rattle.folder_files.specs.Places.{is_folder, is_mail}
use Rattle.folder_files.specs.Worlds.{WorldMap}
use Rattle.folder_files.specs.declared.place.Place.{Place}
use Rattle.folder_files.specs.declared.place.Place.TheVariants.{Home, Work}
use Rattle.folder_files.specs.declared.place.FilePath.{FilePath}

-- a folder: its messages by number, the removed ones, those held aside by run (below 2^128) and number, and the text of
-- its sequences
pub record Folder : Type 0 where
  pub messages : ℕ → Option (List ℕ)
  pub removed : ℕ → Option (List ℕ)
  pub held : ℕ → ℕ → Option (List ℕ)
  pub sequences : Option (List ℕ)

-- a mailbox: its folders, the files of the home and the current directory, the context of each mail directory, and the
-- files outside
pub record Mailbox : Type 0 where
  pub folders : Place → Option Folder
  pub home : List ℕ → Option (List ℕ)
  pub work : List ℕ → Option (List ℕ)
  pub context : Place → Option (List ℕ)
  pub outside : FilePath → Option (List ℕ)

abbrev pub is_message_number : ℕ → Bool
is_message_number n = nat_le 1 n && nat_le n 999999

-- a text, where the number is one that a message may have
abbrev pub numbered : ℕ → Option (List ℕ) → Option (List ℕ)
numbered n text = if is_message_number n then text else None

-- the bytes to which a name of the directory leads
abbrev pub text_in : WorldMap → DirectoryMap → List ℕ → Option (List ℕ)
text_in w d name = option_map (λ f. (w.files f).bytes) (now_in d name)

-- a directory as a folder
abbrev pub as_folder : WorldMap → DirectoryMap → Folder
as_folder w d = record {
  messages = λ n. numbered n (text_in w d (entry_text (Number n)));
  removed = λ n. numbered n (text_in w d (entry_text (Backup n)));
  held = λ run n. if nat_lt run (2 ^ 128) then numbered n (text_in w d (entry_text (Held run n))) else None;
  sequences = text_in w d (entry_text Sequences);
}

abbrev pub folder_in : WorldMap → DirectoryMap → Option Folder
folder_in w d = if d.there then Some (as_folder w d) else None

-- what is shown of a folder of a mail directory alone
abbrev pub where_folder : {A : Type 0} → Place → Option A → Option A
where_folder p o = if is_folder p then o else None

-- what is shown of a mail directory alone
abbrev pub where_mail : {A : Type 0} → Place → Option A → Option A
where_mail p o = if is_mail p then o else None

-- the mailbox that a world shows, by where its names lead after all changes so far
unfoldable pub mailbox_of : WorldMap → Mailbox
mailbox_of w = record {
  folders = λ p. where_folder p (folder_in w (w.directories p));
  home = λ name. text_in w (w.directories Home) name;
  work = λ name. text_in w (w.directories Work) name;
  context = λ p. where_mail p (text_in w (w.directories p) (codes "context"));
  outside = w.outside;
}

-- those of so many numbers from n on that have a message, ascending
unfoldable pub numbers_from : (ℕ → Option (List ℕ)) → ℕ → ℕ → List ℕ
numbers_from messages n zero = []
numbers_from messages n (suc k) =
    if is_some (messages n) then n ∷ numbers_from messages (n + 1) k else numbers_from messages (n + 1) k

-- the numbers of a folder's messages, ascending
unfoldable pub numbers_of : Folder → List ℕ
numbers_of f = numbers_from f.messages 1 999999
