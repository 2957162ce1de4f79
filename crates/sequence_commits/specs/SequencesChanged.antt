-- What a new text of a folder's sequences is as a change of a mailbox.
use Rattle.std.specs.Prelude.{List, ℕ, Some, option_map, if◌then◌else◌}
use Rattle.folder_files.specs.Places.{same_place}
use Rattle.folder_files.specs.declared.place.Place.{Place}
use Rattle.file_plans.specs.Mailboxes.{Folder, Mailbox}

-- the folder with this text of its sequences
abbrev pub folder_with_sequences : List ℕ → Folder → Folder
folder_with_sequences text f =
    record { messages = f.messages; removed = f.removed; held = f.held; sequences = Some text }

-- the mailbox with this text of the sequences of this folder, where the folder is there
abbrev pub with_sequences_text : Mailbox → Place → List ℕ → Mailbox
with_sequences_text m p text = record {
  folders = λ q. if same_place p q then option_map (folder_with_sequences text) (m.folders q) else m.folders q;
  home = m.home;
  work = m.work;
  context = m.context;
  outside = m.outside;
}
