-- A mailbox with a folder that is made where it is missing. Nothing here knows of steps.
use Rattle.std.specs.Prelude.{◌||◌, Option, None, Some, if◌then◌else◌}
use Rattle.folder_files.specs.Places.{is_parent, same_place}
use Rattle.folder_files.specs.declared.place.Place.{Place}
use Rattle.file_plans.specs.Mailboxes.{Folder as FolderValue, Mailbox, where_folder}

-- a folder in which nothing stands
abbrev pub empty_folder : FolderValue
empty_folder = record { messages = λ n. None; removed = λ n. None; held = λ run n. None; sequences = None }

abbrev pub or_empty : Option FolderValue → Option FolderValue
or_empty None = Some empty_folder
or_empty (Some f) = Some f

-- the folder of this place is there, and the folders that it lies in; one that was missing is empty
abbrev pub with_folder_made : Mailbox → Place → Mailbox
with_folder_made m p = record {
  folders = λ q. if same_place p q || is_parent q p then where_folder q (or_empty (m.folders q)) else m.folders q;
  home = m.home;
  work = m.work;
  context = m.context;
  outside = m.outside;
}
