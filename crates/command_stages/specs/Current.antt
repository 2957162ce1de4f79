-- The current folder, which the context names.
use Rattle.std.specs.Prelude.{ℕ, List, [], ◌∷◌, Some, Ok, codes}
use Rattle.std.specs.Str.{encode_utf8_all}
use Rattle.folder_files.specs.declared.place.Place.TheVariants.{Mail}
use Rattle.file_plans.specs.Plan.{Return, lifted, ◌>>=◌}
use Rattle.step_plans.specs.ContextCommit.{commit_context}
use Rattle.step_plans.specs.declared.change.ChangeEntry.{ChangeEntry}
use Rattle.command_stages.specs.Endings.{of_plan}
use Rattle.command_stages.specs.Texts.{Commanded}

-- the entry of the context that names the current folder
abbrev pub current_name : List ℕ
current_name = codes "Current-Folder"

-- the folder becomes the current one
abbrev pub current_change : List ℕ → List ChangeEntry
current_change folder = record { name = current_name; value = Some (encode_utf8_all folder) } ∷ []

-- the context says so, or it is committed
unfoldable pub made_current : ℕ → List ℕ → List ℕ → Commanded Unit
made_current run mail folder = do
  done ← lifted (of_plan folder) (commit_context run (Mail mail) (current_change folder))
  Return (Ok tt)
