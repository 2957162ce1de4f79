-- Files that a draft names.
use Rattle.std.specs.Prelude.{ℕ, List, Ok, Err}
use Rattle.folder_files.specs.declared.place.FilePath.{FilePath}
use Rattle.file_plans.specs.Asking.{read_file}
use Rattle.file_plans.specs.Plan.{Return, lifted, ◌>>=◌}
use Rattle.file_plans.specs.declared.answers.Reading.{Reading}
use Rattle.file_plans.specs.declared.answers.Reading.TheVariants as reading
use Rattle.step_plans.specs.CommandFaults.{of_stop}
use Rattle.step_plans.specs.ContextCommit.{LIMIT_BYTES}
use Rattle.command_stages.specs.Texts.{Commanded, too_large}
use Rattle.draft_files.specs.Drafts.{no_file}

-- by what reading it gave
abbrev pub file_by : FilePath → Reading → Commanded (List ℕ)
file_by path (reading.Content bytes) = Return (Ok bytes)
file_by path (reading.Long l) = Return (Err (too_large l))
file_by path reading.Gone = Return (Err (no_file path))

-- the bytes of a file
unfoldable pub file_read : FilePath → Commanded (List ℕ)
file_read path = do
  reading ← lifted of_stop (read_file path LIMIT_BYTES)
  file_by path reading
