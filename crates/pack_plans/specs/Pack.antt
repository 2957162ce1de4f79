-- The plan of `folder -pack`.
use Rattle.std.specs.Prelude.{ℕ, List, [], ◌∷◌}
use Rattle.std.specs.Str.{encode_utf8_all}
use Rattle.mh_sequences.specs.declared.run.Run.{Run}
use Rattle.mh_sequences.specs.Runs.{numbers_of}
use Rattle.mh_sequences.specs.Sequences.{Marked}
use Rattle.folder_files.specs.declared.place.Place.{Place}
use Rattle.folder_files.specs.declared.place.Place.TheVariants.{Folder, Mail}
use Rattle.file_plans.specs.Plan.{bind, lifted, ◌>>=◌}
use Rattle.command_stages.specs.Current.{made_current}
use Rattle.command_stages.specs.Endings.{of_plan}
use Rattle.command_stages.specs.Texts.{Commanded}
use Rattle.opening_plans.specs.Ending.{ended}
use Rattle.opening_plans.specs.Opening.{Opened, begun}
use Rattle.told_folders.specs.Plans.{lines_said}
use Rattle.folder_command.specs.Summary.{summary}
use Rattle.folder_command.specs.declared.job.FolderJob.{FolderJob}
use Rattle.step_plans.specs.PlanFaults.{Planned}
use Rattle.message_places.specs.Places.{froms}
use Rattle.message_places.specs.declared.moves.Move.{Move}
use Rattle.sortm_plans.specs.Moving.{moved_if, sequences_after}
use Rattle.pack_plans.specs.Places.{listing_moves, packed_listing}
use Rattle.pack_plans.specs.declared.job.PackJob.{PackJob}

-- what `folder` would be asked, to tell of the folder alone
abbrev pub told_of : PackJob → FolderJob
told_of job = record { folder = job.folder; specs = []; negation = [] }

-- the line of the folder with these numbers and sequences
abbrev pub line_of : PackJob → List Run → Marked → List ℕ
line_of job listing m = summary (encode_utf8_all job.folder) (numbers_of listing) m.cur

-- the line, once the messages that move ended at these numbers
abbrev pub line_after : PackJob → List Run → Marked → List ℕ → List ℕ
line_after job listing m ends =
    line_of job (packed_listing listing ends) (sequences_after (listing_moves listing) ends m)

-- messages get other numbers, and their marks go with them; it tells where each ended
abbrev pub renumbered : ℕ → Place → Opened → List Move → Planned (List ℕ)
renumbered run mail o ms = moved_if run mail o (froms ms) ms

-- the folder's line is said, and it becomes the current one
unfoldable pub line_told : ℕ → List ℕ → PackJob → List ℕ → Commanded Unit
line_told run path job line = do
  told ← lines_said (line ∷ [])
  made_current run path job.folder

-- the messages are numbered anew, and the folder is told of
unfoldable pub opened_packed : ℕ → List ℕ → PackJob → Opened → Commanded Unit
opened_packed run path job o = do
  ends ← lifted (of_plan job.folder) (renumbered run (Mail path) o (listing_moves o.listing))
  line_told run path job (line_after job o.listing o.sequences ends)

-- `folder -pack`: the folder is begun, its messages are numbered anew, and its lock falls
unfoldable pub pack : ℕ → List ℕ → PackJob → Commanded Unit
pack run path job = do
  o ← lifted (of_plan job.folder) (begun run (Folder path job.folder) (Mail path) job.folder)
  bind (opened_packed run path job o) (ended (Folder path job.folder))
