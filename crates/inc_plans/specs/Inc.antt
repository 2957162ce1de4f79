-- The plan of `inc`: the drop is counted, its messages are stored and told of, the marks and the context are committed,
-- and only then is the drop cut.
use Rattle.std.specs.Prelude.{◌+◌, ◌++◌, ◌∷◌, [], ℕ, Bool, true, false, max, nat_le, List, map, codes, Option, None, Some, Ok, Err}
use Rattle.std.specs.Str.{encode_utf8_all}
use Rattle.mh_sequences.specs.declared.mark.Mark.{Mark}
use Rattle.mh_sequences.specs.declared.mark.Mark.TheVariants.{Add, Cur}
use Rattle.mh_sequences.specs.declared.run.Run.{Run}
use Rattle.mh_sequences.specs.Runs.{set_of}
use Rattle.folder_files.specs.declared.place.FilePath.{FilePath}
use Rattle.folder_files.specs.declared.place.Place.TheVariants.{Folder, Mail}
use Rattle.folder_files.specs.declared.refusal.Refusal.TheVariants as refusal
use Rattle.file_plans.specs.Asking.{cut_drop}
use Rattle.file_plans.specs.Plan.{Return, bind, lifted, say, ◌>>=◌}
use Rattle.file_plans.specs.declared.answers.DropCut.{DropCut}
use Rattle.file_plans.specs.declared.answers.DropCut.TheVariants as drop_cut
use Rattle.step_plans.specs.CommandFaults.{of_sink, of_stop}
use Rattle.step_plans.specs.declared.command_fault.CommandFault.TheVariants as fault
use Rattle.sequence_commits.specs.Committing.{changed_sequences}
use Rattle.sequence_commits.specs.Marking.{marked_by_all}
use Rattle.sequence_commits.specs.RunsOfAll.{set_among}
use Rattle.command_stages.specs.Current.{made_current}
use Rattle.command_stages.specs.Endings.{of_plan, if_room}
use Rattle.command_stages.specs.Texts.{Commanded}
use Rattle.opening_plans.specs.Ending.{ended}
use Rattle.opening_plans.specs.Making.{made_begun}
use Rattle.opening_plans.specs.Opening.{Opened}
use Rattle.inc_plans.specs.Counting.{drop_counted}
use Rattle.inc_plans.specs.DropTaken.{drop_taken, where_of}
use Rattle.inc_plans.specs.Taking.{standing_for, Telling}
use Rattle.inc_plans.specs.declared.size.DropSize.{DropSize}
use Rattle.inc_plans.specs.declared.taken.Taken.{Taken}
use Rattle.inc_plans.specs.IncJob.{IncJob}

-- the greatest number of these runs, or 0
abbrev pub top_of : List Run → ℕ
top_of [] = 0
top_of (run ∷ runs) = max run.to (top_of runs)

-- some sequences are named
abbrev pub are_some : List (List ℕ) → Bool
are_some [] = false
are_some (name ∷ names) = true

-- what is written of new messages, by the current message that was marked before
abbrev pub telling_of : IncJob → Option ℕ → Telling
telling_of job cur = record {
  silent = job.silent;
  line = λ first n bytes. job.spoken (standing_for job.change_cur (are_some job.unseen) cur first n) n bytes;
}

-- what is written first
unfoldable pub heading : List ℕ → List ℕ
heading folder = codes "Incorporating new mail into " ++ encode_utf8_all folder ++ codes "...\n\n"

abbrev pub heading_told : Bool → List ℕ → Commanded Unit
heading_told true folder = Return (Ok tt)
heading_told false folder = lifted of_sink (say (heading folder))

-- the first new message becomes the current one, where it is to
abbrev pub cur_marks : Bool → List ℕ → List Mark
cur_marks true [] = []
cur_marks true (n ∷ ns) = Cur (Some n) ∷ []
cur_marks false ns = []

-- and all of them come to these sequences
abbrev pub add_mark : List Run → List ℕ → Mark
add_mark runs name = Add name (set_of runs 0) None

abbrev pub add_marks : List Run → List (List ℕ) → List Mark
add_marks runs names = map (add_mark runs) names

abbrev pub new_marks : IncJob → List ℕ → List Mark
new_marks job numbers = cur_marks job.change_cur numbers ++ add_marks (set_among numbers) job.unseen

-- the drop is cut at the length that was read, or isn't there any more; where it has grown mail was delivered meanwhile
abbrev pub cut_by : DropCut → Commanded Unit
cut_by drop_cut.Done = Return (Ok tt)
cut_by drop_cut.Gone = Return (Ok tt)
cut_by drop_cut.Grown = Return (Err (fault.Refused refusal.DropGrown))

unfoldable pub drop_ended : FilePath → ℕ → Commanded Unit
drop_ended path l = do
  cut ← lifted of_stop (cut_drop path l)
  cut_by cut

abbrev pub cut_if : Bool → FilePath → ℕ → Commanded Unit
cut_if true path l = drop_ended path l
cut_if false path l = Return (Ok tt)

-- how long the drop is and how many messages it has, where the folder has room for them above its highest number
unfoldable pub room_counted : List ℕ → FilePath → ℕ → Commanded DropSize
room_counted folder path top = do
  size ← drop_counted path
  room ← if_room (nat_le (top + size.messages) 999999) folder
  Return (Ok size)

-- the heading is written, and the drop's messages are taken in
unfoldable pub told_taken : ℕ → IncJob → Opened → DropSize → Commanded Taken
told_taken run job o size = do
  told ← heading_told job.silent job.folder
  drop_taken (where_of run job.folder o.place (telling_of job o.sequences.cur)) job.drop size.length size.messages
      (top_of o.listing)

-- the new messages are marked, and the folder becomes the current one
unfoldable pub new_marked : ℕ → List ℕ → IncJob → Opened → List ℕ → Commanded Unit
new_marked run path job o numbers = do
  marked ← lifted (of_plan job.folder)
      (changed_sequences run o.place (Mail path) o.folder o.sequences
      (marked_by_all (new_marks job numbers) o.sequences))
  made_current run path job.folder

-- the work on a folder that was begun; at its end the drop is cut, where it is to be
unfoldable pub opened_incorporated : ℕ → List ℕ → IncJob → Opened → Commanded Unit
opened_incorporated run path job o = do
  size ← room_counted job.folder job.drop (top_of o.listing)
  taken ← told_taken run job o size
  marked ← new_marked run path job o taken.numbers
  cut_if job.truncate job.drop size.length

-- `inc`: the folder is made where it is missing and begun, the drop is taken in, and the folder's lock falls
unfoldable pub inc : ℕ → List ℕ → IncJob → Commanded Unit
inc run path job = do
  o ← lifted (of_plan job.folder) (made_begun run (Folder path job.folder) (Mail path) job.folder)
  bind (opened_incorporated run path job o) (ended (Folder path job.folder))
