-- The plan of `refile`.
use Rattle.std.specs.Prelude.{◌+◌, ◌∷◌, [], ℕ, Bool, true, false, not, bytes_eq, nat_le, max, length, List, map, Option, Some, None, Result, Ok, Err}
use Rattle.std.specs.List.{filter, list_any}
use Rattle.mh_sequences.specs.declared.run.Run.{Run}
use Rattle.mh_sequences.specs.Runs.{numbers_of}
use Rattle.mh_sequences.specs.Sequences.{Marked}
use Rattle.msg_ranges.specs.Selection.{marks_of}
use Rattle.folder_files.specs.declared.place.Place.{Place}
use Rattle.folder_files.specs.declared.place.Place.TheVariants.{Folder, Mail}
use Rattle.folder_files.specs.declared.refusal.Refusal.TheVariants as refusal
use Rattle.file_plans.specs.Plan.{Return, bind, lifted, ◌>>=◌}
use Rattle.step_plans.specs.Locking.{lock_name}
use Rattle.step_plans.specs.Replacing.{synced}
use Rattle.step_plans.specs.declared.command_fault.CommandFault.{CommandFault}
use Rattle.step_plans.specs.declared.command_fault.CommandFault.TheVariants as fault
use Rattle.sequence_commits.specs.Committing.{changed_sequences}
use Rattle.command_stages.specs.Chosen.{chosen_in, folder_with}
use Rattle.command_stages.specs.Current.{made_current}
use Rattle.command_stages.specs.Endings.{of_plan, if_room}
use Rattle.command_stages.specs.Texts.{Commanded}
use Rattle.opening_plans.specs.Opening.{Opened, begun}
use Rattle.message_moves.specs.Copying.{highest_of, messages_copied}
use Rattle.message_moves.specs.Refiling.{messages_refiled}
use Rattle.message_moves.specs.declared.destination.Destination.{Destination}
use Rattle.refile_plans.specs.Gathering.{Gathered, all_begun, all_ended}
use Rattle.refile_plans.specs.Rmm.{withdrawn}
use Rattle.refile_plans.specs.declared.job.RefileJob.{RefileJob}

-- the names but for this one
abbrev pub names_without : List ℕ → List (List ℕ) → List (List ℕ)
names_without name names = filter (λ other. not (bytes_eq other name)) names

-- each of these names once, where it first stands
abbrev pub each_once : List (List ℕ) → List (List ℕ)
each_once [] = []
each_once (name ∷ names) = name ∷ names_without name (each_once names)

-- all folders that the words name for the messages to go to
abbrev pub targets_of : RefileJob → List (List ℕ)
targets_of job = each_once (job.target ∷ job.others)

-- one of them is the source
abbrev pub names_source : RefileJob → Bool
names_source job = list_any (λ name. bytes_eq name job.source) (targets_of job)

-- the messages that the job's words choose of the source with these numbers and sequences, or the refusal of the first
-- word that is refused
abbrev pub refile_chosen : RefileJob → List Run → Marked → Result (List ℕ) CommandFault
refile_chosen job listing m = chosen_in (folder_with job.negation (numbers_of listing) (marks_of m)) job.specs

-- the greatest number of these runs, if any
abbrev pub greatest_of : List Run → Option ℕ
greatest_of [] = None
greatest_of (run ∷ runs) = Some (max run.to (highest_of (greatest_of runs)))

-- a folder that was begun, as messages go to it
abbrev pub destination_of : Opened → Destination
destination_of o = record { folder = o.folder; place = o.place; highest = greatest_of o.listing }

-- no folder is a destination of its own messages
abbrev pub unless_source : Bool → List ℕ → Commanded Unit
unless_source true source = Return (Err (fault.Refused (refusal.SameFolder source)))
unless_source false source = Return (Ok tt)

-- and of each of these; the first that has no room is the one that is refused
unfoldable pub room_in : List Destination → ℕ → Commanded Unit
room_in [] count = Return (Ok tt)
room_in (to ∷ others) count = do
  room ← if_room (nat_le (highest_of to.highest + count) 999999) to.folder
  room_in others count

-- the messages of these numbers go to the destinations; their folder is made safe, and then they leave its sequences,
-- which are committed
unfoldable pub messages_left : ℕ → List ℕ → RefileJob → Opened → List Destination → List ℕ → Commanded Unit
messages_left run path job o to numbers = do
  gone ← messages_refiled run job.source o.place numbers to
  safe ← lifted (of_plan job.source) (synced o.place lock_name)
  lifted (of_plan job.source)
      (changed_sequences run o.place (Mail path) o.folder o.sequences (withdrawn numbers o.sequences))

-- they are copied there, and nothing of their folder changes
unfoldable pub messages_stay : ℕ → RefileJob → Opened → List Destination → List ℕ → Commanded Unit
messages_stay run job o to numbers = do
  copied ← messages_copied run job.source o.place numbers to
  Return (Ok tt)

abbrev pub moved_by : Bool → ℕ → List ℕ → RefileJob → Opened → List Destination → List ℕ → Commanded Unit
moved_by true run path job o to numbers = messages_stay run job o to numbers
moved_by false run path job o to numbers = messages_left run path job o to numbers

-- the messages that the words choose go to these folders, where none is the source and each has room
unfoldable pub said_refiled : ℕ → List ℕ → RefileJob → Opened → List Destination → Commanded Unit
said_refiled run path job o to = do
  numbers ← Return (refile_chosen job o.listing o.sequences)
  apart ← unless_source (names_source job) job.source
  room ← room_in to (length numbers)
  moved_by job.link run path job o to numbers

-- the source becomes the current folder, where it is to
abbrev pub current_if : Bool → ℕ → List ℕ → List ℕ → Commanded Unit
current_if true run path folder = made_current run path folder
current_if false run path folder = Return (Ok tt)

-- the work on the source and on destinations, all of which were begun
unfoldable pub opened_refiled : ℕ → List ℕ → RefileJob → Opened → List Opened → Commanded Unit
opened_refiled run path job o to = do
  moved ← said_refiled run path job o (map destination_of to)
  current_if job.set_current run path job.source

-- where one could not be begun nothing is done
abbrev pub gathered_refiled : ℕ → List ℕ → RefileJob → Opened → Gathered → Commanded Unit
gathered_refiled run path job o g = do
  all ← Return g.end
  opened_refiled run path job o g.opened

-- the places of the source and of the destinations that were begun, in this order
abbrev pub places_of : Opened → Gathered → List Place
places_of o g = o.place ∷ map (λ to. to.place) g.opened

-- `refile`: the source is begun, and then each other folder that the words name, which is made where it is missing; the
-- chosen messages go there; and all locks fall in the order in which they were had
unfoldable pub refile : ℕ → List ℕ → RefileJob → Commanded Unit
refile run path job = do
  o ← lifted (of_plan job.source) (begun run (Folder path job.source) (Mail path) job.source)
  bind (all_begun run path (names_without job.source (targets_of job)) [])
      (λ g. bind (gathered_refiled run path job o g) (all_ended (places_of o g)))
