-- What `mhstore` does that runs alone.
use Rattle.std.specs.Prelude.{◌≡◌, ◌++◌, ◌+◌, ◌≤◌, ◌<◌, ◌^◌, ℕ, true, List, length, Option, None, Some, Result}
use Rattle.mh_base.specs.Counts.{Rose}
use Rattle.mh_base.specs.Folders.{is_folder_name}
use Rattle.mh_base.specs.Streams.{SinkState}
use Rattle.mh_profile.specs.Reading.{entries_in}
use Rattle.folder_files.specs.Histories.{IsAlone}
use Rattle.folder_files.specs.Story.{FilesState, IsPossible, Story}
use Rattle.folder_files.specs.Worlds.{IsStart}
use Rattle.folder_files.specs.declared.place.Place.TheVariants.{Mail, Work}
use Rattle.file_plans.specs.Alone.{first_of, mailbox_at, world_at}
use Rattle.file_plans.specs.Contents.{filled}
use Rattle.file_plans.specs.Mailboxes.{Mailbox}
use Rattle.file_plans.specs.Plan.{Hand}
use Rattle.step_plans.specs.Hands.{temp_name}
use Rattle.step_plans.specs.declared.command_fault.CommandFault.{CommandFault}
use Rattle.told_folders.specs.ToldAlone.{ComesTo, HasReadContext}
use Rattle.mhstore_plans.specs.StoreOutcome.{mhstore_work}
use Rattle.mhstore_plans.specs.declared.job.StoreJob.{StoreJob}

-- no file of the current directory has a temporary name that the run has yet to give
abbrev pub HasNoTemps : ℕ → Hand → Mailbox → Type 0
HasNoTemps run h m = (k : ℕ) → h.next ≤ k → k < 2 ^ 64 → m.work (temp_name run k) ≡ None

-- Where nothing else happened between the call's first step and its last, and no other run had a lock at the first, and
-- the current directory is there: the call comes to its work on the mailbox at its first step.
abbrev pub StoresAlone : ℕ → List ℕ → StoreJob → Hand → Result Unit CommandFault → SinkState → SinkState → Story → Story
    → Type 0
StoresAlone run path job h result x y earlier later =
    (added : List ℕ) → later.asked ≡ earlier.asked ++ added → IsStart later.start → IsPossible earlier
    → IsAlone run later.start later.history added →
    let first = first_of (length earlier.history) added in
    run < 2 ^ 128 → HasReadContext (mailbox_at later first) path h → is_folder_name job.folder ≡ true
    → ((world_at later first).directories Work).there ≡ true → HasNoTemps run h (mailbox_at later first)
    → ComesTo
    (mhstore_work path (entries_in (filled ((mailbox_at later first).context (Mail path)))) job
    (mailbox_at later first))
    (mailbox_at later (first + length added)) x y result

-- where a story is told
abbrev pub StoresInStory : ℕ → List ℕ → StoreJob → Hand → Result Unit CommandFault → SinkState → SinkState
    → Option Story → Option Story → Type 0
StoresInStory run path job h result x y None None = Unit {0}
StoresInStory run path job h result x y (Some earlier) (Some later) =
    StoresAlone run path job h result x y earlier later
StoresInStory run path job h result x y None (Some later) = ⊥
StoresInStory run path job h result x y (Some earlier) None = ⊥

-- and no count rose
abbrev pub StoresIfUnfaulted : ℕ → List ℕ → StoreJob → Hand → Result Unit CommandFault → FilesState → FilesState
    → SinkState → SinkState → Type 0
StoresIfUnfaulted run path job h result f g x y =
    (Rose f.faults g.faults → ⊥) → (Rose x.faults y.faults → ⊥)
    → StoresInStory run path job h result x y f.story g.story
