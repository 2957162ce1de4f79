-- What `pick` does that runs alone.
use Rattle.std.specs.Prelude.{◌≡◌, ◌++◌, ◌+◌, ◌<◌, ◌^◌, ℕ, true, List, length, Option, None, Some, Result}
use Rattle.mh_base.specs.Counts.{Rose}
use Rattle.mh_base.specs.Folders.{is_folder_name}
use Rattle.mh_base.specs.Streams.{SinkState}
use Rattle.mh_profile.specs.Reading.{entries_in}
use Rattle.folder_files.specs.Histories.{IsAlone}
use Rattle.folder_files.specs.Story.{FilesState, IsPossible, Story}
use Rattle.folder_files.specs.Worlds.{IsStart}
use Rattle.folder_files.specs.declared.place.Place.TheVariants.{Folder, Mail}
use Rattle.file_plans.specs.Alone.{first_of, mailbox_at}
use Rattle.file_plans.specs.Contents.{filled}
use Rattle.file_plans.specs.Plan.{Hand}
use Rattle.step_plans.specs.declared.command_fault.CommandFault.{CommandFault}
use Rattle.opening_plans.specs.BegunWork.{AreHomesAt, Homes}
use Rattle.told_folders.specs.ToldAlone.{ComesTo, HasReadContext}
use Rattle.pick_plans.specs.Outcomes.{pick_work}
use Rattle.pick_plans.specs.declared.job.PickJob.{PickJob}

-- Where nothing else happened between the call's first step and its last, and no other run had a lock at the first: the
-- call comes to its work on the mailbox at its first step, for what is held aside in the folder there.
abbrev pub PicksAlone : ℕ → List ℕ → Hand → PickJob → Result Unit CommandFault → SinkState → SinkState → Story → Story
    → Type 0
PicksAlone run path h job result x y earlier later =
    (added : List ℕ) → later.asked ≡ earlier.asked ++ added → IsStart later.start → IsPossible earlier
    → IsAlone run later.start later.history added →
    let first = first_of (length earlier.history) added in
    run < 2 ^ 128 → HasReadContext (mailbox_at later first) path h → is_folder_name job.folder ≡ true →
    (held : Homes) → AreHomesAt run ((mailbox_at later first).folders (Folder path job.folder)) held →
    ComesTo
    (pick_work path (entries_in (filled ((mailbox_at later first).context (Mail path)))) held job
    (mailbox_at later first)) (mailbox_at later (first + length added)) x y result

-- where a story is told
abbrev pub PicksInStory : ℕ → List ℕ → Hand → PickJob → Result Unit CommandFault → SinkState → SinkState → Option Story
    → Option Story → Type 0
PicksInStory run path h job result x y None None = Unit {0}
PicksInStory run path h job result x y (Some earlier) (Some later) = PicksAlone run path h job result x y earlier later
PicksInStory run path h job result x y None (Some later) = ⊥
PicksInStory run path h job result x y (Some earlier) None = ⊥

-- and no count rose
abbrev pub PicksIfUnfaulted : ℕ → List ℕ → Hand → PickJob → Result Unit CommandFault → FilesState → FilesState
    → SinkState → SinkState → Type 0
PicksIfUnfaulted run path h job result f g x y =
    (Rose f.faults g.faults → ⊥) → (Rose x.faults y.faults → ⊥) → PicksInStory run path h job result x y f.story g.story
