-- What such a command does that runs alone.
use Rattle.std.specs.Prelude.{◌≡◌, ◌⊎◌, ◌++◌, ◌+◌, ◌<◌, ◌^◌, ℕ, true, false, List, length, nat_lt, Option, None, Some, Result, Err}
use Rattle.mh_base.specs.Counts.{Rose}
use Rattle.mh_base.specs.Folders.{is_folder_name}
use Rattle.mh_base.specs.Streams.{Adds, SinkState}
use Rattle.mh_profile.specs.Reading.{entries_in}
use Rattle.folder_files.specs.Histories.{IsAlone}
use Rattle.folder_files.specs.Story.{FilesState, IsPossible, Story}
use Rattle.folder_files.specs.Worlds.{IsStart}
use Rattle.folder_files.specs.declared.place.Place.TheVariants.{Folder, Mail}
use Rattle.file_plans.specs.Alone.{first_of, mailbox_at}
use Rattle.file_plans.specs.Contents.{filled}
use Rattle.file_plans.specs.Mailboxes.{Mailbox}
use Rattle.file_plans.specs.Plan.{Hand}
use Rattle.mh_profile.specs.declared.named_value.NamedValue.{NamedValue}
use Rattle.step_plans.specs.ContextCommit.{LIMIT_BYTES}
use Rattle.step_plans.specs.declared.command_fault.CommandFault.{CommandFault}
use Rattle.step_plans.specs.declared.command_fault.CommandFault.TheVariants as fault
use Rattle.command_stages.specs.Works.{Work}
use Rattle.opening_plans.specs.BegunWork.{AreHomesAt, Homes}

-- what a command comes to by the entries of the context, by what is held aside in its folder, and by the mailbox
abbrev pub WorkOf : Type 0
WorkOf = List NamedValue → Homes → Mailbox → Work CommandFault

-- the call ended as its work says, wrote its text and left its mailbox; or it wanted memory
abbrev pub ComesTo : Work CommandFault → Mailbox → SinkState → SinkState → Result Unit CommandFault → Type 0
ComesTo w after x y result =
    (result ≡ Err fault.Memory) ⊎ ((result ≡ w.end) × (Adds x.told y.told w.text) × (after ≡ w.mailbox))

-- the run has read the context of this mailbox, which is not too long to be read
abbrev pub HasReadContext : Mailbox → List ℕ → Hand → Type 0
HasReadContext m path h =
    (h.context ≡ Some (entries_in (filled (m.context (Mail path)))))
    × (nat_lt LIMIT_BYTES (length (filled (m.context (Mail path)))) ≡ false)

-- Where nothing else happened between the call's first step and its last, and no other run had a lock at the first: the
-- call comes to its work on the mailbox at its first step, for what is held aside in the folder there.
abbrev pub TellsAlone : ℕ → List ℕ → List ℕ → Hand → WorkOf → Result Unit CommandFault → SinkState → SinkState → Story
    → Story → Type 0
TellsAlone run path folder h work result x y earlier later =
    (added : List ℕ) → later.asked ≡ earlier.asked ++ added → IsStart later.start → IsPossible earlier
    → IsAlone run later.start later.history added →
    let first = first_of (length earlier.history) added in
    run < 2 ^ 128 → HasReadContext (mailbox_at later first) path h → is_folder_name folder ≡ true →
    (held : Homes) → AreHomesAt run ((mailbox_at later first).folders (Folder path folder)) held →
    ComesTo (work (entries_in (filled ((mailbox_at later first).context (Mail path)))) held (mailbox_at later first))
    (mailbox_at later (first + length added)) x y result

-- where a story is told
abbrev pub TellsInStory : ℕ → List ℕ → List ℕ → Hand → WorkOf → Result Unit CommandFault → SinkState → SinkState
    → Option Story → Option Story → Type 0
TellsInStory run path folder h work result x y None None = Unit {0}
TellsInStory run path folder h work result x y (Some earlier) (Some later) =
    TellsAlone run path folder h work result x y earlier later
TellsInStory run path folder h work result x y None (Some later) = ⊥
TellsInStory run path folder h work result x y (Some earlier) None = ⊥

-- and no count rose
abbrev pub TellsIfUnfaulted : ℕ → List ℕ → List ℕ → Hand → WorkOf → Result Unit CommandFault → FilesState → FilesState
    → SinkState → SinkState → Type 0
TellsIfUnfaulted run path folder h work result f g x y =
    (Rose f.faults g.faults → ⊥) → (Rose x.faults y.faults → ⊥)
    → TellsInStory run path folder h work result x y f.story g.story
