-- What `mhbuild` does alone.
use Rattle.std.specs.Prelude.{◌≡◌, ◌⊎◌, ◌++◌, ◌+◌, ◌<◌, ◌^◌, ℕ, true, false, List, [], length, nat_lt, Option, None, Some, Result, Ok, Err}
use Rattle.mh_base.specs.Counts.{Rose}
use Rattle.mh_base.specs.Streams.{SinkState, SourceState}
use Rattle.mh_profile.specs.Reading.{entries_in}
use Rattle.folder_files.specs.Histories.{IsAlone}
use Rattle.folder_files.specs.Story.{FilesState, IsPossible, Story}
use Rattle.folder_files.specs.Worlds.{IsStart, WorldMap}
use Rattle.folder_files.specs.declared.place.Place.TheVariants.{Mail, Work}
use Rattle.file_plans.specs.Alone.{first_of, mailbox_at, world_at}
use Rattle.file_plans.specs.Contents.{filled}
use Rattle.file_plans.specs.Mailboxes.{Mailbox, mailbox_of}
use Rattle.file_plans.specs.Plan.{Hand}
use Rattle.step_plans.specs.ContextCommit.{LIMIT_BYTES}
use Rattle.step_plans.specs.Hands.{temp_name}
use Rattle.step_plans.specs.declared.command_fault.CommandFault.{CommandFault}
use Rattle.step_plans.specs.declared.command_fault.CommandFault.TheVariants as fault
use Rattle.command_stages.specs.Texts.{too_large}
use Rattle.command_stages.specs.Works.{Work as WorkValue}
use Rattle.told_folders.specs.ToldAlone.{ComesTo, HasReadContext}
use Rattle.draft_files.specs.DraftNames.{is_draft_name}
use Rattle.mhbuild_plans.specs.BuildOutcome.{build_work, named_text}
use Rattle.mhbuild_plans.specs.declared.job.BuildJob.{BuildJob}

-- all that was left of the input was heard, and is not too long; or so much of it that this is
abbrev pub IsHeard : List ℕ → List ℕ → Result (List ℕ) CommandFault → Type 0
IsHeard old new (Ok text) = (text ≡ old) × (new ≡ []) × (nat_lt LIMIT_BYTES (length text) ≡ false)
IsHeard old new (Err e) =
    (front : List ℕ) × (front ++ new ≡ old) × (e ≡ too_large (length front))
    × (nat_lt LIMIT_BYTES (length front) ≡ true)

-- the call ended as the work says of what it heard; or it wanted memory
abbrev pub ComesToHeard : (Result (List ℕ) CommandFault → WorkValue CommandFault) → Mailbox → List ℕ → List ℕ
    → SinkState → SinkState → Result Unit CommandFault → Type 0
ComesToHeard work after old new x y result =
    (result ≡ Err fault.Memory)
    ⊎ ((heard : Result (List ℕ) CommandFault) × IsHeard old new heard × ComesTo (work heard) after x y result)

-- where the input tells what it has left
abbrev pub ComesToInput : (Result (List ℕ) CommandFault → WorkValue CommandFault) → Mailbox → Option (List ℕ)
    → Option (List ℕ) → SinkState → SinkState → Result Unit CommandFault → Type 0
ComesToInput work after None None x y result = Unit {0}
ComesToInput work after (Some old) (Some new) x y result = ComesToHeard work after old new x y result
ComesToInput work after None (Some new) x y result = ⊥
ComesToInput work after (Some old) None x y result = ⊥

-- a draft of this name, or the input
abbrev pub ComesToBuilt : Option (List ℕ) → (Result (List ℕ) CommandFault → WorkValue CommandFault) → Mailbox → Mailbox
    → SourceState → SourceState → SinkState → SinkState → Result Unit CommandFault → Type 0
ComesToBuilt None work before after n m x y result = ComesToInput work after n.left m.left x y result
ComesToBuilt (Some name) work before after n m x y result = ComesTo (work (named_text name before)) after x y result

-- a draft's name, where there is a name
abbrev pub IsValid : Option (List ℕ) → Type 0
IsValid None = Unit {0}
IsValid (Some name) = is_draft_name name ≡ true

-- the current directory is there, and has no file of the run's next temporary name
pub record IsClear (run : ℕ) (h : Hand) (w : WorldMap) : Type 0 where
  pub there : (w.directories Work).there ≡ true
  pub free : (mailbox_of w).work (temp_name run h.next) ≡ None

-- Where nothing else happened between the call's first step and its last, and no other run had a lock at the first: the
-- call comes to its work on the mailbox at its first step, and the input to what it heard of it.
abbrev pub TellsAlone : ℕ → List ℕ → BuildJob → Hand → Result Unit CommandFault → SourceState → SourceState → SinkState
    → SinkState → Story → Story → Type 0
TellsAlone run path job h result n m x y earlier later =
    (added : List ℕ) → later.asked ≡ earlier.asked ++ added → IsStart later.start → IsPossible earlier
    → IsAlone run later.start later.history added →
    let first = first_of (length earlier.history) added in
    run < 2 ^ 128 → IsValid job.draft → HasReadContext (mailbox_at later first) path h
    → IsClear run h (world_at later first) →
    ComesToBuilt job.draft
    (λ text.
    build_work run path (entries_in (filled ((mailbox_at later first).context (Mail path)))) job text
    (mailbox_at later first)) (mailbox_at later first)
    (mailbox_at later (first + length added)) n m x y result

-- where a story is told
abbrev pub TellsInStory : ℕ → List ℕ → BuildJob → Hand → Result Unit CommandFault → SourceState → SourceState
    → SinkState → SinkState → Option Story → Option Story → Type 0
TellsInStory run path job h result n m x y None None = Unit {0}
TellsInStory run path job h result n m x y (Some earlier) (Some later) =
    TellsAlone run path job h result n m x y earlier later
TellsInStory run path job h result n m x y None (Some later) = ⊥
TellsInStory run path job h result n m x y (Some earlier) None = ⊥

-- and no count rose
abbrev pub TellsIfUnfaulted : ℕ → List ℕ → BuildJob → Hand → Result Unit CommandFault → FilesState → FilesState
    → SourceState → SourceState → SinkState → SinkState → Type 0
TellsIfUnfaulted run path job h result f g n m x y =
    (Rose f.faults g.faults → ⊥) → (Rose n.faults m.faults → ⊥) → (Rose x.faults y.faults → ⊥)
    → TellsInStory run path job h result n m x y f.story g.story
