-- The pledge of `inc`.
use Rattle.std.specs.Prelude.{◌≡◌, ◌⊎◌, ◌<◌, ◌≤◌, ◌+◌, ◌^◌, ◌++◌, ℕ, Bool, true, false, List, [], ◌∷◌, decimal, length, reverse}
use Rattle.mbox_drop.specs.Drops.{finished, is_drop, messages}
use Rattle.mh_base.specs.Entries.{kind_of}
use Rattle.mh_sequences.specs.Runs.{has}
use Rattle.mh_sequences.specs.Sequences.{Marked}
use Rattle.mh_sequences.specs.declared.run.Run.{Run}
use Rattle.folder_files.specs.Careful.{HasPieces, HasStored}
use Rattle.folder_files.specs.Commands.{Incorporating}
use Rattle.folder_files.specs.Deeds.{Deed, Once}
use Rattle.folder_files.specs.Named.{is_temp}
use Rattle.folder_files.specs.declared.place.FilePath.{FilePath}
use Rattle.folder_files.specs.declared.place.Place.{Place}
use Rattle.folder_files.specs.declared.place.Place.TheVariants.{Folder, Mail}
use Rattle.folder_files.specs.declared.step.Step.{Step}
use Rattle.folder_files.specs.declared.step.Step.TheVariants as step
use Rattle.file_plans.specs.Follows.{State}
use Rattle.step_plans.specs.Pledges.{Pledge}
use Rattle.step_plans.specs.Promises.{Promises}
use Rattle.sequence_commits.specs.Marking.{marked_by_all}
use Rattle.message_puts.specs.Stored.{HasMetAt}
use Rattle.opening_plans.specs.FolderPledge.{folder_pledge}
use Rattle.opening_plans.specs.Reads.{HaveSeen}
use Rattle.message_lines.specs.MessageText.{Writing}
use Rattle.inc_plans.specs.Inc.{are_some, heading, new_marks}
use Rattle.inc_plans.specs.Stored.{AreStoredAt, IsLineOfStored}
use Rattle.inc_plans.specs.IncJob.{IncJob}

-- the run read this drop, and stored its messages, one at each of these numbers
pub record HasTakenIn (run : ℕ) (p : Place) (f : FilePath) (numbers : List ℕ) (own : List Deed) : Type 0 where
  pub drop : List ℕ
  pub read : Once (λ d older. HasPieces f drop (d ∷ older)) own
  pub is_one : is_drop drop ≡ true
  pub stored : AreStoredAt run p numbers (messages drop) own

-- the sequences have the marks of the messages that the run has taken in
abbrev pub MarksNew : ℕ → List ℕ → IncJob → List Deed → List Run → Marked → Marked → Type 0
MarksNew run path job own listing m new =
    (numbers : List ℕ) × HasTakenIn run (Folder path job.folder) job.drop numbers own
    × (new ≡ marked_by_all (new_marks job numbers) m)

-- what is written of a new message, as the current one or not
abbrev pub new_line : IncJob → Bool → Writing
new_line job current n bytes = job.spoken (record { current = current; unseen = are_some job.unseen }) n bytes

-- the heading is said, and of messages that are stored their lines; nothing, where nothing is to be written
abbrev pub TellsNew : ℕ → List ℕ → IncJob → List Deed → List ℕ → Type 0
TellsNew run path job own piece =
    (job.silent ≡ false)
    × ((piece ≡ heading job.folder) ⊎ IsLineOfStored (new_line job) run (Folder path job.folder) own piece)

-- the drop is cut only where it is to be
abbrev pub CutsIfAsked : IncJob → List Deed → Step → Type 0
CutsIfAsked job own s = (length_ : ℕ) → s ≡ step.CutDrop job.drop length_ → job.truncate ≡ true

-- the number is 0, or one that the run has listed, or linked a file to, or met a file at
abbrev pub HasSeenNumber : ℕ → List ℕ → List ℕ → ℕ → List Deed → Type 0
HasSeenNumber run path folder n own =
    (n ≡ 0)
    ⊎ (((listing : List Run) × (text context : List ℕ)
    × HaveSeen run (Folder path folder) (Mail path) listing text context own × (has listing n ≡ true))
    ⊎ HasMetAt (Folder path folder) n own)

-- a number to which it links a new file, or tries to, is one above such a number at most
abbrev pub PutsNear : ℕ → List ℕ → IncJob → List Deed → Step → Type 0
PutsNear run path job own s =
    (temp number : List ℕ) → s ≡ step.Link (Folder path job.folder) temp number → is_temp (kind_of temp) ≡ true
    → (n : ℕ) × (number ≡ decimal n) × (m : ℕ) × (n ≤ m + 1) × HasSeenNumber run path job.folder m own

-- of the drop the run needs no more than the last bytes that it read, 65,536 at most, and the message in which these
-- begin: the messages that the bytes before them finish are stored, as the first of the drop, and perhaps more
pub record HoldsOne (run : ℕ) (f : FilePath) (own : List Deed) : Type 0 where
  pub before : List ℕ
  pub piece : List ℕ
  pub read : HasPieces f (before ++ piece) own
  pub short : length piece ≤ 65536
  pub done : List (List ℕ)
  pub left : List (List ℕ)
  pub of_drop : done ++ left ≡ messages (before ++ piece)
  pub stored : HasStored run f [] (reverse done) own
  pub front : length (finished before) ≤ length done

-- it is so wherever it links a new file to a number, or tries to
abbrev pub PutsOneByOne : ℕ → List ℕ → IncJob → List Deed → Step → Type 0
PutsOneByOne run path job own s =
    (temp number : List ℕ) → s ≡ step.Link (Folder path job.folder) temp number → is_temp (kind_of temp) ≡ true
    → HoldsOne run job.drop own

-- all that is asked of its steps besides
abbrev pub MakesSo : ℕ → List ℕ → IncJob → List Deed → Step → Type 0
MakesSo run path job own s = CutsIfAsked job own s × PutsNear run path job own s × PutsOneByOne run path job own s

-- `inc` begins the folder, stores messages in it, and keeps its marks
abbrev pub inc_pledge : ℕ → List ℕ → IncJob → Pledge
inc_pledge run path job =
    folder_pledge run path job.folder (MarksNew run path job) (Incorporating path job.folder job.drop)
    (TellsNew run path job) (MakesSo run path job)

-- what a call promises of its steps
abbrev pub PromisesSteps : ℕ → List ℕ → IncJob → State → State → Type 0
PromisesSteps run path job x y = run < 2 ^ 128 → Promises (inc_pledge run path job) x y
