-- What beginning a folder makes of a mailbox, where the call runs alone.
use Rattle.std.specs.Prelude.{◌≡◌, ◌++◌, ◌+◌, ◌<◌, ◌^◌, ℕ, List, length, Option, None, Some, is_some}
use Rattle.mh_base.specs.Counts.{Rose}
use Rattle.mh_profile.specs.Reading.{entries_in}
use Rattle.mh_sequences.specs.Runs.{has}
use Rattle.mh_sequences.specs.Sequences.{Marked}
use Rattle.folder_files.specs.Histories.{IsAlone}
use Rattle.folder_files.specs.Story.{FilesState, Story, IsPossible}
use Rattle.folder_files.specs.Worlds.{IsStart}
use Rattle.folder_files.specs.declared.place.Place.TheVariants.{Folder, Mail}
use Rattle.file_plans.specs.Alone.{first_of, mailbox_at}
use Rattle.file_plans.specs.Contents.{filled}
use Rattle.file_plans.specs.Mailboxes.{Folder as FolderValue, Mailbox}
use Rattle.file_plans.specs.Plan.{Hand}
use Rattle.held_messages.specs.HeldPairs.{AreHeld, homes, settled, with_folder_changed}
use Rattle.held_messages.specs.Highest.{IsTop}
use Rattle.held_messages.specs.declared.held.HeldPair.{HeldPair}
use Rattle.sequence_commits.specs.CommittedAlone.{AreCommitted}
use Rattle.sequence_commits.specs.Cutting.{cut_to}
use Rattle.sequence_commits.specs.Reading.{sequences_in}
use Rattle.opening_plans.specs.Opening.{Opened}

-- The folder was there. Each message that another run held aside there goes where it goes alone, and the listing has
-- just the numbers that have a message then. The sequences are those of the folder's text and of the context, without
-- absent numbers; where that leaves out a number they are committed. Nothing else of the mailbox changes.
pub record IsBegun (run : ℕ) (path folder : List ℕ) (before after : Mailbox) (o : Opened) : Type 0 where
  pub place : o.place ≡ Folder path folder
  pub name : o.folder ≡ folder
  pub old : FolderValue
  pub there : before.folders (Folder path folder) ≡ Some old
  pub pairs : List HeldPair
  pub held : AreHeld run old pairs
  pub highest : ℕ
  pub top : IsTop old highest
  pub ends : o.ends ≡ homes (λ k. is_some (old.messages k)) highest pairs
  pub listing : (n : ℕ) → has o.listing n ≡ is_some ((settled old pairs o.ends).messages n)
  pub read : Marked
  pub is_read : read ≡ sequences_in (filled old.sequences) (entries_in (filled (before.context (Mail path)))) folder
  pub sequences : o.sequences ≡ cut_to o.listing read
  pub hand : Hand
  pub seen : hand.context ≡ Some (entries_in (filled (before.context (Mail path))))
  pub mailbox : AreCommitted (with_folder_changed before (Folder path folder) (λ f. settled f pairs o.ends)) after
      (Folder path folder) path folder read o.sequences hand

-- so of a call beside which nothing happened
abbrev pub BeginsAlone : ℕ → List ℕ → List ℕ → Opened → Story → Story → Type 0
BeginsAlone run path folder o earlier later =
    (added : List ℕ) → later.asked ≡ earlier.asked ++ added → IsStart later.start → IsPossible earlier
    → IsAlone run later.start later.history added →
    let first = first_of (length earlier.history) added in
    run < 2 ^ 128 → IsBegun run path folder (mailbox_at later first) (mailbox_at later (first + length added)) o

-- where a story is told
abbrev pub BeginsInStory : ℕ → List ℕ → List ℕ → Opened → Option Story → Option Story → Type 0
BeginsInStory run path folder o None None = Unit {0}
BeginsInStory run path folder o (Some earlier) (Some later) = BeginsAlone run path folder o earlier later
BeginsInStory run path folder o None (Some later) = ⊥
BeginsInStory run path folder o (Some earlier) None = ⊥

-- and no step failed
abbrev pub BeginsIfUnfaulted : ℕ → List ℕ → List ℕ → Opened → FilesState → FilesState → Type 0
BeginsIfUnfaulted run path folder o x y = (Rose x.faults y.faults → ⊥) → BeginsInStory run path folder o x.story y.story
