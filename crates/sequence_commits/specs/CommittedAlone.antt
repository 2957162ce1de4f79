-- What a commit of a folder's sequences makes of the mailbox where it runs alone.
use Rattle.std.specs.Prelude.{◌≡◌, ◌⊎◌, ◌++◌, ◌+◌, ◌<◌, ◌^◌, ℕ, true, false, nat_lt, List, length, Option, None, Some}
use Rattle.mh_sequences.specs.Printing.{text_of}
use Rattle.mh_sequences.specs.Sequences.{Marked}
use Rattle.folder_files.specs.Histories.{IsAlone}
use Rattle.folder_files.specs.Story.{Story, IsPossible}
use Rattle.folder_files.specs.Worlds.{IsStart, WorldMap}
use Rattle.folder_files.specs.declared.place.Place.{Place}
use Rattle.file_plans.specs.Alone.{first_of, mailbox_at, world_at}
use Rattle.file_plans.specs.Mailboxes.{Mailbox, text_in}
use Rattle.file_plans.specs.Plan.{Hand}
use Rattle.step_plans.specs.ContextCommitted.{IsContextCommitted, KnowsContext}
use Rattle.step_plans.specs.Hands.{temp_name}
use Rattle.sequence_commits.specs.PrivateChanges.{private_changes}
use Rattle.mh_profile.specs.Reading.{entries_seen}
use Rattle.sequence_commits.specs.SequencesChanged.{with_sequences_text}
use Rattle.sequence_commits.specs.Telling.{same_told}

-- the folder is there, and nothing stands under the run's next temporary name
pub record IsReady (w : WorldMap) (p : Place) (run next : ℕ) : Type 0 where
  pub there : (w.directories p).there ≡ true
  pub free : nat_lt next (2 ^ 64) ≡ true → text_in w (w.directories p) (temp_name run next) ≡ None

-- where the same is told nothing changed; else the folder has the new text, and then the context was committed, or it
-- said so already; and nothing else of the mailbox changed
abbrev pub AreCommitted : Mailbox → Mailbox → Place → List ℕ → List ℕ → Marked → Marked → Hand → Type 0
AreCommitted before after p path folder old new h =
    ((same_told folder old new ≡ true) × (after ≡ before))
    ⊎ ((same_told folder old new ≡ false)
    × IsContextCommitted (with_sequences_text before p (text_of new)) after path
    (private_changes folder new.users (entries_seen h.context)) h)

-- so of a call beside which nothing happened, where its hand knew the context, if anything, and the folder was ready
abbrev pub CommitsAlone : ℕ → Place → List ℕ → List ℕ → Marked → Marked → Hand → Story → Story → Type 0
CommitsAlone run p path folder old new h earlier later =
    (added : List ℕ) → later.asked ≡ earlier.asked ++ added → IsStart later.start → IsPossible earlier
    → IsAlone run later.start later.history added →
    let first = first_of (length earlier.history) added in
    run < 2 ^ 128 → KnowsContext (mailbox_at later first) path h → IsReady (world_at later first) p run h.next →
    AreCommitted (mailbox_at later first) (mailbox_at later (first + length added)) p path folder old new h

-- where a story is told
abbrev pub CommitsAloneIfTold : ℕ → Place → List ℕ → List ℕ → Marked → Marked → Hand → Option Story → Option Story
    → Type 0
CommitsAloneIfTold run p path folder old new h None None = Unit {0}
CommitsAloneIfTold run p path folder old new h (Some earlier) (Some later) =
    CommitsAlone run p path folder old new h earlier later
CommitsAloneIfTold run p path folder old new h None (Some later) = ⊥
CommitsAloneIfTold run p path folder old new h (Some earlier) None = ⊥
