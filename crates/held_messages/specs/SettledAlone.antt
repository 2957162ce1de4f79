-- What putting back makes of a mailbox, where the call runs alone.
use Rattle.std.specs.Prelude.{◌≡◌, ◌++◌, ◌+◌, ℕ, true, List, length, Option, None, Some, is_some}
use Rattle.mh_base.specs.Counts.{Rose}
use Rattle.folder_files.specs.Histories.{IsAlone}
use Rattle.folder_files.specs.Places.{is_folder}
use Rattle.folder_files.specs.Story.{FilesState, Story, IsPossible}
use Rattle.folder_files.specs.Worlds.{IsStart}
use Rattle.folder_files.specs.declared.place.Place.{Place}
use Rattle.file_plans.specs.Alone.{first_of, mailbox_at}
use Rattle.file_plans.specs.Mailboxes.{Folder, Mailbox}
use Rattle.file_plans.specs.Sightings.{has_number}
use Rattle.held_messages.specs.HeldPairs.{AreHeld, homes, settled, with_folder_changed}
use Rattle.held_messages.specs.Highest.{IsTop}
use Rattle.held_messages.specs.Settle.{Settled}
use Rattle.held_messages.specs.declared.held.HeldPair.{HeldPair}

-- the folder was there, each message that another run held aside goes where it goes alone, and nothing else of the
-- mailbox changes
pub record IsPutBack (own : ℕ) (p : Place) (before after : Mailbox) (s : Settled) : Type 0 where
  pub folder : Folder
  pub there : before.folders p ≡ Some folder
  pub names : (n : ℕ) → has_number n s.names ≡ is_some (folder.messages n)
  pub pairs : List HeldPair
  pub held : AreHeld own folder pairs
  pub highest : ℕ
  pub top : IsTop folder highest
  pub homes : s.ends ≡ homes (λ k. is_some (folder.messages k)) highest pairs
  pub mailbox : after ≡ with_folder_changed before p (λ f. settled f pairs s.ends)

-- so of a call beside which nothing happened
abbrev pub SettlesAlone : ℕ → Place → Settled → Story → Story → Type 0
SettlesAlone own p s old new =
    (added : List ℕ) → new.asked ≡ old.asked ++ added → IsStart new.start → IsPossible old
    → IsAlone own new.start new.history added →
    let first = first_of (length old.history) added in
    IsPutBack own p (mailbox_at new first) (mailbox_at new (first + length added)) s

-- where a story is told
abbrev pub SettlesInStory : ℕ → Place → Settled → Option Story → Option Story → Type 0
SettlesInStory own p s None None = Unit {0}
SettlesInStory own p s (Some old) (Some new) = SettlesAlone own p s old new
SettlesInStory own p s None (Some new) = ⊥
SettlesInStory own p s (Some old) None = ⊥

-- and no step failed
abbrev pub SettlesIfUnfaulted : ℕ → Place → Settled → FilesState → FilesState → Type 0
SettlesIfUnfaulted own p s x y =
    is_folder p ≡ true → (Rose x.faults y.faults → ⊥) → SettlesInStory own p s x.story y.story
