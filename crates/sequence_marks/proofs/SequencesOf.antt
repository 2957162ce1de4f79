-- A call keeps the marks of all user sequences, of the private ones those of such folders, where each step that its command may ask for minds
-- them.
use Rattle.std.proofs.Common.{◌≡◌, ℕ, false, List, Option, Some, None, refl}
use Rattle.folder_files.specs.Histories.{has_acted, past_of}
use Rattle.folder_files.specs.Story.{Story}
use Rattle.folder_files.specs.declared.place.Place.TheVariants.{Folder}
use Rattle.step_plans.specs.Pledges.{Pledge}
use Rattle.step_plans.proofs.KeptPledges.{OwnMay}
use Rattle.step_plans.proofs.StoryMay.{StoryMay}
use Rattle.marks_law.proofs.Minded.{MayMind, MayMindApart, marks_kept, marks_kept_apart}
use Rattle.sequence_marks.specs.KeepsSequencesOf.{KeepsSequencesOf, SequencesStaySoundOf}
use Rattle.sequence_marks.specs.SequenceMarks.{private_marks, public_marks, says_public}
use Rattle.sequence_marks.proofs.Sequences.{SameStart, shared}
use Rattle.sequence_marks.proofs.Silence.{private_committed, private_silent, public_committed, public_silent}

-- each step that the command may ask for minds these marks
pub record MindsSequencesOf (Of : List ℕ → Type 0) (w : Pledge) : Type 0 where
  pub public : (mail folder sequence : List ℕ) → MayMind w (public_marks mail folder sequence)
  pub private : (mail folder sequence : List ℕ) → Of folder → MayMindApart w (private_marks mail folder sequence)

module _ (Of : List ℕ → Type 0) (w : Pledge) (minds : MindsSequencesOf Of w) where
  stay_sound : (old new : Story) → new.start ≡ old.start → (has_acted (past_of old.history) w.run ≡ false → OwnMay w (past_of new.history)) → SequencesStaySoundOf Of w.run old new
  stay_sound old new same may = record {
    public = λ mail folder sequence s.
        marks_kept w (Folder mail folder) (public_marks mail folder sequence).name (says_public sequence) new.start (past_of new.history) (public_committed mail folder sequence) refl (public_silent sequence) (minds.public mail folder sequence)
        (shared w old new s.orderly same (may s.orderly.setting.unused)) s.mindful s.legal s.ordered s.sound;
    private = λ mail folder sequence is s.
        marks_kept_apart w (private_marks mail folder sequence) new.start (past_of new.history) (private_committed mail folder sequence) refl (private_silent folder sequence) (minds.private mail folder sequence is)
        (shared w old new s.orderly same (may s.orderly.setting.unused)) s.mindful s.considerate s.legal s.ordered s.ordered_text s.sound;
  }

  pub sequences_kept_of : (old new : Option Story) → SameStart old new → StoryMay w old new → KeepsSequencesOf Of w.run old new
  sequences_kept_of None None same may = tt
  sequences_kept_of (Some old) (Some new) same may = stay_sound old new same may
  sequences_kept_of None (Some new) same may = absurd may
  sequences_kept_of (Some old) None same may = absurd may
