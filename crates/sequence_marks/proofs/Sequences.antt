-- A call keeps the marks of all user sequences where each step that its command may ask for minds them.
use Rattle.std.proofs.Common.{◌≡◌, ℕ, false, List, Option, Some, None, refl}
use Rattle.folder_files.specs.Histories.{past_of, has_acted}
use Rattle.folder_files.specs.Story.{Story}
use Rattle.folder_files.specs.declared.place.Place.TheVariants.{Folder}
use Rattle.step_plans.specs.Pledges.{Pledge}
use Rattle.step_plans.specs.Safety.{IsOrderlySetting}
use Rattle.step_plans.proofs.KeptPledges.{OwnMay}
use Rattle.step_plans.proofs.StoryMay.{StoryMay}
use Rattle.marks_law.proofs.Minded.{IsShared, MayMind, MayMindApart, marks_kept, marks_kept_apart}
use Rattle.sequence_marks.specs.KeepsSequences.{KeepsSequences, SequencesStaySound}
use Rattle.sequence_marks.specs.SequenceMarks.{says_public, public_marks, private_marks}
use Rattle.sequence_marks.proofs.Silence.{public_silent, public_committed, private_silent, private_committed}

-- each step that the command may ask for minds the marks of all sequences
pub record MindsSequences (w : Pledge) : Type 0 where
  pub public : (mail folder sequence : List ℕ) → MayMind w (public_marks mail folder sequence)
  pub private : (mail folder sequence : List ℕ) → MayMindApart w (private_marks mail folder sequence)

-- the start of the story stays
abbrev pub SameStart : Option Story → Option Story → Type 0
SameStart None None = Unit {0}
SameStart (Some old) (Some new) = new.start ≡ old.start
SameStart None (Some new) = ⊥
SameStart (Some old) None = ⊥

module _ (w : Pledge) where
  pub shared : (old new : Story) → IsOrderlySetting w.run old new → new.start ≡ old.start → OwnMay w (past_of new.history) → IsShared w new.start (past_of new.history)
  shared old new s same may = record {
    start_is = rw same s.setting.start;
    none = s.setting.none;
    honest = s.honest;
    careful = s.setting.others;
    orderly = s.orderly;
    may = may;
  }

module _ (w : Pledge) (minds : MindsSequences w) where
  stay_sound : (old new : Story) → new.start ≡ old.start → (has_acted (past_of old.history) w.run ≡ false → OwnMay w (past_of new.history)) → SequencesStaySound w.run old new
  stay_sound old new same may = record {
    public = λ mail folder sequence s.
        marks_kept w (Folder mail folder) (public_marks mail folder sequence).name (says_public sequence) new.start (past_of new.history) (public_committed mail folder sequence) refl (public_silent sequence) (minds.public mail folder sequence)
        (shared w old new s.orderly same (may s.orderly.setting.unused)) s.mindful s.legal s.ordered s.sound;
    private = λ mail folder sequence s.
        marks_kept_apart w (private_marks mail folder sequence) new.start (past_of new.history) (private_committed mail folder sequence) refl (private_silent folder sequence) (minds.private mail folder sequence)
        (shared w old new s.orderly same (may s.orderly.setting.unused)) s.mindful s.considerate s.legal s.ordered s.ordered_text s.sound;
  }

  pub sequences_kept : (old new : Option Story) → SameStart old new → StoryMay w old new → KeepsSequences w.run old new
  sequences_kept None None same may = tt
  sequences_kept (Some old) (Some new) same may = stay_sound old new same may
  sequences_kept None (Some new) same may = absurd may
  sequences_kept (Some old) None same may = absurd may
