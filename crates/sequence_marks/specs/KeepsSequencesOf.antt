-- What a call keeps of the marks of user sequences, of the private ones those of such folders alone.
use Rattle.std.specs.Prelude.{ℕ, List, Option, Some, None}
use Rattle.folder_files.specs.Histories.{past_of}
use Rattle.folder_files.specs.Story.{Story}
use Rattle.marks_law.specs.Apart.{AreSoundApart}
use Rattle.marks_law.specs.Sound.{AreSound}
use Rattle.sequence_marks.specs.KeepsSequences.{IsMindfulSetting, IsMindfulSettingApart}
use Rattle.sequence_marks.specs.SequenceMarks.{private_marks, public_marks}

-- in such a setting the marks of each sequence of each folder are sound: the public ones, and of these folders the
-- private ones
pub record SequencesStaySoundOf (Of : List ℕ → Type 0) (run : ℕ) (old new : Story) : Type 0 where
  pub public : (mail folder sequence : List ℕ) → IsMindfulSetting run (public_marks mail folder sequence) old new
      → AreSound new.start (public_marks mail folder sequence) (past_of new.history)
  pub private : (mail folder sequence : List ℕ) → Of folder
      → IsMindfulSettingApart run (private_marks mail folder sequence) old new
      → AreSoundApart new.start (private_marks mail folder sequence) (past_of new.history)

-- so of a call, where a story is told
abbrev pub KeepsSequencesOf : (List ℕ → Type 0) → ℕ → Option Story → Option Story → Type 0
KeepsSequencesOf Of run None None = Unit {0}
KeepsSequencesOf Of run (Some old) (Some new) = SequencesStaySoundOf Of run old new
KeepsSequencesOf Of run None (Some new) = ⊥
KeepsSequencesOf Of run (Some old) None = ⊥
