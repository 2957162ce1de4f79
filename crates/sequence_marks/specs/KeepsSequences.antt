-- What a call keeps of the marks of all user sequences, where the others mind them.
use Rattle.std.specs.Prelude.{ℕ, List, [], Option, Some, None}
use Rattle.folder_files.specs.Histories.{IsLegal, past_of}
use Rattle.folder_files.specs.Story.{Story}
use Rattle.step_plans.specs.Safety.{IsOrderlySetting}
use Rattle.marks_law.specs.Always.{AreOrderedCrashes}
use Rattle.marks_law.specs.Apart.{AreSoundApart}
use Rattle.marks_law.specs.Bearers.{Marking}
use Rattle.marks_law.specs.Pledging.{OthersAreConsiderate, OthersAreMindful, OthersAreMindfulApart}
use Rattle.marks_law.specs.Sound.{AreSound}
use Rattle.sequence_marks.specs.SequenceMarks.{public_marks, private_marks}

-- a setting in which each step of the others that changes the folder minds its marks, each crash leaves a front part of
-- the folder's pending changes, and the marks were sound at the start
pub record IsMindfulSetting (run : ℕ) (k : Marking) (old new : Story) : Type 0 where
  pub orderly : IsOrderlySetting run old new
  pub mindful : OthersAreMindful run k (past_of new.history)
  pub legal : IsLegal new.start (past_of new.history)
  pub ordered : AreOrderedCrashes new.start k.folder legal
  pub sound : AreSound new.start k []

-- the same of marks whose text stands in another directory: the others mind them in each commit of the text too, each
-- commit of theirs is under the folder's lock or keeps the marks, and each crash leaves a front part of the pending
-- changes of the text's directory too
pub record IsMindfulSettingApart (run : ℕ) (k : Marking) (old new : Story) : Type 0 where
  pub orderly : IsOrderlySetting run old new
  pub mindful : OthersAreMindfulApart run k (past_of new.history)
  pub considerate : OthersAreConsiderate run k (past_of new.history)
  pub legal : IsLegal new.start (past_of new.history)
  pub ordered : AreOrderedCrashes new.start k.folder legal
  pub ordered_text : AreOrderedCrashes new.start k.place legal
  pub sound : AreSoundApart new.start k []

-- there the marks of each sequence of each folder are sound, the public ones and the private ones: no mark passes to
-- another message
pub record SequencesStaySound (run : ℕ) (old new : Story) : Type 0 where
  pub public : (mail folder sequence : List ℕ) → IsMindfulSetting run (public_marks mail folder sequence) old new
      → AreSound new.start (public_marks mail folder sequence) (past_of new.history)
  pub private : (mail folder sequence : List ℕ) → IsMindfulSettingApart run (private_marks mail folder sequence) old new
      → AreSoundApart new.start (private_marks mail folder sequence) (past_of new.history)

-- so of a call, where a story is told
abbrev pub KeepsSequences : ℕ → Option Story → Option Story → Type 0
KeepsSequences run None None = Unit {0}
KeepsSequences run (Some old) (Some new) = SequencesStaySound run old new
KeepsSequences run None (Some new) = ⊥
KeepsSequences run (Some old) None = ⊥
