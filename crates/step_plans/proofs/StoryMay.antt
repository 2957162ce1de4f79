-- The own steps of a call's story, where its plan goes as pledged.
use Rattle.std.proofs.Common.{◌≡◌, false, Result, [], Option, Some, None, refl}
use Rattle.folder_files.specs.Histories.{past_of, has_acted}
use Rattle.folder_files.specs.Story.{Story, GrowsBy}
use Rattle.file_plans.specs.Follows.{filed_in, deeds_in, State, Follows}
use Rattle.file_plans.specs.Plan.{Plan}
use Rattle.file_plans.specs.Rules.{AreKept}
use Rattle.file_plans.specs.Runs.{Cause}
use Rattle.file_plans.proofs.Keeping.{run_keeps}
use Rattle.step_plans.specs.Pledges.{Pledge}
use Rattle.step_plans.proofs.Going.{Outcome, Soundly, ByActs, Goes, goes_keeps}
use Rattle.step_plans.proofs.KeptPledges.{OwnMay}
use Rattle.step_plans.proofs.Ruling.{rules_of}
use Rattle.step_plans.proofs.Safe.{story_may}

-- where the run had made no step before the call, each of its steps is one that the command may ask for
abbrev pub StoryMay : Pledge → Option Story → Option Story → Type 0
StoryMay w None None = Unit {0}
StoryMay w (Some old) (Some new) = has_acted (past_of old.history) w.run ≡ false → OwnMay w (past_of new.history)
StoryMay w None (Some new) = ⊥
StoryMay w (Some old) None = ⊥

pub goes_may : {T E : Type 0} (w : Pledge) (cause : E → Cause) (plan : Plan (Result T E)) (x y : State) (result : Result T E) (Q : Outcome (Result T E)) →
    Goes w [] x.hand plan Q → Follows w.run cause plan x y result → StoryMay w x.files.story y.files.story
goes_may w cause plan x y result Q g f =
    let kept = run_keeps (rules_of w) [] x.hand plan (deeds_in f.went.log) y.hand _ (ByActs (Soundly w Q)) (goes_keeps w [] [] x.hand plan Q refl (record { numbered = tt; unfailed = λ z. elim z [ ] }) g) f.went.runs in
    told x.files.story y.files.story f.went.grows kept.kept
  where
    told : (old new : Option Story) → GrowsBy w.run old new (filed_in f.went.log) → AreKept (rules_of w) [] (deeds_in f.went.log) → StoryMay w old new
    told None None g l = tt
    told (Some old) (Some new) g l = λ unused. story_may w old new f.went.log unused g l
    told None (Some new) g l = absurd g
    told (Some old) None g l = absurd g
