-- What each call promises whose plan keeps a command's rules.
use Rattle.std.proofs.Common.{◌≡◌, [], false, List, Option, Some, None, Result, map, length, refl, sym, subst}
use Rattle.folder_files.specs.Histories.{past_of, has_acted, AreCareful}
use Rattle.folder_files.specs.Story.{Story, Grows, GrowsBy, event_of, places}
use Rattle.file_plans.specs.Follows.{Turn, filed_in, deeds_in, State, Follows}
use Rattle.file_plans.specs.Plan.{Plan, Hand}
use Rattle.file_plans.specs.Rules.{Keeps, AreKept}
use Rattle.file_plans.specs.Runs.{Cause, Deed}
use Rattle.file_plans.specs.StaysCareful.{GoesOnCarefully, IsTold, StaysCareful}
use Rattle.file_plans.proofs.Keeping.{run_keeps}
use Rattle.step_plans.proofs.Kept.{loses_nothing}
use Rattle.step_plans.specs.Pledges.{Pledge}
use Rattle.step_plans.proofs.Ruling.{rules_of}
use Rattle.step_plans.specs.Safety.{IsSetting, IsSafe, IsUnused, GoesAsPledged, GoesByBases, StaysSafe}
use Rattle.step_plans.proofs.KeptPledges.{OwnMay, hold_steps, meet_steps, unused_own, unused_may, all_careful, steps_pledged, commits_by_bases, takes_none}

module _ (w : Pledge) where
  -- the call's own steps are careful and of the command's kinds
  pub story_careful : (old new : Story) (ts : List Turn) → has_acted (past_of old.history) w.run ≡ false → Grows w.run old new (filed_in ts) → AreKept (rules_of w) [] (deeds_in ts) → GoesOnCarefully w.run w.manner old new
  story_careful old new ts unused g k = record {
    start = g.start;
    more = map (event_of w.run) (filed_in ts);
    history = g.history;
    possible = g.possible;
    added = places (length old.history) (filed_in ts);
    asked = g.asked;
    own_steps = hold_steps w ts [] old.history new.history (length old.history) g.history refl (unused_own w.run (past_of old.history) unused) g.others k;
  }

  -- each own step is one that the command may ask for
  pub story_may : (old new : Story) (ts : List Turn) → has_acted (past_of old.history) w.run ≡ false → Grows w.run old new (filed_in ts) → AreKept (rules_of w) [] (deeds_in ts) → OwnMay w (past_of new.history)
  story_may old new ts unused g k =
      subst (λ z. OwnMay w (past_of z)) (sym g.history) (meet_steps w ts [] old.history (unused_own w.run (past_of old.history) unused) g.others k (unused_may w (past_of old.history) unused))

  story_all : (old new : Story) (ts : List Turn) → IsSetting w.run old new → Grows w.run old new (filed_in ts) → AreKept (rules_of w) [] (deeds_in ts) → AreCareful (past_of new.history)
  story_all old new ts s g k = all_careful w (past_of new.history) s.others (story_may old new ts s.unused g k)

  -- no mail is lost, and no number taken, whatever the others do, if they are careful
  pub story_safe : (old new : Story) (ts : List Turn) → IsSetting w.run old new → Grows w.run old new (filed_in ts) → AreKept (rules_of w) [] (deeds_in ts) → IsSafe new
  story_safe old new ts s g k =
      let legal = g.possible s.possible in let care = story_all old new ts s g k in record {
        loses_nothing = loses_nothing new.start (past_of new.history) (rw g.start s.start) legal care s.none;
        takes_no_number = takes_none new.start (past_of new.history) legal care;
      }

  pub follows_careful : {T E : Type 0} (cause : E → Cause) (plan : Plan (Result T E)) (x y : State) (result : Result T E) (Q : List Deed → Hand → Result T E → Type 0) →
      IsUnused w.run x.files.story → Keeps (rules_of w) [] x.hand plan Q → Follows w.run cause plan x y result → StaysCareful w.run w.manner x.files y.files
  follows_careful cause plan x y result Q unused k f =
      let kept = run_keeps (rules_of w) [] x.hand plan (deeds_in f.went.log) y.hand _ Q k f.went.runs in
      told x.files.story y.files.story unused f.went.grows kept.kept
    where
      told : (old new : Option Story) → IsUnused w.run old → GrowsBy w.run old new (filed_in f.went.log) → AreKept (rules_of w) [] (deeds_in f.went.log) → IsTold w.run w.manner old new
      told None None u g l = tt
      told (Some old) (Some new) u g l = story_careful old new f.went.log u g l
      told None (Some new) u g l = absurd g
      told (Some old) None u g l = absurd g

  pub follows_pledge : {T E : Type 0} (cause : E → Cause) (plan : Plan (Result T E)) (x y : State) (result : Result T E) (Q : List Deed → Hand → Result T E → Type 0) →
      Keeps (rules_of w) [] x.hand plan Q → Follows w.run cause plan x y result → GoesAsPledged w x.files.story y.files.story
  follows_pledge cause plan x y result Q k f =
      let kept = run_keeps (rules_of w) [] x.hand plan (deeds_in f.went.log) y.hand _ Q k f.went.runs in
      told x.files.story y.files.story f.went.grows kept.kept
    where
      told : (old new : Option Story) → GrowsBy w.run old new (filed_in f.went.log) → AreKept (rules_of w) [] (deeds_in f.went.log) → GoesAsPledged w old new
      told None None g l = tt
      told (Some old) (Some new) g l = λ unused. steps_pledged w (past_of new.history) (story_may old new f.went.log unused g l)
      told None (Some new) g l = absurd g
      told (Some old) None g l = absurd g

  pub follows_bases : {T E : Type 0} (cause : E → Cause) (plan : Plan (Result T E)) (x y : State) (result : Result T E) (Q : List Deed → Hand → Result T E → Type 0) →
      Keeps (rules_of w) [] x.hand plan Q → Follows w.run cause plan x y result → GoesByBases w x.files.story y.files.story
  follows_bases cause plan x y result Q k f =
      let kept = run_keeps (rules_of w) [] x.hand plan (deeds_in f.went.log) y.hand _ Q k f.went.runs in
      told x.files.story y.files.story f.went.grows kept.kept
    where
      told : (old new : Option Story) → GrowsBy w.run old new (filed_in f.went.log) → AreKept (rules_of w) [] (deeds_in f.went.log) → GoesByBases w old new
      told None None g l = tt
      told (Some old) (Some new) g l = λ unused. commits_by_bases w (past_of new.history) (story_may old new f.went.log unused g l)
      told None (Some new) g l = absurd g
      told (Some old) None g l = absurd g

  pub follows_safe : {T E : Type 0} (cause : E → Cause) (plan : Plan (Result T E)) (x y : State) (result : Result T E) (Q : List Deed → Hand → Result T E → Type 0) →
      Keeps (rules_of w) [] x.hand plan Q → Follows w.run cause plan x y result → StaysSafe w.run x.files.story y.files.story
  follows_safe cause plan x y result Q k f =
      let kept = run_keeps (rules_of w) [] x.hand plan (deeds_in f.went.log) y.hand _ Q k f.went.runs in
      told x.files.story y.files.story f.went.grows kept.kept
    where
      told : (old new : Option Story) → GrowsBy w.run old new (filed_in f.went.log) → AreKept (rules_of w) [] (deeds_in f.went.log) → StaysSafe w.run old new
      told None None g l = tt
      told (Some old) (Some new) g l = λ s. story_safe old new f.went.log s g l
      told None (Some new) g l = absurd g
      told (Some old) None g l = absurd g
