-- Under honest locks and with orderly others, each commit is made from the text that it replaces.
use Rattle.std.proofs.Common.{◌≡◌, ℕ, true, List, [], ◌∷◌, Option, Some, None, Result, sym, subst}
use Rattle.folder_files.specs.Histories.{own, past_of, world_after, IsLegal, begins, answers, fails, is_dead, delivers, crashes, crashes_within, stops, AreCareful, AreHonest, AreOrderly}
use Rattle.folder_files.specs.Named.{is_committed}
use Rattle.folder_files.specs.Story.{Story, Grows, GrowsBy}
use Rattle.folder_files.specs.Worlds.{IsStart}
use Rattle.folder_files.specs.declared.event.After.{After}
use Rattle.folder_files.specs.declared.event.After.TheVariants.{Before, Made}
use Rattle.folder_files.specs.declared.event.Event.{Event}
use Rattle.folder_files.specs.declared.event.Event.TheVariants.{Act, Crash}
use Rattle.folder_files.specs.declared.place.Place.{Place}
use Rattle.folder_files.specs.declared.step.Answer.{Answer}
use Rattle.folder_files.specs.declared.step.Answer.TheVariants.{Failed}
use Rattle.folder_files.specs.declared.step.Step.{Step}
use Rattle.folder_files.specs.declared.step.Step.TheVariants as step
use Rattle.folder_files.specs.declared.world.World.{World}
use Rattle.file_plans.specs.Follows.{Turn, filed_in, deeds_in, State, Follows}
use Rattle.file_plans.specs.Plan.{Plan, Hand}
use Rattle.file_plans.specs.Rules.{Keeps, AreKept}
use Rattle.file_plans.specs.Runs.{Cause, Deed}
use Rattle.file_plans.proofs.Keeping.{run_keeps}
use Rattle.step_plans.proofs.Bases.{base_text}
use Rattle.step_plans.proofs.Law.{none_before}
use Rattle.step_plans.proofs.Locks.{honest_before}
use Rattle.step_plans.specs.Commits.{text_at}
use Rattle.step_plans.specs.Starts.{HasNoneOfTheirs}
use Rattle.step_plans.specs.Pledges.{Pledge, MayAsk, Marks, IsMarked}
use Rattle.step_plans.proofs.Ruling.{rules_of}
use Rattle.step_plans.specs.Safety.{ReplacesText, CommitsItsMarks, IsOrderlySetting, IsInOrder, StaysInOrder}
use Rattle.step_plans.proofs.KeptPledges.{OwnMay, all_careful, all_orderly}
use Rattle.step_plans.proofs.Safe.{story_may}

marked_at : (w : Pledge) (o : List _) (s : Step) (p : Place) (temp name : List ℕ) → s ≡ step.Rename p temp name → is_committed p name ≡ true → MayAsk w o s → IsMarked w p temp name o
marked_at w o s p temp name e is may = (subst (λ z. Marks w o z) e may.marks) is

-- one own step
replaces : (w : Pledge) (start : World) (past : List Event) (s : Step) (a : Answer) (m : After) → IsStart start → IsLegal start (Act w.run s a m ∷ past) → AreCareful (Act w.run s a m ∷ past) → HasNoneOfTheirs start (Act w.run s a m ∷ past)
    → AreHonest start (Act w.run s a m ∷ past) → AreOrderly (Act w.run s a m ∷ past) → MayAsk w (own w.run past) s → ReplacesText w start s past
replaces w start past s a m st l c none honest orderly may p temp name e is moment tried =
    let k = marked_at w (own w.run past) s p temp name e is may in
    let at_ : text_at (world_after start moment) p name ≡ k.old =
    base_text start past w.run p temp name a m st (subst (λ z. IsLegal start (Act w.run z a m ∷ past)) e l) (subst (λ z. AreCareful (Act w.run z a m ∷ past)) e c) (subst (λ z. HasNoneOfTheirs start (Act w.run z a m ∷ past)) e none)
    (subst (λ z. AreHonest start (Act w.run z a m ∷ past)) e honest) (subst (λ z. AreOrderly (Act w.run z a m ∷ past)) e orderly) is moment tried k.old k.is_base in
    (k.new, k.created, subst (λ z. w.may_mark (own w.run past) p name z k.new) (sym at_) k.made)

mine : (w : Pledge) (start : World) (past : List Event) (r : ℕ) (s : Step) (a : Answer) (m : After) → IsStart start → IsLegal start (Act r s a m ∷ past) → AreCareful (Act r s a m ∷ past) → HasNoneOfTheirs start (Act r s a m ∷ past)
    → AreHonest start (Act r s a m ∷ past) → AreOrderly (Act r s a m ∷ past) → (r ≡ w.run → MayAsk w (own r past) s) → r ≡ w.run → ReplacesText w start s past
mine w start past r s a m st l c none honest orderly may e =
    replaces w start past s a m st (subst (λ z. IsLegal start (Act z s a m ∷ past)) e l) (subst (λ z. AreCareful (Act z s a m ∷ past)) e c) (subst (λ z. HasNoneOfTheirs start (Act z s a m ∷ past)) e none)
    (subst (λ z. AreHonest start (Act z s a m ∷ past)) e honest) (subst (λ z. AreOrderly (Act z s a m ∷ past)) e orderly) (subst (λ z. MayAsk w (own z past) s) e (may e))

commits_marks : (w : Pledge) (start : World) (past : List Event) → IsStart start → IsLegal start past → AreCareful past → HasNoneOfTheirs start past → AreHonest start past → AreOrderly past → OwnMay w past → CommitsItsMarks w start past
commits_marks w start _ st begins c none h o f = tt
commits_marks w start _ st (answers r s a {past = past} l live fits) c none h o f =
    (mine w start past r s a _ st (answers r s a l live fits) c none h o f.0, commits_marks w start past st l c.1 (none_before start r s a Made past none) (honest_before start (Act r s a Made) past h) o.1 f.1)
commits_marks w start _ st (fails r s m {past = past} l live may) c none h o f =
    (mine w start past r s _ m st (fails r s m l live may) c none h o f.0, commits_marks w start past st l c.1 (none_before start r s Failed m past none) (honest_before start (Act r s Failed m) past h) o.1 f.1)
commits_marks w start _ st (is_dead r s {past = past} l dead) c none h o f =
    (mine w start past r s _ _ st (is_dead r s l dead) c none h o f.0, commits_marks w start past st l c.1 (none_before start r s Failed Before past none) (honest_before start (Act r s Failed Before) past h) o.1 f.1)
commits_marks w start _ st (delivers path piece {past = past} l) c none h o f = commits_marks w start past st l c none h o f
commits_marks w start _ st (crashes v {past = past} l image) c none h o f = commits_marks w start past st l c none h o f
commits_marks w start _ st (crashes_within v r s {past = past} l live image) c none h o f = (
  mine w start (Crash v ∷ past) r s _ _ st (crashes_within v r s l live image) c none h o f.0,
  commits_marks w start past st l c.1 (none_before start r s Failed Before (Crash v ∷ past) none) (honest_before start (Act r s Failed Before) (Crash v ∷ past) h) o.1 f.1,
)
commits_marks w start _ st (stops r {past = past} l) c none h o f = commits_marks w start past st l c none h o f

module _ (w : Pledge) where
  pub story_order : (old new : Story) (ts : List Turn) → IsOrderlySetting w.run old new → Grows w.run old new (filed_in ts) → AreKept (rules_of w) [] (deeds_in ts) → IsInOrder w new
  story_order old new ts s g k =
      let may = story_may w old new ts s.setting.unused g k in
      let orderly = all_orderly w (past_of new.history) s.orderly may in record {
        orderly = orderly;
        commits = commits_marks w new.start (past_of new.history) (rw g.start s.setting.start) (g.possible s.setting.possible) (all_careful w (past_of new.history) s.setting.others may) s.setting.none s.honest orderly may;
      }

  pub follows_order : {T E : Type 0} (cause : E → Cause) (plan : Plan (Result T E)) (x y : State) (result : Result T E) (Q : List Deed → Hand → Result T E → Type 0) →
      Keeps (rules_of w) [] x.hand plan Q → Follows w.run cause plan x y result → StaysInOrder w x.files.story y.files.story
  follows_order cause plan x y result Q k f =
      let kept = run_keeps (rules_of w) [] x.hand plan (deeds_in f.went.log) y.hand _ Q k f.went.runs in
      told x.files.story y.files.story f.went.grows kept.kept
    where
      told : (old new : Option Story) → GrowsBy w.run old new (filed_in f.went.log) → AreKept (rules_of w) [] (deeds_in f.went.log) → StaysInOrder w old new
      told None None g l = tt
      told (Some old) (Some new) g l = λ s. story_order old new f.went.log s g l
      told None (Some new) g l = absurd g
      told (Some old) None g l = absurd g
