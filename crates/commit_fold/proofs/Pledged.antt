-- Runs that commit as their pledges say replace texts as the law asks.
use Rattle.std.proofs.Common.{◌≡◌, inl, inr, ◌++◌, ℕ, true, List, [], ◌∷◌, refl, sym, ◌∙◌, subst, append_assoc}
use Rattle.folder_files.specs.Deeds.{Deed, did, WasDone}
use Rattle.folder_files.specs.Histories.{world_after, own, IsLegal, AreCareful}
use Rattle.folder_files.specs.Named.{is_committed}
use Rattle.folder_files.specs.Worlds.{IsStart}
use Rattle.folder_files.specs.declared.event.After.{After}
use Rattle.folder_files.specs.declared.event.Event.{Event}
use Rattle.folder_files.specs.declared.event.Event.TheVariants.{Act, Deliver, Crash, End}
use Rattle.folder_files.specs.declared.place.Place.{Place}
use Rattle.folder_files.specs.declared.step.Answer.{Answer}
use Rattle.folder_files.specs.declared.step.Step.{Step}
use Rattle.folder_files.specs.declared.step.Step.TheVariants.{Create, Rename}
use Rattle.folder_files.specs.declared.world.World.{World}
use Rattle.step_plans.specs.Commits.{text_at}
use Rattle.step_plans.specs.Moments.{IsTriedAt}
use Rattle.step_plans.specs.Pledges.{Pledge}
use Rattle.step_plans.specs.Safety.{CommitsItsMarks}
use Rattle.step_plans.specs.Starts.{HasNoneOfTheirs}
use Rattle.step_plans.proofs.Drops.{own_split}
use Rattle.step_plans.proofs.Past.{own_deliver, own_crash, own_end}
use Rattle.commit_fold.specs.Folding.{Replaces, OwnAreReplacing, Makes, IsFold}
use Rattle.commit_fold.specs.Pledged.{IsBack, as_pledged}
use Rattle.commit_fold.proofs.Folding.{of_each_run}
use Rattle.commit_fold.proofs.Telling.{fold_so}

back_same : {all now before : List Deed} → now ≡ before → IsBack now all → IsBack before all
back_same {all = all} e k = subst (λ (z : List Deed). IsBack z all) e k

back_one : {all older : List Deed} (d : Deed) → IsBack (d ∷ older) all → IsBack older all
back_one {older = older} d k = (k.0 ++ (d ∷ []), append_assoc k.0 (d ∷ []) older ∙ k.1)

-- a run's deeds before an act are deeds that it had
back_act : (r o : ℕ) (s : Step) (a : Answer) (m : After) (past : List Event) {all : List Deed} → IsBack (own r (Act o s a m ∷ past)) all → IsBack (own r past) all
back_act r o s a m past k = elim (own_split r o s a m past) [
  | inl z ↦ back_one (did s a) (back_same z.1 k)
  | inr z ↦ back_same z.1 k
]

module _ (pledges : ℕ → Pledge) (start : World) (p : Place) (x : List ℕ) (c : is_committed p x ≡ true) (whole : List Event) where
  abbrev may : ℕ → ℕ → List ℕ → List ℕ → Type 0
  may = as_pledged pledges p x whole

  -- what the pledge says of the step, of the run by its own number
  abbrev ReplacesAs : Pledge → ℕ → Step → List Event → Type 0
  ReplacesAs w r s past =
      (q : Place) (temp name : List ℕ) → s ≡ Rename q temp name → is_committed q name ≡ true → (moment : List Event) → IsTriedAt start r moment past
      → (new : List ℕ) × WasDone (Create q temp new) (own r past) × w.may_mark (own r past) q name (text_at (world_after start moment) q name) new

  one : (r : ℕ) (s : Step) (past : List Event) → IsBack (own r past) (own r whole) → ReplacesAs (pledges r) r s past → Replaces may start p x r s past
  one r s past back h t es moment tr = let k = h p t x es c moment tr in (k.0, k.1, (own r past, back, refl, k.2))

  own_replacing : (r : ℕ) → (pledges r).run ≡ r → (past : List Event) → IsBack (own r past) (own r whole) → CommitsItsMarks (pledges r) start past → OwnAreReplacing may r start p x past
  own_replacing r e [] back h = tt
  own_replacing r e (Act o s a m ∷ past) back h = (
    λ same. subst (λ (z : ℕ). Replaces may start p x z s past) (sym same) (one r s past (back_act r o s a m past back) (subst (λ (z : ℕ). ReplacesAs (pledges r) z s past) e (h.0 (same ∙ sym e)))),
    own_replacing r e past (back_act r o s a m past back) h.1,
  )
  own_replacing r e (Deliver path piece ∷ past) back h = own_replacing r e past (back_same (own_deliver r path piece past) back) h
  own_replacing r e (Crash v ∷ past) back h = own_replacing r e past (back_same (own_crash r v past) back) h
  own_replacing r e (End o ∷ past) back h = own_replacing r e past (back_same (own_end r o past) back) h

-- each run has its pledge, and commits as it says
abbrev pub CommitAsPledged : (ℕ → Pledge) → World → List Event → Type 0
CommitAsPledged pledges start past = (run : ℕ) → ((pledges run).run ≡ run) × CommitsItsMarks (pledges run) start past

pub fold_of_pledges : (start : World) (past : List Event) (p : Place) (x : List ℕ) (pledges : ℕ → Pledge) → IsStart start → IsLegal start past → AreCareful past → HasNoneOfTheirs start past
    → is_committed p x ≡ true → CommitAsPledged pledges start past → IsFold start p x (Makes (as_pledged pledges p x past) (text_at (world_after start []) p x)) past
fold_of_pledges start past p x pledges st l careful fresh c commits = fold_so (as_pledged pledges p x past) start past p x st l careful fresh c
    (of_each_run (as_pledged pledges p x past) start p x past (λ r. own_replacing pledges start p x c past r (commits r).0 past ([], refl) (commits r).1))
