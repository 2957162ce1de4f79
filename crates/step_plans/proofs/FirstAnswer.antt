-- A call whose pledge the answer to its first step names.
use Rattle.std.proofs.Common.{◌≡◌, ◌⊎◌, inl, inr, ◌++◌, ◌∷◌, [], ℕ, List, Result, Ok, refl, sym, ◌∙◌, ap, subst, append_assoc}
use Rattle.folder_files.specs.Deeds as deeds
use Rattle.folder_files.specs.Deeds.{did}
use Rattle.folder_files.specs.declared.step.Step.{Step}
use Rattle.folder_files.specs.declared.step.Answer.{Answer}
use Rattle.folder_files.specs.declared.step.Answer.TheVariants.{Failed}
use Rattle.file_plans.specs.Follows.{deeds_in, State, Follows}
use Rattle.file_plans.specs.Plan.{Hand, Plan, Ask}
use Rattle.file_plans.specs.Rules.{IsKeptExit}
use Rattle.file_plans.specs.Runs.{Cause, Exit, exit_of, Deed, Did, Said, Heard, Runs}
use Rattle.file_plans.proofs.Acting.{acts, acts_over}
use Rattle.file_plans.proofs.Keeping.{run_keeps}
use Rattle.step_plans.specs.Pledges.{Pledge}
use Rattle.step_plans.proofs.Going.{Outcome, Soundly, ByActs, Goes, goes_keeps}
use Rattle.step_plans.proofs.Ruling.{rules_of}

-- the first deed is this step with this answer, if there is one
abbrev pub BeginsWith : Step → Answer → List Deed → Type 0
BeginsWith s a ds = (ds ≡ []) ⊎ ((rest : List Deed) × (ds ≡ Did s a ∷ rest))

-- the first step, and then what comes after this answer, whatever was answered
abbrev pub answered : {R : Type 0} → Step → (Answer → Plan R) → Answer → Plan R
answered s next a = Ask s (λ b. next a)

began_with : (s t : Step) (a : Answer) (ds : List Deed) → t ≡ s → BeginsWith s a (Did t a ∷ ds)
began_with s t a ds e = inr (ds, ap (λ z. Did z a ∷ ds) e)

runs_answered : {R : Type 0} (s : Step) (next : Answer → Plan R) (h j : Hand) (ds : List Deed) (x : Exit R) → Runs (Ask s next) h ds j x → (a : Answer) × BeginsWith s a ds × Runs (answered s next a) h ds j x
unfolding Runs
runs_answered s next h j [] x f = (Failed, inl refl, f)
runs_answered s next h j (Did t a ∷ ds) x f = (a, began_with s t a ds f.0, f)
runs_answered s next h j (Said piece ∷ ds) x f = absurd f
runs_answered s next h j (Heard piece ∷ ds) x f = absurd f

-- a call that followed such a plan, with the answer
pub record Answers {T E : Type 0} (run : ℕ) (cause : E → Cause) (s : Step) (next : Answer → Plan (Result T E)) (x y : State) (result : Result T E) : Type 0 where
  pub answer : Answer
  pub follows : Follows run cause (answered s next answer) x y result
  pub begins : BeginsWith s answer (deeds_in follows.went.log)

pub follows_answered : {T E : Type 0} (run : ℕ) (cause : E → Cause) (s : Step) (next : Answer → Plan (Result T E)) (x y : State) (result : Result T E) → Follows run cause (Ask s next) x y result → Answers run cause s next x y result
follows_answered run cause s next x y result f =
    let at_ = runs_answered s next x.hand y.hand (deeds_in f.went.log) (exit_of cause result) f.went.runs in record {
      answer = at_.0;
      follows = record {
        went = record {
          log = f.went.log;
          grows = f.went.grows;
          adds = f.went.adds;
          hears = f.went.hears;
          runs = at_.2;
          files_cause = f.went.files_cause;
          failed_cause = f.went.failed_cause;
          in_cause = f.went.in_cause;
          out_cause = f.went.out_cause;
          files_later = f.went.files_later;
          in_later = f.went.in_later;
          out_later = f.went.out_later;
        };
      };
      begins = at_.1;
    }

pub over_these : (past : List deeds.Deed) (ds : List Deed) → acts_over past ds ≡ acts ds ++ past
over_these past [] = refl
over_these past (Did s a ∷ ds) = over_these (did s a ∷ past) ds ∙ (sym (append_assoc (acts ds) (did s a ∷ []) past) ∙ ap (λ t. t ++ past) (sym (over_these (did s a ∷ []) ds)))
over_these past (Said piece ∷ ds) = over_these past ds
over_these past (Heard piece ∷ ds) = over_these past ds

-- the run's oldest own deed is this step with this answer, if there is one
pub acts_begin : (s : Step) (a : Answer) (ds : List Deed) → BeginsWith s a ds → (acts ds ≡ []) ⊎ ((newer : List deeds.Deed) × (acts ds ≡ newer ++ did s a ∷ []))
acts_begin s a ds (inl e) = inl (ap acts e)
acts_begin s a ds (inr b) = inr (acts b.0, ap acts b.1 ∙ over_these (did s a ∷ []) b.0)

-- what holds at a call's return
pub goes_gave : {T E : Type 0} (w : Pledge) (cause : E → Cause) (plan : Plan (Result T E)) (x y : State) (result : Result T E) (Q : Outcome (Result T E)) → Goes w [] x.hand plan Q → (f : Follows w.run cause plan x y result) → (t : T) → result ≡ Ok t →
    Q (acts (deeds_in f.went.log)) y.hand (Ok t)
goes_gave w cause plan x y result Q g f t e =
    let kept = run_keeps (rules_of w) [] x.hand plan (deeds_in f.went.log) y.hand (exit_of cause result) (ByActs (Soundly w Q)) (goes_keeps w [] [] x.hand plan Q refl (record { numbered = tt; unfailed = λ z. elim z [ ] }) g) f.went.runs in
    (subst (λ r. IsKeptExit (rules_of w) (ByActs (Soundly w Q)) (deeds_in f.went.log) y.hand (exit_of cause r)) e kept.gave).1
