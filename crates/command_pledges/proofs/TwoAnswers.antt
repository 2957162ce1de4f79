-- A call whose pledge the answers to its first two steps name.
use Rattle.std.proofs.Common.{◌≡◌, ◌≢◌, ◌⊎◌, inl, inr, ◌++◌, ◌∷◌, [], ℕ, List, Result, refl, ◌∙◌, ap, subst}
use Rattle.folder_files.specs.Deeds as deeds
use Rattle.folder_files.specs.Deeds.{HasFailed, did, now, on}
use Rattle.folder_files.specs.declared.step.Answer.{Answer}
use Rattle.folder_files.specs.declared.step.Answer.TheVariants.{Failed}
use Rattle.folder_files.specs.declared.place.Place.{Place}
use Rattle.folder_files.specs.declared.step.Step.{Step}
use Rattle.folder_files.specs.declared.step.Step.TheVariants.{Read}
use Rattle.file_plans.specs.Follows.{Follows, State, deeds_in}
use Rattle.file_plans.specs.Plan.{Ask, Hand, Plan, Return}
use Rattle.file_plans.specs.Rules.{Keeps}
use Rattle.file_plans.specs.Runs.{Cause, Deed, Did, Exit, Heard, Runs, Said, exit_of}
use Rattle.file_plans.proofs.Acting.{acts}
use Rattle.step_plans.specs.Pledges.{Pledge}
use Rattle.step_plans.proofs.FirstAnswer.{BeginsWith, answered, over_these}
use Rattle.step_plans.proofs.Going.{Sound}
use Rattle.step_plans.proofs.Ruling.{rules_of}
use Rattle.command_plans.proofs.FirstReadings.{may_read}

-- how a plan goes on after its first step: it ends, or makes this one
abbrev pub Onward : {R : Type 0} → Step → Plan R → Type 0
Onward {R = R} t p = ((r : R) × (p ≡ Return r)) ⊎ ((k : Answer → Plan R) × (p ≡ Ask t k))

-- the rest of the plan, whatever is answered to this step, as if this had been
abbrev pub rest_by : {R : Type 0} (t : Step) (p : Plan R) → Onward t p → Answer → Plan R
rest_by t p (inl ended) b = Return ended.0
rest_by t p (inr more) b = Ask t (λ c. more.0 b)

-- the first deeds are these steps with these answers, as many as there are
abbrev pub BeginWith : Step → Answer → Step → Answer → List Deed → Type 0
BeginWith s a t b ds = (ds ≡ []) ⊎ ((ds ≡ Did s a ∷ []) ⊎ ((rest : List Deed) × (ds ≡ Did s a ∷ (Did t b ∷ rest))))

-- a run of such a plan, with both answers
pub record TwoAnswers {R : Type 0} (s : Step) (t : Answer → Step) (next : Answer → Plan R) (onward : (a : Answer) → Onward (t a) (next a)) (h j : Hand) (ds : List Deed) (x : Exit R) : Type 0 where
  pub first : Answer
  pub second : Answer
  pub begin : BeginWith s first (t first) second ds
  pub runs : Runs (Ask s (λ c. rest_by (t first) (next first) (onward first) second)) h ds j x

head_is : (d e : Deed) (ds rest : List Deed) → ◌≡◌ {A = List Deed} (d ∷ ds) (e ∷ rest) → d ≡ e
head_is d e ds rest same = cc

no_deeds : (d : Deed) (ds : List Deed) → ◌≡◌ {A = List Deed} (d ∷ ds) [] → ⊥
no_deeds d ds same = cc

headed : (s : Step) (a : Answer) (d : Deed) (ds : List Deed) → BeginsWith s a (d ∷ ds) → d ≡ Did s a
headed s a d ds (inl none) = absurd (no_deeds d ds none)
headed s a d ds (inr b) = head_is d (Did s a) ds b.0 b.1

alone_with : (s : Step) (a : Answer) (t : Step) (b : Answer) (d : Deed) (ds : List Deed) → d ≡ Did s a → ds ≡ [] → BeginWith s a t b (d ∷ ds)
alone_with s a t b d ds head none = inr (inl (λ i. head i ∷ none i))

both_with : (s : Step) (a : Answer) (t : Step) (b : Answer) (d : Deed) (ds : List Deed) → d ≡ Did s a → BeginsWith t b ds → BeginWith s a t b (d ∷ ds)
both_with s a t b d ds head (inl none) = alone_with s a t b d ds head none
both_with s a t b d ds head (inr more) = inr (inr (more.0, λ i. head i ∷ more.1 i))

began_with : (s t : Step) (a : Answer) (ds : List Deed) → t ≡ s → BeginsWith s a (Did t a ∷ ds)
began_with s t a ds e = inr (ds, ap (λ z. Did z a ∷ ds) e)

runs_answered : {R : Type 0} (s : Step) (next : Answer → Plan R) (h j : Hand) (ds : List Deed) (x : Exit R) → Runs (Ask s next) h ds j x → (a : Answer) × BeginsWith s a ds × Runs (answered s next a) h ds j x
unfolding Runs
runs_answered s next h j [] x f = (Failed, inl refl, f)
runs_answered s next h j (Did t a ∷ ds) x f = (a, began_with s t a ds f.0, f)
runs_answered s next h j (Said piece ∷ ds) x f = absurd f
runs_answered s next h j (Heard piece ∷ ds) x f = absurd f

record Second {R : Type 0} (s : Step) (a : Answer) (t : Step) (k : Answer → Plan R) (h j : Hand) (ds : List Deed) (x : Exit R) : Type 0 where
  answer : Answer
  begin : BeginWith s a t answer ds
  runs : Runs (Ask s (λ c. Ask t (λ d. k answer))) h ds j x

runs_second : {R : Type 0} (s t : Step) (k : Answer → Plan R) (a : Answer) (h j : Hand) (ds : List Deed) (x : Exit R) → BeginsWith s a ds → Runs (Ask s (λ c. Ask t k)) h ds j x → Second s a t k h j ds x
unfolding Runs
runs_second s t k a h j [] x b f = record { answer = Failed; begin = inl refl; runs = f }
runs_second s t k a h j (Did m c ∷ ds) x b (is, row, inl e) = record { answer = Failed; begin = alone_with s a t Failed (Did m c) ds (headed s a (Did m c) ds b) e.1; runs = (is, row, inl e) }
runs_second s t k a h j (Did m c ∷ ds) x b (is, row, inr (live, g)) =
    let r = runs_answered t k h j ds x g in
    record { answer = r.0; begin = both_with s a t r.0 (Did m c) ds (headed s a (Did m c) ds b) r.1; runs = (is, row, inr (live, r.2)) }
runs_second s t k a h j (Said piece ∷ ds) x b f = absurd f
runs_second s t k a h j (Heard piece ∷ ds) x b f = absurd f

runs_ended : {R : Type 0} (s t : Step) (r : R) (a b : Answer) (h j : Hand) (ds : List Deed) (x : Exit R) → BeginsWith s a ds → Runs (Ask s (λ c. Return r)) h ds j x → BeginWith s a t b ds
unfolding Runs
runs_ended s t r a b h j [] x begin f = inl refl
runs_ended s t r a b h j (Did m c ∷ []) x begin f = alone_with s a t b (Did m c) [] (headed s a (Did m c) [] begin) refl
runs_ended s t r a b h j (Did m c ∷ (d ∷ ds)) x begin (is, row, inl e) = absurd (no_deeds d ds e.1)
runs_ended s t r a b h j (Did m c ∷ (d ∷ ds)) x begin (is, row, inr (live, g)) = absurd g
runs_ended s t r a b h j (Said piece ∷ ds) x begin f = absurd f
runs_ended s t r a b h j (Heard piece ∷ ds) x begin f = absurd f

-- a call that follows a plan follows another with the same deeds
pub follows_so : {T E : Type 0} (run : ℕ) (cause : E → Cause) (p q : Plan (Result T E)) (x y : State) (result : Result T E) (f : Follows run cause p x y result) → Runs q x.hand (deeds_in f.went.log) y.hand (exit_of cause result) → Follows run cause q x y result
follows_so run cause p q x y result f runs = record {
  went = record {
    log = f.went.log;
    grows = f.went.grows;
    adds = f.went.adds;
    hears = f.went.hears;
    runs = runs;
    files_cause = f.went.files_cause;
    failed_cause = f.went.failed_cause;
    in_cause = f.went.in_cause;
    out_cause = f.went.out_cause;
    files_later = f.went.files_later;
    in_later = f.went.in_later;
    out_later = f.went.out_later;
  };
}

module _ {R : Type 0} (s : Step) (t : Answer → Step) (next : Answer → Plan R) (h j : Hand) (ds : List Deed) (x : Exit R) where
  runs_at : (a : Answer) (p : Plan R) → next a ≡ p → Runs (answered s next a) h ds j x → Runs (Ask s (λ d. p)) h ds j x
  runs_at a p is runs = subst (λ q. Runs (Ask s (λ d. q)) h ds j x) is runs

  second_by : (a : Answer) → BeginsWith s a ds → (o : Onward (t a) (next a)) → Runs (answered s next a) h ds j x → (b : Answer) × BeginWith s a (t a) b ds × Runs (Ask s (λ d. rest_by (t a) (next a) o b)) h ds j x
  second_by a begins (inl ended) runs =
      let f = runs_at a (Return ended.0) ended.1 runs in
      (Failed, runs_ended s (t a) ended.0 a Failed h j ds x begins f, f)
  second_by a begins (inr on_) runs =
      let u = runs_second s (t a) on_.0 a h j ds x begins (runs_at a (Ask (t a) on_.0) on_.1 runs) in
      (u.answer, u.begin, u.runs)

  pub two_answers : (onward : (a : Answer) → Onward (t a) (next a)) → Runs (Ask s next) h ds j x → TwoAnswers s t next onward h j ds x
  two_answers onward f =
      let r = runs_answered s next h j ds x f in
      let u = second_by r.0 r.1 (onward r.0) r.2 in
      record { first = r.0; second = u.0; begin = u.1; runs = u.2 }

-- so the run's oldest deeds are these
abbrev pub HaveDone : Step → Answer → Step → Answer → List deeds.Deed → Type 0
HaveDone s a t b own = (own ≡ []) ⊎ ((own ≡ did s a ∷ []) ⊎ ((newer : List deeds.Deed) × (own ≡ newer ++ did t b ∷ (did s a ∷ []))))

pub acts_begin_with : (s : Step) (a : Answer) (t : Step) (b : Answer) (ds : List Deed) → BeginWith s a t b ds → HaveDone s a t b (acts ds)
acts_begin_with s a t b ds (inl none) = inl (ap acts none)
acts_begin_with s a t b ds (inr (inl one)) = inr (inl (ap acts one))
acts_begin_with s a t b ds (inr (inr more)) = inr (inr (acts more.0, ap acts more.1 ∙ over_these (did t b ∷ (did s a ∷ [])) more.0))

-- two readings first, and the rest after them
pub keeps_after : {R : Type 0} (w : Pledge) (p q : Place) (n m : List ℕ) (limit : ℕ) (h : Hand) (rest : Plan R) (Q : List Deed → Hand → R → Type 0)
    → ((a b : Answer) → Sound w (acts (Did (Read p n limit) a ∷ (Did (Read q m limit) b ∷ []))) h → Keeps (rules_of w) (Did (Read p n limit) a ∷ (Did (Read q m limit) b ∷ [])) h rest Q)
    → Keeps (rules_of w) [] h (Ask (Read p n limit) (λ c. Ask (Read q m limit) (λ d. rest))) Q
unfolding Keeps
keeps_after w p q n m limit h rest Q f = (
  tt,
  may_read w [] p n limit,
  (tt, tt),
  λ a row live. (
    (tt, tt),
    may_read w (did (Read p n limit) a ∷ []) q m limit,
    (tt, (tt, tt)),
    λ b row_b live_b. f a b (record { numbered = (tt, (tt, tt)); unfailed = unfailed a b live live_b }),
  ),
)
  where
    unfailed : (a b : Answer) → a ≢ Failed → b ≢ Failed → HasFailed (did (Read q m limit) b ∷ (did (Read p n limit) a ∷ [])) → ⊥
    unfailed a b live live_b (now e) = live_b e
    unfailed a b live live_b (on (now e)) = live e
    unfailed a b live live_b (on (on z)) = elim z [ ]

-- one reading, and then the end
pub keeps_ended : {R : Type 0} (w : Pledge) (p : Place) (n : List ℕ) (limit : ℕ) (h : Hand) (r : R) (Q : List Deed → Hand → R → Type 0) → ((a : Answer) → Q (Did (Read p n limit) a ∷ []) h r) → Keeps (rules_of w) [] h (Ask (Read p n limit) (λ c. Return r)) Q
unfolding Keeps
keeps_ended w p n limit h r Q f = (tt, may_read w [] p n limit, (tt, tt), λ a row live. ((tt, tt), f a))
