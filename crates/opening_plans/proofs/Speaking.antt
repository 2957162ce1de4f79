-- What a command says: nothing, or the front of a text that its own deeds tell.
use Rattle.std.proofs.Common.{◌≡◌, ◌≢◌, inl, inr, ◌++◌, ◌∷◌, [], ℕ, List, refl, sym, ◌∙◌, ap, subst, append_assoc, append-nil}
use Rattle.folder_files.specs.Deeds as deeds
use Rattle.folder_files.specs.declared.step.Answer.{Answer}
use Rattle.folder_files.specs.declared.step.Answer.TheVariants.{Failed}
use Rattle.folder_files.specs.declared.place.Place.{Place}
use Rattle.folder_files.specs.declared.step.Step.{Step}
use Rattle.folder_files.specs.declared.step.Step.TheVariants as step
use Rattle.file_plans.specs.Asking.{read, reading_of}
use Rattle.file_plans.specs.Plan.{Ask, Hand, Hear, Note, Plan, Recall, Return, Say, Try, ask, bind, lifted, ◌>>=◌}
use Rattle.file_plans.specs.Rules.{AreKept, Keeps, Rules}
use Rattle.file_plans.specs.Runs.{Deed, Did, Exit, FilesFailed, Heard, InFailed, NoMemory, OutFailed, Returned, Runs, Said}
use Rattle.file_plans.specs.Text.{said_of}
use Rattle.file_plans.specs.declared.answers.Reading.{Reading}
use Rattle.file_plans.specs.declared.answers.Reading.TheVariants as reading
use Rattle.file_plans.proofs.Acting.{acts, acts_append}
use Rattle.file_plans.proofs.Framing.{AnyStep}
use Rattle.file_plans.proofs.Giving.{Same}
use Rattle.file_plans.proofs.Keeping.{run_keeps}
use Rattle.step_plans.specs.ContextCommit.{LIMIT_BYTES}
use Rattle.step_plans.proofs.Lasting.{KeptBy}
use Rattle.command_stages.specs.Texts.{text_by, text_read}
use Rattle.opening_plans.specs.Endings.{IsToldBy}
use Rattle.opening_plans.proofs.EndedKept.{keeps_more}

pub said_did : (past : List Deed) (s : Step) (a : Answer) → said_of (past ++ Did s a ∷ []) ≡ said_of past
said_did [] s a = refl
said_did (Did t b ∷ past) s a = said_did past s a
said_did (Said q ∷ past) s a = ap (λ t. q ++ t) (said_did past s a)
said_did (Heard q ∷ past) s a = said_did past s a

pub said_heard : (past : List Deed) (piece : List ℕ) → said_of (past ++ Heard piece ∷ []) ≡ said_of past
said_heard [] piece = refl
said_heard (Did t b ∷ past) piece = said_heard past piece
said_heard (Said q ∷ past) piece = ap (λ t. q ++ t) (said_heard past piece)
said_heard (Heard q ∷ past) piece = said_heard past piece

pub said_more : (past : List Deed) (piece : List ℕ) → said_of (past ++ Said piece ∷ []) ≡ said_of past ++ piece
said_more [] piece = append-nil piece
said_more (Did t b ∷ past) piece = said_more past piece
said_more (Said q ∷ past) piece = ap (λ t. q ++ t) (said_more past piece) ∙ sym (append_assoc q (said_of past) piece)
said_more (Heard q ∷ past) piece = said_more past piece

-- two rules, where a plan keeps both
pub keeps_both : {R : Type 0} (u w : Rules) (past : List Deed) (h : Hand) (p : Plan R) (P Q : List Deed → Hand → R → Type 0) → Keeps u past h p P → Keeps w past h p Q → Keeps u past h p (λ later j r. P later j r × Q later j r)
unfolding Keeps
keeps_both u w past h (Return r) P Q f g = (f.0, (f.1, g.1))
keeps_both u w past h (Ask s next) P Q f g = (f.0, f.1, f.2, λ b row live. keeps_both u w (past ++ Did s b ∷ []) h (next b) P Q (f.3 b row live) (g.3 b row live))
keeps_both u w past h (Try s next) P Q f g = (f.0, f.1, λ b row. keeps_both u w (past ++ Did s b ∷ []) h (next b) P Q (f.2 b row) (g.2 b row))
keeps_both u w past h (Say piece next) P Q f g = (f.0, f.1, f.2, keeps_both u w (past ++ Said piece ∷ []) h next P Q f.3 g.3)
keeps_both u w past h (Hear most next) P Q f g = (f.0, f.1, λ piece short. keeps_both u w (past ++ Heard piece ∷ []) h (next piece) P Q (f.2 piece short) (g.2 piece short))
keeps_both u w past h (Recall next) P Q f g = keeps_both u w past h (next h) P Q f g
keeps_both u w past h (Note j next) P Q f g = (f.0, keeps_both u w past j next P Q f.1 g.1)

-- what the rules hold at each point, they hold where a plan returns
pub keeps_holding : {R : Type 0} (u : Rules) (past : List Deed) (h : Hand) (p : Plan R) (P : List Deed → Hand → R → Type 0) → Keeps u past h p P → Keeps u past h p (λ later j r. u.holds later j × P later j r)
unfolding Keeps
keeps_holding u past h (Return r) P f = (f.0, (f.0, f.1))
keeps_holding u past h (Ask s next) P f = (f.0, f.1, f.2, λ b row live. keeps_holding u (past ++ Did s b ∷ []) h (next b) P (f.3 b row live))
keeps_holding u past h (Try s next) P f = (f.0, f.1, λ b row. keeps_holding u (past ++ Did s b ∷ []) h (next b) P (f.2 b row))
keeps_holding u past h (Say piece next) P f = (f.0, f.1, f.2, keeps_holding u (past ++ Said piece ∷ []) h next P f.3)
keeps_holding u past h (Hear most next) P f = (f.0, f.1, λ piece short. keeps_holding u (past ++ Heard piece ∷ []) h (next piece) P (f.2 piece short))
keeps_holding u past h (Recall next) P f = keeps_holding u past h (next h) P f
keeps_holding u past h (Note j next) P f = (f.0, keeps_holding u past j next P f.1)

-- the rules that let nothing be said
abbrev pub silence : Rules
silence = record { may_ask = λ past step. Unit {0}; may_say = λ past piece. ⊥; may_hear = λ past. Unit {0}; holds = λ past hand. Unit {0} }

-- a reading says nothing
pub text_silent : (past : List Deed) (h : Hand) (p : Place) (x : List ℕ) → Keeps silence past h (text_read p x) (λ later j r. Unit {0})
unfolding Keeps text_read read ask lifted bind ◌>>=◌
text_silent past h p x = (tt, tt, tt, λ a row live. by a (reading_of a))
  where
    by : (a : Answer) (r : Reading) → Keeps silence (past ++ Did (step.Read p x LIMIT_BYTES) a ∷ []) h (text_by r) (λ later j s. Unit {0})
    by a (reading.Content bytes) = (tt, tt)
    by a (reading.Long l) = (tt, tt)
    by a reading.Gone = (tt, tt)

-- the rules that let a front be said of a text that the deeds tell
abbrev pub speaking : (List ℕ → List deeds.Deed → Type 0) → Rules
speaking T = record {
  may_ask = λ past step. Unit {0};
  may_say = λ past piece. (text : List ℕ) × T text (acts past) × (piece ≢ []) × ((rest : List ℕ) × ((said_of past ++ piece) ++ rest ≡ text));
  may_hear = λ past. Unit {0};
  holds = λ past hand. IsToldBy T (said_of past) (acts past);
}

-- what deeds tell they tell after each further step
module _ (T : List ℕ → List deeds.Deed → Type 0) (lasts : (text : List ℕ) → KeptBy AnyStep (T text)) where
  abbrev Told : List Deed → Type 0
  Told past = IsToldBy T (said_of past) (acts past)

  told_by : (past later : List Deed) → said_of later ≡ said_of past → ((text : List ℕ) → T text (acts past) → T text (acts later)) → Told past → Told later
  told_by past later same more (inl none) = inl (same ∙ none)
  told_by past later same more (inr (text, t, (rest, front))) = inr (text, more text t, (rest, ap (λ s. s ++ rest) same ∙ front))

  pub told_did : (past : List Deed) (s : Step) (a : Answer) → Told past → Told (past ++ Did s a ∷ [])
  told_did past s a f =
      told_by past (past ++ Did s a ∷ []) (said_did past s a)
      (λ text t. subst (T text) (sym (acts_append [] past (Did s a ∷ []))) (lasts text (acts past) s a tt t)) f

  told_heard : (past : List Deed) (piece : List ℕ) → Told past → Told (past ++ Heard piece ∷ [])
  told_heard past piece f =
      told_by past (past ++ Heard piece ∷ []) (said_heard past piece) (λ text t. subst (T text) (sym (acts_append [] past (Heard piece ∷ []))) t) f

  pub silent_told : (past : List Deed) → said_of past ≡ [] → Told past
  silent_told past none = inl none

  -- a part that may say nothing says nothing; and what each step keeps, holds at its end
  module _ (u : Rules) (none : (past : List Deed) (piece : List ℕ) → u.may_say past piece → ⊥) (F : List deeds.Deed → Type 0) (kept : KeptBy AnyStep F) where
    abbrev pub Quiet : {R : Type 0} → (List Deed → Hand → R → Type 0) → List Deed → List Deed → Hand → R → Type 0
    Quiet P past later j r = (said_of later ≡ said_of past) × (F (acts past) → F (acts later)) × Told later × P later j r

    fact_did : (past : List Deed) (s : Step) (a : Answer) → F (acts past) → F (acts (past ++ Did s a ∷ []))
    fact_did past s a f = rw (acts_append [] past (Did s a ∷ [])) (kept (acts past) s a tt f)

    fact_heard : (past : List Deed) (piece : List ℕ) → F (acts past) → F (acts (past ++ Heard piece ∷ []))
    fact_heard past piece f = rw (acts_append [] past (Heard piece ∷ [])) f

    pub quietly : {R : Type 0} (past : List Deed) (h : Hand) (p : Plan R) (P : List Deed → Hand → R → Type 0) → Told past → Keeps u past h p P → Keeps (speaking T) past h p (λ later j r. Quiet P past later j r)
    unfolding Keeps
    quietly past h (Return r) P t f = (t, (refl, (λ z. z), t, f.1))
    quietly past h (Ask s next) P t f = (
      t,
      tt,
      told_did past s Failed t,
      λ a row live.
          keeps_more (speaking T) (past ++ Did s a ∷ []) h (next a) (λ later j r. Quiet P (past ++ Did s a ∷ []) later j r) (λ later j r. Quiet P past later j r)
          (λ later j r q. (q.0 ∙ said_did past s a, (λ z. q.1 (fact_did past s a z)), q.2, q.3))
          (quietly (past ++ Did s a ∷ []) h (next a) P (told_did past s a t) (f.3 a row live)),
    )
    quietly past h (Try s next) P t f = (
      t,
      tt,
      λ a row.
          keeps_more (speaking T) (past ++ Did s a ∷ []) h (next a) (λ later j r. Quiet P (past ++ Did s a ∷ []) later j r) (λ later j r. Quiet P past later j r)
          (λ later j r q. (q.0 ∙ said_did past s a, (λ z. q.1 (fact_did past s a z)), q.2, q.3))
          (quietly (past ++ Did s a ∷ []) h (next a) P (told_did past s a t) (f.2 a row)),
    )
    quietly past h (Say piece next) P t f = absurd (none past piece f.1)
    quietly past h (Hear most next) P t f = (
      t,
      tt,
      λ piece short.
          keeps_more (speaking T) (past ++ Heard piece ∷ []) h (next piece) (λ later j r. Quiet P (past ++ Heard piece ∷ []) later j r) (λ later j r. Quiet P past later j r)
          (λ later j r q. (q.0 ∙ said_heard past piece, (λ z. q.1 (fact_heard past piece z)), q.2, q.3))
          (quietly (past ++ Heard piece ∷ []) h (next piece) P (told_heard past piece t) (f.2 piece short)),
    )
    quietly past h (Recall next) P t f = quietly past h (next h) P t f
    quietly past h (Note j next) P t f = (t, quietly past j next P t f.1)

  abbrev all_past : List deeds.Deed → Type 0
  all_past own = Unit {0}

  -- a part that is silent leaves what was said
  pub silently : {R : Type 0} (past : List Deed) (h : Hand) (p : Plan R) → Told past → Keeps silence past h p (λ later j r. Unit {0})
      → Keeps (speaking T) past h p (λ later j r. (said_of later ≡ said_of past) × Told later)
  silently past h p t f =
      keeps_more (speaking T) past h p (λ later j r. (said_of later ≡ said_of past) × (all_past (acts past) → all_past (acts later)) × Told later × Unit {0}) (λ later j r. (said_of later ≡ said_of past) × Told later)
      (λ later j r q. (q.0, q.2)) (quietly silence (λ now_ piece none. none) all_past (λ own s b any z. tt) past h p (λ later j r. Unit {0}) t f)

-- where the deeds tell more texts, more may be said
module _ (T S : List ℕ → List deeds.Deed → Type 0) (so : (text : List ℕ) (own : List deeds.Deed) → T text own → S text own) where
  told_more : (said : List ℕ) (own : List deeds.Deed) → IsToldBy T said own → IsToldBy S said own
  told_more said own (inl none) = inl none
  told_more said own (inr (text, t, front)) = inr (text, so text own t, front)

  pub speaks_more : {R : Type 0} (past : List Deed) (h : Hand) (p : Plan R) (P : List Deed → Hand → R → Type 0) → Keeps (speaking T) past h p P → Keeps (speaking S) past h p P
  unfolding Keeps
  speaks_more past h (Return r) P f = (told_more (said_of past) (acts past) f.0, f.1)
  speaks_more past h (Ask s next) P f = (
    told_more (said_of past) (acts past) f.0,
    tt,
    told_more (said_of (past ++ Did s Failed ∷ [])) (acts (past ++ Did s Failed ∷ [])) f.2,
    λ a row live. speaks_more (past ++ Did s a ∷ []) h (next a) P (f.3 a row live),
  )
  speaks_more past h (Try s next) P f = (told_more (said_of past) (acts past) f.0, tt, λ a row. speaks_more (past ++ Did s a ∷ []) h (next a) P (f.2 a row))
  speaks_more past h (Say piece next) P f = (
    told_more (said_of past) (acts past) f.0,
    (f.1.0, so f.1.0 (acts past) f.1.1, f.1.2, f.1.3),
    (λ part rest is. told_more (said_of (past ++ Said part ∷ [])) (acts (past ++ Said part ∷ [])) (f.2 part rest is)),
    speaks_more (past ++ Said piece ∷ []) h next P f.3,
  )
  speaks_more past h (Hear most next) P f = (told_more (said_of past) (acts past) f.0, tt, λ piece short. speaks_more (past ++ Heard piece ∷ []) h (next piece) P (f.2 piece short))
  speaks_more past h (Recall next) P f = speaks_more past h (next h) P f
  speaks_more past h (Note j next) P f = (told_more (said_of past) (acts past) f.0, speaks_more past j next P f.1)

-- the newest deed of these was to say a piece, or a part of it
pub data LastSaid : List Deed → Type 0 where
  said_last : {part : List ℕ} → LastSaid (Said part ∷ [])
  said_behind : {d : Deed} {ds : List Deed} → LastSaid ds → LastSaid (d ∷ ds)

no_memory : {R : Type 0} (x : Exit R) → x ≡ OutFailed → x ≡ NoMemory → ⊥
no_memory {R = R} x e f = let same : Same {R = R} OutFailed NoMemory = sym e ∙ f in cc

no_files : {R : Type 0} (x : Exit R) → x ≡ OutFailed → x ≡ FilesFailed → ⊥
no_files {R = R} x e f = let same : Same {R = R} OutFailed FilesFailed = sym e ∙ f in cc

no_input : {R : Type 0} (x : Exit R) → x ≡ OutFailed → x ≡ InFailed → ⊥
no_input {R = R} x e f = let same : Same {R = R} OutFailed InFailed = sym e ∙ f in cc

no_return : {R : Type 0} (r : R) (x : Exit R) → x ≡ OutFailed → x ≡ Returned r → ⊥
no_return {R = R} r x e f = let same : Same {R = R} OutFailed (Returned r) = sym e ∙ f in cc

-- where the output failed
run_said : {R : Type 0} (p : Plan R) (h : Hand) (ds : List Deed) (j : Hand) (x : Exit R) → Runs p h ds j x → x ≡ OutFailed → LastSaid ds
unfolding Runs
run_said (Return r) h [] j x (same, inl f) e = absurd (no_return r x e f)
run_said (Return r) h [] j x (same, inr f) e = absurd (no_memory x e f)
run_said (Return r) h (d ∷ ds) j x f e = absurd f
run_said (Ask s next) h [] j x f e = absurd (no_memory x e f.1)
run_said (Ask s next) h (Did t a ∷ ds) j x (is, row, inl f) e = absurd (no_files x e f.3)
run_said (Ask s next) h (Did t a ∷ ds) j x (is, row, inr f) e = said_behind (run_said (next a) h ds j x f.1 e)
run_said (Ask s next) h (Said piece ∷ ds) j x f e = absurd f
run_said (Ask s next) h (Heard piece ∷ ds) j x f e = absurd f
run_said (Try s next) h [] j x f e = absurd (no_memory x e f.1)
run_said (Try s next) h (Did t a ∷ ds) j x f e = said_behind (run_said (next a) h ds j x f.2 e)
run_said (Try s next) h (Said piece ∷ ds) j x f e = absurd f
run_said (Try s next) h (Heard piece ∷ ds) j x f e = absurd f
run_said (Say piece next) h [] j x f e = absurd (no_memory x e f.1)
run_said (Say piece next) h (Did t a ∷ ds) j x f e = absurd f
run_said (Say piece next) h (Said part ∷ ds) j x (inl f) e = subst (λ z. LastSaid (Said part ∷ z)) (sym f.1) said_last
run_said (Say piece next) h (Said part ∷ ds) j x (inr f) e = said_behind (run_said next h ds j x f.1 e)
run_said (Say piece next) h (Heard part ∷ ds) j x f e = absurd f
run_said (Hear most next) h [] j x (same, inl f) e = absurd (no_input x e f)
run_said (Hear most next) h [] j x (same, inr f) e = absurd (no_memory x e f)
run_said (Hear most next) h (Did t a ∷ ds) j x f e = absurd f
run_said (Hear most next) h (Said part ∷ ds) j x f e = absurd f
run_said (Hear most next) h (Heard piece ∷ ds) j x f e = said_behind (run_said (next piece) h ds j x f.1 e)
run_said (Recall next) h ds j x f e = run_said (next h) h ds j x f e
run_said (Note i next) h ds j x (inl f) e = absurd (no_memory x e f.2)
run_said (Note i next) h ds j x (inr f) e = run_said next i ds j x f e

some_more : (said piece rest text : List ℕ) → piece ≢ [] → (said ++ piece) ++ rest ≡ text → text ≢ []
some_more said piece rest text some front none = some (middle said piece rest (front ∙ none))
  where
    first : (xs ys : List ℕ) → xs ++ ys ≡ [] → xs ≡ []
    first [] ys e = refl
    first (x ∷ xs) ys e = cc (e)

    last : (xs ys : List ℕ) → xs ++ ys ≡ [] → ys ≡ []
    last [] ys e = e
    last (x ∷ xs) ys e = cc (e)

    middle : (xs ys zs : List ℕ) → (xs ++ ys) ++ zs ≡ [] → ys ≡ []
    middle xs ys zs e = last xs ys (first (xs ++ ys) zs e)

-- then the deeds tell a text that is not empty
module _ (T : List ℕ → List deeds.Deed → Type 0) where
  tells_some : (past ds : List Deed) → AreKept (speaking T) past ds → LastSaid ds → (text : List ℕ) × T text (acts (past ++ ds)) × (text ≢ [])
  tells_some past [] kept last = elim last [ ]
  tells_some past (Said part ∷ []) (one, none) said_last =
      (one.1.0, subst (T one.1.0) (sym (acts_append [] past (Said part ∷ []))) one.1.1, some_more (said_of past) (part ++ one.0) one.1.3.0 one.1.0 one.1.2 one.1.3.1)
  tells_some past (d ∷ ds) (one, more) (said_behind last) =
      let t = tells_some (past ++ d ∷ []) ds more last in
      (t.0, subst (λ z. T t.0 (acts z)) (append_assoc past (d ∷ []) ds) t.1, t.2)

  -- what a run has said; and where its output failed, there was something to say
  pub run_speaks : {R : Type 0} (p : Plan R) (h : Hand) (ds : List Deed) (j : Hand) (x : Exit R) (Q : List Deed → Hand → R → Type 0) → Keeps (speaking T) [] h p Q → Runs p h ds j x
      → IsToldBy T (said_of ds) (acts ds) × (x ≡ OutFailed → (text : List ℕ) × T text (acts ds) × (text ≢ []))
  run_speaks p h ds j x Q keeps f =
      let k = run_keeps (speaking T) [] h p ds j x Q keeps f in
      (k.holds, λ e. tells_some [] ds k.kept (run_said p h ds j x f e))
