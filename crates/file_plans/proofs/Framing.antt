-- What the steps of a plan leave alone stays.
use Rattle.std.proofs.Common.{◌≡◌, ◌≢◌, ◌++◌, ◌∷◌, ℕ, Bool, true, false, List, [], Result, Ok, Err, refl, sym, subst}
use Rattle.std.specs.Prelude.{if◌then◌else◌}
use Rattle.folder_files.specs.declared.step.Step.{Step}
use Rattle.folder_files.specs.declared.step.Answer.{Answer}
use Rattle.file_plans.specs.Giving.{Table, Gives}
use Rattle.file_plans.specs.Plan.{Hand, Plan, Return, Ask, Try, Say, Hear, Recall, Note, bind, after, ◌>>=◌, converted, lifted, say}
use Rattle.mh_base.specs.declared.streams.SinkFault.{SinkFault}
use Rattle.file_plans.specs.Framing.{AsksOnly}
use Rattle.file_plans.proofs.Giving.{gives_on}

pub asks_bind : {A B : Type 0} (P : Step → Type 0) (p : Plan A) (k : A → Plan B) → AsksOnly P p → ((a : A) → AsksOnly P (k a)) → AsksOnly P (bind p k)
unfolding AsksOnly bind
asks_bind P (Return r) k f g = g r
asks_bind P (Ask step next) k f g = (f.0, λ a. asks_bind P (next a) k (f.1 a) g)
asks_bind P (Try step next) k f g = (f.0, λ a. asks_bind P (next a) k (f.1 a) g)
asks_bind P (Say piece next) k f g = asks_bind P next k f g
asks_bind P (Hear most next) k f g = λ piece. asks_bind P (next piece) k (f piece) g
asks_bind P (Recall next) k f g = λ h. asks_bind P (next h) k (f h) g
asks_bind P (Note hand next) k f g = asks_bind P next k f g

asks_after : {A B E : Type 0} (P : Step → Type 0) (k : A → Plan (Result B E)) → ((a : A) → AsksOnly P (k a)) → (r : Result A E) → AsksOnly P (after k r)
unfolding AsksOnly
asks_after P k g (Ok a) = g a
asks_after P k g (Err e) = tt

pub asks_then : {A B E : Type 0} (P : Step → Type 0) (p : Plan (Result A E)) (k : A → Plan (Result B E)) → AsksOnly P p → ((a : A) → AsksOnly P (k a)) → AsksOnly P (p >>= k)
unfolding ◌>>=◌
asks_then P p k f g = asks_bind P p (after k) f (asks_after P k g)

-- what a part with no step asks
pub asks_none : {A : Type 0} (P : Step → Type 0) (a : A) → AsksOnly P (Return a)
unfolding AsksOnly
asks_none P a = tt

pub asks_lifted : {A E F : Type 0} (P : Step → Type 0) (from : E → F) (p : Plan (Result A E)) → AsksOnly P p → AsksOnly P (lifted from p)
unfolding lifted
asks_lifted P from p f = asks_bind P p (λ r. Return (converted from r)) f (λ r. asks_none P (converted from r))

pub asks_if : {A : Type 0} (P : Step → Type 0) (b : Bool) (p q : Plan A) → AsksOnly P p → AsksOnly P q → AsksOnly P (if b then p else q)
asks_if P true p q f g = f
asks_if P false p q f g = g

-- any step
abbrev pub AnyStep : Step → Type 0
AnyStep s = Unit {0}

pub asks_any : {R : Type 0} (p : Plan R) → AsksOnly AnyStep p
unfolding AsksOnly
asks_any (Return r) = tt
asks_any (Ask s next) = (tt, λ a. asks_any (next a))
asks_any (Try s next) = (tt, λ a. asks_any (next a))
asks_any (Say piece next) = asks_any next
asks_any (Hear most next) = λ piece. asks_any (next piece)
asks_any (Recall next) = λ h. asks_any (next h)
asks_any (Note j next) = asks_any next

-- what each of its steps keeps, the plan keeps
pub framed : {S R : Type 0} (t : Table S) (I : S → Type 0) (P : Step → Type 0) → ((s : S) (step : Step) (a : Answer) → P step → I s → I (t.after s step a)) → (s : S) (h : Hand) (text : List ℕ) (p : Plan R) (Q : S → Hand → List ℕ → R → Type 0)
    → Gives t s h text p Q → AsksOnly P p → I s → Gives t s h text p (λ z j left r. Q z j left r × I z)
unfolding Gives AsksOnly
framed t I P keeps s h text (Return r) Q f g i = (f, i)
framed t I P keeps s h text (Ask step next) Q f g i = λ a row live fits. framed t I P keeps (t.after s step a) h text (next a) Q (f a row live fits) (g.1 a) (keeps s step a g.0 i)
framed t I P keeps s h text (Try step next) Q f g i = λ a row fits. framed t I P keeps (t.after s step a) h text (next a) Q (f a row fits) (g.1 a) (keeps s step a g.0 i)
framed t I P keeps s h text (Say piece next) Q f g i = (f.0, (f.1.0, f.1.1, framed t I P keeps s h f.1.0 next Q f.1.2 g i))
framed t I P keeps s h text (Hear most next) Q f g i = λ piece short. framed t I P keeps s h text (next piece) Q (f piece short) (g piece) i
framed t I P keeps s h text (Recall next) Q f g i = framed t I P keeps s h text (next h) Q f (g h) i
framed t I P keeps s h text (Note hand next) Q f g i = framed t I P keeps s hand text next Q f g i

-- a piece of output, by any table
pub say_view : {S B F : Type 0} (t : Table S) (s : S) (from : SinkFault → F) (piece rest text : List ℕ) (h : Hand) (k : Unit {0} → Plan (Result B F)) (Q : S → Hand → List ℕ → Result B F → Type 0) →
    piece ≢ [] → text ≡ piece ++ rest → Gives t s h rest (k tt) Q → Gives t s h text (lifted from (say piece) >>= k) Q
unfolding Gives say lifted bind ◌>>=◌
say_view t s from piece rest text h k Q some is next = (some, (rest, is, next))

none_said : (piece rest : List ℕ) → [] ≡ piece ++ rest → piece ≡ []
none_said [] rest e = refl
none_said (b ∷ piece) rest e = cc

-- a plan that gives the empty text says nothing, whatever is still to be said
pub silent : {S R : Type 0} (t : Table S) (s : S) (h : Hand) (text : List ℕ) (p : Plan R) (Q : S → Hand → List ℕ → R → Type 0) → Gives t s h [] p Q → Gives t s h text p (λ z j left r. (left ≡ text) × Q z j [] r)
unfolding Gives
silent t s h text (Return r) Q f = (refl, f)
silent t s h text (Ask step next) Q f = λ a row live fits. silent t (t.after s step a) h text (next a) Q (f a row live fits)
silent t s h text (Try step next) Q f = λ a row fits. silent t (t.after s step a) h text (next a) Q (f a row fits)
silent t s h text (Say piece next) Q f = absurd (f.0 (none_said piece f.1.0 f.1.1))
silent t s h text (Hear most next) Q f = λ piece short. silent t s h text (next piece) Q (f piece short)
silent t s h text (Recall next) Q f = silent t s h text (next h) Q f
silent t s h text (Note hand next) Q f = silent t s hand text next Q f

-- a part that says nothing, and then the rest
pub gives_quietly : {S A B E : Type 0} (t : Table S) (s : S) (h : Hand) (text : List ℕ) (p : Plan (Result A E)) (k : A → Plan (Result B E)) (P : S → Hand → List ℕ → Result A E → Type 0) (Q : S → Hand → List ℕ → Result B E → Type 0) →
    Gives t s h [] p P → ((z : S) (j : Hand) (a : A) → P z j [] (Ok a) → Gives t z j text (k a) Q) → ((z : S) (j : Hand) (e : E) → P z j [] (Err e) → Q z j text (Err e)) → Gives t s h text (p >>= k) Q
gives_quietly t s h text p k P Q f good bad =
    gives_on t s h text p k (λ z j left r. (left ≡ text) × P z j [] r) Q (silent t s h text p P f) (λ z j left a g. subst (λ l. Gives t z j l (k a) Q) (sym g.0) (good z j a g.1)) (λ z j left e g. subst (λ l. Q z j l (Err e)) (sym g.0) (bad z j e g.1))
