-- What plans give, one after another, and what every run of a plan says and returns then.
use Rattle.std.proofs.Common.{◌≡◌, ◌⊎◌, inl, inr, ◌++◌, ◌∷◌, [], List, ℕ, Result, Ok, Err, refl, sym, ◌∙◌, ap, append_assoc, append-nil}
use Rattle.folder_files.specs.declared.step.Step.{Step}
use Rattle.folder_files.specs.declared.step.Answer.{Answer}
use Rattle.folder_files.specs.Rows.{IsAnswerOf}
use Rattle.file_plans.specs.Giving.{Table, Gives, FitAll, Gave}
use Rattle.file_plans.proofs.Telling.{memory_no, files_no, in_no, out_no}
use Rattle.file_plans.specs.Plan.{Hand, Plan, Return, Ask, Try, Say, Hear, Recall, Note, bind, after, ◌>>=◌, converted, lifted}
use Rattle.file_plans.specs.Runs.{Exit, Returned, FilesFailed, InFailed, OutFailed, NoMemory, Deed, Did, Said, Heard, Runs}
use Rattle.file_plans.specs.Text.{said_of}

pub gives_bind : {S A B : Type 0} (t : Table S) (s : S) (h : Hand) (text : List ℕ) (p : Plan A) (k : A → Plan B) (P : S → Hand → List ℕ → A → Type 0) (Q : S → Hand → List ℕ → B → Type 0) →
    Gives t s h text p P → ((z : S) (j : Hand) (left : List ℕ) (a : A) → P z j left a → Gives t z j left (k a) Q) → Gives t s h text (bind p k) Q
unfolding Gives bind
gives_bind t s h text (Return r) k P Q f g = g s h text r f
gives_bind t s h text (Ask step next) k P Q f g = λ a row live fits. gives_bind t (t.after s step a) h text (next a) k P Q (f a row live fits) g
gives_bind t s h text (Try step next) k P Q f g = λ a row fits. gives_bind t (t.after s step a) h text (next a) k P Q (f a row fits) g
gives_bind t s h text (Say piece next) k P Q f g = (f.0, (f.1.0, f.1.1, gives_bind t s h f.1.0 next k P Q f.1.2 g))
gives_bind t s h text (Hear most next) k P Q f g = λ piece short. gives_bind t s h text (next piece) k P Q (f piece short) g
gives_bind t s h text (Recall next) k P Q f g = gives_bind t s h text (next h) k P Q f g
gives_bind t s h text (Note hand next) k P Q f g = gives_bind t s hand text next k P Q f g

-- the plan with its errors as another layer has them, and then the next one
pub gives_then : {S A B E F : Type 0} (t : Table S) (s : S) (h : Hand) (text : List ℕ) (from : E → F) (p : Plan (Result A E)) (k : A → Plan (Result B F)) (P : S → Hand → List ℕ → Result A E → Type 0) (Q : S → Hand → List ℕ → Result B F → Type 0) →
    Gives t s h text p P → ((z : S) (j : Hand) (left : List ℕ) (r : Result A E) → P z j left r → Gives t z j left (after k (converted from r)) Q) → Gives t s h text (lifted from p >>= k) Q
unfolding ◌>>=◌ lifted Gives
gives_then {S = S} {A = A} {E = E} t s h text from p k P Q f g =
    gives_bind t s h text (bind p (λ r. Return (converted from r))) (after k) (λ z j left q. Gives t z j left (after k q) Q) Q
    (gives_bind t s h text p (λ r. Return (converted from r)) P (λ z j left q. Gives t z j left (after k q) Q) f (λ z j left r q. returned z j left r q))
    (λ z j left q given. given)
  where
    returned : (z : S) (j : Hand) (left : List ℕ) (r : Result A E) → P z j left r → Gives t z j left (Return (converted from r)) (λ z j left q. Gives t z j left (after k q) Q)
    returned z j left r q = g z j left r q

-- the next plan goes on where the first returned Ok
pub gives_on : {S A B E : Type 0} (t : Table S) (s : S) (h : Hand) (text : List ℕ) (p : Plan (Result A E)) (k : A → Plan (Result B E)) (P : S → Hand → List ℕ → Result A E → Type 0) (Q : S → Hand → List ℕ → Result B E → Type 0) →
    Gives t s h text p P → ((z : S) (j : Hand) (left : List ℕ) (a : A) → P z j left (Ok a) → Gives t z j left (k a) Q) → ((z : S) (j : Hand) (left : List ℕ) (e : E) → P z j left (Err e) → Q z j left (Err e)) → Gives t s h text (p >>= k) Q
unfolding Gives ◌>>=◌
gives_on {S = S} {A = A} {E = E} t s h text p k P Q f good bad = gives_bind t s h text p (after k) P Q f next
  where
    next : (z : S) (j : Hand) (left : List ℕ) (r : Result A E) → P z j left r → Gives t z j left (after k r) Q
    next z j left (Ok a) g = good z j left a g
    next z j left (Err e) g = bad z j left e g

-- what holds at the end may be said weaker
pub gives_more : {S R : Type 0} (t : Table S) (s : S) (h : Hand) (text : List ℕ) (p : Plan R) (P Q : S → Hand → List ℕ → R → Type 0) → Gives t s h text p P → ((z : S) (j : Hand) (left : List ℕ) (r : R) → P z j left r → Q z j left r) → Gives t s h text p Q
unfolding Gives
gives_more t s h text (Return r) P Q f g = g s h text r f
gives_more t s h text (Ask step next) P Q f g = λ a row live fits. gives_more t (t.after s step a) h text (next a) P Q (f a row live fits) g
gives_more t s h text (Try step next) P Q f g = λ a row fits. gives_more t (t.after s step a) h text (next a) P Q (f a row fits) g
gives_more t s h text (Say piece next) P Q f g = (f.0, (f.1.0, f.1.1, gives_more t s h f.1.0 next P Q f.1.2 g))
gives_more t s h text (Hear most next) P Q f g = λ piece short. gives_more t s h text (next piece) P Q (f piece short) g
gives_more t s h text (Recall next) P Q f g = gives_more t s h text (next h) P Q f g
gives_more t s h text (Note hand next) P Q f g = gives_more t s hand text next P Q f g

abbrev pub Same : {R : Type 0} → Exit R → Exit R → Type 0
Same x y = x ≡ y

memory_out : {R : Type 0} → Same {R = R} NoMemory OutFailed → ⊥
memory_out e = cc

files_out : {R : Type 0} → Same {R = R} FilesFailed OutFailed → ⊥
files_out e = cc

in_out : {R : Type 0} → Same {R = R} InFailed OutFailed → ⊥
in_out e = cc

returned_out : {R : Type 0} (r : R) → Returned r ≡ OutFailed → ⊥
returned_out r e = cc

-- a call that stopped before it said anything more
stopped : {S R : Type 0} (z : S) (k : Hand) (text : List ℕ) (exit e : Exit R) (Q : S → Hand → List ℕ → R → Type 0) → exit ≡ e → ((r : R) → e ≡ Returned r → ⊥) → (e ≡ OutFailed → ⊥) → Gave z k text [] exit Q
stopped z k text exit e Q is never out = record { left = text; prefix = refl; returned = λ r q. absurd (never r (sym is ∙ q)); cut = λ q. absurd (out (sym is ∙ q)) }

heard_stop : {S R : Type 0} (z : S) (k : Hand) (text : List ℕ) (exit : Exit R) (Q : S → Hand → List ℕ → R → Type 0) → (exit ≡ InFailed) ⊎ (exit ≡ NoMemory) → Gave z k text [] exit Q
heard_stop z k text exit Q (inl e) = stopped z k text exit InFailed Q e in_no in_out
heard_stop z k text exit Q (inr e) = stopped z k text exit NoMemory Q e memory_no memory_out

at_return : {S R : Type 0} (s z : S) (h k : Hand) (text : List ℕ) (r : R) (exit : Exit R) (Q : S → Hand → List ℕ → R → Type 0) → z ≡ s → k ≡ h → (exit ≡ Returned r) ⊎ (exit ≡ NoMemory) → Q s h text r → Gave z k text [] exit Q
at_return s z h k text r exit Q same hand (inr e) q = stopped z k text exit NoMemory Q e memory_no memory_out
at_return {R = R} s z h k text r exit Q same hand (inl e) q =
    record { left = text; prefix = refl; returned = λ u f. given u (sym e ∙ f); cut = λ f. absurd (returned_out r (sym e ∙ f)) }
  where
    given : (u : R) → Returned r ≡ Returned u → Q z k text u
    given u f = let is : r ≡ u = cc in rw (same, hand, ← is) q

step_fits : {S : Type 0} (t : Table S) (s : S) (a : Answer) (step made : Step) → made ≡ step → t.fits s made a → t.fits s step a
step_fits t s a step made is f = rw is at f

step_row : (made step : Step) (a : Answer) → made ≡ step → IsAnswerOf made a → IsAnswerOf step a
step_row made step a is row = rw is at row

state_after : {S : Type 0} (t : Table S) (s z : S) (a : Answer) (step made : Step) (ds : List Deed) → made ≡ step → FitAll t (t.after s made a) ds z → FitAll t (t.after s step a) ds z
state_after t s z a step made ds is f = rw is at f

-- a piece that was put is no empty text's
not_empty : (piece rest text : List ℕ) → (piece ≡ [] → ⊥) → text ≡ piece ++ rest → text ≡ [] → ⊥
not_empty [] rest text some is none = some refl
not_empty (b ∷ piece) rest text some is none = let both : b ∷ (piece ++ rest) ≡ [] = sym is ∙ none in cc

-- a part of a piece was put
in_part : {S R : Type 0} (z : S) (k : Hand) (text piece part tail rest said : List ℕ) (exit : Exit R) (Q : S → Hand → List ℕ → R → Type 0) → said ≡ [] → part ++ tail ≡ piece → text ≡ piece ++ rest → (piece ≡ [] → ⊥) → exit ≡ OutFailed → Gave z k text (part ++ said) exit Q
in_part z k text piece part tail rest said exit Q none is whole some e =
    record { left = tail ++ rest; prefix = rw (none, append-nil, ← append_assoc, is) (sym whole); returned = λ r f. absurd (out_no r (sym e ∙ f)); cut = λ f. not_empty piece rest text some whole }

-- a piece, and then the rest
in_whole : {S R : Type 0} (z : S) (k : Hand) (text piece part rest said : List ℕ) (exit : Exit R) (Q : S → Hand → List ℕ → R → Type 0) → part ≡ piece → text ≡ piece ++ rest → (piece ≡ [] → ⊥) → Gave z k rest said exit Q → Gave z k text (part ++ said) exit Q
in_whole z k text piece part rest said exit Q is whole some g =
    record { left = g.left; prefix = rw (append_assoc, is, g.prefix) (sym whole); returned = g.returned; cut = λ f. not_empty piece rest text some whole }

-- each run of a plan whose answers fit
pub run_gives : {S R : Type 0} (t : Table S) (s z : S) (h k : Hand) (text : List ℕ) (p : Plan R) (ds : List Deed) (exit : Exit R) (Q : S → Hand → List ℕ → R → Type 0) →
    Gives t s h text p Q → FitAll t s ds z → Runs p h ds k exit → Gave z k text (said_of ds) exit Q
unfolding Gives Runs
run_gives t s z h k text (Return r) [] exit Q g fit f = at_return s z h k text r exit Q fit f.0 f.1 g
run_gives t s z h k text (Return r) (d ∷ ds) exit Q g fit f = absurd f
run_gives t s z h k text (Ask step next) [] exit Q g fit f = stopped z k text exit NoMemory Q f.1 memory_no memory_out
run_gives t s z h k text (Ask step next) (Did made a ∷ ds) exit Q g fit (is, row, inl e) = rw e.1 (stopped z k text exit FilesFailed Q e.3 files_no files_out)
run_gives t s z h k text (Ask step next) (Did made a ∷ ds) exit Q g fit (is, row, inr (live, f)) =
    run_gives t (t.after s step a) z h k text (next a) ds exit Q (g a (step_row made step a is row) live (step_fits t s a step made is (fit.0 live))) (state_after t s z a step made ds is fit.1) f
run_gives t s z h k text (Ask step next) (Said piece ∷ ds) exit Q g fit f = absurd f
run_gives t s z h k text (Ask step next) (Heard piece ∷ ds) exit Q g fit f = absurd f
run_gives t s z h k text (Try step next) [] exit Q g fit f = stopped z k text exit NoMemory Q f.1 memory_no memory_out
run_gives t s z h k text (Try step next) (Did made a ∷ ds) exit Q g fit (is, row, f) =
    run_gives t (t.after s step a) z h k text (next a) ds exit Q (g a (step_row made step a is row) (λ live. step_fits t s a step made is (fit.0 live))) (state_after t s z a step made ds is fit.1) f
run_gives t s z h k text (Try step next) (Said piece ∷ ds) exit Q g fit f = absurd f
run_gives t s z h k text (Try step next) (Heard piece ∷ ds) exit Q g fit f = absurd f
run_gives t s z h k text (Say piece next) [] exit Q g fit f = stopped z k text exit NoMemory Q f.1 memory_no memory_out
run_gives t s z h k text (Say piece next) (Did made a ∷ ds) exit Q g fit f = absurd f
run_gives t s z h k text (Say piece next) (Said part ∷ ds) exit Q g fit (inl e) = in_part z k text piece part e.0.0 g.1.0 (said_of ds) exit Q (ap said_of e.1) e.0.1 g.1.1 g.0 e.3
run_gives t s z h k text (Say piece next) (Said part ∷ ds) exit Q g fit (inr (is, f)) =
    in_whole z k text piece part g.1.0 (said_of ds) exit Q is g.1.1 g.0 (run_gives t s z h k g.1.0 next ds exit Q g.1.2 fit f)
run_gives t s z h k text (Say piece next) (Heard part ∷ ds) exit Q g fit f = absurd f
run_gives t s z h k text (Hear most next) [] exit Q g fit f = heard_stop z k text exit Q f.1
run_gives t s z h k text (Hear most next) (Did made a ∷ ds) exit Q g fit f = absurd f
run_gives t s z h k text (Hear most next) (Said part ∷ ds) exit Q g fit f = absurd f
run_gives t s z h k text (Hear most next) (Heard piece ∷ ds) exit Q g fit (short, f) = run_gives t s z h k text (next piece) ds exit Q (g piece short) fit f
run_gives t s z h k text (Recall next) ds exit Q g fit f = run_gives t s z h k text (next h) ds exit Q g fit f
run_gives t s z h k text (Note hand next) ds exit Q g fit (inl e) = rw e.0 (stopped z k text exit NoMemory Q e.2 memory_no memory_out)
run_gives t s z h k text (Note hand next) ds exit Q g fit (inr f) = run_gives t s z hand k text next ds exit Q g fit f
