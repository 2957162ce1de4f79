-- Calls that follow plans, one after another.
use Rattle.std.proofs.Common.{◌≡◌, ◌≢◌, ◌⊎◌, inl, inr, ◌++◌, ◌∷◌, [], List, ℕ, ◌≤◌, Option, Some, None, Result, Ok, Err, map, length, refl, sym, ◌∙◌, ap, append_assoc, append-nil, arith, subst}
use Rattle.std.specs.Prelude.{IsErr, IsErrAnd, IfOk}
use Rattle.mh_base.specs.Counts.{Rose}
use Rattle.mh_base.specs.Streams.{SourceState, SinkState, Adds, AddsPart, Puts, Takes, Reads}
use Rattle.mh_base.specs.declared.streams.SinkFault.{SinkFault}
use Rattle.mh_base.specs.declared.streams.SinkFault.TheVariants as sink
use Rattle.mh_base.specs.declared.streams.SourceFault.{SourceFault}
use Rattle.mh_base.specs.declared.streams.SourceFault.TheVariants as source
use Rattle.folder_files.specs.declared.step.Step.{Step}
use Rattle.folder_files.specs.declared.step.Answer.{Answer}
use Rattle.folder_files.specs.declared.step.Answer.TheVariants.{Failed}
use Rattle.folder_files.specs.declared.event.Event.{Event}
use Rattle.folder_files.specs.Rows.{IsAnswerOf}
use Rattle.folder_files.specs.Story.{FilesState, Mine, Theirs, Asks, Waits, Counts}
use Rattle.folder_files.specs.Growing.{GrowsBy-trans, GrowsBy-none}
use Rattle.file_plans.specs.Plan.{Hand, Plan, Return, Ask, Try, Say, Hear, Recall, Note, bind, after, ◌>>=◌, converted, lifted, ask, attempt, say, hear}
use Rattle.file_plans.specs.Runs.{Exit, Returned, FilesFailed, InFailed, OutFailed, NoMemory, Cause, OfPlan, OfFiles, OfIn, OfOut, OfMemory, exit_by, exit_of, Deed, Did, Said, Heard, Runs, AnyFailed}
use Rattle.file_plans.specs.Follows.{Turn, Filed, Spoke, Took, filed_in, said_in, heard_in, deeds_in, TakesAll, Hears, State, Went, Follows, all, by_out, by_hand}

abbrev pub theirs : List Event → List Turn → List Turn
theirs [] ts = ts
theirs (e ∷ es) ts = Filed (Theirs e) ∷ theirs es ts

-- logs one after another
pub filed-append : (a b : List Turn) → filed_in (a ++ b) ≡ filed_in a ++ filed_in b
filed-append [] b = refl
filed-append (Filed m ∷ a) b = ap (λ ms. m ∷ ms) (filed-append a b)
filed-append (Spoke p ∷ a) b = filed-append a b
filed-append (Took p ∷ a) b = filed-append a b

pub said-append : (a b : List Turn) → said_in (a ++ b) ≡ said_in a ++ said_in b
said-append [] b = refl
said-append (Filed m ∷ a) b = said-append a b
said-append (Spoke p ∷ a) b = ap (λ t. p ++ t) (said-append a b) ∙ sym (append_assoc p (said_in a) (said_in b))
said-append (Took p ∷ a) b = said-append a b

pub heard-append : (a b : List Turn) → heard_in (a ++ b) ≡ heard_in a ++ heard_in b
heard-append [] b = refl
heard-append (Filed m ∷ a) b = heard-append a b
heard-append (Spoke p ∷ a) b = heard-append a b
heard-append (Took p ∷ a) b = ap (λ ps. p ∷ ps) (heard-append a b)

pub deeds-append : (a b : List Turn) → deeds_in (a ++ b) ≡ deeds_in a ++ deeds_in b
deeds-append [] b = refl
deeds-append (Filed (Mine s x f) ∷ a) b = ap (λ ds. Did s x ∷ ds) (deeds-append a b)
deeds-append (Filed (Theirs e) ∷ a) b = deeds-append a b
deeds-append (Spoke p ∷ a) b = ap (λ ds. Said p ∷ ds) (deeds-append a b)
deeds-append (Took p ∷ a) b = ap (λ ds. Heard p ∷ ds) (deeds-append a b)

Adds-trans : (a b c : Option (List ℕ)) (p q : List ℕ) → Adds a b p → Adds b c q → Adds a c (p ++ q)
Adds-trans None None None p q x y = tt
Adds-trans (Some a) (Some b) (Some c) p q x y = y ∙ rw x (append_assoc a p q)
Adds-trans None (Some b) c p q x y = absurd x
Adds-trans (Some a) None c p q x y = absurd x
Adds-trans None None (Some c) p q x y = absurd y
Adds-trans (Some a) (Some b) None p q x y = absurd y

Adds-none : (t : Option (List ℕ)) → Adds t t []
Adds-none None = tt
Adds-none (Some t) = sym (append-nil t)

TakesAll-trans : (a b c : List ℕ) (p q : List (List ℕ)) → TakesAll a b p → TakesAll b c q → TakesAll a c (p ++ q)
TakesAll-trans a b c [] q x y = rw x at y
TakesAll-trans a b c (p ∷ ps) q x y = (x.0, x.1, x.2, TakesAll-trans x.0 b c ps q x.3 y)

Hears-trans : (a b c : Option (List ℕ)) (p q : List (List ℕ)) → Hears a b p → Hears b c q → Hears a c (p ++ q)
Hears-trans None None None p q x y = tt
Hears-trans (Some a) (Some b) (Some c) p q x y = TakesAll-trans a b c p q x y
Hears-trans None (Some b) c p q x y = absurd x
Hears-trans (Some a) None c p q x y = absurd x
Hears-trans None None (Some c) p q x y = absurd y
Hears-trans (Some a) (Some b) None p q x y = absurd y

Hears-none : (t : Option (List ℕ)) → Hears t t []
Hears-none None = tt
Hears-none (Some t) = refl

Rose-left : (a b c : ℕ) → Rose a b → b ≤ c → Rose a c
Rose-left a b c p q = omega (arith, p, q)

Rose-right : (a b c : ℕ) → a ≤ b → Rose b c → Rose a c
Rose-right a b c p q = omega (arith, p, q)

le_trans : (a b c : ℕ) → a ≤ b → b ≤ c → a ≤ c
le_trans a b c p q = omega (arith, p, q)

le_same : (a : ℕ) → a ≤ a
le_same a = omega arith

-- runs one after another
pub runs_memory : {R : Type 0} (p : Plan R) (h : Hand) → Runs p h [] h NoMemory
unfolding Runs
runs_memory (Return r) h = (refl, inr refl)
runs_memory (Ask step next) h = (refl, refl)
runs_memory (Try step next) h = (refl, refl)
runs_memory (Say piece next) h = (refl, refl)
runs_memory (Hear most next) h = (refl, inr refl)
runs_memory (Recall next) h = runs_memory (next h) h
runs_memory (Note hand next) h = inl (refl, refl, refl)

returned_same : {R : Type 0} (r s : R) → Returned r ≡ Returned s → r ≡ s
returned_same r s e = cc

returned_memory : {R : Type 0} (r : R) → Returned r ≡ NoMemory → ⊥
returned_memory r e = cc

returned_in : {R : Type 0} (r : R) → Returned r ≡ InFailed → ⊥
returned_in r e = cc

returned_files : {R : Type 0} (r : R) → Returned r ≡ FilesFailed → ⊥
returned_files r e = cc

returned_out : {R : Type 0} (r : R) → Returned r ≡ OutFailed → ⊥
returned_out r e = cc

runs_next : {A B : Type 0} (k : A → Plan B) (r s : A) (h j : Hand) (es : List Deed) (x : Exit B) → r ≡ s → Runs (k r) h es j x → Runs (k s) h es j x
runs_next k r s h j es x e f = rw e at f

never_heard : {R : Type 0} (r : R) → (Returned r ≡ InFailed) ⊎ (Returned r ≡ NoMemory) → ⊥
never_heard r (inl e) = returned_in r e
never_heard r (inr e) = returned_memory r e

runs_on : {A B : Type 0} (p : Plan A) (k : A → Plan B) (h i j : Hand) (ds es : List Deed) (r : A) (x : Exit B) → Runs p h ds i (Returned r) → Runs (k r) i es j x → Runs (bind p k) h (ds ++ es) j x
unfolding Runs bind
runs_on (Return s) k h i j [] es r x (same, inl e) g = rw same at (runs_next k r s i j es x (returned_same r s e) g)
runs_on (Return s) k h i j [] es r x (same, inr e) g = absurd (returned_memory r e)
runs_on (Return s) k h i j (d ∷ ds) es r x f g = absurd f
runs_on (Ask step next) k h i j [] es r x f g = absurd (returned_memory r f.1)
runs_on (Ask step next) k h i j (Did s a ∷ ds) es r x (is, row, inl w) g = absurd (let e = w.3 in cc)
runs_on (Ask step next) k h i j (Did s a ∷ ds) es r x (is, row, inr (live, f)) g = (is, row, inr (live, runs_on (next a) k h i j ds es r x f g))
runs_on (Ask step next) k h i j (Said p ∷ ds) es r x f g = absurd f
runs_on (Ask step next) k h i j (Heard p ∷ ds) es r x f g = absurd f
runs_on (Try step next) k h i j [] es r x f g = absurd (returned_memory r f.1)
runs_on (Try step next) k h i j (Did s a ∷ ds) es r x (is, row, f) g = (is, row, runs_on (next a) k h i j ds es r x f g)
runs_on (Try step next) k h i j (Said p ∷ ds) es r x f g = absurd f
runs_on (Try step next) k h i j (Heard p ∷ ds) es r x f g = absurd f
runs_on (Say piece next) k h i j [] es r x f g = absurd (returned_memory r f.1)
runs_on (Say piece next) k h i j (Did s a ∷ ds) es r x f g = absurd f
runs_on (Say piece next) k h i j (Said part ∷ ds) es r x (inl w) g = absurd (let e = w.3 in cc)
runs_on (Say piece next) k h i j (Said part ∷ ds) es r x (inr (is, f)) g = inr (is, runs_on next k h i j ds es r x f g)
runs_on (Say piece next) k h i j (Heard part ∷ ds) es r x f g = absurd f
runs_on (Hear most next) k h i j [] es r x f g = absurd (never_heard r f.1)
runs_on (Hear most next) k h i j (Did s a ∷ ds) es r x f g = absurd f
runs_on (Hear most next) k h i j (Said part ∷ ds) es r x f g = absurd f
runs_on (Hear most next) k h i j (Heard piece ∷ ds) es r x (short, f) g = (short, runs_on (next piece) k h i j ds es r x f g)
runs_on (Recall next) k h i j ds es r x f g = runs_on (next h) k h i j ds es r x f g
runs_on (Note hand next) k h i j ds es r x (inl w) g = absurd (returned_memory r w.2)
runs_on (Note hand next) k h i j ds es r x (inr f) g = inr (runs_on next k hand i j ds es r x f g)

-- an exit that isn't the plan's
abbrev pub Stops : {A B : Type 0} → Exit A → Exit B → Type 0
Stops (Returned a) y = ⊥
Stops FilesFailed y = y ≡ FilesFailed
Stops InFailed y = y ≡ InFailed
Stops OutFailed y = y ≡ OutFailed
Stops NoMemory y = y ≡ NoMemory

stops_files : {A B : Type 0} (x : Exit A) (y : Exit B) → x ≡ FilesFailed → Stops x y → y ≡ FilesFailed
stops_files x y e s = rw e at s

stops_in : {A B : Type 0} (x : Exit A) (y : Exit B) → x ≡ InFailed → Stops x y → y ≡ InFailed
stops_in x y e s = rw e at s

stops_out : {A B : Type 0} (x : Exit A) (y : Exit B) → x ≡ OutFailed → Stops x y → y ≡ OutFailed
stops_out x y e s = rw e at s

stops_memory : {A B : Type 0} (x : Exit A) (y : Exit B) → x ≡ NoMemory → Stops x y → y ≡ NoMemory
stops_memory x y e s = rw e at s

stops_returned : {A B : Type 0} (x : Exit A) (y : Exit B) (r : A) → x ≡ Returned r → Stops x y → ⊥
stops_returned x y r e s = rw e at s

memory_at : {R : Type 0} (p : Plan R) (h j : Hand) (y : Exit R) → j ≡ h → y ≡ NoMemory → Runs p h [] j y
memory_at p h j y e f = rw (e, f) (runs_memory p h)

heard_stop : {A B : Type 0} (x : Exit A) (y : Exit B) → (x ≡ InFailed) ⊎ (x ≡ NoMemory) → Stops x y → (y ≡ InFailed) ⊎ (y ≡ NoMemory)
heard_stop x y (inl e) s = inl (stops_in x y e s)
heard_stop x y (inr e) s = inr (stops_memory x y e s)

runs_stop : {A B : Type 0} (p : Plan A) (k : A → Plan B) (h j : Hand) (ds : List Deed) (x : Exit A) (y : Exit B) → Runs p h ds j x → Stops x y → Runs (bind p k) h ds j y
unfolding Runs bind
runs_stop (Return r) k h j [] x y (same, inl e) s = absurd (stops_returned x y r e s)
runs_stop (Return r) k h j [] x y (same, inr e) s = memory_at (k r) h j y same (stops_memory x y e s)
runs_stop (Return r) k h j (d ∷ ds) x y f s = absurd f
runs_stop (Ask step next) k h j [] x y f s = (f.0, stops_memory x y f.1 s)
runs_stop (Ask step next) k h j (Did t a ∷ ds) x y (is, row, inl w) s = (is, row, inl (w.0, w.1, w.2, stops_files x y w.3 s))
runs_stop (Ask step next) k h j (Did t a ∷ ds) x y (is, row, inr (live, f)) s = (is, row, inr (live, runs_stop (next a) k h j ds x y f s))
runs_stop (Ask step next) k h j (Said p ∷ ds) x y f s = absurd f
runs_stop (Ask step next) k h j (Heard p ∷ ds) x y f s = absurd f
runs_stop (Try step next) k h j [] x y f s = (f.0, stops_memory x y f.1 s)
runs_stop (Try step next) k h j (Did t a ∷ ds) x y (is, row, f) s = (is, row, runs_stop (next a) k h j ds x y f s)
runs_stop (Try step next) k h j (Said p ∷ ds) x y f s = absurd f
runs_stop (Try step next) k h j (Heard p ∷ ds) x y f s = absurd f
runs_stop (Say piece next) k h j [] x y f s = (f.0, stops_memory x y f.1 s)
runs_stop (Say piece next) k h j (Did t a ∷ ds) x y f s = absurd f
runs_stop (Say piece next) k h j (Said part ∷ ds) x y (inl w) s = inl (w.0, w.1, w.2, stops_out x y w.3 s)
runs_stop (Say piece next) k h j (Said part ∷ ds) x y (inr (is, f)) s = inr (is, runs_stop next k h j ds x y f s)
runs_stop (Say piece next) k h j (Heard part ∷ ds) x y f s = absurd f
runs_stop (Hear most next) k h j [] x y f s = (f.0, heard_stop x y f.1 s)
runs_stop (Hear most next) k h j (Did t a ∷ ds) x y f s = absurd f
runs_stop (Hear most next) k h j (Said part ∷ ds) x y f s = absurd f
runs_stop (Hear most next) k h j (Heard piece ∷ ds) x y (short, f) s = (short, runs_stop (next piece) k h j ds x y f s)
runs_stop (Recall next) k h j ds x y f s = runs_stop (next h) k h j ds x y f s
runs_stop (Note hand next) k h j ds x y (inl w) s = inl (w.0, w.1, stops_memory x y w.2 s)
runs_stop (Note hand next) k h j ds x y (inr f) s = inr (runs_stop next k hand j ds x y f s)

any_split : (a b : List Deed) → AnyFailed (a ++ b) → AnyFailed a ⊎ AnyFailed b
any_split [] b p = inr p
any_split (Did s x ∷ a) b (inl p) = inl (inl p)
any_split (Did s x ∷ a) b (inr p) = more (any_split a b p)
  where
    more : AnyFailed a ⊎ AnyFailed b → ((x ≡ Failed) ⊎ AnyFailed a) ⊎ AnyFailed b
    more (inl q) = inl (inr q)
    more (inr q) = inr q
any_split (Said piece ∷ a) b p = any_split a b p
any_split (Heard piece ∷ a) b p = any_split a b p

failed_both : (x y z : ℕ) (A B : Type 0) → A ⊎ B → x ≤ y → y ≤ z → (A → Rose x y) → (B → Rose y z) → Rose x z
failed_both x y z A B (inl p) le lf f g = Rose-left x y z (f p) lf
failed_both x y z A B (inr p) le lf f g = Rose-right x y z le (g p)

-- a call that returned, and then another
went_on : {A B : Type 0} (run : ℕ) (p : Plan A) (k : A → Plan B) (x y z : State) (r : A) (e : Exit B) → Went run p x y (Returned r) → Went run (k r) y z e → Went run (bind p k) x z e
went_on run p k x y z r e f g =
    record {
      log = f.log ++ g.log;
      grows = rw filed-append (GrowsBy-trans run x.files.story y.files.story z.files.story (filed_in f.log) (filed_in g.log) f.grows g.grows);
      adds = rw said-append (Adds-trans x.out.told y.out.told z.out.told (said_in f.log) (said_in g.log) f.adds g.adds);
      hears = rw heard-append (Hears-trans x.input.left y.input.left z.input.left (heard_in f.log) (heard_in g.log) f.hears g.hears);
      runs = rw deeds-append (runs_on p k x.hand y.hand z.hand (deeds_in f.log) (deeds_in g.log) r e f.runs g.runs);
      files_cause = λ q. Rose-right x.files.faults y.files.faults z.files.faults f.files_later (g.files_cause q);
      failed_cause = λ q. failed_both x.files.faults y.files.faults z.files.faults (AnyFailed (deeds_in f.log)) (AnyFailed (deeds_in g.log)) (any_split (deeds_in f.log) (deeds_in g.log) (rw (deeds-append f.log g.log) at q)) f.files_later g.files_later f.failed_cause g.failed_cause;
      in_cause = λ q. Rose-right x.input.faults y.input.faults z.input.faults f.in_later (g.in_cause q);
      out_cause = λ q. Rose-right x.out.faults y.out.faults z.out.faults f.out_later (g.out_cause q);
      files_later = le_trans x.files.faults y.files.faults z.files.faults f.files_later g.files_later;
      in_later = le_trans x.input.faults y.input.faults z.input.faults f.in_later g.in_later;
      out_later = le_trans x.out.faults y.out.faults z.out.faults f.out_later g.out_later;
    }

files_stops : {A B : Type 0} (x : Exit A) (y : Exit B) → Stops x y → y ≡ FilesFailed → x ≡ FilesFailed
files_stops (Returned a) y s e = absurd s
files_stops FilesFailed y s e = refl
files_stops InFailed y s e = cc
files_stops OutFailed y s e = cc
files_stops NoMemory y s e = cc

in_stops : {A B : Type 0} (x : Exit A) (y : Exit B) → Stops x y → y ≡ InFailed → x ≡ InFailed
in_stops (Returned a) y s e = absurd s
in_stops FilesFailed y s e = cc
in_stops InFailed y s e = refl
in_stops OutFailed y s e = cc
in_stops NoMemory y s e = cc

out_stops : {A B : Type 0} (x : Exit A) (y : Exit B) → Stops x y → y ≡ OutFailed → x ≡ OutFailed
out_stops (Returned a) y s e = absurd s
out_stops FilesFailed y s e = cc
out_stops InFailed y s e = cc
out_stops OutFailed y s e = refl
out_stops NoMemory y s e = cc

-- a call that stopped
went_off : {A B : Type 0} (run : ℕ) (p : Plan A) (k : A → Plan B) (x y : State) (e : Exit A) (f : Exit B) → Stops e f → Went run p x y e → Went run (bind p k) x y f
went_off run p k x y e f s w =
    record {
      log = w.log;
      grows = w.grows;
      adds = w.adds;
      hears = w.hears;
      runs = runs_stop p k x.hand y.hand (deeds_in w.log) e f w.runs s;
      files_cause = λ q. w.files_cause (files_stops e f s q);
      failed_cause = w.failed_cause;
      in_cause = λ q. w.in_cause (in_stops e f s q);
      out_cause = λ q. w.out_cause (out_stops e f s q);
      files_later = w.files_later;
      in_later = w.in_later;
      out_later = w.out_later;
    }

-- nothing happened
went_none : {R : Type 0} (run : ℕ) (p : Plan R) (x : State) (j : Hand) (e : Exit R) → Runs p x.hand [] j e → (e ≡ FilesFailed → ⊥) → (e ≡ InFailed → ⊥) → (e ≡ OutFailed → ⊥) →
    Went run p x (all j x.files x.input x.out) e
went_none run p x j e runs files input out =
    record {
      log = [];
      grows = GrowsBy-none run x.files.story;
      adds = Adds-none x.out.told;
      hears = Hears-none x.input.left;
      runs = runs;
      files_cause = λ q. absurd (files q);
      failed_cause = λ q. absurd q;
      in_cause = λ q. absurd (input q);
      out_cause = λ q. absurd (out q);
      files_later = le_same x.files.faults;
      in_later = le_same x.input.faults;
      out_later = le_same x.out.faults;
    }

went_return : {R : Type 0} (run : ℕ) (r : R) (x : State) → Went run (Return r) x x (Returned r)
unfolding Runs
went_return run r x = went_none run (Return r) x x.hand (Returned r) (refl, inl refl) (returned_files r) (returned_in r) (returned_out r)

no_files : {R : Type 0} (x : Exit R) → x ≡ NoMemory → x ≡ FilesFailed → ⊥
no_files x e f = cc

no_in : {R : Type 0} (x : Exit R) → x ≡ NoMemory → x ≡ InFailed → ⊥
no_in x e f = cc

no_out : {R : Type 0} (x : Exit R) → x ≡ NoMemory → x ≡ OutFailed → ⊥
no_out x e f = cc

went_memory : {R : Type 0} (run : ℕ) (p : Plan R) (x : State) → Went run p x x NoMemory
went_memory run p x = went_none run p x x.hand NoMemory (runs_memory p x.hand) (no_files NoMemory refl) (no_in NoMemory refl) (no_out NoMemory refl)

-- one plan, and the next one by what it returns
pub go_on : {A B E : Type 0} (run : ℕ) (cause : E → Cause) (p : Plan (Result A E)) (k : A → Plan (Result B E)) (x y z : State) (a : A) (r : Result B E) →
    Follows run cause p x y (Ok a) → Follows run cause (k a) y z r → Follows run cause (p >>= k) x z r
unfolding ◌>>=◌
go_on run cause p k x y z a r f g = record { went = went_on run p (after k) x y z (Ok a) (exit_of cause r) f.went g.went }

off_by : {A B E : Type 0} (run : ℕ) (p : Plan (Result A E)) (k : A → Plan (Result B E)) (x y : State) (e : E) (c : Cause) → Went run p x y (exit_by e c) → Went run (bind p (after k)) x y (exit_by e c)
off_by run p k x y e OfPlan w = went_on run p (after k) x y y (Err e) (Returned (Err e)) w (went_return run (Err e) y)
off_by run p k x y e OfFiles w = went_off run p (after k) x y FilesFailed FilesFailed refl w
off_by run p k x y e OfIn w = went_off run p (after k) x y InFailed InFailed refl w
off_by run p k x y e OfOut w = went_off run p (after k) x y OutFailed OutFailed refl w
off_by run p k x y e OfMemory w = went_off run p (after k) x y NoMemory NoMemory refl w

pub stop_at : {A B E : Type 0} (run : ℕ) (cause : E → Cause) (p : Plan (Result A E)) (k : A → Plan (Result B E)) (x y : State) (e : E) →
    Follows run cause p x y (Err e) → Follows run cause (p >>= k) x y (Err e)
unfolding ◌>>=◌
stop_at run cause p k x y e f = record { went = off_by run p k x y e (cause e) f.went }

gives : {A E : Type 0} (run : ℕ) (cause : E → Cause) (a : A) (x : State) → Follows run cause (Return (Ok a)) x x (Ok a)
gives run cause a x = record { went = went_return run (Ok a) x }

exit_plan : {A E : Type 0} (cause : E → Cause) (e : E) → cause e ≡ OfPlan → exit_by {T = A} e (cause e) ≡ Returned (Err e)
exit_plan cause e p = rw p refl

no_memory : {A E : Type 0} (run : ℕ) (cause : E → Cause) (p : Plan (Result A E)) (e : E) (x : State) → cause e ≡ OfMemory → Follows run cause p x x (Err e)
no_memory run cause p e x c = record { went = rw c (went_memory run p x) }

out_of_memory : {A E : Type 0} (run : ℕ) (cause : E → Cause) (p : Plan (Result A E)) (r : Result A E) (e : E) (x : State) → IsErr r → IsErrAnd r (λ f. f ≡ e) → cause e ≡ OfMemory → Follows run cause p x x r
out_of_memory run cause p (Ok a) e x err is c = absurd (let h = err in cc)
out_of_memory run cause p (Err f) e x err is c = no_memory run cause p f x (ap cause is ∙ c)

stop_by : {A B E : Type 0} (run : ℕ) (cause : E → Cause) (p : Plan (Result A E)) (k : A → Plan (Result B E)) (x y : State) (e : E) (r : Result B E) →
    Follows run cause p x y (Err e) → IsErr r → IsErrAnd r (λ f. f ≡ e) → Follows run cause (p >>= k) x y r
stop_by run cause p k x y e (Ok a) f err is = absurd (let h = err in cc)
stop_by run cause p k x y e (Err g) f err is = rw is (stop_at run cause p k x y e f)

-- errors of another layer
lift_by : {A E F : Type 0} (run : ℕ) (from : E → F) (p : Plan (Result A E)) (x y : State) (e : E) (c : Cause) → Went run p x y (exit_by e c) → Went run (bind p (λ r. Return (converted from r))) x y (exit_by (from e) c)
lift_by run from p x y e OfPlan w = went_on run p (λ r. Return (converted from r)) x y y (Err e) (Returned (Err (from e))) w (went_return run (Err (from e)) y)
lift_by run from p x y e OfFiles w = went_off run p (λ r. Return (converted from r)) x y FilesFailed FilesFailed refl w
lift_by run from p x y e OfIn w = went_off run p (λ r. Return (converted from r)) x y InFailed InFailed refl w
lift_by run from p x y e OfOut w = went_off run p (λ r. Return (converted from r)) x y OutFailed OutFailed refl w
lift_by run from p x y e OfMemory w = went_off run p (λ r. Return (converted from r)) x y NoMemory NoMemory refl w

-- the same cause in both layers
pub record SameCause {E F : Type 0} (cause : E → Cause) (other : F → Cause) (from : E → F) : Type 0 where
  pub same : (e : E) → other (from e) ≡ cause e

pub lift_ok : {A E F : Type 0} (run : ℕ) (cause : E → Cause) (other : F → Cause) (from : E → F) (p : Plan (Result A E)) (x y : State) (a : A) → Follows run cause p x y (Ok a) → Follows run other (lifted from p) x y (Ok a)
unfolding lifted
lift_ok run cause other from p x y a f = record { went = went_on run p (λ r. Return (converted from r)) x y y (Ok a) (Returned (Ok a)) f.went (went_return run (Ok a) y) }

pub lift_err : {A E F : Type 0} (run : ℕ) (cause : E → Cause) (other : F → Cause) (from : E → F) (p : Plan (Result A E)) (x y : State) (e : E) (f : F) → SameCause cause other from → f ≡ from e →
    Follows run cause p x y (Err e) → Follows run other (lifted from p) x y (Err f)
unfolding lifted
lift_err run cause other from p x y e f keeps is w = rw is (record { went = rw (keeps.same e) (lift_by run from p x y e (cause e) w.went) })

stop_lifted : {A B E F : Type 0} (run : ℕ) (cause : E → Cause) (other : F → Cause) (from : E → F) (p : Plan (Result A E)) (k : A → Plan (Result B F)) (x y : State) (e : E) (r : Result B F) → SameCause cause other from →
    Follows run cause p x y (Err e) → IsErr r → IsErrAnd r (λ f. f ≡ from e) → Follows run other (lifted from p >>= k) x y r
stop_lifted run cause other from p k x y e (Ok a) keeps f err is = absurd (let h = err in cc)
stop_lifted run cause other from p k x y e (Err g) keeps f err is = stop_at run other (lifted from p) k x y g (lift_err run cause other from p x y e g keeps is f)

go_lifted : {A B E F : Type 0} (run : ℕ) (cause : E → Cause) (other : F → Cause) (from : E → F) (p : Plan (Result A E)) (k : A → Plan (Result B F)) (x y z : State) (a : A) (r : Result B F) →
    Follows run cause p x y (Ok a) → Follows run other (k a) y z r → Follows run other (lifted from p >>= k) x z r
go_lifted run cause other from p k x y z a r f g = go_on run other (lifted from p) k x y z a r (lift_ok run cause other from p x y a f) g

-- where nothing was said or heard, the output and the input don't matter
none_of : (t : List ℕ) → [] ≡ [] ++ t → t ≡ []
none_of [] e = refl
none_of (x ∷ t) e = cc

adds_none : (t : Option (List ℕ)) (piece : List ℕ) → piece ≡ [] → Adds t t piece
adds_none t piece e = rw e (Adds-none t)

went_over : {R : Type 0} (run : ℕ) (p : Plan R) (h i : Hand) (f g : FilesState) (o : SinkState) (e : Exit R) → Went run p (by_hand h f) (by_hand i g) e → Went run p (by_out h f o) (by_out i g o) e
went_over run p h i f g o e w =
    record {
      log = w.log;
      grows = w.grows;
      adds = adds_none o.told (said_in w.log) (none_of (said_in w.log) w.adds);
      hears = w.hears;
      runs = w.runs;
      files_cause = w.files_cause;
      failed_cause = w.failed_cause;
      in_cause = w.in_cause;
      out_cause = λ q. absurd (let rose = w.out_cause q in omega (arith, rose));
      files_later = w.files_later;
      in_later = w.in_later;
      out_later = le_same o.faults;
    }

never_back : (ps : List (List ℕ)) → TakesAll [] (0 ∷ []) ps → ⊥
never_back [] t = cc
never_back (p ∷ ps) t = never_back ps (rw (empty_rest p t.0 t.1) at t.3)
  where
    empty_rest : (p rest : List ℕ) → [] ≡ p ++ rest → rest ≡ []
    empty_rest [] rest e = sym e
    empty_rest (x ∷ p) rest e = cc

some_left : (x : ℕ) (xs : List ℕ) → x ∷ xs ≡ [] → ⊥
some_left x xs e = cc

none_heard : (ps : List (List ℕ)) → TakesAll (0 ∷ []) (0 ∷ []) ps → ps ≡ []
none_heard [] t = refl
none_heard ([] ∷ ps) t = absurd (some_left 0 [] (t.2 refl))
none_heard ((x ∷ p) ∷ ps) t = absurd (never_back ps (rw (empty_rest x p t.0 t.1) at t.3))
  where
    empty_rest : (x : ℕ) (p rest : List ℕ) → 0 ∷ [] ≡ (x ∷ p) ++ rest → rest ≡ []
    empty_rest x [] rest e = cc
    empty_rest x (y ∷ p) rest e = cc

hears_none : (t : Option (List ℕ)) (ps : List (List ℕ)) → ps ≡ [] → Hears t t ps
hears_none t ps e = rw e (Hears-none t)

went_beside : {R : Type 0} (run : ℕ) (p : Plan R) (h i : Hand) (f g : FilesState) (n : SourceState) (o u : SinkState) (e : Exit R) → Went run p (by_out h f o) (by_out i g u) e → Went run p (all h f n o) (all i g n u) e
went_beside run p h i f g n o u e w =
    record {
      log = w.log;
      grows = w.grows;
      adds = w.adds;
      hears = hears_none n.left (heard_in w.log) (none_heard (heard_in w.log) w.hears);
      runs = w.runs;
      files_cause = w.files_cause;
      failed_cause = w.failed_cause;
      in_cause = λ q. absurd (let rose = w.in_cause q in omega (arith, rose));
      out_cause = w.out_cause;
      files_later = w.files_later;
      in_later = le_same n.faults;
      out_later = w.out_later;
    }

-- the touches
filed_theirs : (others : List Event) (ts : List Turn) → filed_in (theirs others ts) ≡ map Theirs others ++ filed_in ts
filed_theirs [] ts = refl
filed_theirs (e ∷ es) ts = ap (λ ms. Theirs e ∷ ms) (filed_theirs es ts)

said_theirs : (others : List Event) (ts : List Turn) → said_in (theirs others ts) ≡ said_in ts
said_theirs [] ts = refl
said_theirs (e ∷ es) ts = said_theirs es ts

heard_theirs : (others : List Event) (ts : List Turn) → heard_in (theirs others ts) ≡ heard_in ts
heard_theirs [] ts = refl
heard_theirs (e ∷ es) ts = heard_theirs es ts

deeds_theirs : (others : List Event) (ts : List Turn) → deeds_in (theirs others ts) ≡ deeds_in ts
deeds_theirs [] ts = refl
deeds_theirs (e ∷ es) ts = deeds_theirs es ts

one_failed : (s : Step) (a : Answer) (P : Type 0) → (a ≡ Failed → P) → AnyFailed (Did s a ∷ []) → P
one_failed s a P f (inl p) = f p
one_failed s a P f (inr p) = absurd p

went_ask : {R : Type 0} (run : ℕ) (p : Plan R) (h : Hand) (f g : FilesState) (s : Step) (a : Answer) (e : Exit R) →
    Asks run f.story g.story s a → Counts f.faults g.faults a → (e ≡ FilesFailed → Rose f.faults g.faults) → (e ≡ InFailed → ⊥) → (e ≡ OutFailed → ⊥) →
    Runs p h (Did s a ∷ []) h e → Went run p (by_hand h f) (by_hand h g) e
went_ask run p h f g s a e (others, after_, grows) counts rose input out runs =
    record {
      log = theirs others (Filed (Mine s a after_) ∷ []);
      grows = rw (filed_theirs others (Filed (Mine s a after_) ∷ [])) grows;
      adds = rw (said_theirs others (Filed (Mine s a after_) ∷ [])) refl;
      hears = rw (heard_theirs others (Filed (Mine s a after_) ∷ [])) refl;
      runs = rw (deeds_theirs others (Filed (Mine s a after_) ∷ [])) runs;
      files_cause = rose;
      failed_cause = λ q. one_failed s a (Rose f.faults g.faults) counts.1 (rw (deeds_theirs others (Filed (Mine s a after_) ∷ [])) at q);
      in_cause = λ q. absurd (input q);
      out_cause = λ q. absurd (out q);
      files_later = counts.0;
      in_later = omega arith;
      out_later = omega arith;
    }

went_wait : {R : Type 0} (run : ℕ) (p : Plan R) (h : Hand) (f g : FilesState) → Waits run f.story g.story → f.faults ≤ g.faults → Went run p (by_hand h f) (by_hand h g) NoMemory
went_wait run p h f g (others, grows) later =
    record {
      log = theirs others [];
      grows = rw (filed_theirs others [], append-nil) grows;
      adds = rw (said_theirs others []) refl;
      hears = rw (heard_theirs others []) refl;
      runs = rw (deeds_theirs others []) (runs_memory p h);
      files_cause = λ q. absurd (no_files NoMemory refl q);
      failed_cause = λ q. absurd (rw (deeds_theirs others []) at q);
      in_cause = λ q. absurd (no_in NoMemory refl q);
      out_cause = λ q. absurd (no_out NoMemory refl q);
      files_later = later;
      in_later = omega arith;
      out_later = omega arith;
    }

-- the answer is the plan's
pub asked : {E : Type 0} (run : ℕ) (cause : E → Cause) (h : Hand) (f g : FilesState) (s : Step) (a : Answer) →
    Asks run f.story g.story s a → IsAnswerOf s a → Counts f.faults g.faults a → a ≢ Failed → Follows run cause (ask s) (by_hand h f) (by_hand h g) (Ok a)
unfolding Runs ask
asked {E = E} run cause h f g s a asks row counts live =
    let r : Result Answer E = Ok a in
    record { went = went_ask run (ask s) h f g s a (Returned r) asks counts (λ q. absurd (returned_files r q)) (returned_in r) (returned_out r) (refl, row, inr (live, (refl, inl refl))) }

-- the answer is Failed
pub failed : {E : Type 0} (run : ℕ) (cause : E → Cause) (h : Hand) (f g : FilesState) (s : Step) (a : Answer) (e : E) →
    Asks run f.story g.story s a → IsAnswerOf s a → Counts f.faults g.faults a → a ≡ Failed → cause e ≡ OfFiles → Follows run cause (ask s) (by_hand h f) (by_hand h g) (Err e)
unfolding Runs ask
failed run cause h f g s a e asks row counts dead is =
    record { went = rw is (went_ask run (ask s) h f g s a FilesFailed asks counts (λ q. counts.1 dead) (λ q. cc) (λ q. cc) (refl, row, inl (dead, refl, refl, refl))) }

-- the answer is the plan's, also where it is Failed
pub attempted : {E : Type 0} (run : ℕ) (cause : E → Cause) (h : Hand) (f g : FilesState) (s : Step) (a : Answer) →
    Asks run f.story g.story s a → IsAnswerOf s a → Counts f.faults g.faults a → Follows run cause (attempt s) (by_hand h f) (by_hand h g) (Ok a)
unfolding Runs attempt
attempted {E = E} run cause h f g s a asks row counts =
    let r : Result Answer E = Ok a in
    record { went = went_ask run (attempt s) h f g s a (Returned r) asks counts (λ q. absurd (returned_files r q)) (returned_in r) (returned_out r) (refl, row, (refl, inl refl)) }

-- no step was made
pub unasked : {A E : Type 0} (run : ℕ) (cause : E → Cause) (p : Plan (Result A E)) (h : Hand) (f g : FilesState) (e : E) →
    Waits run f.story g.story → f.faults ≤ g.faults → cause e ≡ OfMemory → Follows run cause p (by_hand h f) (by_hand h g) (Err e)
unasked run cause p h f g e waits later is = record { went = rw is (went_wait run p h f g waits later) }

-- a piece was put
went_say : {R : Type 0} (run : ℕ) (p : Plan R) (h : Hand) (f : FilesState) (o u : SinkState) (part : List ℕ) (e : Exit R) → Adds o.told u.told part → o.faults ≤ u.faults →
    (e ≡ FilesFailed → ⊥) → (e ≡ InFailed → ⊥) → (e ≡ OutFailed → Rose o.faults u.faults) → Runs p h (Said part ∷ []) h e → Went run p (by_out h f o) (by_out h f u) e
went_say run p h f o u part e adds later files input rose runs =
    record {
      log = Spoke part ∷ [];
      grows = GrowsBy-none run f.story;
      adds = rw append-nil adds;
      hears = refl;
      runs = runs;
      files_cause = λ q. absurd (files q);
      failed_cause = λ q. absurd q;
      in_cause = λ q. absurd (input q);
      out_cause = rose;
      files_later = le_same f.faults;
      in_later = omega arith;
      out_later = later;
    }

said : {E : Type 0} (run : ℕ) (cause : E → Cause) (h : Hand) (f : FilesState) (o u : SinkState) (piece : List ℕ) → Adds o.told u.told piece → o.faults ≤ u.faults →
    Follows run cause (say piece) (by_out h f o) (by_out h f u) (Ok tt)
unfolding Runs say
said {E = E} run cause h f o u piece adds later =
    let r : Result Unit E = Ok tt in
    record { went = went_say run (say piece) h f o u piece (Returned r) adds later (returned_files r) (returned_in r) (λ q. absurd (returned_out r q)) (inr (refl, (refl, inl refl))) }

unsaid : {E : Type 0} (run : ℕ) (cause : E → Cause) (h : Hand) (f : FilesState) (o u : SinkState) (piece : List ℕ) (e : E) → AddsPart o.told u.told piece → o.faults ≤ u.faults → Rose o.faults u.faults → cause e ≡ OfOut →
    Follows run cause (say piece) (by_out h f o) (by_out h f u) (Err e)
unfolding Runs say
unsaid run cause h f o u piece e (part, rest, prefix, adds) later rose is =
    record { went = rw is (went_say run (say piece) h f o u part OutFailed adds later (λ q. cc) (λ q. cc) (λ q. rose) (inl ((rest, prefix), refl, refl, refl))) }

same_out : {A E : Type 0} (run : ℕ) (cause : E → Cause) (p : Plan (Result A E)) (h : Hand) (f : FilesState) (o u : SinkState) (e : E) → u.told ≡ o.told → o.faults ≤ u.faults → cause e ≡ OfMemory →
    Follows run cause p (by_out h f o) (by_out h f u) (Err e)
same_out run cause p h f o u e told later is =
    record {
      went = rw is (record {
        log = [];
        grows = GrowsBy-none run f.story;
        adds = rw told (Adds-none o.told);
        hears = refl;
        runs = runs_memory p h;
        files_cause = λ q. absurd (no_files NoMemory refl q);
        failed_cause = λ q. absurd q;
        in_cause = λ q. absurd (no_in NoMemory refl q);
        out_cause = λ q. absurd (no_out NoMemory refl q);
        files_later = le_same f.faults;
        in_later = omega arith;
        out_later = later;
      });
    }

-- what the sink's put did
pub put_done : (run : ℕ) (cause : SinkFault → Cause) (h : Hand) (f : FilesState) (o u : SinkState) (piece : List ℕ) (r : Result Unit SinkFault) →
    Puts o.told u.told piece r → o.faults ≤ u.faults → (r ≡ Err sink.Failed → Rose o.faults u.faults) → cause sink.Failed ≡ OfOut → cause sink.Memory ≡ OfMemory →
    Follows run cause (say piece) (by_out h f o) (by_out h f u) r
put_done run cause h f o u piece (Ok x) puts later rose out memory = said run cause h f o u piece puts later
put_done run cause h f o u piece (Err sink.Failed) puts later rose out memory = unsaid run cause h f o u piece sink.Failed puts later (rose refl) out
put_done run cause h f o u piece (Err sink.Memory) puts later rose out memory = same_out run cause (say piece) h f o u sink.Memory puts later memory

-- a piece was taken
takes_one : (a b : Option (List ℕ)) (piece : List ℕ) → Takes a b piece → Hears a b (piece ∷ [])
takes_one None None piece t = tt
takes_one (Some a) (Some b) piece t = (b, t.0, t.1, refl)
takes_one None (Some b) piece t = absurd t
takes_one (Some a) None piece t = absurd t

went_hear : {R : Type 0} (run : ℕ) (p : Plan R) (h : Hand) (f : FilesState) (n m : SourceState) (o : SinkState) (pieces : List ℕ) (ts : List Turn) (e : Exit R) →
    filed_in ts ≡ [] → said_in ts ≡ [] → Hears n.left m.left (heard_in ts) → n.faults ≤ m.faults → (AnyFailed (deeds_in ts) → ⊥) →
    (e ≡ FilesFailed → ⊥) → (e ≡ InFailed → Rose n.faults m.faults) → (e ≡ OutFailed → ⊥) → Runs p h (deeds_in ts) h e → Went run p (all h f n o) (all h f m o) e
went_hear run p h f n m o pieces ts e filed spoke hears later none files rose out runs =
    record {
      log = ts;
      grows = rw filed (GrowsBy-none run f.story);
      adds = rw spoke (Adds-none o.told);
      hears = hears;
      runs = runs;
      files_cause = λ q. absurd (files q);
      failed_cause = λ q. absurd (none q);
      in_cause = rose;
      out_cause = λ q. absurd (out q);
      files_later = le_same f.faults;
      in_later = later;
      out_later = le_same o.faults;
    }

same_left : (a b : Option (List ℕ)) → b ≡ a → Hears a b []
same_left a b e = rw e (Hears-none a)

-- what the source's read did
pub heard : (run : ℕ) (cause : SourceFault → Cause) (h : Hand) (f : FilesState) (n m : SourceState) (o : SinkState) (most : ℕ) (r : Result (List ℕ) SourceFault) →
    Reads n.left m.left r → IfOk r (λ piece. length piece ≤ most) → n.faults ≤ m.faults → (r ≡ Err source.Failed → Rose n.faults m.faults) → cause source.Failed ≡ OfIn → cause source.Memory ≡ OfMemory →
    Follows run cause (hear most) (all h f n o) (all h f m o) r
unfolding Runs hear
heard run cause h f n m o most (Ok piece) reads short later rose input memory =
    let r : Result (List ℕ) SourceFault = Ok piece in
    record { went = went_hear run (hear most) h f n m o [] (Took piece ∷ []) (Returned r) refl refl (takes_one n.left m.left piece reads) later (λ q. q) (returned_files r) (λ q. absurd (returned_in r q)) (returned_out r) (short, (refl, inl refl)) }
heard run cause h f n m o most (Err source.Failed) reads short later rose input memory =
    record { went = rw input (went_hear run (hear most) h f n m o [] [] InFailed refl refl (same_left n.left m.left reads) later (λ q. q) (λ q. cc) (λ q. rose refl) (λ q. cc) (refl, inl refl)) }
heard run cause h f n m o most (Err source.Memory) reads short later rose input memory =
    record { went = rw memory (went_hear run (hear most) h f n m o [] [] NoMemory refl refl (same_left n.left m.left reads) later (λ q. q) (λ q. cc) (λ q. cc) (λ q. cc) (refl, inr refl)) }

-- the hand is changed
pub noted : {A E : Type 0} {run : ℕ} {cause : E → Cause} {next : Plan (Result A E)} (hand : Hand) {h : Hand} {f : FilesState} {n : SourceState} {o : SinkState} {y : State} {r : Result A E} →
    Follows run cause next (all hand f n o) y r → Follows run cause (Note hand next) (all h f n o) y r
unfolding Runs
noted {run = run} {cause = cause} {next = next} hand {h = h} {f = f} {n = n} {o = o} {y = y} {r = r} w =
    record {
      went = record {
        log = w.went.log;
        grows = w.went.grows;
        adds = w.went.adds;
        hears = w.went.hears;
        runs = inr w.went.runs;
        files_cause = w.went.files_cause;
        failed_cause = w.went.failed_cause;
        in_cause = w.went.in_cause;
        out_cause = w.went.out_cause;
        files_later = w.went.files_later;
        in_later = w.went.in_later;
        out_later = w.went.out_later;
      };
    }

-- the hand is looked at
pub recalled : {A E : Type 0} {run : ℕ} {cause : E → Cause} (next : Hand → Plan (Result A E)) {x y : State} {r : Result A E} →
    Follows run cause (next x.hand) x y r → Follows run cause (Recall next) x y r
unfolding Runs
recalled {run = run} {cause = cause} next {x = x} {y = y} {r = r} w =
    record {
      went = record {
        log = w.went.log;
        grows = w.went.grows;
        adds = w.went.adds;
        hears = w.went.hears;
        runs = w.went.runs;
        files_cause = w.went.files_cause;
        failed_cause = w.went.failed_cause;
        in_cause = w.went.in_cause;
        out_cause = w.went.out_cause;
        files_later = w.went.files_later;
        in_later = w.went.in_later;
        out_later = w.went.out_later;
      };
    }

-- the rules, with nothing to write but the facts

-- a part that returned, and then the rest
pub go : {A B E : Type 0} {run : ℕ} {cause : E → Cause} {p : Plan (Result A E)} (k : A → Plan (Result B E)) {x y z : State} {a : A} {r : Result B E} →
    Follows run cause p x y (Ok a) → Follows run cause (k a) y z r → Follows run cause (p >>= k) x z r
go {run = run} {cause = cause} {p = p} k {x = x} {y = y} {z = z} {a = a} {r = r} f g = go_on run cause p k x y z a r f g

-- a part that ended the call
pub stop : {A B E : Type 0} {run : ℕ} {cause : E → Cause} {p : Plan (Result A E)} (k : A → Plan (Result B E)) {x y : State} {e : E} {r : Result B E} →
    Follows run cause p x y (Err e) → IsErr r × IsErrAnd r (λ f. f ≡ e) → Follows run cause (p >>= k) x y r
stop {run = run} {cause = cause} {p = p} k {x = x} {y = y} {e = e} {r = r} f is = stop_by run cause p k x y e r f is.0 is.1

-- the same for a part of the layer below, whose errors `?` converts
pub go_from : {A B E F : Type 0} {run : ℕ} {cause : E → Cause} {other : F → Cause} (from : E → F) {p : Plan (Result A E)} (k : A → Plan (Result B F)) {x y z : State} {a : A} {r : Result B F} →
    Follows run cause p x y (Ok a) → Follows run other (k a) y z r → Follows run other (lifted from p >>= k) x z r
go_from {run = run} {cause = cause} {other = other} from {p = p} k {x = x} {y = y} {z = z} {a = a} {r = r} f g = go_lifted run cause other from p k x y z a r f g

pub stop_from : {A B E F : Type 0} {run : ℕ} {cause : E → Cause} {other : F → Cause} {from : E → F} {p : Plan (Result A E)} (k : A → Plan (Result B F)) {x y : State} {e : E} {r : Result B F} →
    SameCause cause other from → Follows run cause p x y (Err e) → IsErr r × IsErrAnd r (λ f. f ≡ from e) → Follows run other (lifted from p >>= k) x y r
stop_from {run = run} {cause = cause} {other = other} {from = from} {p = p} k {x = x} {y = y} {e = e} {r = r} keeps f is = stop_lifted run cause other from p k x y e r keeps f is.0 is.1

-- want of memory at a `?` on a call that touches nothing
pub no_room : {A E : Type 0} {run : ℕ} {cause : E → Cause} {p : Plan (Result A E)} {r : Result A E} (e : E) {x : State} → IsErr r × IsErrAnd r (λ f. f ≡ e) → cause e ≡ OfMemory → Follows run cause p x x r
no_room {run = run} {cause = cause} {p = p} {r = r} e {x = x} is c = out_of_memory run cause p r e x is.0 is.1 c

-- want of memory, said outright
pub no_room_at : {A E : Type 0} {run : ℕ} {cause : E → Cause} {p : Plan (Result A E)} {e : E} {x : State} → cause e ≡ OfMemory → Follows run cause p x x (Err e)
no_room_at {run = run} {cause = cause} {p = p} {e = e} {x = x} c = no_memory run cause p e x c

pub done : {A E : Type 0} {run : ℕ} {cause : E → Cause} {a : A} {x : State} → Follows run cause (Return (Ok a)) x x (Ok a)
done {run = run} {cause = cause} {a = a} {x = x} = gives run cause a x

-- an error of the plan's own
pub refuses : {A E : Type 0} {run : ℕ} {cause : E → Cause} (e : E) {x : State} → cause e ≡ OfPlan → Follows {T = A} run cause (Return (Err e)) x x (Err e)
refuses {run = run} {cause = cause} e {x = x} p = record { went = rw p (went_return run (Err e) x) }

-- another term of the same plan
pub same_plan : {A E : Type 0} {run : ℕ} {cause : E → Cause} (p q : Plan (Result A E)) {x y : State} {r : Result A E} → p ≡ q → Follows run cause q x y r → Follows run cause p x y r
same_plan p q e f = rw e f

-- a call on files alone, beside any output
pub whole : {A E : Type 0} {run : ℕ} {cause : E → Cause} {p : Plan (Result A E)} {h i : Hand} {f g : FilesState} {o : SinkState} {r : Result A E} →
    Follows run cause p (by_hand h f) (by_hand i g) r → Follows run cause p (by_out h f o) (by_out i g o) r
whole {run = run} {cause = cause} {p = p} {h = h} {i = i} {f = f} {g = g} {o = o} {r = r} w = record { went = went_over run p h i f g o (exit_of cause r) w.went }

-- a call that hears nothing, beside any input
pub beside : {A E : Type 0} {run : ℕ} {cause : E → Cause} {p : Plan (Result A E)} {h i : Hand} {f g : FilesState} {n : SourceState} {o u : SinkState} {r : Result A E} →
    Follows run cause p (by_out h f o) (by_out i g u) r → Follows run cause p (all h f n o) (all i g n u) r
beside {run = run} {cause = cause} {p = p} {h = h} {i = i} {f = f} {g = g} {n = n} {o = o} {u = u} {r = r} w = record { went = went_beside run p h i f g n o u (exit_of cause r) w.went }

-- an end by whatever a part returned by its plan
pub end_on : {A B E F : Type 0} {run : ℕ} (cause : E → Cause) {other : F → Cause} {p : Plan (Result A E)} (k : Result A E → Plan (Result B F)) {x y z : State} (r : Result A E) {s : Result B F} →
    exit_of cause r ≡ Returned r → Follows run cause p x y r → Follows run other (k r) y z s → Follows run other (bind p k) x z s
end_on {run = run} cause {other = other} {p = p} k {x = x} {y = y} {z = z} r {s = s} is f g =
    record { went = went_on run p k x y z r (exit_of other s) (subst (λ e. Went run p x y e) is f.went) g.went }

-- no end where the part itself ended the call
pub end_off : {A B E F : Type 0} {run : ℕ} (cause : E → Cause) {other : F → Cause} {p : Plan (Result A E)} (k : Result A E → Plan (Result B F)) {x y : State} (r : Result A E) {s : Result B F} →
    Stops (exit_of cause r) (exit_of other s) → Follows run cause p x y r → Follows run other (bind p k) x y s
end_off {run = run} cause {other = other} {p = p} k {x = x} {y = y} r {s = s} stops f =
    record { went = went_off run p k x y (exit_of cause r) (exit_of other s) stops f.went }

-- two plans and a third, in either order of joining
pub bind_both : {A B C : Type 0} (p : Plan A) (k : A → Plan B) (l : B → Plan C) → bind (bind p k) l ≡ bind p (λ a. bind (k a) l)
unfolding bind
bind_both (Return r) k l = refl
bind_both (Ask step next) k l = λ i. Ask step (λ a. bind_both (next a) k l i)
bind_both (Try step next) k l = λ i. Try step (λ a. bind_both (next a) k l i)
bind_both (Say piece next) k l = λ i. Say piece (bind_both next k l i)
bind_both (Hear most next) k l = λ i. Hear most (λ p. bind_both (next p) k l i)
bind_both (Recall next) k l = λ i. Recall (λ h. bind_both (next h) k l i)
bind_both (Note hand next) k l = λ i. Note hand (bind_both next k l i)
