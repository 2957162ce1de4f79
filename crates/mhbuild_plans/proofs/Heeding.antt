-- Plans that hear the input whole, if they hear it: a run of one is a run of the plan in which this was heard.
use Rattle.std.proofs.Common.{◌≡◌, ◌≢◌, ◌⊎◌, inl, inr, ◌∷◌, [], ℕ, List, Result, Err, refl, sym, ap, subst}
use Rattle.folder_files.specs.Rows.{IsAnswerOf}
use Rattle.folder_files.specs.declared.step.Step.{Step}
use Rattle.folder_files.specs.declared.step.Answer.{Answer}
use Rattle.folder_files.specs.declared.step.Answer.TheVariants.{Failed}
use Rattle.file_plans.specs.Follows.{TakesAll}
use Rattle.file_plans.specs.Plan.{Ask, Hand, Hear, Note, Plan, Recall, Return, Say, Try, bind}
use Rattle.file_plans.specs.Rules.{Keeps}
use Rattle.file_plans.specs.Runs.{Deed, Did, Exit, Heard, InFailed, NoMemory, Runs, Said}
use Rattle.file_plans.specs.Text.{said_of}
use Rattle.step_plans.specs.declared.command_fault.CommandFault.{CommandFault}
use Rattle.opening_plans.proofs.Speaking.{silence}
use Rattle.sequence_commits.proofs.NeverFailed.{IsPlain}
use Rattle.command_stages.specs.Texts.{too_large}
use Rattle.draft_files.specs.Hearing.{all_heard}
use Rattle.mhbuild_plans.specs.BuildAlone.{IsHeard}
use Rattle.mhbuild_plans.specs.Heard.{Heard as HeardText, TooMuch, heard_text}
use Rattle.mhbuild_plans.proofs.InputHeard.{HeardSo, all_heard_so, heard_of, is_heard, stopped, went, without_heard}

-- how a call came to its end, by the plan in which this was heard of the input
pub data HeardAs {R : Type 0} (Stops : Exit R → Type 0) (q : HeardText → Plan R) (h j : Hand) (x : Exit R) (ds : List Deed) : Type 0 where
  -- the input failed, or memory was wanting, and nothing was said
  in_vain : (x ≡ InFailed) ⊎ (x ≡ NoMemory) → said_of ds ≡ [] → HeardAs Stops q h j x ds
  -- nothing was heard, and it went so whatever might have been
  unheard : ((heard : HeardText) → Runs (q heard) h ds j x) → heard_of ds ≡ [] → HeardAs Stops q h j x ds
  -- this was heard; where it is too much, it stops
  heard_all : (heard : HeardText) (rest : List Deed) → Runs (q heard) h rest j x → without_heard ds ≡ without_heard rest
      → ((old new : List ℕ) → TakesAll old new (heard_of ds) → IsHeard old new (heard_text heard)) → ((l : ℕ) → heard ≡ TooMuch l → Stops x) → HeardAs Stops q h j x ds

abbrev pub Heeds : {R : Type 0} → (Exit R → Type 0) → Plan R → (HeardText → Plan R) → Type 0
Heeds {R = R} Stops p q = (h j : Hand) (x : Exit R) (ds : List Deed) → Runs p h ds j x → HeardAs Stops q h j x ds

heard_map : {R : Type 0} (Stops : Exit R → Type 0) (q : HeardText → Plan R) (m : HeardText → Plan R) (h i j : Hand) (x : Exit R) (ds : List Deed)
    → ((heard : HeardText) (es : List Deed) → Runs (q heard) h es j x → Runs (m heard) i es j x) → HeardAs Stops q h j x ds → HeardAs Stops m i j x ds
heard_map Stops q m h i j x ds f (in_vain e silent) = in_vain e silent
heard_map Stops q m h i j x ds f (unheard g none) = unheard (λ heard. f heard ds (g heard)) none
heard_map Stops q m h i j x ds f (heard_all heard rest run same is stops) = heard_all heard rest (f heard rest run) same is stops

-- it hears and says nothing
pub plain_deaf : {R : Type 0} (p : Plan R) (h j : Hand) (x : Exit R) (ds : List Deed) → IsPlain p → Runs p h ds j x → heard_of ds ≡ []
unfolding IsPlain Runs
plain_deaf (Return r) h j x [] plain f = refl
plain_deaf (Return r) h j x (d ∷ ds) plain f = absurd f
plain_deaf (Ask s next) h j x [] plain f = refl
plain_deaf (Ask s next) h j x (Did t a ∷ ds) plain (is, row, inl w) = ap heard_of w.1
plain_deaf (Ask s next) h j x (Did t a ∷ ds) plain (is, row, inr (live, f)) = plain_deaf (next a) h j x ds (plain a) f
plain_deaf (Ask s next) h j x (Said piece ∷ ds) plain f = absurd f
plain_deaf (Ask s next) h j x (Heard piece ∷ ds) plain f = absurd f
plain_deaf (Try s next) h j x ds plain f = absurd plain
plain_deaf (Say piece next) h j x ds plain f = absurd plain
plain_deaf (Hear most next) h j x ds plain f = absurd plain
plain_deaf (Recall next) h j x ds plain f = plain_deaf (next h) h j x ds (plain h) f
plain_deaf (Note i next) h j x ds plain (inl w) = ap heard_of w.0
plain_deaf (Note i next) h j x ds plain (inr f) = plain_deaf next i j x ds plain f

pub plain_silent : {R : Type 0} (p : Plan R) → IsPlain p → (past : List Deed) (h : Hand) → Keeps silence past h p (λ later j r. Unit {0})
unfolding IsPlain Keeps
plain_silent (Return r) plain past h = (tt, tt)
plain_silent (Ask s next) plain past h = (tt, tt, tt, λ a row live. plain_silent (next a) (plain a) _ h)
plain_silent (Try s next) plain past h = absurd plain
plain_silent (Say piece next) plain past h = absurd plain
plain_silent (Hear most next) plain past h = absurd plain
plain_silent (Recall next) plain past h = plain_silent (next h) (plain h) past h
plain_silent (Note i next) plain past h = (tt, plain_silent next plain past i)

-- a plan that doesn't hear is the same whatever might have been heard
pub plain_heeds : {R : Type 0} (Stops : Exit R → Type 0) (p : Plan R) → IsPlain p → Heeds Stops p (λ heard. p)
plain_heeds Stops p plain h j x ds runs = unheard (λ heard. runs) (plain_deaf p h j x ds plain runs)

did_behind : {R : Type 0} (Stops : Exit R → Type 0) (s t : Step) (next : HeardText → Answer → Plan R) (h j : Hand) (x : Exit R) (a : Answer) (ds : List Deed) → t ≡ s → IsAnswerOf t a → a ≢ Failed → HeardAs Stops (λ heard. next heard a) h j x ds
    → HeardAs Stops (λ heard. Ask s (next heard)) h j x (Did t a ∷ ds)
unfolding Runs
did_behind Stops s t next h j x a ds is row live (in_vain e silent) = in_vain e silent
did_behind Stops s t next h j x a ds is row live (unheard f none) = unheard (λ heard. (is, row, inr (live, f heard))) none
did_behind Stops s t next h j x a ds is row live (heard_all heard rest run same at stops) = heard_all heard (Did t a ∷ rest) (is, row, inr (live, run)) (ap (λ l. Did t a ∷ l) same) at stops

-- a part that doesn't hear, and then what comes after it
pub heeds_bind : {A B : Type 0} (Stops : Exit B → Type 0) (p : Plan A) (k : A → Plan B) (m : HeardText → A → Plan B) → IsPlain p → ((a : A) → Heeds Stops (k a) (λ heard. m heard a)) → Heeds Stops (bind p k) (λ heard. bind p (m heard))
unfolding IsPlain Runs bind
heeds_bind Stops (Return r) k m plain f h j x ds runs = f r h j x ds runs
heeds_bind Stops (Ask s next) k m plain f h j x [] runs = unheard (λ heard. runs) refl
heeds_bind Stops (Ask s next) k m plain f h j x (Did t a ∷ ds) (is, row, inl w) = unheard (λ heard. (is, row, inl w)) (ap heard_of w.1)
heeds_bind Stops (Ask s next) k m plain f h j x (Did t a ∷ ds) (is, row, inr (live, runs)) = did_behind Stops s t (λ heard b. bind (next b) (m heard)) h j x a ds is row live (heeds_bind Stops (next a) k m (plain a) f h j x ds runs)
heeds_bind Stops (Ask s next) k m plain f h j x (Said piece ∷ ds) runs = absurd runs
heeds_bind Stops (Ask s next) k m plain f h j x (Heard piece ∷ ds) runs = absurd runs
heeds_bind Stops (Try s next) k m plain f h j x ds runs = absurd plain
heeds_bind Stops (Say piece next) k m plain f h j x ds runs = absurd plain
heeds_bind Stops (Hear most next) k m plain f h j x ds runs = absurd plain
heeds_bind Stops (Recall next) k m plain f h j x ds runs =
    heard_map Stops (λ heard. bind (next h) (m heard)) (λ heard. Recall (λ i. bind (next i) (m heard))) h h j x ds (λ heard es run. run) (heeds_bind Stops (next h) k m (plain h) f h j x ds runs)
heeds_bind Stops (Note i next) k m plain f h j x ds (inl w) = unheard (λ heard. inl w) (ap heard_of w.0)
heeds_bind Stops (Note i next) k m plain f h j x ds (inr runs) =
    heard_map Stops (λ heard. bind next (m heard)) (λ heard. Note i (bind next (m heard))) i h j x ds (λ heard es run. inr run) (heeds_bind Stops next k m plain f i j x ds runs)

-- the hand is asked first
pub heeds_recall : {R : Type 0} (Stops : Exit R → Type 0) (next : Hand → Plan R) (m : HeardText → Hand → Plan R) → ((h : Hand) → Heeds Stops (next h) (λ heard. m heard h)) → Heeds Stops (Recall next) (λ heard. Recall (m heard))
unfolding Runs
heeds_recall Stops next m f h j x ds runs = heard_map Stops (λ heard. m heard h) (λ heard. Recall (m heard)) h h j x ds (λ heard es run. run) (f h h j x ds runs)

-- the input is heard whole, and the rest goes by that
pub heeds_input : {R : Type 0} (Stops : Exit R → Type 0) (M : Result (List ℕ) CommandFault → Plan R) → ((e : CommandFault) → IsPlain (M (Err e))) → ((e : CommandFault) (h j : Hand) (x : Exit R) (ds : List Deed) → Runs (M (Err e)) h ds j x → Stops x)
    → Heeds Stops (bind all_heard M) (λ heard. M (heard_text heard))
heeds_input Stops M plain bad h j x ds runs = go (all_heard_so M h j x (λ e es run. plain_deaf (M (Err e)) h j x es (plain e) run) ds runs)
  where
    go : HeardSo M h j x [] ds → HeardAs Stops (λ heard. M (heard_text heard)) h j x ds
    go (stopped e silent) = in_vain e silent
    go (went heard rest run same is) =
        heard_all heard rest run same (λ old new t. is_heard old new (heard_text heard) (is old new t)) (λ l e. bad (too_large l) h j x rest (subst (λ t. Runs (M (heard_text t)) h rest j x) e run))

-- a plan bound twice
pub bind_assoc : {A B C : Type 0} (p : Plan A) (k : A → Plan B) (l : B → Plan C) → bind (bind p k) l ≡ bind p (λ a. bind (k a) l)
unfolding bind
bind_assoc (Return r) k l = refl
bind_assoc (Ask s next) k l = λ i. Ask s (λ a. bind_assoc (next a) k l i)
bind_assoc (Try s next) k l = λ i. Try s (λ a. bind_assoc (next a) k l i)
bind_assoc (Say piece next) k l = λ i. Say piece (bind_assoc next k l i)
bind_assoc (Hear most next) k l = λ i. Hear most (λ a. bind_assoc (next a) k l i)
bind_assoc (Recall next) k l = λ i. Recall (λ a. bind_assoc (next a) k l i)
bind_assoc (Note h next) k l = λ i. Note h (bind_assoc next k l i)

-- the same of plans that are the same
pub heeds_same : {R : Type 0} (Stops : Exit R → Type 0) (p s : Plan R) (q m : HeardText → Plan R) → p ≡ s → ((heard : HeardText) → q heard ≡ m heard) → Heeds Stops p q → Heeds Stops s m
heeds_same Stops p s q m e f heeds h j x ds runs = heard_map Stops q m h h j x ds (λ heard es run. subst (λ z. Runs z h es j x) (f heard) run) (heeds h j x ds (subst (λ z. Runs z h ds j x) (sym e) runs))
