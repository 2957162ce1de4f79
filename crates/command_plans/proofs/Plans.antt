-- The plans of commands, and the errors with which they end.
use Rattle.std.proofs.Common.{◌≡◌, ◌≢◌, arith, inl, inr, ◌∷◌, [], ℕ, List, Option, None, Some, Result, Ok, Err, refl, sym, ◌∙◌, ap, subst}
use Rattle.std.specs.Prelude.{codes, map, length, IsErr, IsErrAnd}
use Rattle.mh_base.specs.Counts.{Rose}
use Rattle.mh_base.specs.Streams.{SinkState, SourceState}
use Rattle.mh_profile.specs.declared.named_value.NamedValue.{NamedValue}
use Rattle.folder_files.specs.Story.{FilesState}
use Rattle.folder_files.specs.declared.refusal.Which.TheVariants.{Source}
use Rattle.file_plans.specs.Plan.{Hand, Plan, Recall, Return, Note, lifted}
use Rattle.file_plans.specs.Follows.{State, Follows, by_hand, by_out}
use Rattle.file_plans.specs.Runs.{Cause, OfPlan, exit_by}
use Rattle.file_plans.proofs.Following.{SameCause, recalled, noted, done, refuses, no_room_at, lift_err}
use Rattle.step_plans.specs.CommandFaults.{command_cause}
use Rattle.step_plans.specs.Hands.{knowing}
use Rattle.step_plans.specs.declared.command_fault.CommandFault.{CommandFault}
use Rattle.step_plans.specs.declared.command_fault.CommandFault.TheVariants as fault
use Rattle.step_plans.proofs.Refusals.{IsRefusal}
use Rattle.command_words.specs.Ended.{Ending, plain, ended_cause}
use Rattle.command_words.specs.Results.{IsNamed, IsSaid}
use Rattle.command_words.specs.declared.ended.Ended.{Ended}
use Rattle.command_plans.specs.Command.{context_seen, command_by, no_command, word_by}
use Rattle.command_plans.specs.CommandNames.{command_of, named}
use Rattle.command_plans.specs.LeavesInput.{IsNotOfInput, LeavesInput}
use Rattle.command_plans.specs.Profile.{value_or}
use Rattle.command_plans.specs.declared.name.CommandName.{CommandName}
use Rattle.command_plans.specs.declared.caller.Caller.{Caller}

plain_each : (e : CommandFault) → ended_cause (plain e) ≡ command_cause e
plain_each e = refl

pub plain_same : SameCause command_cause ended_cause plain
plain_same = record { same = plain_each }

pub context_known : (run : ℕ) (es : List NamedValue) (h j : Hand) (f : FilesState) → j ≡ knowing es h → Follows run command_cause (context_seen es) (by_hand h f) (by_hand j f) (Ok tt)
unfolding context_seen
context_known run es h j f e = rw e (recalled (λ i. Note (knowing es i) (Return (Ok tt))) (noted (knowing es h) done))

-- the folder that the hand chooses
pub folder_chosen : {run : ℕ} (value : Hand → Result (List ℕ) CommandFault) (r : Result (List ℕ) CommandFault) {h : Hand} {f : FilesState} → IsNamed (value h) r → Follows run command_cause (Recall (λ i. Return (value i))) (by_hand h f) (by_hand h f) r
folder_chosen value (Ok name) is = recalled (λ i. Return (value i)) (rw is done)
folder_chosen value (Err (fault.Refused r)) is = recalled (λ i. Return (value i)) (rw is (refuses _ refl))
folder_chosen value (Err (fault.Faulted w)) is = absurd is
folder_chosen value (Err (fault.Locked p)) is = absurd is
folder_chosen value (Err (fault.Meddled p x)) is = absurd is
folder_chosen value (Err fault.Memory) is = no_room_at refl

pub inbox_none : (value : Option (List ℕ)) → value ≡ None → codes "inbox" ≡ value_or value (codes "inbox")
inbox_none value none = rw none refl

-- a refusal of words is the plan's
refusal_planned : (e : Ended) → IsRefusal e.fault → ended_cause e ≡ OfPlan
refusal_planned e r = ap command_cause r.1

refuses_words : {A : Type 0} {run : ℕ} (plan : Result A Ended → Ending Unit) (value : Result A Ended) (e : Ended) {x : State} → ((f : Ended) → plan (Err f) ≡ Return (Err f)) → ((f : Ended) → value ≡ Err f → IsRefusal f.fault) → IsSaid value (Err e) → Follows run ended_cause (plan value) x x (Err e)
refuses_words {run = run} plan value e {x = x} ends planned (inl is) =
    subst (λ p. Follows run ended_cause p x x (Err e)) (sym (ap plan is ∙ ends e)) (refuses e (refusal_planned e (planned e is)))
refuses_words {run = run} plan value e ends planned (inr memory) = no_room_at (ap command_cause memory)

pub refused_words : {A : Type 0} {run : ℕ} (plan : Result A Ended → Ending Unit) (value : Result A Ended) (e : Ended) (r : Result Unit Ended) {x : State} → ((f : Ended) → plan (Err f) ≡ Return (Err f)) → ((f : Ended) → value ≡ Err f → IsRefusal f.fault) → IsSaid value (Err e)
    → IsErr r × IsErrAnd r (λ f. f ≡ e) → Follows run ended_cause (plan value) x x r
refused_words plan value e (Ok u) ends planned said is = absurd (let no = is.0 in cc)
refused_words plan value e (Err f) ends planned said is = rw is.1 (refuses_words plan value e ends planned said)

pub words_on : {A : Type 0} {run : ℕ} (plan : Result A Ended → Ending Unit) (value : Result A Ended) (words : A) {x y : State} {r : Result Unit Ended} → value ≡ Ok words → Follows run ended_cause (plan (Ok words)) x y r → Follows run ended_cause (plan value) x y r
words_on plan value words is f = rw is f

-- a call of the layer below that ended this one
pub ends_off : {A E F : Type 0} {run : ℕ} {cause : E → Cause} {other : F → Cause} (from : E → F) {p : Plan (Result A E)} {x y : State} {e : E} (r : Result A F) → SameCause cause other from →
    Follows run cause p x y (Err e) → IsErr r × IsErrAnd r (λ f. f ≡ from e) → Follows run other (lifted from p) x y r
ends_off from (Ok a) keeps f is = absurd (let no = is.0 in cc)
ends_off {run = run} {cause = cause} {other = other} from {p = p} {x = x} {y = y} {e = e} (Err g) keeps f is = lift_err run cause other from p x y e g keeps is.1 f

pub named_none : {A : Type 0} {run : ℕ} (caller : Caller) (profile : List NamedValue) (f : A → List ℕ) (words : List A) (e : Ended) {x : State} → length words ≡ 0 → e ≡ no_command None → Follows run ended_cause (command_by run caller profile (map f words)) x x (Err e)
named_none caller profile f [] e is same = rw same (refuses _ refl)
named_none caller profile f (w ∷ words) e is same = cc

pub named_some : {run : ℕ} (caller : Caller) (profile : List NamedValue) (words rest : List (List ℕ)) (word : List ℕ) {x y : State} {r : Result Unit Ended} → words ≡ word ∷ rest → Follows run ended_cause (word_by run caller profile word rest (named word)) x y r → Follows run ended_cause (command_by run caller profile words) x y r
named_some caller profile words rest word is f = rw is f

pub word_on : {run : ℕ} (caller : Caller) (profile : List NamedValue) (word : List ℕ) (words : List (List ℕ)) (value name : Option CommandName) {x y : State} {r : Result Unit Ended} → value ≡ name → Follows run ended_cause (word_by run caller profile word words name) x y r → Follows run ended_cause (word_by run caller profile word words value) x y r
word_on caller profile word words value name is f = rw is f

pub word_none : {run : ℕ} (caller : Caller) (profile : List NamedValue) (word : List ℕ) (words : List (List ℕ)) (value : Option CommandName) (e : Ended) {x : State} → value ≡ None → e ≡ no_command (Some word) → Follows run ended_cause (word_by run caller profile word words value) x x (Err e)
word_none caller profile word words value e is same = rw (is, same) (refuses _ refl)

-- the input is left as the command of these words leaves it
pub input_some : (words rest : List (List ℕ)) (word : List ℕ) (old new : SourceState) (r : Result Unit Ended) → words ≡ word ∷ rest → LeavesInput (named word) old new r → LeavesInput (command_of words) old new r
input_some words rest word old new r is f = rw is f

-- where no input is had, none fails
no_rise : Rose 0 0 → ⊥
no_rise r = omega (arith, r)

pub unsourced : {run : ℕ} {p : Ending Unit} {h i : Hand} {f g : FilesState} {o u : SinkState} {r : Result Unit Ended} → Follows run ended_cause p (by_out h f o) (by_out i g u) r → IsNotOfInput r
unsourced {r = Ok tt} w = tt
unsourced {r = Err x} w = λ e. no_rise (w.went.in_cause (ap (λ k. exit_by {T = Unit {0}} x (command_cause k)) e))

pub hand_unsourced : {run : ℕ} {p : Ending Unit} {h i : Hand} {f g : FilesState} {r : Result Unit Ended} → Follows run ended_cause p (by_hand h f) (by_hand i g) r → IsNotOfInput r
hand_unsourced {r = Ok tt} w = tt
hand_unsourced {r = Err x} w = λ e. no_rise (w.went.in_cause (ap (λ k. exit_by {T = Unit {0}} x (command_cause k)) e))

-- want of memory is not of the input
pub memory_unsourced : (r : Result Unit Ended) (e : Ended) → IsErr r × IsErrAnd r (λ f. f ≡ e) → e.fault ≡ fault.Memory → IsNotOfInput r
memory_unsourced (Ok u) e is memory = tt
memory_unsourced (Err f) e is memory = λ of. let both = sym (ap (λ z. z.fault) is.1 ∙ memory) ∙ of in cc (both)

-- nor is a word that names no command
pub none_unsourced : (x : Ended) (word : Option (List ℕ)) → x ≡ no_command word → x.fault ≢ fault.Faulted Source
none_unsourced x word is of = let both = sym (ap (λ z. z.fault) is) ∙ of in cc (both)

-- nor what ended the reading of a text
pub text_unsourced : {A : Type 0} {run : ℕ} {p : Plan (Result A CommandFault)} {h i : Hand} {f g : FilesState} {e : CommandFault} (r : Result Unit Ended) → Follows run command_cause p (by_hand h f) (by_hand i g) (Err e) → IsErr r × IsErrAnd r (λ z. z ≡ plain e) → IsNotOfInput r
text_unsourced (Ok u) w is = tt
text_unsourced {A = A} {e = e} (Err x) w is = λ of. no_rise (w.went.in_cause (ap (λ k. exit_by {T = A} e (command_cause k)) (sym (ap (λ z. z.fault) is.1) ∙ of)))
