-- What holds of a plan by two accounts of its steps.
use Rattle.std.proofs.Common.{◌≡◌, ◌∷◌, List, Result, Ok, Err, refl}
use Rattle.folder_files.specs.Deeds.{Deed, did}
use Rattle.folder_files.specs.declared.step.Step.{Step}
use Rattle.file_plans.specs.Plan.{Ask, Hand, Hear, Note, Plan, Recall, Return, Say, Try, ◌>>=◌}
use Rattle.step_plans.specs.Pledges.{MayAsk, Pledge}
use Rattle.step_plans.proofs.Going.{Goes, Outcome, Sound, all_numbered, okay}
use Rattle.opening_plans.proofs.CleanRuns.{sound_more}
use Rattle.opening_plans.proofs.Meeting.{Meets, meets_more, meets_on, meets_stop}

-- nothing is asked of the steps
abbrev pub AnyAsk : List Deed → Step → Type 0
AnyAsk own s = Unit {0}

-- the steps of the first account, and the ends of both
pub meets_both : {R : Type 0} (May A B : List Deed → Step → Type 0) (own : List Deed) (h : Hand) (p : Plan R) (P Q : Outcome R) → Meets May A own h p P → Meets May B own h p Q → Meets May A own h p (λ later j r. P later j r × Q later j r)
unfolding Meets
meets_both May A B own h (Return r) P Q f g = (f, g)
meets_both May A B own h (Ask s next) P Q f g = λ m. ((f m).0, λ a row live. meets_both May A B (did s a ∷ own) h (next a) P Q ((f m).1 a row live) ((g m).1 a row live))
meets_both May A B own h (Try s next) P Q f g = λ m. ((f m).0, λ a row. meets_both May A B (did s a ∷ own) h (next a) P Q ((f m).1 a row) ((g m).1 a row))
meets_both May A B own h (Say piece next) P Q f g = meets_both May A B own h next P Q f g
meets_both May A B own h (Hear most next) P Q f g = λ piece short. meets_both May A B own h (next piece) P Q (f piece short) (g piece short)
meets_both May A B own h (Recall next) P Q f g = meets_both May A B own h (next h) P Q f g
meets_both May A B own h (Note j next) P Q f g = meets_both May A B own j next P Q f g

okay_both : {S E : Type 0} (P Q : Outcome S) (own : List Deed) (h : Hand) (r : Result S E) → okay P own h r × okay Q own h r → okay (λ later j a. P later j a × Q later j a) own h r
okay_both P Q own h (Ok a) q = q
okay_both P Q own h (Err e) q = tt

-- of a part that is Ok
pub meets_okay_both : {S E : Type 0} (May A B : List Deed → Step → Type 0) (own : List Deed) (h : Hand) (p : Plan (Result S E)) (P Q : Outcome S) → Meets May A own h p (okay P) → Meets May B own h p (okay Q)
    → Meets May A own h p (okay (λ later j a. P later j a × Q later j a))
meets_okay_both May A B own h p P Q f g =
    meets_more May A own h p (λ later j r. okay P later j r × okay Q later j r) (okay (λ later j a. P later j a × Q later j a)) (okay_both P Q) (meets_both May A B own h p (okay P) (okay Q) f g)

-- a plan that goes as pledged leaves a sound run sound
pub meets_sound : {R : Type 0} (w : Pledge) (A : List Deed → Step → Type 0) (own : List Deed) (h : Hand) (p : Plan R) (Q P : Outcome R) → Sound w own h → Goes w own h p Q → Meets (MayAsk w) A own h p P
    → Meets (MayAsk w) A own h p (λ later j r. Sound w later j × P later j r)
unfolding Meets Goes
meets_sound w A own h (Return r) Q P s f g = (s, g)
meets_sound w A own h (Ask t next) Q P s f g = λ m. ((g m).0, λ a row live. meets_sound w A (did t a ∷ own) h (next a) Q P (sound_more w own h t a live (f.0 s).1 s) (f.1 a row live) ((g m).1 a row live))
meets_sound w A own h (Try t next) Q P s f g = absurd f
meets_sound w A own h (Say piece next) Q P s f g = meets_sound w A own h next Q P s f.1 g
meets_sound w A own h (Hear most next) Q P s f g = λ piece short. meets_sound w A own h (next piece) Q P s (f piece short) (g piece short)
meets_sound w A own h (Recall next) Q P s f g = meets_sound w A own h (next h) Q P s (f s) g
meets_sound w A own h (Note j next) Q P s f g = meets_sound w A own j next Q P (record { numbered = all_numbered w.run h.next j.next own f.0 s.numbered; unfailed = s.unfailed }) f.1 g

okay_sound : {S E : Type 0} (w : Pledge) (P : Outcome S) (own : List Deed) (h : Hand) (r : Result S E) → Sound w own h × okay P own h r → okay (λ later j a. Sound w later j × P later j a) own h r
okay_sound w P own h (Ok a) q = q
okay_sound w P own h (Err e) q = tt

pub meets_okay_sound : {S E : Type 0} (w : Pledge) (A : List Deed → Step → Type 0) (own : List Deed) (h : Hand) (p : Plan (Result S E)) (Q : Outcome (Result S E)) (P : Outcome S) → Sound w own h → Goes w own h p Q
    → Meets (MayAsk w) A own h p (okay P) → Meets (MayAsk w) A own h p (okay (λ later j a. Sound w later j × P later j a))
meets_okay_sound w A own h p Q P sound goes f =
    meets_more (MayAsk w) A own h p (λ later j r. Sound w later j × okay P later j r) (okay (λ later j a. Sound w later j × P later j a)) (okay_sound w P) (meets_sound w A own h p Q (okay P) sound goes f)

-- a value, and what follows where it is Ok
pub meets_value : {S R E : Type 0} (May A : List Deed → Step → Type 0) (own : List Deed) (h : Hand) (r : Result S E) (k : S → Plan (Result R E)) (Q : Outcome R) → ((a : S) → r ≡ Ok a → Meets May A own h (k a) (okay Q)) → Meets May A own h (Return r >>= k) (okay Q)
meets_value {S = S} {E = E} May A own h r k Q f = go r refl
  where
    go : (v : Result S E) → r ≡ v → Meets May A own h (Return v >>= k) (okay Q)
    go (Ok a) e = meets_on May A own h a k (okay Q) (f a e)
    go (Err fault) e = meets_stop May A own h fault k Q
