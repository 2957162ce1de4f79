-- How plans go by a run's own deeds, the newest first: the rules of a command in a form that computes.
use Rattle.std.proofs.Common.{◌≡◌, ◌≢◌, ◌≤◌, ◌++◌, ◌∷◌, [], ℕ, List, Result, Ok, Err, length, ◌∙◌, ap, arith}
use Rattle.folder_files.specs.Deeds as deeds
use Rattle.folder_files.specs.Deeds.{did, HasFailed, now, on}
use Rattle.folder_files.specs.Rows.{IsAnswerOf}
use Rattle.folder_files.specs.declared.step.Step.{Step}
use Rattle.folder_files.specs.declared.step.Step.TheVariants as step
use Rattle.folder_files.specs.declared.step.Answer.{Answer}
use Rattle.folder_files.specs.declared.step.Answer.TheVariants.{Failed}
use Rattle.file_plans.specs.Plan.{Hand, Plan, Return, Ask, Try, Say, Hear, Recall, Note, bind, after, ◌>>=◌, converted, lifted}
use Rattle.file_plans.specs.Rules.{Keeps}
use Rattle.file_plans.specs.Runs.{Deed, Did, Said, Heard}
use Rattle.file_plans.proofs.Acting.{acts, acts_append}
use Rattle.step_plans.specs.Pledges.{Pledge, MayAsk}
use Rattle.step_plans.proofs.Ruling.{IsNumbered, AreNumbered, rules_of}

-- what a part may rely on: the hand has the number of no name that was made, and no step has failed
pub record Sound (w : Pledge) (own : List deeds.Deed) (h : Hand) : Type 0 where
  pub numbered : AreNumbered w.run h.next own
  pub unfailed : HasFailed own → ⊥

-- what holds of a run's own deeds and its hand where a part returns
abbrev pub Outcome : Type 0 → Type 1
Outcome R = List deeds.Deed → Hand → R → Type 0

-- what holds where a part is Ok
abbrev pub okay : {A E : Type 0} → Outcome A → Outcome (Result A E)
okay P own h (Ok a) = P own h a
okay P own h (Err e) = Unit {0}

-- whatever is answered, the plan asks and says only what it may, and where it returns this holds. A part that goes so
-- ends at the first failure.
unfoldable pub Goes : {R : Type 0} → Pledge → List deeds.Deed → Hand → Plan R → Outcome R → Type 0
Goes w own h (Return r) Q = Q own h r
Goes w own h (Ask s next) Q = (Sound w own h → MayAsk w own s × IsNumbered w.run h.next s) × ((a : Answer) → IsAnswerOf s a → a ≢ Failed → Goes w (did s a ∷ own) h (next a) Q)
Goes w own h (Try s next) Q = ⊥
Goes w own h (Say piece next) Q = (Sound w own h → w.may_tell own piece) × Goes w own h next Q
Goes w own h (Hear most next) Q = (piece : List ℕ) → length piece ≤ most → Goes w own h (next piece) Q
Goes w own h (Recall next) Q = Sound w own h → Goes w own h (next h) Q
Goes w own h (Note j next) Q = (h.next ≤ j.next) × Goes w own j next Q

pub goes_bind : {A B : Type 0} (w : Pledge) (own : List deeds.Deed) (h : Hand) (p : Plan A) (k : A → Plan B) (P : Outcome A) (Q : Outcome B) →
    Goes w own h p P → ((later : List deeds.Deed) (j : Hand) (a : A) → P later j a → Goes w later j (k a) Q) → Goes w own h (bind p k) Q
unfolding Goes bind
goes_bind w own h (Return r) k P Q f g = g own h r f
goes_bind w own h (Ask s next) k P Q f g = (f.0, λ a row live. goes_bind w (did s a ∷ own) h (next a) k P Q (f.1 a row live) g)
goes_bind w own h (Try s next) k P Q f g = absurd f
goes_bind w own h (Say piece next) k P Q f g = (f.0, goes_bind w own h next k P Q f.1 g)
goes_bind w own h (Hear most next) k P Q f g = λ piece short. goes_bind w own h (next piece) k P Q (f piece short) g
goes_bind w own h (Recall next) k P Q f g = λ s. goes_bind w own h (next h) k P Q (f s) g
goes_bind w own h (Note j next) k P Q f g = (f.0, goes_bind w own j next k P Q f.1 g)

goes_after : {A B E : Type 0} (w : Pledge) (own : List deeds.Deed) (h : Hand) (r : Result A E) (k : A → Plan (Result B E)) (P : Outcome A) (Q : Outcome B) →
    ((later : List deeds.Deed) (j : Hand) (a : A) → P later j a → Goes w later j (k a) (okay Q)) → okay P own h r → Goes w own h (after k r) (okay Q)
unfolding Goes
goes_after w own h (Ok a) k P Q g p = g own h a p
goes_after w own h (Err e) k P Q g p = tt

-- one part, and the next where it is Ok
pub goes_then : {A B E : Type 0} (w : Pledge) (own : List deeds.Deed) (h : Hand) (p : Plan (Result A E)) (k : A → Plan (Result B E)) (P : Outcome A) (Q : Outcome B) →
    Goes w own h p (okay P) → ((later : List deeds.Deed) (j : Hand) (a : A) → P later j a → Goes w later j (k a) (okay Q)) → Goes w own h (p >>= k) (okay Q)
unfolding ◌>>=◌
goes_then w own h p k P Q f g = goes_bind w own h p (after k) (okay P) (okay Q) f (λ later j r q. goes_after w later j r k P Q g q)

goes_lift : {A E F : Type 0} (w : Pledge) (own : List deeds.Deed) (h : Hand) (from : E → F) (P : Outcome A) (r : Result A E) → okay P own h r → Goes w own h (Return (converted from r)) (okay P)
unfolding Goes
goes_lift w own h from P (Ok a) p = p
goes_lift w own h from P (Err e) p = tt

-- a part of the layer below
pub goes_lifted : {A E F : Type 0} (w : Pledge) (own : List deeds.Deed) (h : Hand) (from : E → F) (p : Plan (Result A E)) (P : Outcome A) → Goes w own h p (okay P) → Goes w own h (lifted from p) (okay P)
unfolding lifted
goes_lifted w own h from p P f = goes_bind w own h p (λ r. Return (converted from r)) (okay P) (okay P) f (λ later j r q. goes_lift w later j from P r q)

pub okay_more : {A E : Type 0} (P Q : Outcome A) → ((own : List deeds.Deed) (h : Hand) (a : A) → P own h a → Q own h a) → (own : List deeds.Deed) (h : Hand) (r : Result A E) → okay P own h r → okay Q own h r
okay_more P Q f own h (Ok a) p = f own h a p
okay_more P Q f own h (Err e) p = tt

-- a part whose outcome says more
pub goes_more : {R : Type 0} (w : Pledge) (own : List deeds.Deed) (h : Hand) (p : Plan R) (P Q : Outcome R) → ((later : List deeds.Deed) (j : Hand) (r : R) → P later j r → Q later j r) → Goes w own h p P → Goes w own h p Q
unfolding Goes
goes_more w own h (Return r) P Q f g = f own h r g
goes_more w own h (Ask s next) P Q f g = (g.0, λ a row live. goes_more w (did s a ∷ own) h (next a) P Q f (g.1 a row live))
goes_more w own h (Try s next) P Q f g = g
goes_more w own h (Say piece next) P Q f g = (g.0, goes_more w own h next P Q f g.1)
goes_more w own h (Hear most next) P Q f g = λ piece short. goes_more w own h (next piece) P Q f (g piece short)
goes_more w own h (Recall next) P Q f g = λ s. goes_more w own h (next h) P Q f (g s)
goes_more w own h (Note j next) P Q f g = (g.0, goes_more w own j next P Q f g.1)

-- a run that goes on stays sound
numbered_more : (run n m : ℕ) (s : Step) → n ≤ m → IsNumbered run n s → IsNumbered run m s
numbered_more run n m (step.Create p name b) le f = (f.0, f.1, let lt = f.2 in omega (arith, lt, le))
numbered_more run n m (step.List p) le f = tt
numbered_more run n m (step.Read p x limit) le f = tt
numbered_more run n m (step.MakeFolder p) le f = tt
numbered_more run n m (step.SyncFile p x) le f = tt
numbered_more run n m (step.SyncFolder p) le f = tt
numbered_more run n m (step.Link p a b) le f = tt
numbered_more run n m (step.Rename p a b) le f = tt
numbered_more run n m (step.Unlink p a) le f = tt
numbered_more run n m (step.Lock p) le f = tt
numbered_more run n m (step.Unlock p) le f = tt
numbered_more run n m (step.ReadFile p limit) le f = tt
numbered_more run n m (step.ReadDrop p from most) le f = tt
numbered_more run n m (step.CutDrop p l) le f = tt

pub all_numbered : (run n m : ℕ) (own : List deeds.Deed) → n ≤ m → AreNumbered run n own → AreNumbered run m own
all_numbered run n m [] le f = tt
all_numbered run n m (d ∷ own) le f = (numbered_more run n m d.step le f.0, all_numbered run n m own le f.1)

failed_more : (s : Step) (a : Answer) (own : List deeds.Deed) → a ≢ Failed → (HasFailed own → ⊥) → HasFailed (did s a ∷ own) → ⊥
failed_more s a own live f (now e) = live e
failed_more s a own live f (on z) = f z

sound_more : (w : Pledge) (own : List deeds.Deed) (h : Hand) (s : Step) (a : Answer) → a ≢ Failed → IsNumbered w.run h.next s → Sound w own h → Sound w (did s a ∷ own) h
sound_more w own h s a live n f = record { numbered = (n, f.numbered); unfailed = failed_more s a own live f.unfailed }

sound_noted : (w : Pledge) (own : List deeds.Deed) (h j : Hand) → h.next ≤ j.next → Sound w own h → Sound w own j
sound_noted w own h j le f = record { numbered = all_numbered w.run h.next j.next own le f.numbered; unfailed = f.unfailed }

-- with what such a run has at its end
abbrev pub Soundly : {R : Type 0} → Pledge → Outcome R → Outcome R
Soundly w Q own h r = Sound w own h × Q own h r

pub goes_soundly : {R : Type 0} (w : Pledge) (own : List deeds.Deed) (h : Hand) (p : Plan R) (Q : Outcome R) → Sound w own h → Goes w own h p Q → Goes w own h p (Soundly w Q)
unfolding Goes
goes_soundly w own h (Return r) Q s f = (s, f)
goes_soundly w own h (Ask t next) Q s f = (f.0, λ a row live. goes_soundly w (did t a ∷ own) h (next a) Q (sound_more w own h t a live (f.0 s).1 s) (f.1 a row live))
goes_soundly w own h (Try t next) Q s f = f
goes_soundly w own h (Say piece next) Q s f = (f.0, goes_soundly w own h next Q s f.1)
goes_soundly w own h (Hear most next) Q s f = λ piece short. goes_soundly w own h (next piece) Q s (f piece short)
goes_soundly w own h (Recall next) Q s f = λ t. goes_soundly w own h (next h) Q s (f t)
goes_soundly w own h (Note j next) Q s f = (f.0, goes_soundly w own j next Q (sound_noted w own h j f.0 s) f.1)

-- what holds of the deeds, by their steps alone
abbrev pub ByActs : {R : Type 0} → Outcome R → List Deed → Hand → R → Type 0
ByActs Q past h r = Q (acts past) h r

holds_at : (w : Pledge) (past : List Deed) (own : List deeds.Deed) (h : Hand) → acts past ≡ own → AreNumbered w.run h.next own → (rules_of w).holds past h
holds_at w past own h e f = rw e f

-- a plan that goes so keeps the command's rules
pub goes_keeps : {R : Type 0} (w : Pledge) (past : List Deed) (own : List deeds.Deed) (h : Hand) (p : Plan R) (Q : Outcome R) → acts past ≡ own → Sound w own h → Goes w own h p Q → Keeps (rules_of w) past h p (ByActs (Soundly w Q))
unfolding Keeps Goes
goes_keeps w past own h (Return r) Q e s f = (rw e s.numbered, rw e (s, f))
goes_keeps w past own h (Ask t next) Q e s f =
    let m = f.0 s in
    let on_ : (a : Answer) → acts (past ++ Did t a ∷ []) ≡ did t a ∷ own = (λ a. acts_append [] past (Did t a ∷ []) ∙ ap (λ o. did t a ∷ o) e) in (
      rw e s.numbered,
      rw e m.0,
      rw (on_ Failed) (m.1, s.numbered),
      λ a row live. goes_keeps w (past ++ Did t a ∷ []) (did t a ∷ own) h (next a) Q (on_ a) (sound_more w own h t a live m.1 s) (f.1 a row live),
    )
goes_keeps w past own h (Try t next) Q e s f = absurd f
goes_keeps w past own h (Say piece next) Q e s f =
    let on_ : (part : List ℕ) → acts (past ++ Said part ∷ []) ≡ own = (λ part. acts_append [] past (Said part ∷ []) ∙ e) in (
      rw e s.numbered,
      rw e (f.0 s),
      (λ part rest is. rw (on_ part) s.numbered),
      goes_keeps w (past ++ Said piece ∷ []) own h next Q (on_ piece) s f.1,
    )
goes_keeps w past own h (Hear most next) Q e s f =
    let on_ : (part : List ℕ) → acts (past ++ Heard part ∷ []) ≡ own = (λ part. acts_append [] past (Heard part ∷ []) ∙ e) in
    (rw e s.numbered, tt, λ piece short. goes_keeps w (past ++ Heard piece ∷ []) own h (next piece) Q (on_ piece) s (f piece short))
goes_keeps w past own h (Recall next) Q e s f = goes_keeps w past own h (next h) Q e s (f s)
goes_keeps w past own h (Note j next) Q e s f = (rw e s.numbered, goes_keeps w past own j next Q e (sound_noted w own h j f.0 s) f.1)
