-- What a part leaves as it was: a fact of the own deeds that each of its steps keeps.
use Rattle.std.proofs.Common.{◌∷◌, List, Result, Ok, Err}
use Rattle.folder_files.specs.Deeds as deeds
use Rattle.folder_files.specs.Deeds.{did}
use Rattle.folder_files.specs.declared.step.Step.{Step}
use Rattle.folder_files.specs.declared.step.Answer.{Answer}
use Rattle.file_plans.specs.Plan.{Hand, Plan, Return, Ask, Try, Say, Hear, Recall, Note, ◌>>=◌}
use Rattle.file_plans.specs.Framing.{AsksOnly}
use Rattle.file_plans.proofs.Framing.{AnyStep, asks_any}
use Rattle.step_plans.specs.Pledges.{Pledge}
use Rattle.step_plans.proofs.Going.{Outcome, okay, Goes, goes_then, goes_more}

-- such steps keep this fact of the deeds
abbrev pub KeptBy : (Step → Type 0) → (List deeds.Deed → Type 0) → Type 0
KeptBy P F = (own : List deeds.Deed) (s : Step) (a : Answer) → P s → F own → F (did s a ∷ own)

-- what each of its steps keeps, the part keeps
pub framed : {R : Type 0} (w : Pledge) (P : Step → Type 0) (F : List deeds.Deed → Type 0) → KeptBy P F → (own : List deeds.Deed) (h : Hand) (p : Plan R) (Q : Outcome R)
    → AsksOnly P p → F own → Goes w own h p Q → Goes w own h p (λ later j r. F later × Q later j r)
unfolding Goes AsksOnly
framed w P F keeps own h (Return r) Q g i f = (i, f)
framed w P F keeps own h (Ask s next) Q g i f = (f.0, λ a row live. framed w P F keeps (did s a ∷ own) h (next a) Q (g.1 a) (keeps own s a g.0 i) (f.1 a row live))
framed w P F keeps own h (Try s next) Q g i f = f
framed w P F keeps own h (Say piece next) Q g i f = (f.0, framed w P F keeps own h next Q g i f.1)
framed w P F keeps own h (Hear most next) Q g i f = λ piece short. framed w P F keeps own h (next piece) Q (g piece) i (f piece short)
framed w P F keeps own h (Recall next) Q g i f = λ s. framed w P F keeps own h (next h) Q (g h) i (f s)
framed w P F keeps own h (Note j next) Q g i f = (f.0, framed w P F keeps own j next Q g i f.1)

okay_with : {A E : Type 0} (F : List deeds.Deed → Type 0) (P : Outcome A) (own : List deeds.Deed) (h : Hand) (r : Result A E) → F own × okay P own h r → okay (λ later j a. F later × P later j a) own h r
okay_with F P own h (Ok a) f = f
okay_with F P own h (Err e) f = tt

-- a part that keeps a fact
pub keeping : {A E : Type 0} (w : Pledge) (P : Step → Type 0) (F : List deeds.Deed → Type 0) → KeptBy P F → (own : List deeds.Deed) (h : Hand) (p : Plan (Result A E)) (O : Outcome A)
    → AsksOnly P p → F own → Goes w own h p (okay O) → Goes w own h p (okay (λ later j a. F later × O later j a))
keeping w P F keeps own h p O asks f g =
    goes_more w own h p (λ later j r. F later × okay O later j r) (okay (λ later j a. F later × O later j a)) (okay_with F O) (framed w P F keeps own h p (okay O) asks f g)

-- one part that keeps a fact, and the next where it is Ok
pub goes_keeping : {A B E : Type 0} (w : Pledge) (P : Step → Type 0) (F : List deeds.Deed → Type 0) → KeptBy P F → (own : List deeds.Deed) (h : Hand) (p : Plan (Result A E)) (k : A → Plan (Result B E)) (O : Outcome A) (Q : Outcome B)
    → AsksOnly P p → F own → Goes w own h p (okay O) → ((later : List deeds.Deed) (j : Hand) (a : A) → F later → O later j a → Goes w later j (k a) (okay Q)) → Goes w own h (p >>= k) (okay Q)
goes_keeping w P F keeps own h p k O Q asks f g next =
    goes_then w own h p k (λ later j a. F later × O later j a) Q (keeping w P F keeps own h p O asks f g) (λ later j a q. next later j a q.0 q.1)

-- one part, and the next where it is Ok, with a fact that lasts
pub goes_lasting : {A B E : Type 0} (w : Pledge) (F : List deeds.Deed → Type 0) → KeptBy AnyStep F → (own : List deeds.Deed) (h : Hand) (p : Plan (Result A E)) (k : A → Plan (Result B E)) (O : Outcome A) (Q : Outcome B)
    → F own → Goes w own h p (okay O) → ((later : List deeds.Deed) (j : Hand) (a : A) → F later → O later j a → Goes w later j (k a) (okay Q)) → Goes w own h (p >>= k) (okay Q)
goes_lasting w F keeps own h p k O Q f g next = goes_keeping w AnyStep F keeps own h p k O Q (asks_any p) f g next

-- a part, with a fact that lasts
pub lasting : {A E : Type 0} (w : Pledge) (F : List deeds.Deed → Type 0) → KeptBy AnyStep F → (own : List deeds.Deed) (h : Hand) (p : Plan (Result A E)) (O : Outcome A) → F own → Goes w own h p (okay O) → Goes w own h p (okay (λ later j a. F later × O later j a))
lasting w F keeps own h p O f g = keeping w AnyStep F keeps own h p O (asks_any p) f g
