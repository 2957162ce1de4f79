-- Why a drop is cut only at the length at which it was read: a history in which this is not so, and a message is lost.
use Rattle.std.proofs.Common.{subst, ◌≡◌, ℕ, true, inl, inr, List, [], ◌∷◌, Some, refl, codes}
use Rattle.mbox_drop.specs.Drops.{messages, parts, sections, lines}
use Rattle.folder_files.specs.Careful.{IsCareful, looks}
use Rattle.folder_files.specs.Histories.{world_after, own, IsLegal, begins, answers, delivers, AreCareful}
use Rattle.folder_files.specs.Steps.{made}
use Rattle.folder_files.specs.Worlds.{shown, IsStart}
use Rattle.folder_files.specs.declared.event.After.TheVariants.{Made}
use Rattle.folder_files.specs.declared.event.Event.{Event}
use Rattle.folder_files.specs.declared.event.Event.TheVariants.{Act, Deliver}
use Rattle.folder_files.specs.declared.place.FilePath.{FilePath}
use Rattle.folder_files.specs.declared.place.Place.{Place}
use Rattle.folder_files.specs.declared.step.Answer.TheVariants.{Done, Piece}
use Rattle.folder_files.specs.declared.step.Step.TheVariants.{ReadDrop, CutDrop}
use Rattle.folder_files.specs.declared.world.World.{World}
use Rattle.step_plans.specs.Cutting.{AreStoredAs, read, on, AreDurable}
use Rattle.step_plans.specs.Durable.{IsDurable, stood, on}
use Rattle.step_plans.specs.Moments.{live}
use Rattle.step_plans.specs.Starts.{HasNoneOfTheirs}
use Rattle.step_plans.proofs.Past.{durable_case}
use Rattle.step_plans.proofs.Drops.{cut_law}

abbrev pub mailbox : FilePath
mailbox = record { home = true; text = codes "mbox" }

abbrev pub mail : List ℕ
mail = codes "From a\nhi\n"

-- an empty drop
abbrev pub begun : World
begun = record { directories = []; files = []; drops = record { path = mailbox; bytes = [] } ∷ []; locks = []; ended = [] }

-- run 5 reads it; then a message is delivered
abbrev pub looked : List Event
looked = Act 5 (ReadDrop mailbox 0 9) (Piece [] 0) Made ∷ []

abbrev pub delivered : List Event
delivered = Deliver mailbox mail ∷ looked

-- it cuts the drop at the length that it has now
abbrev pub lost : List Event
lost = Act 5 (CutDrop mailbox 10) Done Made ∷ delivered

begun_starts : IsStart begun
begun_starts = record { directories = tt; files = tt; outside = (refl, tt); no_lock = refl }

drop_holds : (world_after begun delivered).outside mailbox ≡ Some mail
unfolding world_after made shown
drop_holds = refl

lost_is_legal : IsLegal begun lost
unfolding world_after made shown
lost_is_legal = answers 5 (CutDrop mailbox 10) Done (delivers mailbox mail (answers 5 (ReadDrop mailbox 0 9) (Piece [] 0) begins refl refl)) refl refl

delivered_is_careful : AreCareful delivered
delivered_is_careful = ((λ on. looks tt), tt)

-- the drop is empty then
drop_is_cut : (world_after begun lost).outside mailbox ≡ Some []
unfolding world_after made shown
drop_is_cut = refl

one_message : messages mail ≡ codes "hi\n" ∷ []
unfolding messages parts sections lines
one_message = refl

no_file : (p : Place) (x : List ℕ) (f : ℕ) → ((shown begun).directories p).safe x ≡ Some f → ⊥
unfolding shown
no_file p x f e = cc (e)

not_durable : (p : Place) (f : ℕ) (b : List ℕ) → IsDurable begun p f b delivered → ⊥
not_durable p f b (on z) = elim (durable_case z) [ inl y ↦ cc (y.0) | inr y ↦ at_start y ]
  where
    at_start : IsDurable begun p f b [] → ⊥
    at_start (stood x lock st leads bytes) = no_file p x f leads

-- and its message is nowhere
message_is_lost : AreDurable begun delivered mail → ⊥
message_is_lost h = go h.0 (subst (λ (ms : List (List ℕ)). AreStoredAs begun delivered h.0 ms) one_message h.1)
  where
    go : (fs : List ℕ) → AreStoredAs begun delivered fs (codes "hi\n" ∷ []) → ⊥
    go [] s = s
    go (f ∷ fs) s = not_durable s.0.0 f _ s.0.1

none_of_theirs : HasNoneOfTheirs begun lost
unfolding shown
none_of_theirs r acted p x o = refl

-- so the cut is not careful
cut_is_careless : IsCareful 5 (own 5 delivered) (CutDrop mailbox 10) → ⊥
unfolding world_after made shown
cut_is_careless c = message_is_lost (cut_law begun delivered 5 mailbox 10 Done Made begun_starts lost_is_legal ((λ on. c), delivered_is_careful) none_of_theirs delivered mail (live refl) (on (λ z. z) read) drop_holds refl)
