-- What a cutter answers is what the plan says of the bytes that it took.
use Rattle.std.proofs.Common.{◌≡◌, ◌++◌, ◌∷◌, [], ℕ, Bool, true, false, List, Option, Some, None, Ok, Err, length, drop, refl, ◌∙◌, ap}
use Rattle.std.proofs.Math.Seq.{drop-append_seam}
use Rattle.mbox_drop.specs.Cutting.{Ends, Feeds, IsLast}
use Rattle.mbox_drop.specs.Drops.{finished, is_drop, lines, messages, parts, sections}
use Rattle.mbox_drop.specs.Places.{is_lost}
use Rattle.mbox_drop.specs.Readings.{reading}
use Rattle.mbox_drop.specs.declared.cutter.DropCutter.{DropCutter}
use Rattle.mbox_drop.specs.declared.fault.CutFault.{CutFault}
use Rattle.mbox_drop.specs.declared.fault.CutFault.TheVariants as cut
use Rattle.mbox_drop.proofs.Cuttings.{sound}
use Rattle.command_stages.specs.Values.{IsErrorOf}
use Rattle.inc_plans.specs.Cutting.{fault_of, given_by, last_by, new_in}

new_is : (d piece : List ℕ) (given : List (List ℕ)) → finished (d ++ piece) ≡ finished d ++ given → new_in d piece ≡ given
new_is d piece given e = ap (λ z. drop (length (finished d)) z) e ∙ drop-append_seam (finished d) given

pub feeds_ok : (d piece : List ℕ) (c : DropCutter) (given : List (List ℕ)) → Feeds d piece c (Ok given) → given_by d piece ≡ Ok given
feeds_ok d piece c given f = rw (f.taken.begins, new_is d piece given f.given_are, f.short) refl

pub feeds_err : (d piece : List ℕ) (c : DropCutter) (e : CutFault) → Feeds d piece c (Err e) → IsErrorOf (given_by d piece) (fault_of e)
feeds_err d piece c cut.NotADrop f = go (is_lost (reading (d ++ piece)).place) refl
  where
    go : (b : Bool) → is_lost (reading (d ++ piece)).place ≡ b → IsErrorOf (given_by d piece) (fault_of cut.NotADrop)
    go true is = rw is refl
    go false is = absurd (f.0 (sound (d ++ piece) is).begins)
feeds_err d piece c (cut.TooLong n) f = go (is_lost (reading (d ++ piece)).place) refl
  where
    go : (b : Bool) → is_lost (reading (d ++ piece)).place ≡ b → IsErrorOf (given_by d piece) (fault_of (cut.TooLong n))
    go true is = rw is refl
    go false is = rw (is, new_is d piece f.given f.given_are, f.long) refl
feeds_err d piece c cut.Memory f = tt

last_is : (d message : List ℕ) → IsLast d message → drop (length (finished d)) (messages d) ≡ message ∷ []
last_is d message l = ap (λ z. drop (length (finished d)) z) l.last ∙ drop-append_seam (finished d) (message ∷ [])

none_read : last_by [] ≡ Ok None
unfolding is_drop finished messages parts sections lines
none_read = refl

pub ends_ok : (d : List ℕ) (last : Option (List ℕ)) → Ends d (Ok last) → last_by d ≡ Ok last
ends_ok d None f = rw f none_read
ends_ok d (Some message) f = rw (f.0.drop, last_is d message f.0, f.1) refl

pub ends_err : (d : List ℕ) (e : CutFault) → Ends d (Err e) → IsErrorOf (last_by d) (fault_of e)
ends_err d cut.NotADrop f = rw f refl
ends_err d (cut.TooLong n) f = rw (f.1.drop, last_is d f.0 f.1, f.2) refl
ends_err d cut.Memory f = absurd f
