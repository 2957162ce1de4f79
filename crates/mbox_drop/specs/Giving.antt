-- What the parts of a cutter's work leave.
use Rattle.std.specs.Prelude.{◌≡◌, ◌++◌, slice_set, ℕ, List, [], ◌∷◌, length, take, drop, true, false, Option, Some, None, Result, Ok, Err}
use Rattle.std.specs.Option.{option_or}
use Rattle.mbox_drop.specs.Places.{is_lost}
use Rattle.mbox_drop.specs.Readings.{at, read}
use Rattle.mbox_drop.specs.Long.{first_long, long_of, overlong_of}
use Rattle.mbox_drop.specs.Parting.{opened_reading}
use Rattle.mbox_drop.specs.Cutting.{IsStopped}
use Rattle.mbox_drop.specs.declared.cutter.DropCutter.{DropCutter}
use Rattle.mbox_drop.specs.declared.fault.CutFault.{CutFault}
use Rattle.mbox_drop.specs.declared.fault.CutFault.TheVariants.{NotADrop, TooLong, Memory}
use Rattle.mbox_drop.specs.declared.place.DropState.{DropState}
use Rattle.mbox_drop.specs.declared.parts.Parts.{Parts}

-- the cutter keeps what it kept
pub record IsKept (old new : DropCutter) : Type 0 where
  pub stop : new.stop ≡ old.stop
  pub place : new.place ≡ old.place
  pub body : new.body ≡ old.body
  pub hand : new.hand.items ≡ old.hand.items

-- the cutter keeps these bytes, which end at this place
pub record Keeps (old : DropCutter) (hand : List ℕ) (place : DropState) (body : ℕ) (new : DropCutter) : Type 0 where
  pub stop : new.stop ≡ old.stop
  pub place_is : new.place ≡ place
  pub body_is : new.body ≡ body
  pub hand_is : new.hand.items ≡ hand

abbrev pub Holds : DropCutter → DropState → ℕ → List ℕ → DropCutter → Result (List (List ℕ)) CutFault → Type 0
Holds old place body rest new (Ok given) =
    (given ≡ []) × (is_lost place ≡ false) × (overlong_of (length (old.hand.items ++ rest)) ≡ None)
    × Keeps old (old.hand.items ++ rest) place body new
Holds old place body rest new (Err NotADrop) = (is_lost place ≡ true) × IsStopped new NotADrop
Holds old place body rest new (Err (TooLong n)) =
    (is_lost place ≡ false) × (overlong_of (length (old.hand.items ++ rest)) ≡ Some n) × IsStopped new (TooLong n)
Holds old place body rest new (Err Memory) = IsKept old new

abbrev pub Passes : DropCutter → ℕ → List ℕ → Parts → DropCutter → Result (List (List ℕ)) CutFault → Type 0
Passes old body rest p new (Ok given) =
    (given ≡ slice_set p.messages.items 0 (take body (old.hand.items ++ rest)))
    × Keeps old p.text.now p.place p.body new
Passes old body rest p new (Err NotADrop) = ⊥
Passes old body rest p new (Err (TooLong n)) = ⊥
Passes old body rest p new (Err Memory) = IsKept old new

-- what is read after the first separator of the piece, and how much of it is too long
pub record ReadsParts (body : ℕ) (bytes : List ℕ) (given : List (List ℕ)) (text : List ℕ) (place : DropState) (last : ℕ)
    (long : Option ℕ) : Type 0 where
  pub reads : read opened_reading bytes ≡ at given text (take last text) place
  pub long_is : option_or (option_or (long_of body) (first_long given)) (overlong_of (length text)) ≡ long

pub record GivesAll (old : DropCutter) (body : ℕ) (rest : List ℕ) (next : ℕ) (new : DropCutter)
    (given : List (List ℕ)) : Type 0 where
  pub later : List (List ℕ)
  pub given_are : given ≡ take body (old.hand.items ++ rest) ∷ later
  pub reads : ReadsParts body (drop next rest) later new.hand.items new.place new.body None
  pub stop : new.stop ≡ old.stop

pub record GivesLong (body : ℕ) (rest : List ℕ) (next : ℕ) (new : DropCutter) (n : ℕ) : Type 0 where
  pub later : List (List ℕ)
  pub text : List ℕ
  pub place : DropState
  pub last : ℕ
  pub reads : ReadsParts body (drop next rest) later text place last (Some n)
  pub stopped : IsStopped new (TooLong n)

abbrev pub GivesParts : DropCutter → ℕ → List ℕ → ℕ → DropCutter → Result (List (List ℕ)) CutFault → Type 0
GivesParts old body rest next new (Ok given) = GivesAll old body rest next new given
GivesParts old body rest next new (Err NotADrop) = ⊥
GivesParts old body rest next new (Err (TooLong n)) = GivesLong body rest next new n
GivesParts old body rest next new (Err Memory) = IsKept old new
