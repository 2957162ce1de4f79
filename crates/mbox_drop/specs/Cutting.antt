-- What a cutter has taken, and what it gives.
use Rattle.std.specs.Prelude.{◌≡◌, ◌++◌, ℕ, List, [], ◌∷◌, length, take, true, false, Option, Some, None, Result, Ok, Err}
use Rattle.mbox_drop.specs.Drops.{is_drop, BeginsDrop, messages, finished, open_bytes}
use Rattle.mbox_drop.specs.Long.{long_of, excess}
use Rattle.mbox_drop.specs.Places.{is_lost}
use Rattle.mbox_drop.specs.Readings.{reading}
use Rattle.mbox_drop.specs.declared.cutter.DropCutter.{DropCutter}
use Rattle.mbox_drop.specs.declared.fault.CutFault.{CutFault}
use Rattle.mbox_drop.specs.declared.fault.CutFault.TheVariants.{NotADrop, TooLong, Memory}

-- the pieces that the cutter took are together these bytes
pub record HasTaken (c : DropCutter) (d : List ℕ) : Type 0 where
  pub going : c.stop ≡ None
  pub place : c.place ≡ (reading d).place
  pub hand : c.hand.items ≡ (reading d).hand
  pub body : take c.body c.hand.items ≡ (reading d).body
  pub begins : is_lost (reading d).place ≡ false

-- the cutter answers this fault from now on, and keeps nothing
pub record IsStopped (c : DropCutter) (fault : CutFault) : Type 0 where
  pub stop : c.stop ≡ Some fault
  pub empty : c.hand.items ≡ []

-- these messages are finished by the piece, none of them too long, and what is in hand may become one
pub record GivesMessages (d piece : List ℕ) (c : DropCutter) (given : List (List ℕ)) : Type 0 where
  pub taken : HasTaken c (d ++ piece)
  pub begins : BeginsDrop (d ++ piece)
  pub given_are : finished (d ++ piece) ≡ finished d ++ given
  pub short : excess given (length (open_bytes (d ++ piece))) ≡ None

-- the first of the finished messages that is too long has this length, or no message ends soon enough
pub record IsTooLong (d piece : List ℕ) (c : DropCutter) (n : ℕ) : Type 0 where
  pub stopped : IsStopped c (TooLong n)
  pub begins : BeginsDrop (d ++ piece)
  pub given : List (List ℕ)
  pub given_are : finished (d ++ piece) ≡ finished d ++ given
  pub long : excess given (length (open_bytes (d ++ piece))) ≡ Some n

-- what a cutter that took the bytes d answers to the piece
abbrev pub Feeds : List ℕ → List ℕ → DropCutter → Result (List (List ℕ)) CutFault → Type 0
Feeds d piece c (Ok given) = GivesMessages d piece c given
Feeds d piece c (Err NotADrop) = (BeginsDrop (d ++ piece) → ⊥) × IsStopped c NotADrop
Feeds d piece c (Err (TooLong n)) = IsTooLong d piece c n
Feeds d piece c (Err Memory) = HasTaken c d

-- the last message
pub record IsLast (d message : List ℕ) : Type 0 where
  pub drop : is_drop d ≡ true
  pub last : messages d ≡ finished d ++ message ∷ []

-- what a cutter that took the bytes d answers at their end
abbrev pub Ends : List ℕ → Result (Option (List ℕ)) CutFault → Type 0
Ends d (Ok None) = d ≡ []
Ends d (Ok (Some message)) = IsLast d message × (long_of (length message) ≡ None)
Ends d (Err NotADrop) = is_drop d ≡ false
Ends d (Err (TooLong n)) = (message : List ℕ) × IsLast d message × (long_of (length message) ≡ Some n)
Ends d (Err Memory) = ⊥
