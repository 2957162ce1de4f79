-- What a source has left, and what a sink was given.
use Rattle.std.specs.Prelude.{◌≡◌, ◌++◌, List, [], ℕ, Option, Some, None, Result, Ok, Err}
use Rattle.mh_base.specs.declared.streams.SinkFault.{SinkFault}
use Rattle.mh_base.specs.declared.streams.SinkFault.TheVariants.{Failed, Memory}
use Rattle.mh_base.specs.declared.streams.SourceFault.{SourceFault}

-- the bytes that a source will give, where it tells them, and how often it has failed
pub record SourceState : Type 0 where
  pub left : Option (List ℕ)
  pub faults : ℕ

-- the bytes that were put into a sink, where it tells them, and how often it has failed
pub record SinkState : Type 0 where
  pub told : Option (List ℕ)
  pub faults : ℕ

-- the piece was taken from the front, and is empty only where nothing was left
abbrev pub Takes : Option (List ℕ) → Option (List ℕ) → List ℕ → Type 0
Takes None None piece = Unit {0}
Takes (Some old) (Some new) piece = (old ≡ piece ++ new) × (piece ≡ [] → old ≡ [])
Takes None (Some new) piece = ⊥
Takes (Some old) None piece = ⊥

-- a piece was read; or nothing was taken
abbrev pub Reads : Option (List ℕ) → Option (List ℕ) → Result (List ℕ) SourceFault → Type 0
Reads old new (Ok piece) = Takes old new piece
Reads old new (Err fault) = new ≡ old

-- the bytes were appended, where they are told
abbrev pub Adds : Option (List ℕ) → Option (List ℕ) → List ℕ → Type 0
Adds None None piece = Unit {0}
Adds (Some old) (Some new) piece = new ≡ old ++ piece
Adds None (Some new) piece = ⊥
Adds (Some old) None piece = ⊥

-- a prefix of them was appended
abbrev pub AddsPart : Option (List ℕ) → Option (List ℕ) → List ℕ → Type 0
AddsPart old new piece = (part : List ℕ) × (rest : List ℕ) × (part ++ rest ≡ piece) × Adds old new part

-- the piece was put; or a part of it, and the sink failed; or nothing, for want of memory
abbrev pub Puts : Option (List ℕ) → Option (List ℕ) → List ℕ → Result Unit SinkFault → Type 0
Puts old new piece (Ok u) = Adds old new piece
Puts old new piece (Err Failed) = AddsPart old new piece
Puts old new piece (Err Memory) = new ≡ old
