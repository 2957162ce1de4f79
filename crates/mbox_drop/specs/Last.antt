-- The last message.
use Rattle.std.specs.Prelude.{◌≡◌, ℕ, List, length, Option, Some, None, Result, Ok, Err}
use Rattle.mbox_drop.specs.Long.{long_of}
use Rattle.mbox_drop.specs.declared.fault.CutFault.{CutFault}
use Rattle.mbox_drop.specs.declared.fault.CutFault.TheVariants.{NotADrop, TooLong, Memory}

-- the last message is given, or it is too long
abbrev pub AnswersLast : List ℕ → Result (Option (List ℕ)) CutFault → Type 0
AnswersLast last (Ok None) = ⊥
AnswersLast last (Ok (Some message)) = (message ≡ last) × (long_of (length last) ≡ None)
AnswersLast last (Err NotADrop) = ⊥
AnswersLast last (Err (TooLong n)) = long_of (length last) ≡ Some n
AnswersLast last (Err Memory) = ⊥
