-- What may stand behind the words that were read.
use Rattle.std.specs.Prelude.{ℕ, zero, suc, ◌&&◌, Bool, true, false, not, List, [], ◌∷◌, Option, Some, None, if◌then◌else◌}
use Rattle.pick_expr.specs.declared.lexeme.Lexeme.{Lexeme}
use Rattle.pick_expr.specs.declared.lexeme.Lexeme.TheVariants.{And, Or, Not, Open, Close, Test}

-- whether an operand is to come, how many `-not` and `-lbrace` may still be opened in the innermost braces and at this
-- word, and how many might be in the braces around them, from the inside on
pub record Spot : Type 0 where
  pub needs : Bool
  pub base : ℕ
  pub room : ℕ
  pub around : List ℕ

abbrev pub at_start : Spot
at_start = record { needs = true; base = 64; room = 64; around = [] }

abbrev pub opened : ℕ → (ℕ → Spot) → Option Spot
opened zero next = None
opened (suc room) next = Some (next room)

abbrev pub out_of : List ℕ → Option Spot
out_of [] = None
out_of (base ∷ around) = Some (record { needs = false; base = base; room = base; around = around })

abbrev pub joined_spot : Spot → Option Spot
joined_spot s = if s.needs then None else Some (record s { needs = true })

abbrev pub negated_spot : Spot → Option Spot
negated_spot s = opened s.room (λ room. record s { needs = true; room = room })

abbrev pub open_spot : Spot → Option Spot
open_spot s = opened s.room (λ room. record { needs = true; base = room; room = room; around = s.base ∷ s.around })

abbrev pub closed_spot : Spot → Option Spot
closed_spot s = if s.needs then None else out_of s.around

-- the spot behind a word, if it can stand there
abbrev pub step : Lexeme → Spot → Option Spot
step And s = joined_spot s
step Or s = joined_spot s
step Not s = negated_spot s
step Open s = open_spot s
step Close s = closed_spot s
step (Test t) s = Some (record s { needs = false; room = s.base })

abbrev pub is_out : List ℕ → Bool
is_out [] = true
is_out (base ∷ around) = false

-- an expression may end here
abbrev pub may_end : Spot → Bool
may_end s = not s.needs && is_out s.around
