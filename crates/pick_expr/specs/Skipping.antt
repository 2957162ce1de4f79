-- What words come to where those in some braces are passed over.
use Rattle.std.specs.Prelude.{ℕ, zero, suc, ◌≡◌, ◌||◌, not, Bool, List, [], ◌∷◌, Option, Some, None}
use Rattle.pick_expr.specs.declared.frame.Frame.{Frame}
use Rattle.pick_expr.specs.declared.lexeme.Lexeme.{Lexeme}
use Rattle.pick_expr.specs.declared.lexeme.Lexeme.TheVariants.{And, Or, Not, Open, Close, Test as TestWord}
use Rattle.pick_expr.specs.Values.{value_of}

-- an alternative before holds, or something does not that others are joined to: what comes next up to an alternative no
-- longer counts
abbrev pub is_settled : Frame → Bool
is_settled f = f.any || not f.all

-- what words come to behind so many braces that are open and are passed over; none where one of them does not close
abbrev pub value_behind : List ℕ → ℕ → List Lexeme → Frame → List Frame → Option Bool
value_behind message zero words f around = Some (value_of message words f around)
value_behind message (suc more) [] f around = None
value_behind message (suc more) (Open ∷ words) f around = value_behind message (suc (suc more)) words f around
value_behind message (suc more) (Close ∷ words) f around = value_behind message more words f around
value_behind message (suc more) (And ∷ words) f around = value_behind message (suc more) words f around
value_behind message (suc more) (Or ∷ words) f around = value_behind message (suc more) words f around
value_behind message (suc more) (Not ∷ words) f around = value_behind message (suc more) words f around
value_behind message (suc more) (TestWord t ∷ words) f around = value_behind message (suc more) words f around

-- the second, where there is one, is the first
abbrev pub Gives : Option Bool → Option Bool → Type 0
Gives value None = Unit {0}
Gives value (Some given) = value ≡ Some given
