-- Whether an expression holds of a message, as a truth value.
use Rattle.std.specs.Prelude.{ℕ, Bool, List, []}
use Rattle.pick_expr.specs.declared.expr.Expr.{Expr}
use Rattle.pick_expr.specs.Values.{fresh, value_of}

-- what the expression's words come to of the message
unfoldable pub picks : Expr → List ℕ → Bool
picks expr message = value_of message expr.words fresh []
