-- What the items of a command line are read as: the one value that they admit.
use Rattle.std.specs.Prelude.{◌≡◌, ℕ, ℤ, false, List, Option, Some, None, Result, Ok, Err, codes}
use Rattle.mh_words.specs.declared.item.Item.{Item}
use Rattle.pick_expr.specs.declared.expr.Expr.{Expr}
use Rattle.pick_expr.specs.declared.fault.ExprFault.{ExprFault}
use Rattle.pick_expr.specs.declared.fault.ExprFault.TheVariants.{BadExpr, BadDate as BadDateAt, Memory}
use Rattle.pick_expr.specs.Progress.{fault_in, words_in}
use Rattle.pick_expr.specs.Signs.{Placed, behind_all, day_at, signs_in}
use Rattle.pick_expr.specs.Steps.{at_start}

-- the first fault of these words, or else the expression that has all of them
abbrev pub unless_fault : List Placed → Option ExprFault → Result Expr ExprFault
unless_fault placed None = Ok (record { words = words_in placed })
unless_fault placed (Some fault) = Err fault

-- where this is the place behind all words
abbrev pub placed_expr : ℕ → List Placed → Result Expr ExprFault
placed_expr end placed = unless_fault placed (fault_in end placed at_start false)

-- the expression of these items, whose dates are named at this moment, by a clock that is so many minutes ahead; or the
-- first fault
unfoldable pub expr_in : ℤ → ℤ → List Item → Result Expr ExprFault
expr_in moment offset items = placed_expr (behind_all items) (signs_in (day_at moment offset) items (codes "date"))

-- the result is this, or there was not enough memory
abbrev pub IsExprOf : Result Expr ExprFault → Result Expr ExprFault → Type 0
IsExprOf value (Ok expr) = value ≡ Ok expr
IsExprOf value (Err (BadExpr place)) = value ≡ Err (BadExpr place)
IsExprOf value (Err (BadDateAt place)) = value ≡ Err (BadDateAt place)
IsExprOf value (Err Memory) = Unit {0}
