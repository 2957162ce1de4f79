-- The one value of items.
use Rattle.std.proofs.Common.{◌≡◌, ℕ, ℤ, Bool, true, false, List, [], ◌∷◌, Option, None, Some, Result, Ok, Err, refl, sym, ◌∙◌, ap, codes}
use Rattle.std.specs.Prelude.{IfOk, IfErr, if◌then◌else◌}
use Rattle.mh_words.specs.declared.item.Item.{Item}
use Rattle.pick_expr.specs.declared.expr.Expr.{Expr}
use Rattle.pick_expr.specs.declared.fault.ExprFault.{ExprFault}
use Rattle.pick_expr.specs.declared.fault.ExprFault.TheVariants.{BadExpr, BadDate, Memory}
use Rattle.pick_expr.specs.declared.lexeme.Lexeme.{Lexeme}
use Rattle.pick_expr.specs.declared.sign.Sign.{Sign}
use Rattle.pick_expr.specs.declared.sign.Sign.TheVariants as sign
use Rattle.pick_expr.specs.Progress.{IsFaultOf, ended, fault_in, passed, passed_sign, words_in}
use Rattle.pick_expr.specs.Signs.{Placed, behind_all, day_at, signs_in}
use Rattle.pick_expr.specs.Steps.{Spot, at_start, may_end, step}
use Rattle.pick_expr.specs.Whole.{IsExprOf, expr_in, placed_expr, unless_fault}

abbrev of_words : List Lexeme → Expr
of_words words = record { words = words }

-- an expression is its words
same_words : (e : Expr) (words : List Lexeme) → e.words ≡ words → of_words words ≡ e
same_words e words is = ap of_words (sym is)

placed_is : (end : ℕ) (placed : List Placed) (r : Result Expr ExprFault) → IfOk r (λ e. (fault_in end placed at_start false ≡ None) × (e.words ≡ words_in placed)) → IfErr r (IsFaultOf (fault_in end placed at_start false)) → IsExprOf (placed_expr end placed) r
placed_is end placed (Ok e) ok err = ap (unless_fault placed) ok.0 ∙ ap Ok (same_words e (words_in placed) ok.1)
placed_is end placed (Err (BadExpr place)) ok err = ap (unless_fault placed) err
placed_is end placed (Err (BadDate place)) ok err = ap (unless_fault placed) err
placed_is end placed (Err Memory) ok err = tt

pub expr_is : (moment offset : ℤ) (items : List Item) (r : Result Expr ExprFault)
    → IfOk r (λ e. (fault_in (behind_all items) (signs_in (day_at moment offset) items (codes "date")) at_start false ≡ None) × (e.words ≡ words_in (signs_in (day_at moment offset) items (codes "date"))))
    → IfErr r (IsFaultOf (fault_in (behind_all items) (signs_in (day_at moment offset) items (codes "date")) at_start false)) → IsExprOf (expr_in moment offset items) r
unfolding expr_in
expr_is moment offset items r ok err = placed_is (behind_all items) (signs_in (day_at moment offset) items (codes "date")) r ok err

-- want of memory is no fault of words
never_ended : (end : ℕ) (s : Spot) (begun : Bool) → ended end s begun ≡ Some Memory → ⊥
never_ended end s false e = cc (e)
never_ended end s true e = go (may_end s) e
  where
    go : (b : Bool) → (if b then None else Some (BadExpr end)) ≡ Some Memory → ⊥
    go true e = cc (e)
    go false e = cc (e)

-- nor of a word before others
never_passed : (p : Placed) (rest : Spot → Option ExprFault) (s : Spot) → ((next : Spot) → rest next ≡ Some Memory → ⊥) → passed_sign p.place p.sign s rest ≡ Some Memory → ⊥
never_passed p rest s k e = go p.sign e
  where
    on : (n : Option Spot) → passed p.place n rest ≡ Some Memory → ⊥
    on None e = cc (e)
    on (Some next) e = k next e

    go : (z : Sign) → passed_sign p.place z s rest ≡ Some Memory → ⊥
    go sign.Aside e = k s e
    go (sign.Field name) e = k s e
    go (sign.Word word) e = on (step word s) e
    go sign.BadPattern e = cc (e)
    go sign.BadDate e = cc (e)

never_fault : (end : ℕ) (placed : List Placed) (s : Spot) (begun : Bool) → fault_in end placed s begun ≡ Some Memory → ⊥
never_fault end [] s begun e = never_ended end s begun e
never_fault end (p ∷ placed) s begun e = never_passed p (λ next. fault_in end placed next true) s (λ next f. never_fault end placed next true f) e

pub never_memory : (moment offset : ℤ) (items : List Item) → expr_in moment offset items ≡ Err Memory → ⊥
unfolding expr_in
never_memory moment offset items e = go (fault_in (behind_all items) placed at_start false) refl e
  where
    placed : List Placed
    placed = signs_in (day_at moment offset) items (codes "date")

    go : (f : Option ExprFault) → fault_in (behind_all items) placed at_start false ≡ f → unless_fault placed f ≡ Err Memory → ⊥
    go None is e = cc (e)
    go (Some fault) is e = let same : fault ≡ Memory = cc (e) in never_fault (behind_all items) placed at_start false (is ∙ ap Some same)
