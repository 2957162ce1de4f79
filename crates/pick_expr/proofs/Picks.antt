-- An expression picks just the messages of which it holds.
use Rattle.std.proofs.Common.{ℕ, List, refl}
use Rattle.std.specs.Prelude.{◌↔◌, IsTrue}
use Rattle.pick_expr.specs.declared.expr.Expr.{Expr}
use Rattle.pick_expr.specs.Grammar.{IsExpression, Tree}
use Rattle.pick_expr.specs.Picks.{picks}
use Rattle.pick_expr.specs.Refusals.{IsReadAs}
use Rattle.pick_expr.specs.Signs.{Placed}
use Rattle.pick_expr.specs.Truth.{Holds}
use Rattle.pick_expr.proofs.WordValues.{value_holds}

pub picks_holds : (expr : Expr) (e : Tree) → IsExpression expr.words e → (message : List ℕ) → IsTrue (picks expr message) ↔ Holds e message
unfolding picks
picks_holds expr e is message = value_holds message expr.words e _ is refl

-- so does each expression that was read
pub read_picks : (placed : List Placed) (expr : Expr) → (read : IsReadAs placed expr) → (message : List ℕ) → IsTrue (picks expr message) ↔ Holds read.tree message
read_picks placed expr read message = picks_holds expr read.tree read.whole message
