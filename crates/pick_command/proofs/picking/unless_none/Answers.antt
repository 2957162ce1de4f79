use Rattle.std.proofs.Common.{◌∙◌, refl, sym}
use Rattle.file_plans.proofs.Following.{go, refuses, stop}
use Rattle.pick_plans.proofs.Loops.{none_found, some_there}
use Rattle.pick_command.proofs.picking.unless_none.Goals as goal

pub returns-in_err-say_if : goal.returns-in_err-say_if
returns-in_err-say_if g c = λ run h f. none_found _ _ _ _ _ _ (sym c.is_empty.ensures ∙ c.if-is_empty.true) (stop _ (rw c.as_slice.ensures at (c.in_err-say_if.ensures run h f)) c.from_residual.ensures)

pub returns-in_ok-say_if : goal.returns-in_ok-say_if
returns-in_ok-say_if g c = λ run h f. none_found _ _ _ _ _ _ (sym c.is_empty.ensures ∙ c.if-is_empty.true) (go _ (rw c.as_slice.ensures at (c.in_ok-say_if.ensures run h f)) (refuses _ refl))

pub returns-else-is_empty : goal.returns-else-is_empty
returns-else-is_empty g c = λ run h f. some_there _ _ _ _ (sym c.is_empty.ensures ∙ c.if-is_empty.false)
