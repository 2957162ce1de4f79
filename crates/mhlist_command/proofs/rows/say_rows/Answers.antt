use Rattle.std.proofs.Common.{refl}
use Rattle.file_plans.proofs.Following.{no_room, refuses}
use Rattle.mhlist_command.proofs.rows.say_rows.Goals as goal

pub returns-in_err-parts : goal.returns-in_err-parts
returns-in_err-parts g c = λ run h f. no_room _ c.from_residual.ensures refl

pub returns-in_err-rows-in-None : goal.returns-in_err-rows-in-None
returns-in_err-rows-in-None g c = λ run h f. no_room _ c.from_residual-in_err-rows-in-None.ensures refl

pub returns-in_err-no_part-in-Some : goal.returns-in_err-no_part-in-Some
returns-in_err-no_part-in-Some g c = λ run h f. no_room _ c.from_residual-in_err-no_part-in-Some.ensures refl

pub returns : goal.returns
returns g c = λ run h f. rw (rw c.in_ok-parts.ensures at c.in-Some.ensures, c.in_ok-no_part-in-Some.ensures) (refuses _ refl)
