use Rattle.std.proofs.Common.{◌+◌, arith, refl}
use Rattle.file_plans.proofs.Following.{done, no_room, refuses}
use Rattle.mh_base.proofs.NumberTests.{above, at_most}
use Rattle.inc_command.proofs.room.ask_room.Goals as goal

pub returns-in_err-duplicate : goal.returns-in_err-duplicate
returns-in_err-duplicate c = λ run x. no_room _ c.from_residual.ensures refl

pub returns-then-messages-from : goal.returns-then-messages-from
returns-then-messages-from c = λ run x.
    let more = rw c.from.ensures at c.if-messages-from.true in
    let in_range = c.requires in
    rw (above (c.args.highest + c.args.messages) 999999 (omega (arith, more, in_range)), c.in_ok-duplicate.ensures) (refuses _ refl)

pub returns : goal.returns
returns c = λ run x.
    let few = rw c.from.ensures at c.if-messages-from.false in
    let in_range = c.requires in
    rw (at_most (c.args.highest + c.args.messages) 999999 (omega (arith, few, in_range))) done
