use Rattle.std.proofs.Common.{◌+◌, arith, refl}
use Rattle.file_plans.proofs.Following.{done, no_room, refuses}
use Rattle.message_moves.specs.Copying.{highest_of}
use Rattle.mh_base.proofs.NumberTests.{above, at_most}
use Rattle.refile_command.proofs.rooms.ask_room_in.Goals as goal

pub returns-in_err-duplicate : goal.returns-in_err-duplicate
returns-in_err-duplicate c = λ run x. no_room _ c.from_residual.ensures refl

pub returns-then-count-from : goal.returns-then-count-from
returns-then-count-from c = λ run x.
    let more = rw (c.from.ensures, c.highest.ensures.value) at c.if-count-from.true in
    let in_range = rw c.highest.ensures.value at c.highest.ensures.range in
    rw (above (highest_of c.args.to.now.highest + c.args.count) 999999 (omega (arith, more, in_range)), c.in_ok-duplicate.ensures) (refuses _ refl)

pub returns : goal.returns
returns c = λ run x.
    let few = rw (c.from.ensures, c.highest.ensures.value) at c.if-count-from.false in
    let in_range = rw c.highest.ensures.value at c.highest.ensures.range in
    rw (at_most (highest_of c.args.to.now.highest + c.args.count) 999999 (omega (arith, few, in_range))) done
