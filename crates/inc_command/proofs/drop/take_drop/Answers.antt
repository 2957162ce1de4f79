use Rattle.std.proofs.Common.{length, refl}
use Rattle.file_plans.proofs.Following.{done, go, refuses, stop}
use Rattle.inc_plans.specs.DropTaken.{drop_taken}
use Rattle.inc_plans.proofs.Tests.{alike, apart}
use Rattle.inc_command.proofs.drop.take_drop.Goals as goal

pub returns-in_err-taken-clause-plan : goal.returns-in_err-taken-clause-plan
unfolding drop_taken
returns-in_err-taken-clause-plan g c = stop _ (rw c.new-numbers.ensures at (c.in_err-taken.ensures.takes c.new-cutter.ensures)) c.from_residual.ensures

pub returns-in_err-taken-2-clause-plan : goal.returns-in_err-taken-2-clause-plan
unfolding drop_taken
returns-in_err-taken-2-clause-plan g c =
    let t = rw c.new-numbers.ensures at (c.in_ok-taken.ensures.takes c.new-cutter.ensures) in
    go _ t.3 (stop _ (rw c.in_ok-taken.ensures.same.0 at (c.in_err-taken-2.ensures.plan t.0 t.1)) c.from_residual-in_err-taken-2.ensures)

pub returns-then-len-size-clause-plan : goal.returns-then-len-size-clause-plan
unfolding drop_taken
returns-then-len-size-clause-plan g c =
    let t = rw c.new-numbers.ensures at (c.in_ok-taken.ensures.takes c.new-cutter.ensures) in
    go _ t.3
    (go _ (rw c.in_ok-taken.ensures.same.0 at (c.in_ok-taken-2.ensures.plan t.0 t.1))
    (rw (apart (length c.in_ok-taken-2.taken.numbers) c.args.size.messages (rw c.len.ensures at c.if-len-size.true), c.drop_changed.ensures) (refuses _ refl)))

pub returns-clause-plan : goal.returns-clause-plan
unfolding drop_taken
returns-clause-plan g c =
    let t = rw c.new-numbers.ensures at (c.in_ok-taken.ensures.takes c.new-cutter.ensures) in
    go _ t.3
    (go _ (rw c.in_ok-taken.ensures.same.0 at (c.in_ok-taken-2.ensures.plan t.0 t.1))
    (rw (alike (length c.in_ok-taken-2.taken.numbers) c.args.size.messages (rw c.len.ensures at c.if-len-size.false)) done))
