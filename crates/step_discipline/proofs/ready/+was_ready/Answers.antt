use Rattle.std.proofs.Common.{rules}
use Rattle.step_discipline.proofs.Onces.{once_here, once_there}
use Rattle.step_discipline.proofs.ready.+was_ready.Goals as goal

pub returns-then-is_ready_with : goal.returns-then-is_ready_with
returns-then-is_ready_with t c = once_here _ c.args.own.now c.in-Some.older.now c.in-Some.deed.now _ (search rules) (search rules) (search rules)

pub returns-else-is_ready_with : goal.returns-else-is_ready_with
returns-else-is_ready_with t c = once_there _ c.args.own.now c.in-Some.older.now c.in-Some.deed.now _ (search rules) (search rules) (search rules)
