use Rattle.std.proofs.Common.{rules}
use Rattle.step_discipline.proofs.Onces.{once_here, once_there}
use Rattle.step_discipline.proofs.discarding.+was_taken_and_read.Goals as goal

pub returns-then-is_taken_and_read : goal.returns-then-is_taken_and_read
returns-then-is_taken_and_read t c = once_here _ c.args.own.now c.in-Some.older.now c.in-Some.deed.now _ (search rules) (search rules) (search rules)

pub returns-else-is_taken_and_read : goal.returns-else-is_taken_and_read
returns-else-is_taken_and_read t c = once_there _ c.args.own.now c.in-Some.older.now c.in-Some.deed.now _ (search rules) (search rules) (search rules)
