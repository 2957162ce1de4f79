use Rattle.std.proofs.Common.{rules}
use Rattle.step_discipline.proofs.Onces.{once_here, once_there}
use Rattle.step_discipline.proofs.copies.+was_copy_put.Goals as goal

pub returns-then-is_copy_put : goal.returns-then-is_copy_put
returns-then-is_copy_put t c = once_here _ c.args.own.now c.in-Some.older.now c.in-Some.deed.now _ (search rules) (search rules) (search rules)

pub returns-else-is_copy_put : goal.returns-else-is_copy_put
returns-else-is_copy_put t c = once_there _ c.args.own.now c.in-Some.older.now c.in-Some.deed.now _ (search rules) (search rules) (search rules)
