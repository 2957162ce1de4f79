use Rattle.std.proofs.Common.{rules}
use Rattle.step_discipline.proofs.Onces.{once_here, once_there}
use Rattle.step_discipline.proofs.holding.+was_taken.Goals as goal

pub returns-then-is_taken : goal.returns-then-is_taken
returns-then-is_taken t c = once_here _ c.args.own.now c.in-Some.older.now c.in-Some.deed.now _ (search rules) (search rules) (search rules)

pub returns-else-is_taken : goal.returns-else-is_taken
returns-else-is_taken t c = once_there _ c.args.own.now c.in-Some.older.now c.in-Some.deed.now _ (search rules) (search rules) (search rules)
