use Rattle.std.proofs.Common.{rules}
use Rattle.step_discipline.proofs.Onces.{once_here, once_there}
use Rattle.step_discipline.proofs.ready.+was_made_with.Goals as goal

pub returns-then-is_made_with : goal.returns-then-is_made_with
returns-then-is_made_with t c = once_here _ c.args.own.now c.in-Some.older.now c.in-Some.deed.now _ (search rules) (search rules) (search rules)

pub returns-else-is_made_with : goal.returns-else-is_made_with
returns-else-is_made_with t c = once_there _ c.args.own.now c.in-Some.older.now c.in-Some.deed.now _ (search rules) (search rules) (search rules)
