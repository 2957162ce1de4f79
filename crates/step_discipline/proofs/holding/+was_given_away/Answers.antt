use Rattle.std.proofs.Common.{rules}
use Rattle.step_discipline.proofs.Onces.{once_here, once_there}
use Rattle.step_discipline.proofs.holding.+was_given_away.Goals as goal

pub returns-then-is_given_away : goal.returns-then-is_given_away
returns-then-is_given_away t c = once_here _ c.args.own.now c.in-Some.older.now c.in-Some.deed.now _ (search rules) (search rules) (search rules)

pub returns-else-is_given_away : goal.returns-else-is_given_away
returns-else-is_given_away t c = once_there _ c.args.own.now c.in-Some.older.now c.in-Some.deed.now _ (search rules) (search rules) (search rules)
