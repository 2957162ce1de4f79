use Rattle.std.proofs.Common.{rules}
use Rattle.step_discipline.proofs.Onces.{once_here, once_there}
use Rattle.step_discipline.proofs.ready.+was_synced.Goals as goal

pub returns-then-is_synced : goal.returns-then-is_synced
returns-then-is_synced t c = once_here _ c.args.own.now c.in-Some.older.now c.in-Some.deed.now _ (search rules) (search rules) (search rules)

pub returns-else-is_synced : goal.returns-else-is_synced
returns-else-is_synced t c = once_there _ c.args.own.now c.in-Some.older.now c.in-Some.deed.now _ (search rules) (search rules) (search rules)
