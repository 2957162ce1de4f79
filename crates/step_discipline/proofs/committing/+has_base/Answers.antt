use Rattle.std.proofs.Common.{rules}
use Rattle.step_discipline.proofs.Sinces.{since_here, since_ended, since_there}
use Rattle.step_discipline.proofs.committing.+has_base.Goals as goal

pub returns-then-is_base : goal.returns-then-is_base
returns-then-is_base t c = since_here _ _ c.args.own.now c.in-Some.older.now c.in-Some.deed.now _ (search rules) (search rules) (search rules)

pub returns-then-unlocks : goal.returns-then-unlocks
returns-then-unlocks t c = since_ended _ _ c.args.own.now c.in-Some.older.now c.in-Some.deed.now _ (search rules) (search rules) (search rules) (search rules)

pub returns-else-unlocks : goal.returns-else-unlocks
returns-else-unlocks t c = since_there _ _ c.args.own.now c.in-Some.older.now c.in-Some.deed.now _ (search rules) (search rules) (search rules) (search rules)
