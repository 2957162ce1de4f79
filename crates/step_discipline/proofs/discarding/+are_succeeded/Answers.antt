use Rattle.std.proofs.Common.{rules}
use Rattle.step_discipline.proofs.DeedWalks.{walk_on, walk_off, walk_end}
use Rattle.step_discipline.proofs.discarding.+are_succeeded.Goals as goal

pub returns-in-None : goal.returns-in-None
returns-in-None t c = walk_end _ c.args.own.now c.split_at.result.1.now c.args.at _ (search rules) (search rules) (search rules)

pub returns-then-is_succeeded : goal.returns-then-is_succeeded
returns-then-is_succeeded t c =
    walk_on _ c.args.own.now c.split_at.result.0.now c.split_at.result.1.now c.in-Some.field-0-1.now c.in-Some.deed.now c.args.at _ (search rules) (search rules) (search rules) (search rules) (search rules)

pub returns-else-is_succeeded : goal.returns-else-is_succeeded
returns-else-is_succeeded t c =
    walk_off _ c.args.own.now c.split_at.result.0.now c.split_at.result.1.now c.in-Some.field-0-1.now c.in-Some.deed.now c.args.at _ (search rules) (search rules) (search rules) (search rules) (search rules)
