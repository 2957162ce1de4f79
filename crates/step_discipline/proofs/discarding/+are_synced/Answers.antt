use Rattle.std.proofs.Common.{rules}
use Rattle.step_discipline.proofs.DeedWalks.{walk_on, walk_off, walk_end}
use Rattle.step_discipline.proofs.discarding.+are_synced.Goals as goal

pub returns-in-None : goal.returns-in-None
returns-in-None t c = walk_end _ c.args.own.now c.split_at.result.1.now c.args.at _ (search rules) (search rules) (search rules)

pub returns-then-is_successor_synced : goal.returns-then-is_successor_synced
returns-then-is_successor_synced t c =
    walk_on _ c.args.own.now c.split_at.result.0.now c.split_at.result.1.now c.in-Some.older.now c.in-Some.deed.now c.args.at _ (search rules) (search rules) (search rules) (search rules) (search rules)

pub returns-else-is_successor_synced : goal.returns-else-is_successor_synced
returns-else-is_successor_synced t c =
    walk_off _ c.args.own.now c.split_at.result.0.now c.split_at.result.1.now c.in-Some.older.now c.in-Some.deed.now c.args.at _ (search rules) (search rules) (search rules) (search rules) (search rules)
