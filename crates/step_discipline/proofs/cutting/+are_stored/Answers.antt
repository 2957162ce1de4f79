use Rattle.std.proofs.Common.{rules}
use Rattle.step_discipline.proofs.Storing.{stored_all, stored_none, stored_here, stored_there, stored_before}
use Rattle.step_discipline.proofs.cutting.+are_stored.Goals as goal

pub returns-in_default : goal.returns-in_default
returns-in_default t c = stored_all c.args.run c.args.path.now c.args.messages.now _ _ _ (search rules) (search rules)

pub returns-in_default-split_first : goal.returns-in_default-split_first
returns-in_default-split_first t c =
    stored_none c.args.run c.args.path.now c.args.messages.now c.in-Some.before.now c.in-Some.last.now c.args.own.now c.split_at.result.1.now c.args.at _ (search rules) (search rules) (search rules) (search rules)

pub returns-then-is_stored : goal.returns-then-is_stored
returns-then-is_stored t c =
    stored_here c.args.run c.args.path.now c.args.messages.now c.in-Some.before.now c.in-Some.last.now c.args.own.now c.split_at.result.0.now c.split_at.result.1.now c.in-Some-split_first.older.now c.in-Some-split_first.deed.now c.args.at _
    (search rules) (search rules) (search rules) (search rules) (search rules) (search rules)

pub returns-then-asks_first : goal.returns-then-asks_first
returns-then-asks_first t c =
    stored_before c.args.run c.args.path.now c.args.messages.now c.in-Some.before.now c.in-Some.last.now c.args.own.now c.split_at.result.0.now c.split_at.result.1.now c.in-Some-split_first.older.now c.in-Some-split_first.deed.now c.args.at _
    (search rules) (search rules) (search rules) (search rules) (search rules) (search rules) (search rules)

pub returns-else-asks_first : goal.returns-else-asks_first
returns-else-asks_first t c =
    stored_there c.args.run c.args.path.now c.args.messages.now c.in-Some.before.now c.in-Some.last.now c.args.own.now c.split_at.result.0.now c.split_at.result.1.now c.in-Some-split_first.older.now c.in-Some-split_first.deed.now c.args.at _
    (search rules) (search rules) (search rules) (search rules) (search rules) (search rules) (search rules)
