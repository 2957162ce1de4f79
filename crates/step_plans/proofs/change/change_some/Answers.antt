use Rattle.step_plans.proofs.ContextChanges.{first_changed}
use Rattle.step_plans.proofs.change.change_some.Goals as goal

pub returns-then-is_empty-clause-changed : goal.returns-then-is_empty-clause-changed
returns-then-is_empty-clause-changed c = first_changed c.args.changes.now c.index-changes-0.result c.args.entries.now c.change_one.new.entries c.requires.some c.index-changes-0.is c.in_ok-change_one.ensures
