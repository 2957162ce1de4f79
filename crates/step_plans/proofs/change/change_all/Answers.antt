use Rattle.std.proofs.Common.{◌∙◌, subst, sym}
use Rattle.step_plans.specs.ContextCommit.{AreChanges}
use Rattle.step_plans.proofs.ContextChanges.{changes_left, no_change}
use Rattle.step_plans.proofs.change.change_all.Goals as goal

pub change_some-requires-clause-changes : goal.change_some-requires-clause-changes
change_some-requires-clause-changes c = subst AreChanges (sym c.split_at.ensures.back) (changes_left c.args.changes.now c.loop-done.done c.requires)

pub returns : goal.returns
returns c = sym (no_change c.args.changes.now c.loop-done.done c.loop-done.entries c.loop-done-test.false) ∙ c.loop-done.invariant.0
