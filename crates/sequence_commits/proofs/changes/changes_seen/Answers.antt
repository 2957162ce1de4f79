use Rattle.mh_sequences.specs.Reading.{suffix}
use Rattle.step_plans.specs.ContextCommit.{AreChanges}
use Rattle.sequence_commits.proofs.ChangesTo.{are_changes, holds_of}
use Rattle.sequence_commits.proofs.changes.changes_seen.Goals as goal

pub returns-in-Some-clause-valid : goal.returns-in-Some-clause-valid
returns-in-Some-clause-valid c = holds_of AreChanges _ c.changes_among.result (are_changes (suffix c.args.folder.now) c.args.kept.now _ c.requires) c.changes_among.ensures

pub returns-in-None-clause-valid : goal.returns-in-None-clause-valid
returns-in-None-clause-valid c = holds_of AreChanges _ c.changes_among-in-None-2.result (are_changes (suffix c.args.folder.now) c.args.kept.now _ c.requires) c.changes_among-in-None-2.ensures
