use Rattle.mh_profile.proofs.FieldEntries.{entry_valid}
use Rattle.mh_profile.proofs.lines.read_entry.Goals as goal

pub returns-in_ok-entry-in-Some-clause-valid : goal.returns-in_ok-entry-in-Some-clause-valid
returns-in_ok-entry-in-Some-clause-valid c = rw c.in_ok-entry-in-Some.ensures (entry_valid c.args.line.now _ c.in-Some.ensures)
