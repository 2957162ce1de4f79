use Rattle.sequence_commits.proofs.ChangesTo.{left_unless}
use Rattle.sequence_commits.proofs.changes.is_left.Goals as goal

pub returns-in_ok-get : goal.returns-in_ok-get
returns-in_ok-get c = left_unless _ _ _ _ _ c.in_ok-get.field-0 c.is_of_folder.ensures c.if-is_of_folder.true c.in_ok-get.ensures c.is_none.ensures
