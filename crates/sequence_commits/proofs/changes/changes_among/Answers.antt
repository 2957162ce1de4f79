use Rattle.sequence_commits.proofs.ChangesTo.{together}
use Rattle.sequence_commits.proofs.changes.changes_among.Goals as goal

pub returns : goal.returns
returns c = together _ _ _ _ _ _ _ c.in_ok-found.ensures c.new-changes.ensures c.in_ok-put_given.ensures (rw (c.as_slice.ensures, c.in_ok-ending.ensures) at c.in_ok-put_all_gone.ensures)
