use Rattle.sequence_commits.proofs.MarkedOnce.{marked_valid, marked_is, marks}
use Rattle.sequence_commits.proofs.laws.mark_is_one.Goals as goal

pub returns : goal.returns
returns c = record { valid = marked_valid; marked = marked_is; alone = marks }
