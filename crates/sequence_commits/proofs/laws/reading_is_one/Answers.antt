use Rattle.sequence_commits.proofs.ReadOnce.{read_valid, read_is, reads}
use Rattle.sequence_commits.proofs.laws.reading_is_one.Goals as goal

pub returns : goal.returns
returns c = record { valid = read_valid; reading = read_is; alone = reads }
