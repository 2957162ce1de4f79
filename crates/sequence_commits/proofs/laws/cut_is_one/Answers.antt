use Rattle.sequence_commits.proofs.CutOnce.{cut_valid, cut_is, cuts}
use Rattle.sequence_commits.proofs.laws.cut_is_one.Goals as goal

pub returns : goal.returns
returns c = record { valid = cut_valid; cut = cut_is; alone = cuts }
