use Rattle.sequence_commits.proofs.ToldAlike.{told_alike}
use Rattle.sequence_commits.proofs.laws.told_alike.Goals as goal

pub returns : goal.returns
returns c = told_alike
