use Rattle.sequence_commits.proofs.ToldAll.{told_all}
use Rattle.sequence_commits.proofs.laws.told_by_numbers.Goals as goal

pub returns : goal.returns
returns c = told_all
