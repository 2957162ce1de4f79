use Rattle.commit_fold.proofs.Folding.{fold_of_commits, fold_of_marks, fold_of_replacing}
use Rattle.commit_fold.proofs.laws.fold_of_commits.Goals as goal

pub returns : goal.returns
returns c = record { texts = fold_of_commits; marks = fold_of_marks; replacing = fold_of_replacing }
