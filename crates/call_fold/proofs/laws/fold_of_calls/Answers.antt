use Rattle.command_pledges.proofs.Pledging.{pledge_run}
use Rattle.commit_fold.proofs.Pledged.{fold_of_pledges}
use Rattle.call_fold.specs.Calls.{pledges_of}
use Rattle.call_fold.proofs.laws.fold_of_calls.Goals as goal

pub returns : goal.returns
returns c = λ start past p name calls st l careful fresh is calls_do. fold_of_pledges start past p name (pledges_of calls) st l careful fresh is
    (λ run. (pledge_run run (calls run).caller (calls run).words (calls run).profile (calls run).context, calls_do run))
