use Rattle.step_plans.proofs.Bases.{base_law, stays_law}
use Rattle.step_plans.proofs.Crashing.{crash_law}
use Rattle.step_plans.proofs.CutCommits.{failed_law, crashed_law}
use Rattle.step_plans.proofs.Settling.{committed_law, settled_law}
use Rattle.step_plans.proofs.laws.lock_order.Goals as goal

pub returns : goal.returns
returns c = record {
  base = base_law;
  committed = committed_law;
  only_commits = stays_law;
  stays = settled_law;
  crash = crash_law;
  failed = failed_law;
  crashed = crashed_law;
}
