-- `mark` promises what its pledge says.
use Rattle.std.proofs.Common.{◌<◌, ◌^◌, ℕ, List, Option, None, Some, Result}
use Rattle.file_plans.specs.Follows.{Follows, State}
use Rattle.file_plans.specs.Plan.{Hand}
use Rattle.file_plans.specs.Rules.{IfOkay, Keeps}
use Rattle.file_plans.specs.Runs.{Deed as Done}
use Rattle.file_plans.proofs.Acting.{acts}
use Rattle.step_plans.specs.CommandFaults.{command_cause}
use Rattle.step_plans.specs.Promises.{Promises}
use Rattle.step_plans.specs.declared.command_fault.CommandFault.{CommandFault}
use Rattle.step_plans.proofs.Going.{Sound}
use Rattle.step_plans.proofs.Ruling.{rules_of}
use Rattle.opening_plans.proofs.EndedKept.{Still}
use Rattle.told_folders.proofs.ChangesPledged.{changes_keep, changes_promise, looks_keep, looks_promise}
use Rattle.mark_command.specs.Mark.{look_task, mark, mark_by_act, mark_task, pledge_by}
use Rattle.mark_command.specs.declared.job.MarkAct.{MarkAct}
use Rattle.mark_command.specs.declared.job.MarkJob.{MarkJob}

by_act : (run : ℕ) (few : run < 2 ^ 128) (path : List ℕ) (job : MarkJob) (act : Option MarkAct) (x y : State) (result : Result Unit CommandFault)
    → Follows run command_cause (mark_by_act run path job act) x y result → Promises (pledge_by run path job act) x y
by_act run few path job None x y result f = looks_promise run few path (look_task job) x y result f
by_act run few path job (Some a) x y result f = changes_promise run few path (mark_task job a) x y result f

-- it keeps the rules of its pledge, whatever its run has done before
pub mark_keeps : (run : ℕ) (few : run < 2 ^ 128) (path : List ℕ) (job : MarkJob) (act : Option MarkAct) (past : List Done) (h : Hand) → Sound (pledge_by run path job act) (acts past) h
    → Keeps (rules_of (pledge_by run path job act)) past h (mark_by_act run path job act) (IfOkay (Still (acts past)))
mark_keeps run few path job None past h sound = looks_keep run few path (look_task job) past h sound
mark_keeps run few path job (Some a) past h sound = changes_keep run few path (mark_task job a) past h sound

pub mark_promises : (run : ℕ) (few : run < 2 ^ 128) (path : List ℕ) (job : MarkJob) (x y : State) (result : Result Unit CommandFault)
    → Follows run command_cause (mark run path job) x y result → Promises (pledge_by run path job job.act) x y
unfolding mark
mark_promises run few path job x y result f = by_act run few path job job.act x y result f
