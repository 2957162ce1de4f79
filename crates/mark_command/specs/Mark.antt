-- What `mark` does to the sequences of a folder, and what it says.
use Rattle.std.specs.Prelude.{ℕ, Bool, true, false, List, [], Option, None, Some}
use Rattle.mh_profile.specs.declared.named_value.NamedValue.{NamedValue}
use Rattle.file_plans.specs.Mailboxes.{Mailbox}
use Rattle.step_plans.specs.Pledges.{Pledge}
use Rattle.step_plans.specs.declared.command_fault.CommandFault.{CommandFault}
use Rattle.command_stages.specs.Texts.{Commanded}
use Rattle.command_stages.specs.Works.{Work}
use Rattle.opening_plans.specs.BegunWork.{Homes}
use Rattle.told_folders.specs.Outcomes.{changed_work, looked_work}
use Rattle.told_folders.specs.Plans.{folder_changed, folder_looked}
use Rattle.told_folders.specs.Pledge.{change_pledge, look_pledge}
use Rattle.told_folders.specs.Tasks.{Task}
use Rattle.mark_command.specs.Lines.{lines_for}
use Rattle.mark_command.specs.Marking.{marked_for}
use Rattle.mark_command.specs.declared.job.MarkAct.{MarkAct}
use Rattle.mark_command.specs.declared.job.MarkJob.{MarkJob}

-- these lines, where a job lists
abbrev pub lines_if : Bool → List (List ℕ) → List (List ℕ)
lines_if true lines = lines
lines_if false lines = []

-- the marks are set on the messages that the words choose; where the job lists, the sequences are listed then
abbrev pub mark_task : MarkJob → MarkAct → Task
mark_task job a = record {
  folder = job.folder;
  specs = job.specs;
  negation = job.negation;
  becomes = marked_for job a;
  lines = λ listing m. lines_if job.list (lines_for job.names m);
}

-- the sequences stay as they are, and are listed
abbrev pub look_task : MarkJob → Task
look_task job = record {
  folder = job.folder;
  specs = job.specs;
  negation = job.negation;
  becomes = λ listing numbers m. m;
  lines = λ listing m. lines_for job.names m;
}

-- `mark`, by what is to be done; one that only lists takes no lock
abbrev pub mark_by_act : ℕ → List ℕ → MarkJob → Option MarkAct → Commanded Unit
mark_by_act run path job None = folder_looked run path (look_task job)
mark_by_act run path job (Some a) = folder_changed run path (mark_task job a)

unfoldable pub mark : ℕ → List ℕ → MarkJob → Commanded Unit
mark run path job = mark_by_act run path job job.act

-- what it pledges
abbrev pub pledge_by : ℕ → List ℕ → MarkJob → Option MarkAct → Pledge
pledge_by run path job None = look_pledge run path (look_task job)
pledge_by run path job (Some a) = change_pledge run path (mark_task job a)

-- what it comes to, by the entries of the context, by what is held aside in the folder, and by the mailbox
abbrev pub work_by : List ℕ → MarkJob → Option MarkAct → List NamedValue → Homes → Mailbox → Work CommandFault
work_by path job None entries held m = looked_work path entries (look_task job) m
work_by path job (Some a) entries held m = changed_work path entries held (mark_task job a) m

unfoldable pub mark_work : List ℕ → MarkJob → List NamedValue → Homes → Mailbox → Work CommandFault
mark_work path job entries held m = work_by path job job.act entries held m
