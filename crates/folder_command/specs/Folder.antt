-- What `folder` does to a folder, and what it says.
use Rattle.std.specs.Prelude.{ℕ, List, [], ◌∷◌, slice_get}
use Rattle.std.specs.Str.{encode_utf8_all}
use Rattle.mh_profile.specs.declared.named_value.NamedValue.{NamedValue}
use Rattle.mh_sequences.specs.declared.mark.Mark.TheVariants.{Cur}
use Rattle.mh_sequences.specs.Runs.{numbers_of}
use Rattle.mh_sequences.specs.Sequences.{Marked}
use Rattle.file_plans.specs.Mailboxes.{Mailbox}
use Rattle.step_plans.specs.Pledges.{Pledge}
use Rattle.step_plans.specs.declared.command_fault.CommandFault.{CommandFault}
use Rattle.sequence_commits.specs.Marking.{marked_by_all}
use Rattle.command_stages.specs.Texts.{Commanded}
use Rattle.command_stages.specs.Works.{Work}
use Rattle.opening_plans.specs.BegunWork.{Homes}
use Rattle.told_folders.specs.Outcomes.{changed_work, looked_work}
use Rattle.told_folders.specs.Plans.{folder_changed, folder_looked}
use Rattle.told_folders.specs.Pledge.{change_pledge, look_pledge}
use Rattle.told_folders.specs.Tasks.{Task}
use Rattle.folder_command.specs.Summary.{summary}
use Rattle.folder_command.specs.declared.job.FolderJob.{FolderJob}

-- the least of the chosen messages is the current one
abbrev pub with_current : List ℕ → Marked → Marked
with_current numbers m = marked_by_all (Cur (slice_get numbers 0) ∷ []) m

-- of a folder these words choose messages, the least of which becomes the current one; its line is said
abbrev pub task_with : List (List ℕ) → FolderJob → Task
task_with specs job = record {
  folder = job.folder;
  specs = specs;
  negation = job.negation;
  becomes = λ listing numbers m. with_current numbers m;
  lines = λ listing m. summary (encode_utf8_all job.folder) (numbers_of listing) m.cur ∷ [];
}

-- without words the folder is only looked at, and its lock isn't taken
abbrev pub folder_by : ℕ → List ℕ → FolderJob → List (List ℕ) → Commanded Unit
folder_by run path job [] = folder_looked run path (task_with [] job)
folder_by run path job (word ∷ words) = folder_changed run path (task_with (word ∷ words) job)

unfoldable pub folder : ℕ → List ℕ → FolderJob → Commanded Unit
folder run path job = folder_by run path job job.specs

-- what it pledges
abbrev pub pledge_by : ℕ → List ℕ → FolderJob → List (List ℕ) → Pledge
pledge_by run path job [] = look_pledge run path (task_with [] job)
pledge_by run path job (word ∷ words) = change_pledge run path (task_with (word ∷ words) job)

-- what it comes to, by the entries of the context, by what is held aside in the folder, and by the mailbox
abbrev pub work_by : List ℕ → FolderJob → List (List ℕ) → List NamedValue → Homes → Mailbox → Work CommandFault
work_by path job [] entries held m = looked_work path entries (task_with [] job) m
work_by path job (word ∷ words) entries held m = changed_work path entries held (task_with (word ∷ words) job) m

unfoldable pub folder_work : List ℕ → FolderJob → List NamedValue → Homes → Mailbox → Work CommandFault
folder_work path job entries held m = work_by path job job.specs entries held m
