-- Results that are a value, or want of memory; and what a call promises.
use Rattle.std.specs.Prelude.{◌≡◌, ◌<◌, ◌^◌, ℕ, List, [], ◌∷◌, slice_get, Result, Ok, Err}
use Rattle.mh_sequences.specs.declared.mark.Mark.{Mark}
use Rattle.mh_sequences.specs.declared.mark.Mark.TheVariants.{Cur}
use Rattle.file_plans.specs.Follows.{State}
use Rattle.step_plans.specs.Promises.{Promises}
use Rattle.step_plans.specs.declared.command_fault.CommandFault.{CommandFault}
use Rattle.command_stages.specs.Values.{IsErrorOf}
use Rattle.folder_command.specs.Folder.{pledge_by}
use Rattle.folder_command.specs.declared.job.FolderJob.{FolderJob}

-- the mark of the least of the chosen numbers; or these were refused so, or there was not enough memory
abbrev pub AreCurrent : Result (List ℕ) CommandFault → Result (List Mark) CommandFault → Type 0
AreCurrent value (Ok marks) = (numbers : List ℕ) × (value ≡ Ok numbers) × (marks ≡ Cur (slice_get numbers 0) ∷ [])
AreCurrent value (Err e) = IsErrorOf value e

-- what a call promises of its steps, by whether words choose messages
abbrev pub PromisesSteps : ℕ → List ℕ → FolderJob → State → State → Type 0
PromisesSteps run path job x y = run < 2 ^ 128 → Promises (pledge_by run path job job.specs) x y
