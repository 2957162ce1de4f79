-- Results that are a value, or want of memory; and what a call promises.
use Rattle.std.specs.Prelude.{◌≡◌, ◌<◌, ◌^◌, ℕ, List, map, Result, Ok, Err}
use Rattle.mh_sequences.specs.declared.mark.Mark.{Mark}
use Rattle.mh_sequences.specs.declared.run.Run.{Run}
use Rattle.mh_sequences.specs.Sequences.{Marked}
use Rattle.file_plans.specs.Follows.{State}
use Rattle.step_plans.specs.Promises.{Promises}
use Rattle.step_plans.specs.declared.command_fault.CommandFault.{CommandFault}
use Rattle.sequence_commits.specs.PlainMarks.{plain_mark}
use Rattle.sequence_commits.specs.RunsOfAll.{set_among}
use Rattle.command_stages.specs.Values.{IsErrorOf}
use Rattle.mark_command.specs.Mark.{pledge_by}
use Rattle.mark_command.specs.Marking.{marks_for}
use Rattle.mark_command.specs.declared.job.MarkAct.{MarkAct}
use Rattle.mark_command.specs.declared.job.MarkJob.{MarkJob}

-- the sequences are this value, or it is this refusal, or there was not enough memory
abbrev pub AreValue : Result Marked CommandFault → Result Marked CommandFault → Type 0
AreValue value (Ok m) = value ≡ Ok m
AreValue value (Err e) = IsErrorOf value e

-- the marks are those on the chosen numbers, whatever room their sets have; or these were refused so, or there was not
-- enough memory
abbrev pub AreMarks : MarkJob → MarkAct → List Run → Result (List ℕ) CommandFault → Result (List Mark) CommandFault
    → Type 0
AreMarks job a listing value (Ok marks) =
    (numbers : List ℕ) × (value ≡ Ok numbers) × (map plain_mark marks ≡ marks_for job a listing (set_among numbers))
AreMarks job a listing value (Err e) = IsErrorOf value e

-- what a call promises of its steps, by what it is to do
abbrev pub PromisesSteps : ℕ → List ℕ → MarkJob → State → State → Type 0
PromisesSteps run path job x y = run < 2 ^ 128 → Promises (pledge_by run path job job.act) x y
