use Rattle.std.proofs.Common.{[], List, Result, drop}
use Rattle.std.specs.Prelude.{ℤ, Option}
use Rattle.file_plans.specs.Plan.{Hand}
use Rattle.file_plans.specs.Follows.{State, Follows, by_hand}
use Rattle.step_plans.specs.CommandFaults.{command_cause}
use Rattle.step_plans.specs.declared.command_fault.CommandFault.{CommandFault}
use Rattle.sortm_plans.specs.Keys.{date_key}
use Rattle.sortm_plans.specs.Reading.{keys_read}
use Rattle.sortm_command.proofs.reading.read_dates.Given as goal

abbrev pub invariant-loop-number : goal.invariant-loop-number
invariant-loop-number g l =
    (h : Hand) (z : State) (r : Result (List (Option ℤ)) CommandFault) → Follows l.run command_cause (keys_read (date_key l.field) l.place l.dates (drop l.number-index l.numbers)) (by_hand h (g.F.Files.state l.files)) z r
    → Follows l.run command_cause (keys_read (date_key l.field) l.place [] l.numbers) (by_hand h (g.F.Files.state l.fn.files)) z r
