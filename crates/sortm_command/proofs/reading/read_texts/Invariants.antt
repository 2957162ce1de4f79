use Rattle.std.proofs.Common.{[], ℕ, List, Result, drop}
use Rattle.file_plans.specs.Plan.{Hand}
use Rattle.file_plans.specs.Follows.{State, Follows, by_hand}
use Rattle.step_plans.specs.CommandFaults.{command_cause}
use Rattle.step_plans.specs.declared.command_fault.CommandFault.{CommandFault}
use Rattle.sortm_plans.specs.Keys.{text_key}
use Rattle.sortm_plans.specs.Reading.{keys_read}
use Rattle.sortm_command.proofs.reading.read_texts.Given as goal

abbrev pub invariant-loop-number : goal.invariant-loop-number
invariant-loop-number g l =
    (h : Hand) (z : State) (r : Result (List (List ℕ)) CommandFault) → Follows l.run command_cause (keys_read (text_key l.field) l.place l.texts (drop l.number-index l.numbers)) (by_hand h (g.F.Files.state l.files)) z r
    → Follows l.run command_cause (keys_read (text_key l.field) l.place [] l.numbers) (by_hand h (g.F.Files.state l.fn.files)) z r
