use Rattle.std.proofs.Common.{[], ℕ, List, Result, drop}
use Rattle.file_plans.specs.Plan.{Hand}
use Rattle.file_plans.specs.Follows.{State, Follows, by_hand}
use Rattle.step_plans.specs.CommandFaults.{command_cause}
use Rattle.step_plans.specs.declared.command_fault.CommandFault.{CommandFault}
use Rattle.pick_plans.specs.Testing.{all_tested}
use Rattle.pick_command.proofs.testing.test_all.Given as goal

abbrev pub invariant-loop-number : goal.invariant-loop-number
invariant-loop-number g l = (h : Hand) (z : State) (r : Result (List ℕ) CommandFault) →
    Follows l.run command_cause (all_tested l.place l.expr l.found (drop l.number-index l.numbers)) (by_hand h (g.F.Files.state l.files)) z r →
    Follows l.run command_cause (all_tested l.place l.expr [] l.numbers) (by_hand h (g.F.Files.state l.fn.files)) z r
