use Rattle.std.proofs.Common.{◌≡◌, Result, drop}
use Rattle.file_plans.specs.Follows.{Follows, State, by_out}
use Rattle.step_plans.specs.CommandFaults.{command_cause}
use Rattle.step_plans.specs.declared.command_fault.CommandFault.{CommandFault}
use Rattle.mhstore_plans.specs.Storing.{all_stored}
use Rattle.mhstore_command.proofs.storing.store_all.Given as goal

abbrev pub invariant-loop-number : goal.invariant-loop-number
invariant-loop-number g l =
    (l.hand.run ≡ l.fn.hand.run) × (l.hand.mail ≡ l.fn.hand.mail)
    × ((z : State) (r : Result Unit CommandFault)
    → Follows l.fn.hand.run command_cause (all_stored l.fn.hand.run l.job l.place (drop l.number-index l.numbers)) (by_out l.hand.kept (g.F.Files.state l.files) (g.O.Sink.state l.out)) z r
    → Follows l.fn.hand.run command_cause (all_stored l.fn.hand.run l.job l.place l.numbers) (by_out l.fn.hand.kept (g.F.Files.state l.fn.files) (g.O.Sink.state l.fn.out)) z r)
