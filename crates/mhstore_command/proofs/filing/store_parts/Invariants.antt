use Rattle.std.proofs.Common.{◌≡◌, Result, drop, map}
use Rattle.file_plans.specs.Follows.{Follows, State, by_out}
use Rattle.step_plans.specs.CommandFaults.{command_cause}
use Rattle.step_plans.specs.declared.command_fault.CommandFault.{CommandFault}
use Rattle.part_rows.specs.FileNames.{file_of}
use Rattle.part_rows.specs.PartViews.{view_of}
use Rattle.mhstore_plans.specs.Storing.{all_filed}
use Rattle.mhstore_command.proofs.filing.store_parts.Given as goal

abbrev pub invariant-loop-part : goal.invariant-loop-part
invariant-loop-part g l =
    (l.hand.run ≡ l.fn.hand.run) × (l.hand.mail ≡ l.fn.hand.mail)
    × ((z : State) (r : Result Unit CommandFault)
    → Follows l.fn.hand.run command_cause (all_filed l.fn.hand.run l.job (map (λ p. file_of l.number (view_of l.message p.now)) (drop l.part-index l.parts))) (by_out l.hand.kept (g.F.Files.state l.files) (g.O.Sink.state l.out)) z r
    → Follows l.fn.hand.run command_cause (all_filed l.fn.hand.run l.job (map (λ p. file_of l.number (view_of l.message p.now)) l.parts)) (by_out l.fn.hand.kept (g.F.Files.state l.fn.files) (g.O.Sink.state l.fn.out)) z r)
