use Rattle.std.proofs.Common.{◌≡◌, ◌≤◌, Result, length}
use Rattle.std.specs.Vec.Iter.{into_iter_items, into_iter_len}
use Rattle.file_plans.specs.Follows.{State, Follows, by_out}
use Rattle.step_plans.specs.CommandFaults.{command_cause}
use Rattle.step_plans.specs.declared.command_fault.CommandFault.{CommandFault}
use Rattle.inc_plans.specs.Intake.{all_taken}
use Rattle.inc_plans.specs.Targets.{told_by}
use Rattle.inc_plans.specs.declared.taken.Taken.{Taken}
use Rattle.inc_command.proofs.intake.take_all.Given as goal

abbrev pub invariant-loop-message : goal.invariant-loop-message
invariant-loop-message g l =
    (goal.iterator-loop-message g).can_next l.message-iterator
    × (goal.iterator-loop-message g).is_finite l.message-iterator
    × (l.taken.highest ≤ 999999)
    × (l.hand.run ≡ l.fn.hand.run) × (l.hand.mail ≡ l.fn.hand.mail)
    × (into_iter_len l.message-iterator ≡ length (into_iter_items l.message-iterator))
    × ((z : State) (r : Result Taken CommandFault) → Follows l.fn.hand.run command_cause (all_taken l.fn.hand.run l.target.folder.now l.target.place.now (told_by l.target) l.taken (into_iter_items l.message-iterator)) (by_out l.hand.kept (g.F.Files.state l.files) (g.O.Sink.state l.out)) z r
    → Follows l.fn.hand.run command_cause (all_taken l.fn.hand.run l.target.folder.now l.target.place.now (told_by l.target) l.fn.first l.fn.messages) (by_out l.fn.hand.kept (g.F.Files.state l.fn.files) (g.O.Sink.state l.fn.out)) z r)
