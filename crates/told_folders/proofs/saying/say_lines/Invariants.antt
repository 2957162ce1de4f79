use Rattle.std.proofs.Common.{ℕ, Result, drop}
use Rattle.folder_files.specs.Story.{FilesState}
use Rattle.file_plans.specs.Plan.{Hand}
use Rattle.file_plans.specs.Follows.{State, Follows, by_out}
use Rattle.step_plans.specs.CommandFaults.{command_cause}
use Rattle.step_plans.specs.declared.command_fault.CommandFault.{CommandFault}
use Rattle.told_folders.specs.Plans.{lines_said}
use Rattle.told_folders.proofs.saying.say_lines.Given as goal

abbrev pub invariant-loop-line : goal.invariant-loop-line
invariant-loop-line g l = (run : ℕ) (h : Hand) (f : FilesState) (z : State) (r : Result Unit CommandFault) →
    Follows run command_cause (lines_said (drop l.line-index l.lines)) (by_out h f (g.O.Sink.state l.out)) z r →
    Follows run command_cause (lines_said l.lines) (by_out h f (g.O.Sink.state l.fn.out)) z r
