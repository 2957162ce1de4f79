use Rattle.std.proofs.Common.{ℕ, List, Result, ◌-◌}
use Rattle.mh_base.specs.Streams.{SinkState}
use Rattle.folder_files.specs.Story.{FilesState}
use Rattle.file_plans.specs.Plan.{Hand}
use Rattle.file_plans.specs.Follows.{State, Follows, all}
use Rattle.step_plans.specs.CommandFaults.{command_cause}
use Rattle.step_plans.specs.declared.command_fault.CommandFault.{CommandFault}
use Rattle.draft_files.specs.Hearing.{PIECES, all_heard, heard_behind}
use Rattle.draft_files.proofs.hearing.hear_all.Given as goal

abbrev pub invariant-loop-count : goal.invariant-loop-count
invariant-loop-count g l = (run : ℕ) (h : Hand) (f : FilesState) (o : SinkState) (z : State) (r : Result (List ℕ) CommandFault) →
    Follows run command_cause (heard_behind (PIECES - l.count) l.bytes) (all h f (g.I.Source.state l.input) o) z r →
    Follows run command_cause all_heard (all h f (g.I.Source.state l.fn.input) o) z r
