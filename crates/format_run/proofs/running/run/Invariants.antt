use Rattle.std.proofs.Common.{◌≡◌, length}
use Rattle.format_run.specs.Lazy.{meant}
use Rattle.format_run.specs.Running.{run}
use Rattle.format_run.proofs.running.run.Given as goal

abbrev pub invariant-loop-instruction : goal.invariant-loop-instruction
invariant-loop-instruction l = run l.view 0 l.rest (meant l.state) ≡ run l.view 0 l.code (meant l.initial.state)

abbrev pub decreases-loop-instruction : goal.decreases-loop-instruction
decreases-loop-instruction l = length l.rest
