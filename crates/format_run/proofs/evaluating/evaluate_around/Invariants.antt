use Rattle.std.proofs.Common.{◌≡◌, length}
use Rattle.format_run.specs.Stepping.{evaluated_around}
use Rattle.format_run.proofs.evaluating.evaluate_around.Given as goal

abbrev pub invariant-loop-function : goal.invariant-loop-function
invariant-loop-function l =
    evaluated_around l.view l.width l.rest (record { state = l.state; outcome = l.outcome }) ≡ evaluated_around l.view l.width l.around (record { state = l.initial.state; outcome = l.fn.inner })

abbrev pub decreases-loop-function : goal.decreases-loop-function
decreases-loop-function l = length l.rest
