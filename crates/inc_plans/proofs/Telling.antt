-- A line that is written.
use Rattle.std.proofs.Common.{◌≡◌, List, ℕ, Result, Ok, Err}
use Rattle.std.specs.Prelude.{IsErr, IsErrAnd}
use Rattle.mh_base.specs.declared.streams.SinkFault.{SinkFault}
use Rattle.file_plans.specs.Asking.{sink_cause}
use Rattle.file_plans.specs.Follows.{State, Follows}
use Rattle.file_plans.specs.Plan.{lifted, say}
use Rattle.file_plans.proofs.Following.{lift_err, lift_ok}
use Rattle.command_stages.proofs.Causes.{sink_same}
use Rattle.step_plans.specs.CommandFaults.{command_cause, of_sink}
use Rattle.step_plans.specs.declared.command_fault.CommandFault.{CommandFault}

pub told_line : (run : ℕ) (line : List ℕ) (x : State) {y : State} → Follows run sink_cause (say line) x y (Ok tt) → Follows run command_cause (lifted of_sink (say line)) x y (Ok tt)
told_line run line x {y = y} f = lift_ok run sink_cause command_cause of_sink (say line) x y tt f

pub told_not : (run : ℕ) (line : List ℕ) (x : State) (e : SinkFault) (r : Result Unit CommandFault) {y : State} → Follows run sink_cause (say line) x y (Err e) → IsErr r × IsErrAnd r (λ k. k ≡ of_sink e) → Follows run command_cause (lifted of_sink (say line)) x y r
told_not run line x e (Ok u) f is = absurd (let no = is.0 in cc (no))
told_not run line x e (Err k) {y = y} f is = lift_err run sink_cause command_cause of_sink (say line) x y e k sink_same is.1 f
