-- How parts of the plan end.
use Rattle.std.proofs.Common.{◌≡◌, ℕ, Bool, true, false, List, length, refl}
use Rattle.std.specs.Prelude.{Result, Ok, Err, IsErr, IsErrAnd, nat_lt, if◌then◌else◌}
use Rattle.mh_base.specs.declared.streams.SinkFault.{SinkFault}
use Rattle.file_plans.specs.Asking.{sink_cause}
use Rattle.file_plans.specs.Follows.{Follows, State}
use Rattle.file_plans.specs.Plan.{Return, lifted, say}
use Rattle.file_plans.proofs.Following.{done, lift_err, refuses}
use Rattle.step_plans.specs.CommandFaults.{command_cause, of_sink}
use Rattle.step_plans.specs.ContextCommit.{LIMIT_BYTES}
use Rattle.step_plans.specs.declared.command_fault.CommandFault.{CommandFault}
use Rattle.command_stages.specs.Texts.{too_large}
use Rattle.command_stages.proofs.Causes.{sink_same}
use Rattle.draft_files.specs.Limits.{within_limit}

-- a message that is within the limit, or not
pub limit_ends : (run : ℕ) (text : List ℕ) (x : State) (r : Result (List ℕ) CommandFault) → r ≡ within_limit text → Follows run command_cause (Return (within_limit text)) x x r
limit_ends run text x r is = rw is (go (nat_lt LIMIT_BYTES (length text)))
  where
    limited : Bool → Result (List ℕ) CommandFault
    limited b = if b then Err (too_large (length text)) else Ok text

    go : (b : Bool) → Follows run command_cause (Return (limited b)) x x (limited b)
    go true = refuses _ refl
    go false = done

-- the output failed
pub said_off : (run : ℕ) (piece : List ℕ) (x y : State) (e : SinkFault) (r : Result Unit CommandFault) → Follows run sink_cause (say piece) x y (Err e) → IsErr r × IsErrAnd r (λ f. f ≡ of_sink e) → Follows run command_cause (lifted of_sink (say piece)) x y r
said_off run piece x y e (Ok u) f is = absurd (let no = is.0 in cc)
said_off run piece x y e (Err fault) f is = lift_err _ _ _ _ _ _ _ _ _ sink_same is.1 f
