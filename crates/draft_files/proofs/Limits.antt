-- A text that is within the limit, or not, decides how a plan goes on.
use Rattle.std.proofs.Common.{◌≡◌, ℕ, Bool, true, false, List, Result, Ok, Err, refl, sym, length}
use Rattle.std.specs.Prelude.{IsErr, IsErrAnd, nat_lt, if◌then◌else◌}
use Rattle.file_plans.specs.Follows.{Follows, State}
use Rattle.file_plans.specs.Plan.{Plan, Return, ◌>>=◌}
use Rattle.step_plans.specs.CommandFaults.{command_cause}
use Rattle.step_plans.specs.ContextCommit.{LIMIT_BYTES}
use Rattle.step_plans.specs.declared.command_fault.CommandFault.{CommandFault}
use Rattle.command_stages.specs.Texts.{too_large}
use Rattle.command_stages.proofs.Values.{value_on, value_off}
use Rattle.command_stages.specs.Values.{IsErrorOf}
use Rattle.draft_files.specs.Limits.{within_limit}

same_error : (e f : CommandFault) → ◌≡◌ {A = Result (List ℕ) CommandFault} (Err e) (Err f) → e ≡ f
same_error e f is = cc

error_is : (text : List ℕ) (e : CommandFault) → Err e ≡ within_limit text → IsErrorOf (within_limit text) e
error_is text e is = go (nat_lt LIMIT_BYTES (length text)) is
  where
    go : (b : Bool) → ◌≡◌ {A = Result (List ℕ) CommandFault} (Err e) (if b then Err (too_large (length text)) else Ok text) → IsErrorOf (if b then Err (too_large (length text)) else Ok text) e
    go true is = rw (same_error e (too_large (length text)) is) refl
    go false is = absurd (cc (is))

module _ {B : Type 0} {run : ℕ} (k : List ℕ → Plan (Result B CommandFault)) {x : State} where
  pub limit_on : {y : State} {r : Result B CommandFault} (text more : List ℕ) → Ok more ≡ within_limit text → Follows run command_cause (k more) x y r → Follows run command_cause (Return (within_limit text) >>= k) x y r
  limit_on text more is f = value_on k (within_limit text) more (sym is) f

  pub limit_off : (text : List ℕ) (e : CommandFault) (r : Result B CommandFault) → Err e ≡ within_limit text → IsErr r × IsErrAnd r (λ f. f ≡ e) → Follows run command_cause (Return (within_limit text) >>= k) x x r
  limit_off text e r is err = value_off k (within_limit text) e r (error_is text e is) err
