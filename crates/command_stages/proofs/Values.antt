-- Values that decide how a plan goes on.
use Rattle.std.proofs.Common.{◌≡◌, ℕ, List, refl}
use Rattle.std.specs.Prelude.{Result, Ok, Err, IsErr, IsErrAnd}
use Rattle.file_plans.specs.Plan.{Hand, Plan, Return, Recall, bind, after, ◌>>=◌}
use Rattle.file_plans.specs.Follows.{State, Follows}
use Rattle.file_plans.proofs.Following.{no_room_at, recalled, refuses}
use Rattle.step_plans.specs.CommandFaults.{command_cause}
use Rattle.step_plans.specs.declared.command_fault.CommandFault.{CommandFault}
use Rattle.step_plans.specs.declared.command_fault.CommandFault.TheVariants as fault
use Rattle.command_stages.specs.Chosen.{IsValue}
use Rattle.command_stages.specs.Values.{IsErrorOf}

-- an error of what words choose
pub error_chosen : (value : Result (List ℕ) CommandFault) (e : CommandFault) → IsValue value (Err e) → IsErrorOf value e
error_chosen value (fault.Refused r) is = is
error_chosen value (fault.Faulted w) is = is
error_chosen value (fault.Locked p) is = is
error_chosen value (fault.Meddled p x) is = is
error_chosen value fault.Memory is = is

module _ {A B : Type 0} {run : ℕ} (k : A → Plan (Result B CommandFault)) {x : State} where
  off : (value : Result A CommandFault) (e : CommandFault) → IsErrorOf value e → Follows run command_cause (after k value) x x (Err e)
  off value (fault.Refused r) is = rw is (refuses _ refl)
  off value (fault.Faulted w) is = absurd is
  off value (fault.Locked p) is = absurd is
  off value (fault.Meddled p y) is = absurd is
  off value fault.Memory is = no_room_at refl

  -- the plan goes on with the value
  pub value_on : {y : State} {r : Result B CommandFault} (value : Result A CommandFault) (a : A) → value ≡ Ok a → Follows run command_cause (k a) x y r → Follows run command_cause (Return value >>= k) x y r
  unfolding ◌>>=◌ bind
  value_on value a is f = rw is f

  -- or ends with its refusal
  pub value_off : (value : Result A CommandFault) (e : CommandFault) (r : Result B CommandFault) → IsErrorOf value e → IsErr r × IsErrAnd r (λ f. f ≡ e) → Follows run command_cause (Return value >>= k) x x r
  unfolding ◌>>=◌ bind
  value_off value e (Ok u) is err = absurd (let no = err.0 in cc)
  value_off value e (Err f) is err = rw err.1 (off value e is)

  -- the same of a value that the hand decides
  pub seen_on : {y : State} {r : Result B CommandFault} (value : Hand → Result A CommandFault) (a : A) → value x.hand ≡ Ok a → Follows run command_cause (k a) x y r → Follows run command_cause (Recall (λ h. Return (value h)) >>= k) x y r
  unfolding ◌>>=◌ bind
  seen_on value a is f = recalled (λ h. after k (value h)) (rw is f)

  pub seen_off : (value : Hand → Result A CommandFault) (e : CommandFault) (r : Result B CommandFault) → IsErrorOf (value x.hand) e → IsErr r × IsErrAnd r (λ f. f ≡ e) → Follows run command_cause (Recall (λ h. Return (value h)) >>= k) x x r
  unfolding ◌>>=◌ bind
  seen_off value e (Ok u) is err = absurd (let no = err.0 in cc)
  seen_off value e (Err f) is err = rw err.1 (recalled (λ h. after k (value h)) (off (value x.hand) e is))
