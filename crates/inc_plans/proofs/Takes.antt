-- One message after another.
use Rattle.std.proofs.Common.{◌≡◌, ◌∷◌, [], ◌+◌, ℕ, Bool, List, Result, Ok, Err, length, arith, refl}
use Rattle.std.specs.Prelude.{IsErr, IsErrAnd}
use Rattle.folder_files.specs.declared.place.Place.{Place}
use Rattle.file_plans.specs.Follows.{State, Follows}
use Rattle.file_plans.proofs.Following.{done, go, stop}
use Rattle.step_plans.specs.CommandFaults.{command_cause}
use Rattle.step_plans.specs.declared.command_fault.CommandFault.{CommandFault}
use Rattle.inc_plans.specs.Intake.{all_taken, with_number}
use Rattle.inc_plans.specs.Taking.{message_taken, Telling}
use Rattle.inc_plans.specs.declared.taken.Taken.{Taken}

module _ (run : ℕ) (folder : List ℕ) (p : Place) (telling : Telling) (taken : Taken) (left : List (List ℕ)) where
  -- the next is taken in, and then the others
  pub take_next : (message : List ℕ) (more : List (List ℕ)) → left ≡ message ∷ more → (n : ℕ) (now : Taken) → now ≡ with_number n taken → (x y z : State) (r : Result Taken CommandFault)
      → Follows run command_cause (message_taken run folder p telling taken.numbers taken.highest message) x y (Ok n) → Follows run command_cause (all_taken run folder p telling now more) y z r → Follows run command_cause (all_taken run folder p telling taken left) x z r
  unfolding all_taken
  take_next message more is n now same x y z r f g = rw is (go _ f (rw same at g))

  pub take_stops : (message : List ℕ) (more : List (List ℕ)) → left ≡ message ∷ more → (x y : State) (e : CommandFault) (r : Result Taken CommandFault)
      → Follows run command_cause (message_taken run folder p telling taken.numbers taken.highest message) x y (Err e) → IsErr r × IsErrAnd r (λ k. k ≡ e) → Follows run command_cause (all_taken run folder p telling taken left) x y r
  unfolding all_taken
  take_stops message more is x y e r f failed = rw is (stop _ f failed)

  pub take_none : left ≡ [] → (x : State) → Follows run command_cause (all_taken run folder p telling taken left) x x (Ok taken)
  unfolding all_taken
  take_none is x = rw is done

-- what is left of messages that are gone through
pub one_less : (n m : ℕ) (left more : List (List ℕ)) (message : List ℕ) → left ≡ message ∷ more → m + 1 ≡ n → n ≡ length left → m ≡ length more
one_less n m left more message is step all = let l : length left ≡ length more + 1 = (rw is (omega arith)) in omega (arith, step, all, l)

pub none_left : (n : ℕ) (left : List (List ℕ)) → n ≡ 0 → n ≡ length left → left ≡ []
none_left n [] zero_ all = refl
none_left n (message ∷ more) zero_ all = absurd (omega (arith, zero_, all))
