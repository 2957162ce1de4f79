-- Folders that were begun are let go, one after another.
use Rattle.std.proofs.Common.{◌≡◌, ◌∷◌, ℕ, ◌+◌, ◌<◌, ◌≤◌, List, Result, Ok, Err, refl, ap, drop, get_or, length}
use Rattle.std.specs.Prelude.{map}
use Rattle.std.proofs.lemmas.List.{drop_all}
use Rattle.file_plans.specs.Asking.{attempt_unlock}
use Rattle.file_plans.specs.Follows.{Follows, State}
use Rattle.file_plans.specs.Plan.{lifted, ◌>>=◌}
use Rattle.file_plans.specs.Runs.{OfPlan}
use Rattle.file_plans.proofs.Following.{done, refuses, same_plan}
use Rattle.step_plans.specs.CommandFaults.{command_cause, of_stop}
use Rattle.step_plans.specs.declared.command_fault.CommandFault.{CommandFault}
use Rattle.step_plans.proofs.Rounds.{next}
use Rattle.opening_plans.specs.Ending.{finished}
use Rattle.opening_plans.specs.Opening.{Opened}
use Rattle.refile_plans.specs.Gathering.{all_finished, all_given_up}

module _ (run : ℕ) (l : List Opened) (i : ℕ) where
  pub next_let_go : (o : Opened) {x y : State} {r : Result Unit CommandFault} → i < length l → o ≡ get_or l i o
      → Follows run command_cause (finished o.place >>= λ free. all_finished (map (λ s. s.place) (drop (i + 1) l))) x y r → Follows run command_cause (all_finished (map (λ s. s.place) (drop i l))) x y r
  unfolding all_finished
  next_let_go o lt is f = same_plan _ _ (ap (λ os. all_finished (map (λ s. s.place) os)) (next l i o lt is)) f

  pub all_let_go : {x : State} → length l ≤ i → Follows run command_cause (all_finished (map (λ s. s.place) (drop i l))) x x (Ok tt)
  unfolding all_finished
  all_let_go le = rw (drop_all i l le) done

  module _ (e : CommandFault) where
    pub next_given : (o : Opened) {x y : State} {r : Result Unit CommandFault} → i < length l → o ≡ get_or l i o
        → Follows run command_cause (lifted of_stop (attempt_unlock o.place) >>= λ free. all_given_up (map (λ s. s.place) (drop (i + 1) l)) e) x y r → Follows run command_cause (all_given_up (map (λ s. s.place) (drop i l)) e) x y r
    unfolding all_given_up
    next_given o lt is f = same_plan _ _ (ap (λ os. all_given_up (map (λ s. s.place) os) e) (next l i o lt is)) f

    pub all_given : {x : State} → length l ≤ i → command_cause e ≡ OfPlan → Follows run command_cause (all_given_up (map (λ s. s.place) (drop i l)) e) x x (Err e)
    unfolding all_given_up
    all_given le p = rw (drop_all i l le) (refuses e p)
