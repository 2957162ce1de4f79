-- A lock in so many tries, and its end.
use Rattle.std.proofs.Common.{◌<◌, ◌≤◌, ◌+◌, ◌-◌, ℕ, Result, Ok, Err}
use Rattle.folder_files.specs.declared.place.Place.{Place}
use Rattle.file_plans.specs.Asking.{lock, unlock}
use Rattle.file_plans.specs.Plan.{Return, ◌>>=◌, bind, ask, lifted}
use Rattle.file_plans.specs.Follows.{State, Follows}
use Rattle.step_plans.specs.Locking.{locked_by, locked, let_go}
use Rattle.step_plans.specs.PlanFaults.{plan_cause, of_stop}
use Rattle.step_plans.specs.declared.fault.PlanFault.{PlanFault}
use Rattle.step_plans.specs.declared.fault.PlanFault.TheVariants as fault
use Rattle.step_plans.proofs.Rounds.{one_fewer, none_more}

pub no_tries : (run : ℕ) (p : Place) (n i : ℕ) {x y : State} {r : Result Unit PlanFault} → n ≤ i → Follows run plan_cause (Return (Err (fault.Locked p))) x y r → Follows run plan_cause (locked p (n - i)) x y r
unfolding locked
no_tries run p n i h f = rw (none_more n i h) f

pub one_try : (run : ℕ) (p : Place) (n i : ℕ) {x y : State} {r : Result Unit PlanFault} → i < n → Follows run plan_cause (lifted of_stop (lock p) >>= λ l. locked_by p l (locked p (n - (i + 1)))) x y r → Follows run plan_cause (locked p (n - i)) x y r
unfolding locked
one_try run p n i h f = rw (one_fewer n i h) f

pub lets_go : (run : ℕ) (p : Place) {x y : State} {r : Result Unit PlanFault} → Follows run plan_cause (lifted of_stop (unlock p) >>= λ u. Return (Ok tt)) x y r → Follows run plan_cause (let_go p) x y r
unfolding let_go unlock lifted bind ask ◌>>=◌
lets_go run p f = f
