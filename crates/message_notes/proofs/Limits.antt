-- Lines and the bytes behind them, where they are too long or not.
use Rattle.std.proofs.Common.{◌≡◌, ◌≤◌, ◌<◌, ℕ, true, false, List, length, nat_lt, refl, ap, arith}
use Rattle.std.specs.Prelude.{Ok, Err}
use Rattle.std.proofs.lemmas.Bool.Decides.{nat_tests}
use Rattle.file_plans.specs.Follows.{Follows, State}
use Rattle.file_plans.specs.Plan.{Return}
use Rattle.file_plans.proofs.Following.{done, refuses, same_plan}
use Rattle.step_plans.specs.ContextCommit.{LIMIT_BYTES}
use Rattle.step_plans.specs.PlanFaults.{plan_cause}
use Rattle.step_plans.specs.declared.fault.PlanFault.TheVariants as fault
use Rattle.message_moves.specs.Moving.{readable}

pub too_long : (run : ℕ) (x : State) (b new : List ℕ) (n : ℕ) → new ≡ b → n ≡ length new → 67108864 < n → Follows run plan_cause (Return (readable b)) x x (Err (fault.TooLarge n))
too_long run x b new n same is more = rw (is, same) (same_plan _ _ (ap (λ r. Return r) long) (refuses (fault.TooLarge (length b)) refl))
  where
    over : nat_lt LIMIT_BYTES (length b) ≡ true
    over = let l : 67108864 < length b = rw (← same, ← is) more in grind (arith, nat_tests, l)

    long : readable b ≡ Err (fault.TooLarge (length b))
    long = rw over refl

pub not_long : (run : ℕ) (x : State) (b new : List ℕ) (n : ℕ) → new ≡ b → n ≡ length new → n ≤ 67108864 → Follows run plan_cause (Return (readable b)) x x (Ok new)
not_long run x b new n same is few = rw same (same_plan _ _ (ap (λ r. Return r) short) done)
  where
    under : nat_lt LIMIT_BYTES (length b) ≡ false
    under = let l : length b ≤ 67108864 = rw (← same, ← is) few in grind (arith, nat_tests, l)

    short : readable b ≡ Ok b
    short = rw under refl
