-- Items of a list, one after another.
use Rattle.std.proofs.Common.{◌≡◌, ◌++◌, ◌∷◌, ◌+◌, ◌<◌, ◌≤◌, ◌==◌, ℕ, suc, Bool, true, false, List, [], Result, Ok, Err, ap, arith, drop, get_or, length}
use Rattle.std.proofs.lemmas.Bool.Decides.{Decides-eqb}
use Rattle.std.proofs.lemmas.List.{drop_all}
use Rattle.folder_files.specs.declared.place.Place.{Place}
use Rattle.folder_files.specs.declared.refusal.Refusal.TheVariants as refusal
use Rattle.file_plans.specs.Plan.{Return, ◌>>=◌}
use Rattle.file_plans.specs.Follows.{State, Follows}
use Rattle.file_plans.proofs.Following.{done, same_plan}
use Rattle.step_plans.specs.CommandFaults.{command_cause}
use Rattle.step_plans.specs.declared.command_fault.CommandFault.{CommandFault}
use Rattle.step_plans.specs.declared.command_fault.CommandFault.TheVariants as fault
use Rattle.step_plans.proofs.Rounds.{next}
use Rattle.pick_expr.specs.declared.expr.Expr.{Expr}
use Rattle.pick_plans.specs.Lines.{lines_for}
use Rattle.pick_plans.specs.Pick.{said_if, unless_none}
use Rattle.pick_plans.specs.Testing.{all_tested, kept_if, one_tested}

-- messages are tested
pub turn : (run : ℕ) (place : Place) (expr : Expr) (found l : List ℕ) (i n : ℕ) (x y : State) (r : Result (List ℕ) CommandFault) → i < length l → n ≡ get_or l i n
    → Follows run command_cause (one_tested place expr n >>= λ matches. all_tested place expr (found ++ kept_if matches n) (drop (i + 1) l)) x y r → Follows run command_cause (all_tested place expr found (drop i l)) x y r
unfolding all_tested
turn run place expr found l i n x y r h is f = same_plan _ _ (ap (all_tested place expr found) (next l i n h is)) f

pub end : (run : ℕ) (place : Place) (expr : Expr) (found l : List ℕ) (i : ℕ) (x : State) → length l ≤ i → Follows run command_cause (all_tested place expr found (drop i l)) x x (Ok found)
unfolding all_tested
end run place expr found l i x h = rw (drop_all i l h) done

no_first : (n : ℕ) → (suc n == 0) ≡ true → ⊥
no_first n e = let z : suc n ≡ 0 = (Decides-eqb (suc n) 0).0 e in omega (arith, z)

-- where none was found
pub none_found : (list : Bool) (found : List ℕ) (run : ℕ) (x y : State) (r : Result (List ℕ) CommandFault) → (length found == 0) ≡ true
    → Follows run command_cause (said_if list (lines_for found) >>= (λ told. Return (Err (fault.Refused refusal.NoMatch)))) x y r → Follows run command_cause (unless_none list found) x y r
unfolding unless_none
none_found list [] run x y r e f = f
none_found list (n ∷ ns) run x y r e f = absurd (no_first (length ns) e)

pub some_there : (list : Bool) (found : List ℕ) (run : ℕ) (x : State) → (length found == 0) ≡ false → Follows run command_cause (unless_none list found) x x (Ok found)
unfolding unless_none
some_there list [] run x e = absurd (cc (e))
some_there list (n ∷ ns) run x e = done
