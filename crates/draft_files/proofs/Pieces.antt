-- The input is heard, piece by piece.
use Rattle.std.proofs.Common.{◌≡◌, ◌<◌, ◌≤◌, ◌+◌, ◌-◌, ◌++◌, ◌∷◌, [], ℕ, suc, zero, List, Result, Ok, Err, length, refl, arith}
use Rattle.file_plans.specs.Follows.{Follows, State}
use Rattle.file_plans.specs.Plan.{Return, ◌>>=◌}
use Rattle.file_plans.proofs.Following.{done, refuses}
use Rattle.step_plans.specs.CommandFaults.{command_cause}
use Rattle.step_plans.specs.declared.command_fault.CommandFault.{CommandFault}
use Rattle.command_stages.specs.Texts.{Commanded, too_large}
use Rattle.draft_files.specs.Hearing.{PIECES, heard_behind, heard_by, piece_heard}
use Rattle.draft_files.specs.Limits.{within_limit}

one_more : (i : ℕ) → i < PIECES → PIECES - i ≡ suc (PIECES - (i + 1))
one_more i below = omega (arith, below)

none_left : (i : ℕ) → PIECES ≤ i → PIECES - i ≡ 0
none_left i past = omega (arith, past)

opened : (run k : ℕ) (bytes : List ℕ) (x y : State) (r : Result (List ℕ) CommandFault) → Follows run command_cause (piece_heard >>= heard_by (λ more. heard_behind k more) bytes) x y r → Follows run command_cause (heard_behind (suc k) bytes) x y r
unfolding heard_behind
opened run k bytes x y r f = f

ended : (run : ℕ) (bytes : List ℕ) (x : State) → Follows run command_cause (heard_behind zero bytes) x x (Err (too_large (length bytes)))
unfolding heard_behind
ended run bytes x = refuses _ refl

-- one piece more is heard
pub turn : (run i : ℕ) (bytes : List ℕ) (x y : State) (r : Result (List ℕ) CommandFault) → i < PIECES →
    Follows run command_cause (piece_heard >>= heard_by (λ more. heard_behind (PIECES - (i + 1)) more) bytes) x y r → Follows run command_cause (heard_behind (PIECES - i) bytes) x y r
turn run i bytes x y r below f = rw (one_more i below) (opened run (PIECES - (i + 1)) bytes x y r f)

-- none is left
pub end : (run i : ℕ) (bytes : List ℕ) (x : State) → PIECES ≤ i → Follows run command_cause (heard_behind (PIECES - i) bytes) x x (Err (too_large (length bytes)))
end run i bytes x past = rw (none_left i past) (ended run bytes x)

-- the empty piece
pub whole_heard : (run : ℕ) (next : List ℕ → Commanded (List ℕ)) (bytes piece : List ℕ) (x : State) → length piece ≡ 0 → Follows run command_cause (heard_by next bytes piece) x x (Ok bytes)
whole_heard run next bytes [] x e = done
whole_heard run next bytes (c ∷ piece) x e = absurd (omega (arith, e))

-- another
pub more_heard : (run : ℕ) (next : List ℕ → Commanded (List ℕ)) (bytes piece : List ℕ) (x y : State) (r : Result (List ℕ) CommandFault) → (length piece ≡ 0 → ⊥)
    → Follows run command_cause (Return (within_limit (bytes ++ piece)) >>= next) x y r → Follows run command_cause (heard_by next bytes piece) x y r
more_heard run next bytes [] x y r some f = absurd (some refl)
more_heard run next bytes (c ∷ piece) x y r some f = f
