-- Pieces of lines.
use Rattle.std.proofs.Common.{◌≡◌, List, ℕ, ◌++◌, ◌∙◌, append_assoc}
use Rattle.std.specs.Prelude.{Result, Ok, Err, OnOk}

-- two pieces, one after the other
pub pieces : {E : Type 0} (old mid end x y : List ℕ) (r : Result Unit E) → mid ≡ old ++ x → OnOk r (end ≡ mid ++ y) → OnOk r (end ≡ old ++ (x ++ y))
pieces old mid end x y (Ok u) e f = f ∙ rw e (append_assoc old x y)
pieces old mid end x y (Err u) e f = tt
