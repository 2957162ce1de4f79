-- One round of a loop over a list, or of tries that are left.
use Rattle.std.proofs.Common.{◌≡◌, ◌<◌, ◌≤◌, ◌+◌, ◌-◌, ◌∷◌, ℕ, suc, List, sym, ap, arith, drop, get_or, add-one, length}
use Rattle.std.proofs.Math.Seq.{drop-cons}

-- the next item, and those after it
pub next : {A : Type 0} (l : List A) (i : ℕ) (x : A) → i < length l → x ≡ get_or l i x → drop i l ≡ x ∷ drop (i + 1) l
next l i x h is = rw (add-one, drop-cons l i x) (ap (λ y. y ∷ drop (suc i) l) (sym is))

-- a try, and those after it
pub one_fewer : (n i : ℕ) → i < n → n - i ≡ suc (n - (i + 1))
one_fewer n i h = omega (arith, h)

pub none_more : (n i : ℕ) → n ≤ i → n - i ≡ 0
none_more n i h = omega (arith, h)
