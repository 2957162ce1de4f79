-- Numbers of lists, and of lists in which none stands twice.
use Rattle.std.proofs.Common.{◌≡◌, inl, inr, ◌==◌, ℕ, Bool, true, false, List, [], ◌∷◌, refl, subst}
use Rattle.mh_base.specs.Numbers.{IsMsgNum}
use Rattle.folder_files.proofs.Names.{not_both, num_itself, num_same, or_case, or_last, or_left}
use Rattle.message_places.specs.Places.{AreMsgNums, is_in}

pub num_turned : (a b : ℕ) → (a == b) ≡ false → (b == a) ≡ false
num_turned a b e = go (b == a) refl
  where
    go : (v : Bool) → (b == a) ≡ v → v ≡ false
    go true f = absurd (not_both (a == b) (subst (λ z. (z == b) ≡ true) (num_same b a f) (num_itself b)) e)
    go false f = refl

pub in_head : (n : ℕ) (ns : List ℕ) → is_in n (n ∷ ns) ≡ true
in_head n ns = or_left (n == n) (is_in n ns) (num_itself n)

pub in_tail : (n k : ℕ) (ns : List ℕ) → is_in k ns ≡ true → is_in k (n ∷ ns) ≡ true
in_tail n k ns e = or_last (n == k) (is_in k ns) e

-- what holds of the first and of those behind it holds of each
pub in_cases : (F : ℕ → Type 0) (n k : ℕ) (ns : List ℕ) → is_in k (n ∷ ns) ≡ true → F n → (is_in k ns ≡ true → F k) → F k
in_cases F n k ns e first more = elim (or_case (n == k) (is_in k ns) e) [ inl f ↦ subst F (num_same n k f) first | inr f ↦ more f ]

pub in_good : (ns : List ℕ) → AreMsgNums ns → (k : ℕ) → is_in k ns ≡ true → IsMsgNum k
in_good [] ok k e = absurd (cc (e))
in_good (n ∷ ns) ok k e = in_cases IsMsgNum n k ns e ok.0 (in_good ns ok.1 k)

pub none_in : (xs ys : List ℕ) (k : ℕ) → (is_in k xs ≡ true → is_in k ys ≡ true) → is_in k ys ≡ false → is_in k xs ≡ false
none_in xs ys k f e = go (is_in k xs) refl
  where
    go : (b : Bool) → is_in k xs ≡ b → b ≡ false
    go true i = absurd (not_both (is_in k ys) (f i) e)
    go false i = refl
