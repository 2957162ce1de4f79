-- The names of message numbers among names.
use Rattle.std.proofs.Common.{◌≡◌, ◌==◌, ◌&&◌, ◌||◌, ℕ, ◌<◌, ◌≤◌, Bool, true, false, List, [], ◌∷◌, Option, Some, None, refl, sym, ◌∙◌, ap, arith}
use Rattle.std.specs.Prelude.{bytes_eq, nat_lt, decimal, if◌then◌else◌}
use Rattle.std.proofs.lemmas.Bool.Decides.{Decides-eqb, Decides-ltb, nat_tests}
use Rattle.std.proofs.lemmas.Slice.Eq.{bytes_eq-Decides}
use Rattle.mh_base.specs.Numbers.{number_of, decimal_of, in_range}
use Rattle.mh_base.proofs.Decimals.{decimal_of_some, decimal_of_is}
use Rattle.folder_files.specs.Steps.{has_text}
use Rattle.file_plans.specs.Mailboxes.{is_message_number}
use Rattle.file_plans.specs.Sightings.{has_number, is_this}
use Rattle.file_plans.proofs.Rising.{true_not}

-- names of numbers
confirmed_range : (n m : ℕ) (low high : Bool) → nat_lt 0 n ≡ low → nat_lt n 1000000 ≡ high → (if low && high then Some n else None) ≡ Some m → (n ≡ m) × (is_message_number m ≡ true)
confirmed_range n m true true p q e = let same : n ≡ m = cc in (same, grind (arith, nat_tests, same, p, q))
confirmed_range n m true false p q e = cc
confirmed_range n m false high p q e = cc

in_range_is : (o : Option ℕ) (m : ℕ) → in_range o ≡ Some m → (o ≡ Some m) × (is_message_number m ≡ true)
in_range_is None m e = cc
in_range_is (Some n) m e = let r = confirmed_range n m (nat_lt 0 n) (nat_lt n 1000000) refl refl e in (ap Some r.0, r.1)

pub number_is : (x : List ℕ) (n : ℕ) → number_of x ≡ Some n → (x ≡ decimal n) × (is_message_number n ≡ true)
number_is x n e = let r = in_range_is (decimal_of x) n e in ((decimal_of_is x n r.0).1, r.1)

pub number_below : (n : ℕ) → is_message_number n ≡ true → (1 ≤ n) × (n < 1000000)
number_below n e = (grind (arith, nat_tests, e), grind (arith, nat_tests, e))

pub number_back : (n : ℕ) → is_message_number n ≡ true → number_of (decimal n) ≡ Some n
number_back n ok =
    let b = number_below n ok in
    let some : decimal_of (decimal n) ≡ Some n = decimal_of_some (decimal n) n (omega (arith, b.1)) refl in
    let low : nat_lt 0 n ≡ true = (Decides-ltb 0 n).1 (omega (arith, b.0)) in
    let high : nat_lt n 1000000 ≡ true = (Decides-ltb n 1000000).1 b.1 in
    rw some (rw (low, high) refl)

-- a name is the number's just where it is its decimal
is_this_text : (n : ℕ) (x : List ℕ) → is_this n (number_of x) ≡ is_message_number n && bytes_eq x (decimal n)
is_this_text n x = go (number_of x) refl
  where
    other : (v w : Bool) → is_message_number n ≡ v → bytes_eq x (decimal n) ≡ w → number_of x ≡ None → false ≡ v && w
    other true true p q none =
        let same : x ≡ decimal n = (bytes_eq-Decides x (decimal n)).0 q in
        let some : number_of x ≡ Some n = ap number_of same ∙ number_back n p in
        cc
    other true false p q none = refl
    other false w p q none = refl

    this : (k : ℕ) (u v w : Bool) → (k == n) ≡ u → is_message_number n ≡ v → bytes_eq x (decimal n) ≡ w → number_of x ≡ Some k → u ≡ v && w
    this k true v w o p q some =
        let same : k ≡ n = (Decides-eqb k n).0 o in
        let i = number_is x k some in
        let there : v ≡ true = sym p ∙ (ap is_message_number (sym same) ∙ i.1) in
        let text : w ≡ true = sym q ∙ (bytes_eq-Decides x (decimal n)).1 (i.0 ∙ ap decimal same) in
        rw (there, text) refl
    this k false true true o p q some =
        let same : x ≡ decimal n = (bytes_eq-Decides x (decimal n)).0 q in
        let back : Some k ≡ Some n = sym some ∙ (ap number_of same ∙ number_back n p) in
        let is : k ≡ n = cc in
        let yes_ : (k == n) ≡ true = (Decides-eqb k n).1 is in
        absurd (true_not (sym yes_ ∙ o))
    this k false true false o p q some = refl
    this k false false w o p q some = refl

    go : (o : Option ℕ) → number_of x ≡ o → is_this n o ≡ is_message_number n && bytes_eq x (decimal n)
    go None e = other (is_message_number n) (bytes_eq x (decimal n)) refl refl e
    go (Some k) e = this k (k == n) (is_message_number n) (bytes_eq x (decimal n)) refl refl refl e

or_and : (b x y : Bool) → (b && x) || (b && y) ≡ b && (x || y)
or_and true x y = refl
or_and false x y = refl

pub has_number_text : (n : ℕ) (names : List (List ℕ)) → has_number n names ≡ is_message_number n && has_text (decimal n) names
has_number_text n [] = go (is_message_number n)
  where
    go : (b : Bool) → false ≡ b && false
    go true = refl
    go false = refl
has_number_text n (x ∷ names) = rw (is_this_text n x, has_number_text n names) (or_and (is_message_number n) (bytes_eq x (decimal n)) (has_text (decimal n) names))
