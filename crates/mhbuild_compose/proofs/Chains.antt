-- Texts that are written one behind the other.
use Rattle.std.proofs.Common.{◌≡◌, ℕ, List, ◌++◌, ◌∙◌, ap, append_assoc}
use Rattle.std.specs.Prelude.{Result, Ok, Err, OnOk}

-- the last text is another
pub last : {E : Type 0} (r : Result (Unit {0}) E) (w z a b : List ℕ) → a ≡ b → OnOk r (w ≡ z ++ a) → OnOk r (w ≡ z ++ b)
last (Err e) w z a b same is = tt
last (Ok u) w z a b same is = is ∙ ap (λ t. z ++ t) same

-- four texts
pub four : {E : Type 0} (r : Result (Unit {0}) E) (o a b c d x y z w : List ℕ) → x ≡ o ++ a → y ≡ x ++ b → z ≡ y ++ c → OnOk r (w ≡ z ++ d) → OnOk r (w ≡ o ++ (a ++ (b ++ (c ++ d))))
four (Err e) o a b c d x y z w p q s t = tt
four (Ok u) o a b c d x y z w p q s t = t ∙ ap (λ l. l ++ d) (s ∙ ap (λ l. l ++ c) (q ∙ ap (λ l. l ++ b) p)) ∙ simp append_assoc

-- five texts
pub five : {E : Type 0} (r : Result (Unit {0}) E) (o a b c d e x y z w v : List ℕ) → x ≡ o ++ a → y ≡ x ++ b → z ≡ y ++ c → w ≡ z ++ d → OnOk r (v ≡ w ++ e) → OnOk r (v ≡ o ++ (a ++ (b ++ (c ++ (d ++ e)))))
five (Err f) o a b c d e x y z w v p q s t u = tt
five (Ok g) o a b c d e x y z w v p q s t u = u ∙ ap (λ l. l ++ e) (t ∙ ap (λ l. l ++ d) (s ∙ ap (λ l. l ++ c) (q ∙ ap (λ l. l ++ b) p))) ∙ simp append_assoc
