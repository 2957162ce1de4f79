-- Digits, one after another.
use Rattle.std.proofs.Common.{◌≡◌, ℕ, ◌+◌, ◌*◌, ◌<◌, ◌≤◌, Option, Some, None, List, [], ◌∷◌, length, drop, get_or, refl, sym, ap, ◌∙◌}
use Rattle.std.proofs.lemmas.List.{drop_more, drop_all}
use Rattle.mail_dates.specs.Numbers.{digit_of, with_digit, decimal_behind}

decimal-none : (rest : List ℕ) → decimal_behind None rest ≡ None
unfolding decimal_behind
decimal-none [] = refl
decimal-none (b ∷ rest) = refl

decimal-next : (n i : ℕ) (word : List ℕ) → i < length word → decimal_behind (Some n) (drop i word) ≡ decimal_behind (with_digit n (digit_of (get_or word i 0))) (drop (i + 1) word)
unfolding decimal_behind
decimal-next n i word lt = ap (decimal_behind (Some n)) (drop_more word i 0 lt)

pub digit_read : (n d i : ℕ) (word : List ℕ) (all : Option ℕ) → i < length word → Some d ≡ digit_of (get_or word i 0) → decimal_behind (Some n) (drop i word) ≡ all → decimal_behind (Some (10 * n + d)) (drop (i + 1) word) ≡ all
digit_read n d i word all lt e front = ap (λ x. decimal_behind (with_digit n x) (drop (i + 1) word)) e ∙ sym (decimal-next n i word lt) ∙ front

pub no_digit : (n i : ℕ) (word : List ℕ) (all : Option ℕ) → i < length word → None ≡ digit_of (get_or word i 0) → decimal_behind (Some n) (drop i word) ≡ all → None ≡ all
no_digit n i word all lt e front = sym (decimal-none (drop (i + 1) word)) ∙ ap (λ x. decimal_behind (with_digit n x) (drop (i + 1) word)) e ∙ sym (decimal-next n i word lt) ∙ front

pub digits_read : (n i : ℕ) (word : List ℕ) (all : Option ℕ) → length word ≤ i → decimal_behind (Some n) (drop i word) ≡ all → Some n ≡ all
unfolding decimal_behind
digits_read n i word all le front = sym (ap (decimal_behind (Some n)) (drop_all i word le)) ∙ front
