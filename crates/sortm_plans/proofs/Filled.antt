-- Dates that are filled in have one form.
use Rattle.std.proofs.Common.{◌≡◌, ◌<◌, ◌+◌, ℕ, suc, List, [], ◌∷◌, length, take, get_or, refl, ap, ◌∙◌, arith}
use Rattle.std.specs.Prelude.{ℤ, Option, None, Some}
use Rattle.message_order.specs.Dates.{AreFilled, last_date, later}
use Rattle.sortm_plans.specs.Ordered.{filled_behind}

later_later : (a b c : Option ℤ) → later a (later b c) ≡ later (later a b) c
later_later a b None = refl
later_later a b (Some c) = refl

none_later : (d : Option ℤ) → d ≡ later None d
none_later None = refl
none_later (Some c) = refl

both_list : {X : Type 0} (x y : X) (xs ys : List X) → x ≡ y → xs ≡ ys → x ∷ xs ≡ y ∷ ys
both_list x y xs ys e f = rw (e, f) refl

behind : (last : Option ℤ) (dates keys : List (Option ℤ)) → length keys ≡ length dates → ((k : ℕ) → k < length dates → get_or keys k None ≡ later last (last_date (take (k + 1) dates))) → keys ≡ filled_behind last dates
behind last [] [] m f = refl
behind last [] (x ∷ xs) m f = cc m
behind last (d ∷ ds) [] m f = cc m
behind last (d ∷ ds) (x ∷ xs) m f = both_list x (later last d) xs (filled_behind (later last d) ds) (f 0 (omega arith)) (behind (later last d) ds xs (omega (arith, m)) rest)
  where
    next : (k : ℕ) → suc k + 1 ≡ suc (k + 1)
    next k = omega arith

    rest : (k : ℕ) → k < length ds → get_or xs k None ≡ later (later last d) (last_date (take (k + 1) ds))
    rest k h = f (suc k) (omega (arith, h)) ∙ ap (λ n. later last (last_date (take n (d ∷ ds)))) (next k) ∙ later_later last d (last_date (take (k + 1) ds))

pub filled_so : (dates keys : List (Option ℤ)) → AreFilled dates keys → keys ≡ filled_behind None dates
filled_so dates keys f = behind None dates keys f.count (λ k h. f.each k h ∙ none_later (last_date (take (k + 1) dates)))
