-- Dates that are filled in, one after another.
use Rattle.std.proofs.lemmas.List.{drop_all}
use Rattle.std.proofs.Common.{◌≡◌, ◌≤◌, ◌<◌, ◌+◌, ℕ, zero, suc, List, [], ◌∷◌, ◌++◌, length, take, drop, get_or, refl, sym, ap, ◌∙◌, arith, add-one, drop-cons, append_assoc, append-nil}
use Rattle.std.specs.Prelude.{ℤ, Option, None, Some}
use Rattle.message_order.specs.Dates.{AreFilled, last_date, later}

-- the keys of these dates behind a message with this one
unfoldable pub filled_behind : Option ℤ → List (Option ℤ) → List (Option ℤ)
filled_behind d [] = []
filled_behind d (c ∷ ds) = later d c ∷ filled_behind (later d c) ds

pub behind_none : (d : Option ℤ) → filled_behind d [] ≡ []
unfolding filled_behind
behind_none d = refl

pub behind_more : (d c : Option ℤ) (ds : List (Option ℤ)) → filled_behind d (c ∷ ds) ≡ later d c ∷ filled_behind (later d c) ds
unfolding filled_behind
behind_more d c ds = refl

counted : (d : Option ℤ) (ds : List (Option ℤ)) → length (filled_behind d ds) ≡ length ds
counted d [] = ap length (behind_none d)
counted d (c ∷ ds) = ap length (behind_more d c ds) ∙ ap suc (counted (later d c) ds)

later_later : (a b c : Option ℤ) → later (later a b) c ≡ later a (later b c)
later_later a b None = refl
later_later a b (Some c) = refl

none_later : (d : Option ℤ) → later None d ≡ d
none_later None = refl
none_later (Some c) = refl

at : (k : ℕ) (d : Option ℤ) (ds : List (Option ℤ)) → k < length ds → get_or (filled_behind d ds) k None ≡ later d (last_date (take (k + 1) ds))
at k d [] h = absurd (omega (arith, h))
at zero d (c ∷ ds) h = ap (λ l. get_or l 0 None) (behind_more d c ds)
at (suc k) d (c ∷ ds) h =
    ap (λ l. get_or l (suc k) None) (behind_more d c ds) ∙ at k (later d c) ds (omega (arith, h)) ∙ later_later d c (last_date (take (k + 1) ds)) ∙ ap (λ n. later d (last_date (take n (c ∷ ds)))) more
  where
    more : suc (k + 1) ≡ suc k + 1
    more = omega arith

pub are_filled : (dates keys : List (Option ℤ)) → keys ≡ filled_behind None dates → AreFilled dates keys
are_filled dates keys e = record {
  count = ap length e ∙ counted None dates;
  each = λ k h. ap (λ l. get_or l k None) e ∙ at k None dates h ∙ none_later (last_date (take (k + 1) dates));
}

-- one date more
pub one_filled : (dates keys new : List (Option ℤ)) (last x d : Option ℤ) (i : ℕ) → i < length dates → x ≡ later last (get_or dates i d) → new ≡ keys ++ x ∷ []
    → keys ++ filled_behind last (drop i dates) ≡ filled_behind None dates → new ++ filled_behind x (drop (i + 1) dates) ≡ filled_behind None dates
one_filled dates keys new last x d i h ex en was =
    let next : drop i dates ≡ get_or dates i d ∷ drop (i + 1) dates = drop-cons dates i d h ∙ ap (λ n. get_or dates i d ∷ drop n dates) (sym (add-one i)) in
    ap (λ l. l ++ filled_behind x (drop (i + 1) dates)) en ∙ append_assoc keys (x ∷ []) (filled_behind x (drop (i + 1) dates))
    ∙ ap (λ y. keys ++ y ∷ filled_behind y (drop (i + 1) dates)) ex ∙ ap (λ l. keys ++ l) (sym (ap (filled_behind last) next ∙ behind_more last (get_or dates i d) (drop (i + 1) dates))) ∙ was

-- no date is left
pub all_filled : (dates keys : List (Option ℤ)) (last : Option ℤ) (i : ℕ) → length dates ≤ i → keys ++ filled_behind last (drop i dates) ≡ filled_behind None dates → keys ≡ filled_behind None dates
all_filled dates keys last i h was = sym (append-nil keys) ∙ ap (λ l. keys ++ l) (sym (ap (filled_behind last) (drop_all i dates h) ∙ behind_none last)) ∙ was
