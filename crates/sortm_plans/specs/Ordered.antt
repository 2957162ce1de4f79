-- Messages in order.
use Rattle.std.specs.Prelude.{ℕ, Bool, List, [], ◌∷◌, map, ℤ, Option, None, Some, if◌then◌else◌}
use Rattle.std.specs.Cmp.Lexicographic.{slice_cmp}
use Rattle.std.specs.List.{zip}
use Rattle.std.specs.Ordering.{int_cmp, nat_cmp}
use Rattle.std.specs.declared.cmp.Ordering.{Ordering}
use Rattle.std.specs.declared.cmp.Ordering.TheVariants.{Less, Equal, Greater}
use Rattle.message_order.specs.Dates.{later}
use Rattle.message_order.specs.Order.{comes_before}

-- one more in front of the first that it comes before
abbrev pub put_in : {X : Type 0} → (X → X → Bool) → X → List X → List X
put_in before x [] = x ∷ []
put_in before x (y ∷ ys) = if before x y then x ∷ y ∷ ys else y ∷ put_in before x ys

-- each put so into those behind it
abbrev pub sorted : {X : Type 0} → (X → X → Bool) → List X → List X
sorted before [] = []
sorted before (x ∷ xs) = put_in before x (sorted before xs)

-- the numbers of messages with keys: by key, and by number where the keys are the same
unfoldable pub in_order : {K : Type 0} → (K → K → Ordering) → List (K × ℕ) → List ℕ
in_order cmp keyed = map (λ x. x.1) (sorted (comes_before cmp) keyed)

-- how two dates stand to one another: none comes first, and then the earlier
abbrev pub date_cmp : Option ℤ → Option ℤ → Ordering
date_cmp None None = Equal
date_cmp None (Some y) = Less
date_cmp (Some x) None = Greater
date_cmp (Some x) (Some y) = int_cmp x y

-- how two texts stand to one another, byte by byte
abbrev pub text_cmp : List ℕ → List ℕ → Ordering
text_cmp x y = slice_cmp nat_cmp x y

-- each date, or where there is none the last one before it; this is the last before all of these
abbrev pub filled_behind : Option ℤ → List (Option ℤ) → List (Option ℤ)
filled_behind last [] = []
filled_behind last (d ∷ ds) = later last d ∷ filled_behind (later last d) ds

-- messages with these dates: a message without one has that of the message before it
abbrev pub order_by_dates : List (Option ℤ) → List ℕ → List ℕ
order_by_dates dates numbers = in_order date_cmp (zip (filled_behind None dates) numbers)

-- messages with these texts
abbrev pub order_by_texts : List (List ℕ) → List ℕ → List ℕ
order_by_texts texts numbers = in_order text_cmp (zip texts numbers)
