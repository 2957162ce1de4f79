-- Lists of numbers, written and read.
use Rattle.std.proofs.Common.{◌≡◌, ℕ, suc, ◌+◌, ◌-◌, ◌<◌, ◌≤◌, ◌^◌, Bool, true, false, Some, None, List, [], ◌∷◌, ◌++◌, length, map, get_or, take, drop, refl, sym, ◌∙◌, ap, subst, arith, append_assoc, append-nil, length-append, ⊎_elim}
use Rattle.std.proofs.Math.Seq.{get_or-append_seam}
use Rattle.std.proofs.lemmas.List.Sums.{AllPass-from_list_all}
use Rattle.std.specs.Prelude.{◌&&◌, ◌||◌, ◌==◌, not, nat_le, decimal, if◌then◌else◌}
use Rattle.std.specs.List.{list_all, list_any, prefix_len, suffix_len, flat_map, All}
use Rattle.std.specs.Str.Parse.{AllDigits}
use Rattle.std.proofs.lemmas.Bool.{and_parts, and_from, leb-true, le-leb, lt-ltb, eqb-true, ne_eqb, or_left, or_from, or_cases}
use Rattle.std.proofs.lemmas.Fmt.{decimal_is_IsNumeral}
use Rattle.std.proofs.lemmas.Str.Parse.{digit_from_value}
use Rattle.std.proofs.lemmas.List.{take_at, drop_at}
use Rattle.std.proofs.lemmas.List.Splits.{slice_split_at, slice_split_none}
use Rattle.std.proofs.lemmas.List.Sums.{suffix_len_is}
use Rattle.mail_headers.specs.Unfolding.{is_edge}
use Rattle.mh_base.specs.Numbers.{IsMsgNum, number_of, in_range}
use Rattle.mh_base.proofs.Decimals.{decimal_of_some, decimal_of_none}
use Rattle.mh_profile.specs.Values.{IsUnfolded, is_no_feed}
use Rattle.mh_profile.proofs.OneLineValues.{bare_value}
use Rattle.mh_profile.proofs.PrintedBack.{all_append}
use Rattle.mh_sequences.specs.declared.run.Run.{Run}
use Rattle.mh_sequences.specs.Runs.{AreRuns, AreRunsFrom, has}
use Rattle.mh_sequences.specs.Lists.{items, between, up_to, alone_or, is_no_dash, run_in, run_has, lists}
use Rattle.mh_sequences.specs.Printing.{run_text, list_text}
use Rattle.mh_sequences.proofs.Bools.{choose}
use Rattle.mh_base.specs.Characters.{is_digit, is_blank}

digits_all : (ds : List ℕ) → AllDigits 10 ds → list_all is_digit ds ≡ true
digits_all [] h = refl
digits_all (d ∷ ds) h =
    let r = digit_from_value d h.0 in
    and_from (is_digit d) (list_all is_digit ds) (and_from (nat_le 48 d) (nat_le d 57) (le-leb 48 d r.0) (le-leb d 57 r.1)) (digits_all ds h.1)

small : (n : ℕ) → n ≤ 999999 → n < 2 ^ 64
small n h = omega arith

-- a number's text: digits, at least one
decimal_digits : (n : ℕ) → n ≤ 999999 → list_all is_digit (decimal n) ≡ true
decimal_digits n h = digits_all (decimal n) (decimal_is_IsNumeral n (small n h)).0.1

decimal_some : (n : ℕ) → n ≤ 999999 → 0 < length (decimal n)
decimal_some n h = (decimal_is_IsNumeral n (small n h)).0.0

pub number_read : (n : ℕ) → IsMsgNum n → number_of (decimal n) ≡ Some n
number_read n h =
    ap in_range (decimal_of_some (decimal n) n (small n h.1) refl)
    ∙ (λ i. if lt-ltb 0 n (omega arith) i && lt-ltb n 1000000 (omega arith) i then Some n else None)

weaker : (p q : ℕ → Bool) → ((b : ℕ) → p b ≡ true → q b ≡ true) → (xs : List ℕ) → list_all p xs ≡ true → list_all q xs ≡ true
weaker p q on [] h = refl
weaker p q on (x ∷ xs) h = let parts = and_parts (p x) (list_all p xs) h in and_from (q x) (list_all q xs) (on x parts.0) (weaker p q on xs parts.1)

digit_range : (b : ℕ) → is_digit b ≡ true → (48 ≤ b) × (b ≤ 57)
digit_range b h = let parts = and_parts (nat_le 48 b) (nat_le b 57) h in (leb-true 48 b parts.0, leb-true b 57 parts.1)

digit_no_dash : (b : ℕ) → is_digit b ≡ true → is_no_dash b ≡ true
digit_no_dash b h = let r = digit_range b h in ap not (ne_eqb b 45 (λ e. omega arith))

-- a dash among them
dash_inside : (xs ys : List ℕ) → list_all is_digit (xs ++ (45 ∷ ys)) ≡ true → ⊥
dash_inside [] ys h = let r = digit_range 45 (and_parts (is_digit 45) (list_all is_digit ys) h).0 in absurd (omega arith)
dash_inside (x ∷ xs) ys h = dash_inside xs ys (and_parts (is_digit x) (list_all is_digit (xs ++ (45 ∷ ys))) h).1

no_number : (xs ys : List ℕ) → number_of (xs ++ (45 ∷ ys)) ≡ None
no_number xs ys = ap in_range (decimal_of_none (xs ++ (45 ∷ ys)) (λ v lt e. dash_inside xs ys (subst (λ z. list_all is_digit z ≡ true) (sym e) (digits_all (decimal v) (decimal_is_IsNumeral v lt).0.1))))

pub to_dash : (xs ys : List ℕ) → list_all is_no_dash xs ≡ true → prefix_len is_no_dash (xs ++ (45 ∷ ys)) ≡ length xs
to_dash [] ys h = refl
to_dash (x ∷ xs) ys h =
    let parts = and_parts (is_no_dash x) (list_all is_no_dash xs) h in
    let rest : 1 + prefix_len is_no_dash (xs ++ (45 ∷ ys)) ≡ suc (length xs) = omega (arith, to_dash xs ys parts.1) in
    rw parts.0 rest

run_single : (r : Run) → IsMsgNum r.from → r.from ≡ r.to → run_in (decimal r.from) ≡ Some r
unfolding run_in
run_single r h e =
    ap (λ o. alone_or o (up_to (number_of (take (prefix_len is_no_dash (decimal r.from)) (decimal r.from))) (drop (prefix_len is_no_dash (decimal r.from)) (decimal r.from)))) (number_read r.from h)
    ∙ ap (λ t. Some (record { from = r.from; to = t })) e

run_pair : (r : Run) → IsMsgNum r.from → IsMsgNum r.to → r.from ≤ r.to → run_in (decimal r.from ++ (45 ∷ decimal r.to)) ≡ Some r
unfolding run_in
run_pair r h k le =
    let item : List ℕ = decimal r.from ++ (45 ∷ decimal r.to) in
    let long : prefix_len is_no_dash item ≡ length (decimal r.from) = to_dash (decimal r.from) (decimal r.to) (weaker is_digit is_no_dash digit_no_dash (decimal r.from) (decimal_digits r.from h.1)) in
    ap (λ o. alone_or o (up_to (number_of (take (prefix_len is_no_dash item) item)) (drop (prefix_len is_no_dash item) item))) (no_number (decimal r.from) (decimal r.to))
    ∙ ap (λ j. up_to (number_of (take j item)) (drop j item)) long
    ∙ (λ i. up_to (number_of (take_at (decimal r.from) (45 ∷ decimal r.to) (length (decimal r.from)) refl i)) (drop_at (decimal r.from) (45 ∷ decimal r.to) (length (decimal r.from)) refl i))
    ∙ (λ i. between (number_read r.from h i) (number_read r.to k i))
    ∙ ap (λ b. if b then Some (record { from = r.from; to = r.to }) else None) (le-leb r.from r.to le)

-- a run, written and read
pub run_read : (r : Run) → 1 ≤ r.from → r.from ≤ r.to → r.to ≤ 999999 → run_in (run_text r) ≡ Some r
run_read r low order high =
    choose (λ t. run_in t ≡ Some r) (r.from == r.to) (decimal r.from) (decimal r.from ++ (45 ∷ decimal r.to))
    (λ e. run_single r (low, omega arith) (eqb-true r.from r.to e))
    (λ e. run_pair r (low, omega arith) (omega arith, high) order)

-- bytes of runs
abbrev is_mark : ℕ → Bool
is_mark b = is_digit b || b == 45

digit_mark : (b : ℕ) → is_digit b ≡ true → is_mark b ≡ true
digit_mark b h = or_left (is_digit b) (b == 45) h

mark_range : (b : ℕ) → is_mark b ≡ true → (45 ≤ b) × (b ≤ 57)
mark_range b h = ⊎_elim (λ d. let r = digit_range b d in (omega arith, omega arith)) (λ d. let e = eqb-true b 45 d in (omega arith, omega arith)) (or_cases (is_digit b) (b == 45) h)

run_marks : (r : Run) → r.from ≤ 999999 → r.to ≤ 999999 → list_all is_mark (run_text r) ≡ true
run_marks r h k =
    choose (λ t. list_all is_mark t ≡ true) (r.from == r.to) (decimal r.from) (decimal r.from ++ (45 ∷ decimal r.to))
    (λ e. weaker is_digit is_mark digit_mark (decimal r.from) (decimal_digits r.from h))
    (λ e. all_append is_mark (decimal r.from) (45 ∷ decimal r.to) (weaker is_digit is_mark digit_mark (decimal r.from) (decimal_digits r.from h)) (weaker is_digit is_mark digit_mark (decimal r.to) (decimal_digits r.to k)))

mark_solid : (b : ℕ) → is_mark b ≡ true → is_blank b ≡ false
mark_solid b h = let r = mark_range b h in or_from (b == 32) (b == 9) (ne_eqb b 32 (λ e. omega arith)) (ne_eqb b 9 (λ e. omega arith))

solid : (xs : List ℕ) → list_all is_mark xs ≡ true → All (λ x. is_blank x ≡ false) xs
solid xs h k d lt = mark_solid (get_or xs k d) (AllPass-from_list_all is_mark xs h k d lt)

split_runs : (low : ℕ) (x : List ℕ) (rs : List Run) → list_all is_mark x ≡ true → AreRunsFrom low rs → items (x ++ flat_map (λ s. 32 ∷ run_text s) rs) ≡ x ∷ map run_text rs
split_runs low x [] h k = ap items (append-nil x) ∙ slice_split_none is_blank x (solid x h)
split_runs low x (s ∷ ss) h k =
    slice_split_at is_blank x 32 (run_text s ++ flat_map (λ s. 32 ∷ run_text s) ss) (solid x h) refl
    ∙ ap (λ l. x ∷ l) (split_runs (s.to + 2) (run_text s) ss (run_marks s (omega arith) (omega arith)) k.3)

has_items : (low : ℕ) (rs : List Run) → 1 ≤ low → AreRunsFrom low rs → (n : ℕ) → list_any (λ item. run_has (run_in item) n) (map run_text rs) ≡ has rs n
has_items low [] some h n = refl
has_items low (r ∷ rs) some h n = λ i. run_has (run_read r (omega arith) h.1 h.2 i) n || has_items (r.to + 2) rs (omega arith) h.3 n i

-- a list, written and read
pub lists_back : (rs : List Run) → AreRuns rs → 1 ≤ length rs → (n : ℕ) → lists (list_text rs) n ≡ has rs n
lists_back [] h some n = absurd (omega arith)
lists_back (r ∷ rs) h some n =
    ap (list_any (λ item. run_has (run_in item) n)) (split_runs (r.to + 2) (run_text r) rs (run_marks r (omega arith) (omega arith)) h.3)
    ∙ has_items 1 (r ∷ rs) (omega arith) h n

-- a text that ends in a digit
abbrev EndsInDigit : List ℕ → Type 0
EndsInDigit xs = (ys : List ℕ) × (c : ℕ) × (xs ≡ ys ++ (c ∷ [])) × (is_digit c ≡ true)

ends : (xs : List ℕ) → 0 < length xs → list_all is_digit xs ≡ true → EndsInDigit xs
ends [] some h = absurd (omega arith)
ends (x ∷ []) some h = ([], x, refl, (and_parts (is_digit x) (list_all is_digit []) h).0)
ends (x ∷ y ∷ zs) some h =
    let rest = ends (y ∷ zs) (omega arith) (and_parts (is_digit x) (list_all is_digit (y ∷ zs)) h).1 in
    (x ∷ rest.0, rest.1, ap (λ l. x ∷ l) rest.2, rest.3)

ends_append : (xs ys : List ℕ) → EndsInDigit ys → EndsInDigit (xs ++ ys)
ends_append xs ys e = (xs ++ e.0, e.1, ap (λ l. xs ++ l) e.2 ∙ sym (append_assoc xs e.0 (e.1 ∷ [])), e.3)

ends_run : (r : Run) → r.from ≤ 999999 → r.to ≤ 999999 → EndsInDigit (run_text r)
ends_run r h k =
    choose (λ t. EndsInDigit t) (r.from == r.to) (decimal r.from) (decimal r.from ++ (45 ∷ decimal r.to))
    (λ e. ends (decimal r.from) (decimal_some r.from h) (decimal_digits r.from h))
    (λ e. ends_append (decimal r.from) (45 ∷ decimal r.to) (ends_append (45 ∷ []) (decimal r.to) (ends (decimal r.to) (decimal_some r.to k) (decimal_digits r.to k))))

ends_list : (low : ℕ) (x : List ℕ) (rs : List Run) → EndsInDigit x → AreRunsFrom low rs → EndsInDigit (x ++ flat_map (λ s. 32 ∷ run_text s) rs)
ends_list low x [] e h = subst EndsInDigit (sym (append-nil x)) e
ends_list low x (s ∷ ss) e h = ends_append x (32 ∷ (run_text s ++ flat_map (λ s. 32 ∷ run_text s) ss)) (ends_append (32 ∷ []) (run_text s ++ flat_map (λ s. 32 ∷ run_text s) ss) (ends_list (s.to + 2) (run_text s) ss (ends_run s (omega arith) (omega arith)) h.3))

digit_no_edge : (b : ℕ) → is_digit b ≡ true → is_edge b ≡ false
digit_no_edge b h = let r = digit_range b h in or_from (is_blank b) (b == 13) (or_from (b == 32) (b == 9) (ne_eqb b 32 (λ e. omega arith)) (ne_eqb b 9 (λ e. omega arith))) (ne_eqb b 13 (λ e. omega arith))

last_edge : (xs : List ℕ) → EndsInDigit xs → suffix_len is_edge xs ≡ 0
last_edge xs e =
    let n = length-append e.0 (e.1 ∷ []) in
    let whole : length xs ≡ length e.0 + 1 = ap length e.2 ∙ n in
    let at : length xs - 1 ≡ length e.0 = omega arith in
    let last : get_or xs (length xs - 1) 0 ≡ e.1 = ap (get_or xs (length xs - 1)) refl ∙ (ap (λ k. get_or xs k 0) at ∙ ap (λ l. get_or l (length e.0) 0) e.2 ∙ get_or-append_seam e.0 e.1 [] 0) in
    let none = suffix_len_is is_edge xs (length xs) 0 (omega arith) (λ k from below. absurd (omega arith)) (λ some. ap is_edge last ∙ digit_no_edge e.1 e.3) in
    none ∙ omega arith

first_edge : (xs rest : List ℕ) → 0 < length xs → list_all is_digit xs ≡ true → prefix_len is_edge (xs ++ rest) ≡ 0
first_edge [] rest some h = absurd (omega arith)
first_edge (x ∷ xs) rest some h = rw (digit_no_edge x (and_parts (is_digit x) (list_all is_digit xs) h).0) refl

run_front : (r : Run) (rest : List ℕ) → r.from ≤ 999999 → prefix_len is_edge (run_text r ++ rest) ≡ 0
run_front r rest h =
    choose (λ t. prefix_len is_edge (t ++ rest) ≡ 0) (r.from == r.to) (decimal r.from) (decimal r.from ++ (45 ∷ decimal r.to))
    (λ e. first_edge (decimal r.from) rest (decimal_some r.from h) (decimal_digits r.from h))
    (λ e. ap (prefix_len is_edge) (append_assoc (decimal r.from) (45 ∷ decimal r.to) rest) ∙ first_edge (decimal r.from) ((45 ∷ decimal r.to) ++ rest) (decimal_some r.from h) (decimal_digits r.from h))

mark_no_feed : (b : ℕ) → is_mark b ≡ true → is_no_feed b ≡ true
mark_no_feed b h = let r = mark_range b h in ap not (ne_eqb b 10 (λ e. omega arith))

clean_list : (low : ℕ) (x : List ℕ) (rs : List Run) → list_all is_no_feed x ≡ true → AreRunsFrom low rs → list_all is_no_feed (x ++ flat_map (λ s. 32 ∷ run_text s) rs) ≡ true
clean_list low x [] e h = ap (list_all is_no_feed) (append-nil x) ∙ e
clean_list low x (s ∷ ss) e h = all_append is_no_feed x (32 ∷ (run_text s ++ flat_map (λ s. 32 ∷ run_text s) ss)) e (clean_list (s.to + 2) (run_text s) ss (weaker is_mark is_no_feed mark_no_feed (run_text s) (run_marks s (omega arith) (omega arith))) h.3)

-- a list stands on one line
pub list_unfolded : (rs : List Run) → AreRuns rs → 1 ≤ length rs → IsUnfolded (list_text rs)
list_unfolded [] h some = absurd (omega arith)
list_unfolded (r ∷ rs) h some =
    bare_value (list_text (r ∷ rs))
    (clean_list (r.to + 2) (run_text r) rs (weaker is_mark is_no_feed mark_no_feed (run_text r) (run_marks r (omega arith) (omega arith))) h.3)
    (run_front r (flat_map (λ s. 32 ∷ run_text s) rs) (omega arith))
    (last_edge (list_text (r ∷ rs)) (ends_list (r.to + 2) (run_text r) rs (ends_run r (omega arith) (omega arith)) h.3))

-- and so does a number
pub number_unfolded : (n : ℕ) → n ≤ 999999 → IsUnfolded (decimal n)
number_unfolded n h =
    bare_value (decimal n)
    (weaker is_digit is_no_feed (λ b d. mark_no_feed b (digit_mark b d)) (decimal n) (decimal_digits n h))
    (ap (prefix_len is_edge) (sym (append-nil (decimal n))) ∙ first_edge (decimal n) [] (decimal_some n h) (decimal_digits n h))
    (last_edge (decimal n) (ends (decimal n) (decimal_some n h) (decimal_digits n h)))

-- a number's text is one item
pub number_item : (n : ℕ) → n ≤ 999999 → items (decimal n) ≡ decimal n ∷ []
number_item n h = slice_split_none is_blank (decimal n) (solid (decimal n) (weaker is_digit is_mark digit_mark (decimal n) (decimal_digits n h)))

pub number_run : (n : ℕ) → IsMsgNum n → run_in (decimal n) ≡ Some (record { from = n; to = n })
number_run n h = run_single (record { from = n; to = n }) h refl
