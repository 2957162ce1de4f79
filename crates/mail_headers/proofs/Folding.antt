-- The end of a field.
use Rattle.std.proofs.Common.{◌≡◌, ℕ, zero, suc, ◌+◌, ◌-◌, ◌<◌, ◌≤◌, Bool, true, false, List, [], ◌∷◌, length, get_or, take, drop, refl, sym, ◌∙◌, ap, arith, add-one, length-drop, append-nil, ◌++◌}
use Rattle.std.proofs.lemmas.List.{drop_all, drop-drop, get_or-drop, take_rest}
use Rattle.std.proofs.lemmas.Bool.{eqb-true}
use Rattle.mail_headers.specs.Unfolding.{ends_line, joined}
use Rattle.std.specs.Prelude.{◌&&◌, ◌||◌, ◌==◌, not, slice_index, if◌then◌else◌}
use Rattle.std.proofs.Math.Seq.{drop-cons, drop-length}
use Rattle.mail_headers.specs.Lines.{folded_len, continues}

choose : (b : Bool) (n : ℕ) → (if b then 1 else 1 + n) ≤ 1 + n
choose true n = omega arith
choose false n = omega arith

some_len : (b : Bool) (n : ℕ) → 1 ≤ (if b then 1 else 1 + n)
some_len true n = omega arith
some_len false n = omega arith

empty_len : {bytes : List ℕ} → bytes ≡ [] → folded_len bytes ≡ 0
unfolding folded_len
empty_len e = rw e refl

pub folded_len-le : (bytes : List ℕ) → folded_len bytes ≤ length bytes
unfolding folded_len
folded_len-le [] = omega arith
folded_len-le (b ∷ bs) =
    let rest = folded_len-le bs in
    let here = choose (b == 10 && not (continues bs)) (folded_len bs) in
    omega arith

pub folded_len-some : (bytes : List ℕ) → 0 < length bytes → 1 ≤ folded_len bytes
unfolding folded_len
folded_len-some [] lt = absurd (omega arith)
folded_len-some (b ∷ bs) lt = some_len (b == 10 && not (continues bs)) (folded_len bs)

pub at_end : (b : ℕ) (bs : List ℕ) → b == 10 && not (continues bs) ≡ true → folded_len (b ∷ bs) ≡ 1
unfolding folded_len
at_end b bs e = rw e refl

pub inside : (b : ℕ) (bs : List ℕ) → b == 10 && not (continues bs) ≡ false → folded_len (b ∷ bs) ≡ 1 + folded_len bs
unfolding folded_len
inside b bs e = rw e refl

pub cut_at : (bytes : List ℕ) (i b : ℕ) → i < length bytes → b ≡ get_or bytes i 0 → drop i bytes ≡ b ∷ drop (i + 1) bytes
cut_at bytes i b lt is = rw (add-one, drop-cons bytes i 0) (ap (λ x. x ∷ drop (suc i) bytes) (sym is))

-- the field ends behind this byte
pub ends_here : (bytes : List ℕ) (i b n : ℕ) → i < length bytes → b ≡ get_or bytes i 0 → i + folded_len (drop i bytes) ≡ n → b == 10 && not (continues (drop (i + 1) bytes)) ≡ true → i + 1 ≡ n
ends_here bytes i b n lt is e test = ap (λ m. i + m) (sym (ap folded_len (cut_at bytes i b lt is) ∙ at_end b (drop (i + 1) bytes) test)) ∙ e

-- the field goes on
pub goes_on : (bytes : List ℕ) (i b n : ℕ) → i < length bytes → b ≡ get_or bytes i 0 → i + folded_len (drop i bytes) ≡ n → b == 10 && not (continues (drop (i + 1) bytes)) ≡ false → i + 1 + folded_len (drop (i + 1) bytes) ≡ n
goes_on bytes i b n lt is e test =
    let step : folded_len (drop i bytes) ≡ 1 + folded_len (drop (i + 1) bytes) = ap folded_len (cut_at bytes i b lt is) ∙ inside b (drop (i + 1) bytes) test in
    omega arith

-- none of the first bytes is a line feed
abbrev pub HasNoFeed : List ℕ → ℕ → Type 0
HasNoFeed bytes count = (k : ℕ) → k < count → get_or bytes k 0 == 10 ≡ true → ⊥

no_feed : (t : Bool) (other : Bool) → (t ≡ true → ⊥) → t && other ≡ false
no_feed true other denied = absurd (denied refl)
no_feed false other denied = refl

-- bytes without a line feed are of the field
pub passed : (count : ℕ) (bytes : List ℕ) → count ≤ length bytes → HasNoFeed bytes count → folded_len bytes ≡ count + folded_len (drop count bytes)
passed zero bytes le none = omega arith
passed (suc count) [] le none = absurd (omega arith)
passed (suc count) (b ∷ bs) le none =
    inside b bs (no_feed (b == 10) (not (continues bs)) (none zero (omega arith)))
    ∙ ap (λ n. 1 + n) (passed count bs (omega arith) (λ k lt. none (suc k) (omega arith))) ∙ omega arith

-- the next line feed
pub at_feed : (bytes : List ℕ) (from count n : ℕ) → from + count < length bytes → HasNoFeed (drop from bytes) count → from + folded_len (drop from bytes) ≡ n →
    (from + count) + folded_len (drop (from + count) bytes) ≡ n
at_feed bytes from count n lt none e =
    let size = length-drop from bytes in
    let step = passed count (drop from bytes) (omega arith) none in
    let rest : drop count (drop from bytes) ≡ drop (from + count) bytes = drop-drop count from bytes ∙ ap (λ n. drop n bytes) (omega arith) in
    let same : folded_len (drop count (drop from bytes)) ≡ folded_len (drop (from + count) bytes) = ap folded_len rest in
    omega (arith)

-- the bytes from a place on, as slices have them
abbrev pub sliced : List ℕ → ℕ → List ℕ
sliced bytes from = take (length bytes - from) (drop from bytes)

-- the next line feed was found
pub record IsFeed (bytes : List ℕ) (from count n : ℕ) : Type 0 where
  pub inside : from + count < length bytes
  pub is : 10 ≡ get_or bytes (from + count) 0
  pub left : (from + count) + folded_len (drop (from + count) bytes) ≡ n

pub feed_found : (bytes : List ℕ) (from count n : ℕ) → from ≤ length bytes → count < length (sliced bytes from) →
    ((k : ℕ) → 0 ≤ k → k < count → get_or (sliced bytes from) k 0 == 10 ≡ true → ⊥) → get_or (sliced bytes from) count 0 == 10 ≡ true →
    from + folded_len (drop from bytes) ≡ n → IsFeed bytes from count n
feed_found bytes from count n le lt none found e =
    let same : sliced bytes from ≡ drop from bytes = take_rest bytes from in
    let size : length (sliced bytes from) ≡ length bytes - from = rw same (length-drop from bytes) in
    let before : HasNoFeed (drop from bytes) count = λ k less is. none k (omega arith) less (rw same is) in
    let inside_of : from + count < length bytes = omega arith in
    record {
      inside = inside_of;
      is = sym (sym (get_or-drop from bytes count 0) ∙ ap (λ l. get_or l count 0) (sym same) ∙ eqb-true _ _ found);
      left = at_feed bytes from count n inside_of before e;
    }

-- what follows a line feed continues the field where its slice does
same_there : (bytes : List ℕ) (end : ℕ) (b : Bool) → b ≡ continues (sliced bytes end) → continues (drop end bytes) ≡ b
same_there bytes end b e = ap continues (sym (take_rest bytes end)) ∙ sym e

pub no_more : (bytes : List ℕ) (end : ℕ) (b : Bool) → b ≡ continues (sliced bytes end) → b ≡ false → 10 == 10 && not (continues (drop end bytes)) ≡ true
no_more bytes end b e is = rw (same_there bytes end b e ∙ is) refl

pub some_more : (bytes : List ℕ) (end : ℕ) (b : Bool) → b ≡ continues (sliced bytes end) → b ≡ true → 10 == 10 && not (continues (drop end bytes)) ≡ false
some_more bytes end b e is = rw (same_there bytes end b e ∙ is) refl

-- no line feed is left
pub none_left : (bytes : List ℕ) (from n : ℕ) → from ≤ length bytes →
    ((k : ℕ) → 0 ≤ k → k < length (sliced bytes from) → get_or (sliced bytes from) k 0 == 10 ≡ true → ⊥) → from + folded_len (drop from bytes) ≡ n → length bytes ≡ n
none_left bytes from n le none e =
    let same : sliced bytes from ≡ drop from bytes = take_rest bytes from in
    let size : length (sliced bytes from) ≡ length bytes - from = rw same (length-drop from bytes) in
    let rest : length (drop from bytes) ≡ length bytes - from = length-drop from bytes in
    let all = passed (length (drop from bytes)) (drop from bytes) (omega arith) (λ k less is. none k (omega arith) (omega arith) (rw same is)) in
    let end : folded_len (drop (length (drop from bytes)) (drop from bytes)) ≡ 0 = empty_len (drop-length (drop from bytes)) in
    omega arith

pub all_joined : (value text : List ℕ) (i : ℕ) → length value ≤ i → text ++ joined (drop i value) ≡ joined value → text ≡ joined value
unfolding joined
all_joined value text i le e =
    let none : drop i value ≡ [] = drop_all i value le in
    sym (append-nil text) ∙ rw none at e

-- a value without a line feed is one line

false_of : (b : Bool) → (b ≡ true → ⊥) → b ≡ false
false_of true denied = absurd (denied refl)
false_of false denied = refl

neither : (a b c : Bool) → a ≡ false → c ≡ false → a || (b && c) ≡ false
neither true b c x y = absurd (cc (x))
neither false true c x y = y
neither false false c x y = refl

none_next : (rest : List ℕ) → HasNoFeed rest (length rest) → slice_index rest 0 == 10 ≡ false
none_next [] none = refl
none_next (b ∷ bs) none = false_of (b == 10) (none zero (omega arith))

ends_no_line : (b : ℕ) (rest : List ℕ) → HasNoFeed (b ∷ rest) (length (b ∷ rest)) → ends_line b rest ≡ false
ends_no_line b rest none = neither (b == 10) (b == 13) (slice_index rest 0 == 10) (false_of (b == 10) (none zero (omega arith)))
    (none_next rest (λ k lt. none (suc k) (omega arith)))

pub one_line : (value : List ℕ) → HasNoFeed value (length value) → joined value ≡ value
unfolding joined
one_line [] none = refl
one_line (b ∷ rest) none = rw (ends_no_line b rest none) (ap (λ l. b ∷ l) (one_line rest (λ k lt. none (suc k) (omega arith))))
