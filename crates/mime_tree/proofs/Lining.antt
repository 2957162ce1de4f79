-- The first line.
use Rattle.std.proofs.Common.{◌≡◌, ℕ, suc, ◌+◌, ◌<◌, ◌≤◌, Bool, true, false, List, [], ◌∷◌, length, get_or, take, drop, refl, sym, ◌∙◌, ap, arith}
use Rattle.std.specs.Prelude.{◌==◌, if◌then◌else◌}
use Rattle.std.proofs.lemmas.List.{drop_all}
use Rattle.std.proofs.lemmas.Bool.Decides.{Decides-eqb, nat_tests}
use Rattle.mail_headers.proofs.Folding.{cut_at}
use Rattle.mime_tree.specs.BoundaryLines.{line_len, lines, led_by}

pub at_feed : (b : ℕ) (bs : List ℕ) → b == 10 ≡ true → line_len (b ∷ bs) ≡ 1
unfolding line_len
at_feed b bs e = rw e refl

pub in_line : (b : ℕ) (bs : List ℕ) → b == 10 ≡ false → line_len (b ∷ bs) ≡ 1 + line_len bs
unfolding line_len
in_line b bs e = rw e refl

pub no_line : line_len [] ≡ 0
unfolding line_len
no_line = refl

-- the line ends behind this byte
pub line_ends : (text : List ℕ) (i b n : ℕ) → i < length text → b ≡ get_or text i 0 → i + line_len (drop i text) ≡ n → b == 10 ≡ true → i + 1 ≡ n
line_ends text i b n lt is e test = ap (λ m. i + m) (sym (ap line_len (cut_at text i b lt is) ∙ at_feed b (drop (i + 1) text) test)) ∙ e

-- the line goes on
pub line_goes : (text : List ℕ) (i b n : ℕ) → i < length text → b ≡ get_or text i 0 → i + line_len (drop i text) ≡ n → b == 10 ≡ false → i + 1 + line_len (drop (i + 1) text) ≡ n
line_goes text i b n lt is e test =
    let step : line_len (drop i text) ≡ 1 + line_len (drop (i + 1) text) = ap line_len (cut_at text i b lt is) ∙ in_line b (drop (i + 1) text) test in
    omega arith

-- the text is one line
pub line_is_all : (text : List ℕ) (i n : ℕ) → length text ≤ i → i ≤ length text → i + line_len (drop i text) ≡ n → length text ≡ n
line_is_all text i n is le e =
    let none : line_len (drop i text) ≡ 0 = ap line_len (drop_all i text is) ∙ no_line in
    omega arith

pub feed : (b : ℕ) → b ≡ 10 → b == 10 ≡ true
feed b e = (Decides-eqb b 10).1 e

pub no_feed : (b : ℕ) → (b ≡ 10 → ⊥) → b == 10 ≡ false
no_feed b ne = grind (arith, nat_tests)

pub line_some : (text : List ℕ) → 0 < length text → 1 ≤ line_len text
unfolding line_len
line_some [] lt = absurd (omega arith)
line_some (b ∷ rest) lt = choose (b == 10)
  where
    choose : (t : Bool) → 1 ≤ (if t then 1 else 1 + line_len rest)
    choose true = omega arith
    choose false = omega arith

one_line : (b : ℕ) (rest : List ℕ) → b == 10 ≡ true → lines (b ∷ rest) ≡ (b ∷ []) ∷ lines rest
unfolding lines
one_line b rest e = rw e refl

led_line : (b : ℕ) (rest : List ℕ) → b == 10 ≡ false → lines (b ∷ rest) ≡ led_by b (lines rest)
unfolding lines
led_line b rest e = rw e refl

last_line : (b : ℕ) → led_by b (lines []) ≡ (b ∷ []) ∷ lines []
unfolding lines
last_line b = refl

-- a text is its first line and the lines behind it
pub lines_step : (text : List ℕ) → 0 < length text → lines text ≡ take (line_len text) text ∷ lines (drop (line_len text) text)
lines_step [] lt = absurd (omega arith)
lines_step (b ∷ []) lt = choose (b == 10) refl
  where
    one : line_len (b ∷ []) ≡ 1 → lines (b ∷ []) ≡ (b ∷ []) ∷ lines [] → lines (b ∷ []) ≡ take (line_len (b ∷ [])) (b ∷ []) ∷ lines (drop (line_len (b ∷ [])) (b ∷ []))
    one len e = rw len e

    choose : (t : Bool) → b == 10 ≡ t → lines (b ∷ []) ≡ take (line_len (b ∷ [])) (b ∷ []) ∷ lines (drop (line_len (b ∷ [])) (b ∷ []))
    choose true e = one (at_feed b [] e) (one_line b [] e)
    choose false e =
        let len : line_len (b ∷ []) ≡ 1 = omega (arith, in_line b [] e, no_line) in
        one len (led_line b [] e ∙ last_line b)
lines_step (b ∷ d ∷ rest) lt = choose (b == 10) refl (lines_step (d ∷ rest) (omega arith))
  where
    choose : (t : Bool) → b == 10 ≡ t → lines (d ∷ rest) ≡ take (line_len (d ∷ rest)) (d ∷ rest) ∷ lines (drop (line_len (d ∷ rest)) (d ∷ rest)) →
        lines (b ∷ d ∷ rest) ≡ take (line_len (b ∷ d ∷ rest)) (b ∷ d ∷ rest) ∷ lines (drop (line_len (b ∷ d ∷ rest)) (b ∷ d ∷ rest))
    choose true e more = rw (at_feed b (d ∷ rest) e) (one_line b (d ∷ rest) e)
    choose false e more =
        let len : line_len (b ∷ d ∷ rest) ≡ suc (line_len (d ∷ rest)) = omega (arith, in_line b (d ∷ rest) e) in
        rw len (led_line b (d ∷ rest) e ∙ ap (led_by b) more)

pub no_lines : lines [] ≡ []
unfolding lines
no_lines = refl

pub line_le : (text : List ℕ) → line_len text ≤ length text
unfolding line_len
line_le [] = omega arith
line_le (b ∷ rest) = choose (b == 10) (line_le rest)
  where
    choose : (t : Bool) → line_len rest ≤ length rest → (if t then 1 else 1 + line_len rest) ≤ length (b ∷ rest)
    choose true le = omega arith
    choose false le = omega arith
