-- Printed numbers and texts.
use Rattle.std.proofs.Common.{◌≡◌, ◌≤◌, ◌-◌, ℕ, true, false, List, ◌∷◌, ◌++◌, length, take, drop, refl, sym, ap, ◌∙◌, arith, append_assoc}
use Rattle.std.specs.Prelude.{ℤ, pos, negsuc, min, replicate}
use Rattle.std.specs.Fmt.{signed_decimal}
use Rattle.format_compiler.specs.declared.width.Width.{Width}
use Rattle.line_rows.specs.Columns.{Kept, columns_of, empty_line, fit, with_more}
use Rattle.line_rows.specs.Decimals.{filled, last_of, sign_len}
use Rattle.line_rows.specs.Fields.{field}
use Rattle.line_rows.proofs.FittingColumns.{field_held, field_wide, two_more}

-- a number's sign is part of its decimal
pub sign_within : (n : ℤ) → sign_len n ≤ length (signed_decimal n)
sign_within (pos n) = omega arith
sign_within (negsuc n) = omega arith

zeros_filled : (w : Width) (missing : ℕ) (n : ℤ) → w.zeros ≡ true
    → filled w missing n ≡ take (sign_len n) (signed_decimal n) ++ replicate missing 48 ++ drop (sign_len n) (signed_decimal n)
zeros_filled w missing n e = rw e refl

-- sign, zeros and digits
pub zeros_put : (w : Width) (missing : ℕ) (n : ℤ) (decimal sign digits : List ℕ) (k : ℕ) → w.zeros ≡ true → decimal ≡ signed_decimal n → k ≡ sign_len n
    → sign ≡ take k decimal → digits ≡ drop k decimal → sign ++ (replicate missing 48 ++ digits) ≡ filled w missing n
zeros_put w missing n decimal sign digits k e d s a b =
    rw (a, b, s, d) (sym (append_assoc (take (sign_len n) (signed_decimal n)) (replicate missing 48) (drop (sign_len n) (signed_decimal n))) ∙ sym (zeros_filled w missing n e))

-- spaces and all
pub spaces_put : (w : Width) (missing : ℕ) (n : ℤ) (decimal : List ℕ) → w.zeros ≡ false → decimal ≡ signed_decimal n
    → replicate missing 32 ++ decimal ≡ filled w missing n
spaces_put w missing n decimal e d = rw (e, d) refl

-- the last characters of a text
pub last_cut : (text last : List ℕ) (columns kept : ℕ) → kept ≡ min (columns - 1) (length text) → last ≡ drop (length text - kept) text
    → 63 ∷ last ≡ last_of columns text
last_cut text last columns kept k is =
    let same : length text - kept ≡ length text - (columns - 1) = omega arith in
    ap (λ t. 63 ∷ t) (is ∙ ap (λ n. drop n text) same)

-- a field and what fills it
pub field_put : (start first end piece : Kept) (w missing : ℕ) (text : List ℕ) → piece ≡ with_more (empty_line w) text
    → first ≡ with_more start piece.characters → missing ≡ piece.width - columns_of piece.characters
    → end ≡ with_more first (replicate missing 32) → end ≡ with_more start (field w text)
field_put start first end piece w missing text is put gap fill =
    let held = field_held w text piece is in
    let wide = field_wide w text piece is in
    let same : missing ≡ w - columns_of (fit w text) = gap ∙ ap (λ n. n - columns_of piece.characters) wide ∙ ap (λ t. w - columns_of t) held in
    two_more start first end (fit w text) (replicate (w - columns_of (fit w text)) 32)
    (put ∙ ap (with_more start) held) (fill ∙ ap (λ n. with_more first (replicate n 32)) same)

pub sign_put : (n : ℤ) (decimal : List ℕ) (k : ℕ) → k ≡ sign_len n → decimal ≡ signed_decimal n → k ≤ length decimal
sign_put n decimal k s d = let within = sign_within n in rw (s, d) within
