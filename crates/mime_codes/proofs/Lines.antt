-- Base64 text in lines.
use Rattle.std.proofs.Common.{◌≡◌, inl, inr, ℕ, zero, suc, ◌+◌, ◌<◌, ◌≤◌, true, List, [], ◌∷◌, ◌++◌, length, take, drop, refl, sym, ap, ◌∙◌, arith, length-append, length-drop, append-nil, append_assoc, min, take_all}
use Rattle.std.specs.Prelude.{replicate}
use Rattle.std.proofs.lemmas.List.{drop_all, take_at, drop_at, length-replicate, length-take-le, take-append-drop}
use Rattle.std.proofs.lemmas.Bool.{cases_lt}
use Rattle.base64.specs.Rfc4648.{encode, encode_symbols, padding_len, unpadded_len}
use Rattle.base64.proofs.RoundTrip.{length-encode_symbols}
use Rattle.base64.proofs.EngineFacts.{encode-append, encode-nil}
use Rattle.mime_codes.specs.Base64.{alphabet, lines_up_to, in_lines, b64_encoded}

lines_enough : (n m : ℕ) (text : List ℕ) → length text ≤ n → length text ≤ m → lines_up_to n text ≡ lines_up_to m text
lines_enough zero zero text p q = refl
lines_enough zero (suc m) [] p q = refl
lines_enough zero (suc m) (c ∷ text) p q = absurd (omega arith)
lines_enough (suc n) zero [] p q = refl
lines_enough (suc n) zero (c ∷ text) p q = absurd (omega arith)
lines_enough (suc n) (suc m) [] p q = refl
lines_enough (suc n) (suc m) (c ∷ text) p q =
    ap (λ l. take 76 (c ∷ text) ++ 10 ∷ l) (lines_enough n m (drop 76 (c ∷ text)) (omega (arith, length-drop 76 (c ∷ text))) (omega (arith, length-drop 76 (c ∷ text))))

in_lines-cons : (c : ℕ) (text : List ℕ) → in_lines (c ∷ text) ≡ take 76 (c ∷ text) ++ 10 ∷ in_lines (drop 76 (c ∷ text))
unfolding in_lines
in_lines-cons c text =
    ap (λ l. take 76 (c ∷ text) ++ 10 ∷ l) (lines_enough (length text) (length (drop 76 (c ∷ text))) (drop 76 (c ∷ text)) (omega (arith, length-drop 76 (c ∷ text))) (omega arith))

in_lines-nil : in_lines [] ≡ []
unfolding in_lines
in_lines-nil = refl

in_lines-some : (text : List ℕ) → 0 < length text → in_lines text ≡ take 76 text ++ 10 ∷ in_lines (drop 76 text)
in_lines-some [] lt = absurd (omega arith)
in_lines-some (c ∷ text) lt = in_lines-cons c text

-- a full line before others
full_line : (line more : List ℕ) → length line ≡ 76 → in_lines (line ++ more) ≡ (line ++ 10 ∷ []) ++ in_lines more
full_line line more size =
    in_lines-some (line ++ more) (omega (arith, length-append line more, size))
    ∙ rw (take_at line more 76 size, drop_at line more 76 size, append_assoc) refl

-- the last line
last_line : (line : List ℕ) → 0 < length line → length line ≤ 76 → in_lines line ≡ (line ++ 10 ∷ []) ++ []
last_line line some fits =
    in_lines-some line some ∙ ap (λ l. l ++ 10 ∷ in_lines (drop 76 line)) (take_all 76 line fits)
    ∙ ap (λ l. line ++ 10 ∷ in_lines l) (drop_all 76 line fits) ∙ ap (λ l. line ++ 10 ∷ l) in_lines-nil ∙ sym (append-nil (line ++ 10 ∷ []))

padding_count : (n : ℕ) (pad : List ℕ) → pad ≡ replicate n 61 → length pad ≡ n
padding_count n pad e = ap length e ∙ length-replicate n 61

pub encoded_len : (bytes : List ℕ) → length (encode alphabet 61 true bytes) ≡ unpadded_len (length bytes) + padding_len (length bytes)
encoded_len bytes =
    let pad : List ℕ = replicate (padding_len (length bytes)) 61 in
    let count = padding_count (padding_len (length bytes)) pad refl in
    omega (arith, length-append (encode_symbols alphabet bytes) pad, length-encode_symbols alphabet bytes, count)

len_57 : (n : ℕ) → n ≡ 57 → unpadded_len n + padding_len n ≡ 76
len_57 n e = rw e refl

len_some : (n : ℕ) → 0 < n → 0 < unpadded_len n + padding_len n
len_some n lt = omega arith

len_most : (n : ℕ) → n ≤ 57 → unpadded_len n + padding_len n ≤ 76
len_most n le = omega arith

full_bytes : (line behind : List ℕ) → length line ≡ 57 → b64_encoded (line ++ behind) ≡ (encode alphabet 61 true line ++ 10 ∷ []) ++ b64_encoded behind
full_bytes line behind size =
    ap in_lines (encode-append alphabet 61 true line behind (omega (arith, size)))
    ∙ full_line (encode alphabet 61 true line) (encode alphabet 61 true behind) (encoded_len line ∙ len_57 (length line) size)

last_bytes : (line behind : List ℕ) → 0 < length line → length line ≤ 57 → behind ≡ [] → b64_encoded (line ++ behind) ≡ (encode alphabet 61 true line ++ 10 ∷ []) ++ b64_encoded behind
last_bytes line behind some fits none =
    ap (λ b. b64_encoded (line ++ b)) none ∙ ap b64_encoded (append-nil line)
    ∙ last_line (encode alphabet 61 true line) (omega (arith, encoded_len line, len_some (length line) some)) (omega (arith, encoded_len line, len_most (length line) fits))
    ∙ ap (λ l. (encode alphabet 61 true line ++ 10 ∷ []) ++ l) (sym (ap b64_encoded none ∙ ap in_lines (encode-nil alphabet 61 true) ∙ in_lines-nil))

step_by : (line behind : List ℕ) → 0 < length line → length line ≤ 57 → (length line < 57 → behind ≡ []) → b64_encoded (line ++ behind) ≡ (encode alphabet 61 true line ++ 10 ∷ []) ++ b64_encoded behind
step_by line behind some fits last = elim (cases_lt (length line) 57) [
  | inl less ↦ last_bytes line behind some fits (last less)
  | inr full ↦ full_bytes line behind (omega arith)
]

-- a line of bytes is put
pub line_put : (rest line behind old new all : List ℕ) (n : ℕ) → (length rest ≡ 0 → ⊥) → n ≡ min (length rest) 57 → line ≡ take n rest → behind ≡ drop n rest →
    new ≡ (old ++ encode alphabet 61 true line) ++ 10 ∷ [] → old ++ b64_encoded rest ≡ all → new ++ b64_encoded behind ≡ all
line_put rest line behind old new all n some count el eb en e =
    let size : length line ≡ n = ap length el ∙ length-take-le n rest (omega arith) in
    let last : length line < 57 → behind ≡ [] = λ less. eb ∙ drop_all n rest (omega (arith, size)) in
    let parts : rest ≡ line ++ behind = sym (take-append-drop n rest) ∙ rw (el, eb) refl in
    let step = step_by line behind (omega (arith, size)) (omega (arith, size)) last in
    ap (λ x. x ++ b64_encoded behind) (en ∙ append_assoc old (encode alphabet 61 true line) (10 ∷ [])) ∙ append_assoc old (encode alphabet 61 true line ++ 10 ∷ []) (b64_encoded behind)
    ∙ ap (λ x. old ++ x) (sym step ∙ ap b64_encoded (sym parts)) ∙ e

pub lines_put : (rest text all : List ℕ) → length rest ≡ 0 → text ++ b64_encoded rest ≡ all → text ≡ all
lines_put [] text all none e = sym (append-nil text) ∙ ap (λ x. text ++ x) (sym in_lines-nil ∙ ap in_lines (sym (encode-nil alphabet 61 true))) ∙ e
lines_put (b ∷ rest) text all none e = absurd (omega arith)
