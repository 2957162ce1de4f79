-- Texts in UTF-8.
use Rattle.std.proofs.Common.{◌≡◌, ◌-◌, ℕ, zero, suc, List, [], ◌∷◌, ◌++◌, length, refl, ap, sym, ◌∙◌, append_assoc}
use Rattle.std.specs.Prelude.{replicate}
use Rattle.std.specs.Str.{encode_utf8_all}
use Rattle.std.proofs.lemmas.Str.{encodes-append}
use Rattle.line_rows.specs.Columns.{Kept, columns_of, empty_line, fit, with_more}
use Rattle.line_rows.specs.Fields.{field}
use Rattle.line_rows.proofs.FittingColumns.{field_held, field_wide}
use Rattle.part_rows.specs.declared.columns.Columns.{Columns}
use Rattle.part_rows.specs.Rows.{right, row_of}

-- a space is a byte
behind_space : (text : List ℕ) → encode_utf8_all (32 ∷ text) ≡ 32 ∷ encode_utf8_all text
unfolding lib.Utf8.encode
behind_space text = refl

spaces : (n : ℕ) → encode_utf8_all (replicate n 32) ≡ replicate n 32
spaces zero = refl
spaces (suc n) = behind_space (replicate n 32) ∙ ap (λ t. 32 ∷ t) (spaces n)

-- spaces and a text
pub right_put : (line first new text bytes : List ℕ) (columns count n : ℕ) → n ≡ length text → count ≡ columns - n → first ≡ line ++ replicate count 32 → bytes ≡ encode_utf8_all text → new ≡ first ++ bytes
    → new ≡ line ++ encode_utf8_all (right columns text)
right_put line first new text bytes columns count n long rest spaced is put =
    let same : count ≡ columns - length text = rest ∙ ap (λ k. columns - k) long in
    put ∙ ap (λ l. l ++ bytes) spaced ∙ append_assoc line (replicate count 32) bytes
    ∙ ap (λ b. line ++ (replicate count 32 ++ b)) is
    ∙ ap (λ k. line ++ (replicate k 32 ++ encode_utf8_all text)) same
    ∙ ap (λ t. line ++ (t ++ encode_utf8_all text)) (sym (spaces (columns - length text)))
    ∙ ap (λ t. line ++ t) (sym (encodes-append (replicate (columns - length text) 32) text))

-- what fits and spaces
pub left_put : (line first new text held bytes : List ℕ) (columns missing : ℕ) (row : Kept) → row ≡ with_more (empty_line columns) text → held ≡ row.characters → bytes ≡ encode_utf8_all held
    → first ≡ line ++ bytes → missing ≡ row.width - columns_of row.characters → new ≡ first ++ replicate missing 32 → new ≡ line ++ encode_utf8_all (field columns text)
left_put line first new text held bytes columns missing row is of_row encoded put gap spaced =
    let fits : held ≡ fit columns text = of_row ∙ field_held columns text row is in
    let room : missing ≡ columns - columns_of (fit columns text) =
    gap ∙ ap (λ n. n - columns_of row.characters) (field_wide columns text row is) ∙ ap (λ t. columns - columns_of t) (field_held columns text row is) in
    let front : bytes ≡ encode_utf8_all (fit columns text) = encoded ∙ ap encode_utf8_all fits in
    spaced ∙ ap (λ l. l ++ replicate missing 32) put ∙ append_assoc line bytes (replicate missing 32)
    ∙ ap (λ b. line ++ (b ++ replicate missing 32)) front
    ∙ ap (λ k. line ++ (encode_utf8_all (fit columns text) ++ replicate k 32)) room
    ∙ ap (λ t. line ++ (encode_utf8_all (fit columns text) ++ t)) (sym (spaces (columns - columns_of (fit columns text))))
    ∙ ap (λ t. line ++ t) (sym (encodes-append (fit columns text) (replicate (columns - columns_of (fit columns text)) 32)))

-- a text behind a space
one_more : (line text : List ℕ) → encode_utf8_all (line ++ 32 ∷ text) ≡ (encode_utf8_all line ++ 32 ∷ []) ++ encode_utf8_all text
one_more line text =
    encodes-append line (32 ∷ text) ∙ ap (λ t. encode_utf8_all line ++ t) (behind_space text) ∙ sym (append_assoc (encode_utf8_all line) (32 ∷ []) (encode_utf8_all text))

-- one column more
pub more_put : (before between now front text : List ℕ) → before ≡ encode_utf8_all front → between ≡ before ++ 32 ∷ [] → now ≡ between ++ encode_utf8_all text → now ≡ encode_utf8_all (front ++ 32 ∷ text)
more_put before between now front text is space put =
    put ∙ ap (λ l. l ++ encode_utf8_all text) (space ∙ ap (λ l. l ++ 32 ∷ []) is) ∙ sym (one_more front text)

-- all columns
pub whole_row : (c : Columns) (row : List ℕ) → row ≡ encode_utf8_all (right 4 c.number ++ 32 ∷ field 7 c.path ++ 32 ∷ field 24 c.content_type ++ 32 ∷ right 8 c.size ++ 32 ∷ c.last) → row ≡ encode_utf8_all (row_of c)
unfolding row_of
whole_row c row e = e
