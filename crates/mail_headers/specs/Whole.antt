-- What a message is: its fields one behind the other, and behind them nothing, an empty line and the body, or at
-- once a body with which no field begins.
use Rattle.std.specs.Prelude.{◌≡◌, ◌⊎◌, ℕ, List, [], ◌∷◌, ◌++◌, length, Some, None}
use Rattle.mail_headers.specs.Lines.{folded_len, empty_line_len}
use Rattle.mail_headers.specs.Fields.{FieldText, field_in, first_field}

-- this text is the field: a line with all that continue it, before what follows
abbrev pub IsFieldText : List ℕ → List ℕ → FieldText → Type 0
IsFieldText text after field = (folded_len (text ++ after) ≡ length text) × (field_in text ≡ Some field)

-- these fields stand in front of the rest, and nothing between them
abbrev pub StandBefore : List FieldText → List ℕ → List ℕ → Type 0
StandBefore [] rest bytes = bytes ≡ rest
StandBefore (f ∷ fs) rest bytes =
    (text : List ℕ) × (after : List ℕ) × (bytes ≡ text ++ after) × IsFieldText text after f × StandBefore fs rest after

-- what stands behind the fields: nothing, an empty line and the body, or the body at once
abbrev pub IsBehind : List ℕ → List ℕ → Type 0
IsBehind body rest =
    ((rest ≡ []) × (body ≡ [])) ⊎ (rest ≡ 10 ∷ body) ⊎ (rest ≡ 13 ∷ 10 ∷ body)
    ⊎ ((empty_line_len rest ≡ 0) × (body ≡ rest))

-- these bytes are a message of these fields and this body
abbrev pub IsMessage : List FieldText → List ℕ → List ℕ → Type 0
IsMessage fields body bytes =
    (rest : List ℕ) × StandBefore fields rest bytes × (first_field rest ≡ None) × IsBehind body rest

-- and are no other
abbrev pub IsNoOther : List FieldText → List ℕ → List ℕ → Type 0
IsNoOther fields body bytes = (fs : List FieldText) → (b : List ℕ) → IsMessage fs b bytes → (fs ≡ fields) × (b ≡ body)
