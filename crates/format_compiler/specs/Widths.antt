-- Widths, as they are written. 48 to 57 are the digits.
use Rattle.std.specs.Prelude.{ℕ, ◌+◌, ◌-◌, ◌*◌, ◌==◌, ◌||◌, Bool, nat_lt, List, [], ◌∷◌, length, Option, Some, None, is_some, if◌then◌else◌}
use Rattle.format_compiler.specs.declared.width.Width.{Width}
use Rattle.mh_base.specs.Characters.{is_digit}

abbrev pub digit_value : ℕ → ℕ
digit_value c = if is_digit c then c - 48 else 0

-- a width of this number of columns, written with this digit first: a zero asks for zeros as fill
abbrev pub columns_by : ℕ → ℕ → Option (Option Width)
columns_by first columns =
    if columns == 0 then None else Some (Some (record { columns = columns; zeros = first == 48 }))

-- the width that these digits write: none without digits; else 1 to 3 of them, of which one isn't 0
abbrev pub width_of : List ℕ → Option (Option Width)
width_of [] = Some None
width_of (a ∷ []) = columns_by a (digit_value a)
width_of (a ∷ (b ∷ [])) = columns_by a (digit_value a * 10 + digit_value b)
width_of (a ∷ (b ∷ (c ∷ []))) = columns_by a ((digit_value a * 10 + digit_value b) * 10 + digit_value c)
width_of (a ∷ (b ∷ (c ∷ (d ∷ more)))) = None

-- a width begins with these digits
abbrev pub begins_width : List ℕ → Bool
begins_width digits = nat_lt (length digits) 3 || is_some (width_of digits)
