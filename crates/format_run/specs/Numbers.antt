-- Whole numbers of 64 bits.
use Rattle.std.specs.Prelude.{zero, suc, Bool, true, false, ℤ, pos, negsuc, int_div, int_rem, if◌then◌else◌}
use Rattle.std.specs.Int.{saturate_signed, w64}

-- 1 for yes, 0 for no
abbrev pub truth : Bool → ℤ
truth true = pos 1
truth false = pos 0

-- a number isn't 0
abbrev pub is_not_zero : ℤ → Bool
is_not_zero (pos zero) = false
is_not_zero (pos (suc n)) = true
is_not_zero (negsuc n) = true

-- a number, or the nearest one of 64 bits
abbrev pub held : ℤ → ℤ
held n = saturate_signed w64 n

-- the quotient toward 0, and 0 where the divisor is 0
abbrev pub quotient : ℤ → ℤ → ℤ
quotient n divisor = if is_not_zero divisor then held (int_div n divisor) else pos 0

-- the remainder, with the sign of the number, and 0 where the divisor is 0
abbrev pub remainder : ℤ → ℤ → ℤ
remainder n divisor = if is_not_zero divisor then int_rem n divisor else pos 0
