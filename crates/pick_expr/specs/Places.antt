-- Small sets of numbers, and sets of bytes in two halves.
use Rattle.std.specs.Prelude.{ℕ, zero, suc, ◌-◌, ◌==◌, Bool, nat_lt, List, [], ◌∷◌, if◌then◌else◌}
use Rattle.std.specs.Int.{bit_at}
use Rattle.pick_expr.specs.declared.places.Places.{Places}
use Rattle.pick_expr.specs.declared.halves.Halves.{Halves}

-- the number is in the set: its bit is 1
abbrev pub has_place : Places → ℕ → Bool
has_place p i = bit_at p.bits i == 1

-- the byte is in the half below 128, or in the one above
abbrev pub in_halves : Halves → ℕ → Bool
in_halves s b = if nat_lt b 128 then has_place s.low b else has_place s.high (b - 128)

-- so many numbers from this one on
abbrev pub numbers_from : ℕ → ℕ → List ℕ
numbers_from n zero = []
numbers_from n (suc count) = n ∷ numbers_from (suc n) count

-- all bytes, ascending
unfoldable pub every_byte : List ℕ
every_byte = numbers_from 0 256
