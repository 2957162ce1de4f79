-- What a directory entry may be called.
use Rattle.std.specs.Prelude.{◌≡◌, ℕ, ◌≤◌, ◌&&◌, Bool, true, not, nat_eq, List, length}
use Rattle.std.specs.List.{list_all}

-- a byte that a name may hold: any but zero and the slash
abbrev pub is_name_byte : ℕ → Bool
is_name_byte b = not (nat_eq b 0) && not (nat_eq b 47)

-- 1 to 255 such bytes
pub record IsName (bytes : List ℕ) : Type 0 where
  pub some : 1 ≤ length bytes
  pub short : length bytes ≤ 255
  pub clean : list_all is_name_byte bytes ≡ true
