-- Which bytes the atoms of a pattern admit.
use Rattle.std.specs.Prelude.{ℕ, ◌==◌, ◌&&◌, ◌||◌, Bool, true, not, nat_le, List, if◌then◌else◌}
use Rattle.std.specs.Char.{to_ascii_lowercase}
use Rattle.std.specs.List.{list_any}
use Rattle.pick_expr.specs.declared.atom.Atom.{Atom}
use Rattle.pick_expr.specs.declared.atom.Atom.TheVariants.{Any, Byte, Class}
use Rattle.pick_expr.specs.declared.member.Member.{Member}
use Rattle.pick_expr.specs.declared.member.Member.TheVariants.{Single, Range}

-- a byte of a pattern matches itself; a lower-case letter matches in both cases
abbrev pub matches_byte : ℕ → ℕ → Bool
matches_byte wanted b = b == wanted || to_ascii_lowercase b == wanted

-- the bytes of a member of a class: a range is exact
abbrev pub in_member : Member → ℕ → Bool
in_member (Single wanted) b = matches_byte wanted b
in_member (Range low high) b = nat_le low b && nat_le b high

abbrev pub in_members : List Member → ℕ → Bool
in_members members b = list_any (λ m. in_member m b) members

-- the atom admits the byte
abbrev pub admits : Atom → ℕ → Bool
admits Any b = true
admits (Byte wanted) b = matches_byte wanted b
admits (Class negated bytes) b = if negated then not (list_any (λ x. x == b) bytes) else list_any (λ x. x == b) bytes
