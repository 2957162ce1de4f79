-- The digits that the code keeps.
use Rattle.std.specs.Prelude.{ℕ, Bool, List}
use Rattle.std.specs.Ordering.{nat_cmp}
use Rattle.std.specs.Cmp.Lexicographic.{slice_cmp}
use Rattle.std.specs.BTreeSet.{contains_by}
use Rattle.mhbuild_compose.specs.declared.keys.Keys.{Keys}

-- the digits are among them
abbrev pub has_digits : Keys → List ℕ → Bool
has_digits keys digits = contains_by (λ k. slice_cmp nat_cmp digits k.items) keys.digits
