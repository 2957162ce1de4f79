-- Names of fields.
use Rattle.std.specs.Prelude.{ℕ, Bool, List}
use Rattle.std.specs.Ordering.{nat_cmp}
use Rattle.std.specs.Cmp.Lexicographic.{slice_cmp}
use Rattle.std.specs.BTreeSet.{contains_by}
use Rattle.mh_sequences.specs.declared.field_names.FieldNames.{FieldNames}

-- the name is one of them
abbrev pub is_name_in : FieldNames → List ℕ → Bool
is_name_in f name = contains_by (λ k. slice_cmp nat_cmp name k.items) f.names
