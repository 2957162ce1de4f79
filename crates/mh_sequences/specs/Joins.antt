-- Two sets joined to one.
use Rattle.std.specs.Prelude.{Bool, not, ◌&&◌, ◌||◌}
use Rattle.mh_sequences.specs.declared.join.Join.{Join}
use Rattle.mh_sequences.specs.declared.join.Join.TheVariants.{Both, Either, FirstAlone, Second}

-- whether the joined set has a number, by whether the first and the second have it
abbrev pub joins : Join → Bool → Bool → Bool
joins Both a b = a && b
joins Either a b = a || b
joins FirstAlone a b = a && not b
joins Second a b = b
