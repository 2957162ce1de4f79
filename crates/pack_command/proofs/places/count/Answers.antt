use Rattle.std.proofs.Common.{◌≤◌, arith, subst, sym}
use Rattle.mh_sequences.proofs.Counting.{few}
use Rattle.pack_command.proofs.places.count.Goals as goal

pub overflow_cast-result : goal.overflow_cast-result
overflow_cast-result c = let small : c.len.result ≤ 999999 = subst (λ n. n ≤ 999999) (sym c.len.ensures) (few _ c.is_empty.ensures.valid) in omega (arith, small)

pub returns-else-is_empty-clause-range : goal.returns-else-is_empty-clause-range
returns-else-is_empty-clause-range c = subst (λ n. n ≤ 999999) (sym c.len.ensures) (few _ c.is_empty.ensures.valid)
