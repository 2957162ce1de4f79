use Rattle.std.proofs.Common.{subst, sym}
use Rattle.std.specs.List.Sorted.{IsPermutation}
use Rattle.mh_sequences.proofs.Bools.{ok_then}
use Rattle.mh_sequences.proofs.MovedPairs.{all_moved}
use Rattle.mh_sequences.proofs.sequences.Sequences.move_all.Goals as goal

pub returns-clause-ok : goal.returns-clause-ok
returns-clause-ok c =
    ok_then _ _ c.change.result
    (λ is. all_moved c.args.pairs.now c.deref-2.result.now _ _ (subst (λ ps. IsPermutation c.args.pairs.now ps) (sym c.deref-2.ensures.value) c.in_ok-ordered.ensures.same) is)
    c.change.ensures.ok
