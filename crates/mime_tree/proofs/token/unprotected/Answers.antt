use Rattle.std.proofs.Common.{◌∙◌, refl}
use Rattle.mime_tree.proofs.Quoting.{kept, all_kept}
use Rattle.mime_tree.proofs.token.unprotected.Goals as goal

pub loop-byte-preserved : goal.loop-byte-preserved
loop-byte-preserved c = kept _ _ _ c.loop-byte.byte-index _ _ _ _ c.loop-byte-test.true refl (c.in_ok-protected.ensures) c.loop-byte.invariant

pub returns : goal.returns
returns c = c.from_vec.ensures ∙ all_kept _ _ _ c.loop-byte.byte-index _ c.loop-byte-test.false c.loop-byte.invariant
