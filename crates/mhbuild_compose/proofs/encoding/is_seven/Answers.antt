use Rattle.std.proofs.Common.{sym, ◌∙◌, refl}
use Rattle.mhbuild_compose.proofs.Walking.{fits_end, fits_not, fits_on}
use Rattle.mhbuild_compose.proofs.encoding.is_seven.Goals as goal

pub loop-byte-preserved : goal.loop-byte-preserved
loop-byte-preserved c = fits_on c.args.text.now c.loop-byte.column c.in-Some.next c.loop-byte.byte-index _ _ c.loop-byte-test.true refl (sym c.column_behind.ensures ∙ c.in-Some.is) c.loop-byte.invariant

pub returns-in-None : goal.returns-in-None
returns-in-None c = fits_not c.args.text.now c.loop-byte.column c.loop-byte.byte-index _ _ c.loop-byte-test.true refl (sym c.column_behind.ensures ∙ c.in-None.is) c.loop-byte.invariant

pub returns : goal.returns
returns c = fits_end c.args.text.now c.loop-byte.column c.loop-byte.byte-index _ c.loop-byte-test.false c.loop-byte.invariant
