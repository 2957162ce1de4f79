use Rattle.std.proofs.Common.{refl}
use Rattle.mime_tree.proofs.Lining.{line_ends, line_goes, line_is_all, feed, no_feed}
use Rattle.mime_tree.proofs.mark.line_len.Goals as goal

pub returns-then-byte-eq10-clause-value : goal.returns-then-byte-eq10-clause-value
returns-then-byte-eq10-clause-value c =
    line_ends c.args.text.now c.loop-i.i _ _ c.loop-i-test.true refl c.loop-i.invariant (feed _ c.if-byte-eq10.true)

pub loop-i-preserved : goal.loop-i-preserved
loop-i-preserved c =
    line_goes c.args.text.now c.loop-i.i _ _ c.loop-i-test.true refl c.loop-i.invariant (no_feed _ c.if-byte-eq10.false)

pub returns-clause-value : goal.returns-clause-value
returns-clause-value c = line_is_all c.args.text.now c.loop-i.i _ c.loop-i-test.false c.loop-i.auto.i-end c.loop-i.invariant
