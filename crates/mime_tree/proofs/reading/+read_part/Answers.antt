use Rattle.std.proofs.Common.{◌-◌, get_or, refl, subst, sym, arith}
use Rattle.mime_tree.specs.Trees.{IsPart}
use Rattle.mime_tree.specs.FoundPieces.{AreReady}
use Rattle.mime_tree.proofs.Growing.{no_kids, kid_more, lowest, ready_at, with_kids}
use Rattle.mime_tree.proofs.reading.+read_part.Goals as goal

pub returns-then-levels-eq0 : goal.returns-then-levels-eq0
returns-then-levels-eq0 t c =
    lowest c.args.levels c.args.bytes.now c.args.fallback c.args.path c.args.piece.span c.in_ok-opened.opened c.odd_at-odd.result c.new-kids.result.items c.part_of.result
    c.if-levels-eq0.true c.in_ok-opened.ensures.opens c.odd_at-odd.ensures c.new-kids.ensures.items c.part_of.ensures

pub loop-i-init : goal.loop-i-init
loop-i-init t c = no_kids (IsPart (c.args.levels - 1) c.args.bytes.now c.fallback-within.result) c.args.path c.deref-kid-items.result.now c.new-kids.result.items c.new-kids.ensures.items

pub loop-i-preserved : goal.loop-i-preserved
loop-i-preserved t c =
    kid_more (IsPart (c.args.levels - 1) c.args.bytes.now c.fallback-within.result) c.args.path c.in_ok-kid_path.kid_path c.loop-i.i c.deref-kid-items.result.now c.loop-i.kids.items c.push.new.self.items (get_or c.deref-kid-items.result.now c.loop-i.i _) _ c.in_ok-read_part.field-0
    c.loop-i-test.true refl c.in_ok-kid_path.ensures c.in_ok-push.ensures.items c.loop-i.invariant c.in_ok-read_part.ensures

pub returns : goal.returns
returns t c =
    with_kids c.args.levels c.args.bytes.now c.args.fallback c.fallback-within.result c.args.path c.args.piece.span c.in_ok-opened.opened c.odd_at-odd.result c.loop-i.i c.deref-kid-items.result.now c.loop-i.kids.items c.part_of-2.result
    c.if-levels-eq0.false c.in_ok-opened.ensures.opens c.odd_at-odd.ensures c.fallback-within.ensures c.deref-kid-items.ensures.value c.loop-i-test.false c.loop-i.invariant c.part_of-2.ensures

pub read_part-requires : goal.read_part-requires
read_part-requires t c = (
  omega (arith, c.decreases, c.if-levels-eq0.false),
  ready_at c.args.bytes.now c.deref-kid-items.result.now c.loop-i.i _ c.loop-i-test.true (subst (AreReady c.args.bytes.now) (sym c.deref-kid-items.ensures.value) c.in_ok-opened.ensures.ready),
)
