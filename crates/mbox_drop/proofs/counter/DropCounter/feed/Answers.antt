use Rattle.std.proofs.Common.{◌≡◌, ◌+◌, ◌-◌, sym, ap, ◌∙◌, subst, arith}
use Rattle.mbox_drop.specs.Counting.{counted, grown_by}
use Rattle.mbox_drop.proofs.Counts.{CountsOn, counts_none, counts_more, counts_all}
use Rattle.mbox_drop.proofs.CountLeaps.{counts_leap}
use Rattle.mbox_drop.proofs.counter.DropCounter.feed.Goals as goal

pub bytes-init : goal.bytes-init
bytes-init c =
    let count : c.leap-start.result - 0 ≡ c.leap-start.result = omega arith in
    record {
      inside = c.leap-start.ensures.plain.high;
      counts = subst (λ x. CountsOn c.args.self.now x c.args.piece.now c.leap-start.result) (ap (λ n. grown_by c.args.self.now n) count ∙ sym c.grow-counter.ensures)
          (counts_leap c.args.self.now c.args.self.now c.args.piece.now 0 c.leap-start.result c.leap-start.ensures.plain (counts_none c.args.self.now c.args.piece.now));
    }

pub bytes-preserved : goal.bytes-preserved
bytes-preserved c =
    let self = c.args.self.now in
    let piece = c.args.piece.now in
    let step = counts_more self c.bytes.counter piece c.bytes.i c.bytes-test.true c.bytes.invariant.counts in
    let now_counted = subst (λ x. CountsOn self x piece (c.bytes.i + 1)) (ap (λ t. counted c.bytes.counter t) (sym c.turn.ensures) ∙ sym c.count-counted.ensures) step in
    let count : c.leap-next.result - (c.bytes.i + 1) ≡ c.leap-next.result - c.bytes.i - 1 = omega arith in
    record {
      inside = c.leap-next.ensures.plain.high;
      counts = subst (λ x. CountsOn self x piece c.leap-next.result) (ap (λ n. grown_by c.count-counted.result n) count ∙ sym c.grow-counter-in-bytes.ensures)
          (counts_leap self c.count-counted.result piece (c.bytes.i + 1) c.leap-next.result c.leap-next.ensures.plain now_counted);
    }

pub returns : goal.returns
returns c = λ d room start. counts_all c.args.self.now c.bytes.counter c.args.piece.now c.bytes.i c.bytes-test.false c.bytes.invariant.counts d room start
