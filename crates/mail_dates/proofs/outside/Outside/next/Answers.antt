use Rattle.std.proofs.Common.{arith}
use Rattle.std.proofs.lemmas.List.{nil_from_length}
use Rattle.mail_dates.proofs.Commenting.{text_ended, ended, byte_given, opened_first, opened, closed, protected, other_inside}
use Rattle.mail_dates.proofs.outside.Outside.next.Goals as goal

pub returns-then-byte-ne40 : goal.returns-then-byte-ne40
returns-then-byte-ne40 c = byte_given c.loop-byte.depth c.in-Some.byte.now c.loop-byte.self.rest.now c.in-Some.behind.now _ c.if-depth-eq0.true c.if-byte-ne40.true c.in-Some.ensures.cases.0 c.loop-byte.invariant.left

pub loop-byte-preserved-then-depth-eq0 : goal.loop-byte-preserved-then-depth-eq0
loop-byte-preserved-then-depth-eq0 c = record {
  fits = omega (arith, c.in-Some.ensures.cases.1, c.loop-byte.invariant.fits, c.if-depth-eq0.true);
  left = opened_first c.loop-byte.depth c.in-Some.byte.now c.loop-byte.self.rest.now c.in-Some.behind.now _ c.if-depth-eq0.true c.if-byte-ne40.false c.in-Some.ensures.cases.0 c.loop-byte.invariant.left;
}

pub loop-byte-preserved-then-byte-eq40 : goal.loop-byte-preserved-then-byte-eq40
loop-byte-preserved-then-byte-eq40 c = record {
  fits = omega (arith, c.in-Some.ensures.cases.1, c.loop-byte.invariant.fits);
  left = opened c.loop-byte.depth c.in-Some.byte.now c.loop-byte.self.rest.now c.in-Some.behind.now _ c.if-depth-eq0.false c.if-byte-eq40.true c.in-Some.ensures.cases.0 c.loop-byte.invariant.left;
}

pub loop-byte-preserved-then-byte-eq41 : goal.loop-byte-preserved-then-byte-eq41
loop-byte-preserved-then-byte-eq41 c = record {
  fits = omega (arith, c.in-Some.ensures.cases.1, c.loop-byte.invariant.fits);
  left = closed c.loop-byte.depth c.in-Some.byte.now c.loop-byte.self.rest.now c.in-Some.behind.now _ c.if-depth-eq0.false c.if-byte-eq41.true c.in-Some.ensures.cases.0 c.loop-byte.invariant.left;
}

pub loop-byte-preserved-then-byte-eq92 : goal.loop-byte-preserved-then-byte-eq92
loop-byte-preserved-then-byte-eq92 c = record {
  fits = omega (arith, c.in-Some.ensures.cases.1, c.loop-byte.invariant.fits, c.split_at.ensures.back_len);
  left = protected c.loop-byte.depth c.in-Some.byte.now _ c.loop-byte.self.rest.now c.in-Some.behind.now c.split_at.result.1.now _ c.if-depth-eq0.false c.if-byte-eq92.true c.in-Some.ensures.cases.0 c.min.ensures c.split_at.ensures.back c.loop-byte.invariant.left;
}

pub loop-byte-preserved : goal.loop-byte-preserved
loop-byte-preserved c = record {
  fits = omega (arith, c.in-Some.ensures.cases.1, c.loop-byte.invariant.fits);
  left = other_inside c.loop-byte.depth c.in-Some.byte.now c.loop-byte.self.rest.now c.in-Some.behind.now _ c.if-depth-eq0.false c.if-byte-eq92.false c.if-byte-eq40.false c.if-byte-eq41.false c.in-Some.ensures.cases.0 c.loop-byte.invariant.left;
}

pub returns : goal.returns
returns c =
    let none = nil_from_length c.loop-byte.self.rest.now c.in_default.ensures.cases in
    (text_ended c.loop-byte.depth c.loop-byte.self.rest.now _ none c.loop-byte.invariant.left, ended c.loop-byte.self.rest.now none)
