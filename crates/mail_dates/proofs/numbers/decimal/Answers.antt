use Rattle.std.proofs.Common.{arith, ap, ◌∙◌, Some}
use Rattle.mail_dates.proofs.Digits.{digit_read, no_digit, digits_read}
use Rattle.mail_dates.proofs.numbers.decimal.Goals as goal

pub returns-in-None-clause-value : goal.returns-in-None-clause-value
returns-in-None-clause-value c = no_digit c.loop-byte.number c.loop-byte.byte-index c.args.word.now _ c.loop-byte-test.true c.in-None.ensures.value c.loop-byte.invariant.value

pub loop-byte-preserved : goal.loop-byte-preserved
loop-byte-preserved c =
    let small = c.in-Some.ensures.small in
    let same = c.from.ensures in
    let before = c.loop-byte.invariant in
    record {
      none = omega arith;
      one = omega (arith, small, same, before.none);
      two = omega (arith, small, same, before.one);
      three = omega (arith, small, same, before.two);
      all = omega (arith, small, same, before.three, c.loop-byte-test.true, c.requires);
      value = digit_read c.loop-byte.number c.from.result c.loop-byte.byte-index c.args.word.now _ c.loop-byte-test.true (ap Some same ∙ c.in-Some.ensures.value) before.value;
    }

pub returns-clause-value : goal.returns-clause-value
returns-clause-value c = digits_read c.loop-byte.number c.loop-byte.byte-index c.args.word.now _ c.loop-byte-test.false c.loop-byte.invariant.value
