use Rattle.std.proofs.Common.{◌-◌, w64, arith, ap, sym, ◌∙◌, refl}
use Rattle.std.specs.Prelude.{pos}
use Rattle.std.proofs.lemmas.Int.{to_z_pos}
use Rattle.format_run.proofs.TextCalls.{digit_more, digits_out, digits_stop}
use Rattle.format_run.proofs.texts.leading_digits.Goals as goal

pub returns-then-not-is_digit : goal.returns-then-not-is_digit
returns-then-not-is_digit c =
    to_z_pos w64 c.loop-c.n (omega arith)
    ∙ ap pos (digits_stop c.args.text.now c.loop-c.c-index c.c-item.result c.loop-c.n 9223372036854775807 _ c.c-item.result c.loop-c-test.true c.c-item.is
    (sym c.is_digit.ensures ∙ c.if-not-is_digit.true) c.loop-c.invariant.0 c.loop-c.invariant.1)

pub loop-c-preserved : goal.loop-c-preserved
loop-c-preserved c = (
  omega arith,
  digit_more c.args.text.now c.loop-c.c-index c.c-item.result c.loop-c.n (c.c-item.result - 48) c.with_digit-n.result 9223372036854775807 _ c.c-item.result c.loop-c-test.true c.c-item.is
      (sym c.is_digit.ensures ∙ c.if-not-is_digit.false) refl c.with_digit-n.ensures c.loop-c.invariant.1,
)

pub returns : goal.returns
returns c =
    to_z_pos w64 c.loop-c.n (omega arith)
    ∙ ap pos (digits_out c.args.text.now c.loop-c.c-index c.loop-c.n 9223372036854775807 _ c.loop-c-test.false c.loop-c.invariant.0 c.loop-c.invariant.1)
