use Rattle.std.proofs.Common.{[], ◌∷◌, ◌++◌, sym, ◌∙◌, refl}
use Rattle.mail_dates.specs.Words.{is_separator}
use Rattle.mail_dates.proofs.Cutting.{view_pushed, token_pushed, word_before, word_last, word_grows}
use Rattle.mail_dates.proofs.word.next_word.Goals as goal

pub loop-byte-init : goal.loop-byte-init
loop-byte-init c = (c.in_ok-first.first ∷ [], view_pushed c.in_ok-first.first [] c.new-word.result c.push.new.self c.new-word.ensures c.push.ensures, c.in_ok-first.ensures.0, refl)

pub returns-then-is_separator : goal.returns-then-is_separator
returns-then-is_separator c =
    let token = c.loop-byte.invariant.0 in
    (token, c.in_ok-first.ensures.1 ∙ sym c.loop-byte.invariant.3 ∙ word_before is_separator token _ _ c.in-Some.byte c.loop-byte.invariant.2 (sym c.is_separator.ensures ∙ c.if-is_separator.true) c.in-Some.ensures, c.loop-byte.invariant.1)

pub loop-byte-preserved : goal.loop-byte-preserved
loop-byte-preserved c =
    let token = c.loop-byte.invariant.0 in (
      token ++ c.in-Some.byte ∷ [],
      view_pushed c.in-Some.byte token c.loop-byte.word c.push-in-Some.new.self c.loop-byte.invariant.1 c.push-in-Some.ensures,
      token_pushed is_separator c.in-Some.byte token c.loop-byte.invariant.2 (sym c.is_separator.ensures ∙ c.if-is_separator.false),
      word_grows is_separator token _ _ c.in-Some.byte _ c.in-Some.ensures c.loop-byte.invariant.3,
    )

pub returns : goal.returns
returns c =
    let token = c.loop-byte.invariant.0 in
    (token, c.in_ok-first.ensures.1 ∙ sym c.loop-byte.invariant.3 ∙ word_last is_separator token _ _ c.loop-byte.invariant.2 c.in_default.ensures.0 c.in_default.ensures.1, c.loop-byte.invariant.1)
