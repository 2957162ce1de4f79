use Rattle.std.proofs.Common.{sym}
use Rattle.mime_codes.proofs.Reading.{escapes, equals_stays, breaks_softly}
use Rattle.mime_codes.proofs.piece.from_equals.Goals as goal

pub returns-in-Some : goal.returns-in-Some
returns-in-Some c = escapes c.args.text.now c.args.behind.now c.in-Some.value c.requires c.in-Some.ensures

pub returns-then-end-eq0 : goal.returns-then-end-eq0
returns-then-end-eq0 c =
    equals_stays c.args.text.now c.args.behind.now _ _ _ c.requires (sym c.in_default.ensures) c.blank_len-blanks.ensures.value c.split_at.ensures.back c.line_end_len-end.ensures.value c.if-end-eq0.true

pub returns-else-end-eq0 : goal.returns-else-end-eq0
returns-else-end-eq0 c =
    breaks_softly c.args.text.now c.args.behind.now _ _ _ c.requires (sym c.in_default.ensures) c.blank_len-blanks.ensures.value c.blank_len-blanks.ensures.inside c.split_at.ensures.back
    c.line_end_len-end.ensures.value c.line_end_len-end.ensures.inside c.if-end-eq0.false
