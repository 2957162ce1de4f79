use Rattle.mime_codes.proofs.Reading.{blanks_stay, blanks_vanish}
use Rattle.mime_codes.proofs.piece.from_blanks.Goals as goal

pub returns-then-line_end_len-eq0 : goal.returns-then-line_end_len-eq0
returns-then-line_end_len-eq0 c =
    blanks_stay c.args.text.now _ _ _ c.requires c.blank_len-len.ensures.value c.blank_len-len.ensures.inside c.split_at.ensures.back c.line_end_len.ensures.value c.if-line_end_len-eq0.true

pub returns-else-line_end_len-eq0 : goal.returns-else-line_end_len-eq0
returns-else-line_end_len-eq0 c =
    blanks_vanish c.args.text.now _ _ _ c.requires c.blank_len-len.ensures.value c.blank_len-len.ensures.inside c.split_at.ensures.back c.line_end_len.ensures.value c.if-line_end_len-eq0.false
