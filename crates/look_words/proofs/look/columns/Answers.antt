use Rattle.std.proofs.Common.{sym, ◌∙◌}
use Rattle.std.specs.Str.{encode_utf8_all}
use Rattle.look_words.proofs.Widths.{err_columns, ok_columns}
use Rattle.look_words.proofs.look.columns.Goals as goal

pub returns-in-Ok : goal.returns-in-Ok
returns-in-Ok c =
    let all = rw (c.as_bytes.ensures.value, c.as_str-text.ensures.bytes) at (sym c.are_digits.ensures ∙ c.if-are_digits.true) in
    c.within.ensures ∙ ok_columns (encode_utf8_all c.args.word.now) c.in-Ok.columns all (rw c.as_str-text.ensures.bytes at c.in-Ok.ensures.value.0)

pub returns-in-Err : goal.returns-in-Err
returns-in-Err c =
    let all = rw (c.as_bytes.ensures.value, c.as_str-text.ensures.bytes) at (sym c.are_digits.ensures ∙ c.if-are_digits.true) in
    err_columns (encode_utf8_all c.args.word.now) all (rw c.as_str-text.ensures.bytes at c.in-Err.ensures.value.0)
