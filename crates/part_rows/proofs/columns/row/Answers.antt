use Rattle.std.proofs.Common.{◌∷◌, ◌++◌, ◌∙◌, ap}
use Rattle.std.specs.Str.{encode_utf8_all}
use Rattle.line_rows.specs.Fields.{field}
use Rattle.part_rows.specs.Rows.{right}
use Rattle.part_rows.proofs.Encoding.{more_put, whole_row}
use Rattle.part_rows.proofs.columns.row.Goals as goal

pub returns : goal.returns
returns c =
    let s = c.args.columns.now in
    let first = c.in_ok-put_right.ensures ∙ ap (λ l. l ++ encode_utf8_all (right 4 s.number)) c.new-row.ensures in
    let path = more_put c.put_right.new.line c.extend.new.self c.put_left.new.line (right 4 s.number) (field 7 s.path) first c.in_ok-extend.ensures.ok c.in_ok-put_left.ensures in
    let kind = more_put c.put_left.new.line c.extend-2.new.self c.put_left-2.new.line (right 4 s.number ++ 32 ∷ field 7 s.path) (field 24 s.content_type) path c.in_ok-extend-2.ensures.ok c.in_ok-put_left-2.ensures in
    let size = more_put c.put_left-2.new.line c.extend-3.new.self c.put_right-2.new.line (right 4 s.number ++ 32 ∷ field 7 s.path ++ 32 ∷ field 24 s.content_type) (right 8 s.size) kind c.in_ok-extend-3.ensures.ok c.in_ok-put_right-2.ensures in
    let last = c.in_ok-extend-5.ensures.ok ∙ ap (λ b. c.extend-4.new.self ++ b) (c.as_bytes.ensures.value ∙ c.as_str.ensures.bytes) in
    whole_row s c.extend-5.new.self
    (more_put c.put_right-2.new.line c.extend-4.new.self c.extend-5.new.self (right 4 s.number ++ 32 ∷ field 7 s.path ++ 32 ∷ field 24 s.content_type ++ 32 ∷ right 8 s.size) s.last size c.in_ok-extend-4.ensures.ok last)
