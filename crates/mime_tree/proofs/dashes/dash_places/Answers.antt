use Rattle.std.proofs.Common.{sym, ◌∙◌, arith}
use Rattle.mime_tree.proofs.Emptiness.{some_bytes, no_bytes}
use Rattle.mime_tree.proofs.Lining.{line_some}
use Rattle.mime_tree.proofs.Marking.{mark_more, marks_end, marks_start}
use Rattle.mime_tree.proofs.dashes.dash_places.Goals as goal

pub loop-rest-init : goal.loop-rest-init
loop-rest-init c = (omega arith, marks_start c.args.bytes.now c.new-marks.result.items c.new-marks.ensures.items)

pub loop-rest-smaller : goal.loop-rest-smaller
loop-rest-smaller c =
    let some = some_bytes c.loop-rest.rest.now (sym c.is_empty.ensures ∙ c.loop-rest-test.true) in
    let line = line_some c.loop-rest.rest.now some in
    omega (arith, c.line_len.ensures.value, c.split_at.ensures.back_len)

pub loop-rest-preserved : goal.loop-rest-preserved
loop-rest-preserved c =
    let a = c.loop-rest.invariant in
    let some = some_bytes c.loop-rest.rest.now (sym c.is_empty.ensures ∙ c.loop-rest-test.true) in (
      omega (arith, a.0, c.split_at.ensures.front_len, c.split_at.ensures.back_len),
      mark_more c.loop-rest.rest.now c.split_at.result.0.now c.split_at.result.1.now c.loop-rest.place c.line_len.result c.loop-rest.marks.items c.put_place.new.marks.items c.args.bytes.now some c.line_len.ensures.value c.split_at.ensures.front c.split_at.ensures.back c.in_ok-put_place.ensures a.1,
    )

pub returns : goal.returns
returns c =
    marks_end c.loop-rest.rest.now c.loop-rest.place c.loop-rest.marks.items c.args.bytes.now (no_bytes c.loop-rest.rest.now (sym c.is_empty.ensures ∙ c.loop-rest-test.false)) c.loop-rest.invariant.1
