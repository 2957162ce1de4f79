use Rattle.std.proofs.Common.{arith}
use Rattle.mime_tree.proofs.Bodies.{body_front, body_short, body_at_span, fronted_as}
use Rattle.mime_tree.proofs.reading.open.Goals as goal

pub overflow_sub-body : goal.overflow_sub-body
overflow_sub-body c =
    let f = fronted_as _ c.of.result.now _ c.body.result.now c.cut-message.ensures.bytes c.body.ensures (body_front _ _ _ c.cut-message.ensures.whole) in
    let short = body_short c.of.result.now c.body.result.now f in
    omega (arith, short, c.of.ensures.inside)

pub find_kids-requires-clause-inside : goal.find_kids-requires-clause-inside
find_kids-requires-clause-inside c =
    let f = fronted_as _ c.of.result.now _ c.body.result.now c.cut-message.ensures.bytes c.body.ensures (body_front _ _ _ c.cut-message.ensures.whole) in
    (body_at_span c.args.bytes.now c.of.result.now c.body.result.now c.args.piece.marks.now c.args.piece.span c.of.ensures.value c.requires.inside c.requires.marked f).inside

pub find_kids-requires-clause-marked : goal.find_kids-requires-clause-marked
find_kids-requires-clause-marked c =
    let f = fronted_as _ c.of.result.now _ c.body.result.now c.cut-message.ensures.bytes c.body.ensures (body_front _ _ _ c.cut-message.ensures.whole) in
    rw c.marks_behind-marks.ensures ((body_at_span c.args.bytes.now c.of.result.now c.body.result.now c.args.piece.marks.now c.args.piece.span c.of.ensures.value c.requires.inside c.requires.marked f).marked)
