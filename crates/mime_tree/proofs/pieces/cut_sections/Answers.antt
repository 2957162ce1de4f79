use Rattle.std.proofs.Common.{List, ℕ, sym, ◌∙◌, refl, subst, arith, get_or, drop, ◌+◌, length}
use Rattle.std.proofs.lemmas.List.{drop_all}
use Rattle.mime_tree.specs.BoundaryLines.{lines}
use Rattle.mime_tree.specs.Pieces.{section, section_pieces}
use Rattle.mime_tree.specs.Spans.{text_at}
use Rattle.mime_tree.proofs.Marking.{Beyond}
use Rattle.mime_tree.proofs.Sections.{Stands, stands, stand_above, passes, bounds, closes, ends_with, ok_found, ok_ready, at_next}
use Rattle.mime_tree.proofs.pieces.cut_sections.Goals.{in-Other, in-Boundary+in_ok-push-in-Boundary}
use Rattle.mime_tree.proofs.pieces.cut_sections.Goals as goal

pub overflow_sub-len : goal.overflow_sub-len
overflow_sub-len c =
    stand_above c.args.bytes.now c.args.body.to c.args.boundary.now _ _ _ c.loop-i.pieces.items c.loop-i.from c.loop-i.begun.now c.loop-i.own.now (at_next c.loop-i.i c.args.marks.now c.loop-i-test.true c.loop-i.invariant)

pub loop-i-init : goal.loop-i-init
loop-i-init c =
    rw c.of-begun.ensures.value (stands c.args.bytes.now c.args.boundary.now c.args.marks.now c.args.body c.new-pieces.result.items c.new-pieces.ensures.items c.requires.inside c.requires.marked)

pub loop-i-preserved : goal.loop-i-preserved
loop-i-preserved c =
    let st = at_next c.loop-i.i c.args.marks.now c.loop-i-test.true c.loop-i.invariant in
    elim c.match-of.branch [
      | in-Other w ↦
          rw (w.pieces-is, w.from-is, w.begun-is, w.own-is)
          (passes c.args.bytes.now c.args.body.to c.args.boundary.now _ _ _ c.loop-i.pieces.items c.loop-i.from c.loop-i.begun.now c.loop-i.own.now c.split_at.result.0.now c.split_at.result.1.now c.split_at-in-loop-i.result.0.now c.split_at-in-loop-i.result.1.now _ c.line_len.result
          refl c.if-begun-len.false c.split_at.ensures.front c.split_at.ensures.back c.line_len.ensures.value c.split_at-in-loop-i.ensures.front c.split_at-in-loop-i.ensures.back (sym c.of.ensures ∙ w.in-Other.is) st)
      | in-Boundary+in_ok-push-in-Boundary w ↦
          rw (w.pieces-is, w.from-is, w.begun-is, w.own-is)
          (subst (λ ms. Stands c.args.bytes.now c.args.body.to c.args.boundary.now (section_pieces c.args.body.from (section c.args.boundary.now c.args.body.from (lines (text_at c.args.bytes.now c.args.body)))) (drop (c.loop-i.i + 1) c.args.marks.now) w.push.new.self.items (get_or c.args.marks.now c.loop-i.i 0 + length c.split_at-in-loop-i.result.0.now) c.split_at-in-loop-i.result.1.now ms) (sym w.split_at-in-Boundary.ensures.back)
          (bounds c.args.bytes.now c.args.body.to c.args.boundary.now _ _ _ c.loop-i.pieces.items w.push.new.self.items w.piece_of-in-Boundary.result c.loop-i.from _ c.loop-i.begun.now c.loop-i.own.now c.split_at.result.0.now c.split_at.result.1.now c.split_at-in-loop-i.result.0.now c.split_at-in-loop-i.result.1.now w.without_line_end.result.now _ c.line_len.result
          refl c.if-begun-len.false c.split_at.ensures.front c.split_at.ensures.back c.line_len.ensures.value c.split_at-in-loop-i.ensures.front c.split_at-in-loop-i.ensures.back (sym c.of.ensures ∙ w.in-Boundary.is)
          w.without_line_end.ensures w.piece_of-in-Boundary.ensures.span w.piece_of-in-Boundary.ensures.marks w.in_ok-push-in-Boundary.ensures.items refl st))
    ]

pub returns-then-begun-len-clause-found : goal.returns-then-begun-len-clause-found
returns-then-begun-len-clause-found c =
    let st = at_next c.loop-i.i c.args.marks.now c.loop-i-test.true c.loop-i.invariant in
    let low = stand_above c.args.bytes.now c.args.body.to c.args.boundary.now _ _ _ c.loop-i.pieces.items c.loop-i.from c.loop-i.begun.now c.loop-i.own.now st in
    let h = ends_with c.args.bytes.now c.args.body.to c.args.boundary.now _ _ c.loop-i.pieces.items _ c.piece_of.result c.loop-i.from c.loop-i.begun.now c.loop-i.own.now (omega (arith, c.if-begun-len.true, low)) c.piece_of.ensures.span c.piece_of.ensures.marks refl st in
    ok_found c.with_last.result _ _ _ c.with_last.ensures.all c.with_last.ensures.odd h.0

pub returns-then-begun-len-clause-ready : goal.returns-then-begun-len-clause-ready
returns-then-begun-len-clause-ready c =
    let st = at_next c.loop-i.i c.args.marks.now c.loop-i-test.true c.loop-i.invariant in
    let low = stand_above c.args.bytes.now c.args.body.to c.args.boundary.now _ _ _ c.loop-i.pieces.items c.loop-i.from c.loop-i.begun.now c.loop-i.own.now st in
    let h = ends_with c.args.bytes.now c.args.body.to c.args.boundary.now _ _ c.loop-i.pieces.items _ c.piece_of.result c.loop-i.from c.loop-i.begun.now c.loop-i.own.now (omega (arith, c.if-begun-len.true, low)) c.piece_of.ensures.span c.piece_of.ensures.marks refl st in
    ok_ready c.args.bytes.now c.with_last.result _ c.with_last.ensures.all h.1

pub returns-in-Closing-clause-found : goal.returns-in-Closing-clause-found
returns-in-Closing-clause-found c =
    let st = at_next c.loop-i.i c.args.marks.now c.loop-i-test.true c.loop-i.invariant in
    let h =
    closes c.args.bytes.now c.args.body.to c.args.boundary.now _ _ _ c.loop-i.pieces.items _ c.piece_of-in-Closing.result c.loop-i.from c.loop-i.begun.now c.loop-i.own.now c.split_at.result.0.now c.split_at.result.1.now c.split_at-in-loop-i.result.0.now c.split_at-in-loop-i.result.1.now c.without_line_end-in-Closing.result.now _ c.line_len.result
    refl c.if-begun-len.false c.split_at.ensures.front c.split_at.ensures.back c.line_len.ensures.value c.split_at-in-loop-i.ensures.front c.split_at-in-loop-i.ensures.back (sym c.of.ensures ∙ c.in-Closing.is)
    c.without_line_end-in-Closing.ensures c.piece_of-in-Closing.ensures.span c.piece_of-in-Closing.ensures.marks refl st in
    ok_found c.with_last-in-Closing.result _ _ _ c.with_last-in-Closing.ensures.all c.with_last-in-Closing.ensures.odd h.0

pub returns-in-Closing-clause-ready : goal.returns-in-Closing-clause-ready
returns-in-Closing-clause-ready c =
    let st = at_next c.loop-i.i c.args.marks.now c.loop-i-test.true c.loop-i.invariant in
    let h =
    closes c.args.bytes.now c.args.body.to c.args.boundary.now _ _ _ c.loop-i.pieces.items _ c.piece_of-in-Closing.result c.loop-i.from c.loop-i.begun.now c.loop-i.own.now c.split_at.result.0.now c.split_at.result.1.now c.split_at-in-loop-i.result.0.now c.split_at-in-loop-i.result.1.now c.without_line_end-in-Closing.result.now _ c.line_len.result
    refl c.if-begun-len.false c.split_at.ensures.front c.split_at.ensures.back c.line_len.ensures.value c.split_at-in-loop-i.ensures.front c.split_at-in-loop-i.ensures.back (sym c.of.ensures ∙ c.in-Closing.is)
    c.without_line_end-in-Closing.ensures c.piece_of-in-Closing.ensures.span c.piece_of-in-Closing.ensures.marks refl st in
    ok_ready c.args.bytes.now c.with_last-in-Closing.result _ c.with_last-in-Closing.ensures.all h.1

pub returns-clause-found : goal.returns-clause-found
returns-clause-found c =
    let none = drop_all c.loop-i.i c.args.marks.now c.loop-i-test.false in
    let h = ends_with c.args.bytes.now c.args.body.to c.args.boundary.now _ _ c.loop-i.pieces.items _ c.piece_of-2.result c.loop-i.from c.loop-i.begun.now c.loop-i.own.now (subst (λ (ms : List ℕ). Beyond (c.loop-i.from + length c.loop-i.begun.now) ms) (sym none) tt) c.piece_of-2.ensures.span c.piece_of-2.ensures.marks refl c.loop-i.invariant in
    ok_found c.with_last-2.result _ _ _ c.with_last-2.ensures.all c.with_last-2.ensures.odd h.0

pub returns-clause-ready : goal.returns-clause-ready
returns-clause-ready c =
    let none = drop_all c.loop-i.i c.args.marks.now c.loop-i-test.false in
    let h = ends_with c.args.bytes.now c.args.body.to c.args.boundary.now _ _ c.loop-i.pieces.items _ c.piece_of-2.result c.loop-i.from c.loop-i.begun.now c.loop-i.own.now (subst (λ (ms : List ℕ). Beyond (c.loop-i.from + length c.loop-i.begun.now) ms) (sym none) tt) c.piece_of-2.ensures.span c.piece_of-2.ensures.marks refl c.loop-i.invariant in
    ok_ready c.args.bytes.now c.with_last-2.result _ c.with_last-2.ensures.all h.1
