use Rattle.std.proofs.Common.{map, ap, sym, ◌∙◌, take_all}
use Rattle.std.proofs.lemmas.Simd.{map-map}
use Rattle.part_rows.specs.Choices.{listed}
use Rattle.part_rows.specs.PartViews.{parts_of, view_of}
use Rattle.part_rows.specs.Rows.{part_row}
use Rattle.part_rows.proofs.message.MessageParts.rows.Goals as goal

pub returns : goal.returns
returns c =
    c.loop-part.invariant
    ∙ ap (map (λ p. part_row c.args.number (view_of c.args.self.now p.now))) (take_all c.loop-part.part-index c.deref-part-items.result.now c.loop-part-test.false ∙ c.deref-part-items.ensures.value)
    ∙ sym (map-map (part_row c.args.number) (λ p. view_of c.args.self.now p.now) c.in_ok-parts.parts.items)
    ∙ ap (map (part_row c.args.number)) c.in_ok-parts.ensures
    ∙ ap (λ w. map (part_row c.args.number) (listed w (parts_of c.args.self.now))) c.in_ok-of.ensures
