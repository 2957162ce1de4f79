use Rattle.std.proofs.Common.{ℕ, List, sym, ap, ◌∙◌}
use Rattle.part_rows.specs.Choices.{is_missing}
use Rattle.part_rows.specs.PartViews.{parts_of}
use Rattle.part_rows.proofs.Missing.{missing_here, missing_later, none_found}
use Rattle.part_rows.proofs.Naming.{missing_named}
use Rattle.part_rows.proofs.message.MessageParts.first_missing.Goals as goal

pub returns-then-is_none : goal.returns-then-is_none
returns-then-is_none c =
    let found = none_found (λ p. p.now) c.part.result c.is_none.result _ c.part.ensures c.is_none.ensures in
    missing_here (parts_of c.args.self.now) c.args.wanted.now c.loop-path.path-index c.path-item.result _ c.loop-path-test.true c.path-item.is
    (ap (λ (b : List ℕ). is_missing (parts_of b) c.path-item.result) (sym c.self.view_is) ∙ missing_named c.self.inside.bytes.now c.self.inside.tree.root c.path-item.result c.self.invariant.1 ∙ found ∙ c.if-is_none.true)
    c.loop-path.invariant

pub loop-path-preserved : goal.loop-path-preserved
loop-path-preserved c =
    let found = none_found (λ p. p.now) c.part.result c.is_none.result _ c.part.ensures c.is_none.ensures in
    missing_later (parts_of c.args.self.now) c.args.wanted.now c.loop-path.path-index c.path-item.result _ c.loop-path-test.true c.path-item.is
    (ap (λ (b : List ℕ). is_missing (parts_of b) c.path-item.result) (sym c.self.view_is) ∙ missing_named c.self.inside.bytes.now c.self.inside.tree.root c.path-item.result c.self.invariant.1 ∙ found ∙ c.if-is_none.false)
    c.loop-path.invariant
