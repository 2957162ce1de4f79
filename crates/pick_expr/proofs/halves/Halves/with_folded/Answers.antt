use Rattle.std.proofs.Common.{◌==◌, ◌||◌, sym, ◌∙◌}
use Rattle.pick_expr.specs.Places.{in_halves}
use Rattle.pick_expr.proofs.ByteSets.{with_upper}
use Rattle.pick_expr.proofs.halves.Halves.with_folded.Goals as goal

pub returns-then-is_ascii_lowercase : goal.returns-then-is_ascii_lowercase
returns-then-is_ascii_lowercase c = λ b.
    c.with-then-is_ascii_lowercase.ensures b
    ∙ (λ i. b == c.to_ascii_uppercase.ensures.value i || c.with.ensures b i)
    ∙ with_upper c.args.byte b (in_halves c.args.self b) (sym c.is_ascii_lowercase.ensures.value ∙ c.if-is_ascii_lowercase.true)
