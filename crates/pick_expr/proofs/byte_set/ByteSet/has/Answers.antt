use Rattle.std.proofs.Common.{◌==◌, ap, sym, ◌∙◌}
use Rattle.std.specs.List.{list_any}
use Rattle.pick_expr.specs.Places.{in_halves}
use Rattle.pick_expr.proofs.ByteSets.{in_every}
use Rattle.pick_expr.proofs.byte_set.ByteSet.has.Goals as goal

pub returns : goal.returns
returns c =
    c.has.ensures
    ∙ sym (in_every (in_halves c.self.inside.inner) c.args.byte c.ranges.byte.fits)
    ∙ ap (list_any (λ b. b == c.args.byte)) c.self.view_is
