use Rattle.std.proofs.Common.{ap, ◌∙◌}
use Rattle.std.specs.Prelude.{bytes_eq}
use Rattle.std.specs.List.{list_any}
use Rattle.part_rows.proofs.wanted.Wanted.has.Goals as goal

pub returns : goal.returns
returns c =
    (rw (c.as_slice.ensures, c.numbers.ensures) at c.contains.ensures)
    ∙ c.self.invariant c.args.path.now
    ∙ ap (λ w. list_any (λ p. bytes_eq p c.args.path.now) w) c.self.view_is
