use Rattle.std.proofs.Common.{◌≡◌, Some, ap, sym, ◌∙◌}
use Rattle.std.specs.Prelude.{◌==◌, find}
use Rattle.range_tests.proofs.plain.named.Goals as goal

pub returns-in-Some : goal.returns-in-Some
returns-in-Some c =
    let here : c.args.sequences.now.cur ≡ Some c.in-Some.cur = sym c.cur.ensures ∙ c.in-Some.is in
    rw (c.in-Cur.is, here) (c.found.ensures ∙ ap (λ z. find (λ x. x == z) c.args.numbers.now) c.get.ensures.value)
