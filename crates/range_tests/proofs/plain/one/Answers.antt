use Rattle.std.proofs.Common.{ap, refl, ◌∙◌}
use Rattle.std.specs.Prelude.{◌==◌, filter}
use Rattle.msg_ranges.specs.declared.fault.SelectFault.TheVariants.{Absent}
use Rattle.msg_ranges.proofs.Answering.{gives_list}
use Rattle.range_tests.proofs.plain.one.Goals as goal

pub returns : goal.returns
returns c =
    rw c.in-Some.is (gives_list c.args.index (Absent c.args.index) c.in_ok-found.found.items (filter (λ x. x == c.in-Some.n) c.args.numbers.now) c.some_or.result refl
    (c.in_ok-found.ensures ∙ ap (λ z. filter (λ x. x == z) c.args.numbers.now) c.get.ensures.value) c.some_or.ensures)
