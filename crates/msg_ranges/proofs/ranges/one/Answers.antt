use Rattle.std.proofs.Common.{◌≡◌, ℕ, List, refl, ◌∙◌}
use Rattle.std.specs.Prelude.{◌==◌, filter}
use Rattle.mh_sequences.specs.Runs.{numbers_of}
use Rattle.msg_ranges.specs.declared.fault.SelectFault.TheVariants.{Absent}
use Rattle.msg_ranges.specs.Selection.{from, up_to}
use Rattle.msg_ranges.proofs.Answering.{gives_some}
use Rattle.msg_ranges.proofs.Spans.{just}
use Rattle.msg_ranges.proofs.ranges.one.Goals as goal

pub returns : goal.returns
returns c =
    let xs : List ℕ = numbers_of c.args.listing.now.runs in
    let same : numbers_of c.in_ok-set.set.runs ≡ filter (λ x. x == c.in-Some.n) xs =
    c.in_ok-set.ensures.numbers ∙ (λ i. from (c.get.ensures.value i) (up_to (c.get-2.ensures.value i) xs)) ∙ just c.in-Some.n xs in
    rw c.in-Some.is (gives_some c.args.index (Absent c.args.index) c.in_ok-set.set (filter (λ x. x == c.in-Some.n) xs) c.some_or.result refl same c.some_or.ensures)
