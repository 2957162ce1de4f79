use Rattle.std.proofs.Common.{◌≡◌, ◌-◌, ap, ◌∙◌, arith, length}
use Rattle.std.specs.Prelude.{slice_get}
use Rattle.mh_sequences.specs.Runs.{numbers_of}
use Rattle.msg_ranges.specs.Selection.{up_to}
use Rattle.msg_ranges.proofs.Rising.{rise_runs}
use Rattle.msg_ranges.proofs.Spans.{greatest_up_to}
use Rattle.msg_ranges.proofs.counting.below.Goals as goal

pub returns-else-count-eq0 : goal.returns-else-count-eq0
returns-else-count-eq0 c =
    let runs = c.args.set.now.runs in
    let count = c.count_up_to-count.ensures.count in
    let same : c.count_up_to-count.result ≡ length (up_to (c.args.n - 1) (numbers_of runs)) = count ∙ ap (λ z. length (up_to z (numbers_of runs))) c.saturating_sub.ensures in
    c.at.ensures ∙ ap (λ z. slice_get (numbers_of runs) (z - 1)) same ∙ greatest_up_to (numbers_of runs) (rise_runs 1 runs c.count_up_to-count.ensures.valid) (c.args.n - 1) (omega (arith, same, c.if-count-eq0.false))
