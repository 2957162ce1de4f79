use Rattle.std.proofs.Common.{◌≡◌, ap, refl, ◌∙◌}
use Rattle.mh_sequences.specs.Runs.{numbers_of}
use Rattle.msg_ranges.specs.declared.fault.SelectFault.TheVariants.{EmptyRange}
use Rattle.msg_ranges.specs.Selection.{from}
use Rattle.msg_ranges.proofs.Answering.{gives_some}
use Rattle.msg_ranges.proofs.Spans.{all_at_least, all_at_most}
use Rattle.msg_ranges.proofs.choosing.choose.Goals as goal

pub returns-in-All : goal.returns-in-All
returns-in-All c =
    let runs = c.args.listing.now.runs in
    let valid = c.in_ok-set-in-All.ensures.valid in
    let same : numbers_of c.in_ok-set-in-All.set.runs ≡ numbers_of runs = c.in_ok-set-in-All.ensures.numbers ∙ ap (from 1) (all_at_most runs valid) ∙ all_at_least runs valid in
    rw c.in-All.is (gives_some c.args.index (EmptyRange c.args.index) c.in_ok-set-in-All.set (numbers_of runs) c.some_or.result refl same c.some_or.ensures)
