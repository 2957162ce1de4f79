use Rattle.std.proofs.Common.{ap, ◌∙◌}
use Rattle.std.specs.Prelude.{slice_get}
use Rattle.mh_sequences.specs.Runs.{numbers_of}
use Rattle.msg_ranges.proofs.Rising.{rise_runs}
use Rattle.msg_ranges.proofs.Spans.{least_above}
use Rattle.msg_ranges.proofs.counting.above.Goals as goal

pub returns : goal.returns
returns c =
    let runs = c.args.set.now.runs in
    c.at.ensures ∙ ap (slice_get (numbers_of runs)) c.count_up_to.ensures.count ∙ least_above (numbers_of runs) (rise_runs 1 runs c.count_up_to.ensures.valid) c.args.n
