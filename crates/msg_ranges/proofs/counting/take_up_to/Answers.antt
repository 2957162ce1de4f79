use Rattle.std.proofs.Common.{◌≡◌, ◌-◌, Some, None, length, ap, sym, ◌∙◌}
use Rattle.std.specs.Prelude.{slice_get}
use Rattle.mh_sequences.specs.Runs.{numbers_of}
use Rattle.msg_ranges.specs.Selection.{from, up_to}
use Rattle.msg_ranges.proofs.Answering.{if_ok}
use Rattle.msg_ranges.proofs.Rising.{rise_runs}
use Rattle.msg_ranges.proofs.Spans.{last_some, last_none}
use Rattle.msg_ranges.proofs.counting.take_up_to.Goals as goal

pub returns-in-Some-clause-numbers : goal.returns-in-Some-clause-numbers
returns-in-Some-clause-numbers c =
    let runs = c.args.set.now.runs in
    let place : slice_get (numbers_of runs) (length (up_to c.args.to (numbers_of runs)) - c.args.count) ≡ Some c.in-Some.first =
    (λ i. slice_get (numbers_of runs) (sym c.count_up_to.ensures.count i - sym c.from.ensures i)) ∙ ap (slice_get (numbers_of runs)) (sym c.saturating_sub-place.ensures) ∙ sym c.at.ensures ∙ c.in-Some.is in
    if_ok _ _ c.clip.result
    (λ s e. e ∙ ap (λ z. from z (up_to c.args.to (numbers_of runs))) c.get.ensures.value ∙ sym (last_some (numbers_of runs) (rise_runs 1 runs c.count_up_to.ensures.valid) c.args.to (length (up_to c.args.to (numbers_of runs)) - c.args.count) c.in-Some.first place))
    c.clip.ensures.numbers

pub returns-in-None-clause-numbers : goal.returns-in-None-clause-numbers
returns-in-None-clause-numbers c =
    let runs = c.args.set.now.runs in
    let place : slice_get (numbers_of runs) (length (up_to c.args.to (numbers_of runs)) - c.args.count) ≡ None =
    (λ i. slice_get (numbers_of runs) (sym c.count_up_to.ensures.count i - sym c.from.ensures i)) ∙ ap (slice_get (numbers_of runs)) (sym c.saturating_sub-place.ensures) ∙ sym c.at.ensures ∙ c.in-None.is in
    ap numbers_of c.new.ensures ∙ sym (last_none (numbers_of runs) (rise_runs 1 runs c.count_up_to.ensures.valid) c.args.to (length (up_to c.args.to (numbers_of runs)) - c.args.count) place)
