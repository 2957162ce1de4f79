use Rattle.std.proofs.Common.{ap, sym, ◌∙◌, take}
use Rattle.mh_sequences.specs.Runs.{numbers_of}
use Rattle.msg_ranges.specs.Selection.{spotted, take_last}
use Rattle.msg_ranges.proofs.Answering.{if_ok}
use Rattle.msg_ranges.proofs.Spans.{all_at_least, all_at_most}
use Rattle.msg_ranges.proofs.members.member_at.Goals as goal

pub returns-in-First : goal.returns-in-First
returns-in-First c =
    let runs = c.args.members.now.runs in
    if_ok _ _ c.take_from.result
    (λ s e. e ∙ ap (take 1) (all_at_least runs c.take_from.ensures.valid) ∙ ap (λ w. spotted c.args.cur w (numbers_of runs)) (sym c.in-First.is))
    c.take_from.ensures.numbers

pub returns-in-Last : goal.returns-in-Last
returns-in-Last c =
    let runs = c.args.members.now.runs in
    if_ok _ _ c.take_up_to.result
    (λ s e. e ∙ ap (take_last 1) (all_at_most runs c.take_up_to.ensures.valid) ∙ ap (λ w. spotted c.args.cur w (numbers_of runs)) (sym c.in-Last.is))
    c.take_up_to.ensures.numbers
