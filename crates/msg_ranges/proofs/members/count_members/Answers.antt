use Rattle.std.proofs.Common.{ap, sym, ◌∙◌, take, ⊎_elim}
use Rattle.mh_sequences.specs.Runs.{numbers_of}
use Rattle.msg_ranges.specs.Selection.{counted_members, take_last}
use Rattle.msg_ranges.proofs.Answering.{if_ok}
use Rattle.msg_ranges.proofs.Spans.{all_at_least, all_at_most}
use Rattle.msg_ranges.proofs.members.count_members.Goals as goal

pub returns-in-Unsigned : goal.returns-in-Unsigned
returns-in-Unsigned c =
    let runs = c.args.members.now.runs in
    if_ok _ _ c.take_from.result
    (λ s e. e ∙ ap (take c.args.count) (all_at_least runs c.take_from.ensures.valid) ∙ ⊎_elim (λ u. ap (λ w. counted_members w c.args.count (numbers_of runs)) (sym u)) (λ u. ap (λ w. counted_members w c.args.count (numbers_of runs)) (sym u)) c.in-Unsigned.is)
    c.take_from.ensures.numbers

pub returns-in-Minus : goal.returns-in-Minus
returns-in-Minus c =
    let runs = c.args.members.now.runs in
    if_ok _ _ c.take_up_to.result
    (λ s e. e ∙ ap (take_last c.args.count) (all_at_most runs c.take_up_to.ensures.valid) ∙ ap (λ w. counted_members w c.args.count (numbers_of runs)) (sym c.in-Minus.is))
    c.take_up_to.ensures.numbers
