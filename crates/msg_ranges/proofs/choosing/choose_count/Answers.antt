use Rattle.std.proofs.Common.{sym, ◌∙◌}
use Rattle.mh_sequences.specs.Runs.{numbers_of}
use Rattle.msg_ranges.proofs.Answering.{gives_inside, gives_among}
use Rattle.msg_ranges.proofs.choosing.choose_count.Goals as goal
use Rattle.msg_ranges.proofs.choosing.choose_count.Goals.{else-is_end-via-then-is_end+else-is_empty, else-is_end-via-else-is_end}

pub returns : goal.returns
returns c =
    elim c.else-is_end.branch [
      | else-is_end-via-then-is_end+else-is_empty w ↦ gives_among c.args.index _ c.args.listing.now.runs _ c.counted.result w.is_empty.ensures.valid (sym w.is_empty.ensures.value ∙ w.if-is_empty.false) (rw (c.named.ensures, c.goes_up.ensures) at c.counted.ensures)
      | else-is_end-via-else-is_end w ↦ gives_inside c.args.index _ (numbers_of c.args.listing.now.runs) _ c.counted.result (sym c.is_end.ensures ∙ w.if-is_end.false) (rw (c.named.ensures, c.goes_up.ensures) at c.counted.ensures)
    ]
