use Rattle.std.proofs.Common.{◌≡◌, false, sym, ◌∙◌}
use Rattle.std.specs.Prelude.{◌||◌}
use Rattle.std.proofs.lemmas.Bool.{or_from, both_ways}
use Rattle.mh_sequences.specs.Runs.{numbers_of}
use Rattle.msg_ranges.specs.Selection.{is_end}
use Rattle.msg_ranges.proofs.Answering.{gives_inside, gives_among}
use Rattle.msg_ranges.proofs.choosing.choose_range.Goals as goal
use Rattle.msg_ranges.proofs.choosing.choose_range.Goals.{then-is_end, else-is_end, else-is_end-2-via-then-is_end-2+else-is_empty, else-is_end-2-via-else-is_end-2}

pub returns : goal.returns
returns c =
    elim c.else-is_end-2.branch [
      | else-is_end-2-via-then-is_end-2+else-is_empty w ↦ gives_among c.args.index _ c.args.listing.now.runs _ c.range.result w.is_empty.ensures.valid (sym w.is_empty.ensures.value ∙ w.if-is_empty.false) (rw (c.named.ensures, c.named-2.ensures) at c.range.ensures)
      | else-is_end-2-via-else-is_end-2 w ↦
          let neither : is_end c.args.from.now || is_end c.args.to.now ≡ false = elim c.if-is_end.branch [ then-is_end v ↦ absurd (both_ways c.if-is_end.value w.if-is_end-2.false (v.value-is ∙ v.if-is_end.true)) | else-is_end v ↦ or_from (is_end c.args.from.now) (is_end c.args.to.now) (sym c.is_end.ensures ∙ v.if-is_end.false) (sym v.is_end-else-is_end.ensures ∙ sym v.value-is ∙ w.if-is_end-2.false) ] in
          gives_inside c.args.index _ (numbers_of c.args.listing.now.runs) _ c.range.result neither (rw (c.named.ensures, c.named-2.ensures) at c.range.ensures)
    ]
