use Rattle.mh_sequences.proofs.Bools.{if_ok_then}
use Rattle.msg_ranges.proofs.SetLists.{clipped}
use Rattle.msg_ranges.proofs.sets.clip.Goals as goal

pub returns-clause-numbers : goal.returns-clause-numbers
returns-clause-numbers c =
    if_ok_then _ _ _ c.common.result
    (λ s both valid. clipped c.args.set.now.runs c.insert_span.new.set.runs c.new-span.result.runs s.runs c.args.from c.args.to c.common.ensures.valid_first valid c.new-span.ensures c.in_ok-insert_span.ensures both)
    c.common.ensures.both c.common.ensures.valid
