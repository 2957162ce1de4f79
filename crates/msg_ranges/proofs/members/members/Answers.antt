use Rattle.mh_sequences.proofs.Bools.{if_ok_then}
use Rattle.msg_ranges.proofs.SetLists.{some_members, no_members}
use Rattle.msg_ranges.proofs.members.members.Goals as goal

pub returns-in-Some : goal.returns-in-Some
returns-in-Some c =
    if_ok_then _ _ _ c.common.result
    (λ s both valid. some_members c.args.listing.now.runs c.in-Some.set.now.runs s.runs c.args.sequences.now c.args.name.now c.common.ensures.valid_first valid c.in-Some.ensures both)
    c.common.ensures.both c.common.ensures.valid

pub returns-in-None : goal.returns-in-None
returns-in-None c = no_members c.args.listing.now.runs c.new.result.runs c.args.sequences.now c.args.name.now c.new.ensures c.in-None.ensures
