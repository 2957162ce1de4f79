use Rattle.std.proofs.Common.{◌≡◌, sym, ap, ◌∙◌}
use Rattle.mh_sequences.specs.Sequences.{runs_of}
use Rattle.mh_sequences.proofs.Bools.{if_ok_then}
use Rattle.msg_ranges.proofs.SetLists.{no_member}
use Rattle.msg_ranges.proofs.members.others.Goals as goal
use Rattle.msg_ranges.proofs.members.others.Goals.{in-Some, in-None}

pub returns : goal.returns
returns c =
    let is : c.match-get.set.now.runs ≡ runs_of c.args.sequences.now.users c.args.name.now = elim c.match-get.branch [ in-Some w ↦ ap (λ z. z.now.runs) w.set-is ∙ w.in-Some.ensures | in-None w ↦ ap (λ z. z.now.runs) w.set-is ∙ c.new-none.ensures ∙ sym w.in-None.ensures ] in
    if_ok_then _ _ _ c.without.result
    (λ s rest valid. no_member c.args.listing.now.runs c.match-get.set.now.runs s.runs c.args.sequences.now c.args.name.now c.without.ensures.valid_first valid is rest)
    c.without.ensures.rest c.without.ensures.valid
