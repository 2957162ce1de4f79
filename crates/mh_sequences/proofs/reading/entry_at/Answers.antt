use Rattle.std.proofs.Common.{◌≡◌, Some, None}
use Rattle.mh_profile.specs.Changes.{value_of}
use Rattle.mh_sequences.proofs.PrivateNames.{entry_with, entry_without}
use Rattle.mh_sequences.proofs.reading.entry_at.Goals as goal

pub returns-in-Some-2 : goal.returns-in-Some-2
returns-in-Some-2 c =
    let found : value_of c.in-Some.name.now c.args.context.now ≡ Some c.in-Some-2.value.now = rw (← c.as_slice.ensures) (rw c.in-Some-2.is at c.in_ok-value.ensures) in
    rw (c.as_slice-in-Some-2.ensures, c.as_slice-in-Some-2-2.ensures) (entry_with c.args.context.now c.requires c.args.index c.in-Some.name.now c.in-Some-2.value.now c.in-Some.ensures found)

pub returns-in-None : goal.returns-in-None
returns-in-None c =
    let lost : value_of c.in-Some.name.now c.args.context.now ≡ None = rw (← c.as_slice.ensures) (rw c.in-None.is at c.in_ok-value.ensures) in
    absurd (entry_without c.args.context.now c.requires c.args.index c.in-Some.name.now c.in-Some.ensures lost)
