use Rattle.std.proofs.Common.{map}
use Rattle.std.proofs.lemmas.Map.Iter.{rest_more}
use Rattle.std.specs.Map.Iter.{deref_pair}
use Rattle.mh_sequences.specs.Sequences.{told_entry}
use Rattle.mh_sequences.proofs.PrintedTexts.{private_more}
use Rattle.mh_sequences.proofs.printing.private_list.Goals as goal

pub loop-name-preserved : goal.loop-name-preserved
loop-name-preserved c =
    let left = rest_more deref_pair c.loop-name.name-iterator c.next.new.self c.next.result (c.in-Some.name, c.in-Some.user) c.in-Some.is c.next.ensures.steps in
    private_more c.args.ending.now _ c.loop-name.entries c.push_private.new.entries (told_entry (c.in-Some.name.now, c.in-Some.user.now)) (map told_entry c.next.new.self) c.in_ok-push_private.ensures (rw left at c.loop-name.invariant)
