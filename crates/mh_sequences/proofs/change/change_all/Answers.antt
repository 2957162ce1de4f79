use Rattle.std.proofs.Common.{map}
use Rattle.std.proofs.lemmas.Map.Iter.{rest_all, rest_more}
use Rattle.std.specs.Map.Iter.{deref_pair}
use Rattle.mh_sequences.specs.Changes.{change_of}
use Rattle.mh_sequences.specs.Sequences.{told, told_entry}
use Rattle.mh_sequences.proofs.Changing.{one_kept, ended}
use Rattle.mh_sequences.proofs.change.change_all.Goals as goal

pub loop-name-preserved : goal.loop-name-preserved
loop-name-preserved c =
    let left = rest_more deref_pair c.loop-name.name-iterator c.next.new.self c.next.result (c.in-Some.name, c.in-Some.user) c.in-Some.is c.next.ensures.steps in
    one_kept (change_of c.args.change) (map told_entry c.args.users.now.entries) (map told c.loop-name.kept.items) (map told c.keep.new.kept.items)
    (map told_entry c.next.new.self) (told_entry (c.in-Some.name.now, c.in-Some.user.now)) c.in_ok-keep.ensures.0 c.in_ok-keep.ensures.1 c.in_ok-keep.ensures.2
    (rw left at c.loop-name.invariant)

pub returns : goal.returns
returns c =
    let none = rest_all deref_pair c.loop-name.name-iterator c.next.new.self c.next.result c.in-None.is c.next.ensures.steps in
    ended (change_of c.args.change) (map told_entry c.args.users.now.entries) (map told c.loop-name.kept.items) (rw none at c.loop-name.invariant)
