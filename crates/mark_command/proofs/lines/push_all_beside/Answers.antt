use Rattle.std.proofs.Common.{map}
use Rattle.std.proofs.lemmas.Map.Iter.{rest_more}
use Rattle.std.specs.Map.Iter.{deref_pair}
use Rattle.mh_sequences.specs.Sequences.{told_entry}
use Rattle.mark_command.proofs.Loops.{one_beside}
use Rattle.mark_command.proofs.lines.push_all_beside.Goals as goal

pub loop-name-preserved : goal.loop-name-preserved
loop-name-preserved c =
    let left = rest_more deref_pair c.loop-name.name-iterator c.next.new.self c.next.result (c.in-Some.name, c.in-Some.user) c.in-Some.is c.next.ensures.steps in
    one_beside c.args.before _ c.loop-name.lines c.push_beside.new.lines (told_entry (c.in-Some.name.now, c.in-Some.user.now)) (map told_entry c.next.new.self) c.in_ok-push_beside.ensures (rw left at c.loop-name.invariant)
