use Rattle.std.proofs.Common.{map}
use Rattle.std.proofs.lemmas.Map.Iter.{rest_more}
use Rattle.std.specs.Map.Iter.{deref_pair}
use Rattle.mh_sequences.specs.Sequences.{told_entry}
use Rattle.mh_sequences.proofs.PrintedTexts.{line_more}
use Rattle.mh_sequences.proofs.printing.put_lines.Goals as goal

pub loop-name-preserved : goal.loop-name-preserved
loop-name-preserved c =
    let left = rest_more deref_pair c.loop-name.name-iterator c.next.new.self c.next.result (c.in-Some.name, c.in-Some.user) c.in-Some.is c.next.ensures.steps in
    line_more c.args.before _ c.loop-name.text c.put_user.new.text (told_entry (c.in-Some.name.now, c.in-Some.user.now)) (map told_entry c.next.new.self) c.in_ok-put_user.ensures (rw left at c.loop-name.invariant)
