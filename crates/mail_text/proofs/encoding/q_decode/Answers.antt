use Rattle.std.proofs.lemmas.List.{nil_from_length}
use Rattle.mail_text.proofs.Quoted.{ended}
use Rattle.mail_text.proofs.encoding.q_decode.Goals as goal

pub returns : goal.returns
returns c = ended c.loop-first.rest.now c.loop-first.bytes.items _ (nil_from_length c.loop-first.rest.now c.in_default.ensures.cases) c.loop-first.invariant
