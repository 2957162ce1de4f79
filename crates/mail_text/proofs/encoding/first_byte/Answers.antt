use Rattle.mail_text.proofs.Quoted.{space, escape, no_escape, other}
use Rattle.mail_text.proofs.encoding.first_byte.Goals as goal

pub returns-then-byte-eq95-clause-value : goal.returns-then-byte-eq95-clause-value
returns-then-byte-eq95-clause-value c = space c.args.byte c.args.rest.now c.if-byte-eq95.true

pub returns-in-Some-clause-value : goal.returns-in-Some-clause-value
returns-in-Some-clause-value c = escape c.args.byte c.in-Some.both.0 c.args.rest.now c.in-Some.both.1.now c.if-byte-eq61.true c.in-Some.ensures.0 c.in-Some.ensures.1

pub returns-in-None-clause-value : goal.returns-in-None-clause-value
returns-in-None-clause-value c = no_escape c.args.byte c.args.rest.now c.if-byte-eq61.true c.in-None.ensures

pub returns-else-byte-eq61-clause-value : goal.returns-else-byte-eq61-clause-value
returns-else-byte-eq61-clause-value c = other c.args.byte c.args.rest.now c.if-byte-eq95.false c.if-byte-eq61.false
