use Rattle.std.proofs.Common.{length, sym, arith}
use Rattle.std.proofs.lemmas.Bool.{ltb-true, ltb-false}
use Rattle.mh_sequences.proofs.Searching.{at_name, before_name, behind_all}
use Rattle.mh_sequences.proofs.place.place_of.Goals as goal

pub returns-then-eq : goal.returns-then-eq
returns-then-eq c =
    let lt = ltb-true c.passed-at.result (length c.args.users.now) (sym c.in-Some.ensures.lookup.0) in
    at_name c.args.name.now c.args.users.now c.passed-at.result c.passed-at.ensures.value c.in-Some.user.now lt c.in-Some.ensures.lookup.1 (rw (← c.bytes.ensures.value) (sym c.if-eq.ensures))

pub returns-else-eq : goal.returns-else-eq
returns-else-eq c =
    let lt = ltb-true c.passed-at.result (length c.args.users.now) (sym c.in-Some.ensures.lookup.0) in
    before_name c.args.name.now c.args.users.now c.passed-at.result c.passed-at.ensures.value c.requires c.in-Some.user.now lt c.in-Some.ensures.lookup.1 (rw (← c.bytes.ensures.value) (sym c.if-eq.ensures))

pub returns-in_default : goal.returns-in_default
returns-in_default c =
    let ge = ltb-false c.passed-at.result (length c.args.users.now) (sym c.in_default.ensures.lookup.0) in
    behind_all c.args.name.now c.args.users.now c.passed-at.result c.passed-at.ensures.value (omega arith)
