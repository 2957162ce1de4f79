use Rattle.std.proofs.Common.{sym, ◌∙◌, ap, arith, length}
use Rattle.std.specs.Prelude.{not}
use Rattle.std.proofs.lemmas.Bool.{ltb-true, ltb-false}
use Rattle.held_messages.proofs.Inserting.{at_some, at_none}
use Rattle.held_messages.proofs.pairs.is_at.Goals as goal

pub returns-in-Some : goal.returns-in-Some
returns-in-Some c =
    let lt = ltb-true c.args.at (length c.args.pairs.now) (sym c.in-Some.ensures.lookup.0) in
    ap not c.is_before.ensures ∙ at_some c.args.pairs.now c.args.at c.args.pair.now c.in-Some.other.now lt c.in-Some.ensures.lookup.1

pub returns-in-None : goal.returns-in-None
returns-in-None c =
    let ge = ltb-false c.args.at (length c.args.pairs.now) (sym c.in-None.ensures.lookup.0) in
    at_none c.args.pairs.now c.args.at c.args.pair.now (omega (arith, ge))
