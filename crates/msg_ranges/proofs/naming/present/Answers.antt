use Rattle.std.proofs.Common.{sym, ◌∙◌}
use Rattle.mh_sequences.specs.Runs.{numbers_of}
use Rattle.msg_ranges.proofs.Rising.{lists_numbers, found, not_found}
use Rattle.msg_ranges.proofs.naming.present.Goals as goal

pub returns-then-has : goal.returns-then-has
returns-then-has c =
    let xs = numbers_of c.args.listing.now.runs in
    rw c.in_ok-cur.was (sym (found xs c.in_ok-cur.cur (lists_numbers c.args.listing.now.runs c.in_ok-cur.cur ∙ sym c.has.ensures ∙ c.if-has.true)))

pub returns-else-has : goal.returns-else-has
returns-else-has c =
    let xs = numbers_of c.args.listing.now.runs in
    rw c.in_ok-cur.was (sym (not_found xs c.in_ok-cur.cur (lists_numbers c.args.listing.now.runs c.in_ok-cur.cur ∙ sym c.has.ensures ∙ c.if-has.false)))
