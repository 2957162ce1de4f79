use Rattle.std.proofs.Common.{sym, ◌∙◌}
use Rattle.held_messages.proofs.Inserting.{inserted_there, inserted_new}
use Rattle.held_messages.proofs.pairs.insert.Goals as goal

pub returns-then-is_at : goal.returns-then-is_at
returns-then-is_at c =
    sym (inserted_there c.args.pair c.args.pairs.now.items c.passed-at.result (rw c.deref.ensures.value at c.passed-at.ensures.value) (sym (rw c.deref-2.ensures.value at c.is_at.ensures) ∙ c.if-is_at.true))

pub returns : goal.returns
returns c =
    c.in_ok-insert.ensures.items
    ∙ inserted_new c.args.pair c.args.pairs.now.items c.passed-at.result (rw c.deref.ensures.value at c.passed-at.ensures.value) (sym (rw c.deref-2.ensures.value at c.is_at.ensures) ∙ c.if-is_at.false)
