use Rattle.std.proofs.Common.{sym, ◌∙◌, refl, false}
use Rattle.mime_tree.specs.Tokens.{closing}
use Rattle.mime_tree.proofs.Quoting.{closing_here, closing_later, never_closed, closing_starts}
use Rattle.mime_tree.proofs.token.closing_place.Goals as goal

pub loop-i-init : goal.loop-i-init
loop-i-init c = closing_starts (closing false c.args.text.now)

pub returns-then-closes-clause-value : goal.returns-then-closes-clause-value
returns-then-closes-clause-value c =
    sym (closing_here c.args.text.now c.loop-i.protected c.loop-i.i _ _ c.loop-i-test.true refl (sym c.closes.ensures ∙ c.if-closes.true) c.loop-i.invariant)

pub loop-i-preserved : goal.loop-i-preserved
loop-i-preserved c =
    let later = closing_later c.args.text.now c.loop-i.protected c.loop-i.i _ _ c.loop-i-test.true refl (sym c.closes.ensures ∙ c.if-closes.false) c.loop-i.invariant in
    rw c.protects-protected.ensures later

pub returns-clause-value : goal.returns-clause-value
returns-clause-value c = sym (never_closed c.args.text.now c.loop-i.protected c.loop-i.i _ c.loop-i-test.false c.loop-i.invariant)
