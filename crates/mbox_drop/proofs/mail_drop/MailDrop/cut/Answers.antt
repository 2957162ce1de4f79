use Rattle.std.proofs.Common.{◌∷◌, sym, ap, ◌∙◌}
use Rattle.mbox_drop.proofs.Slicing.{drop_from, no_drop_from, drop_empty}
use Rattle.mbox_drop.proofs.mail_drop.MailDrop.cut.Goals as goal

pub returns-then-is_empty : goal.returns-then-is_empty
returns-then-is_empty c = drop_empty c.args.bytes.now (sym c.if-is_empty.ensures)

pub returns-in-Some : goal.returns-in-Some
returns-in-Some c =
    let w = drop_from c.args.bytes.now c.in-Some.ensures.cases.0 in
    (w.0, ap (λ x. 70 ∷ 114 ∷ 111 ∷ 109 ∷ 32 ∷ x) c.in-Some.ensures.cases.1 ∙ w.1)

pub returns-in-None : goal.returns-in-None
returns-in-None c = no_drop_from c.args.bytes.now (sym c.if-is_empty.ensures) c.in-None.ensures.cases
