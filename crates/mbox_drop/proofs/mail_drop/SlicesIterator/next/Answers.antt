use Rattle.std.proofs.Common.{◌≡◌, [], ◌∷◌, length, take, sym, ap, ◌∙◌, rules}
use Rattle.mbox_drop.specs.Drops.{messages}
use Rattle.mbox_drop.specs.Text.{text_with}
use Rattle.mbox_drop.proofs.KnownBytes.{messages-none}
use Rattle.mbox_drop.proofs.Slicing.{messages-whole, messages-open}
use Rattle.mbox_drop.proofs.mail_drop.SlicesIterator.next.Goals as goal

pub returns-in-None-clause-steps : goal.returns-in-None-clause-steps
returns-in-None-clause-steps c =
    let e : messages c.args.self.now ≡ [] = ap messages (sym c.self.view_is ∙ ap text_with c.in-None.is) ∙ messages-none in (e, e)

pub returns-in-Whole-clause-steps : goal.returns-in-Whole-clause-steps
returns-in-Whole-clause-steps c =
    ap messages (sym c.self.view_is ∙ ap text_with c.in-Some.is) ∙ messages-whole c.in-Some.bytes.now c.in-Whole.message.now c.in-Whole.rest.now c.in-Whole.ensures

pub returns-in-Whole-clause-goes : goal.returns-in-Whole-clause-goes
returns-in-Whole-clause-goes c =
    let e = ap messages (sym c.self.view_is ∙ ap text_with c.in-Some.is) ∙ messages-whole c.in-Some.bytes.now c.in-Whole.message.now c.in-Whole.rest.now c.in-Whole.ensures in
    let shorter = ap length e in search rules

pub returns-in-Open-clause-steps : goal.returns-in-Open-clause-steps
returns-in-Open-clause-steps c =
    ap messages (sym c.self.view_is ∙ ap text_with c.in-Some.is) ∙ messages-open c.in-Some.bytes.now c.in-Open.text.now c.in-Open.place c.in-Open.body c.in-Open.ensures
    ∙ ap (λ n. take n c.in-Open.text.now ∷ []) (sym c.ended.ensures) ∙ ap (λ x. take c.ended.result c.in-Open.text.now ∷ x) (sym messages-none)

pub returns-in-Open-clause-goes : goal.returns-in-Open-clause-goes
returns-in-Open-clause-goes c =
    let e = ap messages (sym c.self.view_is ∙ ap text_with c.in-Some.is) ∙ messages-open c.in-Some.bytes.now c.in-Open.text.now c.in-Open.place c.in-Open.body c.in-Open.ensures in
    let shorter = ap length e in let none = ap length messages-none in search rules
