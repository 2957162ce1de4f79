use Rattle.std.proofs.Common.{◌≡◌, ◌≤◌, length, ap, subst, arith}
use Rattle.mbox_drop.specs.Drops.{messages}
use Rattle.mbox_drop.specs.Text.{text_with}
use Rattle.mbox_drop.proofs.Slicing.{length-messages}
use Rattle.mbox_drop.proofs.mail_drop.MailDrop.messages.Goals as goal

pub returns-clause-few : goal.returns-clause-few
returns-clause-few c =
    let few : length (messages c.args.self.now) ≤ length c.args.self.now = subst (λ x. length (messages x) ≤ length x) c.self.view_is (length-messages c.self.inside.rest) in
    let same : length (text_with c.self.inside.rest) ≡ length c.args.self.now = ap length c.self.view_is in
    omega (arith, c.self.invariant)
