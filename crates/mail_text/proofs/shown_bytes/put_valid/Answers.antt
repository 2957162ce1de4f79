use Rattle.std.proofs.Common.{◌++◌, sym, ap, ◌∙◌}
use Rattle.std.proofs.lemmas.Iterator.{YieldsList-from_chars}
use Rattle.std.proofs.lemmas.Iterator.Consumers.{YieldsList-end}
use Rattle.std.proofs.lemmas.List.{map-id}
use Rattle.mail_text.proofs.shown_bytes.put_valid.Goals as goal

pub returns : goal.returns
returns c =
    let t = YieldsList-end (YieldsList-from_chars c.args.bytes.now c.requires (cc (c.in-Ok.ensures.cases.0))) c.loop-c.yielded _ c.loop-c.yielded_by _ _ c.in-None.is c.next.ensures.steps in
    c.loop-c.invariant ∙ ap (λ x. c.args.text.now ++ x) (sym (map-id c.loop-c.yielded) ∙ t.0)
