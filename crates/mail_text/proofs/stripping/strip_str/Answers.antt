use Rattle.std.proofs.Common.{◌++◌, sym, ap, ◌∙◌}
use Rattle.std.proofs.lemmas.Iterator.{YieldsList-from_chars}
use Rattle.std.proofs.lemmas.Iterator.Consumers.{YieldsList-end}
use Rattle.std.proofs.lemmas.List.{map-id}
use Rattle.mail_text.specs.declared.stripping.Spot.TheVariants.{Front}
use Rattle.mail_text.specs.OneLine.{line_from, spot_behind, written}
use Rattle.mail_text.proofs.Lining.{line_last, line_none, line_stripped, spot_last, spot_none}
use Rattle.mail_text.proofs.stripping.strip_str.Goals as goal

pub loop-c-init : goal.loop-c-init
loop-c-init c = (c.new-line.ensures ∙ sym (line_none Front), sym (spot_none Front))

pub loop-c-preserved : goal.loop-c-preserved
loop-c-preserved c = (
  (c.in_ok-put_at.ensures ∙ ap (λ l. l ++ written c.loop-c.spot c.in-Some.c) c.loop-c.invariant.0
      ∙ ap (λ s. line_from Front c.loop-c.yielded ++ written s c.in-Some.c) c.loop-c.invariant.1 ∙ sym (line_last Front c.loop-c.yielded c.in-Some.c)),
  (c.behind-spot.ensures ∙ ap (λ s. spot_behind s c.in-Some.c) c.loop-c.invariant.1 ∙ sym (spot_last Front c.loop-c.yielded c.in-Some.c)),
)

pub returns : goal.returns
returns c =
    let t = YieldsList-end (YieldsList-from_chars c.args.text.now c.utf8.text (cc)) c.loop-c.yielded _ c.loop-c.yielded_by _ _ c.in-None.is c.next.ensures.steps in
    c.loop-c.invariant.0 ∙ ap (line_from Front) (sym (map-id c.loop-c.yielded) ∙ t.0) ∙ line_stripped _
