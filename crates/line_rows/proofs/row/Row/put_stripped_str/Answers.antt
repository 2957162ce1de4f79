use Rattle.std.proofs.Common.{◌++◌, length, drop, sym, ap, ◌∙◌}
use Rattle.std.specs.Str.{chars}
use Rattle.std.proofs.lemmas.Iterator.{YieldsList-from_chars}
use Rattle.std.proofs.lemmas.Iterator.Consumers.{YieldsList-end, YieldsList-so_far}
use Rattle.std.proofs.lemmas.List.{map-id, take-append-drop}
use Rattle.mail_text.specs.declared.stripping.Spot.TheVariants.{Front}
use Rattle.mail_text.specs.OneLine.{line_from, spot_behind, spot_from, written}
use Rattle.mail_text.proofs.Lining.{line_both, line_last, line_none, line_stripped, spot_last, spot_none}
use Rattle.line_rows.specs.Columns.{Kept, with_more}
use Rattle.line_rows.proofs.FittingColumns.{closed_more, more_none, two_more_as}
use Rattle.line_rows.proofs.row.Row.put_stripped_str.Goals as goal

pub loop-c-init : goal.loop-c-init
loop-c-init c = (sym (ap (with_more c.args.self.now) (line_none Front) ∙ more_none c.args.self.now), sym (spot_none Front))

pub loop-c-preserved : goal.loop-c-preserved
loop-c-preserved c = (
  two_more_as c.args.self.now c.loop-c.self c.put_at.new.self (line_from Front c.loop-c.yielded) (written c.loop-c.spot c.in-Some.c) _ c.loop-c.invariant.0 c.in_ok-put_at.ensures
      (ap (λ s. line_from Front c.loop-c.yielded ++ written s c.in-Some.c) c.loop-c.invariant.1 ∙ sym (line_last Front c.loop-c.yielded c.in-Some.c)),
  c.behind-spot.ensures ∙ ap (λ s. spot_behind s c.in-Some.c) c.loop-c.invariant.1 ∙ sym (spot_last Front c.loop-c.yielded c.in-Some.c),
)

pub returns-then-self : goal.returns-then-self
returns-then-self c =
    let so_far = YieldsList-so_far (YieldsList-from_chars c.args.text.now c.utf8.text (cc)) c.loop-c.yielded _ c.loop-c.yielded_by in
    let behind = drop (length c.loop-c.yielded) (chars c.args.text.now) in
    closed_more c.args.self.now c.loop-c.self (line_from Front c.loop-c.yielded) (line_from (spot_from Front c.loop-c.yielded) behind) _ c.loop-c.invariant.0
    (sym (ap (λ (l : Kept). l.closed) c.self.view_is) ∙ c.if-self.true)
    (sym (line_both Front c.loop-c.yielded behind)
    ∙ ap (λ l. line_from Front (l ++ behind)) (sym (map-id c.loop-c.yielded) ∙ so_far) ∙ ap (line_from Front) (take-append-drop (length c.loop-c.yielded) (chars c.args.text.now))
    ∙ line_stripped (chars c.args.text.now))

pub returns : goal.returns
returns c =
    let t = YieldsList-end (YieldsList-from_chars c.args.text.now c.utf8.text (cc)) c.loop-c.yielded _ c.loop-c.yielded_by _ _ c.in-None.is c.next.ensures.steps in
    c.loop-c.invariant.0 ∙ ap (λ l. with_more c.args.self.now (line_from Front l)) (sym (map-id c.loop-c.yielded) ∙ t.0) ∙ ap (with_more c.args.self.now) (line_stripped (chars c.args.text.now))
