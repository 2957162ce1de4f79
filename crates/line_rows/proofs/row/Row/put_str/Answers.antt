use Rattle.std.proofs.Common.{◌++◌, length, drop, sym, ap, ◌∙◌}
use Rattle.std.specs.Str.{chars}
use Rattle.std.proofs.lemmas.Iterator.{YieldsList-from_chars}
use Rattle.std.proofs.lemmas.Iterator.Consumers.{YieldsList-end, YieldsList-so_far}
use Rattle.std.proofs.lemmas.List.{map-id, take-append-drop}
use Rattle.line_rows.specs.Columns.{Kept, with_more}
use Rattle.line_rows.proofs.FittingColumns.{character_more, closed_more, more_none}
use Rattle.line_rows.proofs.row.Row.put_str.Goals as goal

pub loop-c-init : goal.loop-c-init
loop-c-init c = sym (more_none c.args.self.now)

pub loop-c-preserved : goal.loop-c-preserved
loop-c-preserved c = character_more c.args.self.now c.loop-c.self c.put.new.self c.loop-c.yielded c.in-Some.c c.loop-c.invariant c.in_ok-put.ensures

pub returns-then-self : goal.returns-then-self
returns-then-self c =
    let so_far = YieldsList-so_far (YieldsList-from_chars c.args.text.now c.utf8.text (cc)) c.loop-c.yielded _ c.loop-c.yielded_by in
    closed_more c.args.self.now c.loop-c.self c.loop-c.yielded (drop (length c.loop-c.yielded) (chars c.args.text.now)) (chars c.args.text.now) c.loop-c.invariant
    (sym (ap (λ (l : Kept). l.closed) c.self.view_is) ∙ c.if-self.true)
    (ap (λ l. l ++ drop (length c.loop-c.yielded) (chars c.args.text.now)) (sym (map-id c.loop-c.yielded) ∙ so_far) ∙ take-append-drop (length c.loop-c.yielded) (chars c.args.text.now))

pub returns : goal.returns
returns c =
    let t = YieldsList-end (YieldsList-from_chars c.args.text.now c.utf8.text (cc)) c.loop-c.yielded _ c.loop-c.yielded_by _ _ c.in-None.is c.next.ensures.steps in
    c.loop-c.invariant ∙ ap (with_more c.args.self.now) (sym (map-id c.loop-c.yielded) ∙ t.0)
