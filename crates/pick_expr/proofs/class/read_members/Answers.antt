use Rattle.std.proofs.Common.{◌+◌, ◌-◌, get_or, length, take, drop, refl, sym, ◌∙◌}
use Rattle.std.proofs.lemmas.List.{take_rest}
use Rattle.pick_expr.proofs.ClassMembers.{all_read, more_read}
use Rattle.pick_expr.proofs.class.read_members.Goals as goal

pub returns-then-closes : goal.returns-then-closes
returns-then-closes c =
    all_read c.args.text.now c.loop-at.at (get_or c.args.text.now c.loop-at.at 0) c.loop-at.members.items c.loop-at.invariant c.loop-at-test.true refl
    (sym c.closes.ensures ∙ c.if-closes.true)

pub loop-at-preserved : goal.loop-at-preserved
loop-at-preserved c =
    let text = c.args.text.now in
    let at = c.loop-at.at in
    more_read text at (get_or text at 0) (take (length text - (at + 1)) (drop (at + 1) text)) c.loop-at.members.items c.push.new.self.items c.member-member.result
    c.text_len-at.result c.loop-at.invariant c.loop-at-test.true refl (take_rest text (at + 1)) (sym c.closes.ensures ∙ c.if-closes.false) c.member-member.ensures
    c.text_len-at.ensures c.in_ok-push.ensures.items
