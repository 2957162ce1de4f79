use Rattle.mh_drafts.proofs.Joining.{told_order}
use Rattle.mh_drafts.proofs.gathering.Gathering.add_directive.Goals as goal

pub returns-clause-whole : goal.returns-clause-whole
returns-clause-whole c =
    let ended = c.in_ok-end_text.ensures in
    let told = c.push_directive.ensures in
    told_order c.args.self.now c.end_text.new.self c.push_directive.new.self c.args.directive c.of.result c.push.new.self c.push_directive.result
    ended.items ended.text ended.said ended.wants ended.signs c.of.ensures c.in_ok-push.ensures.ok told.items told.text told.said told.wants told.signs
