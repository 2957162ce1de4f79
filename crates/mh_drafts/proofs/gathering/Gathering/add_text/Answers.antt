use Rattle.std.proofs.Common.{refl}
use Rattle.mh_drafts.proofs.Joining.{told_text}
use Rattle.mh_drafts.proofs.gathering.Gathering.add_text.Goals as goal

pub returns-clause-whole : goal.returns-clause-whole
returns-clause-whole c =
    told_text c.args.self.now _ c.args.line.now c.is_said-said.result c.of_text.result c.push.result c.is_said-said.ensures refl c.in_ok-extend.ensures.ok c.either-self.ensures refl c.of_text.ensures c.push.ensures.ok
