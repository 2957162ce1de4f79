use Rattle.std.proofs.Common.{rules, ◌∙◌}
use Rattle.std.specs.Prelude.{codes}
use Rattle.mh_profile.specs.Changes.{value_of}
use Rattle.command_plans.proofs.Plans.{inbox_none}
use Rattle.command_context.proofs.Texts.{chars_inbox}
use Rattle.command_words.proofs.Texts.{if_text}
use Rattle.command_context.proofs.profile.inbox.Goals as goal

pub returns-in-None : goal.returns-in-None
returns-in-None c = if_text c.from_str.result _ _ (chars_inbox ∙ inbox_none (value_of (codes "Inbox") c.args.profile.now) (search rules)) c.from_str.ensures
