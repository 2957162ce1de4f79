use Rattle.mhbuild_plans.proofs.Composing.{if_message}
use Rattle.mhbuild_command.proofs.message.compose_one.Goals as goal

pub returns : goal.returns
returns c = if_message c.compose.result c.args.run c.args.draft.now c.args.givens.now c.compose.ensures
