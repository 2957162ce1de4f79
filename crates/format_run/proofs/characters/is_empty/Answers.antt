use Rattle.format_run.proofs.characters.is_empty.Goals as goal
use Rattle.mail_text.proofs.Emptiness.{emptiness}

pub returns : goal.returns
returns c = emptiness c.args.text.now c.as_str.result.now c.is_empty.result c.as_str.ensures.bytes c.is_empty.ensures
