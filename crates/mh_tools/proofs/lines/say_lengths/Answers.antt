use Rattle.mh_tools.proofs.Texts.{pieces}
use Rattle.mh_tools.proofs.lines.say_lengths.Goals as goal

pub returns : goal.returns
returns c = pieces _ _ _ _ _ c.say_number-2.result c.in_ok-say_number.ensures c.say_number-2.ensures
