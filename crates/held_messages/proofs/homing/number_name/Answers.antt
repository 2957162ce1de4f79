use Rattle.mh_base.specs.Entries.{entry_text}
use Rattle.held_messages.proofs.homing.number_name.Goals as goal

pub returns : goal.returns
unfolding entry_text
returns c = c.entry_name.ensures.value
