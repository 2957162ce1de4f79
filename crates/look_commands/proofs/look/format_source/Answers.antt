use Rattle.look_commands.proofs.Looked.{known_is}
use Rattle.look_commands.proofs.look.format_source.Goals as goal

pub returns-in_ok-named_format-in-Default : goal.returns-in_ok-named_format-in-Default
returns-in_ok-named_format-in-Default c = λ sight. rw c.in-Default.is (known_is sight _ _ c.in_ok-named_format-in-Default.ensures)

pub returns-in_ok-named_format-in-Word : goal.returns-in_ok-named_format-in-Word
returns-in_ok-named_format-in-Word c = λ sight. rw c.in-Word.is (known_is sight _ _ c.in_ok-named_format-in-Word.ensures)
