use Rattle.mark_command.specs.Lines.{line_of}
use Rattle.mark_command.proofs.lines.user_line.Goals as goal

pub returns : goal.returns
unfolding line_of
returns c = rw (c.as_slice.ensures, c.in_ok-list.ensures) at c.line.ensures
