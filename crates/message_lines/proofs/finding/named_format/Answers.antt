use Rattle.message_lines.proofs.finding.named_format.Goals as goal

pub returns-in-None : goal.returns-in-None
returns-in-None c = rw c.in-None.is c.program.ensures
