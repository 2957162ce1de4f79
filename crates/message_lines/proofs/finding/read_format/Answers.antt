use Rattle.message_lines.proofs.FormatFinds.{finds_value}
use Rattle.message_lines.proofs.finding.read_format.Goals as goal

pub returns-in-Default : goal.returns-in-Default
returns-in-Default g c = record { plan = λ h. rw c.in-Default.is (finds_value c.args.run _ _ c.named_format.result c.named_format.ensures) }

pub returns-in-Word : goal.returns-in-Word
returns-in-Word g c = record { plan = λ h. rw c.in-Word.is (finds_value c.args.run _ _ c.named_format-in-Word.result c.named_format-in-Word.ensures) }

pub returns-in-File : goal.returns-in-File
returns-in-File g c = record { plan = λ h. rw c.in-File.is (c.read_file.ensures h) }
