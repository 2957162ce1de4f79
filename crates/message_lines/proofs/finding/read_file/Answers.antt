use Rattle.message_lines.proofs.FormatFinds.{finds_file, finds_none}
use Rattle.message_lines.proofs.finding.read_file.Goals as goal

pub returns-in_err-reading : goal.returns-in_err-reading
returns-in_err-reading g c = λ h. finds_none c.args.run c.args.path.now _ _ _ c.from_residual.result (c.in_err-reading.ensures h) c.from_residual.ensures

pub returns : goal.returns
returns g c = λ h. finds_file c.args.run c.args.path.now _ _ c.in_ok-reading.reading c.file_program.result (c.in_ok-reading.ensures h) c.file_program.ensures
