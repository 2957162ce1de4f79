use Rattle.std.proofs.Common.{sym, ap, ◌∙◌}
use Rattle.std.proofs.lemmas.Result.{IfOk-weaker}
use Rattle.folder_files.specs.Steps.{read_file_answer}
use Rattle.folder_room.proofs.answers.read_file.Goals as goal

pub returns-in-Some : goal.returns-in-Some
returns-in-Some c = IfOk-weaker c.reading.result _ _ (λ a e. e ∙ sym (ap (read_file_answer c.args.limit) c.in-Some.ensures)) c.reading.ensures

pub returns-in-None : goal.returns-in-None
returns-in-None c = sym (ap (read_file_answer c.args.limit) c.in-None.ensures)
