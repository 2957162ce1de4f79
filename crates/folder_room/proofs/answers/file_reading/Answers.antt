use Rattle.std.proofs.Common.{rules, sym, ap, ◌∙◌}
use Rattle.std.proofs.lemmas.Result.{IfOk-weaker}
use Rattle.folder_files.specs.Steps.{reading_of}
use Rattle.folder_files.specs.Worlds.{FileState, shown}
use Rattle.folder_room.proofs.Keyed.{file_found, file_lacking}
use Rattle.folder_room.proofs.answers.file_reading.Goals as goal

pub returns-in-Some : goal.returns-in-Some
unfolding shown
returns-in-Some c =
    IfOk-weaker c.reading.result _ _ (λ a e. e ∙ sym (ap (λ (s : FileState). reading_of c.args.limit s.bytes) (file_found c.args.world.now.files c.in-Some.index c.args.id c.index-as_slice-index.result (search rules) (search rules)))) (search rules)

pub returns-in-None : goal.returns-in-None
unfolding shown
returns-in-None c =
    IfOk-weaker c.reading-in-None-2.result _ _ (λ a e. e ∙ sym (ap (λ (s : FileState). reading_of c.args.limit s.bytes) (file_lacking c.args.world.now.files c.args.id (search rules)))) (search rules)
