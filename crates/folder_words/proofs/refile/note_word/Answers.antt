use Rattle.folder_words.proofs.RefileFolders.{word_left, word_noted}
use Rattle.folder_words.proofs.refile.note_word.Goals as goal

pub returns-in_err-name : goal.returns-in_err-name
returns-in_err-name c = word_left _ _ c.args.word.now _ _ c.in_err-name.ensures c.from_residual.ensures

pub returns : goal.returns
returns c = word_noted _ _ c.args.word.now _ _ c.in_ok-name.ensures c.in_ok-note_target.ensures
