use Rattle.mh_words.proofs.Texts.{blank}
use Rattle.mh_words.proofs.form.is_blank.Goals as goal

pub returns : goal.returns
returns c = blank c.args.text.now c.is_empty.result c.utf8.text c.is_empty.ensures
