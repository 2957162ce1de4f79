use Rattle.std.proofs.lemmas.Str.Pattern.{strip_prefix_char}
use Rattle.mh_words.proofs.Texts.{marked}
use Rattle.mh_words.proofs.form.after_mark.Goals as goal

pub returns : goal.returns
returns c = marked c.args.text.now c.args.mark c.strip_prefix.result c.utf8.text c.requires (strip_prefix_char c.args.mark c.args.text.now c.strip_prefix.result c.strip_prefix.ensures.cases c.requires)
