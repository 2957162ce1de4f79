use Rattle.std.proofs.Common.{lit<}
use Rattle.std.proofs.lemmas.Str.Pattern.{strip_prefix_char}
use Rattle.mh_base.proofs.Texts.{plus_off, no_plus_first, stripped, unstripped}
use Rattle.mh_base.proofs.folder.unmarked.Goals as goal

pub returns-in-Some : goal.returns-in-Some
returns-in-Some c = plus_off _ _ c.utf8.word (stripped _ c.strip_prefix.result c.in-Some.rest c.in-Some.is (strip_prefix_char 43 c.args.word.now c.strip_prefix.result c.strip_prefix.ensures.cases (lit< tt)))

pub returns-in-None : goal.returns-in-None
returns-in-None c = no_plus_first _ c.utf8.word (unstripped _ c.strip_prefix.result c.in-None.is (strip_prefix_char 43 c.args.word.now c.strip_prefix.result c.strip_prefix.ensures.cases (lit< tt)))
