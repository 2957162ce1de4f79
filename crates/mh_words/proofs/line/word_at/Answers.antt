use Rattle.mh_words.proofs.TwoLists.{in_back}
use Rattle.mh_words.proofs.line.word_at.Goals as goal

pub returns-else-place-line-clause-word : goal.returns-else-place-line-clause-word
returns-else-place-line-clause-word c = in_back c.args.line.now.profile.now c.args.line.now.words.now c.args.place c.word_in-else-place-line.result c.if-place-line.false c.word_in-else-place-line.ensures.word
