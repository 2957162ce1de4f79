use Rattle.std.specs.Str.{chars}
use Rattle.anno_words.proofs.table.anno_table.Goals as goal

pub returns : goal.returns
unfolding chars
returns c = c.switch_table.ensures
