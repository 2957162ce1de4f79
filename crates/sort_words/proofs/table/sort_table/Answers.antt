use Rattle.std.specs.Str.{chars}
use Rattle.sort_words.proofs.table.sort_table.Goals as goal

pub returns : goal.returns
unfolding chars
returns c = c.switch_table.ensures
