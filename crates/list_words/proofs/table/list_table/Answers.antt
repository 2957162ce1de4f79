use Rattle.std.specs.Str.{chars}
use Rattle.list_words.proofs.table.list_table.Goals as goal

pub returns : goal.returns
unfolding chars
returns c = c.switch_table.ensures
