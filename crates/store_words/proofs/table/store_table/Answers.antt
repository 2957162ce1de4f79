use Rattle.std.specs.Str.{chars}
use Rattle.store_words.proofs.table.store_table.Goals as goal

pub returns : goal.returns
unfolding chars
returns c = c.switch_table.ensures
