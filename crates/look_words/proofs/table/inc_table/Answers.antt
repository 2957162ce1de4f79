use Rattle.std.specs.Str.{chars}
use Rattle.look_words.proofs.table.inc_table.Goals as goal

pub returns : goal.returns
unfolding chars
returns c = c.switch_table.ensures
