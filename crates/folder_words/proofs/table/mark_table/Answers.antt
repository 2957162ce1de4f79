use Rattle.std.specs.Str.{chars}
use Rattle.folder_words.proofs.table.mark_table.Goals as goal

pub returns : goal.returns
unfolding chars
returns c = c.switch_table.ensures
