use Rattle.std.proofs.Common.{map}
use Rattle.std.specs.Str.{chars}
use Rattle.std.specs.String.{string_bytes}
use Rattle.command_words.proofs.Said.{read_on}
use Rattle.sort_words.specs.SortWords.{sort_items, sort_line}
use Rattle.sort_words.specs.Table.{sort_table}
use Rattle.sort_words.proofs.words.sort_words.Goals as goal

pub returns : goal.returns
returns c =
    read_on sort_items _ (sort_line c.args.profile.now (map chars (map string_bytes c.args.words.now))) sort_table _ _ _ c.in_ok-table.ensures c.in_ok-all.ensures c.in_ok-items.ensures c.items_said.ensures
