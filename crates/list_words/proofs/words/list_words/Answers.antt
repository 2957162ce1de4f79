use Rattle.std.proofs.Common.{map}
use Rattle.std.specs.Str.{chars}
use Rattle.std.specs.String.{string_bytes}
use Rattle.command_words.proofs.Said.{read_on}
use Rattle.list_words.specs.ListWords.{list_items, list_line}
use Rattle.list_words.specs.Table.{list_table}
use Rattle.list_words.proofs.words.list_words.Goals as goal

pub returns : goal.returns
returns c =
    read_on list_items _ (list_line c.args.profile.now (map chars (map string_bytes c.args.words.now))) list_table _ _ _ c.in_ok-table.ensures c.in_ok-all.ensures c.in_ok-items.ensures c.items_said.ensures
