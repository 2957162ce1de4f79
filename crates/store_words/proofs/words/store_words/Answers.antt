use Rattle.std.proofs.Common.{map}
use Rattle.std.specs.Str.{chars}
use Rattle.std.specs.String.{string_bytes}
use Rattle.command_words.proofs.Said.{read_on}
use Rattle.store_words.specs.StoreWords.{store_items, store_line}
use Rattle.store_words.specs.Table.{store_table}
use Rattle.store_words.proofs.words.store_words.Goals as goal

pub returns : goal.returns
returns c =
    read_on store_items _ (store_line c.args.profile.now (map chars (map string_bytes c.args.words.now))) store_table _ _ _ c.in_ok-table.ensures c.in_ok-all.ensures c.in_ok-items.ensures c.items_said.ensures
