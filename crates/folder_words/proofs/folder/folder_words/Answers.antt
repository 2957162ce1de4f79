use Rattle.std.proofs.Common.{◌++◌, map}
use Rattle.std.specs.Prelude.{codes}
use Rattle.std.specs.Str.{chars}
use Rattle.std.specs.String.{string_bytes}
use Rattle.folder_words.specs.Tables.{folder_table}
use Rattle.folder_words.specs.TellWords.{tell_items}
use Rattle.command_words.specs.Words.{profile_words}
use Rattle.command_words.proofs.Said.{read_on}
use Rattle.folder_words.proofs.folder.folder_words.Goals as goal

pub returns : goal.returns
returns c =
    read_on tell_items _ (profile_words (codes "folder") c.args.profile.now ++ map chars (map string_bytes c.args.words.now)) folder_table _ _ _ c.in_ok-table.ensures c.in_ok-all.ensures c.in_ok-items.ensures c.items_said.ensures
