use Rattle.std.proofs.Common.{◌++◌, map}
use Rattle.std.specs.Prelude.{codes}
use Rattle.std.specs.Str.{chars}
use Rattle.std.specs.String.{string_bytes}
use Rattle.look_words.specs.ScanWords.{scan_items}
use Rattle.look_words.specs.Tables.{scan_table}
use Rattle.command_words.specs.Words.{profile_words}
use Rattle.command_words.proofs.Said.{read_on}
use Rattle.look_words.proofs.scan.scan_words.Goals as goal

pub returns : goal.returns
returns c =
    read_on scan_items _ (profile_words (codes "scan") c.args.profile.now ++ map chars (map string_bytes c.args.words.now)) scan_table _ _ _ c.in_ok-table.ensures c.in_ok-all.ensures c.in_ok-items.ensures c.items_said.ensures
