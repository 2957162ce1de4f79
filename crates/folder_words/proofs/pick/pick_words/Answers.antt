use Rattle.std.proofs.Common.{map, FitsSigned, w32, w64}
use Rattle.std.proofs.lemmas.Int.{to_z-of_z}
use Rattle.std.specs.Str.{chars}
use Rattle.std.specs.String.{string_bytes}
use Rattle.folder_words.specs.PickWords.{pick_items, pick_line}
use Rattle.folder_words.specs.Tables.{pick_table}
use Rattle.command_words.proofs.Said.{read_on}
use Rattle.folder_words.proofs.pick.pick_words.Goals as goal

pub returns : goal.returns
returns c =
    let fits_now : FitsSigned w64 c.args.moment = c.ranges.moment in
    let fits_offset : FitsSigned w32 c.args.offset_minutes = c.ranges.offset_minutes in
    read_on (pick_items c.args.moment c.args.offset_minutes) _ (pick_line c.args.profile.now (map chars (map string_bytes c.args.words.now))) pick_table _ _ _ c.in_ok-table.ensures c.in_ok-all.ensures c.in_ok-items.ensures
    (simp to_z-of_z at c.items_said.ensures)
