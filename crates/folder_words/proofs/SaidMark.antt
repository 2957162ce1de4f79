-- What is said of the words of `mark`, which were read.
use Rattle.std.proofs.Common.{◌≡◌, ℕ, List, Result, Ok}
use Rattle.mh_profile.specs.declared.named_value.NamedValue.{NamedValue}
use Rattle.mh_words.specs.Whole.{read_in}
use Rattle.mh_words.specs.declared.item.Item.{Item}
use Rattle.mh_words.specs.declared.table.SwitchTable.{SwitchTable}
use Rattle.command_words.specs.Ended.{items_or_wrong}
use Rattle.command_words.specs.Results.{IsSaid}
use Rattle.command_words.specs.declared.ended.Ended.{Ended}
use Rattle.command_words.proofs.Said.{read_on}
use Rattle.folder_words.specs.MarkWords.{mark_items, mark_line, mark_said}
use Rattle.folder_words.specs.Tables.{mark_table}
use Rattle.folder_words.specs.declared.mark.MarkWords.{MarkWords}

-- the words of `mark`
pub mark_on : (profile : List NamedValue) (words all : List (List ℕ)) (table : SwitchTable) (items : List Item)
    (result : Result MarkWords Ended) → table ≡ mark_table → all ≡ mark_line profile words →
    items_or_wrong all (read_in table 0 all) ≡ Ok items → IsSaid (mark_items all items) result →
    IsSaid (mark_said profile words) result
mark_on profile words all table items result tabled whole read said = read_on mark_items all (mark_line profile words) mark_table table items result tabled whole read said
