use Rattle.std.proofs.Common.{map}
use Rattle.std.specs.Str.{chars}
use Rattle.std.specs.String.{string_bytes}
use Rattle.folder_words.proofs.SaidMark.{mark_on}
use Rattle.folder_words.proofs.mark.mark_words.Goals as goal

pub returns : goal.returns
returns c = mark_on c.args.profile.now (map chars (map string_bytes c.args.words.now)) _ _ _ _ c.in_ok-table.ensures c.in_ok-all.ensures c.in_ok-items.ensures c.items_said.ensures
