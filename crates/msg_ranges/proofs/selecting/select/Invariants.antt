use Rattle.std.proofs.Common.{map, take}
use Rattle.std.specs.Str.{encode_utf8_all}
use Rattle.mh_sequences.specs.Runs.{numbers_of}
use Rattle.msg_ranges.specs.Selecting.{IsSelection, folder_of}
use Rattle.msg_ranges.proofs.selecting.select.Given as goal

abbrev pub invariant-loop-index : goal.invariant-loop-index
invariant-loop-index l = IsSelection (folder_of l.negation (numbers_of l.listing.runs) l.sequences) (take l.index (map encode_utf8_all l.specs)) l.selected
