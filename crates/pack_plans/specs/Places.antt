-- Where the messages of a folder come to stand when they are numbered anew.
use Rattle.std.specs.Prelude.{ℕ, ◌==◌, List, [], ◌∷◌, ◌++◌, length, if◌then◌else◌}
use Rattle.std.specs.List.{range_with_len}
use Rattle.mh_sequences.specs.declared.run.Run.{Run}
use Rattle.mh_sequences.specs.Runs.{numbers_of}
use Rattle.message_places.specs.Order.{moves_of}
use Rattle.message_places.specs.declared.moves.Move.{Move}
use Rattle.sequence_commits.specs.RunsOfAll.{set_among}

-- the numbers from 1 on, one for each of these
abbrev pub places_of : List ℕ → List ℕ
places_of numbers = range_with_len 1 (length numbers)

-- the k-th of these messages goes to k, where that is another number than its own
abbrev pub pack_moves : List ℕ → List Move
pack_moves numbers = moves_of numbers (places_of numbers)

-- of a folder with these numbers
abbrev pub listing_moves : List Run → List Move
listing_moves listing = pack_moves (numbers_of listing)

-- those of the messages that stand at the places beside them
abbrev pub staying : List ℕ → List ℕ → List ℕ
staying [] ss = []
staying (n ∷ ns) [] = []
staying (n ∷ ns) (s ∷ ss) = if n == s then n ∷ staying ns ss else staying ns ss

-- the numbers of the folder's messages, once those that move ended at these
abbrev pub listing_after : List ℕ → List ℕ → List ℕ → List Run
listing_after numbers places ends = set_among (staying numbers places ++ ends)

-- of a folder with these numbers
abbrev pub packed_listing : List Run → List ℕ → List Run
packed_listing listing ends = listing_after (numbers_of listing) (places_of (numbers_of listing)) ends
