-- The marks of messages that change places.
use Rattle.std.specs.Prelude.{ℕ, List, map, Some}
use Rattle.std.specs.List.{zip}
use Rattle.mh_sequences.specs.Runs.{set_of}
use Rattle.mh_sequences.specs.Sequences.{Marked, Sequence}
use Rattle.mh_sequences.specs.declared.mark.Mark.{Mark}
use Rattle.mh_sequences.specs.declared.mark.Mark.TheVariants.{Move as Moves, Set}
use Rattle.mh_sequences.specs.declared.mark.Pair.{Pair}
use Rattle.message_places.specs.declared.moves.Move.{Move}
use Rattle.sequence_commits.specs.Marking.{marked_by}

-- the number that each message had, and the one that it has now
abbrev pub pairs_of : List Move → List ℕ → List Pair
pairs_of ms ends = map (λ x. record { from = x.0.from; to = x.1 }) (zip ms ends)

-- where each message has the number beside it, the marks go with their messages, and so does the current message
abbrev pub gone_along : List Move → List ℕ → Marked → Marked
gone_along ms ends m = marked_by (Moves (pairs_of ms ends)) m

-- the mark that gives a sequence back just what it has
abbrev pub set_again : Sequence → Mark
set_again s = Set s.name (set_of s.runs 0) (Some s.public)
