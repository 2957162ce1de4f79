-- Sequences by their names and by what is told of each.
use Rattle.std.specs.Prelude.{ℕ, Bool, List, [], ◌∷◌, if◌then◌else◌}
use Rattle.mh_sequences.specs.Names.{is_seq_name}
use Rattle.mh_sequences.specs.Placing.{placed}
use Rattle.mh_sequences.specs.Sequences.{Sequence}
use Rattle.sequence_commits.specs.RunsOfAll.{runs_of_all}

-- the sequences of these names, in byte order: of each name the message numbers that it has, and whether it is public;
-- there is none where a name has no number, or is no sequence's
unfoldable pub sequences_of : List (List ℕ) → (List ℕ → ℕ → Bool) → (List ℕ → Bool) → List Sequence
sequences_of [] numbers public = []
sequences_of (name ∷ names) numbers public =
    if is_seq_name name then placed name (public name) (runs_of_all (numbers name)) (sequences_of names numbers public)
    else sequences_of names numbers public
