-- Which messages a folder has once what was held aside is put back.
use Rattle.std.specs.Prelude.{◌+◌, ◌&&◌, ◌||◌, ℕ, Bool, false, max, nat_le, unwrap_or, List, [], ◌∷◌, Option}
use Rattle.file_plans.specs.Sightings.{has_number}
use Rattle.held_messages.specs.HeldPairs.{held_pairs, top_after}
use Rattle.held_messages.specs.Highest.{highest}
use Rattle.held_messages.specs.Settle.{Settled}
use Rattle.held_messages.specs.declared.held.HeldPair.{HeldPair}
use Rattle.mh_sequences.specs.declared.run.Run.{Run}
use Rattle.sequence_commits.specs.RunsOfAll.{runs_of_all}

-- the number is in the range, both ends included
abbrev pub is_between : ℕ → ℕ → ℕ → Bool
is_between first last n = nat_le first n && nat_le n last

-- a link of the held message to this number was tried: to its own, and, where that was taken, to those above the
-- highest, up to where it went; up to the last of all where it stays held
abbrev pub is_tried : HeldPair → ℕ → Option ℕ → ℕ → Bool
is_tried h top end n = is_between (max h.number top + 1) (unwrap_or end 999999) n || is_between h.number h.number n

-- the same of all held messages, which went one after another; `top` is the highest number before
unfoldable pub are_tried : List HeldPair → List (Option ℕ) → ℕ → ℕ → Bool
are_tried [] ends top n = false
are_tried (h ∷ hs) [] top n = false
are_tried (h ∷ hs) (end ∷ ends) top n = are_tried hs ends (top_after end top) n || is_tried h top end n

-- a message of this number was listed, or it was put there, or another run's message stood there when it was tried
abbrev pub exists_in : ℕ → Settled → ℕ → Bool
exists_in run s n = are_tried (held_pairs run s.names) s.ends (highest s.names) n || has_number n s.names

-- the numbers of the folder's messages
unfoldable pub numbers_settled : ℕ → Settled → List Run
numbers_settled run s = runs_of_all (exists_in run s)
