-- The plan by which messages of a folder get other numbers, and their marks go with them.
use Rattle.std.specs.Prelude.{ℕ, List, [], ◌∷◌, Ok}
use Rattle.mh_sequences.specs.Runs.{last_in}
use Rattle.mh_sequences.specs.Sequences.{Marked}
use Rattle.folder_files.specs.declared.place.Place.{Place}
use Rattle.file_plans.specs.Plan.{Return, ◌>>=◌}
use Rattle.step_plans.specs.PlanFaults.{Planned}
use Rattle.message_places.specs.Arranging.{arranged}
use Rattle.message_places.specs.declared.moves.Move.{Move}
use Rattle.sequence_commits.specs.Committing.{changed_sequences}
use Rattle.opening_plans.specs.Opening.{Opened}
use Rattle.sortm_plans.specs.Marking.{gone_along}
use Rattle.refile_plans.specs.Rmm.{withdrawn}

-- the messages of these numbers leave all sequences, and that is committed
abbrev pub marks_withdrawn : ℕ → Place → Opened → List ℕ → Planned Unit
marks_withdrawn run mail o takes = changed_sequences run o.place mail o.folder o.sequences (withdrawn takes o.sequences)

-- the sequences have again the messages that they had, under the numbers where these ended, and that is committed
abbrev pub marks_restored : ℕ → Place → Opened → List ℕ → List Move → List ℕ → Planned Unit
marks_restored run mail o takes ms ends =
    changed_sequences run o.place mail o.folder (withdrawn takes o.sequences) (gone_along ms ends o.sequences)

-- Messages get other numbers, and their marks go with them: while they move, no sequence has them. The first numbers
-- are those of the messages that move, in the order in which they are taken. It tells where each ended.
unfoldable pub marked_moved : ℕ → Place → Opened → List ℕ → List Move → Planned (List ℕ)
marked_moved run mail o takes ms = do
  free ← marks_withdrawn run mail o takes
  ends ← arranged run o.place takes ms (last_in o.listing)
  back ← marks_restored run mail o takes ms ends
  Return (Ok ends)

-- where none moves nothing is done in the folder
abbrev pub moved_if : ℕ → Place → Opened → List ℕ → List Move → Planned (List ℕ)
moved_if run mail o takes [] = Return (Ok [])
moved_if run mail o takes (m ∷ ms) = marked_moved run mail o takes (m ∷ ms)

-- the sequences, once the messages of these moves ended at the numbers beside them
abbrev pub sequences_after : List Move → List ℕ → Marked → Marked
sequences_after [] ends m = m
sequences_after (x ∷ ms) ends m = gone_along (x ∷ ms) ends m
