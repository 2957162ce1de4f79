-- The plan by which messages of one folder change places.
use Rattle.std.specs.Prelude.{◌++◌, ◌∷◌, [], ℕ, max, List, Option, Some, None, Ok}
use Rattle.std.specs.List.{last_or}
use Rattle.mh_base.specs.Entries.{entry_text}
use Rattle.mh_base.specs.declared.entry.Entry.TheVariants.{Held}
use Rattle.folder_files.specs.declared.place.Place.{Place}
use Rattle.file_plans.specs.Plan.{Return, ◌>>=◌}
use Rattle.step_plans.specs.Locking.{removed}
use Rattle.step_plans.specs.PlanFaults.{Planned}
use Rattle.held_messages.specs.Settle.{homed_name, synced_at}
use Rattle.message_puts.specs.Putting.{number_got}
use Rattle.message_moves.specs.Moving.{number_taken}
use Rattle.message_places.specs.declared.moves.Move.{Move}

-- the name under which a run holds the message of this number aside
abbrev pub aside_name : ℕ → ℕ → List ℕ
aside_name run n = entry_text (Held run n)

-- the messages of these numbers are held aside, one after another
unfoldable pub all_taken : ℕ → Place → List ℕ → Planned Unit
all_taken run p [] = Return (Ok tt)
all_taken run p (n ∷ ns) = do
  held ← number_taken run p n
  all_taken run p ns

-- A message that the run holds aside gets its slot, or where that is taken the first free number above it and the
-- highest. Where none is free the plan ends.
unfoldable pub given : ℕ → Place → Move → ℕ → Planned ℕ
given run p m top = do
  end ← homed_name p (aside_name run m.from) m.slot top
  number_got end

-- one after another; these are the numbers of those before
unfoldable pub all_given : ℕ → Place → List Move → ℕ → List ℕ → Planned (List ℕ)
all_given run p [] top before = Return (Ok before)
all_given run p (m ∷ ms) top before = do
  end ← given run p m top
  all_given run p ms (max end top) (before ++ end ∷ [])

-- their held names go, one after another
unfoldable pub all_dropped : ℕ → Place → List Move → Planned Unit
all_dropped run p [] = Return (Ok tt)
all_dropped run p (m ∷ ms) = do
  gone ← removed p (aside_name run m.from)
  all_dropped run p ms

-- that they are gone is made safe too, so that no crash brings one back; this number is the last name that the call
-- made there
unfoldable pub dropped_for_good : ℕ → Place → List Move → ℕ → Planned Unit
dropped_for_good run p ms n = do
  gone ← all_dropped run p ms
  synced_at p n

-- no held name goes before what it leads to is safe under its number
unfoldable pub dropped_safely : ℕ → Place → List Move → ℕ → Planned Unit
dropped_safely run p ms n = do
  safe ← synced_at p n
  dropped_for_good run p ms n

-- nothing more is to be done where none was given a number; else this is the last that was
abbrev pub let_go_by : ℕ → Place → List Move → Option ℕ → Planned Unit
let_go_by run p ms None = Return (Ok tt)
let_go_by run p ms (Some n) = dropped_safely run p ms n

-- messages that were given these numbers are held no longer
abbrev pub let_go_after : ℕ → Place → List Move → List ℕ → Planned Unit
let_go_after run p ms ends = let_go_by run p ms (last_or None ends)

-- All of these are held aside; each move's message is given its slot, in the order of the moves, or else a number above
-- the highest; and once all are safe there they are held no longer. It tells where each ended, one number a move.
unfoldable pub arranged : ℕ → Place → List ℕ → List Move → ℕ → Planned (List ℕ)
arranged run p takes ms top = do
  aside ← all_taken run p takes
  ends ← all_given run p ms top []
  gone ← let_go_after run p ms ends
  Return (Ok ends)
