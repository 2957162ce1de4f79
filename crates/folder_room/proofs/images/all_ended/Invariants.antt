use Rattle.std.proofs.Common.{◌≡◌, ◌||◌, ℕ, take}
use Rattle.folder_files.specs.Histories.{has_acted, past_of}
use Rattle.folder_files.specs.Worlds.{has_run}
use Rattle.folder_room.proofs.images.all_ended.Given as goal

abbrev pub invariant-loop-event : goal.invariant-loop-event
invariant-loop-event l = (r : ℕ) → has_run l.all r ≡ has_acted (past_of (take l.event-index l.history)) r || has_run l.fn.ended r
