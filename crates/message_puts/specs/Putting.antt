-- The plans by which a new message gets a number, and is made safe there.
use Rattle.std.specs.Prelude.{◌+◌, ℕ, List, Option, Some, None, Ok, Err, decimal}
use Rattle.folder_files.specs.declared.place.Place.{Place}
use Rattle.file_plans.specs.Plan.{Return, ◌>>=◌}
use Rattle.step_plans.specs.Locking.{removed}
use Rattle.step_plans.specs.PlanFaults.{Planned}
use Rattle.step_plans.specs.Replacing.{synced, written}
use Rattle.step_plans.specs.declared.fault.PlanFault.TheVariants as fault
use Rattle.held_messages.specs.Settle.{given_from, homed_name}

-- the file of this name is linked to the number that is wished for; where that is taken, or none is wished for, above
-- the highest
unfoldable pub linked_first : Place → List ℕ → Option ℕ → ℕ → Planned (Option ℕ)
linked_first p name None top = given_from p name (top + 1)
linked_first p name (Some n) top = homed_name p name n top

-- where it got none, none is free
abbrev pub number_got : Option ℕ → Planned ℕ
number_got None = Return (Err fault.Full)
number_got (Some n) = Return (Ok n)

unfoldable pub numbered : Place → List ℕ → Option ℕ → ℕ → Planned ℕ
numbered p name wish top = do
  end ← linked_first p name wish top
  number_got end

-- a new message: a file with these bytes is made under the run's next temporary name and made safe, gets a number, and
-- loses its temporary name
unfoldable pub message_put : ℕ → Place → List ℕ → Option ℕ → ℕ → Planned ℕ
message_put run p bytes wish top = do
  temp ← written run p bytes
  number ← numbered p temp wish top
  gone ← removed p temp
  Return (Ok number)

-- it gets a number above the highest, and the directory is made safe
unfoldable pub message_stored : ℕ → Place → ℕ → List ℕ → Planned ℕ
message_stored run p top bytes = do
  number ← message_put run p bytes None top
  safe ← synced p (decimal number)
  Return (Ok number)
