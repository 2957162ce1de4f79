-- A pass over a drop that keeps none of it.
use Rattle.std.specs.Prelude.{◌≡◌, ℕ, List, length, Result, Ok, Err}
use Rattle.mbox_drop.specs.Counting.{HasCounted}
use Rattle.mbox_drop.specs.Cutting.{HasTaken}
use Rattle.mbox_drop.specs.declared.counter.DropCounter.{DropCounter}
use Rattle.mbox_drop.specs.declared.cutter.DropCutter.{DropCutter}
use Rattle.file_plans.specs.Follows.{State, Follows}
use Rattle.step_plans.specs.CommandFaults.{command_cause}
use Rattle.step_plans.specs.declared.command_fault.CommandFault.{CommandFault}
use Rattle.command_stages.specs.Texts.{Commanded}
use Rattle.inc_plans.specs.DropTaken.{Read}
use Rattle.inc_plans.specs.declared.taken.Taken.{Taken}

-- the plan read some bytes, as many as the drop has, and these were counted; or it ended by this fault
abbrev pub Passes : ℕ → ℕ → Commanded (List ℕ) → State → State → Result DropCounter CommandFault → Type 0
Passes run l plan x y (Ok counter) =
    (d : List ℕ) × HasCounted counter d × (length d ≡ l) × Follows run command_cause plan x y (Ok d)
Passes run l plan x y (Err e) = Follows run command_cause plan x y (Err e)

-- the plan read some bytes, so many, which the cutter took, and these messages were taken in; or it ended by this fault
abbrev pub Takes : ℕ → Commanded Read → State → State → DropCutter → ℕ → Result Taken CommandFault → Type 0
Takes run plan x y cutter at (Ok taken) =
    (d : List ℕ) × HasTaken cutter d × (length d ≡ at)
    × Follows run command_cause plan x y (Ok (record { bytes = d; taken = taken }))
Takes run plan x y cutter at (Err e) = Follows run command_cause plan x y (Err e)
