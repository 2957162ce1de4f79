-- A directory under its lock, cleared of temporary names.
use Rattle.std.specs.Prelude.{ℕ, zero, suc, List, [], ◌∷◌, Ok, Err, if◌then◌else◌}
use Rattle.mh_base.specs.Entries.{kind_of, entry_text}
use Rattle.mh_base.specs.declared.entry.Entry.TheVariants.{LockFile}
use Rattle.folder_files.specs.Named.{is_temp}
use Rattle.folder_files.specs.declared.place.Place.{Place}
use Rattle.folder_files.specs.declared.step.Step.TheVariants as step
use Rattle.file_plans.specs.Asking.{list, lock, unlink}
use Rattle.file_plans.specs.Plan.{Return, ask, lifted, ◌>>=◌}
use Rattle.file_plans.specs.declared.answers.Listing.{Listing}
use Rattle.file_plans.specs.declared.answers.Listing.TheVariants as listing
use Rattle.file_plans.specs.declared.answers.Locking.{Locking}
use Rattle.file_plans.specs.declared.answers.Locking.TheVariants as locking
use Rattle.step_plans.specs.declared.fault.PlanFault.TheVariants as fault
use Rattle.step_plans.specs.PlanFaults.{of_stop, Planned}
use Rattle.step_plans.specs.Replacing.{held_to}

-- the lock's own name stands for a directory that is gone
abbrev pub lock_name : List ℕ
lock_name = entry_text LockFile

abbrev pub locked_by : Place → Locking → Planned Unit → Planned Unit
locked_by p locking.Done again = Return (Ok tt)
locked_by p locking.Busy again = again
locked_by p locking.Gone again = Return (Err (fault.Meddled p lock_name))

-- the place's lock, in so many tries
unfoldable pub locked : Place → ℕ → Planned Unit
locked p zero = Return (Err (fault.Locked p))
locked p (suc n) = do
  locking ← lifted of_stop (lock p)
  locked_by p locking (locked p n)

-- the lock falls; where that fails the plan ends, since a change may come after it
unfoldable pub let_go : Place → Planned Unit
let_go p = do
  answer ← lifted of_stop (ask (step.Unlock p))
  Return (Ok tt)

unfoldable pub removed : Place → List ℕ → Planned Unit
removed p n = do
  touched ← lifted of_stop (unlink p n)
  held_to p n touched

-- a temporary name is unlinked; any other stays
unfoldable pub cleared_one : Place → List ℕ → Planned Unit
cleared_one p n = if is_temp (kind_of n) then removed p n else Return (Ok tt)

-- the temporary names among these are unlinked
unfoldable pub cleared : Place → List (List ℕ) → Planned Unit
cleared p [] = Return (Ok tt)
cleared p (n ∷ names) = do
  one ← cleared_one p n
  cleared p names

abbrev pub clear_listed : Place → Listing → Planned Unit
clear_listed p (listing.Names names) = cleared p names
clear_listed p listing.Gone = Return (Err (fault.Meddled p lock_name))

-- the temporary names of the place are unlinked
unfoldable pub temps_cleared : Place → Planned Unit
temps_cleared p = do
  listing ← lifted of_stop (list p)
  clear_listed p listing
