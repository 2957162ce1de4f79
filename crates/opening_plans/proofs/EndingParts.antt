-- A command's work on a folder, and its end.
use Rattle.std.proofs.Common.{◌≡◌, ℕ, Result, Ok, Err, refl, sym, ap, subst}
use Rattle.folder_files.specs.declared.place.Place.{Place}
use Rattle.folder_files.specs.declared.refusal.Which.TheVariants.{Files, Source, Out}
use Rattle.file_plans.specs.Follows.{State, Follows}
use Rattle.file_plans.specs.Plan.{Plan, bind}
use Rattle.file_plans.specs.Runs.{exit_of}
use Rattle.file_plans.proofs.Following.{end_off, end_on, refuses}
use Rattle.step_plans.specs.CommandFaults.{command_cause}
use Rattle.step_plans.specs.declared.command_fault.CommandFault.{CommandFault}
use Rattle.step_plans.specs.declared.command_fault.CommandFault.TheVariants as fault
use Rattle.opening_plans.specs.Ending.{Ends, ended}

-- the work, and then the end that the code makes of it
pub ends_so : {run : ℕ} (at : Place) (p : Plan (Result Unit CommandFault)) {x y z : State} (r : Result Unit CommandFault) {s : Result Unit CommandFault}
    → Follows run command_cause p x y r → Ends run at r y z s → Follows run command_cause (bind p (ended at)) x z s
ends_so at p (Ok tt) f g = end_on command_cause (ended at) (Ok tt) refl f g
ends_so at p (Err (fault.Refused r)) f g = end_on command_cause (ended at) (Err (fault.Refused r)) refl f g
ends_so {run = run} at p {x = x} {y = y} (Err (fault.Faulted Files)) {s = s} f g =
    subst (λ z. Follows run command_cause (bind p (ended at)) x z s) (sym g.1) (end_off command_cause (ended at) (Err (fault.Faulted Files)) (ap (exit_of command_cause) g.0) f)
ends_so {run = run} at p {x = x} {y = y} (Err (fault.Faulted Source)) {s = s} f g =
    subst (λ z. Follows run command_cause (bind p (ended at)) x z s) (sym g.1) (end_off command_cause (ended at) (Err (fault.Faulted Source)) (ap (exit_of command_cause) g.0) f)
ends_so {run = run} at p {x = x} {y = y} (Err (fault.Faulted Out)) {s = s} f g =
    subst (λ z. Follows run command_cause (bind p (ended at)) x z s) (sym g.1) (end_off command_cause (ended at) (Err (fault.Faulted Out)) (ap (exit_of command_cause) g.0) f)
ends_so at p (Err (fault.Locked q)) f g = end_on command_cause (ended at) (Err (fault.Locked q)) refl f g
ends_so {run = run} at p {x = x} {y = y} (Err (fault.Meddled q n)) {s = s} f g =
    end_on command_cause (ended at) (Err (fault.Meddled q n)) refl f (stays g.0 g.1)
  where
    stays : {z : State} → s ≡ Err (fault.Meddled q n) → z ≡ y → Follows run command_cause (ended at (Err (fault.Meddled q n))) y z s
    stays e same = rw (e, same) (refuses _ refl)
ends_so {run = run} at p {x = x} {y = y} (Err fault.Memory) {s = s} f g =
    subst (λ z. Follows run command_cause (bind p (ended at)) x z s) (sym g.1) (end_off command_cause (ended at) (Err fault.Memory) (ap (exit_of command_cause) g.0) f)
