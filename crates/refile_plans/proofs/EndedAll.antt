-- The locks of several folders fall at the end, and nothing else changes.
use Rattle.std.proofs.Common.{◌∷◌, [], ℕ, true, List, Result, Ok, Err}
use Rattle.folder_files.specs.declared.place.Place.{Place}
use Rattle.folder_files.specs.declared.refusal.Refusal.{Refusal}
use Rattle.folder_files.specs.declared.step.Step.TheVariants as step
use Rattle.file_plans.specs.Asking.{attempt_unlock, unlock}
use Rattle.file_plans.specs.Giving.{Gives}
use Rattle.file_plans.specs.Plan.{Hand, ask, attempt, bind, lifted, ◌>>=◌}
use Rattle.file_plans.specs.Views.{View, by_view, view_after}
use Rattle.step_plans.specs.declared.command_fault.CommandFault.{CommandFault}
use Rattle.step_plans.specs.declared.command_fault.CommandFault.TheVariants as fault
use Rattle.command_stages.specs.Works.{Work}
use Rattle.opening_plans.specs.Ending.{finished}
use Rattle.opening_plans.proofs.WorkGiven.{WorkEnds}
use Rattle.refile_plans.specs.Gathering.{all_ended, all_finished, all_given_up}

-- at Done each lock falls
all_finish : (w : Work CommandFault) (ps : List Place) (z : View) (j : Hand) (left : List ℕ) → WorkEnds w z j left (Ok tt) → Gives (by_view true) z j left (all_finished ps) (WorkEnds w)
unfolding Gives all_finished finished unlock ask lifted bind ◌>>=◌
all_finish w [] z j left f = f
all_finish w (p ∷ ps) z j left f = λ a row live fits. all_finish w ps (view_after z (step.Unlock p) a) j left f

-- and at a refusal
all_give_up : (w : Work CommandFault) (ps : List Place) (z : View) (j : Hand) (left : List ℕ) (r : Refusal) → WorkEnds w z j left (Err (fault.Refused r)) → Gives (by_view true) z j left (all_given_up ps (fault.Refused r)) (WorkEnds w)
unfolding Gives all_given_up attempt_unlock attempt lifted bind ◌>>=◌
all_give_up w [] z j left r f = f
all_give_up w (p ∷ ps) z j left r f = λ a row fits. all_give_up w ps (view_after z (step.Unlock p) a) j left r f

-- so the command ends as its work has it
pub all_end : (w : Work CommandFault) (ps : List Place) (z : View) (j : Hand) (left : List ℕ) (r : Result Unit CommandFault) → WorkEnds w z j left r → Gives (by_view true) z j left (all_ended ps r) (WorkEnds w)
unfolding Gives
all_end w ps z j left (Ok u) f = all_finish w ps z j left f
all_end w ps z j left (Err (fault.Refused r)) f = all_give_up w ps z j left r f
all_end w ps z j left (Err (fault.Faulted which)) f = f
all_end w ps z j left (Err (fault.Locked q)) f = absurd f
all_end w ps z j left (Err (fault.Meddled q x)) f = f
all_end w ps z j left (Err fault.Memory) f = f
