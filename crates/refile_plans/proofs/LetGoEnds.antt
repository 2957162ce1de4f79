-- How a command ends that lets several folders go, and what shows it.
use Rattle.std.proofs.Common.{◌≡◌, ◌++◌, ◌∷◌, [], ℕ, List, Result, Ok, Err, sym, subst}
use Rattle.folder_files.specs.Deeds as deeds
use Rattle.folder_files.specs.Deeds.{WasDone, did, on}
use Rattle.folder_files.specs.declared.place.Place.{Place}
use Rattle.folder_files.specs.declared.place.Place.TheVariants.{Folder}
use Rattle.folder_files.specs.declared.refusal.Which.{Which}
use Rattle.folder_files.specs.declared.step.Answer.{Answer}
use Rattle.folder_files.specs.declared.step.Step.TheVariants as step
use Rattle.file_plans.specs.Asking.{attempt_unlock, unlock}
use Rattle.file_plans.specs.Plan.{Hand, Return, ask, attempt, bind, lifted, ◌>>=◌}
use Rattle.file_plans.specs.Rules.{Keeps}
use Rattle.file_plans.specs.Runs.{Deed, Did}
use Rattle.file_plans.proofs.Acting.{acts, acts_append}
use Rattle.file_plans.proofs.Framing.{AnyStep}
use Rattle.step_plans.specs.declared.command_fault.CommandFault.{CommandFault}
use Rattle.step_plans.specs.declared.command_fault.CommandFault.TheVariants as fault
use Rattle.step_plans.proofs.Coming.{NoneFailed, anything}
use Rattle.step_plans.proofs.Lasting.{KeptBy}
use Rattle.opening_plans.specs.Ending.{finished}
use Rattle.refile_plans.specs.Gathering.{all_ended, all_finished, all_given_up}
use Rattle.refile_plans.specs.RefileAnswers.{IsEndedFirst, IsShownFirst, none_let_go, one_let_go}

-- each of these places is a folder whose lock was taken
abbrev pub AllLocked : List Place → List deeds.Deed → Type 0
AllLocked [] own = Unit {0}
AllLocked (p ∷ ps) own = ((path : List ℕ) × (folder : List ℕ) × (p ≡ Folder path folder) × WasDone (step.Lock (Folder path folder)) own) × AllLocked ps own

pub all_locked_kept : (ps : List Place) → KeptBy AnyStep (AllLocked ps)
all_locked_kept [] own s a any f = tt
all_locked_kept (p ∷ ps) own s a any f = ((f.0.0, f.0.1, f.0.2, on f.0.3), all_locked_kept ps own s a any f.1)

-- What shows a fault, which is never one of its surroundings; and what is so besides, which each step keeps.
module _ (S : CommandFault → List deeds.Deed → Type 0) (never : (which : Which) (own : List deeds.Deed) → S (fault.Faulted which) own → ⊥) (F : List deeds.Deed → Type 0) (keeps : KeptBy AnyStep F) where
  abbrev Beside : CommandFault → List deeds.Deed → Type 0
  Beside e own = F own × S e own

  -- so it ends: this is so, and where it is not done that shows its fault
  abbrev pub EndsAll : List Deed → Hand → Result Unit CommandFault → Type 0
  EndsAll past h (Ok u) = F (acts past)
  EndsAll past h (Err e) = IsEndedFirst Beside e (acts past)

  all_finished_end : (past : List Deed) (h : Hand) (ps : List Place) → F (acts past) → Keeps anything past h (all_finished ps) EndsAll
  unfolding Keeps all_finished finished unlock ask lifted bind ◌>>=◌
  all_finished_end past h [] f = (tt, f)
  all_finished_end past h (p ∷ ps) f =
      (tt, tt, tt, λ a row live. all_finished_end (past ++ Did (step.Unlock p) a ∷ []) h ps (rw (acts_append [] past (Did (step.Unlock p) a ∷ [])) (keeps (acts past) (step.Unlock p) a tt f)))

  -- a fault after which folders are let go
  module _ (e : CommandFault) (is : (own : List deeds.Deed) → IsShownFirst (Beside e) own → IsEndedFirst Beside e own) where
    one_more : (p : Place) (path folder : List ℕ) (own : List deeds.Deed) (a : Answer) → p ≡ Folder path folder → WasDone (step.Lock (Folder path folder)) own → IsShownFirst (Beside e) own → IsShownFirst (Beside e) (did (step.Unlock p) a ∷ own)
    one_more p path folder own a same lock shown = subst (λ z. IsShownFirst (Beside e) (did (step.Unlock z) a ∷ own)) (sym same) (one_let_go shown lock)

    all_given_up_end : (past : List Deed) (h : Hand) (ps : List Place) → AllLocked ps (acts past) → IsShownFirst (Beside e) (acts past) → Keeps anything past h (all_given_up ps e) EndsAll
    unfolding Keeps all_given_up attempt_unlock attempt lifted bind ◌>>=◌
    all_given_up_end past h [] locks shown = (tt, is (acts past) shown)
    all_given_up_end past h (p ∷ ps) locks shown = (
      tt,
      tt,
      λ a row.
          all_given_up_end (past ++ Did (step.Unlock p) a ∷ []) h ps (rw (acts_append [] past (Did (step.Unlock p) a ∷ [])) (all_locked_kept ps (acts past) (step.Unlock p) a tt locks.1))
          (rw (acts_append [] past (Did (step.Unlock p) a ∷ [])) (one_more p locks.0.0 locks.0.1 (acts past) a locks.0.2 locks.0.3 shown)),
    )

  -- at the end of the work
  abbrev pub Shown_ : Result Unit CommandFault → List deeds.Deed → Type 0
  Shown_ (Ok u) own = Unit {0}
  Shown_ (Err e) own = S e own

  pub all_ended_end : (past : List Deed) (h : Hand) (ps : List Place) (r : Result Unit CommandFault) → NoneFailed (acts past) → F (acts past) → AllLocked ps (acts past) → Shown_ r (acts past) → Keeps anything past h (all_ended ps r) EndsAll
  unfolding Keeps
  all_ended_end past h ps (Ok u) clean f locks s = all_finished_end past h ps f
  all_ended_end past h ps (Err (fault.Refused r)) clean f locks s = all_given_up_end (fault.Refused r) (λ own z. z) past h ps locks (none_let_go (f, s) clean)
  all_ended_end past h ps (Err (fault.Faulted which)) clean f locks s = absurd (never which (acts past) s)
  all_ended_end past h ps (Err (fault.Locked q)) clean f locks s = all_given_up_end (fault.Locked q) (λ own z. z) past h ps locks (none_let_go (f, s) clean)
  all_ended_end past h ps (Err (fault.Meddled q x)) clean f locks s = (tt, ((f, s), clean))
  all_ended_end past h ps (Err fault.Memory) clean f locks s = (tt, tt)

  -- where it stops at once
  stopped : (e : CommandFault) (own : List deeds.Deed) → NoneFailed own → F own → S e own → IsEndedFirst Beside e own
  stopped (fault.Refused r) own clean f s = none_let_go (f, s) clean
  stopped (fault.Faulted which) own clean f s = never which own s
  stopped (fault.Locked q) own clean f s = none_let_go (f, s) clean
  stopped (fault.Meddled q x) own clean f s = ((f, s), clean)
  stopped fault.Memory own clean f s = tt

  pub stopped_end : (past : List Deed) (h : Hand) (e : CommandFault) → NoneFailed (acts past) → F (acts past) → S e (acts past) → Keeps anything past h (Return (Err e)) EndsAll
  unfolding Keeps
  stopped_end past h e clean f s = (tt, stopped e (acts past) clean f s)
