-- The locks of several folders fall, and each of these steps minds all marks.
use Rattle.std.proofs.Common.{◌∷◌, [], ℕ, List, Result, Ok, Err}
use Rattle.folder_files.specs.Deeds.{Deed}
use Rattle.folder_files.specs.declared.place.Place.{Place}
use Rattle.folder_files.specs.declared.step.Step.TheVariants as step
use Rattle.file_plans.specs.Asking.{attempt_unlock, unlock}
use Rattle.file_plans.specs.Plan.{Hand, Plan, ask, attempt, bind, lifted, ◌>>=◌}
use Rattle.step_plans.specs.CommandFaults.{of_stop}
use Rattle.step_plans.specs.Pledges.{MayAsk, Pledge}
use Rattle.step_plans.specs.declared.command_fault.CommandFault.{CommandFault}
use Rattle.step_plans.specs.declared.command_fault.CommandFault.TheVariants as fault
use Rattle.step_plans.proofs.Going.{Outcome, okay}
use Rattle.opening_plans.specs.Ending.{finished}
use Rattle.opening_plans.proofs.AllMarks.{MindsAll, look_minds}
use Rattle.opening_plans.proofs.Meeting.{Meets, meets_end, meets_more, meets_return, meets_then}
use Rattle.opening_plans.proofs.WorkMinds.{Anyhow}
use Rattle.refile_plans.specs.Gathering.{all_ended, all_finished, all_given_up}

module _ (Of : List ℕ → Type 0) (w : Pledge) where
  abbrev M : {R : Type 0} → List Deed → Hand → Plan R → Outcome R → Type 0
  M own h plan Q = Meets (MayAsk w) (MindsAll Of w.run) own h plan Q

  abbrev Free : Outcome Unit
  Free later j u = Unit {0}

  one_finished : (p : Place) (own : List Deed) (h : Hand) → M own h (finished p) (okay Free)
  unfolding Meets finished unlock ask lifted bind ◌>>=◌
  one_finished p own h = λ may. (look_minds Of w.run own (step.Unlock p) tt, λ a row live. tt)

  finished_meet : (ps : List Place) (own : List Deed) (h : Hand) → M own h (all_finished ps) (okay Free)
  unfolding all_finished
  finished_meet [] own h = meets_return (MayAsk w) (MindsAll Of w.run) own h tt (okay Free) tt
  finished_meet (p ∷ ps) own h = meets_then (MayAsk w) (MindsAll Of w.run) own h (finished p) (λ free. all_finished ps) Free Free (one_finished p own h) (λ later j u g. finished_meet ps later j)

  one_given_up : (p : Place) (own : List Deed) (h : Hand) → M own h (lifted of_stop (attempt_unlock p)) (okay Free)
  unfolding Meets attempt_unlock attempt lifted bind ◌>>=◌
  one_given_up p own h = λ may. (look_minds Of w.run own (step.Unlock p) tt, λ a row. tt)

  given_up_meet : (ps : List Place) (e : CommandFault) (own : List Deed) (h : Hand) → M own h (all_given_up ps e) (okay Free)
  unfolding all_given_up
  given_up_meet [] e own h = meets_end (MayAsk w) (MindsAll Of w.run) own h e Free
  given_up_meet (p ∷ ps) e own h = meets_then (MayAsk w) (MindsAll Of w.run) own h (lifted of_stop (attempt_unlock p)) (λ free. all_given_up ps e) Free Free (one_given_up p own h) (λ later j u g. given_up_meet ps e later j)

  anyhow : (plan : Plan (Result Unit CommandFault)) (own : List Deed) (h : Hand) → M own h plan (okay Free) → M own h plan Anyhow
  anyhow plan own h f = meets_more (MayAsk w) (MindsAll Of w.run) own h plan (okay Free) Anyhow (λ later j r q. tt) f

  pub all_ended_meet : (ps : List Place) (own : List Deed) (h : Hand) (r : Result Unit CommandFault) → M own h (all_ended ps r) Anyhow
  unfolding Meets
  all_ended_meet ps own h (Ok u) = anyhow (all_finished ps) own h (finished_meet ps own h)
  all_ended_meet ps own h (Err (fault.Refused r)) = anyhow (all_given_up ps (fault.Refused r)) own h (given_up_meet ps (fault.Refused r) own h)
  all_ended_meet ps own h (Err (fault.Faulted which)) = tt
  all_ended_meet ps own h (Err (fault.Locked q)) = anyhow (all_given_up ps (fault.Locked q)) own h (given_up_meet ps (fault.Locked q) own h)
  all_ended_meet ps own h (Err (fault.Meddled q x)) = tt
  all_ended_meet ps own h (Err fault.Memory) = tt
