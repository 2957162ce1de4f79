-- The beginning and the end of a command on a folder mind all marks.
use Rattle.std.proofs.Common.{ℕ, List, Result, Ok, Err, refl}
use Rattle.std.specs.Str.{encode_utf8_all}
use Rattle.folder_files.specs.Deeds.{Deed}
use Rattle.folder_files.specs.declared.place.Place.{Place}
use Rattle.folder_files.specs.declared.place.Place.TheVariants.{Folder, Mail}
use Rattle.folder_files.specs.declared.step.Step.{Step}
use Rattle.folder_files.specs.declared.step.Step.TheVariants as step
use Rattle.file_plans.specs.Asking.{attempt_unlock, unlock}
use Rattle.file_plans.specs.Plan.{Hand, Plan, Return, after, ask, attempt, bind, lifted, ◌>>=◌}
use Rattle.step_plans.specs.ContextCommit.{AreChanges, commit_context}
use Rattle.step_plans.specs.Pledges.{MayAsk, Pledge}
use Rattle.step_plans.specs.declared.command_fault.CommandFault.{CommandFault}
use Rattle.step_plans.specs.declared.command_fault.CommandFault.TheVariants as fault
use Rattle.step_plans.proofs.Going.{Outcome, okay}
use Rattle.command_stages.specs.Current.{current_change, current_name, made_current}
use Rattle.command_stages.specs.Endings.{of_plan}
use Rattle.opening_plans.specs.Ending.{ended, finished, given_up}
use Rattle.opening_plans.specs.Opening.{Opened, begun}
use Rattle.opening_plans.proofs.AllMarks.{MindsAll, look_minds}
use Rattle.opening_plans.proofs.BegunSeen.{HasSeenBegun, NoneUnlinked, begun_meets}
use Rattle.opening_plans.proofs.CommitMinds.{Facts, IsTold, other_minds}
use Rattle.opening_plans.proofs.CommitSeen.{commit_meets}
use Rattle.opening_plans.proofs.FolderSeen.{Seen, quiet_seen}
use Rattle.opening_plans.proofs.FreeMarks.{FreesOthers}
use Rattle.opening_plans.proofs.Meeting.{Meets, meets_bind, meets_lifted, meets_return, meets_then, meets_weaker}

-- whatever comes of a part
abbrev pub Anyhow : {R : Type 0} → Outcome R
Anyhow own h r = Unit {0}

module _ (w : Pledge) (path folder : List ℕ) where
  abbrev Of : List ℕ → Type 0
  Of other = IsTold folder other

  abbrev p : Place
  p = Folder path folder

  abbrev mail : Place
  mail = Mail path

  abbrev M : {R : Type 0} → List Deed → Hand → Plan R → Outcome R → Type 0
  M own h plan Q = Meets (MayAsk w) (MindsAll Of w.run) own h plan Q

  -- the folder becomes the current one
  pub current_meets : (names : List (List ℕ)) (There : List ℕ → Type 0) → AreChanges (current_change folder) → (own : List Deed) (h : Hand) → Facts w path folder names There own
      → M own h (made_current w.run path folder) (okay (λ later j u. Facts w path folder names There later))
  unfolding made_current
  current_meets names There ok own h f =
      meets_then (MayAsk w) (MindsAll Of w.run) own h (lifted (of_plan folder) (commit_context w.run mail (current_change folder))) (λ done. Return (Ok tt)) (λ later j u. Facts w path folder names There later) (λ later j u. Facts w path folder names There later)
      (meets_lifted (MayAsk w) (MindsAll Of w.run) own h (of_plan folder) (commit_context w.run mail (current_change folder)) (λ later j u. Facts w path folder names There later)
      (commit_meets Of w path folder (Seen p names There) (quiet_seen w p names There) (λ before g. g.lock) (current_change folder)
      (λ before temp old may g synced known made. other_minds w path folder before temp old current_name (encode_utf8_all folder) refl ok known made) own h f.0 f.1))
      (λ later j u g. meets_return (MayAsk w) (MindsAll Of w.run) later j tt (okay (λ later j u. Facts w path folder names There later)) g)

  -- the folder's lock falls
  finished_meets : (own : List Deed) (h : Hand) → M own h (finished p) Anyhow
  unfolding Meets finished unlock ask lifted bind ◌>>=◌
  finished_meets own h = λ may. (look_minds Of w.run own (step.Unlock p) tt, λ a row live. tt)

  given_up_meets : (own : List Deed) (h : Hand) (e : CommandFault) → M own h (given_up p e) Anyhow
  unfolding Meets given_up attempt_unlock attempt lifted bind ◌>>=◌
  given_up_meets own h e = λ may. (look_minds Of w.run own (step.Unlock p) tt, λ a row. tt)

  pub ended_meets : (own : List Deed) (h : Hand) (r : Result Unit CommandFault) → M own h (ended p r) Anyhow
  unfolding Meets
  ended_meets own h (Ok u) = finished_meets own h
  ended_meets own h (Err (fault.Refused r)) = given_up_meets own h (fault.Refused r)
  ended_meets own h (Err (fault.Faulted which)) = tt
  ended_meets own h (Err (fault.Locked q)) = given_up_meets own h (fault.Locked q)
  ended_meets own h (Err (fault.Meddled q x)) = tt
  ended_meets own h (Err fault.Memory) = tt

  -- a command that begins the folder so, works on it and ends: where its work meets this besides, so does all of it
  module _ (A : List Deed → Step → Type 0) (minds : (own : List Deed) (s : Step) → MindsAll Of w.run own s → A own s) (act : Opened → Plan (Result Unit CommandFault)) (Begun : Outcome Opened)
      (works : (own : List Deed) (h : Hand) (o : Opened) → Begun own h o → Meets (MayAsk w) A own h (act o) Anyhow) where
    after_begun : (own : List Deed) (h : Hand) (r : Result Opened CommandFault) → okay Begun own h r → Meets (MayAsk w) A own h (after (λ o. bind (act o) (ended p)) r) Anyhow
    unfolding Meets
    after_begun own h (Ok o) f = meets_bind (MayAsk w) A own h (act o) (ended p) Anyhow Anyhow (works own h o f) (λ later j r q. meets_weaker (MayAsk w) (MindsAll Of w.run) A minds later j (ended p r) Anyhow (ended_meets later j r))
    after_begun own h (Err e) f = tt

    pub opened_meets : (opening : Plan (Result Opened CommandFault)) (own : List Deed) (h : Hand) → M own h opening (okay Begun) → Meets (MayAsk w) A own h (opening >>= (λ o. bind (act o) (ended p))) Anyhow
    unfolding ◌>>=◌
    opened_meets opening own h opens =
        meets_bind (MayAsk w) A own h opening (after (λ o. bind (act o) (ended p))) (okay Begun) Anyhow
        (meets_weaker (MayAsk w) (MindsAll Of w.run) A minds own h opening (okay Begun) opens) (λ later j r q. after_begun later j r q)

  pub whole_meets : (A : List Deed → Step → Type 0) (minds : (own : List Deed) (s : Step) → MindsAll Of w.run own s → A own s) (act : Opened → Plan (Result Unit CommandFault))
      (works : (own : List Deed) (h : Hand) (o : Opened) → HasSeenBegun path folder own o → Meets (MayAsk w) A own h (act o) Anyhow)
      (own : List Deed) (h : Hand) → NoneUnlinked p own → Meets (MayAsk w) A own h (lifted (of_plan folder) (begun w.run p mail folder) >>= (λ o. bind (act o) (ended p))) Anyhow
  whole_meets A minds act works own h none =
      opened_meets A minds act (λ later j o. HasSeenBegun path folder later o × FreesOthers w.run path folder o.listing later) (λ later j o q. works later j o q.0) (lifted (of_plan folder) (begun w.run p mail folder)) own h
      (meets_lifted (MayAsk w) (MindsAll Of w.run) own h (of_plan folder) (begun w.run p mail folder) (λ later j o. HasSeenBegun path folder later o × FreesOthers w.run path folder o.listing later) (begun_meets w path folder own h none))
