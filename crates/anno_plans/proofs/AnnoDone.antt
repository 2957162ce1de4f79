-- What `anno` has done where it comes to its end.
use Rattle.std.proofs.Common.{◌≡◌, ◌<◌, ◌^◌, ◌++◌, ◌∷◌, [], ℕ, true, List, Result, Ok, Err, refl}
use Rattle.folder_files.specs.Annotations.{are_annotations}
use Rattle.folder_files.specs.Deeds.{Deed}
use Rattle.folder_files.specs.declared.place.Place.{Place}
use Rattle.folder_files.specs.declared.place.Place.TheVariants.{Folder, Mail}
use Rattle.folder_files.specs.declared.step.Answer.{Answer}
use Rattle.folder_files.specs.declared.step.Step.TheVariants as step
use Rattle.file_plans.specs.Asking.{attempt_unlock, unlock}
use Rattle.file_plans.specs.Plan.{Hand, Plan, Return, after, ask, attempt, bind, lifted, ◌>>=◌}
use Rattle.file_plans.specs.Rules.{IfOkay, Keeps, Rules}
use Rattle.file_plans.specs.Runs.{Deed as Done, Did}
use Rattle.file_plans.proofs.Acting.{acts, acts_append}
use Rattle.file_plans.proofs.Keeping.{keeps_bind}
use Rattle.step_plans.specs.Pledges.{Pledge}
use Rattle.step_plans.specs.declared.command_fault.CommandFault.{CommandFault}
use Rattle.step_plans.specs.declared.command_fault.CommandFault.TheVariants as fault
use Rattle.step_plans.proofs.Coming.{anything}
use Rattle.step_plans.proofs.Going.{ByActs, Sound, Soundly, goes_keeps, goes_lifted, okay}
use Rattle.step_plans.proofs.Pledged.{Of}
use Rattle.step_plans.proofs.Ruling.{AreNumbered, rules_of}
use Rattle.command_stages.specs.Endings.{of_plan}
use Rattle.opening_plans.specs.Ending.{ended, finished, given_up}
use Rattle.opening_plans.specs.Opening.{Opened, begun}
use Rattle.opening_plans.proofs.EndedKept.{Still, ended_keeps, keeps_more}
use Rattle.opening_plans.proofs.Speaking.{keeps_both}
use Rattle.refile_plans.proofs.RefileMoved.{HasHeldNone}
use Rattle.anno_plans.specs.Anno.{anno, opened_noted}
use Rattle.anno_plans.specs.AnnoDone.{HasNotedChosen}
use Rattle.anno_plans.specs.AnnoPledge.{anno_pledge}
use Rattle.anno_plans.specs.declared.job.AnnoJob.{AnnoJob}
use Rattle.anno_plans.proofs.AnnoPledged as pledged
use Rattle.anno_plans.proofs.AnnoPledged.{noted_chosen_kept}

module _ (run : ℕ) (few : run < 2 ^ 128) (path : List ℕ) (job : AnnoJob) where
  abbrev w : Pledge
  w = anno_pledge run path job

  abbrev p : Place
  p = Folder path job.folder

  -- each of the messages got the lines
  abbrev pub Has : List Done → Hand → Unit {0} → Type 0
  Has past h u = HasNotedChosen run path job (acts past)

  unlocked : (past : List Done) (h : Hand) (a : Answer) → Has past h tt → Has (past ++ Did (step.Unlock p) a ∷ []) h tt
  unlocked past h a f = rw (acts_append [] past (Did (step.Unlock p) a ∷ [])) (noted_chosen_kept run few path job (acts past) (step.Unlock p) a tt f)

  -- the lock's fall changes nothing of that
  at_end : (past : List Done) (h : Hand) (r : Result Unit CommandFault) → IfOkay Has past h r → Keeps anything past h (ended p r) (IfOkay Has)
  unfolding Keeps finished given_up unlock ask attempt_unlock attempt lifted bind ◌>>=◌
  at_end past h (Ok u) f = (tt, tt, tt, λ a row live. (tt, unlocked past h a f))
  at_end past h (Err (fault.Refused r)) f = (tt, tt, λ a row. (tt, tt))
  at_end past h (Err (fault.Faulted which)) f = (tt, tt)
  at_end past h (Err (fault.Locked q)) f = (tt, tt, λ a row. (tt, tt))
  at_end past h (Err (fault.Meddled q x)) f = (tt, tt)
  at_end past h (Err fault.Memory) f = (tt, tt)

  ended_so : (own : List Deed) (past : List Done) (h : Hand) (r : Result Unit CommandFault) → AreNumbered run h.next (acts past) → IfOkay (Still own) past h r → IfOkay Has past h r → Keeps (rules_of w) past h (ended p r) (IfOkay Has)
  ended_so own past h r n still f =
      keeps_more (rules_of w) past h (ended p r) (λ later j x. IfOkay (Still own) later j x × IfOkay Has later j x) (IfOkay Has) (λ later j x g. g.1)
      (keeps_both (rules_of w) anything past h (ended p r) (IfOkay (Still own)) (IfOkay Has) (ended_keeps w own past h p r n still) (at_end past h r f))

  stops : (later : List Done) (j : Hand) (e : CommandFault) → AreNumbered run j.next (acts later) → Keeps (rules_of w) later j (Return (Err e)) (IfOkay Has)
  unfolding Keeps
  stops later j e n = (n, tt)

  module _ (notes : are_annotations job.lines ≡ true) where
    -- `anno`, where its run has used none of its held names before: at its end each of the messages got the lines
    pub anno_done : (past : List Done) (h : Hand) → HasHeldNone run p (acts past) → Sound w (acts past) h → Keeps (rules_of w) past h (anno run path job) (IfOkay Has)
    unfolding anno ◌>>=◌
    anno_done past h none sound =
        keeps_bind (rules_of w) past h plan (after work) (ByActs (Soundly w (okay Began))) (IfOkay Has)
        (goes_keeps w past own h plan (okay Began) refl sound (goes_lifted w own h (of_plan job.folder) (begun run p (Mail path) job.folder) Began (pledged.begun_sparing run few path job notes own h none)))
        (λ later j r q. go later j r q.0 q.1)
      where
        own : List Deed
        own = acts past

        plan : Plan (Result Opened CommandFault)
        plan = lifted (of_plan job.folder) (begun run p (Mail path) job.folder)

        work : Opened → Plan (Result Unit CommandFault)
        work o = bind (opened_noted run path job o) (ended p)

        Began : List Deed → Hand → Opened → Type 0
        Began later j o = pledged.Began run few path job notes own later j o

        Worked : List Deed → List Deed → Type 0
        Worked first later = pledged.Worked run few path job notes first later

        still_so : (first last : List Done) (i : Hand) (r : Result Unit CommandFault) → Sound w (acts last) i → okay (Of (Worked (acts first))) (acts last) i r → IfOkay (Still (acts first)) last i r
        still_so first last i (Ok u) s m = record { settled = m.0; unfailed = s.unfailed }
        still_so first last i (Err e) s m = tt

        has_so : (first last : List Done) (i : Hand) (r : Result Unit CommandFault) → okay (Of (Worked (acts first))) (acts last) i r → IfOkay Has last i r
        has_so first last i (Ok u) m = m.1
        has_so first last i (Err e) m = tt

        go : (later : List Done) (j : Hand) (r : Result Opened CommandFault) → Sound w (acts later) j → okay Began (acts later) j r → Keeps (rules_of w) later j (after work r) (IfOkay Has)
        go later j (Ok o) s b =
            keeps_bind (rules_of w) later j (opened_noted run path job o) (ended p) (ByActs (Soundly w (okay (Of (Worked (acts later)))))) (IfOkay Has)
            (goes_keeps w later (acts later) j (opened_noted run path job o) (okay (Of (Worked (acts later)))) refl s (pledged.opened_goes run few path job notes own (acts later) o b.0 b.1 j))
            (λ last i r q. ended_so (acts later) last i r q.0.numbered (still_so later last i r q.0 q.1) (has_so later last i r q.1))
        go later j (Err e) s b = stops later j e s.numbered
