-- A folder that is made and begun: each step minds all marks, and its text marks only numbers of messages.
use Rattle.std.proofs.Common.{◌∷◌, ℕ, List, Result, Ok, Err}
use Rattle.folder_files.specs.Deeds.{Deed, did}
use Rattle.folder_files.specs.declared.place.Place.{Place}
use Rattle.folder_files.specs.declared.place.Place.TheVariants.{Folder, Mail}
use Rattle.folder_files.specs.declared.step.Answer.{Answer}
use Rattle.folder_files.specs.declared.step.Answer.TheVariants as answer
use Rattle.folder_files.specs.declared.step.Step.{Step}
use Rattle.folder_files.specs.declared.step.Step.TheVariants as step
use Rattle.file_plans.specs.Plan.{Ask, Hand, Hear, Note, Plan, Recall, Return, Say, Try, lifted}
use Rattle.step_plans.specs.PlanFaults.{of_stop}
use Rattle.step_plans.specs.Pledges.{MayAsk, Pledge}
use Rattle.step_plans.specs.declared.fault.PlanFault.{PlanFault}
use Rattle.step_plans.proofs.Going.{Goes, Outcome, Sound, all_numbered, okay}
use Rattle.opening_plans.specs.Making.{made_begun, once_made}
use Rattle.opening_plans.specs.Opening.{Opened, begun}
use Rattle.opening_plans.proofs.AllMarks.{MindsAll, make_minds}
use Rattle.opening_plans.proofs.BegunSeen.{HasSeenBegun, NoneUnlinked, begun_meets, still_none}
use Rattle.opening_plans.proofs.CleanRuns.{sound_more}
use Rattle.opening_plans.proofs.CommitMinds.{IsTold}
use Rattle.opening_plans.proofs.FolderPledged.{HasBegun}
use Rattle.opening_plans.proofs.FreeMarks.{FreesOthers}
use Rattle.opening_plans.proofs.Meeting.{Meets, meets_lifted, meets_make, meets_more}

-- of a plan that goes as pledged, and whose steps meet this, both hold at its end
pub meets_going : {R : Type 0} (w : Pledge) (A : List Deed → Step → Type 0) (own : List Deed) (h : Hand) (p : Plan R) (Q P : Outcome R) → Sound w own h → Goes w own h p Q → Meets (MayAsk w) A own h p P
    → Meets (MayAsk w) A own h p (λ later j r. Q later j r × P later j r)
unfolding Meets Goes
meets_going w A own h (Return r) Q P s f g = (f, g)
meets_going w A own h (Ask t next) Q P s f g = λ m. ((g m).0, λ a row live. meets_going w A (did t a ∷ own) h (next a) Q P (sound_more w own h t a live (f.0 s).1 s) (f.1 a row live) ((g m).1 a row live))
meets_going w A own h (Try t next) Q P s f g = absurd f
meets_going w A own h (Say piece next) Q P s f g = meets_going w A own h next Q P s f.1 g
meets_going w A own h (Hear most next) Q P s f g = λ piece short. meets_going w A own h (next piece) Q P s (f piece short) (g piece short)
meets_going w A own h (Recall next) Q P s f g = meets_going w A own h (next h) Q P s (f s) g
meets_going w A own h (Note j next) Q P s f g = meets_going w A own j next Q P (record { numbered = all_numbered w.run h.next j.next own f.0 s.numbered; unfailed = s.unfailed }) f.1 g

module _ (w : Pledge) (path folder : List ℕ) where
  abbrev Of : List ℕ → Type 0
  Of other = IsTold folder other

  abbrev p : Place
  p = Folder path folder

  abbrev mail : Place
  mail = Mail path

  abbrev pub Seen_ : Outcome Opened
  Seen_ later j o = HasSeenBegun path folder later o × FreesOthers w.run path folder o.listing later

  made_meets : (own : List Deed) (h : Hand) → NoneUnlinked p own → Meets (MayAsk w) (MindsAll Of w.run) own h (made_begun w.run p mail folder) (okay Seen_)
  unfolding made_begun
  made_meets own h none =
      meets_make (MayAsk w) (MindsAll Of w.run) own h of_stop (okay Seen_) p (λ made. lifted once_made (begun w.run p mail folder)) (λ may. (make_minds Of w.run own p, then_begun answer.Done, then_begun answer.Exists))
    where
      then_begun : (a : Answer) → Meets (MayAsk w) (MindsAll Of w.run) (did (step.MakeFolder p) a ∷ own) h (lifted once_made (begun w.run p mail folder)) (okay Seen_)
      then_begun a =
          meets_lifted (MayAsk w) (MindsAll Of w.run) (did (step.MakeFolder p) a ∷ own) h once_made (begun w.run p mail folder) Seen_
          (begun_meets w path folder (did (step.MakeFolder p) a ∷ own) h (still_none p own (step.MakeFolder p) a (λ x e. cc (e)) none))

  -- with what is known of it where it is begun as pledged
  abbrev pub Made : List Deed → Outcome Opened
  Made own later j o = HasBegun w own path folder later o × Seen_ later j o

  both : (own later : List Deed) (j : Hand) (r : Result Opened PlanFault) → okay (λ last i o. HasBegun w own path folder last o) later j r × okay Seen_ later j r → okay (Made own) later j r
  both own later j (Ok o) q = q
  both own later j (Err e) q = tt

  pub made_minds : (own : List Deed) (h : Hand) → Sound w own h → Goes w own h (made_begun w.run p mail folder) (okay (λ later j o. HasBegun w own path folder later o)) → NoneUnlinked p own
      → Meets (MayAsk w) (MindsAll Of w.run) own h (made_begun w.run p mail folder) (okay (Made own))
  made_minds own h sound goes none =
      meets_more (MayAsk w) (MindsAll Of w.run) own h (made_begun w.run p mail folder) (λ later j r. okay (λ last i o. HasBegun w own path folder last o) later j r × okay Seen_ later j r) (okay (Made own)) (both own)
      (meets_going w (MindsAll Of w.run) own h (made_begun w.run p mail folder) (okay (λ later j o. HasBegun w own path folder later o)) (okay Seen_) sound goes (made_meets own h none))
