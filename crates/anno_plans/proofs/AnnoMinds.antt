-- Each step of `anno` minds the marks of all sequences, where no message is held aside in its folder when it takes one.
use Rattle.std.proofs.Common.{◌≡◌, ◌<◌, ◌-◌, ◌^◌, ℕ, true, List, Result, Ok, Err, refl}
use Rattle.mh_sequences.specs.Sequences.{Marked}
use Rattle.folder_files.specs.Annotations.{are_annotations}
use Rattle.folder_files.specs.Commands.{Annotating}
use Rattle.folder_files.specs.Deeds.{Deed}
use Rattle.folder_files.specs.declared.place.Place.{Place}
use Rattle.folder_files.specs.declared.place.Place.TheVariants.{Folder, Mail}
use Rattle.folder_files.specs.declared.step.Step.{Step}
use Rattle.file_plans.specs.Plan.{Hand, Plan, Return, after, bind, lifted, ◌>>=◌}
use Rattle.step_plans.specs.ContextCommit.{AreChanges}
use Rattle.step_plans.specs.Pledges.{MayAsk, Pledge}
use Rattle.step_plans.specs.declared.command_fault.CommandFault.{CommandFault}
use Rattle.step_plans.specs.declared.fault.PlanFault.{PlanFault}
use Rattle.step_plans.proofs.Going.{Outcome, Sound, okay}
use Rattle.command_stages.specs.Current.{current_change, made_current}
use Rattle.command_stages.specs.Endings.{of_plan}
use Rattle.message_notes.specs.Noting.{messages_noted}
use Rattle.opening_plans.specs.FolderPledge.{told_within}
use Rattle.opening_plans.specs.Opening.{Opened, begun}
use Rattle.opening_plans.proofs.AllMarks.{MindsAll}
use Rattle.opening_plans.proofs.BegunSeen.{HasSeenBegun, NoneUnlinked, begun_meets}
use Rattle.opening_plans.proofs.CommitMinds.{Facts, IsTold}
use Rattle.opening_plans.proofs.FolderPledged.{Begins, HasBegun, begun_goes}
use Rattle.opening_plans.proofs.FreeMarks.{FreesOthers}
use Rattle.opening_plans.proofs.MadeMinds.{meets_going}
use Rattle.opening_plans.proofs.Meeting.{Meets, meets_lifted, meets_more, meets_okay, meets_stop, meets_then, meets_weaker}
use Rattle.opening_plans.proofs.WorkMinds.{Anyhow, current_meets}
use Rattle.opening_plans.proofs.WorkMinds as work_minds
use Rattle.opening_plans.proofs.WorkPledged as work
use Rattle.refile_plans.specs.RefileHeld.{TakesUnheld}
use Rattle.refile_plans.specs.RmmPledge.{every_message}
use Rattle.refile_plans.proofs.FoldersMinded.{HasMinded}
use Rattle.refile_plans.proofs.Selected.{chosen_numbers, chosen_rise}
use Rattle.refile_plans.proofs.UnmarkedNumbers.{unmarked_of}
use Rattle.refile_plans.specs.RefilePledge.{MakesNothing}
use Rattle.anno_plans.specs.Anno.{anno, chosen_from, opened_noted, said_noted}
use Rattle.mh_sequences.specs.Runs.{last_in}
use Rattle.anno_plans.specs.AnnoPledge.{NotesSo, anno_pledge}
use Rattle.anno_plans.specs.declared.job.AnnoJob.{AnnoJob}
use Rattle.anno_plans.proofs.AnnoPledged.{lets}
use Rattle.anno_plans.proofs.Listed.{like}
use Rattle.anno_plans.proofs.NotedMinds as noted
use Rattle.refile_plans.proofs.Lasts.{none_above, last_small}

module _ (run : ℕ) (few : run < 2 ^ 128) (path : List ℕ) (job : AnnoJob) (notes : are_annotations job.lines ≡ true) (ok : AreChanges (current_change job.folder)) where
  abbrev w : Pledge
  w = anno_pledge run path job

  abbrev Of : List ℕ → Type 0
  Of other = IsTold job.folder other

  abbrev p : Place
  p = Folder path job.folder

  abbrev mail : Place
  mail = Mail path

  abbrev no_piece : List Deed → List ℕ → Type 0
  no_piece own piece = ⊥

  -- the step minds all marks, where no message is held aside when it takes one
  abbrev pub A : List Deed → Step → Type 0
  A own s = TakesUnheld own s → MindsAll Of run own s

  abbrev M : {R : Type 0} → List Deed → Hand → Plan R → Outcome R → Type 0
  M own h plan Q = Meets (MayAsk w) A own h plan Q

  plainly : (own : List Deed) (s : Step) → MindsAll Of run own s → A own s
  plainly own s f unheld = f

  begins : Begins w path job.folder
  begins = work.begins run few path job.folder MakesNothing (Annotating path job.folder every_message job.lines) no_piece (NotesSo run path job) (lets run few path job) (λ listing m new own s a any f. f)

  -- the work on a folder that was begun
  module _ (own : List Deed) (h : Hand) (o : Opened) (f : HasMinded run path job.folder own o) where
    abbrev b : HasSeenBegun path job.folder own o
    b = f.begun

    abbrev told : Marked
    told = told_within o.listing b.text b.context job.folder

    abbrev At : ℕ → List Deed → Type 0
    At low later = noted.At Of w few path job.folder b.names o.listing job.lines notes low later

    abbrev None_ : List ℕ → Type 0
    None_ z = ⊥

    abbrev Ready : List Deed → Type 0
    Ready later = Facts w path job.folder b.names None_ later

    at_first : At 1 own
    at_first = ((record { lock = b.facts.0.lock; there = λ z so number. b.facts.0.there z (so.0, so.1, so.2) number; held = b.facts.0.held; listed = b.facts.0.listed }, b.facts.1), (λ j unlisted. unmarked_of run path job.folder own o f j unlisted))

    at_last : (high : ℕ) (later : List Deed) → At high later → Ready later
    at_last high later g = (record { lock = g.0.0.lock; there = λ z so number. absurd so; held = g.0.0.held; listed = g.0.0.listed }, g.0.1)

    noted_meets : (numbers : List ℕ) → chosen_from job o.listing told ≡ Ok numbers → M own h (messages_noted run p job.lines numbers (last_in o.listing)) (okay (λ later j u. Ready later))
    noted_meets numbers is =
        meets_okay (MayAsk w) A own h (messages_noted run p job.lines numbers (last_in o.listing)) (λ later j u. (high : ℕ) × At high later) (λ later j u. Ready later) (λ later j u g. at_last g.0 later g.1)
        (noted.all_noted_meet Of w few path job.folder b.names o.listing job.lines notes numbers 1 (chosen_rise (like job) o.listing told numbers is) (chosen_numbers (like job) o.listing told numbers is b.runs) (last_in o.listing)
        (last_small o.listing b.runs, none_above o.listing b.runs) own h at_first)

    by_value : (value : Result (List ℕ) CommandFault) → chosen_from job o.listing told ≡ value
        → M own h (after (λ numbers. lifted (of_plan job.folder) (messages_noted run p job.lines numbers (last_in o.listing))) value >>= (λ gone. made_current run path job.folder)) (okay (λ later j u. Unit {0}))
    unfolding ◌>>=◌
    by_value (Ok numbers) is =
        meets_then (MayAsk w) A own h (lifted (of_plan job.folder) (messages_noted run p job.lines numbers (last_in o.listing))) (λ gone. made_current run path job.folder) (λ later j u. Ready later) (λ later j u. Unit {0})
        (meets_lifted (MayAsk w) A own h (of_plan job.folder) (messages_noted run p job.lines numbers (last_in o.listing)) (λ later j u. Ready later) (noted_meets numbers is))
        (λ later j u g.
        meets_weaker (MayAsk w) (MindsAll Of run) A plainly later j (made_current run path job.folder) (okay (λ last i v. Unit {0}))
        (meets_okay (MayAsk w) (MindsAll Of run) later j (made_current run path job.folder) (λ last i v. Ready last) (λ last i v. Unit {0}) (λ last i v k. tt) (current_meets w path job.folder b.names None_ ok later j g)))
    by_value (Err e) is = refused e
      where
        refused : (e : CommandFault) → M own h (Return (Err e) >>= (λ (gone : Unit {0}). made_current run path job.folder)) (okay (λ later j u. Unit {0}))
        refused e = meets_stop (MayAsk w) A own h e (λ (gone : Unit {0}). made_current run path job.folder) (λ later j u. Unit {0})

    at_place : (q : Place) (seen : Marked) → q ≡ p → seen ≡ told
        → M own h ((Return (chosen_from job o.listing seen) >>= (λ numbers. lifted (of_plan job.folder) (messages_noted run q job.lines numbers (last_in o.listing)))) >>= (λ gone. made_current run path job.folder)) (okay (λ later j u. Unit {0}))
    unfolding Meets bind ◌>>=◌
    at_place q seen place is = rw (place, is) (by_value (chosen_from job o.listing told) refl)

    opened_okay : M own h (opened_noted run path job o) (okay (λ later j u. Unit {0}))
    unfolding opened_noted said_noted
    opened_okay = at_place o.place o.sequences b.place b.sequences

    opened_meets : M own h (opened_noted run path job o) Anyhow
    opened_meets = meets_more (MayAsk w) A own h (opened_noted run path job o) (okay (λ later j u. Unit {0})) Anyhow (λ later j r q. tt) opened_okay

  -- the folder is begun
  minded : (own later : List Deed) (j : Hand) (r : Result Opened PlanFault) → okay (λ last i o. HasBegun w own path job.folder last o) later j r × okay (λ last i o. HasSeenBegun path job.folder last o × FreesOthers run path job.folder o.listing last) later j r
      → okay (λ last i o. HasMinded run path job.folder last o) later j r
  minded own later j (Ok o) q = record { begun = q.1.0; frees = q.1.1; old = q.0.base.0; base = q.0.base.1; marks = q.0.marks }
  minded own later j (Err e) q = tt

  begun_minded : (own : List Deed) (h : Hand) → Sound w own h → NoneUnlinked p own → Meets (MayAsk w) (MindsAll Of run) own h (lifted (of_plan job.folder) (begun run p mail job.folder)) (okay (λ later j o. HasMinded run path job.folder later o))
  begun_minded own h sound none =
      meets_lifted (MayAsk w) (MindsAll Of run) own h (of_plan job.folder) (begun run p mail job.folder) (λ later j o. HasMinded run path job.folder later o)
      (meets_more (MayAsk w) (MindsAll Of run) own h (begun run p mail job.folder) (λ later j r. okay (λ last i o. HasBegun w own path job.folder last o) later j r × okay (λ last i o. HasSeenBegun path job.folder last o × FreesOthers run path job.folder o.listing last) later j r) (okay (λ later j o. HasMinded run path job.folder later o)) (minded own)
      (meets_going w (MindsAll Of run) own h (begun run p mail job.folder) (okay (λ later j o. HasBegun w own path job.folder later o)) (okay (λ later j o. HasSeenBegun path job.folder later o × FreesOthers run path job.folder o.listing later)) sound
      (begun_goes w few path job.folder begins own h) (begun_meets w path job.folder own h none)))

  -- each step of `anno` minds all marks, where no message is held aside when it takes one
  pub anno_meets : (own : List Deed) (h : Hand) → Sound w own h → NoneUnlinked p own → M own h (anno run path job) Anyhow
  unfolding anno
  anno_meets own h sound none =
      work_minds.opened_meets w path job.folder A plainly (opened_noted run path job) (λ later j o. HasMinded run path job.folder later o) (λ later j o g. opened_meets later j o g) (lifted (of_plan job.folder) (begun run p mail job.folder)) own h
      (begun_minded own h sound none)
