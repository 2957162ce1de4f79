-- The work on a folder that was begun, whose marks the run knows then, minds the marks of all sequences.
use Rattle.std.proofs.Common.{◌≡◌, ℕ, List, Option, Result, sym, subst}
use Rattle.mh_sequences.specs.Runs.{AreRuns}
use Rattle.mh_sequences.specs.declared.run.Run.{Run}
use Rattle.folder_files.specs.Deeds.{Deed}
use Rattle.folder_files.specs.declared.place.Place.{Place}
use Rattle.folder_files.specs.declared.place.Place.TheVariants.{Folder, Mail}
use Rattle.folder_files.specs.declared.step.Step.{Step}
use Rattle.file_plans.specs.Plan.{Hand, Plan, bind, lifted, ◌>>=◌}
use Rattle.step_plans.specs.Pledges.{MayAsk, Pledge}
use Rattle.step_plans.specs.declared.command_fault.CommandFault.{CommandFault}
use Rattle.step_plans.proofs.Going.{Outcome, okay}
use Rattle.command_stages.specs.Endings.{of_plan}
use Rattle.opening_plans.specs.Ending.{ended}
use Rattle.opening_plans.specs.FolderPledge.{told_within}
use Rattle.opening_plans.specs.Opening.{Opened, begun, opened_of}
use Rattle.opening_plans.proofs.AllMarks.{MindsAll}
use Rattle.opening_plans.proofs.BegunSeen.{HasSeenBegun, NoneUnlinked, begun_meets}
use Rattle.opening_plans.proofs.CommitMinds.{Facts, IsTold}
use Rattle.opening_plans.proofs.FreeMarks.{FreesOthers}
use Rattle.opening_plans.proofs.Meeting.{Meets, meets_lifted, meets_more, meets_okay}
use Rattle.opening_plans.proofs.ToldMarks.{InListing}
use Rattle.opening_plans.proofs.WorkMinds as work_minds
use Rattle.opening_plans.proofs.WorkMinds.{Anyhow}
use Rattle.refile_plans.proofs.Meetings.{AnyAsk, meets_okay_both}
use Rattle.sortm_plans.proofs.BegunKnown.{begun_known}
use Rattle.sortm_plans.proofs.MarksKnown.{KnowsMarks}

module _ (w : Pledge) (path folder : List ℕ) (work : Opened → Plan (Result Unit CommandFault)) where
  abbrev p : Place
  p = Folder path folder

  abbrev mail : Place
  mail = Mail path

  abbrev A : List Deed → Step → Type 0
  A own s = MindsAll (λ other. IsTold folder other) w.run own s

  abbrev M : {R : Type 0} → List Deed → Hand → Plan R → Outcome R → Type 0
  M own h plan Q = Meets (MayAsk w) A own h plan Q

  -- the folder was begun, with these numbers and sequences
  abbrev Begun : Outcome Opened
  Begun later j o = HasSeenBegun path folder later o × KnowsMarks w path folder o.sequences later j

  begun_so : (own : List Deed) (h : Hand) → NoneUnlinked p own → M own h (lifted (of_plan folder) (begun w.run p mail folder)) (okay Begun)
  begun_so own h none =
      meets_lifted (MayAsk w) A own h (of_plan folder) (begun w.run p mail folder) Begun
      (meets_okay (MayAsk w) A own h (begun w.run p mail folder) (λ later j o. (HasSeenBegun path folder later o × FreesOthers w.run path folder o.listing later) × KnowsMarks w path folder o.sequences later j) Begun (λ later j o g. (g.0.0, g.1))
      (meets_okay_both (MayAsk w) A AnyAsk own h (begun w.run p mail folder) (λ later j o. HasSeenBegun path folder later o × FreesOthers w.run path folder o.listing later) (λ later j o. KnowsMarks w path folder o.sequences later j)
      (begun_meets w path folder own h none) (begun_known w path folder own h)))

  -- the work minds them on a folder where each listed number is there, and no other is marked
  module _ (works : (names : List (List ℕ)) (listing : List Run) → AreRuns listing → (text context : List ℕ) (ends : List (Option ℕ)) (own : List Deed) (h : Hand) → Facts w path folder names (InListing listing) own × KnowsMarks w path folder (told_within listing text context folder) own h
      → M own h (work (opened_of p folder listing (told_within listing text context folder) ends)) (okay (λ later j u. Unit {0}))) where
    opened_meets : (own : List Deed) (h : Hand) (o : Opened) → Begun own h o → M own h (work o) Anyhow
    opened_meets own h o f =
        let b = f.0 in
        let is : o ≡ opened_of p folder o.listing (told_within o.listing b.text b.context folder) o.ends = λ i. record { place = b.place i; folder = b.name i; listing = o.listing; sequences = b.sequences i; ends = o.ends } in
        subst (λ x. M own h (work x) Anyhow) (sym is)
        (meets_more (MayAsk w) A own h (work (opened_of p folder o.listing (told_within o.listing b.text b.context folder) o.ends)) (okay (λ later j u. Unit {0})) Anyhow (λ later j r q. tt)
        (works b.names o.listing b.runs b.text b.context o.ends own h (b.facts, subst (λ m. KnowsMarks w path folder m own h) b.sequences f.1)))

    pub work_meets : (own : List Deed) (h : Hand) → NoneUnlinked p own → M own h (lifted (of_plan folder) (begun w.run p mail folder) >>= (λ o. bind (work o) (ended p))) Anyhow
    work_meets own h none = work_minds.opened_meets w path folder A (λ before s f. f) work Begun opened_meets (lifted (of_plan folder) (begun w.run p mail folder)) own h (begun_so own h none)
