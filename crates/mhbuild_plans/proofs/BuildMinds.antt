-- Each step of `mhbuild` minds the marks of all sequences: it changes the current directory alone.
use Rattle.std.proofs.Common.{◌≡◌, ◌∙◌, inl, inr, ℕ, List, refl, sym, subst}
use Rattle.folder_files.specs.Deeds.{Deed}
use Rattle.folder_files.specs.Histories.{Changes}
use Rattle.folder_files.specs.declared.place.Place.{Place}
use Rattle.folder_files.specs.declared.place.Place.TheVariants.{Folder, Mail, Work}
use Rattle.folder_files.specs.declared.step.Step.{Step}
use Rattle.folder_files.specs.declared.step.Step.TheVariants as step
use Rattle.file_plans.specs.StaysCareful.{IsOwnStep, careful, only_looks}
use Rattle.step_plans.specs.Pledges.{MayAsk, Pledge}
use Rattle.step_plans.proofs.KeptPledges.{look_changes}
use Rattle.marks_law.proofs.Minded.{Considerate, MindfulApart}
use Rattle.sequence_marks.specs.SequenceMarks.{private_marks}
use Rattle.sequence_marks.proofs.Sequences.{MindsSequences}
use Rattle.mhbuild_plans.specs.BuildPledge.{build_pledge}
use Rattle.mhbuild_plans.specs.declared.job.BuildJob.{BuildJob}

-- a step of the current directory changes no other
work_apart : (q p : Place) → Work ≡ p → q ≡ p → q ≡ Work
work_apart q p e f = f ∙ sym e

work_changes : (q : Place) (s : Step) → Changes Work s → Changes q s → q ≡ Work
work_changes q (step.List p) m c = absurd c
work_changes q (step.Read p n limit) m c = absurd c
work_changes q (step.MakeFolder p) m c = absurd c
work_changes q (step.Create p n b) m c = work_apart q p m c
work_changes q (step.SyncFile p n) m c = absurd c
work_changes q (step.SyncFolder p) m c = absurd c
work_changes q (step.Link p a b) m c = work_apart q p m c
work_changes q (step.Rename p a b) m c = work_apart q p m c
work_changes q (step.Unlink p a) m c = work_apart q p m c
work_changes q (step.Lock p) m c = absurd c
work_changes q (step.Unlock p) m c = absurd c
work_changes q (step.ReadFile f limit) m c = absurd c
work_changes q (step.ReadDrop f from most) m c = absurd c
work_changes q (step.CutDrop f n) m c = absurd c

module _ (run : ℕ) (mail : List ℕ) (job : BuildJob) where
  abbrev w : Pledge
  w = build_pledge run mail job

  -- what it may change is the current directory's
  changes_work : (q : Place) (before : List Deed) (s : Step) → IsOwnStep run w.manner before s → Changes q s → q ≡ Work
  changes_work q before s (only_looks l) c = absurd (look_changes q s l c)
  changes_work q before s (careful f kind k makes orderly) c = work_changes q s makes.1 c

  no_folder : (path folder : List ℕ) → Folder path folder ≡ Work → ⊥
  no_folder path folder e = cc (e)

  no_mail : (path : List ℕ) → Mail path ≡ Work → ⊥
  no_mail path e = cc (e)

  no_commit : (path temp name : List ℕ) (before : List Deed) (s : Step) → MayAsk w before s → s ≡ step.Rename (Mail path) temp name → ⊥
  no_commit path temp name before s may e = no_mail path (changes_work (Mail path) before (step.Rename (Mail path) temp name) (subst (λ z. IsOwnStep run w.manner before z) e may.is_own) refl)

  may_private : (path folder sequence : List ℕ) (before : List Deed) (s : Step) → MayAsk w before s → MindfulApart (private_marks path folder sequence) run before s
  may_private path folder sequence before s may (inl c) = absurd (no_folder path folder (changes_work (Folder path folder) before s may.is_own c))
  may_private path folder sequence before s may (inr c) = absurd (no_commit path c.0 (private_marks path folder sequence).name before s may c.1)

  may_consider : (path folder sequence : List ℕ) (before : List Deed) (s : Step) → MayAsk w before s → Considerate (private_marks path folder sequence) run before s
  may_consider path folder sequence before s may temp e = absurd (no_commit path temp (private_marks path folder sequence).name before s may e)

  pub build_minds : MindsSequences w
  build_minds = record {
    public = λ path folder sequence before s may c. absurd (no_folder path folder (changes_work (Folder path folder) before s may.is_own c));
    private = λ path folder sequence before s may. (may_private path folder sequence before s may, may_consider path folder sequence before s may);
  }
