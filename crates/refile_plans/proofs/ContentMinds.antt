-- A message of the source is read: what is known of the source and of the destinations stays so.
use Rattle.std.proofs.Common.{◌≡◌, ◌∷◌, ℕ, List}
use Rattle.folder_files.specs.Deeds.{Deed, did}
use Rattle.folder_files.specs.declared.place.Place.{Place}
use Rattle.folder_files.specs.declared.place.Place.TheVariants.{Folder}
use Rattle.folder_files.specs.declared.step.Answer.{Answer}
use Rattle.folder_files.specs.declared.step.Answer.TheVariants as answer
use Rattle.folder_files.specs.declared.step.Step.{Step}
use Rattle.folder_files.specs.declared.step.Step.TheVariants as step
use Rattle.file_plans.specs.Plan.{Hand}
use Rattle.step_plans.specs.ContextCommit.{LIMIT_BYTES}
use Rattle.step_plans.specs.PlanFaults.{of_stop}
use Rattle.step_plans.specs.Pledges.{MayAsk, Pledge}
use Rattle.step_plans.specs.declared.fault.PlanFault.TheVariants as fault
use Rattle.step_plans.proofs.Facts.{LeavesBase}
use Rattle.step_plans.proofs.Going.{okay}
use Rattle.message_moves.specs.Moving.{content_by, content_read}
use Rattle.message_moves.specs.declared.destination.Destination.{Destination}
use Rattle.opening_plans.proofs.AllMarks.{MindsAll, look_minds}
use Rattle.opening_plans.proofs.CommitSeen.{NoCommit}
use Rattle.opening_plans.proofs.FolderSeen.{Quiet}
use Rattle.opening_plans.proofs.Meeting.{Meets, meets_end, meets_read, meets_return}
use Rattle.sequence_commits.proofs.SequencesPledged.{sequences_name}
use Rattle.refile_plans.proofs.CopiesMind.{AllOpen, all_open_kept}

module _ (Of : List ℕ → Type 0) (w : Pledge) (path source : List ℕ) (S : List Deed → Type 0)
    (lasts : (own : List Deed) (s : Step) (a : Answer) → MayAsk w own s → Quiet (Folder path source) s → NoCommit path s → LeavesBase (Folder path source) sequences_name s → S own → S (did s a ∷ own)) (ns : List (List ℕ)) (ds : List Destination) where
  abbrev p : Place
  p = Folder path source

  abbrev A : List Deed → Step → Type 0
  A own s = MindsAll Of w.run own s

  abbrev Both : List Deed → Type 0
  Both own = S own × AllOpen w.run path ns ds own

  read_kept : (name : List ℕ) → (name ≡ sequences_name → ⊥) → (own : List Deed) (a : Answer) → MayAsk w own (step.Read p name LIMIT_BYTES) → Both own → Both (did (step.Read p name LIMIT_BYTES) a ∷ own)
  read_kept name other own a may f = (
    lasts own (step.Read p name LIMIT_BYTES) a may tt (λ t e. cc (e)) (λ same named. other named) f.0,
    all_open_kept w.run path ns ds own (step.Read p name LIMIT_BYTES) a (λ n c same named. other named) (λ t e. cc (e)) f.1,
  )

  pub content_meets : (name : List ℕ) → (name ≡ sequences_name → ⊥) → (own : List Deed) (h : Hand) → Both own → Meets (MayAsk w) A own h (content_read p name) (okay (λ later j (bytes : List ℕ). Both later))
  unfolding content_read
  content_meets name other own h f =
      meets_read (MayAsk w) A own h of_stop (okay (λ later j (bytes : List ℕ). Both later)) p name LIMIT_BYTES (content_by p name)
      (λ may. (
        look_minds Of w.run own (step.Read p name LIMIT_BYTES) tt,
        (λ bytes. meets_return (MayAsk w) A (did (step.Read p name LIMIT_BYTES) (answer.Content bytes) ∷ own) h bytes (okay (λ later j (bytes : List ℕ). Both later)) (read_kept name other own (answer.Content bytes) may f)),
        (λ l. meets_end (MayAsk w) A (did (step.Read p name LIMIT_BYTES) (answer.Long l) ∷ own) h (fault.TooLarge l) (λ later j (bytes : List ℕ). Both later)),
        meets_end (MayAsk w) A (did (step.Read p name LIMIT_BYTES) answer.Gone ∷ own) h (fault.Meddled p name) (λ later j (bytes : List ℕ). Both later),
      ))
