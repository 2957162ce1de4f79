-- Messages are copied and stay: each step minds all marks.
use Rattle.std.proofs.Common.{◌≡◌, ◌∷◌, [], ℕ, List, sym, ◌∙◌, ap}
use Rattle.std.specs.Prelude.{Contains}
use Rattle.mh_base.specs.Entries.{entry_text, kind_of}
use Rattle.mh_base.specs.Numbers.{IsMsgNum}
use Rattle.mh_base.specs.declared.entry.Entry.TheVariants.{Number, Sequences}
use Rattle.mh_base.proofs.EntryKinds.{kind_of-entry_text}
use Rattle.folder_files.specs.Deeds.{Deed, did}
use Rattle.folder_files.specs.declared.place.Place.{Place}
use Rattle.folder_files.specs.declared.place.Place.TheVariants.{Folder}
use Rattle.folder_files.specs.declared.step.Answer.{Answer}
use Rattle.folder_files.specs.declared.step.Step.{Step}
use Rattle.file_plans.specs.Plan.{Hand, Plan, lifted}
use Rattle.step_plans.specs.Pledges.{MayAsk, Pledge}
use Rattle.step_plans.proofs.Facts.{LeavesBase}
use Rattle.step_plans.proofs.Going.{Outcome, okay}
use Rattle.command_stages.specs.Endings.{of_plan}
use Rattle.message_moves.specs.Copying.{copied_to_all, message_copied, messages_copied}
use Rattle.message_moves.specs.Moving.{content_read}
use Rattle.message_moves.specs.declared.destination.Destination.{Destination}
use Rattle.opening_plans.proofs.AllMarks.{MindsAll}
use Rattle.opening_plans.proofs.CommitMinds.{Facts}
use Rattle.opening_plans.proofs.CommitSeen.{NoCommit, synced_kept}
use Rattle.opening_plans.proofs.FolderSeen.{Quiet, quiet_seen}
use Rattle.opening_plans.proofs.Meeting.{Meets, meets_lifted, meets_return, meets_then}
use Rattle.sequence_commits.proofs.SequencesPledged.{sequences_name}
use Rattle.refile_plans.proofs.ContentMinds.{content_meets}
use Rattle.refile_plans.proofs.CopiesMind.{AllOpen, copies_meet}
use Rattle.mh_base.proofs.NumberTests.{AreNumbers}

module _ (Of : List ℕ → Type 0) (w : Pledge) (path source : List ℕ) (names : List (List ℕ)) (There : List ℕ → Type 0) (ns : List (List ℕ)) (off : (m : List ℕ) → Contains ns m → m ≡ source → ⊥) where
  abbrev p : Place
  p = Folder path source

  abbrev M : {R : Type 0} → List Deed → Hand → Plan R → Outcome R → Type 0
  M own h plan Q = Meets (MayAsk w) (MindsAll Of w.run) own h plan Q

  -- what is known of the source
  abbrev Stays : List Deed → Type 0
  Stays own = Facts w path source names There own

  stays_kept : (own : List Deed) (s : Step) (a : Answer) → MayAsk w own s → Quiet p s → NoCommit path s → LeavesBase p sequences_name s → Stays own → Stays (did s a ∷ own)
  stays_kept own s a may quiet none leaves f = (quiet_seen w p names There own s a may quiet f.0, synced_kept Of w path source own s a quiet none f.1)

  abbrev pub Copied : Outcome (List Destination)
  Copied later j ds = Stays later × AllOpen w.run path ns ds later

  one_copied : (n : ℕ) → IsMsgNum n → (ds : List Destination) (own : List Deed) (h : Hand) → Stays own → AllOpen w.run path ns ds own → M own h (message_copied w.run source p n ds) (okay Copied)
  unfolding message_copied
  one_copied n one ds own h f to =
      meets_then (MayAsk w) (MindsAll Of w.run) own h (lifted (of_plan source) (content_read p (entry_text (Number n)))) (λ bytes. copied_to_all w.run bytes ds []) (λ later j (bytes : List ℕ). Stays later × AllOpen w.run path ns ds later) Copied
      (meets_lifted (MayAsk w) (MindsAll Of w.run) own h (of_plan source) (content_read p (entry_text (Number n))) (λ later j (bytes : List ℕ). Stays later × AllOpen w.run path ns ds later) (content_meets Of w path source Stays stays_kept ns ds (entry_text (Number n)) other own h (f, to)))
      (λ later j bytes g. copies_meet Of w path source Stays stays_kept bytes ns [] ds [] off later j g.0 tt g.1)
    where
      other : entry_text (Number n) ≡ sequences_name → ⊥
      other e = absurd (let same : Number n ≡ Sequences = sym (kind_of-entry_text (Number n) one) ∙ (ap kind_of e ∙ kind_of-entry_text Sequences tt) in cc (same))

  pub all_copied_meet : (numbers : List ℕ) → AreNumbers numbers → (ds : List Destination) (own : List Deed) (h : Hand) → Stays own → AllOpen w.run path ns ds own → M own h (messages_copied w.run source p numbers ds) (okay Copied)
  unfolding messages_copied
  all_copied_meet [] valid ds own h f to = meets_return (MayAsk w) (MindsAll Of w.run) own h ds (okay Copied) (f, to)
  all_copied_meet (n ∷ numbers) valid ds own h f to =
      meets_then (MayAsk w) (MindsAll Of w.run) own h (message_copied w.run source p n ds) (λ later. messages_copied w.run source p numbers later) Copied Copied (one_copied n valid.0 ds own h f to) (λ later j x g. all_copied_meet numbers valid.1 x later j g.0 g.1)
