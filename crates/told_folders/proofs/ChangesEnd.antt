-- How a command ends that changes a folder's sequences, and what shows it.
use Rattle.std.proofs.Common.{◌≡◌, ◌<◌, ◌^◌, ◌∷◌, [], ℕ, List, Result, Ok, Err, inr, refl, sym, ◌∙◌, ap}
use Rattle.mh_sequences.specs.Runs.{numbers_of}
use Rattle.mh_sequences.specs.Sequences.{Marked}
use Rattle.mh_sequences.specs.declared.run.Run.{Run}
use Rattle.msg_ranges.specs.Selection.{marks_of}
use Rattle.folder_files.specs.Commands.{Marking}
use Rattle.folder_files.specs.Deeds.{Deed}
use Rattle.folder_files.specs.declared.place.Place.{Place}
use Rattle.folder_files.specs.declared.place.Place.TheVariants.{Folder, Mail}
use Rattle.folder_files.specs.declared.refusal.Refusal.{Refusal}
use Rattle.folder_files.specs.declared.refusal.Refusal.TheVariants as refusal
use Rattle.folder_files.specs.declared.step.Step.{Step}
use Rattle.file_plans.specs.Plan.{Hand, Return, after, bind, lifted, ◌>>=◌}
use Rattle.file_plans.specs.Rules.{Keeps}
use Rattle.file_plans.specs.Runs as runs
use Rattle.file_plans.proofs.Acting.{acts}
use Rattle.file_plans.proofs.Framing.{AnyStep}
use Rattle.step_plans.specs.CommandFaults.{of_sink}
use Rattle.step_plans.specs.declared.command_fault.CommandFault.{CommandFault}
use Rattle.step_plans.specs.declared.command_fault.CommandFault.TheVariants as fault
use Rattle.step_plans.proofs.Coming.{Comes, NoneFailed, anything, comes_say, comes_then, comes_to}
use Rattle.step_plans.proofs.Going.{Outcome}
use Rattle.step_plans.proofs.Lasting.{KeptBy}
use Rattle.sequence_commits.specs.Committing.{changed_sequences}
use Rattle.command_stages.specs.Chosen.{folder_with}
use Rattle.command_stages.specs.Current.{made_current}
use Rattle.command_stages.specs.Endings.{of_plan}
use Rattle.mh_looks.proofs.Ending.{by_choice}
use Rattle.opening_plans.specs.Endings.{IsRefusedBy, PutsNone, ShowsEnd}
use Rattle.opening_plans.specs.Opening.{Opened, with_sequences}
use Rattle.opening_plans.proofs.BeginState.{HasState, TakesNone, begin_state, locked_there, refused_there}
use Rattle.opening_plans.proofs.CleanRuns.{Clean}
use Rattle.opening_plans.proofs.SequencesEnd.{Left, changed_comes}
use Rattle.opening_plans.proofs.WorkEnds.{Ends, EndsSo, begun_ends, comes_shown, current_beside, shown_beside}
use Rattle.told_folders.proofs.ChangesPledged.{lets}
use Rattle.told_folders.specs.Answers.{change_answers}
use Rattle.told_folders.specs.Plans.{chosen_changed, folder_changed, lines_said, opened_told}
use Rattle.told_folders.specs.Tasks.{Task, chosen_from}

-- lines are said, and that is all
module _ (own : List Deed) (h : Hand) (Q : Outcome (Result Unit CommandFault)) (q : Q own h (Ok tt)) where
  pub lines_come : (lines : List (List ℕ)) → Comes own h (lines_said lines) Q
  unfolding lines_said
  lines_come [] = comes_to own h (Ok tt) Q q
  lines_come (line ∷ lines) = comes_say own h of_sink Q line (λ told. lines_said lines) (lines_come lines)

module _ (run : ℕ) (few : run < 2 ^ 128) (path : List ℕ) (task : Task) where
  abbrev p : Place
  p = Folder path task.folder

  abbrev mail : Place
  mail = Mail path

  abbrev any_piece : List Deed → List ℕ → Type 0
  any_piece own piece = Unit {0}

  abbrev any_step : List Deed → Step → Type 0
  any_step own s = Unit {0}

  abbrev So : {A : Type 0} → Outcome A → Outcome (Result A CommandFault)
  So P later j r = Ends run few path task.folder (change_answers task) P later j r

  abbrev Shows : CommandFault → List Deed → Type 0
  Shows e own = ShowsEnd run path task.folder (change_answers task) e own

  abbrev Leaves : {A : Type 0} → Outcome A
  Leaves later j x = Left run few path task.folder (change_answers task) later j

  abbrev State : List Deed → Hand → Opened → Type 0
  State own h o = HasState run few path task.folder (change_answers task) (Marking path task.folder) any_piece any_step (lets run few path task) own h o

  -- what it chose, and by what, is said with what it says (ChangesSay)
  abbrev Has : List Deed → Type 0
  Has own = Unit {0}

  has_kept : KeptBy AnyStep Has
  has_kept own s x any f = tt

  abbrev Chooses : {A : Type 0} → Outcome A
  Chooses later j x = Left run few path task.folder (change_answers task) later j × Has later

  -- what words refuse, once the folder was listed and read
  refused_shows : (own : List Deed) (listing : List Run) (m : Marked) (e : CommandFault) → ((r : Refusal) → chosen_from task listing m ≡ Err (fault.Refused r) → IsRefusedBy run path task.folder (change_answers task) r own)
      → chosen_from task listing m ≡ Err e → Shows e own
  refused_shows own listing m e b is =
      by_choice (λ z. chosen_from task listing m ≡ Err z → Shows z own) (folder_with task.negation (numbers_of listing) (marks_of m)) task.specs e is (λ word. b (refusal.BadSpec word)) (λ word. b (refusal.Absent word))
      (λ word. b (refusal.EmptyRange word)) (λ word. b (refusal.EmptySequence word)) is

  module _ (own : List Deed) (h : Hand) (o : Opened) (s : State own h o) where
    abbrev made : List ℕ → Marked
    made numbers = task.becomes o.listing numbers o.sequences

    commits : (numbers : List ℕ) → chosen_from task o.listing o.sequences ≡ Ok numbers
        → Comes own h (lifted (of_plan task.folder) (changed_sequences run p mail task.folder o.sequences (made numbers)) >>= (λ done. Return (Ok (with_sequences (made numbers) o)))) (So Chooses)
    commits numbers is =
        comes_then own h (lifted (of_plan task.folder) (changed_sequences run p mail task.folder o.sequences (made numbers))) (λ done. Return (Ok (with_sequences (made numbers) o))) (So Chooses) (So Chooses)
        (comes_shown run few path task.folder (change_answers task) own h (changed_sequences run p mail task.folder o.sequences (made numbers)) Chooses
        (shown_beside run few path task.folder (change_answers task) Has has_kept own h (changed_sequences run p mail task.folder o.sequences (made numbers)) Leaves tt
        (changed_comes run few path task.folder (change_answers task) o.listing s.begun_there.text s.begun_there.context (made numbers)
        (inr (numbers, ap (λ m. chosen_from task o.listing m) (sym s.begun_there.sequences) ∙ is, ap (task.becomes o.listing numbers) s.begun_there.sequences))
        o.sequences own h s.begun_there.seen (locked_there run few path task.folder (change_answers task) (Marking path task.folder) any_piece any_step (lets run few path task) own h o s) s.left)))
        (λ later j u f. comes_to later j (Ok (with_sequences (made numbers) o)) (So Chooses) f) (λ later j e f. f)

    chosen_by : (value : Result (List ℕ) CommandFault) → chosen_from task o.listing o.sequences ≡ value
        → Comes own h (after (λ numbers. lifted (of_plan task.folder) (changed_sequences run p mail task.folder o.sequences (made numbers)) >>= (λ done. Return (Ok (with_sequences (made numbers) o)))) value) (So Chooses)
    chosen_by (Ok numbers) is = commits numbers is
    chosen_by (Err e) is = comes_to own h (Err e) (So Chooses) (refused_shows own o.listing o.sequences e (λ r. refused_there run few path task.folder (change_answers task) (Marking path task.folder) any_piece any_step (lets run few path task) own h o r s) is)

    chosen_at : (q : Place) (n : List ℕ) → q ≡ p → n ≡ task.folder
        → Comes own h (Return (chosen_from task o.listing o.sequences) >>= (λ numbers. lifted (of_plan task.folder) (changed_sequences run q mail n o.sequences (made numbers)) >>= (λ done. Return (Ok (with_sequences (made numbers) o))))) (So Chooses)
    unfolding Comes bind ◌>>=◌
    chosen_at q n place name = rw (place, name) (chosen_by (chosen_from task o.listing o.sequences) refl)

    chosen_comes : Comes own h (chosen_changed run path task o) (So Chooses)
    unfolding chosen_changed
    chosen_comes = chosen_at o.place o.folder s.begun_there.place s.begun_there.name

    -- the work on a folder that was begun
    opened_comes : Comes own h (opened_told run path task o) (So (λ later j u. Has later))
    unfolding opened_told
    opened_comes =
        comes_then own h (chosen_changed run path task o) (λ marked. lines_said (task.lines marked.listing marked.sequences) >>= (λ told. made_current run path task.folder)) (So Chooses) (So (λ later j u. Has later)) chosen_comes
        (λ later j marked f.
        comes_then later j (lines_said (task.lines marked.listing marked.sequences)) (λ told. made_current run path task.folder) (So Chooses) (So (λ end i u. Has end)) (lines_come later j (So Chooses) f (task.lines marked.listing marked.sequences))
        (λ end i u g. current_beside run few path task.folder (change_answers task) Has has_kept end i g.0 g.1) (λ end i e g. g))
        (λ later j e f. f)

  -- the whole, after deeds of which none failed and none put a name into the mail directory
  pub changes_end : (F : List Deed → Type 0) → KeptBy AnyStep F → (past : List runs.Deed) (h : Hand) → NoneFailed (acts past) → Clean run (acts past) h → PutsNone mail (acts past) → TakesNone run few path task.folder (change_answers task) (Marking path task.folder) any_piece any_step (lets run few path task) (acts past) → F (acts past)
      → Keeps anything past h (folder_changed run path task) (EndsSo run few path task.folder (change_answers task) F Has)
  unfolding folder_changed
  changes_end F keeps past h none clean free takes f =
      begun_ends run few path task.folder (change_answers task) F Has keeps has_kept State (opened_told run path task)
      (locked_there run few path task.folder (change_answers task) (Marking path task.folder) any_piece any_step (lets run few path task)) opened_comes past h none f
      (begin_state run few path task.folder (change_answers task) (Marking path task.folder) any_piece any_step (lets run few path task) (acts past) h clean free takes)
