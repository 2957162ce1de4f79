-- How `rmm` ends, and what shows it.
use Rattle.std.proofs.Common.{◌≡◌, ◌⊎◌, ◌<◌, ◌+◌, ◌^◌, ◌∷◌, [], ℕ, Bool, true, false, List, Result, Ok, Err, inl, inr, refl, sym, ◌∙◌, ap, subst, arith}
use Rattle.std.specs.Prelude.{not}
use Rattle.mh_base.specs.Entries.{entry_text, kind_of}
use Rattle.mh_base.specs.Numbers.{IsMsgNum}
use Rattle.mh_base.specs.declared.entry.Entry.TheVariants.{Backup, Number}
use Rattle.mh_base.proofs.EntryKinds.{kind_of-entry_text}
use Rattle.mh_sequences.specs.Runs.{has, numbers_of}
use Rattle.mh_sequences.specs.Sequences.{Marked}
use Rattle.mh_sequences.specs.declared.run.Run.{Run}
use Rattle.msg_ranges.specs.Selection.{marks_of}
use Rattle.msg_ranges.proofs.Rising.{Rise, lists, none_below, first_of, first_or, rest_of}
use Rattle.folder_files.specs.Commands.{Removing}
use Rattle.folder_files.specs.Deeds.{Deed, WasDone, did, last, now, on, still}
use Rattle.folder_files.proofs.Names.{not_both}
use Rattle.folder_files.specs.declared.place.Place.{Place}
use Rattle.folder_files.specs.declared.place.Place.TheVariants.{Folder, Mail}
use Rattle.folder_files.specs.declared.step.Answer.{Answer}
use Rattle.folder_files.specs.declared.step.Answer.TheVariants as answer
use Rattle.folder_files.specs.declared.refusal.Refusal.{Refusal}
use Rattle.folder_files.specs.declared.refusal.Refusal.TheVariants as refusal
use Rattle.folder_files.specs.declared.step.Step.{Step}
use Rattle.folder_files.specs.declared.step.Step.TheVariants as step
use Rattle.file_plans.specs.Plan.{Hand, Plan, Return, after, bind, lifted, ◌>>=◌}
use Rattle.file_plans.specs.Rules.{Keeps}
use Rattle.file_plans.specs.Runs as runs
use Rattle.file_plans.proofs.Acting.{acts}
use Rattle.file_plans.proofs.Framing.{AnyStep, asks_any}
use Rattle.step_plans.specs.Locking.{lock_name, removed}
use Rattle.step_plans.specs.PlanFaults.{of_stop}
use Rattle.step_plans.specs.Removing.{message_removed}
use Rattle.step_plans.specs.Replacing.{held_to, renamed, synced}
use Rattle.step_plans.specs.declared.command_fault.CommandFault.{CommandFault}
use Rattle.step_plans.specs.declared.command_fault.CommandFault.TheVariants as command
use Rattle.step_plans.specs.declared.fault.PlanFault.{PlanFault}
use Rattle.step_plans.specs.declared.fault.PlanFault.TheVariants as fault
use Rattle.step_plans.proofs.Coming.{Comes, NoneFailed, anything, comes_framed, comes_rename, comes_sync_folder, comes_then, comes_to, comes_unlink}
use Rattle.step_plans.proofs.Going.{Outcome}
use Rattle.step_plans.proofs.Lasting.{KeptBy}
use Rattle.step_plans.proofs.Past.{did_step}
use Rattle.sequence_commits.specs.Committing.{changed_sequences}
use Rattle.command_stages.specs.Chosen.{folder_with}
use Rattle.command_stages.specs.Current.{made_current}
use Rattle.command_stages.specs.Endings.{of_plan}
use Rattle.mh_looks.proofs.Ending.{by_choice}
use Rattle.opening_plans.specs.Endings.{Answering, HasMetIn, IsRefusedBy, PutsName, PutsNone, ShowsEnd, met_gone, removed_gone}
use Rattle.opening_plans.specs.Opening.{Opened}
use Rattle.opening_plans.specs.Reads.{HaveSeen}
use Rattle.opening_plans.proofs.BeginState.{HasState, TakesNone, begin_state, locked_there, refused_there}
use Rattle.opening_plans.proofs.CleanRuns.{Clean, clean_more}
use Rattle.opening_plans.proofs.FolderPledged.{seen_kept}
use Rattle.opening_plans.proofs.NamesKept.{backups_kept, other_renamed, other_unlinked, putting}
use Rattle.opening_plans.proofs.SequencesEnd.{Left, changed_comes}
use Rattle.opening_plans.proofs.SettledEnds.{Shown}
use Rattle.opening_plans.proofs.WorkEnds.{Ends, EndsSo, begun_ends, comes_shown, current_beside, shown_beside}
use Rattle.refile_plans.specs.Rmm.{all_removed, chosen_from, opened_removed, removed_marked, removed_safely, rmm, said_removed, withdrawn}
use Rattle.refile_plans.specs.RmmAnswers.{HasRemoved, HasRemovedChosen, HasTaken, rmm_answers}
use Rattle.refile_plans.specs.RmmOutcome.{is_among}
use Rattle.refile_plans.specs.RmmPledge.{Removes as TakesAt, RemovesChosen, every_message}
use Rattle.refile_plans.specs.declared.job.RmmJob.{RmmJob}
use Rattle.refile_plans.proofs.RmmPledged.{lets, listed_runs}
use Rattle.refile_plans.proofs.Selected.{chosen_listed, chosen_rise, in_runs}

-- numbers that rise from a later one on are others
pub later_ones : (first n : ℕ) (ns : List ℕ) → Rise first (n ∷ ns) → (k : ℕ) → lists ns k ≡ true → n ≡ k → ⊥
later_ones first n ns rise k e same = not_both (lists ns k) e (none_below (n + 1) ns rise.1 k (omega (arith, same)))

pub number_names : (n k : ℕ) → IsMsgNum n → IsMsgNum k → entry_text (Number n) ≡ entry_text (Number k) → n ≡ k
number_names n k good fine e = let same : Number n ≡ Number k = sym (kind_of-entry_text (Number n) good) ∙ (ap kind_of e ∙ kind_of-entry_text (Number k) fine) in cc (same)

module _ (run : ℕ) (few : run < 2 ^ 128) (path : List ℕ) (job : RmmJob) where
  abbrev p : Place
  p = Folder path job.folder

  abbrev mail : Place
  mail = Mail path

  abbrev no_piece : List Deed → List ℕ → Type 0
  no_piece own piece = ⊥

  abbrev Answers : Answering
  Answers = rmm_answers job

  abbrev So : {A : Type 0} → Outcome A → Outcome (Result A CommandFault)
  So P later j r = Ends run few path job.folder Answers P later j r

  abbrev Plainly : {A : Type 0} → Outcome A → Outcome (Result A PlanFault)
  Plainly P later j r = Shown run path job.folder Answers P later j r

  abbrev Shows : CommandFault → List Deed → Type 0
  Shows e own = ShowsEnd run path job.folder Answers e own

  abbrev Leaves : {A : Type 0} → Outcome A
  Leaves later j x = Left run few path job.folder Answers later j

  abbrev State : List Deed → Hand → Opened → Type 0
  State own h o = HasState run few path job.folder Answers (Removing path job.folder every_message) no_piece (RemovesChosen run path job) (lets run few path job) own h o

  abbrev Has : List Deed → Type 0
  Has own = HasRemovedChosen run path job own

  has_kept : KeptBy AnyStep Has
  has_kept own s x any f = record {
    listing = f.listing;
    text = f.text;
    context = f.context;
    seen = seen_kept run p mail f.listing f.text f.context own s x any f.seen;
    numbers = f.numbers;
    chosen = f.chosen;
    removed = λ n e. on (f.removed n e);
  }

  abbrev Removed : {A : Type 0} → Outcome A
  Removed later j x = Left run few path job.folder Answers later j × Has later

  -- what words refuse, once the folder was listed and read
  refused_shows : (own : List Deed) (listing : List Run) (m : Marked) (e : CommandFault) → ((r : Refusal) → chosen_from job listing m ≡ Err (command.Refused r) → IsRefusedBy run path job.folder Answers r own)
      → chosen_from job listing m ≡ Err e → Shows e own
  refused_shows own listing m e b is =
      by_choice (λ z. chosen_from job listing m ≡ Err z → Shows z own) (folder_with job.negation (numbers_of listing) (marks_of m)) job.specs e is (λ word. b (refusal.BadSpec word)) (λ word. b (refusal.Absent word))
      (λ word. b (refusal.EmptyRange word)) (λ word. b (refusal.EmptySequence word)) is

  -- the first is gone then
  taken_on : (numbers ns : List ℕ) (n : ℕ) (own : List Deed) (s : Step) → ((k : ℕ) → lists numbers k ≡ true → (lists (n ∷ ns) k ≡ true) ⊎ HasTaken p k own) → TakesAt p n s
      → (k : ℕ) → lists numbers k ≡ true → (lists ns k ≡ true) ⊎ HasTaken p k (did s answer.Done ∷ own)
  taken_on numbers ns n own s f t k e = go (f k e)
    where
      by_first : (n ≡ k) ⊎ (lists ns k ≡ true) → (lists ns k ≡ true) ⊎ HasTaken p k (did s answer.Done ∷ own)
      by_first (inl same) = inr (now (s, subst (λ z. TakesAt p z s) same t, refl))
      by_first (inr l) = inl l

      go : (lists (n ∷ ns) k ≡ true) ⊎ HasTaken p k own → (lists ns k ≡ true) ⊎ HasTaken p k (did s answer.Done ∷ own)
      go (inl l) = by_first (first_or n k ns l)
      go (inr g) = inr (on g)

  -- while messages are removed: of those that are left the run has met each name, and the others are gone
  record Removes (numbers left : List ℕ) (own : List Deed) (h : Hand) : Type 0 where
    lock : WasDone (step.Lock p) own
    rest : Left run few path job.folder Answers own h
    gone : (k : ℕ) → lists numbers k ≡ true → (lists left k ≡ true) ⊎ HasTaken p k own
    met : (k : ℕ) → lists left k ≡ true → IsMsgNum k × HasMetIn p (entry_text (Number k)) own

  -- it puts no name but the backup's
  puts_backup : (n : ℕ) (y : List ℕ) (a : Answer) → PutsName p y (did (step.Rename p (entry_text (Number n)) (entry_text (Backup n))) a) → y ≡ entry_text (Backup n)
  puts_backup n y a (inl w) = let same : step.Rename p (entry_text (Number n)) (entry_text (Backup n)) ≡ step.Create p y w.0 = did_step w.1 in cc
  puts_backup n y a (inr (inl w)) = let same : step.Rename p (entry_text (Number n)) (entry_text (Backup n)) ≡ step.Link p w.0 y = did_step w.1 in cc
  puts_backup n y a (inr (inr w)) = let same : step.Rename p (entry_text (Number n)) (entry_text (Backup n)) ≡ step.Rename p w.0 y = did_step w.1 in cc

  backed_up : (numbers : List ℕ) (n : ℕ) (ns : List ℕ) (own : List Deed) (h : Hand) → ((k : ℕ) → lists ns k ≡ true → n ≡ k → ⊥) → Removes numbers (n ∷ ns) own h → Removes numbers ns (did (step.Rename p (entry_text (Number n)) (entry_text (Backup n))) answer.Done ∷ own) h
  backed_up numbers n ns own h other f = record {
    lock = on f.lock;
    rest = record {
      clean = clean_more run own h (step.Rename p (entry_text (Number n)) (entry_text (Backup n))) answer.Done (λ e. cc (e)) tt f.rest.clean;
      safe = still (λ w. w.2 n (puts_backup n w.0 answer.Done w.1)) f.rest.safe;
    };
    gone = taken_on numbers ns n own (step.Rename p (entry_text (Number n)) (entry_text (Backup n))) f.gone (
      refl,
      kind_of-entry_text (Number n) (first_of {F = λ z. IsMsgNum z × HasMetIn p (entry_text (Number z)) own} n ns f.met).0,
      kind_of-entry_text (Backup n) (first_of {F = λ z. IsMsgNum z × HasMetIn p (entry_text (Number z)) own} n ns f.met).0,
    );
    met = λ k e. (
      (rest_of {F = λ z. IsMsgNum z × HasMetIn p (entry_text (Number z)) own} n ns f.met k e).0,
      still (other_renamed p (entry_text (Number n)) (entry_text (Backup n)) (entry_text (Number k)) answer.Done
          (λ same. other k e (number_names n k (first_of {F = λ z. IsMsgNum z × HasMetIn p (entry_text (Number z)) own} n ns f.met).0 (rest_of {F = λ z. IsMsgNum z × HasMetIn p (entry_text (Number z)) own} n ns f.met k e).0 same)))
          (rest_of {F = λ z. IsMsgNum z × HasMetIn p (entry_text (Number z)) own} n ns f.met k e).1,
    );
  }

  unlinked : (numbers : List ℕ) (n : ℕ) (ns : List ℕ) (own : List Deed) (h : Hand) → ((k : ℕ) → lists ns k ≡ true → n ≡ k → ⊥) → Removes numbers (n ∷ ns) own h → Removes numbers ns (did (step.Unlink p (entry_text (Number n))) answer.Done ∷ own) h
  unlinked numbers n ns own h other f = record {
    lock = on f.lock;
    rest = record {
      clean = clean_more run own h (step.Unlink p (entry_text (Number n))) answer.Done (λ e. cc (e)) tt f.rest.clean;
      safe = backups_kept p (step.Unlink p (entry_text (Number n))) answer.Done own (λ y w. putting p y (step.Unlink p (entry_text (Number n))) answer.Done w) f.rest.safe;
    };
    gone = taken_on numbers ns n own (step.Unlink p (entry_text (Number n))) f.gone (refl, kind_of-entry_text (Number n) (first_of {F = λ z. IsMsgNum z × HasMetIn p (entry_text (Number z)) own} n ns f.met).0);
    met = λ k e. (
      (rest_of {F = λ z. IsMsgNum z × HasMetIn p (entry_text (Number z)) own} n ns f.met k e).0,
      still (other_unlinked p (entry_text (Number n)) (entry_text (Number k)) answer.Done
          (λ same. other k e (number_names n k (first_of {F = λ z. IsMsgNum z × HasMetIn p (entry_text (Number z)) own} n ns f.met).0 (rest_of {F = λ z. IsMsgNum z × HasMetIn p (entry_text (Number z)) own} n ns f.met k e).0 same)))
          (rest_of {F = λ z. IsMsgNum z × HasMetIn p (entry_text (Number z)) own} n ns f.met k e).1,
    );
  }

  abbrev Left_ : List ℕ → List ℕ → Outcome Unit
  Left_ numbers ns later j u = Removes numbers ns later j

  message_comes : (numbers : List ℕ) (b : Bool) (n : ℕ) (ns : List ℕ) (own : List Deed) (h : Hand) → ((k : ℕ) → lists ns k ≡ true → n ≡ k → ⊥) → Removes numbers (n ∷ ns) own h → Comes own h (message_removed p n b) (Plainly (Left_ numbers ns))
  unfolding renamed removed
  message_comes numbers true n ns own h other f =
      comes_rename own h of_stop (Plainly (Left_ numbers ns)) p (entry_text (Number n)) (entry_text (Backup n)) (held_to p (entry_text (Number n))) (comes_to _ h (Ok tt) (Plainly (Left_ numbers ns)) (backed_up numbers n ns own h other f))
      (comes_to _ h (Err (fault.Meddled p (entry_text (Number n)))) (Plainly (Left_ numbers ns))
      (met_gone (inl (inr (inr (inr (entry_text (Backup n), refl))))) (first_of {F = λ z. IsMsgNum z × HasMetIn p (entry_text (Number z)) own} n ns f.met).1))
  message_comes numbers false n ns own h other f =
      comes_unlink own h of_stop (Plainly (Left_ numbers ns)) p (entry_text (Number n)) (held_to p (entry_text (Number n))) (comes_to _ h (Ok tt) (Plainly (Left_ numbers ns)) (unlinked numbers n ns own h other f))
      (comes_to _ h (Err (fault.Meddled p (entry_text (Number n)))) (Plainly (Left_ numbers ns)) (met_gone (inl (inr (inr (inl refl)))) (first_of {F = λ z. IsMsgNum z × HasMetIn p (entry_text (Number z)) own} n ns f.met).1))

  all_comes : (numbers : List ℕ) (b : Bool) (first : ℕ) (ns : List ℕ) → Rise first ns → (own : List Deed) (h : Hand) → Removes numbers ns own h → Comes own h (all_removed p b ns) (Plainly (Left_ numbers []))
  unfolding all_removed
  all_comes numbers b first [] rise own h f = comes_to own h (Ok tt) (Plainly (Left_ numbers [])) f
  all_comes numbers b first (n ∷ ns) rise own h f =
      comes_then own h (message_removed p n b) (λ gone. all_removed p b ns) (Plainly (Left_ numbers ns)) (Plainly (Left_ numbers [])) (message_comes numbers b n ns own h (later_ones first n ns rise) f)
      (λ later j u g. all_comes numbers b (n + 1) ns rise.1 later j g) (λ later j e g. g)

  -- and the folder is made safe
  abbrev Safely : List ℕ → Outcome Unit
  Safely numbers later j u = WasDone (step.Lock p) later × Left run few path job.folder Answers later j × ((n : ℕ) → is_among n numbers ≡ true → HasRemoved p n later)

  all_gone : (n : ℕ) (own : List Deed) → (lists [] n ≡ true) ⊎ HasTaken p n own → HasTaken p n own
  all_gone n own (inl l) = cc (l)
  all_gone n own (inr g) = g

  safely_comes : (b : Bool) (numbers : List ℕ) → Rise 1 numbers → (own : List Deed) (h : Hand) → Removes numbers numbers own h → Comes own h (removed_safely p b numbers) (Plainly (Safely numbers))
  unfolding removed_safely synced
  safely_comes b numbers rise own h f =
      comes_then own h (all_removed p b numbers) (λ gone. synced p lock_name) (Plainly (Left_ numbers [])) (Plainly (Safely numbers)) (all_comes numbers b 1 numbers rise own h f)
      (λ later j u g.
      comes_sync_folder later j of_stop (Plainly (Safely numbers)) p (held_to p lock_name) (comes_to _ j (Ok tt) (Plainly (Safely numbers)) (
        on g.lock,
        record {
          clean = clean_more run later j (step.SyncFolder p) answer.Done (λ e. cc (e)) tt g.rest.clean;
          safe = last (inr refl);
        },
        λ n e. now (refl, all_gone n later (g.gone n e)),
      ))
      (comes_to _ j (Err (fault.Meddled p lock_name)) (Plainly (Safely numbers)) (removed_gone refl g.lock g.rest.safe)))
      (λ later j e g. g)

  module _ (own : List Deed) (h : Hand) (o : Opened) (s : State own h o) where
    abbrev Seen : List Deed → Type 0
    Seen later = HaveSeen run p mail o.listing s.begun_there.text s.begun_there.context later

    abbrev Safe : List ℕ → Outcome (Result Unit PlanFault)
    Safe numbers later j r = Seen later × Plainly (Safely numbers) later j r

    seen_safe : (numbers : List ℕ) → chosen_from job o.listing o.sequences ≡ Ok numbers → Comes own h (removed_safely p (not job.unlink) numbers) (Safe numbers)
    seen_safe numbers is =
        comes_framed AnyStep Seen (seen_kept run p mail o.listing s.begun_there.text s.begun_there.context) own h (removed_safely p (not job.unlink) numbers)
        (Plainly (Safely numbers)) (asks_any (removed_safely p (not job.unlink) numbers)) s.begun_there.seen
        (safely_comes (not job.unlink) numbers (chosen_rise job o.listing o.sequences numbers is) own h begins)
      where
        there : (k : ℕ) → lists numbers k ≡ true → has o.listing k ≡ true
        there k e = chosen_listed job o.listing o.sequences numbers is k e

        ok : (k : ℕ) → lists numbers k ≡ true → IsMsgNum k
        ok k e = in_runs o.listing (listed_runs run p mail o.listing s.begun_there.text s.begun_there.context own s.begun_there.seen) k (there k e)

        begins : Removes numbers numbers own h
        begins = record {
          lock = locked_there run few path job.folder Answers (Removing path job.folder every_message) no_piece (RemovesChosen run path job) (lets run few path job) own h o s;
          rest = s.left;
          gone = λ k e. inl e;
          met = λ k e. (ok k e, s.numbers k (ok k e) (there k e));
        }

    has_removed : (numbers : List ℕ) → chosen_from job o.listing o.sequences ≡ Ok numbers → (later : List Deed) → Seen later → ((n : ℕ) → is_among n numbers ≡ true → HasRemoved p n later) → Has later
    has_removed numbers is later seen removed_ = record {
      listing = o.listing;
      text = s.begun_there.text;
      context = s.begun_there.context;
      seen = seen;
      numbers = numbers;
      chosen = ap (λ m. chosen_from job o.listing m) (sym s.begun_there.sequences) ∙ is;
      removed = removed_;
    }

    removing_comes : (numbers : List ℕ) → chosen_from job o.listing o.sequences ≡ Ok numbers
        → Comes own h (removed_safely p (not job.unlink) numbers >>= (λ gone. changed_sequences run p mail job.folder o.sequences (withdrawn numbers o.sequences))) (Plainly Removed)
    removing_comes numbers is =
        comes_then own h (removed_safely p (not job.unlink) numbers) (λ gone. changed_sequences run p mail job.folder o.sequences (withdrawn numbers o.sequences)) (Safe numbers) (Plainly Removed) (seen_safe numbers is)
        (λ later j u q.
        shown_beside run few path job.folder Answers Has has_kept later j (changed_sequences run p mail job.folder o.sequences (withdrawn numbers o.sequences)) Leaves (has_removed numbers is later q.0 q.1.2)
        (changed_comes run few path job.folder Answers o.listing s.begun_there.text s.begun_there.context (withdrawn numbers o.sequences)
        (inr (numbers, ap (λ m. chosen_from job o.listing m) (sym s.begun_there.sequences) ∙ is, ap (withdrawn numbers) s.begun_there.sequences)) o.sequences later j q.0 q.1.0 q.1.1))
        (λ later j e q. q.1)

    abbrev then_removed : Place → List ℕ → List ℕ → Plan (Result Unit PlanFault)
    then_removed q n numbers = removed_safely q (not job.unlink) numbers >>= (λ gone. changed_sequences run q mail n o.sequences (withdrawn numbers o.sequences))

    by_value : (value : Result (List ℕ) CommandFault) → chosen_from job o.listing o.sequences ≡ value → Comes own h (after (λ numbers. lifted (of_plan job.folder) (then_removed p job.folder numbers)) value) (So Removed)
    by_value (Ok numbers) is = comes_shown run few path job.folder Answers own h (then_removed p job.folder numbers) Removed (removing_comes numbers is)
    by_value (Err e) is =
        comes_to own h (Err e) (So Removed)
        (refused_shows own o.listing o.sequences e (λ r. refused_there run few path job.folder Answers (Removing path job.folder every_message) no_piece (RemovesChosen run path job) (lets run few path job) own h o r s) is)

    at_place : (q : Place) (n : List ℕ) → q ≡ p → n ≡ job.folder → Comes own h (Return (chosen_from job o.listing o.sequences) >>= (λ numbers. lifted (of_plan job.folder) (then_removed q n numbers))) (So Removed)
    unfolding Comes bind ◌>>=◌
    at_place q n place name = rw (place, name) (by_value (chosen_from job o.listing o.sequences) refl)

    said_comes : Comes own h (said_removed run path job o) (So Removed)
    unfolding said_removed removed_marked
    said_comes = at_place o.place o.folder s.begun_there.place s.begun_there.name

    -- the work on a folder that was begun
    opened_comes : Comes own h (opened_removed run path job o) (So (λ later j u. Has later))
    unfolding opened_removed
    opened_comes =
        comes_then own h (said_removed run path job o) (λ gone. made_current run path job.folder) (So Removed) (So (λ later j u. Has later)) said_comes
        (λ later j u f. current_beside run few path job.folder Answers Has has_kept later j f.0 f.1) (λ later j e f. f)

  -- `rmm`, after deeds of which none failed, none put a name into the mail directory and none took a number away
  pub rmm_ends : (F : List Deed → Type 0) → KeptBy AnyStep F → (past : List runs.Deed) (h : Hand) → NoneFailed (acts past) → Clean run (acts past) h → PutsNone mail (acts past)
      → TakesNone run few path job.folder Answers (Removing path job.folder every_message) no_piece (RemovesChosen run path job) (lets run few path job) (acts past) → F (acts past)
      → Keeps anything past h (rmm run path job) (EndsSo run few path job.folder Answers F Has)
  unfolding rmm
  rmm_ends F keeps past h none clean free takes f =
      begun_ends run few path job.folder Answers F Has keeps has_kept State (opened_removed run path job)
      (locked_there run few path job.folder Answers (Removing path job.folder every_message) no_piece (RemovesChosen run path job) (lets run few path job)) opened_comes past h none f
      (begin_state run few path job.folder Answers (Removing path job.folder every_message) no_piece (RemovesChosen run path job) (lets run few path job) (acts past) h clean free takes)
