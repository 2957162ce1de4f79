-- Where a command begins a folder as it pledges: what shows its end, and what its work may rely on.
use Rattle.std.proofs.Common.{◌≡◌, ◌<◌, ◌^◌, ◌∷◌, ℕ, true, List, Result, Ok, Err, refl, subst}
use Rattle.std.specs.Prelude.{decimal}
use Rattle.mh_base.specs.Entries.{entry_text, kind_of}
use Rattle.mh_base.specs.Numbers.{IsMsgNum}
use Rattle.mh_base.specs.declared.entry.Entry.TheVariants.{Number}
use Rattle.mh_base.proofs.EntryKinds.{kind_of-entry_text}
use Rattle.mh_sequences.specs.Runs.{has}
use Rattle.folder_files.specs.Careful.{HasLock}
use Rattle.folder_files.specs.Commands.{Manner, Marking}
use Rattle.folder_files.specs.Deeds.{Deed, Once, WasDone, did, last, now, on, still}
use Rattle.folder_files.specs.Named.{is_number}
use Rattle.folder_files.specs.declared.place.Place.{Place}
use Rattle.folder_files.specs.declared.place.Place.TheVariants.{Folder, Mail}
use Rattle.folder_files.specs.declared.refusal.Refusal.{Refusal}
use Rattle.folder_files.specs.declared.step.Answer.{Answer}
use Rattle.folder_files.specs.declared.step.Step.{Step}
use Rattle.folder_files.specs.declared.step.Step.TheVariants as step
use Rattle.file_plans.specs.Plan.{Hand, Plan, lifted}
use Rattle.step_plans.specs.Endings.{IsTakenAway}
use Rattle.step_plans.specs.Pledges.{MayAsk, Pledge}
use Rattle.step_plans.specs.declared.command_fault.CommandFault.{CommandFault}
use Rattle.step_plans.proofs.Coming.{Comes, comes_more}
use Rattle.step_plans.proofs.Going.{Outcome, Sound, goes_lifted, okay}
use Rattle.command_stages.specs.Endings.{of_plan}
use Rattle.opening_plans.specs.Endings.{Answering, HasMetIn, IsMetIn, IsRefusedBy, PutsNone}
use Rattle.opening_plans.specs.FolderPledge.{folder_pledge}
use Rattle.opening_plans.specs.Opening.{Opened, begun}
use Rattle.opening_plans.proofs.BegunEnds.{IsBegunSo, begun_comes}
use Rattle.opening_plans.proofs.CleanRuns.{Clean, comes_asked, comes_goes}
use Rattle.opening_plans.proofs.FolderPledged.{HasBegun, begun_goes}
use Rattle.opening_plans.proofs.NumbersStay.{met_still, takes_none}
use Rattle.opening_plans.proofs.SequencesEnd.{Left}
use Rattle.opening_plans.proofs.WorkEnds.{Ends, comes_shown}
use Rattle.opening_plans.proofs.WorkPledged.{LetsBegin, begins, whenever}

-- a lock that is had was taken
pub was_locked : (p : Place) (own : List Deed) → HasLock p own → WasDone (step.Lock p) own
was_locked p _ (last e) = now e
was_locked p _ (still {own = older} off f) = on (was_locked p older f)

module _ (run : ℕ) (few : run < 2 ^ 128) (path folder : List ℕ) (Answers : Answering) (manner : Manner) (may_tell : List Deed → List ℕ → Type 0) (may_step : List Deed → Step → Type 0)
    (lets : LetsBegin path folder manner may_step) where
  abbrev w : Pledge
  w = folder_pledge run path folder (λ own. Answers.makes) manner may_tell may_step

  abbrev p : Place
  p = Folder path folder

  abbrev mail : Place
  mail = Mail path

  -- the folder is begun, and the run may go on
  pub record HasState (own : List Deed) (h : Hand) (o : Opened) : Type 0 where
    pub first : List Deed
    pub begun_there : HasBegun w first path folder own o
    pub left : Left run few path folder Answers own h
    -- the run has met each message of the folder, and has taken none away
    pub numbers : (n : ℕ) → IsMsgNum n → has o.listing n ≡ true → HasMetIn p (entry_text (Number n)) own

  -- the folder was listed and read under its lock, and by these the command refuses its words
  pub refused_there : (own : List Deed) (h : Hand) (o : Opened) (r : Refusal) → HasState own h o → Answers.refuses o.listing o.sequences r → IsRefusedBy run path folder Answers r own
  refused_there own h o r s f = record {
    listing = o.listing;
    text = s.begun_there.text;
    context = s.begun_there.context;
    seen = s.begun_there.seen;
    lock = s.begun_there.held.lock;
    refuses = subst (λ m. Answers.refuses o.listing m r) s.begun_there.sequences f;
  }

  pub locked_there : (own : List Deed) (h : Hand) (o : Opened) → HasState own h o → WasDone (step.Lock p) own
  locked_there own h o s = was_locked p own s.begun_there.held.lock

  abbrev States : Outcome Opened
  States later j o = HasState later j o

  -- the run took no number away
  abbrev pub TakesNone : List Deed → Type 0
  TakesNone own = (x : List ℕ) → is_number (kind_of x) ≡ true → Once (λ d older. IsTakenAway p x d) own → ⊥

  -- a command that keeps the folder's marks and does no more
  abbrev any_piece : List Deed → List ℕ → Type 0
  any_piece own piece = Unit {0}

  abbrev any_step : List Deed → Step → Type 0
  any_step own s = Unit {0}

  lets_begin : LetsBegin path folder (Marking path folder) any_step
  lets_begin = record {
    kinds = λ own kind s k. k;
    makes = λ own q. tt;
    creates = λ own q temp bytes. tt;
    clears = λ own q temp is. tt;
    gives = λ own q held number is. tt;
    drops = λ own q held is away. tt;
    commits = λ own q temp name is. tt;
  }

  abbrev marking : Pledge
  marking = folder_pledge run path folder (λ own. Answers.makes) (Marking path folder) any_piece any_step

  still_none : (own : List Deed) (s : Step) (a : Answer) → MayAsk marking own s → TakesNone own → TakesNone (did s a ∷ own)
  still_none own s a may f x n (now t) = takes_none run path folder own s a p x may.is_own n t
  still_none own s a may f x n (on z) = f x n z

  abbrev plan : Plan (Result Opened CommandFault)
  plan = lifted (of_plan folder) (begun run p mail folder)

  abbrev Begun : Outcome Opened
  Begun later j o = IsBegunSo run few path folder Answers o later j

  none_taken : (own : List Deed) (h : Hand) → Clean run own h → PutsNone mail own → TakesNone own → Comes own h plan (λ later j r. TakesNone later × Ends run few path folder Answers Begun later j r)
  none_taken own h clean none takes =
      comes_asked marking TakesNone still_none own h plan (okay (λ later j o. HasBegun marking own path folder later o)) (Ends run few path folder Answers Begun) (record { numbered = clean.numbered; unfailed = clean.unfailed })
      (goes_lifted marking own h (of_plan folder) (begun run p mail folder) (λ later j o. HasBegun marking own path folder later o) (begun_goes marking few path folder (begins run few path folder (λ own. Answers.makes) (Marking path folder) any_piece any_step lets_begin (whenever Answers.makes)) own h)) takes
      (comes_shown run few path folder Answers own h (begun run p mail folder) Begun (begun_comes run few path folder Answers own h clean none))

  number_name : (n : ℕ) → IsMsgNum n → is_number (kind_of (entry_text (Number n))) ≡ true
  number_name n ok = rw (kind_of-entry_text (Number n) ok) refl

  met_number : (own : List Deed) (n : ℕ) → IsMsgNum n → Once (λ d older. IsMetIn p (decimal n) d) own → TakesNone own → HasMetIn p (entry_text (Number n)) own
  unfolding entry_text
  met_number own n ok met takes = met_still p (decimal n) own met (takes (decimal n) (number_name n ok))

  -- after deeds of a run that is clean, that put no name into the mail directory and took no number away
  pub begin_state : (own : List Deed) (h : Hand) → Clean run own h → PutsNone mail own → TakesNone own → Comes own h plan (Ends run few path folder Answers States)
  begin_state own h clean none takes =
      comes_more own h plan (λ later j r. (Sound w later j × okay Pledged later j r) × (TakesNone later × Ends run few path folder Answers Begun later j r)) (Ends run few path folder Answers States) go
      (comes_goes w own h plan (okay Pledged) (λ later j r. TakesNone later × Ends run few path folder Answers Begun later j r) (record { numbered = clean.numbered; unfailed = clean.unfailed })
      (goes_lifted w own h (of_plan folder) (begun run p mail folder) Pledged (begun_goes w few path folder (begins run few path folder (λ own. Answers.makes) manner may_tell may_step lets (whenever Answers.makes)) own h))
      (none_taken own h clean none takes))
    where
      Pledged : Outcome Opened
      Pledged later j o = HasBegun w own path folder later o

      go : (later : List Deed) (j : Hand) (r : Result Opened CommandFault) → (Sound w later j × okay Pledged later j r) × (TakesNone later × Ends run few path folder Answers Begun later j r) → Ends run few path folder Answers States later j r
      go later j (Ok o) q = record { first = own; begun_there = q.0.1; left = q.1.1.left; numbers = λ n ok e. met_number later n ok (q.1.1.met n e) q.1.0 }
      go later j (Err e) q = q.1.1
