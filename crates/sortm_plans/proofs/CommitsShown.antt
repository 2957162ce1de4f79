-- How a command's commits of sequences end that it makes after its deeds, and messages that change places, and what shows it.
use Rattle.std.specs.Prelude.{nat_lt}
use Rattle.std.proofs.Common.{◌≡◌, ◌⊎◌, inl, inr, ◌<◌, ◌-◌, ◌^◌, ◌∷◌, [], true, ℕ, List, Result, Ok, Err, length, refl, sym, subst}
use Rattle.mh_base.specs.Entries.{entry_text, kind_of}
use Rattle.mh_base.specs.Numbers.{IsMsgNum}
use Rattle.mh_base.specs.declared.entry.Entry.TheVariants.{Number}
use Rattle.mh_base.proofs.EntryKinds.{kind_of-entry_text}
use Rattle.mh_profile.specs.declared.named_value.NamedValue.{NamedValue}
use Rattle.mh_sequences.specs.Runs.{has}
use Rattle.mh_sequences.specs.Sequences.{Marked}
use Rattle.mh_sequences.specs.declared.run.Run.{Run}
use Rattle.mh_sequences.specs.Printing.{private_entries, text_of}
use Rattle.mh_sequences.specs.Reading.{suffix}
use Rattle.folder_files.specs.Careful.{HasLock}
use Rattle.folder_files.specs.Commands.{Marking}
use Rattle.folder_files.specs.Deeds.{Deed, Once, WasDone, did, now, on, still}
use Rattle.folder_files.specs.Named.{is_number}
use Rattle.folder_files.specs.declared.place.Place.{Place}
use Rattle.folder_files.specs.declared.place.Place.TheVariants.{Folder, Mail}
use Rattle.folder_files.specs.declared.step.Answer.{Answer}
use Rattle.folder_files.specs.declared.step.Step.{Step}
use Rattle.folder_files.specs.declared.step.Step.TheVariants as step
use Rattle.file_plans.specs.Plan.{Hand}
use Rattle.file_plans.proofs.Framing.{AnyStep, asks_any}
use Rattle.step_plans.specs.Commits.{IsBase}
use Rattle.step_plans.specs.ContextCommit.{LIMIT_BYTES}
use Rattle.step_plans.specs.Pledges.{MayAsk, Pledge}
use Rattle.step_plans.specs.PlanFaults.{Planned}
use Rattle.step_plans.specs.Settled.{AreSettled}
use Rattle.step_plans.specs.declared.command_fault.CommandFault.{CommandFault}
use Rattle.step_plans.specs.declared.command_fault.CommandFault.TheVariants as command
use Rattle.step_plans.specs.declared.fault.PlanFault.{PlanFault}
use Rattle.step_plans.specs.declared.fault.PlanFault.TheVariants as plan
use Rattle.step_plans.specs.Endings.{IsLongText}
use Rattle.step_plans.proofs.Coming.{Comes, comes_framed, comes_more}
use Rattle.step_plans.proofs.Going.{Outcome, okay}
use Rattle.step_plans.proofs.Lasting.{KeptBy}
use Rattle.sequence_commits.specs.Committing.{changed_sequences}
use Rattle.sequence_commits.specs.PrivateChanges.{changes_to}
use Rattle.sequence_commits.proofs.SequencesPledged.{sequences_name}
use Rattle.message_puts.specs.Stored.{HasMetAt}
use Rattle.message_places.specs.Moved.{AllMoved, HasMoved}
use Rattle.message_places.specs.Places.{AreMsgNums, is_in}
use Rattle.message_places.specs.declared.moves.Move.{Move}
use Rattle.message_places.proofs.NumberLists.{in_good}
use Rattle.command_stages.specs.Endings.{of_plan}
use Rattle.command_stages.specs.Texts.{too_large}
use Rattle.opening_plans.specs.Endings.{Answering, HasMetIn, IsTooLong, ShowsEnd, ShowsInFolder}
use Rattle.opening_plans.specs.FolderPledge.{folder_pledge, told_within}
use Rattle.opening_plans.specs.Reads.{HaveSeen}
use Rattle.opening_plans.proofs.CleanRuns.{comes_asked}
use Rattle.opening_plans.proofs.FolderPledged.{seen_kept}
use Rattle.opening_plans.proofs.NumbersStay.{takes_none}
use Rattle.opening_plans.proofs.SequencesEnd.{Left, changed_comes}
use Rattle.opening_plans.proofs.SettledEnds.{Shown}
use Rattle.opening_plans.proofs.WorkPledged.{LetsBegin, sequences_goes, whenever}
use Rattle.sortm_plans.specs.MovesDone.{AllSettled, HasSettled}
use Rattle.sortm_plans.proofs.ArrangedEnds as moving

-- what settled had moved
once_moved : (run : ℕ) (p : Place) (from end : ℕ) {P : Deed → Type 0} (own : List Deed) → Once (λ e before. P e × HasMoved run p from end before) own → HasMoved run p from end own
once_moved run p from end [] f = elim f [ ]
once_moved run p from end (d ∷ own) (now f) = on f.1
once_moved run p from end (d ∷ own) (on z) = on (once_moved run p from end own z)

settled_moved : (run : ℕ) (p : Place) (from end : ℕ) (own : List Deed) → HasSettled run p from end own → HasMoved run p from end own
settled_moved run p from end [] f = elim f [ ]
settled_moved run p from end (d ∷ own) (now f) = on (once_moved run p from end own f.1)
settled_moved run p from end (d ∷ own) (on z) = on (settled_moved run p from end own z)

pub all_moved : (run : ℕ) (p : Place) (ms : List Move) (ends : List ℕ) (own : List Deed) → AllSettled run p ms ends own → AllMoved run p ms ends own
all_moved run p [] [] own f = tt
all_moved run p [] (n ∷ ends) own f = absurd f
all_moved run p (m ∷ ms) [] own f = absurd f
all_moved run p (m ∷ ms) (n ∷ ends) own f = (settled_moved run p m.from n own f.0, all_moved run p ms ends own f.1)

-- a command that lets messages of its folder change places: what it answers, what shows its faults, and which sequences it makes after its deeds
pub record Commits : Type 1 where
  pub run : ℕ
  pub few : run < 2 ^ 128
  pub path : List ℕ
  pub folder : List ℕ
  pub answers : Answering
  pub shows : CommandFault → List Deed → Type 0
  pub makes : List Deed → List Run → Marked → Marked → Type 0
  pub makes_kept : (listing : List Run) (m new : Marked) → KeptBy AnyStep (λ own. makes own listing m new)
  pub shows_end : (e : CommandFault) (own : List Deed) → ShowsEnd run path folder answers e own → shows e own
  pub shows_long : (l : ℕ) (listing : List Run) (text context : List ℕ) (new : Marked) (own : List Deed) → HaveSeen run (Folder path folder) (Mail path) listing text context own
      → makes own listing (told_within listing text context folder) new
      → ((l ≡ length (text_of new)) × (nat_lt LIMIT_BYTES l ≡ true)) ⊎ ((entries : List NamedValue) × IsLongText (Mail path) (changes_to (suffix folder) (private_entries (suffix folder) new.users) entries) l own)
      → shows (too_large l) own
  pub shows_left : (listing : List Run) (text context : List ℕ) (own : List Deed) → HaveSeen run (Folder path folder) (Mail path) listing text context own → has listing 999999 ≡ true → shows (of_plan folder plan.Full) own
  pub shows_met : (own : List Deed) → HasMetAt (Folder path folder) 999999 own → shows (of_plan folder plan.Full) own

module _ (w : Commits) where
  abbrev run : ℕ
  run = w.run

  abbrev few : run < 2 ^ 128
  few = w.few

  abbrev path : List ℕ
  path = w.path

  abbrev folder : List ℕ
  folder = w.folder

  abbrev p : Place
  p = Folder path folder

  abbrev mail : Place
  mail = Mail path

  abbrev Answers : Answering
  Answers = w.answers

  abbrev Shows : CommandFault → List Deed → Type 0
  Shows e own = w.shows e own

  -- how a plan on the folder ends
  abbrev pub Plainly : {A : Type 0} → Outcome A → Outcome (Result A PlanFault)
  Plainly P later j (Ok a) = P later j a
  Plainly P later j (Err e) = Shows (of_plan folder e) later

  module _ (listing : List Run) (text context : List ℕ) where
    abbrev told : Marked
    told = told_within listing text context folder

    abbrev Seen : List Deed → Type 0
    Seen own = HaveSeen run p mail listing text context own

    -- a commit of sequences that it makes after its deeds
    module _ (old new : Marked) where
      abbrev pub Made : List Deed → Type 0
      Made own = Seen own × w.makes own listing told new

      made_kept : KeptBy AnyStep Made
      made_kept own s a any f = (seen_kept run p mail listing text context own s a tt f.0, w.makes_kept listing told new own s a tt f.1)

      -- these are the sequences
      abbrev JustThese : Answering
      JustThese = record { makes = λ l m x. (l ≡ listing) × (m ≡ told) × (x ≡ new); refuses = λ l m r. ⊥ }

      made_at : (l : List Run) (m x : Marked) (own : List Deed) → (l ≡ listing) × (m ≡ told) × (x ≡ new) → w.makes own listing told new → w.makes own l m x
      made_at l m x own same f =
          subst (λ z. w.makes own z m x) (sym same.0) (subst (λ z. w.makes own listing z x) (sym same.1) (subst (λ z. w.makes own listing told z) (sym same.2) f))

      long_shows : (l : ℕ) (own : List Deed) → Made own → IsTooLong run path folder JustThese l own → Shows (too_large l) own
      long_shows l own made (inl f) = w.shows_end (too_large l) own (refl, inl f)
      long_shows l own made (inr (inl f)) = w.shows_end (too_large l) own (refl, inr (inl f))
      long_shows l own made (inr (inr (inl f))) = by f.made
        where
          by : (f.new ≡ told_within f.listing f.text f.context folder) ⊎ ((f.listing ≡ listing) × (told_within f.listing f.text f.context folder ≡ told) × (f.new ≡ new)) → Shows (too_large l) own
          by (inl same) = w.shows_end (too_large l) own (refl, inr (inr (inl (record { listing = f.listing; text = f.text; context = f.context; seen = f.seen; new = f.new; made = inl same; long = f.long }))))
          by (inr same) = w.shows_long l f.listing f.text f.context f.new own f.seen (made_at f.listing (told_within f.listing f.text f.context folder) f.new own same made.1) f.long
      long_shows l own made (inr (inr (inr f))) = w.shows_end (too_large l) own (refl, inr (inr (inr f)))

      commit_shows : (e : PlanFault) (own : List Deed) → Made own → ShowsInFolder run path folder JustThese e own → Shows (of_plan folder e) own
      commit_shows plan.Faulted own made f = absurd f
      commit_shows (plan.Locked q) own made f = w.shows_end (command.Locked q) own f
      commit_shows (plan.Meddled q x) own made f = w.shows_end (command.Meddled q x) own f
      commit_shows plan.Full own made f = absurd f
      commit_shows (plan.Absent q) own made f = w.shows_end (of_plan folder (plan.Absent q)) own (refl, f.1)
      commit_shows (plan.TooLarge l) own made f = long_shows l own made f
      commit_shows plan.Memory own made f = w.shows_end command.Memory own tt

      abbrev pub Committed : Outcome Unit
      Committed later j u = Made later × Left run few path folder Answers later j

      pub commit_comes : (own : List Deed) (h : Hand) → Made own → WasDone (step.Lock p) own → Left run few path folder Answers own h → Comes own h (changed_sequences run p mail folder old new) (Plainly Committed)
      commit_comes own h made lock left =
          comes_more own h (changed_sequences run p mail folder old new) (λ later j r. Made later × Shown run path folder JustThese (λ last i u. Left run few path folder JustThese last i) later j r) (Plainly Committed) go
          (comes_framed AnyStep Made made_kept own h (changed_sequences run p mail folder old new) (Shown run path folder JustThese (λ last i u. Left run few path folder JustThese last i)) (asks_any (changed_sequences run p mail folder old new)) made
          (changed_comes run few path folder JustThese listing text context new (inr (refl, refl, refl)) old own h made.0 lock (record { clean = left.clean; safe = left.safe })))
        where
          go : (later : List Deed) (j : Hand) (r : Result Unit PlanFault) → Made later × Shown run path folder JustThese (λ last i u. Left run few path folder JustThese last i) later j r → Plainly Committed later j r
          go later j (Ok u) q = (q.0, record { clean = q.1.clean; safe = q.1.safe })
          go later j (Err e) q = commit_shows e later q.0 q.1

    -- the first takes no number away
    module _ (numbers : List ℕ) (good : AreMsgNums numbers) (new : Marked) where
      abbrev pub AllMet : List Deed → Type 0
      AllMet own = (k : ℕ) → is_in k numbers ≡ true → HasMetIn p (entry_text (Number k)) own

      abbrev any_piece : List Deed → List ℕ → Type 0
      any_piece own piece = Unit {0}

      abbrev any_step : List Deed → Step → Type 0
      any_step own s = Unit {0}

      lets_begin : LetsBegin path folder (Marking path folder) any_step
      lets_begin = record {
        kinds = λ own kind s k. k;
        makes = λ own q. tt;
        creates = λ own q temp bytes. tt;
        clears = λ own q temp is. tt;
        gives = λ own q held number is. tt;
        drops = λ own q held is away. tt;
        commits = λ own q temp name is. tt;
      }

      abbrev marking : Pledge
      marking = folder_pledge run path folder (λ own. (JustThese told new).makes) (Marking path folder) any_piece any_step

      is_a_number : (n : ℕ) → IsMsgNum n → is_number (kind_of (entry_text (Number n))) ≡ true
      is_a_number n ok = rw (kind_of-entry_text (Number n) ok) refl

      met_on : (own : List Deed) (s : Step) (a : Answer) → MayAsk marking own s → AllMet own → AllMet (did s a ∷ own)
      met_on own s a may f k i = still (λ t. takes_none run path folder own s a p (entry_text (Number k)) may.is_own (is_a_number k (in_good numbers good k i)) t) (f k i)

      pub first_comes : (own : List Deed) (h : Hand) → Made told new own → AllMet own → HasLock p own → WasDone (step.Lock p) own → (base : List ℕ) → IsBase run p sequences_name base own → Left run few path folder Answers own h
          → Comes own h (changed_sequences run p mail folder told new) (Plainly (λ later j u. AllMet later × Committed told new later j u))
      first_comes own h made met lock was base is left =
          comes_more own h (changed_sequences run p mail folder told new) (λ later j r. AllMet later × Plainly (Committed told new) later j r) (Plainly (λ later j u. AllMet later × Committed told new later j u)) go
          (comes_asked marking AllMet met_on own h (changed_sequences run p mail folder told new) (okay (Ended own)) (Plainly (Committed told new)) (record { numbered = left.clean.numbered; unfailed = left.clean.unfailed })
          (sequences_goes run few path folder (λ x. (JustThese told new).makes) (Marking path folder) any_piece any_step lets_begin (whenever (JustThese told new).makes) own h listing text context new (inr (refl, refl, refl)) made.0 lock base is) met
          (commit_comes told new own h made was left))
        where
          Ended : List Deed → Outcome Unit
          Ended before later j u = HaveSeen run p mail listing text context later × (AreSettled before → AreSettled later)

          go : (later : List Deed) (j : Hand) (r : Result Unit PlanFault) → AllMet later × Plainly (Committed told new) later j r → Plainly (λ last i u. AllMet last × Committed told new last i u) later j r
          go later j (Ok u) q = q
          go later j (Err e) q = q.1

  -- beside a fact that each step keeps
  pub beside : {A : Type 0} (K : List Deed → Type 0) → KeptBy AnyStep K → (own : List Deed) (h : Hand) (q : Planned A) (P : Outcome A) → K own → Comes own h q (Plainly P) → Comes own h q (Plainly (λ later j a. K later × P later j a))
  beside {A = A} K keeps own h q P k f = comes_more own h q (λ later j r. K later × Plainly P later j r) (Plainly (λ later j a. K later × P later j a)) go (comes_framed AnyStep K keeps own h q (Plainly P) (asks_any q) k f)
    where
      go : (later : List Deed) (j : Hand) (r : Result A PlanFault) → K later × Plainly P later j r → Plainly (λ last_ i a. K last_ × P last_ i a) later j r
      go later j (Ok a) g = g
      go later j (Err e) g = g.1

  module _ (listing : List Run) (text context : List ℕ) where
    -- the last number is taken: the run listed a message there, or linked or met one there
    abbrev pub Top : List Deed → Type 0
    Top later = (HaveSeen run p mail listing text context later × (has listing 999999 ≡ true)) ⊎ HasMetAt p 999999 later

    pub top_kept : KeptBy AnyStep Top
    top_kept later t a any (inl f) = inl (seen_kept run p mail listing text context later t a tt f.0, f.1)
    top_kept later t a any (inr f) = inr (on f)

    pub top_met : (later : List Deed) → HasMetAt p 999999 later → Top later
    top_met later f = inr f

    shows_top : (later : List Deed) → Top later → Shows (of_plan folder plan.Full) later
    shows_top later (inl f) = w.shows_left listing text context later f.0 f.1
    shows_top later (inr f) = w.shows_met later f

    pub moves_show : (e : PlanFault) (later : List Deed) → moving.ShowsMoved run few path folder Top top_kept top_met e later → Shows (of_plan folder e) later
    moves_show plan.Faulted later f = absurd f
    moves_show (plan.Locked q) later f = absurd f
    moves_show (plan.Meddled q x) later f = w.shows_end (command.Meddled q x) later f
    moves_show plan.Full later f = shows_top later f
    moves_show (plan.Absent q) later f = absurd f
    moves_show (plan.TooLarge l) later f = absurd f
    moves_show plan.Memory later f = absurd f
