-- What comes of reading messages, and of saying their rows.
use Rattle.std.proofs.Common.{◌≡◌, ◌++◌, ◌∷◌, [], ℕ, true, List, Option, Some, None, Result, Ok, Err, refl, sym, ◌∙◌, ap, append_assoc, append-nil}
use Rattle.std.specs.List.{flat_map}
use Rattle.mh_profile.specs.declared.named_value.NamedValue.{NamedValue}
use Rattle.msg_ranges.proofs.Rising.{lists, first_listed, other_listed}
use Rattle.folder_files.specs.Deeds.{Deed, did}
use Rattle.folder_files.specs.declared.place.Place.{Place}
use Rattle.folder_files.specs.declared.place.Place.TheVariants.{Folder}
use Rattle.folder_files.specs.declared.step.Answer.TheVariants as answer
use Rattle.folder_files.specs.declared.step.Step.TheVariants as step
use Rattle.file_plans.specs.Plan.{Hand}
use Rattle.step_plans.specs.CommandFaults.{of_stop}
use Rattle.step_plans.specs.ContextCommit.{LIMIT_BYTES}
use Rattle.step_plans.specs.declared.command_fault.CommandFault.{CommandFault}
use Rattle.step_plans.specs.declared.command_fault.CommandFault.TheVariants as fault
use Rattle.step_plans.proofs.Coming.{Comes, comes_more, comes_read, comes_then, comes_to}
use Rattle.step_plans.proofs.Going.{Outcome}
use Rattle.command_stages.specs.Texts.{too_large}
use Rattle.mh_looks.proofs.Ending.{comes_at, name_of}
use Rattle.told_folders.proofs.ChangesEnd.{lines_come}
use Rattle.told_folders.specs.Outcomes.{joined}
use Rattle.part_rows.specs.Choices.{first_missing}
use Rattle.part_rows.specs.PartViews.{parts_of}
use Rattle.part_rows.specs.Rows.{header, rows_of}
use Rattle.mhlist_plans.specs.ListAnswers.{AreWhole, HasJustRead, IsWhole, ReadMessage, after_reading, numbers_in, reading_of, told_of}
use Rattle.mhlist_plans.specs.Listing.{all_listed, listed_by, no_part, one_listed, said_unless}
use Rattle.mhlist_plans.specs.declared.job.ListJob.{ListJob}
use Rattle.told_folders.proofs.MessagesStand.{reading}

-- what each reading keeps, all of them keep
pub reading_kept : (place : Place) (F : List Deed → Type 0) → ((own : List Deed) (n : ℕ) (text : List ℕ) → F own → F (reading place n (answer.Content text) ∷ own)) → (ms : List ReadMessage) (own : List Deed) → F own → F (after_reading place ms own)
reading_kept place F keeps [] own f = f
reading_kept place F keeps (m ∷ ms) own f = reading_kept place F keeps ms (reading_of place m ∷ own) (keeps own m.number m.text f)

module _ (place : Place) (wanted : List (List ℕ)) where
  -- these messages were read after these deeds, and each has the parts that are wanted
  pub record AreRead (ns : List ℕ) (own later : List Deed) : Type 0 where
    pub messages : List ReadMessage
    pub read : later ≡ after_reading place messages own
    pub numbers : numbers_in messages ≡ ns
    pub whole : AreWhole wanted messages

  -- a message ends it that is too long, is gone, or lacks a part
  pub data Stopped (ns : List ℕ) (own : List Deed) : CommandFault → List Deed → Type 0 where
    too_long : (n l : ℕ) (ms : List ReadMessage) → Stopped ns own (too_large l) (reading place n (answer.Long l) ∷ after_reading place ms own)
    is_gone : (n : ℕ) (ms : List ReadMessage) → lists ns n ≡ true → Stopped ns own (fault.Meddled place (name_of n)) (reading place n answer.Gone ∷ after_reading place ms own)
    lacks : (ms : List ReadMessage) (m : ReadMessage) (left part : List ℕ) → numbers_in ms ++ m.number ∷ left ≡ ns → AreWhole wanted ms → first_missing wanted (parts_of m.text) ≡ Some part
        → Stopped ns own (no_part part) (reading_of place m ∷ after_reading place ms own)

  later_stopped : (n : ℕ) (text ns : List ℕ) (own : List Deed) (e : CommandFault) (later : List Deed) → IsWhole wanted text → Stopped ns (reading place n (answer.Content text) ∷ own) e later → Stopped (n ∷ ns) own e later
  later_stopped n text ns own _ _ whole (too_long k l ms) = too_long k l (record { number = n; text = text } ∷ ms)
  later_stopped n text ns own _ _ whole (is_gone k ms is) = is_gone k (record { number = n; text = text } ∷ ms) (other_listed n k ns is)
  later_stopped n text ns own _ _ whole (lacks ms m left part is all missing) = lacks (record { number = n; text = text } ∷ ms) m left part (ap (λ z. n ∷ z) is) (whole, all) missing

  -- one message of these
  abbrev One : ℕ → List ℕ → List Deed → Hand → Outcome (Result Unit CommandFault)
  One n ns own h later j (Ok u) = (text : List ℕ) × IsWhole wanted text × (later ≡ reading place n (answer.Content text) ∷ own) × (j ≡ h)
  One n ns own h later j (Err e) = Stopped (n ∷ ns) own e later

  abbrev pub All : List ℕ → List Deed → Hand → Outcome (Result Unit CommandFault)
  All ns own h later j (Ok u) = AreRead ns own later × (j ≡ h)
  All ns own h later j (Err e) = Stopped ns own e later

  said_comes : (n : ℕ) (ns : List ℕ) (own : List Deed) (h : Hand) (text : List ℕ) (missing : Option (List ℕ)) → first_missing wanted (parts_of text) ≡ missing → Comes (reading place n (answer.Content text) ∷ own) h (said_unless wanted n text missing) (One n ns own h)
  said_comes n ns own h text None is = lines_come (reading place n (answer.Content text) ∷ own) h (One n ns own h) (text, is, refl, refl) (rows_of n wanted text)
  said_comes n ns own h text (Some part) is = comes_to (reading place n (answer.Content text) ∷ own) h (Err (no_part part)) (One n ns own h) (lacks [] (record { number = n; text = text }) ns part refl tt is)

  one_comes : (n : ℕ) (ns : List ℕ) (own : List Deed) (h : Hand) → Comes own h (one_listed wanted place n) (One n ns own h)
  unfolding one_listed
  one_comes n ns own h =
      comes_read own h of_stop (One n ns own h) place (name_of n) LIMIT_BYTES (listed_by wanted place n)
      (λ text. said_comes n ns own h text (first_missing wanted (parts_of text)) refl)
      (λ l. comes_to _ h (Err (too_large l)) (One n ns own h) (too_long n l []))
      (comes_to _ h (Err (fault.Meddled place (name_of n))) (One n ns own h) (is_gone n [] (first_listed n ns)))

  pub all_comes : (ns : List ℕ) (own : List Deed) (h : Hand) → Comes own h (all_listed wanted place ns) (All ns own h)
  unfolding all_listed
  all_comes [] own h = comes_to own h (Ok tt) (All [] own h) (record { messages = []; read = refl; numbers = refl; whole = tt }, refl)
  all_comes (n ∷ ns) own h =
      comes_then own h (one_listed wanted place n) (λ listed. all_listed wanted place ns) (One n ns own h) (All (n ∷ ns) own h) (one_comes n ns own h)
      (λ later j u q. comes_at later (reading place n (answer.Content q.0) ∷ own) j h (all_listed wanted place ns) (All (n ∷ ns) own h) q.2 q.3
      (comes_more (reading place n (answer.Content q.0) ∷ own) h (all_listed wanted place ns) (All ns (reading place n (answer.Content q.0) ∷ own) h) (All (n ∷ ns) own h) (more q.0 q.1) (all_comes ns (reading place n (answer.Content q.0) ∷ own) h)))
      (λ later j e q. q)
    where
      more : (text : List ℕ) → IsWhole wanted text → (later : List Deed) (j : Hand) (r : Result Unit CommandFault) → All ns (reading place n (answer.Content text) ∷ own) h later j r → All (n ∷ ns) own h later j r
      more text whole later j (Ok u) q = let t = q.0 in (record { messages = record { number = n; text = text } ∷ t.messages; read = t.read; numbers = ap (λ z. n ∷ z) t.numbers; whole = (whole, t.whole) }, q.1)
      more text whole later j (Err e) q = later_stopped n text ns own e later whole q

-- one message more
pub numbers_more : (ms : List ReadMessage) (m : ReadMessage) (left : List ℕ) → numbers_in (ms ++ m ∷ []) ++ left ≡ numbers_in ms ++ m.number ∷ left
numbers_more [] m left = refl
numbers_more (k ∷ ms) m left = ap (λ z. k.number ∷ z) (numbers_more ms m left)

reading_more : (place : Place) (ms : List ReadMessage) (m : ReadMessage) (own : List Deed) → after_reading place (ms ++ m ∷ []) own ≡ reading_of place m ∷ after_reading place ms own
reading_more place [] m own = refl
reading_more place (k ∷ ms) m own = reading_more place ms m (reading_of place k ∷ own)

pub whole_more : (wanted : List (List ℕ)) (ms : List ReadMessage) (m : ReadMessage) → AreWhole wanted ms → IsWhole wanted m.text → AreWhole wanted (ms ++ m ∷ [])
whole_more wanted [] m all whole = (whole, tt)
whole_more wanted (k ∷ ms) m all whole = (all.0, whole_more wanted ms m all.1 whole)

pub just_more : (path : List ℕ) (job : ListJob) (entries : List NamedValue) (ms : List ReadMessage) (m : ReadMessage) (left : List ℕ) (own : List Deed) → IsWhole job.parts m.text → HasJustRead path job entries ms (m.number ∷ left) own
    → HasJustRead path job entries (ms ++ m ∷ []) left (reading_of (Folder path job.folder) m ∷ own)
just_more path job entries ms m left own whole f = record {
  names = f.names;
  text = f.text;
  reading = f.reading;
  older = f.older;
  seen = ap (λ z. reading_of (Folder path job.folder) m ∷ z) f.seen ∙ sym (reading_more (Folder path job.folder) ms m (f.reading ∷ did (step.List (Folder path job.folder)) (answer.Names f.names) ∷ f.older));
  told = f.told;
  chosen = f.chosen ∙ ap (λ z. Ok z) (sym (numbers_more ms m left));
  whole = whole_more job.parts ms m f.whole whole;
}

rows_more : (f : ReadMessage → List ℕ) (ms : List ReadMessage) (m : ReadMessage) → flat_map f (ms ++ m ∷ []) ≡ flat_map f ms ++ f m
rows_more f [] m = append-nil (f m)
rows_more f (k ∷ ms) m = ap (λ z. f k ++ z) (rows_more f ms m) ∙ sym (append_assoc (f k) (flat_map f ms) (f m))

-- its rows come behind the others
pub told_more : (wanted : List (List ℕ)) (ms : List ReadMessage) (m : ReadMessage) → told_of wanted (ms ++ m ∷ []) ≡ told_of wanted ms ++ joined (rows_of m.number wanted m.text)
told_more wanted ms m =
    ap (λ z. header ++ z) (rows_more (λ k. joined (rows_of k.number wanted k.text)) ms m)
    ∙ sym (append_assoc header (flat_map (λ k. joined (rows_of k.number wanted k.text)) ms) (joined (rows_of m.number wanted m.text)))
