-- What a run has read and stored so far, and what a further message or file makes of it.
use Rattle.std.proofs.Common.{◌≡◌, ◌++◌, ◌∷◌, [], ℕ, List, Ok, refl, sym, ◌∙◌, ap, subst, append_assoc, append-nil}
use Rattle.mh_profile.specs.declared.named_value.NamedValue.{NamedValue}
use Rattle.folder_files.specs.Deeds.{Deed, Once, did, now}
use Rattle.folder_files.specs.declared.place.Place.{Place}
use Rattle.folder_files.specs.declared.place.Place.TheVariants.{Folder}
use Rattle.file_plans.proofs.Framing.{AnyStep}
use Rattle.step_plans.proofs.Lasting.{KeptBy}
use Rattle.part_rows.specs.FileNames.{StoredFile, files_of}
use Rattle.told_folders.proofs.FrontSays.{behind}
use Rattle.mhlist_plans.specs.ListAnswers.{IsWhole, ReadMessage, reading_of}
use Rattle.mhlist_plans.proofs.MessagesRead.{numbers_more, whole_more}
use Rattle.mhstore_plans.specs.StoreAnswers.{AreRead, AreStored, HasStored, files_in, lines_of}
use Rattle.mhstore_plans.specs.StorePledge.{HasStoredAs}
use Rattle.mhstore_plans.specs.declared.job.StoreJob.{StoreJob}

pub read_behind : (place : Place) (ms : List ReadMessage) (newer own : List Deed) → AreRead place ms own → AreRead place ms (newer ++ own)
read_behind place [] newer own f = tt
read_behind place (m ∷ ms) newer own f = (behind (λ d older. d ≡ reading_of place m) newer own f.0, read_behind place ms newer own f.1)

pub stored_behind : (run : ℕ) (fs : List StoredFile) (newer own : List Deed) → AreStored run fs own → AreStored run fs (newer ++ own)
stored_behind run [] newer own f = tt
stored_behind run (x ∷ fs) newer own f = (behind _ newer own f.0, stored_behind run fs newer own f.1)

read_more : (place : Place) (ms : List ReadMessage) (m : ReadMessage) (own : List Deed) → AreRead place ms own → Once (λ d older. d ≡ reading_of place m) own → AreRead place (ms ++ m ∷ []) own
read_more place [] m own f g = (g, tt)
read_more place (k ∷ ms) m own f g = (f.0, read_more place ms m own f.1 g)

stored_more : (run : ℕ) (fs : List StoredFile) (x : StoredFile) (own : List Deed) → AreStored run fs own → HasStoredAs run x.name x.content own → AreStored run (fs ++ x ∷ []) own
stored_more run [] x own f g = (g, tt)
stored_more run (k ∷ fs) x own f g = (f.0, stored_more run fs x own f.1 g)

pub files_more : (wanted : List (List ℕ)) (ms : List ReadMessage) (m : ReadMessage) → files_in wanted (ms ++ m ∷ []) ≡ files_in wanted ms ++ files_of m.number wanted m.text
files_more wanted [] m = append-nil (files_of m.number wanted m.text)
files_more wanted (k ∷ ms) m = ap (λ z. files_of k.number wanted k.text ++ z) (files_more wanted ms m) ∙ sym (append_assoc (files_of k.number wanted k.text) (files_in wanted ms) (files_of m.number wanted m.text))

pub lines_more : (fs : List StoredFile) (x : StoredFile) → lines_of (fs ++ x ∷ []) ≡ lines_of fs ++ x.line
lines_more [] x = append-nil x.line
lines_more (k ∷ fs) x = ap (λ z. k.line ++ z) (lines_more fs x) ∙ sym (append_assoc k.line (lines_of fs) x.line)

module _ (run : ℕ) (path : List ℕ) (job : StoreJob) (entries : List NamedValue) where
  abbrev place : Place
  place = Folder path job.folder

  abbrev pub Stored : List ReadMessage → List ℕ → List StoredFile → List StoredFile → List Deed → Type 0
  Stored messages left files rest own = HasStored run path job entries messages left files rest own

  -- after further deeds
  pub further : (messages : List ReadMessage) (left : List ℕ) (files rest : List StoredFile) (newer own : List Deed) → Stored messages left files rest own → Stored messages left files rest (newer ++ own)
  further messages left files rest newer own s = record {
    names = s.names;
    text = s.text;
    reading = s.reading;
    newer = newer ++ s.newer;
    older = s.older;
    seen = ap (λ z. newer ++ z) s.seen ∙ sym (append_assoc newer s.newer _);
    told = s.told;
    chosen = s.chosen;
    whole = s.whole;
    read = read_behind place messages newer s.newer s.read;
    all = s.all;
    stored = stored_behind run files newer s.newer s.stored;
  }

  pub kept : (messages : List ReadMessage) (left : List ℕ) (files rest : List StoredFile) → KeptBy AnyStep (Stored messages left files rest)
  kept messages left files rest own s a any f = further messages left files rest (did s a ∷ []) own f

  -- after the next file was stored
  pub file_more : (messages : List ReadMessage) (left : List ℕ) (files : List StoredFile) (x : StoredFile) (rest : List StoredFile) (newer own : List Deed) → ((base : List Deed) → HasStoredAs run x.name x.content (newer ++ base)) → Stored messages left files (x ∷ rest) own
      → Stored messages left (files ++ x ∷ []) rest (newer ++ own)
  file_more messages left files x rest newer own by s = record {
    names = s.names;
    text = s.text;
    reading = s.reading;
    newer = newer ++ s.newer;
    older = s.older;
    seen = ap (λ z. newer ++ z) s.seen ∙ sym (append_assoc newer s.newer _);
    told = s.told;
    chosen = s.chosen;
    whole = s.whole;
    read = read_behind place messages newer s.newer s.read;
    all = s.all ∙ sym (append_assoc files (x ∷ []) rest);
    stored = stored_more run files x (newer ++ s.newer) (stored_behind run files newer s.newer s.stored) (by s.newer);
  }

  -- after the next message was read
  pub message_more : (messages : List ReadMessage) (m : ReadMessage) (left : List ℕ) (own : List Deed) → IsWhole job.parts m.text → Stored messages (m.number ∷ left) (files_in job.parts messages) [] own
      → Stored (messages ++ m ∷ []) left (files_in job.parts messages) (files_of m.number job.parts m.text) (reading_of place m ∷ own)
  message_more messages m left own whole s = record {
    names = s.names;
    text = s.text;
    reading = s.reading;
    newer = reading_of place m ∷ s.newer;
    older = s.older;
    seen = ap (λ z. reading_of place m ∷ z) s.seen;
    told = s.told;
    chosen = s.chosen ∙ ap (λ z. Ok z) (sym (numbers_more messages m left));
    whole = whole_more job.parts messages m s.whole whole;
    read = read_more place messages m (reading_of place m ∷ s.newer) (read_behind place messages (reading_of place m ∷ []) s.newer s.read) (now refl);
    all = files_more job.parts messages m;
    stored = stored_behind run (files_in job.parts messages) (reading_of place m ∷ []) s.newer s.stored;
  }

  -- all files that there are so far were stored
  pub all_files : (messages : List ReadMessage) (left : List ℕ) (files : List StoredFile) (own : List Deed) → Stored messages left files [] own → Stored messages left (files_in job.parts messages) [] own
  all_files messages left files own s = let same : files ≡ files_in job.parts messages = sym (append-nil files) ∙ sym s.all in subst (λ fs. Stored messages left fs [] own) same s
