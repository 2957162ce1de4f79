-- How `mhstore` ends, and what shows it.
use Rattle.std.proofs.Common.{◌≡◌, ◌⊎◌, inl, inr, ◌<◌, ◌^◌, ◌++◌, ◌∷◌, [], ℕ, Bool, true, false, List, Option, Some, None, Result, Ok, Err, refl, sym, subst}
use Rattle.mh_base.specs.Entries.{entry_text}
use Rattle.mh_base.specs.declared.entry.Entry.TheVariants.{Sequences}
use Rattle.mh_profile.specs.declared.named_value.NamedValue.{NamedValue}
use Rattle.mh_sequences.specs.Runs.{numbers_of}
use Rattle.mh_sequences.specs.Sequences.{Marked}
use Rattle.msg_ranges.specs.Selection.{marks_of}
use Rattle.msg_ranges.proofs.Rising.{lists, first_listed, other_listed}
use Rattle.folder_files.specs.Deeds.{Deed, did, last}
use Rattle.folder_files.specs.declared.place.Place.{Place}
use Rattle.folder_files.specs.declared.place.Place.TheVariants.{Folder, Mail}
use Rattle.folder_files.specs.declared.refusal.Refusal.{Refusal}
use Rattle.folder_files.specs.declared.refusal.Refusal.TheVariants as refusal
use Rattle.folder_files.specs.declared.step.Answer.{Answer}
use Rattle.folder_files.specs.declared.step.Answer.TheVariants as answer
use Rattle.folder_files.specs.declared.step.Step.TheVariants as step
use Rattle.file_plans.specs.Plan.{Hand, Plan, Return, lifted, ◌>>=◌}
use Rattle.file_plans.specs.Sightings.{has_number}
use Rattle.step_plans.specs.CommandFaults.{of_stop}
use Rattle.step_plans.specs.ContextCommit.{LIMIT_BYTES, commit_context}
use Rattle.step_plans.specs.Endings.{HasMet, ShowsPlanFault, name_gone}
use Rattle.step_plans.specs.declared.command_fault.CommandFault.{CommandFault}
use Rattle.step_plans.specs.declared.command_fault.CommandFault.TheVariants as fault
use Rattle.step_plans.specs.declared.fault.PlanFault.{PlanFault}
use Rattle.step_plans.specs.declared.fault.PlanFault.TheVariants as plan
use Rattle.step_plans.proofs.Coming.{Comes, comes_lifted, comes_more, comes_read, comes_then, comes_to}
use Rattle.step_plans.proofs.Ending.{CommitEnds, commit_comes}
use Rattle.step_plans.proofs.Going.{Outcome}
use Rattle.command_stages.specs.Chosen.{folder_with}
use Rattle.command_stages.specs.Current.{current_change, made_current}
use Rattle.command_stages.specs.Endings.{of_plan}
use Rattle.command_stages.specs.Texts.{too_large}
use Rattle.mh_looks.proofs.Ending.{ScanShows, absent, bad_spec, by_choice, empty_range, empty_sequence, held, long_file, long_text, meddled, name_of, no_folder, listed_text}
use Rattle.opening_plans.specs.Reads.{TellsText}
use Rattle.opening_plans.proofs.ChosenListed.{has_tested, words_listed}
use Rattle.opening_plans.proofs.CleanRuns.{Clean, clean_more, never_made}
use Rattle.opening_plans.proofs.NamesKept.{met_kept}
use Rattle.told_folders.specs.Tasks.{listed_runs, sequences_listed}
use Rattle.part_rows.specs.Choices.{first_missing}
use Rattle.part_rows.specs.FileNames.{StoredFile, files_of}
use Rattle.part_rows.specs.PartViews.{parts_of}
use Rattle.part_rows.specs.PathTexts.{path_text}
use Rattle.mhlist_plans.specs.ListAnswers.{IsRefusedByListing, ReadMessage}
use Rattle.mhlist_plans.specs.Listing.{no_part}
use Rattle.told_folders.proofs.ChangesEnd.{lines_come}
use Rattle.told_folders.proofs.FrontComes.{after_both, after_list, front_comes, reading as reading_at}
use Rattle.mhstore_plans.specs.Files.{file_stored}
use Rattle.mhstore_plans.specs.StoreAnswers.{HasStored, IsNoStoring, MeetsFile, ShowsRefused, ShowsStoring, files_in, listing_of}
use Rattle.mhstore_plans.specs.Storing.{all_filed, all_stored, chosen_seen, filed_unless, mhstore, one_filed, one_stored, stored_by, told_by}
use Rattle.mhstore_plans.specs.declared.job.StoreJob.{StoreJob}
use Rattle.mhstore_plans.proofs.FileEnds.{ShowsHere, So, Stores, stores_come}
use Rattle.mhstore_plans.proofs.StoreStands.{Stored, all_files, file_more, further, message_more}
use Rattle.mh_profile.specs.Reading.{entries_seen}

module _ (run : ℕ) (few : run < 2 ^ 128) (mail : List ℕ) (job : StoreJob) (entries : List NamedValue) where
  abbrev place : Place
  place = Folder mail job.folder

  -- as a command that looks; or a part is missing, or a file is there; or as the storing of a file
  abbrev pub Shows : CommandFault → List Deed → Type 0
  Shows e own = ScanShows run mail job.folder e own ⊎ (IsNoStoring e ⊎ ShowsStoring run e own)

  abbrev pub Refuses : CommandFault → List Deed → Type 0
  Refuses e own = ShowsRefused run mail job entries e own

  -- and by what it read
  abbrev pub Both : CommandFault → List Deed → Type 0
  Both e own = Shows e own × Refuses e own

  abbrev HasStored_ : List ReadMessage → List ℕ → List StoredFile → List StoredFile → List Deed → Type 0
  HasStored_ messages left files rest own = Stored run mail job entries messages left files rest own

  -- where the run stands: these messages were read, and of their files these are to come; the names of the messages that are left were met
  record Stands (messages : List ReadMessage) (left : List ℕ) (files rest : List StoredFile) (own : List Deed) (j : Hand) : Type 0 where
    pub clean : Clean run own j
    pub stored : HasStored_ messages left files rest own
    pub met : (n : ℕ) → lists left n ≡ true → HasMet place (name_of n) own

  here_shows : (e : PlanFault) (own : List Deed) → ShowsHere run e own → Both (of_plan job.folder e) own
  here_shows plan.Faulted own s = absurd s
  here_shows (plan.Locked q) own s = absurd s
  here_shows (plan.Meddled q x) own s = (inr (inr s), tt)
  here_shows plan.Full own s = absurd s
  here_shows (plan.Absent q) own s = absurd s
  here_shows (plan.TooLarge l) own s = absurd s
  here_shows plan.Memory own s = (inr (inr tt), tt)

  -- one file
  module _ (messages : List ReadMessage) (left : List ℕ) (files : List StoredFile) (f : StoredFile) (rest : List StoredFile) (own : List Deed) (h : Hand) (s : Stands messages left files (f ∷ rest) own h) where
    abbrev One : Outcome (Result Unit CommandFault)
    One later j (Ok u) = Stands messages left (files ++ f ∷ []) rest later j
    One later j (Err e) = Both e later

    abbrev Free : Outcome (Result Bool CommandFault)
    Free later j (Ok b) = Stores run few f job.clobber own later j b
    Free later j (Err e) = Both e later

    told_comes : (later : List Deed) (j : Hand) (b : Bool) → Stores run few f job.clobber own later j b → Comes later j (told_by f.name f.line b) One
    told_comes later j true t = lines_come later j One (record { clean = t.0; stored = subst (HasStored_ messages left (files ++ f ∷ []) rest) (sym t.1.is) (file_more run mail job entries messages left files f rest t.1.newer own t.1.stored s.stored); met = λ n e. subst (HasMet place (name_of n)) (sym t.1.is) (t.1.apart place (name_of n) own refl (s.met n e)) }) (f.line ∷ [])
    told_comes later j false t = comes_to later j (Err (fault.Refused (refusal.WouldReplace f.name))) One (inr (inl (inr (f.name, refl))), meets)
      where
        meets : MeetsFile run mail job entries f.name later
        meets = record {
          messages = messages;
          left = left;
          files = files;
          next = f;
          rest = rest;
          before = t.2.newer ++ own;
          temp = t.2.temp;
          newest = t.2.is;
          stored = further run mail job entries messages left files (f ∷ rest) t.2.newer own s.stored;
          named = refl;
          stays = t.1;
        }

    one_comes : Comes own h (one_filed run job f) One
    unfolding one_filed
    one_comes =
        comes_then own h (lifted (of_plan job.folder) (file_stored run job.clobber f.name f.content)) (λ free. told_by f.name f.line free) Free One
        (comes_lifted own h (of_plan job.folder) (file_stored run job.clobber f.name f.content) (So run (Stores run few f job.clobber own)) Free (stores_come run few f own h s.clean job.clobber) (λ later j b t. t) (λ later j e t. here_shows e later t))
        told_comes (λ later j e t. t)

  -- the files that are to come
  abbrev Filed_ : List ReadMessage → List ℕ → Outcome (Result Unit CommandFault)
  Filed_ messages left later j (Ok u) = Stands messages left (files_in job.parts messages) [] later j
  Filed_ messages left later j (Err e) = Both e later

  files_come : (messages : List ReadMessage) (left : List ℕ) (files rest : List StoredFile) (own : List Deed) (h : Hand) → Stands messages left files rest own h → Comes own h (all_filed run job rest) (Filed_ messages left)
  unfolding all_filed
  files_come messages left files [] own h s = comes_to own h (Ok tt) (Filed_ messages left) (record { clean = s.clean; stored = all_files run mail job entries messages left files own s.stored; met = s.met })
  files_come messages left files (f ∷ rest) own h s =
      comes_then own h (one_filed run job f) (λ filed. all_filed run job rest) (One messages left files f rest own h s) (Filed_ messages left) (one_comes messages left files f rest own h s)
      (λ later j u t. files_come messages left (files ++ f ∷ []) rest later j t) (λ later j e t. t)

  -- one message
  module _ (messages : List ReadMessage) (n : ℕ) (left : List ℕ) (own : List Deed) (h : Hand) (s : Stands messages (n ∷ left) (files_in job.parts messages) [] own h) where
    abbrev m : List ℕ → ReadMessage
    m text = record { number = n; text = text }

    abbrev reading : Answer → List Deed
    reading a = did (step.Read place (name_of n) LIMIT_BYTES) a ∷ own

    abbrev Message : Outcome (Result Unit CommandFault)
    Message later j (Ok u) = (text : List ℕ) × Stands (messages ++ m text ∷ []) left (files_in job.parts (messages ++ m text ∷ [])) [] later j
    Message later j (Err e) = Both e later

    read_clean : (a : Answer) → (a ≡ answer.Failed → ⊥) → Clean run (reading a) h
    read_clean a live = clean_more run own h (step.Read place (name_of n) LIMIT_BYTES) a live tt s.clean

    parts_come : (text : List ℕ) (missing : Option (List ℕ)) → first_missing job.parts (parts_of text) ≡ missing → Comes (reading (answer.Content text)) h (filed_unless run job n text missing) Message
    parts_come text None is =
        comes_more (reading (answer.Content text)) h (filed_unless run job n text None) (Filed_ (messages ++ m text ∷ []) left) Message more
        (files_come (messages ++ m text ∷ []) left (files_in job.parts messages) (files_of n job.parts text) (reading (answer.Content text)) h (record {
          clean = read_clean (answer.Content text) (λ e. cc (e));
          stored = message_more run mail job entries messages (m text) left own is s.stored;
          met = λ k e. met_kept place (name_of k) (step.Read place (name_of n) LIMIT_BYTES) (answer.Content text) own (λ z. z) (s.met k (other_listed n k left e));
        }))
      where
        more : (later : List Deed) (j : Hand) (r : Result Unit CommandFault) → Filed_ (messages ++ m text ∷ []) left later j r → Message later j r
        more later j (Ok u) t = (text, t)
        more later j (Err e) t = t
    parts_come text (Some part) is =
        comes_to (reading (answer.Content text)) h (Err (no_part part)) Message
        (inr (inl (inl (path_text part, refl))), record { messages = messages; next = m text; left = left; before = own; newest = refl; stored = s.stored; part = part; missing = is; named = refl })

    message_comes : Comes own h (one_stored run job place n) Message
    unfolding one_stored
    message_comes =
        comes_read own h of_stop Message place (name_of n) LIMIT_BYTES (stored_by run job place n) (λ text. parts_come text (first_missing job.parts (parts_of text)) refl) (λ l. comes_to _ h (Err (too_large l)) Message (inl long_file, tt))
        (comes_to _ h (Err (fault.Meddled place (name_of n))) Message (inl (meddled (name_gone (inl (LIMIT_BYTES, refl)) (s.met n (first_listed n left)))), tt))

  -- the messages that are left
  abbrev pub All : Outcome (Result Unit CommandFault)
  All later j (Ok u) = Clean run later j
  All later j (Err e) = Both e later

  messages_come : (left : List ℕ) (messages : List ReadMessage) (own : List Deed) (h : Hand) → Stands messages left (files_in job.parts messages) [] own h → Comes own h (all_stored run job place left) All
  unfolding all_stored
  messages_come [] messages own h s = comes_to own h (Ok tt) All s.clean
  messages_come (n ∷ left) messages own h s =
      comes_then own h (one_stored run job place n) (λ done. all_stored run job place left) (Message messages n left own h s) All (message_comes messages n left own h s)
      (λ later j u t. messages_come left (messages ++ m messages n left own h s t.0 ∷ []) later j t.1) (λ later j e t. t)

  -- the folder becomes the current one
  abbrev Looks : Outcome (Result Unit CommandFault)
  Looks later j (Ok u) = Unit {0}
  Looks later j (Err e) = Both e later

  commit_shows : (h : Hand) (later : List Deed) (e : PlanFault) → ShowsPlanFault run (Mail mail) (current_change job.folder) h e later → Both (of_plan job.folder e) later
  commit_shows h later plan.Faulted q = absurd q
  commit_shows h later (plan.Locked q) f = (inl (subst (λ z. ScanShows run mail job.folder (fault.Locked z) later) (sym f.0) (held f.1)), tt)
  commit_shows h later (plan.Meddled q x) f = (inl (subst (λ z. ScanShows run mail job.folder (fault.Meddled z x) later) (sym f.0) (meddled f.1)), tt)
  commit_shows h later plan.Full q = absurd q
  commit_shows h later (plan.Absent q) f = absurd f
  commit_shows h later (plan.TooLarge l) (inl f) = (inl (subst (λ z. ScanShows run mail job.folder (too_large l) z) (sym f.1) long_file), tt)
  commit_shows h later (plan.TooLarge l) (inr f) = (inl (long_text f), tt)
  commit_shows h later plan.Memory e = (inr (inr tt), tt)

  current_comes : (own : List Deed) (h : Hand) → Clean run own h → Comes own h (made_current run mail job.folder) Looks
  unfolding made_current
  current_comes own h clean =
      comes_then own h _ (λ (done : Unit {0}). Return (Ok tt)) Looks Looks
      (comes_lifted own h (of_plan job.folder) (commit_context run (Mail mail) (current_change job.folder)) (CommitEnds run (Mail mail) (current_change job.folder) h) Looks
      (commit_comes run (Mail mail) (current_change job.folder) h own (never_made run h.next (Mail mail) own clean.few clean.numbered)) (λ later j u q. tt) (λ later j e q. commit_shows h later e q))
      (λ later j u q. comes_to later j (Ok tt) Looks tt) (λ later j e q. q)

module _ (run : ℕ) (few : run < 2 ^ 128) (mail : List ℕ) (job : StoreJob) (h : Hand) where
  abbrev at : Place
  at = Folder mail job.folder

  abbrev es : List NamedValue
  es = entries_seen h.context

  abbrev B : CommandFault → List Deed → Type 0
  B e own = Both run few mail job es e own

  -- how it ends
  abbrev pub Ends : Outcome (Result Unit CommandFault)
  Ends later j (Ok u) = Unit {0}
  Ends later j (Err e) = B e later

  module _ (names : List (List ℕ)) (text : List ℕ) (a : Answer) (older : List Deed) (told : TellsText at (entry_text Sequences) text (reading_at mail job.folder h a)) where
    abbrev own : List Deed
    own = after_both mail job.folder h names a older

    abbrev marked : Marked
    marked = sequences_listed names text es job.folder

    abbrev rest : List ℕ → Plan (Result Unit CommandFault)
    rest numbers = all_stored run job at numbers >>= (λ done. made_current run mail job.folder)

    first_stands : (numbers : List ℕ) → chosen_seen job names text es ≡ Ok numbers → HasStored run mail job es [] numbers [] [] own
    first_stands numbers is = record { names = names; text = text; reading = reading_at mail job.folder h a; newer = []; older = older; seen = refl; told = told; chosen = is; whole = tt; read = tt; all = refl; stored = tt }

    met : (numbers : List ℕ) → chosen_seen job names text es ≡ Ok numbers → (n : ℕ) → lists numbers n ≡ true → HasMet at (name_of n) own
    met numbers is n e =
        met_kept at (name_of n) (step.Read at (entry_text Sequences) LIMIT_BYTES) a (did (step.List at) (answer.Names names) ∷ older) (λ f. f)
        (last (inr (names, refl, listed_text n names (has_tested (λ k. has_number k names) n (words_listed job.negation (listed_runs names) marked job.specs numbers is n e)))))

    numbers_come : Clean run own h → (numbers : List ℕ) → chosen_seen job names text es ≡ Ok numbers → Comes own h (rest numbers) Ends
    numbers_come clean numbers is =
        comes_then own h (all_stored run job at numbers) (λ done. made_current run mail job.folder) (All run few mail job es) Ends
        (messages_come run few mail job es numbers [] own h (record { clean = clean; stored = first_stands numbers is; met = met numbers is }))
        (λ later j u c. comes_more later j (made_current run mail job.folder) (Looks run few mail job es) Ends (λ end i r q. ends end i r q) (current_comes run few mail job es later j c)) (λ later j e q. q)
      where
        ends : (end : List Deed) (i : Hand) (r : Result Unit CommandFault) → Looks run few mail job es end i r → Ends end i r
        ends end i (Ok u) q = tt
        ends end i (Err e) q = q

    by : (r : Refusal) → chosen_seen job names text es ≡ Err (fault.Refused r) → IsRefusedByListing mail (listing_of job) es r own
    by r is = record { names = names; text = text; reading = reading_at mail job.folder h a; older = older; newest = refl; told = told; refuses = is }

    stops : (e : CommandFault) → chosen_seen job names text es ≡ Err e → B e own
    stops e is =
        by_choice (λ z. chosen_seen job names text es ≡ Err z → B z own) (folder_with job.negation (numbers_of (listed_runs names)) (marks_of marked)) job.specs e is (λ word f. (inl bad_spec, by (refusal.BadSpec word) f))
        (λ word f. (inl absent, by (refusal.Absent word) f)) (λ word f. (inl empty_range, by (refusal.EmptyRange word) f)) (λ word f. (inl empty_sequence, by (refusal.EmptySequence word) f)) is

  pub clean_both : (names : List (List ℕ)) (a : Answer) (own : List Deed) → (a ≡ answer.Failed → ⊥) → Clean run own h → Clean run (after_both mail job.folder h names a own) h
  clean_both names a own live clean =
      clean_more run (after_list mail job.folder h names own) h (step.Read at (entry_text Sequences) LIMIT_BYTES) a live tt (clean_more run own h (step.List at) (answer.Names names) (λ e. cc (e)) tt clean)

  -- after deeds of which none failed
  pub store_comes : (own : List Deed) → Clean run own h → Comes own h (mhstore run mail job) Ends
  unfolding mhstore
  store_comes before clean =
      front_comes mail job.folder h (List ℕ) (chosen_seen job) (λ names numbers. all_stored run job at numbers >>= (λ done. made_current run mail job.folder)) Ends before
      (record {
        absent = (inl no_folder, tt);
        long = λ names l. (inl long_file, tt);
        stops = λ names text a told e is. stops names text a before told e is;
        goes = λ names text a told live numbers is. numbers_come names text a before told (clean_both names a before live clean) numbers is;
      })
