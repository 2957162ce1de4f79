-- How reading what a draft wants ends, and what shows it.
use Rattle.std.proofs.Common.{◌≡◌, inl, inr, ◌∷◌, ◌++◌, [], ℕ, true, List, Result, Ok, Err, refl, sym, ◌∙◌, ap, subst, append_assoc, append-nil}
use Rattle.mh_base.specs.Entries.{entry_text}
use Rattle.mh_base.specs.declared.entry.Entry.TheVariants.{Sequences}
use Rattle.mh_profile.specs.declared.named_value.NamedValue.{NamedValue}
use Rattle.mh_sequences.specs.Runs.{numbers_of}
use Rattle.mh_sequences.specs.Sequences.{Marked}
use Rattle.msg_ranges.specs.Selection.{marks_of}
use Rattle.msg_ranges.proofs.Rising.{lists, first_listed, other_listed}
use Rattle.folder_files.specs.Careful.{WasMade}
use Rattle.folder_files.specs.Deeds.{Deed, did, last, now}
use Rattle.folder_files.specs.declared.place.FilePath.{FilePath}
use Rattle.folder_files.specs.declared.place.Place.{Place}
use Rattle.folder_files.specs.declared.place.Place.TheVariants.{Folder}
use Rattle.folder_files.specs.declared.refusal.Refusal.{Refusal}
use Rattle.folder_files.specs.declared.refusal.Refusal.TheVariants as refusal
use Rattle.folder_files.specs.declared.step.Answer.{Answer}
use Rattle.folder_files.specs.declared.step.Answer.TheVariants as answer
use Rattle.folder_files.specs.declared.step.Step.{Step}
use Rattle.folder_files.specs.declared.step.Step.TheVariants as step
use Rattle.file_plans.specs.Asking.{read_file, reading_of}
use Rattle.file_plans.specs.Plan.{Hand, Recall, Return, ask, bind, lifted, ◌>>=◌}
use Rattle.file_plans.specs.Sightings.{has_number}
use Rattle.step_plans.specs.CommandFaults.{of_stop}
use Rattle.step_plans.specs.ContextCommit.{LIMIT_BYTES}
use Rattle.step_plans.specs.Endings.{HasMet}
use Rattle.step_plans.specs.declared.command_fault.CommandFault.{CommandFault}
use Rattle.step_plans.specs.declared.command_fault.CommandFault.TheVariants as fault
use Rattle.step_plans.proofs.Coming.{Comes, comes_list, comes_more, comes_on, comes_read, comes_stop, comes_then, comes_to}
use Rattle.step_plans.proofs.Ending.{unmade_more}
use Rattle.step_plans.proofs.Facts.{LeavesSettled}
use Rattle.step_plans.proofs.Going.{Outcome}
use Rattle.step_plans.proofs.Stepping.{on_read}
use Rattle.command_stages.specs.Chosen.{folder_with}
use Rattle.command_stages.specs.Listed.{folder_listed, names_by}
use Rattle.command_stages.specs.Texts.{text_by, text_read, too_large}
use Rattle.mh_looks.proofs.Ending.{by_choice, comes_at, comes_recall, name_of, listed_text}
use Rattle.opening_plans.specs.Reads.{TellsText}
use Rattle.opening_plans.proofs.ChosenListed.{has_tested, words_listed}
use Rattle.opening_plans.proofs.NamesKept.{met_kept}
use Rattle.told_folders.specs.Tasks.{listed_runs, sequences_listed}
use Rattle.mh_drafts.specs.declared.want.Want.{Want}
use Rattle.mh_drafts.specs.declared.want.Want.TheVariants as want
use Rattle.mhbuild_compose.specs.declared.given.Given.{Given}
use Rattle.mhbuild_compose.specs.declared.given.Given.TheVariants as given
use Rattle.draft_contents.specs.Files.{file_by, file_read}
use Rattle.draft_contents.specs.Forwards.{chosen_seen, folder_named, folder_word, specs_or_current}
use Rattle.draft_contents.specs.Messages.{message_by, message_read, messages_given, messages_read}
use Rattle.draft_contents.specs.NotGiven.{FileIsNotGiven, IsNotGiven, MessagesAreNotGiven, WantIsNotGiven, by_words, long_file, no_folder, not_there, taken_away, too_long}
use Rattle.draft_contents.specs.Shown.{HasReadFile, HasReadMessages, WasGiven}
use Rattle.draft_contents.specs.Wants.{all_given, file_given, forward_given, want_given}
use Rattle.draft_contents.specs.declared.forwarding.Forwarding.{Forwarding}
use Rattle.draft_contents.proofs.Shown.{Gave, Onto, Reads, once_onto, onto_more, onto_none, onto_one, was_onto}
use Rattle.mh_profile.specs.Reading.{entries_seen}

-- these deeds, and after them others that only look
pub record Looked (own later : List Deed) : Type 0 where
  pub onto : Onto own later
  pub unmade : (p : Place) (x : List ℕ) → (WasMade p x own → ⊥) → WasMade p x later → ⊥

looked_none : (own : List Deed) → Looked own own
looked_none own = record { onto = onto_none own; unmade = λ p x f. f }

looked_one : (own : List Deed) (s : Step) (a : Answer) → LeavesSettled s → ((p : Place) (x bytes : List ℕ) → s ≡ step.Create p x bytes → ⊥) → Looked own (did s a ∷ own)
looked_one own s a leaves other = record { onto = onto_one own s a leaves; unmade = λ p x f. unmade_more p x s a own (other p x) f }

looked_more : (own later last_ : List Deed) → Looked own later → Looked later last_ → Looked own last_
looked_more own later last_ f g = record { onto = onto_more own later last_ f.onto g.onto; unmade = λ p x k. g.unmade p x (f.unmade p x k) }

read_one : (own : List Deed) (p : Place) (x : List ℕ) (limit : ℕ) (a : Answer) → Looked own (did (step.Read p x limit) a ∷ own)
read_one own p x limit a = looked_one own (step.Read p x limit) a tt (λ q y b e. cc (e))

listed_one : (own : List Deed) (p : Place) (a : Answer) → Looked own (did (step.List p) a ∷ own)
listed_one own p a = looked_one own (step.List p) a tt (λ q y b e. cc (e))

module _ (path : List ℕ) (f : Forwarding) (h : Hand) where
  abbrev entries : List NamedValue
  entries = entries_seen h.context

  -- a file
  abbrev File : FilePath → List Deed → Outcome (Result (List ℕ) CommandFault)
  File file own later j (Ok bytes) = Looked own later × HasReadFile file bytes later × (j ≡ h)
  File file own later j (Err e) = Onto own later × FileIsNotGiven file e later

  file_comes : (own : List Deed) (file : FilePath) → Comes own h (file_read file) (File file own)
  unfolding Comes file_read read_file ask lifted bind ◌>>=◌
  file_comes own file =
      on_read (λ a. Comes (did (step.ReadFile file LIMIT_BYTES) a ∷ own) h (file_by file (reading_of a)) (File file own)) (λ bytes. (looked_one own (step.ReadFile file LIMIT_BYTES) (answer.Content bytes) tt (λ p x b e. cc (e)), now refl, refl)) (λ l. (onto_one own _ _ tt, too_long))
      (onto_one own _ _ tt, not_there)

  module _ (folder : List ℕ) (specs : List (List ℕ)) where
    abbrev place : Place
    place = Folder path folder

    abbrev Stops : List Deed → CommandFault → List Deed → Type 0
    Stops own e later = Onto own later × MessagesAreNotGiven f.negation folder specs entries place e later

    -- after more was done before
    stops_more : (own later last_ : List Deed) (e : CommandFault) → Onto own later → Stops later e last_ → Stops own e last_
    stops_more own later last_ e o s = (onto_more own later last_ o s.0, s.1)

    -- a message
    abbrev reads : ℕ → List ℕ → Deed
    reads n message = did (step.Read place (name_of n) LIMIT_BYTES) (answer.Content message)

    abbrev One : ℕ → List Deed → Outcome (Result (List ℕ) CommandFault)
    One n own later j (Ok message) = (later ≡ reads n message ∷ own) × (j ≡ h)
    One n own later j (Err e) = Stops own e later

    one_comes : (n : ℕ) (own : List Deed) → HasMet place (name_of n) own → Comes own h (message_read place n) (One n own)
    unfolding message_read
    one_comes n own met =
        comes_read own h of_stop (One n own) place (name_of n) LIMIT_BYTES (message_by place n) (λ bytes. comes_to _ h (Ok bytes) (One n own) (refl, refl))
        (λ l. comes_to _ h (Err (too_large l)) (One n own) (onto_one own _ _ tt, long_file)) (comes_to _ h (Err (fault.Meddled place (name_of n))) (One n own) (onto_one own _ _ tt, taken_away n met))

    -- the run has met each of these
    abbrev AreMet : List ℕ → List Deed → Type 0
    AreMet ns own = (n : ℕ) → lists ns n ≡ true → HasMet place (name_of n) own

    met_more : (ns x : List ℕ) (a : Answer) (own : List Deed) → AreMet ns own → AreMet ns (did (step.Read place x LIMIT_BYTES) a ∷ own)
    met_more ns x a own met n e = met_kept place (name_of n) (step.Read place x LIMIT_BYTES) a own (λ z. z) (met n e)

    abbrev All : List (List ℕ) → List Deed → Outcome (Result (List (List ℕ)) CommandFault)
    All before own later j (Ok all) = Reads place before own later all × Looked own later × (j ≡ h)
    All before own later j (Err e) = Stops own e later

    behind : (before : List (List ℕ)) (n : ℕ) (message : List ℕ) (own later : List Deed) (j : Hand) (r : Result (List (List ℕ)) CommandFault) → All (before ++ message ∷ []) (reads n message ∷ own) later j r → All before own later j r
    behind before n message own later j (Ok all) q =
        let o : Onto own (reads n message ∷ own) = onto_one own (step.Read place (name_of n) LIMIT_BYTES) (answer.Content message) tt in (
          record {
            onto = onto_more own (reads n message ∷ own) later o q.0.onto;
            more = message ∷ q.0.more;
            are = q.0.are ∙ append_assoc before (message ∷ []) q.0.more;
            read = ((n, once_onto _ (reads n message ∷ own) later q.0.onto (now refl)), q.0.read);
          },
          looked_more own (reads n message ∷ own) later (read_one own place (name_of n) LIMIT_BYTES (answer.Content message)) q.1,
          q.2,
        )
    behind before n message own later j (Err e) q = stops_more own (reads n message ∷ own) later e (onto_one own (step.Read place (name_of n) LIMIT_BYTES) (answer.Content message) tt) q

    all_come : (before : List (List ℕ)) (ns : List ℕ) (own : List Deed) → AreMet ns own → Comes own h (messages_read place before ns) (All before own)
    unfolding messages_read
    all_come before [] own met = comes_to own h (Ok before) (All before own) (record { onto = onto_none own; more = []; are = sym (append-nil before); read = tt }, looked_none own, refl)
    all_come before (n ∷ ns) own met =
        comes_then own h (message_read place n) (λ message. messages_read place (before ++ message ∷ []) ns) (One n own) (All before own) (one_comes n own (met n (first_listed n ns)))
        (λ later j message q. comes_at later (reads n message ∷ own) j h (messages_read place (before ++ message ∷ []) ns) (All before own) q.0 q.1
        (comes_more (reads n message ∷ own) h (messages_read place (before ++ message ∷ []) ns) (All (before ++ message ∷ []) (reads n message ∷ own)) (All before own) (behind before n message own)
        (all_come (before ++ message ∷ []) ns (reads n message ∷ own) (met_more ns (name_of n) (answer.Content message) own (λ k e. met k (other_listed n k ns e))))))
        (λ later j e q. q)

    -- the folder and its sequences
    abbrev listing : List (List ℕ) → Deed
    listing names = did (step.List place) (answer.Names names)

    abbrev reading : Answer → Deed
    reading a = did (step.Read place (entry_text Sequences) LIMIT_BYTES) a

    abbrev Listing : List Deed → Outcome (Result (List (List ℕ)) CommandFault)
    Listing own later j (Ok names) = (later ≡ listing names ∷ own) × (j ≡ h)
    Listing own later j (Err e) = Stops own e later

    folder_comes : (own : List Deed) → Comes own h (folder_listed place folder) (Listing own)
    unfolding folder_listed
    folder_comes own =
        comes_list own h of_stop (Listing own) place (names_by folder) (λ names. comes_to _ h (Ok names) (Listing own) (refl, refl))
        (comes_to _ h (Err (fault.Refused (refusal.NoFolder folder))) (Listing own) (onto_one own _ _ tt, no_folder))

    abbrev Reading : List Deed → Outcome (Result (List ℕ) CommandFault)
    Reading own later j (Ok text) = (a : Answer) × (later ≡ reading a ∷ own) × (j ≡ h) × TellsText place (entry_text Sequences) text (reading a)
    Reading own later j (Err e) = Stops own e later

    text_comes : (own : List Deed) → Comes own h (text_read place (entry_text Sequences)) (Reading own)
    unfolding text_read
    text_comes own =
        comes_read own h of_stop (Reading own) place (entry_text Sequences) LIMIT_BYTES text_by (λ bytes. comes_to _ h (Ok bytes) (Reading own) (answer.Content bytes, refl, refl, inl (LIMIT_BYTES, refl)))
        (λ l. comes_to _ h (Err (too_large l)) (Reading own) (onto_one own _ _ tt, long_file)) (comes_to _ h (Ok []) (Reading own) (answer.Gone, refl, refl, inr (LIMIT_BYTES, refl, refl)))

    -- the messages
    abbrev pub Messages : List Deed → Outcome (Result (List (List ℕ)) CommandFault)
    Messages own later j (Ok messages) = Looked own later × HasReadMessages place messages later × (j ≡ h)
    Messages own later j (Err e) = Stops own e later

    module _ (names : List (List ℕ)) (text : List ℕ) (a : Answer) (older : List Deed) (told : TellsText place (entry_text Sequences) text (reading a)) where
      abbrev own : List Deed
      own = reading a ∷ (listing names ∷ older)

      abbrev m : Marked
      m = sequences_listed names text entries folder

      both_looked : Looked older own
      both_looked = looked_more older (listing names ∷ older) own (listed_one older place (answer.Names names)) (read_one (listing names ∷ older) place (entry_text Sequences) LIMIT_BYTES a)

      met : (numbers : List ℕ) → chosen_seen f.negation folder specs names text entries ≡ Ok numbers → AreMet numbers own
      met numbers is n e =
          met_kept place (name_of n) (step.Read place (entry_text Sequences) LIMIT_BYTES) a (listing names ∷ older) (λ z. z)
          (last (inr (names, refl, listed_text n names (has_tested (λ k. has_number k names) n (words_listed f.negation (listed_runs names) m specs numbers is n e)))))

      as_given : (later : List Deed) (j : Hand) (r : Result (List (List ℕ)) CommandFault) → All [] own later j r → Messages older later j r
      as_given later j (Ok all) q = (looked_more older own later both_looked q.1, subst (λ l. HasReadMessages place l later) (sym q.0.are) q.0.read, q.2)
      as_given later j (Err e) q = stops_more older own later e both_looked.onto q

      by : (r : Refusal) → chosen_seen f.negation folder specs names text entries ≡ Err (fault.Refused r) → Stops older (fault.Refused r) own
      by r is = (both_looked.onto, by_words (record { names = names; text = text; reading = reading a; older = older; newest = refl; told = told; refuses = is }))

      chosen_comes : Comes own h (Recall (λ i. Return (chosen_seen f.negation folder specs names text (entries_seen i.context))) >>= (λ numbers. messages_read place [] numbers)) (Messages older)
      chosen_comes = comes_recall own h _ _ (Messages older) (go (chosen_seen f.negation folder specs names text entries) refl)
        where
          go : (r : Result (List ℕ) CommandFault) → chosen_seen f.negation folder specs names text entries ≡ r → Comes own h (Return r >>= (λ numbers. messages_read place [] numbers)) (Messages older)
          go (Ok numbers) is = comes_on own h numbers _ (Messages older) (comes_more own h (messages_read place [] numbers) (All [] own) (Messages older) as_given (all_come [] numbers own (met numbers is)))
          go (Err e) is =
              comes_stop own h e _ (Messages older)
              (by_choice (λ z. chosen_seen f.negation folder specs names text entries ≡ Err z → Stops older z own) (folder_with f.negation (numbers_of (listed_runs names)) (marks_of m)) specs e is (λ word. by (refusal.BadSpec word)) (λ word. by (refusal.Absent word))
              (λ word. by (refusal.EmptyRange word)) (λ word. by (refusal.EmptySequence word)) is)

    messages_come : (own : List Deed) → Comes own h (messages_given path f folder specs) (Messages own)
    unfolding messages_given
    messages_come own =
        comes_then own h (folder_listed place folder) _ (Listing own) (Messages own) (folder_comes own)
        (λ own1 j names q. comes_at own1 (listing names ∷ own) j h _ (Messages own) q.0 q.1
        (comes_then (listing names ∷ own) h (text_read place (entry_text Sequences)) _ (Reading (listing names ∷ own)) (Messages own) (text_comes (listing names ∷ own))
        (λ own2 i text r. comes_at own2 (reading r.0 ∷ (listing names ∷ own)) i h _ (Messages own) r.1 r.2 (chosen_comes names text r.0 own r.3))
        (λ own2 i e r. stops_more own (listing names ∷ own) own2 e (onto_one own (step.List place) (answer.Names names) tt) r)))
        (λ own1 j e q. q)

  -- something that is wanted
  abbrev Want_ : Want → List Deed → Outcome (Result Given CommandFault)
  Want_ w own later j (Ok g) = Looked own later × WasGiven path f w g later × (j ≡ h)
  Want_ w own later j (Err e) = Onto own later × WantIsNotGiven path f entries w e later

  want_comes : (own : List Deed) (w : Want) → Comes own h (want_given path f w) (Want_ w own)
  unfolding file_given forward_given
  want_comes own (want.File file) =
      comes_then own h (file_read file) (λ bytes. Return (Ok (given.File bytes))) (File file own) (Want_ (want.File file) own) (file_comes own file) (λ later j bytes q. comes_to later j (Ok (given.File bytes)) (Want_ (want.File file) own) q) (λ later j e q. q)
  want_comes own (want.Messages word specs) = named (folder_named (folder_word f word)) refl
    where
      named : (r : Result (List ℕ) CommandFault) → folder_named (folder_word f word) ≡ r
          → Comes own h (Return r >>= (λ folder. messages_given path f folder (specs_or_current specs) >>= (λ messages. Return (Ok (given.Messages messages))))) (Want_ (want.Messages word specs) own)
      named (Ok folder) is =
          comes_on own h folder _ (Want_ (want.Messages word specs) own)
          (comes_then own h (messages_given path f folder (specs_or_current specs)) (λ messages. Return (Ok (given.Messages messages))) (Messages folder (specs_or_current specs) own) (Want_ (want.Messages word specs) own) (messages_come folder (specs_or_current specs) own)
          (λ later j messages q. comes_to later j (Ok (given.Messages messages)) (Want_ (want.Messages word specs) own) (q.0, (folder, is, q.1), q.2)) (λ later j e q. (q.0, inr (folder, is, q.1))))
      named (Err e) is = comes_stop own h e _ (Want_ (want.Messages word specs) own) (onto_none own, inl is)

  -- all that is wanted
  abbrev pub Wants : List Given → List Want → List Deed → Outcome (Result (List Given) CommandFault)
  Wants before wants own later j (Ok all) = Gave path f before wants own later all × Looked own later × (j ≡ h)
  Wants before wants own later j (Err e) = Onto own later × IsNotGiven path f entries wants e later

  wanted_behind : (before : List Given) (w : Want) (g : Given) (wants : List Want) (own later : List Deed) → Looked own later → WasGiven path f w g later → (last_ : List Deed) (j : Hand) (r : Result (List Given) CommandFault)
      → Wants (before ++ g ∷ []) wants later last_ j r → Wants before (w ∷ wants) own last_ j r
  wanted_behind before w g wants own later o k last_ j (Ok all) q = (
    record {
      onto = onto_more own later last_ o.onto q.0.onto;
      more = g ∷ q.0.more;
      are = q.0.are ∙ append_assoc before (g ∷ []) q.0.more;
      given = (was_onto path f w g later last_ q.0.onto k, q.0.given);
    },
    looked_more own later last_ o q.1,
    q.2,
  )
  wanted_behind before w g wants own later o k last_ j (Err e) q = (
    onto_more own later last_ o.onto q.0,
    record {
      front = w ∷ q.1.front;
      next = q.1.next;
      back = q.1.back;
      are = ap (λ l. w ∷ l) q.1.are;
      givens = g ∷ q.1.givens;
      given = (was_onto path f w g later last_ q.0 k, q.1.given);
      not_given = q.1.not_given;
    },
  )

  pub wants_come : (before : List Given) (wants : List Want) (own : List Deed) → Comes own h (all_given path f before wants) (Wants before wants own)
  unfolding all_given
  wants_come before [] own = comes_to own h (Ok before) (Wants before [] own) (record { onto = onto_none own; more = []; are = sym (append-nil before); given = tt }, looked_none own, refl)
  wants_come before (w ∷ wants) own =
      comes_then own h (want_given path f w) (λ g. all_given path f (before ++ g ∷ []) wants) (Want_ w own) (Wants before (w ∷ wants) own) (want_comes own w)
      (λ later j g q. comes_at later later j h (all_given path f (before ++ g ∷ []) wants) (Wants before (w ∷ wants) own) refl q.2
      (comes_more later h (all_given path f (before ++ g ∷ []) wants) (Wants (before ++ g ∷ []) wants later) (Wants before (w ∷ wants) own) (wanted_behind before w g wants own later q.0 q.1) (wants_come (before ++ g ∷ []) wants later)))
      (λ later j e q. (q.0, record { front = []; next = w; back = wants; are = refl; givens = []; given = tt; not_given = q.1 }))
