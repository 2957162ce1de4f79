-- Alone the messages that a directive forwards are those that stand in their folder.
use Rattle.std.proofs.Common.{◌≡◌, ◌∷◌, ◌++◌, [], ℕ, Bool, true, false, List, Option, Some, Result, Ok, Err, length, refl, sym, ◌∙◌, ap, subst}
use Rattle.std.specs.Prelude.{decimal, unwrap_or, nat_lt, if◌then◌else◌}
use Rattle.mh_base.specs.Entries.{entry_text}
use Rattle.mh_base.specs.declared.entry.Entry.TheVariants.{Number, Sequences}
use Rattle.mh_profile.specs.declared.named_value.NamedValue.{NamedValue}
use Rattle.mh_sequences.specs.Runs.{numbers_of}
use Rattle.msg_ranges.specs.Selection.{marks_of}
use Rattle.msg_ranges.specs.Selecting.{Folder as MsgFolder}
use Rattle.folder_files.specs.Steps.{read_file_answer}
use Rattle.folder_files.specs.declared.place.Place.{Place}
use Rattle.folder_files.specs.declared.place.Place.TheVariants.{Folder}
use Rattle.folder_files.specs.declared.refusal.Refusal.TheVariants as refusal
use Rattle.folder_files.specs.declared.step.Answer.{Answer}
use Rattle.folder_files.specs.declared.step.Answer.TheVariants as answer
use Rattle.folder_files.specs.declared.step.Step.TheVariants as step
use Rattle.file_plans.specs.Contents.{Contents, folder_at, mailbox_in}
use Rattle.file_plans.specs.Giving.{Gives}
use Rattle.file_plans.specs.Mailboxes.{Folder as FolderValue, is_message_number}
use Rattle.file_plans.specs.Plan.{Hand, Recall, Return, ◌>>=◌}
use Rattle.file_plans.specs.Views.{View, by_view, fits_view, view_after}
use Rattle.file_plans.proofs.Giving.{gives_more, gives_on}
use Rattle.file_plans.proofs.Onward.{Is, onward}
use Rattle.file_plans.proofs.Viewing.{read_view}
use Rattle.step_plans.specs.CommandFaults.{of_stop}
use Rattle.step_plans.specs.ContextCommit.{LIMIT_BYTES}
use Rattle.step_plans.specs.declared.command_fault.CommandFault.{CommandFault}
use Rattle.step_plans.specs.declared.command_fault.CommandFault.TheVariants as fault
use Rattle.sequence_commits.specs.Cutting.{cut_to}
use Rattle.sequence_commits.specs.Reading.{sequences_in}
use Rattle.sequence_commits.specs.RunsOfAll.{runs_of_all}
use Rattle.command_stages.specs.Chosen.{chosen_in, folder_with}
use Rattle.command_stages.specs.Listed.{folder_listed}
use Rattle.command_stages.specs.Texts.{Commanded, text_read}
use Rattle.command_stages.specs.Works.{readable}
use Rattle.mh_looks.proofs.Folders.{FolderListed, IsAbsent, IsListed, Tells, folder_gives, messages_listed}
use Rattle.mh_looks.proofs.Reading.{TextRead, text_gives}
use Rattle.mh_looks.proofs.Scanning.{refuses, unreadable}
use Rattle.opening_plans.specs.BegunWork.{runs_in}
use Rattle.told_folders.proofs.MessagesStand.{AllStand, Stands, words_stand}
use Rattle.told_folders.specs.Tasks.{listed_runs, sequences_listed}
use Rattle.draft_contents.specs.Forwards.{chosen_seen}
use Rattle.draft_contents.specs.Found.{and_then, chosen_of, folder_found, messages_found}
use Rattle.draft_contents.specs.Messages.{message_by, message_read, messages_given, messages_read}
use Rattle.draft_contents.specs.declared.forwarding.Forwarding.{Forwarding}
use Rattle.draft_files.specs.Limits.{within_limit}
use Rattle.draft_contents.proofs.Finding.{Finds, IsRefusing, content_found, finds_then, found_so, long_found}
use Rattle.mh_profile.specs.Reading.{entries_seen}

never_gone : (text : List ℕ) → answer.Gone ≡ read_file_answer LIMIT_BYTES (Some text) → ⊥
never_gone text e = go (nat_lt LIMIT_BYTES (length text)) e
  where
    go : (v : Bool) → answer.Gone ≡ (if v then answer.Long (length text) else answer.Content text) → ⊥
    go true e = cc (e)
    go false e = cc (e)

chosen_refuses : (folder : MsgFolder) (words : List (List ℕ)) → IsRefusing (chosen_in folder words)
chosen_refuses folder words = go (chosen_in folder words) refl
  where
    go : (r : Result (List ℕ) CommandFault) → chosen_in folder words ≡ r → IsRefusing r
    go (Ok numbers) is = tt
    go (Err e) is = refuses folder words e is

module _ (ns : List ℕ) (c : Contents) (h : Hand) (text : List ℕ) (place : Place) where
  abbrev messages : ℕ → Option (List ℕ)
  messages = (folder_at c place).messages

  message_text : (n : ℕ) (b : List ℕ) → is_message_number n ≡ true → c.texts place (decimal n) ≡ Some b → unwrap_or (messages n) [] ≡ b
  unfolding entry_text
  message_text n b ok there = rw (ok, there) refl

  says_there : (z : View) (n : ℕ) (b : List ℕ) (a : Answer) → Is true ns z c → c.texts place (decimal n) ≡ Some b → fits_view true z (step.Read place (entry_text (Number n)) LIMIT_BYTES) a → a ≡ read_file_answer LIMIT_BYTES (Some b)
  unfolding entry_text
  says_there z n b a is there f = f.0 ∙ ap (read_file_answer LIMIT_BYTES) (ap (λ d. d.texts place (decimal n)) (is.0 refl) ∙ there)

  message_finds : (z : View) (n : ℕ) → Is true ns z c → (m : Stands c place n) → Gives (by_view true) z h text (message_read place n) (Finds ns c h text (within_limit m.text))
  unfolding Gives message_read
  message_finds z n is m =
      read_view true z of_stop h text (Finds ns c h text (within_limit m.text)) place (entry_text (Number n)) LIMIT_BYTES (message_by place n)
      (λ bytes f. found_so ns c h text (within_limit m.text) _ _ (later (answer.Content bytes)) (content_found gone (Some m.text) bytes (says_there z n m.text (answer.Content bytes) is m.there f)) tt)
      (λ l f. found_so ns c h text (within_limit m.text) _ _ (later (answer.Long l)) (long_found gone (Some m.text) l (says_there z n m.text (answer.Long l) is m.there f)) (refusal.TooLarge l LIMIT_BYTES, refl))
      (λ f. absurd (never_gone m.text (says_there z n m.text answer.Gone is m.there f)))
    where
      gone : CommandFault
      gone = fault.Memory

      later : (a : Answer) → Is true ns (view_after z (step.Read place (entry_text (Number n)) LIMIT_BYTES) a) c
      later a = onward true ns z c (step.Read place (entry_text (Number n)) LIMIT_BYTES) a is refl

  messages_find : (before : List (List ℕ)) (numbers : List ℕ) (z : View) → Is true ns z c → AllStand c place numbers → Gives (by_view true) z h text (messages_read place before numbers) (Finds ns c h text (messages_found messages before numbers))
  unfolding Gives messages_read messages_found
  messages_find before [] z is all = found_so ns c h text (Ok before) z (Ok before) is refl tt
  messages_find before (n ∷ numbers) z is all =
      finds_then ns c h text (within_limit (unwrap_or (messages n) [])) (λ message. messages_found messages (before ++ message ∷ []) numbers) z (message_read place n) (λ message. messages_read place (before ++ message ∷ []) numbers)
      (subst (λ b. Gives (by_view true) z h text (message_read place n) (Finds ns c h text (within_limit b))) (sym (message_text n all.0.text all.0.number all.0.there)) (message_finds z n is all.0))
      (λ y message e later. messages_find (before ++ message ∷ []) numbers y later all.1)

module _ (ns : List ℕ) (c : Contents) (h : Hand) (text path : List ℕ) (f : Forwarding) (entries : List NamedValue) (known : h.context ≡ Some entries) (folder : List ℕ) (specs : List (List ℕ)) where
  abbrev at : Place
  at = Folder path folder

  abbrev old : FolderValue
  old = folder_at c at

  abbrev by_text : List ℕ → Result (List (List ℕ)) CommandFault
  by_text written = and_then (chosen_of f.negation folder specs entries old written) (λ numbers. messages_found old.messages [] numbers)

  abbrev found : Result (List (List ℕ)) CommandFault
  found = folder_found f folder specs entries ((mailbox_in c).folders at)

  absent : c.there at ≡ false → found ≡ Err (fault.Refused (refusal.NoFolder folder))
  unfolding mailbox_in
  absent none = rw none refl

  there_found : c.there at ≡ true → found ≡ and_then (readable old.sequences) by_text
  unfolding mailbox_in
  there_found there = rw there refl

  text_finds : (z : View) → Is true ns z c → Gives (by_view true) z h text (text_read at (entry_text Sequences)) (Finds ns c h text (readable old.sequences))
  text_finds z is =
      gives_more (by_view true) z h text (text_read at (entry_text Sequences)) (TextRead z at (entry_text Sequences) h text) (Finds ns c h text (readable old.sequences)) (text_gives true z at (entry_text Sequences) h text (λ e. absurd (cc (e))))
      (λ y j left r t.
      let value = t.value ∙ ap readable text_at in
      rw (t.hand, t.rest) (found_so ns c h text (readable old.sequences) y r (rw t.view ((λ e. is.0 e), is.1)) value (refusing r value)))
    where
      text_at : z.contents.texts at (entry_text Sequences) ≡ old.sequences
      text_at = ap (λ d. d.texts at (entry_text Sequences)) (is.0 refl)

      refusing : (r : Result (List ℕ) CommandFault) → r ≡ readable old.sequences → IsRefusing r
      refusing (Ok b) e = tt
      refusing (Err x) e = let what = unreadable old.sequences x e in (refusal.TooLarge what.0 LIMIT_BYTES, what.1)

  same_runs : (names : List (List ℕ)) → Tells c at names → runs_in old ≡ listed_runs names
  same_runs names t = λ i. runs_of_all (λ n. messages_listed c at names t n i)

  same_chosen : (names : List (List ℕ)) (written : List ℕ) → Tells c at names → chosen_seen f.negation folder specs names written entries ≡ chosen_of f.negation folder specs entries old written
  same_chosen names written t =
      let runs = sym (same_runs names t) in
      λ i. chosen_in (folder_with f.negation (numbers_of (runs i)) (marks_of (cut_to (runs i) (sequences_in written entries folder)))) specs

  chosen_finds : (names : List (List ℕ)) (written : List ℕ) (z : View) → Tells c at names → Is true ns z c
      → Gives (by_view true) z h text (Recall (λ k. Return (chosen_seen f.negation folder specs names written (entries_seen k.context)))) (Finds ns c h text (chosen_of f.negation folder specs entries old written))
  unfolding Gives
  chosen_finds names written z t is =
      found_so ns c h text (chosen_of f.negation folder specs entries old written) z _ is
      (ap (λ o. chosen_seen f.negation folder specs names written (entries_seen o)) known ∙ same_chosen names written t)
      (chosen_refuses (folder_with f.negation (numbers_of (listed_runs names)) (marks_of (sequences_listed names written (entries_seen h.context) folder))) specs)

  stand_listed : (names : List (List ℕ)) (written numbers : List ℕ) → Tells c at names → chosen_of f.negation folder specs entries old written ≡ Ok numbers → AllStand c at numbers
  stand_listed names written numbers t is =
      words_stand c at names t f.negation (sequences_listed names written entries folder) specs numbers (same_chosen names written t ∙ is)

  abbrev then_read : List (List ℕ) → Commanded (List (List ℕ))
  then_read names = text_read at (entry_text Sequences) >>= (λ written. Recall (λ k. Return (chosen_seen f.negation folder specs names written (entries_seen k.context))) >>= (λ numbers. messages_read at [] numbers))

  after_names : (z : View) (names : List (List ℕ)) → Is true ns z c → Tells c at names → Gives (by_view true) z h text (then_read names) (Finds ns c h text (and_then (readable old.sequences) by_text))
  after_names z names is t =
      finds_then ns c h text (readable old.sequences) by_text z (text_read at (entry_text Sequences)) _ (text_finds z is)
      (λ y written e later.
      finds_then ns c h text (chosen_of f.negation folder specs entries old written) (λ numbers. messages_found old.messages [] numbers) y (Recall (λ k. Return (chosen_seen f.negation folder specs names written (entries_seen k.context)))) (λ numbers. messages_read at [] numbers)
      (chosen_finds names written y t later) (λ x numbers chosen last. messages_find ns c h text at [] numbers x last (stand_listed names written numbers t chosen)))

  pub messages_finds : (z : View) → Is true ns z c → Gives (by_view true) z h text (messages_given path f folder specs) (Finds ns c h text found)
  unfolding messages_given
  messages_finds z is =
      gives_on (by_view true) z h text (folder_listed at folder) then_read (FolderListed z at folder h text) (Finds ns c h text found)
      (folder_gives true z at folder h text (λ e. absurd (cc (e))))
      (λ y j left names l. on y j left names l) (λ y j left e a. off y j left e a)
    where
      on : (y : View) (j : Hand) (left : List ℕ) (names : List (List ℕ)) → IsListed z at h text names y j left → Gives (by_view true) y j left (then_read names) (Finds ns c h text found)
      on y j left names l =
          let t = subst (λ d. Tells d at names) (is.0 refl) l.tells in
          rw (l.view, l.hand, l.rest)
          (subst (λ w. Gives (by_view true) (view_after z (step.List at) (answer.Names names)) h text (then_read names) (Finds ns c h text w)) (sym (there_found t.there))
          (after_names (view_after z (step.List at) (answer.Names names)) names (onward true ns z c (step.List at) (answer.Names names) is refl) t))

      off : (y : View) (j : Hand) (left : List ℕ) (e : CommandFault) → IsAbsent z at folder h text e y j left → Finds ns c h text found y j left (Err e)
      off y j left e a =
          let none : c.there at ≡ false = ap (λ d. d.there at) (sym (is.0 refl)) ∙ a.none in
          record { contents = a.contents ∙ is.0 refl; numbers = tt; hand = a.hand; rest = a.rest; value = ap (λ x. Err x) a.fault ∙ sym (absent none); refused = (refusal.NoFolder folder, a.fault) }
