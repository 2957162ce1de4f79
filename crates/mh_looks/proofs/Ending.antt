-- How `scan` ends, and what shows it.
use Rattle.std.proofs.Common.{◌≡◌, inl, inr, ◌^◌, ◌∷◌, [], ℕ, ◌==◌, ◌&&◌, ◌||◌, Bool, true, false, List, Result, Ok, Err, nat_lt, refl, sym, ◌∙◌, ap, subst}
use Rattle.std.specs.Prelude.{decimal, map}
use Rattle.std.specs.Str.{encode_utf8_all}
use Rattle.std.proofs.lemmas.Bool.Decides.{Decides-eqb}
use Rattle.mh_base.specs.Entries.{entry_text}
use Rattle.mh_base.specs.declared.entry.Entry.TheVariants.{Number, Sequences}
use Rattle.mh_sequences.specs.Runs.{numbers_of as all_numbers}
use Rattle.folder_files.specs.Careful.{WasMade}
use Rattle.folder_files.specs.Deeds.{Deed, did, last, still}
use Rattle.folder_files.specs.Steps.{has_text}
use Rattle.folder_files.specs.declared.place.Place.{Place}
use Rattle.folder_files.specs.declared.place.Place.TheVariants.{Folder, Mail}
use Rattle.folder_files.specs.declared.refusal.Refusal.TheVariants as refusal
use Rattle.folder_files.specs.declared.step.Step.TheVariants as step
use Rattle.folder_files.specs.declared.step.Answer.{Answer}
use Rattle.folder_files.specs.declared.step.Answer.TheVariants as answer
use Rattle.file_plans.specs.Mailboxes.{is_message_number}
use Rattle.file_plans.specs.Plan.{Hand, Plan, Return, Recall, bind, ◌>>=◌}
use Rattle.file_plans.specs.Rules.{Keeps}
use Rattle.file_plans.specs.Runs as runs
use Rattle.file_plans.specs.Sightings.{has_number}
use Rattle.file_plans.proofs.Acting.{acts}
use Rattle.file_plans.proofs.NumberTexts.{has_number_text}
use Rattle.msg_ranges.specs.Selected.{every_number, selected}
use Rattle.msg_ranges.specs.Selecting.{Folder as MsgFolder}
use Rattle.msg_ranges.specs.Selection.{Marks}
use Rattle.msg_ranges.specs.declared.fault.SelectFault.{SelectFault}
use Rattle.msg_ranges.specs.declared.fault.SelectFault.TheVariants as select
use Rattle.msg_ranges.proofs.Rising.{lists, lists_filter}
use Rattle.msg_ranges.proofs.Within.{selected_within, never_memory}
use Rattle.step_plans.specs.CommandFaults.{of_stop, of_sink}
use Rattle.step_plans.specs.ContextCommit.{LIMIT_BYTES, TRIES, commit_context}
use Rattle.step_plans.specs.Endings.{IsHeld, IsTakenAway, HasMet, IsMeddled, name_gone, IsLongText, ShowsPlanFault}
use Rattle.step_plans.specs.Hands.{temp_name}
use Rattle.step_plans.specs.declared.command_fault.CommandFault.{CommandFault}
use Rattle.step_plans.specs.declared.command_fault.CommandFault.TheVariants as fault
use Rattle.step_plans.specs.declared.fault.PlanFault.{PlanFault}
use Rattle.step_plans.specs.declared.fault.PlanFault.TheVariants as plan
use Rattle.step_plans.proofs.Coming.{Comes, comes_to, comes_on, comes_stop, comes_then, comes_lifted, comes_clean, comes_keeps, NoneFailed, anything, comes_list, comes_read, comes_say}
use Rattle.step_plans.proofs.Ending.{CommitEnds, commit_comes, unmade_more}
use Rattle.step_plans.proofs.Going.{Outcome}
use Rattle.step_plans.proofs.Past.{did_step}
use Rattle.command_stages.specs.Chosen.{word_at, chosen_in, folder_with, marks_in, refused_by}
use Rattle.command_stages.specs.Endings.{of_plan}
use Rattle.command_stages.specs.Listed.{names_by, folder_listed, numbers_listed}
use Rattle.command_stages.specs.Texts.{too_large, text_by, text_read}
use Rattle.command_stages.specs.Current.{current_change, made_current}
use Rattle.message_lines.specs.MessageText.{line_of, Writing}
use Rattle.mh_looks.specs.Scan.{shown_by, one_shown, all_shown, ordered, chosen_by, scan, lined_by}
use Rattle.mh_looks.specs.ScanJob.{ScanJob}
use Rattle.mh_looks.proofs.Apart.{lists_ordered}
use Rattle.mh_profile.specs.Reading.{entries_seen}

-- the newest deeds listed the folder, which is there, and then read its sequences
abbrev pub AfterSequences : Place → List (List ℕ) → Answer → List Deed → List Deed
AfterSequences place names a older = did (step.Read place (entry_text Sequences) LIMIT_BYTES) a ∷ (did (step.List place) (answer.Names names) ∷ older)

-- what shows each fault of `scan`
pub data ScanShows (run : ℕ) (mail folder : List ℕ) : CommandFault → List Deed → Type 0 where
  -- the folder isn't there
  no_folder : {older : List Deed} → ScanShows run mail folder (fault.Refused (refusal.NoFolder folder)) (did (step.List (Folder mail folder)) answer.Gone ∷ older)
  -- the words choose no messages of the folder
  bad_spec : {word : List ℕ} {names : List (List ℕ)} {a : Answer} {older : List Deed} → ScanShows run mail folder (fault.Refused (refusal.BadSpec word)) (AfterSequences (Folder mail folder) names a older)
  absent : {word : List ℕ} {names : List (List ℕ)} {a : Answer} {older : List Deed} → ScanShows run mail folder (fault.Refused (refusal.Absent word)) (AfterSequences (Folder mail folder) names a older)
  empty_range : {word : List ℕ} {names : List (List ℕ)} {a : Answer} {older : List Deed} → ScanShows run mail folder (fault.Refused (refusal.EmptyRange word)) (AfterSequences (Folder mail folder) names a older)
  empty_sequence : {word : List ℕ} {names : List (List ℕ)} {a : Answer} {older : List Deed} → ScanShows run mail folder (fault.Refused (refusal.EmptySequence word)) (AfterSequences (Folder mail folder) names a older)
  -- a file that was just read is too long
  long_file : {place : Place} {name : List ℕ} {l : ℕ} {older : List Deed} → ScanShows run mail folder (too_large l) (did (step.Read place name LIMIT_BYTES) (answer.Long l) ∷ older)
  -- the new text of the context is
  long_text : {l : ℕ} {own : List Deed} → IsLongText (Mail mail) (current_change folder) l own → ScanShows run mail folder (too_large l) own
  -- another run holds the lock of the mail directory
  held : {own : List Deed} → IsHeld (Mail mail) TRIES own → ScanShows run mail folder (fault.Locked (Mail mail)) own
  -- a name of this run is gone or taken
  meddled : {place : Place} {name : List ℕ} {own : List Deed} → IsMeddled run place name own → ScanShows run mail folder (fault.Meddled place name) own

-- what words refuse
pub by_choice : (C : CommandFault → Type 0) (folder : MsgFolder) (words : List (List ℕ)) (e : CommandFault) → chosen_in folder words ≡ Err e → ((w : List ℕ) → C (fault.Refused (refusal.BadSpec w)))
    → ((w : List ℕ) → C (fault.Refused (refusal.Absent w))) → ((w : List ℕ) → C (fault.Refused (refusal.EmptyRange w))) → ((w : List ℕ) → C (fault.Refused (refusal.EmptySequence w))) → C e
by_choice C folder words e is bad none range sequence = go (selected folder (map encode_utf8_all words)) refl is
  where
    go : (s : Result (List ℕ) SelectFault) → selected folder (map encode_utf8_all words) ≡ s → refused_by words s ≡ Err e → C e
    go (Ok numbers) s is = cc
    go (Err (select.BadSpec k)) s is = let same : fault.Refused (refusal.BadSpec (word_at words k)) ≡ e = cc in subst C same (bad (word_at words k))
    go (Err (select.Absent k)) s is = let same : fault.Refused (refusal.Absent (word_at words k)) ≡ e = cc in subst C same (none (word_at words k))
    go (Err (select.EmptyRange k)) s is = let same : fault.Refused (refusal.EmptyRange (word_at words k)) ≡ e = cc in subst C same (range (word_at words k))
    go (Err (select.EmptySequence k)) s is = let same : fault.Refused (refusal.EmptySequence (word_at words k)) ≡ e = cc in subst C same (sequence (word_at words k))
    go (Err select.Memory) s is = absurd (never_memory folder (map encode_utf8_all words) s)

pub selects : (folder : MsgFolder) (words : List (List ℕ)) (numbers : List ℕ) → chosen_in folder words ≡ Ok numbers → selected folder (map encode_utf8_all words) ≡ Ok numbers
selects folder words numbers is = go (selected folder (map encode_utf8_all words)) is
  where
    go : (s : Result (List ℕ) SelectFault) → refused_by words s ≡ Ok numbers → s ≡ Ok numbers
    go (Ok found) is = let same : found ≡ numbers = cc in ap (λ z. Ok z) same
    go (Err (select.BadSpec k)) is = cc
    go (Err (select.Absent k)) is = cc
    go (Err (select.EmptyRange k)) is = cc
    go (Err (select.EmptySequence k)) is = cc
    go (Err select.Memory) is = cc

both : (a b : Bool) → a && b ≡ true → b ≡ true
both true b e = e
both false b e = cc

-- the messages that words choose were listed
chosen_listed : (names : List (List ℕ)) (neg : List ℕ) (marks : Marks) (specs : List (List ℕ)) (numbers : List ℕ) → chosen_in (folder_with neg (numbers_listed names) marks) specs ≡ Ok numbers → (n : ℕ) → lists numbers n ≡ true → has_number n names ≡ true
chosen_listed names neg marks specs numbers is n e =
    both (lists (all_numbers every_number) n) (has_number n names)
    (sym (lists_filter (λ m. has_number m names) (all_numbers every_number) n) ∙ selected_within (folder_with neg (numbers_listed names) marks) (map encode_utf8_all specs) numbers (selects (folder_with neg (numbers_listed names) marks) specs numbers is) n e)

abbrev pub name_of : ℕ → List ℕ
name_of n = entry_text (Number n)

pub listed_text : (n : ℕ) (names : List (List ℕ)) → has_number n names ≡ true → has_text (name_of n) names ≡ true
unfolding entry_text
listed_text n names e = both (is_message_number n) (has_text (decimal n) names) (sym (has_number_text n names) ∙ e)

-- the run has met each of these messages
abbrev AreMet : Place → List ℕ → List Deed → Type 0
AreMet place [] own = Unit {0}
AreMet place (n ∷ ns) own = HasMet place (name_of n) own × AreMet place ns own

not_taken_by_read : (p q : Place) (x y : List ℕ) (limit : ℕ) (a : Answer) → IsTakenAway p x (did (step.Read q y limit) a) → ⊥
not_taken_by_read p q x y limit a (inl t) = let same : step.Read q y limit ≡ step.Unlink p x = did_step t in cc
not_taken_by_read p q x y limit a (inr t) = let same : step.Read q y limit ≡ step.Rename p x t.0 = did_step t.1 in cc

met_more : (p q : Place) (ns y : List ℕ) (limit : ℕ) (a : Answer) (own : List Deed) → AreMet p ns own → AreMet p ns (did (step.Read q y limit) a ∷ own)
met_more p q [] y limit a own f = tt
met_more p q (n ∷ ns) y limit a own f = (still (not_taken_by_read p q (name_of n) y limit a) f.0, met_more p q ns y limit a own f.1)

met_all : (p : Place) (names : List (List ℕ)) (a : Answer) (older : List Deed) (ns : List ℕ) → ((n : ℕ) → lists ns n ≡ true → has_number n names ≡ true) → AreMet p ns (AfterSequences p names a older)
met_all p names a older [] f = tt
met_all p names a older (n ∷ ns) f =
    (still (not_taken_by_read p p (name_of n) (entry_text Sequences) LIMIT_BYTES a) (last (inr (names, refl, listed_text n names (f n (first n (lists ns n)))))), met_all p names a older ns (λ m e. f m (later (n == m) (lists ns m) e)))
  where
    first : (n : ℕ) (b : Bool) → (n == n) || b ≡ true
    first n b = rw ((Decides-eqb n n).1 refl) refl

    later : (a b : Bool) → b ≡ true → a || b ≡ true
    later true b e = refl
    later false b e = e

-- a text that is read: one deed more; or it is too long
abbrev pub TextEnds : Place → List ℕ → List Deed → Hand → Outcome (Result (List ℕ) CommandFault)
TextEnds p x own h later j (Ok text) = (a : Answer) × (later ≡ did (step.Read p x LIMIT_BYTES) a ∷ own) × (j ≡ h)
TextEnds p x own h later j (Err e) = (l : ℕ) × (e ≡ too_large l) × (later ≡ did (step.Read p x LIMIT_BYTES) (answer.Long l) ∷ own)

pub text_comes : (p : Place) (x : List ℕ) (own : List Deed) (h : Hand) → Comes own h (text_read p x) (TextEnds p x own h)
unfolding text_read
text_comes p x own h =
    comes_read own h of_stop (TextEnds p x own h) p x LIMIT_BYTES text_by (λ bytes. comes_to _ h (Ok bytes) (TextEnds p x own h) (answer.Content bytes, refl, refl))
    (λ l. comes_to _ h (Err (too_large l)) (TextEnds p x own h) (l, refl, refl)) (comes_to _ h (Ok []) (TextEnds p x own h) (answer.Gone, refl, refl))

-- the hand as it is, and then the rest
pub comes_recall : {A B E : Type 0} (own : List Deed) (h : Hand) (next : Hand → Plan (Result A E)) (k : A → Plan (Result B E)) (Q : Outcome (Result B E)) → Comes own h (next h >>= k) Q → Comes own h (Recall next >>= k) Q
unfolding Comes bind ◌>>=◌
comes_recall own h next k Q f = f

pub comes_at : {R : Type 0} (own now_ : List Deed) (j i : Hand) (q : Plan R) (Q : Outcome R) → own ≡ now_ → j ≡ i → Comes now_ i q Q → Comes own j q Q
comes_at own now_ j i q Q e f g = rw (e, f) g

module _ (run : ℕ) (mail : List ℕ) (job : ScanJob) (h : Hand) (numbered : nat_lt h.next (2 ^ 64) ≡ true) where
  abbrev folder : List ℕ
  folder = job.folder

  abbrev place : Place
  place = Folder mail job.folder

  abbrev fresh_name : List ℕ
  fresh_name = temp_name run h.next

  -- the next name of the run was not made in the mail directory
  abbrev pub IsUnmade : List Deed → Type 0
  IsUnmade own = WasMade (Mail mail) fresh_name own → ⊥

  abbrev pub ScanEnds : {A : Type 0} → Outcome (Result A CommandFault)
  ScanEnds later j (Ok a) = Unit {0}
  ScanEnds later j (Err e) = ScanShows run mail job.folder e later

  pub unread : (p : Place) (x : List ℕ) (a : Answer) (own : List Deed) → IsUnmade own → IsUnmade (did (step.Read p x LIMIT_BYTES) a ∷ own)
  unread p x a own f = unmade_more (Mail mail) fresh_name (step.Read p x LIMIT_BYTES) a own (λ b e. cc (e)) f

  -- one message
  abbrev OneEnds : ℕ → List Deed → Outcome (Result Unit CommandFault)
  OneEnds n own later j (Ok u) = (a : Answer) × (later ≡ did (step.Read place (name_of n) LIMIT_BYTES) a ∷ own) × (j ≡ h)
  OneEnds n own later j (Err e) = ScanShows run mail job.folder e later

  one_comes : (lined : Writing) (n : ℕ) (own : List Deed) → HasMet place (name_of n) own → Comes own h (one_shown lined place n) (OneEnds n own)
  unfolding one_shown
  one_comes lined n own met =
      comes_read own h of_stop (OneEnds n own) place (name_of n) LIMIT_BYTES (shown_by lined place n)
      (λ bytes. comes_say _ h of_sink (OneEnds n own) (line_of lined n bytes) (λ told. Return (Ok tt)) (comes_to _ h (Ok tt) (OneEnds n own) (answer.Content bytes, refl, refl))) (λ l. comes_to _ h (Err (too_large l)) (OneEnds n own) long_file)
      (comes_to _ h (Err (fault.Meddled place (name_of n))) (OneEnds n own) (meddled (name_gone (inl (LIMIT_BYTES, refl)) met)))

  -- the messages
  abbrev AllEnds : Outcome (Result Unit CommandFault)
  AllEnds later j (Ok u) = (j ≡ h) × IsUnmade later
  AllEnds later j (Err e) = ScanShows run mail job.folder e later

  all_comes : (lined : Writing) (ns : List ℕ) (own : List Deed) → AreMet place ns own → IsUnmade own → Comes own h (all_shown lined place ns) AllEnds
  unfolding all_shown
  all_comes lined [] own met unmade = comes_to own h (Ok tt) AllEnds (refl, unmade)
  all_comes lined (n ∷ ns) own met unmade =
      comes_then own h (one_shown lined place n) (λ u. all_shown lined place ns) (OneEnds n own) AllEnds (one_comes lined n own met.0)
      (λ later j u q. comes_at later (did (step.Read place (name_of n) LIMIT_BYTES) q.0 ∷ own) j h (all_shown lined place ns) AllEnds q.1 q.2
      (all_comes lined ns (did (step.Read place (name_of n) LIMIT_BYTES) q.0 ∷ own) (met_more place place ns (name_of n) LIMIT_BYTES q.0 own met.1) (unread place (name_of n) q.0 own unmade)))
      (λ later j e q. q)

  -- the folder becomes the current one
  fault_shows : (later : List Deed) (e : PlanFault) → ShowsPlanFault run (Mail mail) (current_change folder) h e later → ScanShows run mail job.folder (of_plan folder e) later
  fault_shows later plan.Faulted q = absurd q
  fault_shows later (plan.Locked q) f = subst (λ z. ScanShows run mail job.folder (fault.Locked z) later) (sym f.0) (held f.1)
  fault_shows later (plan.Meddled q x) f = subst (λ z. ScanShows run mail job.folder (fault.Meddled z x) later) (sym f.0) (meddled f.1)
  fault_shows later plan.Full q = absurd q
  fault_shows later (plan.Absent q) f = absurd f
  fault_shows later (plan.TooLarge l) (inl f) = subst (λ z. ScanShows run mail job.folder (too_large l) z) (sym f.1) long_file
  fault_shows later (plan.TooLarge l) (inr f) = long_text f
  fault_shows later plan.Memory e = let no_number : true ≡ false = sym numbered ∙ e in cc

  pub current_comes : (own : List Deed) → IsUnmade own → Comes own h (made_current run mail folder) ScanEnds
  unfolding made_current
  current_comes own unmade =
      comes_then own h _ (λ (done : Unit {0}). Return (Ok tt)) ScanEnds ScanEnds
      (comes_lifted own h (of_plan folder) (commit_context run (Mail mail) (current_change folder)) (CommitEnds run (Mail mail) (current_change folder) h) ScanEnds
      (commit_comes run (Mail mail) (current_change folder) h own unmade) (λ later j u q. tt) (λ later j e q. fault_shows later e q))
      (λ later j u q. comes_to later j (Ok tt) ScanEnds tt) (λ later j e q. q)

  -- the folder's listing
  abbrev ListEnds : List Deed → Outcome (Result (List (List ℕ)) CommandFault)
  ListEnds own later j (Ok names) = (later ≡ did (step.List place) (answer.Names names) ∷ own) × (j ≡ h)
  ListEnds own later j (Err e) = ScanShows run mail job.folder e later

  pub list_comes : (own : List Deed) → Comes own h (folder_listed place folder) (ListEnds own)
  unfolding folder_listed
  list_comes own =
      comes_list own h of_stop (ListEnds own) place (names_by folder) (λ names. comes_to _ h (Ok names) (ListEnds own) (refl, refl)) (comes_to _ h (Err (fault.Refused (refusal.NoFolder folder))) (ListEnds own) no_folder)

  too_long : (later older : List Deed) (p : Place) (x : List ℕ) (l : ℕ) (e : CommandFault) → e ≡ too_large l → later ≡ did (step.Read p x LIMIT_BYTES) (answer.Long l) ∷ older → ScanShows run mail job.folder e later
  too_long later older p x l e is at = rw (is, at) long_file

  -- the chosen messages, and the end
  chosen_comes : (names : List (List ℕ)) (text : List ℕ) (a : Answer) (older : List Deed) → IsUnmade (AfterSequences place names a older)
      → Comes (AfterSequences place names a older) h (Recall (λ i. Return (chosen_by job names text (entries_seen i.context))) >>= (λ numbers. Recall (λ i. all_shown (lined_by job text (entries_seen i.context)) place (ordered job.reverse numbers)) >>= (λ shown. made_current run mail folder))) ScanEnds
  chosen_comes names text a older unmade = comes_recall own h _ rest ScanEnds (go (chosen_by job names text (entries_seen h.context)) refl)
    where
      own : List Deed
      own = AfterSequences place names a older

      rest : List ℕ → Plan (Result Unit CommandFault)
      rest numbers = Recall (λ i. all_shown (lined_by job text (entries_seen i.context)) place (ordered job.reverse numbers)) >>= (λ shown. made_current run mail folder)

      marks : Marks
      marks = marks_in text (entries_seen h.context) folder

      showing : (numbers : List ℕ) → chosen_by job names text (entries_seen h.context) ≡ Ok numbers → Comes own h (rest numbers) ScanEnds
      showing numbers is =
          comes_recall own h (λ i. all_shown (lined_by job text (entries_seen i.context)) place (ordered job.reverse numbers)) (λ u. made_current run mail folder) ScanEnds
          (comes_then own h (all_shown (lined_by job text (entries_seen h.context)) place (ordered job.reverse numbers)) (λ u. made_current run mail folder) AllEnds ScanEnds
          (all_comes (lined_by job text (entries_seen h.context)) (ordered job.reverse numbers) own (met_all place names a older (ordered job.reverse numbers) (λ n e. chosen_listed names job.negation marks job.specs numbers is n (sym (lists_ordered job.reverse numbers n) ∙ e))) unmade)
          (λ later j u q. comes_at later later j h (made_current run mail folder) ScanEnds refl q.0 (current_comes later q.1)) (λ later j e q. q))

      go : (r : Result (List ℕ) CommandFault) → chosen_by job names text (entries_seen h.context) ≡ r → Comes own h (Return r >>= rest) ScanEnds
      go (Ok numbers) is = comes_on own h numbers rest ScanEnds (showing numbers is)
      go (Err e) is =
          comes_stop own h e rest ScanEnds
          (by_choice (λ z. ScanShows run mail job.folder z own) (folder_with job.negation (numbers_listed names) marks) job.specs e is (λ w. bad_spec) (λ w. absent) (λ w. empty_range) (λ w. empty_sequence))

  -- `scan`, where the run's next name was not made yet: its end, and what shows it
  pub scan_comes : (own : List Deed) → IsUnmade own → Comes own h (scan run mail job) ScanEnds
  unfolding scan
  scan_comes own unmade =
      comes_then own h (folder_listed place folder) _ (ListEnds own) ScanEnds (list_comes own)
      (λ own1 j names q. comes_at own1 (did (step.List place) (answer.Names names) ∷ own) j h _ ScanEnds q.0 q.1
      (comes_then (did (step.List place) (answer.Names names) ∷ own) h (text_read place (entry_text Sequences)) _ (TextEnds place (entry_text Sequences) (did (step.List place) (answer.Names names) ∷ own) h) ScanEnds
      (text_comes place (entry_text Sequences) (did (step.List place) (answer.Names names) ∷ own) h)
      (λ own2 i text r. comes_at own2 (AfterSequences place names r.0 own) i h _ ScanEnds r.1 r.2
      (chosen_comes names text r.0 own (unread place (entry_text Sequences) r.0 (did (step.List place) (answer.Names names) ∷ own) (unmade_more (Mail mail) fresh_name (step.List place) (answer.Names names) own (λ b e. cc (e)) unmade))))
      (λ own2 i e r. too_long own2 (did (step.List place) (answer.Names names) ∷ own) place (entry_text Sequences) r.0 e r.1 r.2)))
      (λ own1 j e q. q)

  -- the same in a call that did these deeds; and where it returns no step has failed
  abbrev pub ScanEndsAs : List runs.Deed → Hand → Result Unit CommandFault → Type 0
  ScanEndsAs past j r = NoneFailed (acts past) × ScanEnds (acts past) j r

  pub scan_ends : (past : List runs.Deed) → NoneFailed (acts past) → IsUnmade (acts past) → Keeps anything past h (scan run mail job) ScanEndsAs
  scan_ends past clean unmade =
      comes_keeps past (acts past) h (scan run mail job) (λ later j r. NoneFailed later × ScanEnds later j r) refl (comes_clean (acts past) h (scan run mail job) ScanEnds clean (scan_comes (acts past) unmade))
