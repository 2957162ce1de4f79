-- What comes of a command that only looks: its folder is absent, its sequences are too long, its words are refused, or it goes on, each by what it just read.
use Rattle.std.proofs.Common.{◌≡◌, ◌∷◌, [], ℕ, List, Result, Ok, Err, inl, inr, refl}
use Rattle.mh_base.specs.Entries.{entry_text}
use Rattle.mh_base.specs.declared.entry.Entry.TheVariants.{Sequences}
use Rattle.mh_profile.specs.declared.named_value.NamedValue.{NamedValue}
use Rattle.folder_files.specs.Careful.{WasMade}
use Rattle.folder_files.specs.Deeds.{Deed, did}
use Rattle.folder_files.specs.declared.place.Place.{Place}
use Rattle.folder_files.specs.declared.place.Place.TheVariants.{Folder, Mail}
use Rattle.folder_files.specs.declared.refusal.Refusal.TheVariants as refusal
use Rattle.folder_files.specs.declared.step.Answer.{Answer}
use Rattle.folder_files.specs.declared.step.Answer.TheVariants as answer
use Rattle.folder_files.specs.declared.step.Step.TheVariants as step
use Rattle.file_plans.specs.Plan.{Hand, Plan, Return, ◌>>=◌}
use Rattle.step_plans.specs.CommandFaults.{of_stop}
use Rattle.step_plans.specs.ContextCommit.{LIMIT_BYTES, commit_context}
use Rattle.step_plans.specs.Hands.{temp_name}
use Rattle.step_plans.specs.declared.command_fault.CommandFault.{CommandFault}
use Rattle.step_plans.specs.declared.command_fault.CommandFault.TheVariants as fault
use Rattle.step_plans.specs.declared.fault.PlanFault.{PlanFault}
use Rattle.step_plans.proofs.Coming.{Comes, comes_lifted, comes_list, comes_on, comes_read, comes_stop, comes_then, comes_to}
use Rattle.step_plans.proofs.Ending.{CommitEnds, commit_comes, unmade_more}
use Rattle.step_plans.proofs.Going.{Outcome}
use Rattle.command_stages.specs.Current.{current_change, made_current}
use Rattle.command_stages.specs.Endings.{of_plan}
use Rattle.command_stages.specs.Listed.{folder_listed, names_by}
use Rattle.command_stages.specs.Texts.{text_by, text_read, too_large}
use Rattle.mh_looks.proofs.Ending.{comes_at, comes_recall}
use Rattle.opening_plans.specs.Reads.{TellsText}
use Rattle.told_folders.proofs.Front.{looks, then_decided, then_read}
use Rattle.mh_profile.specs.Reading.{entries_seen}

module _ (path folder : List ℕ) (h : Hand) where
  abbrev place : Place
  place = Folder path folder

  abbrev pub reading : Answer → Deed
  reading a = did (step.Read place (entry_text Sequences) LIMIT_BYTES) a

  abbrev pub after_list : List (List ℕ) → List Deed → List Deed
  after_list names own = did (step.List place) (answer.Names names) ∷ own

  abbrev pub after_both : List (List ℕ) → Answer → List Deed → List Deed
  after_both names a own = reading a ∷ after_list names own

  -- the folder is listed, or absent
  abbrev pub Listing : List Deed → Outcome (Result (List (List ℕ)) CommandFault)
  Listing own later j (Ok names) = (later ≡ after_list names own) × (j ≡ h)
  Listing own later j (Err e) = (later ≡ did (step.List place) answer.Gone ∷ own) × (j ≡ h) × (e ≡ fault.Refused (refusal.NoFolder folder))

  pub list_comes : (own : List Deed) → Comes own h (folder_listed place folder) (Listing own)
  unfolding folder_listed
  list_comes own =
      comes_list own h of_stop (Listing own) place (names_by folder) (λ names. comes_to _ h (Ok names) (Listing own) (refl, refl)) (comes_to _ h (Err (fault.Refused (refusal.NoFolder folder))) (Listing own) (refl, refl, refl))

  -- its sequences are read, or too long
  abbrev pub Reading : List Deed → Outcome (Result (List ℕ) CommandFault)
  Reading own later j (Ok text) = (a : Answer) × (later ≡ reading a ∷ own) × (j ≡ h) × TellsText place (entry_text Sequences) text (reading a) × (a ≡ answer.Failed → ⊥)
  Reading own later j (Err e) = (l : ℕ) × (later ≡ reading (answer.Long l) ∷ own) × (j ≡ h) × (e ≡ too_large l)

  pub text_comes : (own : List Deed) → Comes own h (text_read place (entry_text Sequences)) (Reading own)
  unfolding text_read
  text_comes own =
      comes_read own h of_stop (Reading own) place (entry_text Sequences) LIMIT_BYTES text_by (λ bytes. comes_to _ h (Ok bytes) (Reading own) (answer.Content bytes, refl, refl, inl (LIMIT_BYTES, refl), (λ e. cc (e))))
      (λ l. comes_to _ h (Err (too_large l)) (Reading own) (l, refl, refl, refl)) (comes_to _ h (Ok []) (Reading own) (answer.Gone, refl, refl, inr (LIMIT_BYTES, refl, refl), (λ e. cc (e))))

  -- the run's next name was not made in the mail directory; and neither of the two makes it
  abbrev pub IsUnmade : ℕ → List Deed → Type 0
  IsUnmade run own = WasMade (Mail path) (temp_name run h.next) own → ⊥

  pub unmade_both : (run : ℕ) (names : List (List ℕ)) (a : Answer) (own : List Deed) → IsUnmade run own → IsUnmade run (after_both names a own)
  unmade_both run names a own unmade =
      unmade_more (Mail path) (temp_name run h.next) (step.Read place (entry_text Sequences) LIMIT_BYTES) a (after_list names own) (λ b e. cc (e)) (unmade_more (Mail path) (temp_name run h.next) (step.List place) (answer.Names names) own (λ b e. cc (e)) unmade)

  -- where a fault of a plan shows nothing, the folder becomes the current one
  module _ (run : ℕ) (Shows : CommandFault → List Deed → Type 0) (of_plans : (e : PlanFault) (own : List Deed) → Shows (of_plan folder e) own) where
    abbrev pub Refuses : {A : Type 0} → Outcome (Result A CommandFault)
    Refuses later j (Ok a) = Unit {0}
    Refuses later j (Err e) = Shows e later

    pub current_comes : (own : List Deed) → IsUnmade run own → Comes own h (made_current run path folder) Refuses
    unfolding made_current
    current_comes own unmade =
        comes_then own h _ (λ (done : Unit {0}). Return (Ok tt)) Refuses Refuses
        (comes_lifted own h (of_plan folder) (commit_context run (Mail path) (current_change folder)) (CommitEnds run (Mail path) (current_change folder) h) Refuses
        (commit_comes run (Mail path) (current_change folder) h own unmade) (λ later j u q. tt) (λ later j e q. of_plans e later))
        (λ later j u q. comes_to later j (Ok tt) Refuses tt) (λ later j e q. q)

  module _ (A : Type 0) (seen : List (List ℕ) → List ℕ → List NamedValue → Result A CommandFault) (next : List (List ℕ) → A → Plan (Result Unit CommandFault)) (Q : Outcome (Result Unit CommandFault)) (own : List Deed) where
    abbrev decision : List (List ℕ) → List ℕ → Result A CommandFault
    decision names text = seen names text (entries_seen h.context)

    -- what the command's own part owes
    pub record Part : Type 0 where
      pub absent : Q (did (step.List place) answer.Gone ∷ own) h (Err (fault.Refused (refusal.NoFolder folder)))
      pub long : (names : List (List ℕ)) (l : ℕ) → Q (after_both names (answer.Long l) own) h (Err (too_large l))
      pub stops : (names : List (List ℕ)) (text : List ℕ) (a : Answer) → TellsText place (entry_text Sequences) text (reading a) → (e : CommandFault) → decision names text ≡ Err e → Q (after_both names a own) h (Err e)
      pub goes : (names : List (List ℕ)) (text : List ℕ) (a : Answer) → TellsText place (entry_text Sequences) text (reading a) → (a ≡ answer.Failed → ⊥) → (x : A) → decision names text ≡ Ok x → Comes (after_both names a own) h (next names x) Q

    module _ (part : Part) where
      decided_comes : (names : List (List ℕ)) (text : List ℕ) (a : Answer) → TellsText place (entry_text Sequences) text (reading a) → (a ≡ answer.Failed → ⊥) → Comes (after_both names a own) h (then_decided path folder A seen next names text) Q
      decided_comes names text a told live = comes_recall (after_both names a own) h _ (next names) Q (go (decision names text) refl)
        where
          go : (r : Result A CommandFault) → decision names text ≡ r → Comes (after_both names a own) h (Return r >>= next names) Q
          go (Ok x) is = comes_on (after_both names a own) h x (next names) Q (part.goes names text a told live x is)
          go (Err e) is = comes_stop (after_both names a own) h e (next names) Q (part.stops names text a told e is)

      too_long : (names : List (List ℕ)) (later : List Deed) (j : Hand) (e : CommandFault) → Reading (after_list names own) later j (Err e) → Q later j (Err e)
      too_long names later j e r = rw (r.1, r.2, r.3) (part.long names r.0)

      absent_folder : (later : List Deed) (j : Hand) (e : CommandFault) → Listing own later j (Err e) → Q later j (Err e)
      absent_folder later j e q = rw (q.0, q.1, q.2) part.absent

      read_comes : (names : List (List ℕ)) → Comes (after_list names own) h (then_read path folder A seen next names) Q
      read_comes names =
          comes_then (after_list names own) h (text_read place (entry_text Sequences)) (λ text. then_decided path folder A seen next names text) (Reading (after_list names own)) Q (text_comes (after_list names own))
          (λ later j text r. comes_at later (after_both names r.0 own) j h (then_decided path folder A seen next names text) Q r.1 r.2 (decided_comes names text r.0 r.3 r.4)) (too_long names)

      pub front_comes : Comes own h (looks path folder A seen next) Q
      front_comes =
          comes_then own h (folder_listed place folder) (λ names. then_read path folder A seen next names) (Listing own) Q (list_comes own)
          (λ later j names q. comes_at later (after_list names own) j h (then_read path folder A seen next names) Q q.0 q.1 (read_comes names)) absent_folder
