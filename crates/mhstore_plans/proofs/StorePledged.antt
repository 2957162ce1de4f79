-- `mhstore` goes as it pledges.
use Rattle.std.proofs.Common.{◌≡◌, ◌<◌, ◌^◌, ◌++◌, ◌∷◌, [], ℕ, Bool, true, false, List, Option, Some, None, Result, Ok, Err, refl, sym, ◌∙◌, append_assoc}
use Rattle.mh_base.specs.Entries.{entry_text, kind_of}
use Rattle.mh_base.specs.Numbers.{IsMsgNum}
use Rattle.mh_base.specs.declared.entry.Entry.TheVariants.{Number, Sequences}
use Rattle.mh_profile.specs.declared.named_value.NamedValue.{NamedValue}
use Rattle.msg_ranges.proofs.Rising.{lists, first_listed, other_listed}
use Rattle.sequence_commits.specs.RunsOfAll.{runs_of_all}
use Rattle.sequence_commits.proofs.RunTests.{all_runs}
use Rattle.folder_files.specs.Careful.{IsRead}
use Rattle.folder_files.specs.Deeds.{Deed, Once, did, now}
use Rattle.folder_files.specs.Named.{is_other}
use Rattle.folder_files.specs.declared.place.Place.{Place}
use Rattle.folder_files.specs.declared.place.Place.TheVariants.{Folder, Mail}
use Rattle.folder_files.specs.declared.refusal.Refusal.TheVariants as refusal
use Rattle.folder_files.specs.declared.step.Answer.{Answer}
use Rattle.folder_files.specs.declared.step.Answer.TheVariants as answer
use Rattle.folder_files.specs.declared.step.Step.{Step}
use Rattle.folder_files.specs.declared.step.Step.TheVariants as step
use Rattle.file_plans.specs.Follows.{Follows, State}
use Rattle.file_plans.specs.Plan.{Hand, lifted}
use Rattle.file_plans.specs.Rules.{IfOkay, Keeps}
use Rattle.file_plans.specs.Runs.{Deed as Done}
use Rattle.file_plans.specs.Sightings.{has_number}
use Rattle.file_plans.proofs.Acting.{acts}
use Rattle.file_plans.proofs.Framing.{AnyStep}
use Rattle.step_plans.specs.CommandFaults.{command_cause, of_sink, of_stop}
use Rattle.step_plans.specs.ContextCommit.{LIMIT_BYTES, commit_context}
use Rattle.step_plans.specs.Pledges.{Pledge}
use Rattle.step_plans.specs.Promises.{Promises}
use Rattle.step_plans.specs.Settled.{AreSettled}
use Rattle.step_plans.specs.declared.change.ChangeEntry.{ChangeEntry}
use Rattle.step_plans.specs.declared.command_fault.CommandFault.{CommandFault}
use Rattle.step_plans.specs.declared.command_fault.CommandFault.TheVariants as fault
use Rattle.step_plans.proofs.Facts.{once_kept, settled_kept}
use Rattle.step_plans.proofs.Going.{ByActs, Goes, Outcome, Sound, Soundly, goes_keeps, goes_lifted, goes_more, goes_then, okay, okay_more}
use Rattle.step_plans.proofs.Pledged.{IsPledged, Known, Of, commit_goes}
use Rattle.step_plans.proofs.Promising.{keeps_pledge}
use Rattle.step_plans.proofs.Ruling.{rules_of}
use Rattle.step_plans.proofs.Stepping.{goes_end, goes_list, goes_read, goes_return, goes_say}
use Rattle.command_stages.specs.Current.{current_change, made_current}
use Rattle.command_stages.specs.Endings.{of_plan}
use Rattle.command_stages.specs.Listed.{folder_listed, names_by}
use Rattle.command_stages.specs.Texts.{text_by, text_read, too_large}
use Rattle.mh_looks.specs.ScanPledge.{HasListed}
use Rattle.mh_looks.proofs.LooksLeave.{goes_chosen}
use Rattle.opening_plans.proofs.ChosenListed.{has_ranged, words_listed}
use Rattle.opening_plans.proofs.EndedKept.{Still, keeps_more}
use Rattle.told_folders.specs.Plans.{lines_said}
use Rattle.told_folders.specs.Tasks.{listed_runs, sequences_listed}
use Rattle.told_folders.proofs.ChangesPledged.{sound_first}
use Rattle.part_rows.specs.Choices.{first_missing, stored}
use Rattle.part_rows.specs.FileNames.{StoredFile, files_of}
use Rattle.part_rows.specs.PartViews.{parts_of}
use Rattle.mhlist_plans.specs.Listing.{no_part}
use Rattle.mhstore_plans.specs.Files.{file_stored}
use Rattle.mhstore_plans.specs.StorePledge.{HasStoredAs, IsPartRead, TellsStored, store_pledge}
use Rattle.mhstore_plans.specs.Storing.{all_filed, all_stored, chosen_seen, filed_unless, mhstore, one_filed, one_stored, stored_by, told_by}
use Rattle.mhstore_plans.specs.declared.job.StoreJob.{StoreJob}
use Rattle.mhstore_plans.proofs.FilePledged.{After, Stored, more_after, none_after, once_after, part_after, serves_context, stored_goes}
use Rattle.mhstore_plans.proofs.StoreGiven.{AreFine, fine_parts}
use Rattle.mh_profile.specs.Reading.{entries_seen}

-- a step that looks
look_after : (own : List Deed) (s : Step) (a : Answer) → (AreSettled own → AreSettled (did s a ∷ own)) → After own (did s a ∷ own)
look_after own s a k = record { newer = did s a ∷ []; is = refl; settled = k }

module _ (run : ℕ) (few : run < 2 ^ 128) (path : List ℕ) (job : StoreJob) where
  abbrev v : Pledge
  v = store_pledge run path job

  abbrev place : Place
  place = Folder path job.folder

  abbrev Later : {A : Type 0} → List Deed → Outcome A
  Later own later j a = After own later

  -- a file is stored, and then its line is told
  told : (f : StoredFile) (own later : List Deed) (j : Hand) (free : Bool) → IsPartRead path job f own → After own later × (free ≡ true → HasStoredAs run f.name f.content later) → Goes v later j (told_by f.name f.line free) (okay (Later own))
  unfolding lines_said
  told f own later j true part s =
      goes_say v later j of_sink (okay (Later own)) f.line (λ told. lines_said [])
      (λ sound. record { file = f; part = part_after path job f own later s.0 part; line = refl; stored = s.1 refl }) (goes_return v later j tt (okay (Later own)) s.0)
  told f own later j false part s = goes_end v later j (fault.Refused (refusal.WouldReplace f.name)) (Later own)

  file_goes : (f : StoredFile) → is_other (kind_of f.name) ≡ true → (own : List Deed) (h : Hand) → IsPartRead path job f own → Goes v own h (one_filed run job f) (okay (Later own))
  unfolding one_filed
  file_goes f other own h part =
      goes_then v own h (lifted (of_plan job.folder) (file_stored run job.clobber f.name f.content)) (λ free. told_by f.name f.line free) (Stored run few path job (TellsStored run path job) f other own) (Later own)
      (goes_lifted v own h (of_plan job.folder) (file_stored run job.clobber f.name f.content) (Stored run few path job (TellsStored run path job) f other own) (stored_goes run few path job (TellsStored run path job) f other own h part))
      (λ later j free s. told f own later j free part (by later j free s))
    where
      by : (later : List Deed) (j : Hand) (free : Bool) → Stored run few path job (TellsStored run path job) f other own later j free → After own later × (free ≡ true → HasStoredAs run f.name f.content later)
      by later j true s = (s.0, λ e. s.1)
      by later j false s = (s, λ e. absurd (cc (e)))

  -- the files of a message that was read
  module _ (n : ℕ) (message : List ℕ) where
    abbrev WasRead : List Deed → Type 0
    WasRead own = Once (λ d older. IsRead place (entry_text (Number n)) message d) own

    files_go : (before fs : List StoredFile) → files_of n job.parts message ≡ before ++ fs → AreFine fs → (own : List Deed) (h : Hand) → WasRead own → Goes v own h (all_filed run job fs) (okay (Later own))
    unfolding all_filed
    files_go before [] is fine own h read = goes_return v own h tt (okay (Later own)) (none_after own)
    files_go before (f ∷ fs) is fine own h read =
        goes_then v own h (one_filed run job f) (λ filed. all_filed run job fs) (Later own) (Later own) (file_goes f fine.0.other own h (record { number = n; message = message; read = read; among = (before, (fs, is)) }))
        (λ later j u a. goes_more v later j (all_filed run job fs) (okay (Later later)) (okay (Later own)) (okay_more (Later later) (Later own) (λ last i w b. more_after own later last a b))
        (files_go (before ++ f ∷ []) fs (is ∙ sym (append_assoc before (f ∷ []) fs)) fine.1 later j (once_after _ own later a read)))

    parts_go : IsMsgNum n → (missing : Option (List ℕ)) (own : List Deed) (h : Hand) → WasRead own → Goes v own h (filed_unless run job n message missing) (okay (Later own))
    parts_go ok None own h read = files_go [] (files_of n job.parts message) refl (fine_parts n ok (stored job.parts (parts_of message))) own h read
    parts_go ok (Some part) own h read = goes_end v own h (no_part part) (Later own)

  -- a message
  one_goes : (n : ℕ) → IsMsgNum n → (own : List Deed) (h : Hand) → Goes v own h (one_stored run job place n) (okay (Later own))
  unfolding one_stored
  one_goes n ok own h =
      goes_read v own h of_stop (okay (Later own)) place (entry_text (Number n)) LIMIT_BYTES (stored_by run job place n)
      (λ bytes. goes_more v (reading bytes) h (filed_unless run job n bytes (first_missing job.parts (parts_of bytes))) (okay (Later (reading bytes))) (okay (Later own))
      (okay_more (Later (reading bytes)) (Later own) (λ later j u a. more_after own (reading bytes) later (look_after own (step.Read place (entry_text (Number n)) LIMIT_BYTES) (answer.Content bytes) (settled_kept own (step.Read place (entry_text (Number n)) LIMIT_BYTES) (answer.Content bytes) tt)) a))
      (parts_go n bytes ok (first_missing job.parts (parts_of bytes)) (reading bytes) h (now (LIMIT_BYTES, refl))))
      (λ l. goes_end v _ h (too_large l) (Later own)) (goes_end v _ h (fault.Meddled place (entry_text (Number n))) (Later own))
    where
      reading : List ℕ → List Deed
      reading bytes = did (step.Read place (entry_text (Number n)) LIMIT_BYTES) (answer.Content bytes) ∷ own

  -- these messages
  all_goes : (ns : List ℕ) → ((n : ℕ) → lists ns n ≡ true → IsMsgNum n) → (own : List Deed) (h : Hand) → Goes v own h (all_stored run job place ns) (okay (Later own))
  unfolding all_stored
  all_goes [] ok own h = goes_return v own h tt (okay (Later own)) (none_after own)
  all_goes (n ∷ ns) ok own h =
      goes_then v own h (one_stored run job place n) (λ done. all_stored run job place ns) (Later own) (Later own) (one_goes n (ok n (first_listed n ns)) own h)
      (λ later j u a. goes_more v later j (all_stored run job place ns) (okay (Later later)) (okay (Later own)) (okay_more (Later later) (Later own) (λ last i w b. more_after own later last a b)) (all_goes ns (λ k e. ok k (other_listed n k ns e)) later j))

  -- the folder is listed, and its sequences are read
  abbrev Lists : List Deed → Outcome (List (List ℕ))
  Lists own later j names = After own later × HasListed place later

  listed_goes : (own : List Deed) (h : Hand) → Goes v own h (folder_listed place job.folder) (okay (Lists own))
  unfolding folder_listed
  listed_goes own h =
      goes_list v own h of_stop (okay (Lists own)) place (names_by job.folder)
      (λ names. goes_return v _ h names (okay (Lists own)) (look_after own (step.List place) (answer.Names names) (settled_kept own (step.List place) (answer.Names names) tt), now (names, refl)))
      (goes_end v _ h (fault.Refused (refusal.NoFolder job.folder)) (Lists own))

  text_goes : (own : List Deed) (h : Hand) → Goes v own h (text_read place (entry_text Sequences)) (okay (Later own))
  unfolding text_read
  text_goes own h =
      goes_read v own h of_stop (okay (Later own)) place (entry_text Sequences) LIMIT_BYTES text_by (λ bytes. goes_return v _ h bytes (okay (Later own)) (read_after (answer.Content bytes))) (λ l. goes_end v _ h (too_large l) (Later own))
      (goes_return v _ h [] (okay (Later own)) (read_after answer.Gone))
    where
      read_after : (a : Answer) → After own (did (step.Read place (entry_text Sequences) LIMIT_BYTES) a ∷ own)
      read_after a = look_after own (step.Read place (entry_text Sequences) LIMIT_BYTES) a (settled_kept own (step.Read place (entry_text Sequences) LIMIT_BYTES) a tt)

  -- the folder becomes the current one
  abbrev current : List ChangeEntry
  current = current_change job.folder

  listed_pledged : IsPledged v (Mail path) current AnyStep (HasListed place)
  listed_pledged = record {
    asks = record { make = tt; lock = tt; list = tt; clear = λ temp is. tt; read = tt; create = λ temp bytes. tt; sync_file = λ temp. tt; rename = λ temp. tt; sync = tt; unlock = tt };
    keeps = once_kept _ AnyStep;
    may = λ later old f. (f, (refl, refl, refl));
    lets = λ later temp f lock m. λ e. absurd (cc (e));
  }

  -- what was settled of commits stays so
  abbrev StillBy : List Deed → Outcome Unit
  StillBy own later j u = AreSettled own → AreSettled later

  noted_goes : (own : List Deed) (h : Hand) → HasListed place own → Goes v own h (made_current run path job.folder) (okay (StillBy own))
  unfolding made_current
  noted_goes own h listed =
      goes_then v own h (lifted (of_plan job.folder) (commit_context run (Mail path) current)) _ (Of (Known v own (Mail path) current h)) (StillBy own)
      (goes_lifted v own h (of_plan job.folder) (commit_context run (Mail path) current) (Of (Known v own (Mail path) current h))
      (commit_goes v few path (serves_context run few path job (TellsStored run path job)) current AnyStep (HasListed place) listed_pledged own h listed))
      (λ later j u k. goes_return v later j tt (okay (StillBy own)) k.settled_still)

  noted_after : (own later : List Deed) (h : Hand) → (AreSettled own → AreSettled later) → HasListed place later → Goes v later h (made_current run path job.folder) (okay (StillBy own))
  noted_after own later h f listed =
      goes_more v later h (made_current run path job.folder) (okay (StillBy later)) (okay (StillBy own)) (okay_more (StillBy later) (StillBy own) (λ last j u g s. g (f s))) (noted_goes later h listed)

  -- the numbers that words choose are those of messages
  chosen_ranged : (names : List (List ℕ)) (text : List ℕ) (entries : List NamedValue) (numbers : List ℕ) → chosen_seen job names text entries ≡ Ok numbers → (n : ℕ) → lists numbers n ≡ true → IsMsgNum n
  chosen_ranged names text entries numbers is n e =
      has_ranged (runs_of_all (λ k. has_number k names)) (all_runs (λ k. has_number k names)) n (words_listed job.negation (listed_runs names) (sequences_listed names text entries job.folder) job.specs numbers is n e)

  store_goes : (own : List Deed) (h : Hand) → Goes v own h (mhstore run path job) (okay (StillBy own))
  unfolding mhstore
  store_goes own h =
      goes_then v own h (folder_listed place job.folder) _ (Lists own) (StillBy own) (listed_goes own h) (λ later j names f.
      goes_then v later j (text_read place (entry_text Sequences)) _ (Later later) (StillBy own) (text_goes later j) (λ next i text g.
      goes_chosen v next i (λ k. chosen_seen job names text (entries_seen k.context)) _ (StillBy own) (λ numbers is.
      goes_then v next i (all_stored run job place numbers) _ (Later next) (StillBy own) (all_goes numbers (chosen_ranged names text (entries_seen i.context) numbers is) next i) (λ last k u s.
      noted_after own last k (λ x. s.settled (g.settled (f.0.settled x))) (once_after _ next last s (once_after _ later next g f.1))))))

  stored_so : (own : List Deed) (past : List Done) (h : Hand) (r : Result Unit CommandFault) → Sound v (acts past) h → okay (StillBy own) (acts past) h r → IfOkay (Still own) past h r
  stored_so own past h (Ok u) s f = record { settled = f; unfailed = s.unfailed }
  stored_so own past h (Err e) s f = tt

  pub store_keeps : (past : List Done) (h : Hand) → Sound v (acts past) h → Keeps (rules_of v) past h (mhstore run path job) (IfOkay (Still (acts past)))
  store_keeps past h sound =
      keeps_more (rules_of v) past h (mhstore run path job) (ByActs (Soundly v (okay (StillBy (acts past))))) (IfOkay (Still (acts past))) (λ later j r q. stored_so (acts past) later j r q.0 q.1)
      (goes_keeps v past (acts past) h (mhstore run path job) (okay (StillBy (acts past))) refl sound (store_goes (acts past) h))

  pub store_promises : (x y : State) (result : Result Unit CommandFault) → Follows run command_cause (mhstore run path job) x y result → Promises v x y
  store_promises x y result f = keeps_pledge v command_cause (mhstore run path job) x y result (IfOkay (Still [])) (store_keeps [] x.hand (sound_first v x.hand)) f
