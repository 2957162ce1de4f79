-- How a command ends whose words name one that begins a folder, and what shows it.
use Rattle.std.proofs.Common.{◌≡◌, ◌≢◌, ◌⊎◌, ◌<◌, inl, inr, ◌^◌, ◌∷◌, [], ℕ, Bool, true, false, List, Option, Some, None, Result, Ok, Err, refl, sym, ◌∙◌, ap, subst}
use Rattle.std.specs.Prelude.{map}
use Rattle.std.specs.Str.{chars}
use Rattle.mh_base.specs.Entries.{kind_of}
use Rattle.mh_profile.specs.declared.named_value.NamedValue.{NamedValue}
use Rattle.folder_files.specs.Annotations.{are_annotations}
use Rattle.folder_files.specs.Careful.{WasMade}
use Rattle.folder_files.specs.Deeds.{Deed, Once}
use Rattle.folder_files.specs.Named.{is_number}
use Rattle.folder_files.specs.declared.place.Place.TheVariants.{Folder, Mail}
use Rattle.folder_files.specs.declared.refusal.Refusal.TheVariants as refusal
use Rattle.folder_files.specs.declared.step.Answer.{Answer}
use Rattle.file_plans.specs.Text.{said_of}
use Rattle.file_plans.specs.Plan.{Hand, converted, fresh, ◌>>=◌}
use Rattle.file_plans.specs.Rules.{IfOkay, Keeps, Rules}
use Rattle.file_plans.specs.Runs as runs
use Rattle.file_plans.specs.Runs.{Exit, OutFailed, Returned, Runs}
use Rattle.file_plans.proofs.Acting.{acts}
use Rattle.file_plans.proofs.Keeping.{run_keeps}
use Rattle.step_plans.specs.Endings.{IsTakenAway}
use Rattle.step_plans.specs.Hands.{knowing, temp_name}
use Rattle.step_plans.specs.Pledges.{Pledge}
use Rattle.step_plans.specs.declared.command_fault.CommandFault.{CommandFault}
use Rattle.step_plans.specs.declared.command_fault.CommandFault.TheVariants as fault
use Rattle.step_plans.proofs.Coming.{Comes, NoneFailed, OfActs, anything}
use Rattle.step_plans.proofs.Going.{Outcome}
use Rattle.step_plans.proofs.Ruling.{rules_of}
use Rattle.step_plans.proofs.Refusals.{IsRefusal}
use Rattle.command_stages.specs.Texts.{Commanded}
use Rattle.mh_looks.proofs.Ending.{ScanEnds, ScanShows}
use Rattle.opening_plans.specs.Endings.{IsEndedBy, IsToldBy, PutsNone, ShowsEnd, at_once}
use Rattle.opening_plans.proofs.CleanRuns.{Clean, comes_both}
use Rattle.opening_plans.proofs.EndedKept.{Still, keeps_more}
use Rattle.opening_plans.proofs.Speaking.{keeps_both, run_speaks, speaking, speaks_more}
use Rattle.opening_plans.proofs.WorkEnds.{EndsBeside, EndsSo}
use Rattle.mark_command.specs.Mark.{look_task, mark, mark_by_act, mark_task}
use Rattle.mark_command.specs.declared.job.MarkAct.{MarkAct}
use Rattle.mark_command.specs.declared.job.MarkJob.{MarkJob}
use Rattle.mark_command.proofs.Orderly.{look_orderly, mark_orderly}
use Rattle.pick_plans.specs.Pick.{pick, pick_by, pick_changes, pick_looks}
use Rattle.pick_plans.specs.PickAnswers.{HasFound, HasFoundListed, TellsFound}
use Rattle.pick_plans.specs.declared.job.PickJob.{PickJob}
use Rattle.pick_plans.specs.declared.job.PickMarks.{PickMarks}
use Rattle.pick_plans.proofs.ListingSays.{listing_says as finding_says}
use Rattle.pick_plans.proofs.LooksEnd.{Looks as PickLooks, looks_comes as finding_comes}
use Rattle.pick_plans.proofs.LooksRefused.{Refuses as PickRefuses, looks_refuses as finding_refuses}
use Rattle.pick_plans.proofs.PickEnds.{changes_end as marking_ends}
use Rattle.pick_plans.proofs.PickSays.{changes_say as marking_says}
use Rattle.told_folders.specs.Answers.{HasChanged, TellsFolder}
use Rattle.told_folders.specs.Plans.{folder_changed, folder_looked}
use Rattle.told_folders.specs.Tasks.{IsOrderly, Task}
use Rattle.told_folders.proofs.ChangesEnd.{changes_end}
use Rattle.told_folders.proofs.ChangesSay.{changes_say}
use Rattle.told_folders.proofs.LooksEnd.{looks_comes, looks_job}
use Rattle.told_folders.proofs.LooksRefused.{Refuses, looks_refuses}
use Rattle.told_folders.proofs.LooksSay.{listing_says}
use Rattle.folder_command.specs.Folder.{folder as tell, folder_by, task_with}
use Rattle.folder_command.specs.declared.job.FolderJob.{FolderJob}
use Rattle.folder_command.proofs.Orderly.{orderly}
use Rattle.pack_plans.specs.Pack.{pack}
use Rattle.pack_plans.specs.PackPledge.{TellsPacked}
use Rattle.pack_plans.specs.declared.job.PackJob.{PackJob}
use Rattle.pack_plans.proofs.PackEnds.{pack_ends}
use Rattle.pack_plans.proofs.PackSays.{pack_says}
use Rattle.anno_plans.specs.Anno.{anno}
use Rattle.anno_plans.specs.AnnoAnswers.{ShowsAnno}
use Rattle.anno_plans.specs.AnnoDone.{HasNotedChosen}
use Rattle.anno_plans.specs.AnnoPledge.{anno_pledge}
use Rattle.anno_plans.specs.declared.job.AnnoJob.{AnnoJob}
use Rattle.anno_plans.proofs.AnnoDone.{Has as HasNoted, anno_done}
use Rattle.anno_plans.proofs.AnnoEnds.{anno_ends}
use Rattle.anno_words.proofs.Said.{anno_annotates, anno_refuses}
use Rattle.message_lines.specs.MessageText.{Writing}
use Rattle.message_lines.specs.declared.standing.Standing.{Standing}
use Rattle.sortm_plans.specs.Sort.{sortm}
use Rattle.sortm_plans.specs.SortAnswers.{ShowsSort}
use Rattle.sortm_plans.specs.SortDone.{HasSortedChosen}
use Rattle.sortm_plans.specs.SortPledge.{sortm_pledge}
use Rattle.sortm_plans.specs.declared.job.SortJob.{SortJob}
use Rattle.sortm_plans.proofs.SortDone.{Has as HasSorted, sortm_done}
use Rattle.sortm_plans.proofs.SortEnds.{sortm_ends}
use Rattle.sort_words.proofs.Said.{sort_refuses}
use Rattle.mhlist_plans.specs.ListAnswers.{IsNoPart, TellsFirstRows}
use Rattle.mhlist_plans.specs.Listing.{mhlist}
use Rattle.mhlist_plans.specs.declared.job.ListJob.{ListJob}
use Rattle.mhlist_plans.proofs.ListEnds.{Looks as PartsLook, list_comes}
use Rattle.mhlist_plans.proofs.ListRefused.{Refuses as PartsRefuse, list_refuses}
use Rattle.mhlist_plans.proofs.ListSays.{list_says}
use Rattle.list_words.specs.ListWords.{list_said}
use Rattle.list_words.proofs.Said.{list_refuses as list_words_refuse}
use Rattle.mhstore_plans.specs.StoreAnswers.{IsNoStoring, ShowsStoring, TellsFirstFiles}
use Rattle.mhstore_plans.specs.Storing.{mhstore}
use Rattle.mhstore_plans.specs.declared.job.StoreJob.{StoreJob}
use Rattle.mhstore_plans.proofs.StoreEnds.{Ends as StoreEnd, store_comes}
use Rattle.mhstore_plans.proofs.StoreSays.{store_says}
use Rattle.store_words.specs.StoreWords.{store_said}
use Rattle.store_words.proofs.Said.{store_refuses as store_words_refuse}
use Rattle.inc_plans.specs.Inc.{inc}
use Rattle.inc_plans.specs.IncAnswers.{IsTextOfNew, ShowsInc, ShowsIncorporating}
use Rattle.refile_plans.specs.Rmm.{rmm}
use Rattle.refile_plans.specs.RmmAnswers.{HasRemovedChosen, rmm_answers}
use Rattle.refile_plans.proofs.RmmEnds.{rmm_ends}
use Rattle.refile_plans.proofs.RmmPledged.{rmm_keeps as rmm_pledged}
use Rattle.refile_plans.specs.RmmPledge.{rmm_pledge}
use Rattle.refile_plans.specs.declared.job.RmmJob.{RmmJob}
use Rattle.command_words.specs.Ended.{plain}
use Rattle.look_words.specs.IncWords.{inc_said}
use Rattle.folder_words.specs.MarkWords.{mark_said}
use Rattle.folder_words.specs.RmmWords.{rmm_said}
use Rattle.folder_words.specs.TellWords.{tell_said}
use Rattle.command_words.specs.declared.ended.Ended.{Ended}
use Rattle.folder_words.specs.declared.folder.FolderWords.{FolderWords}
use Rattle.sort_words.specs.SortWords.{sort_said}
use Rattle.command_ends.specs.BegunCauses.{IsJobOn, ListsBy, PicksBy, ShowsChangedTask, ShowsEarly, ShowsFault, ShowsFinding, ShowsIncJob, ShowsListingParts, ShowsMarking, ShowsMarkingFound, ShowsNamed, ShowsNoting, ShowsOn, ShowsOnFolder, ShowsPacking, ShowsPickJob, ShowsRemoving, ShowsSilent, ShowsSorting, ShowsStoringParts, ShowsTask, ShowsTelling, ShowsToldTask, ShowsWords, StoresBy, TellsNoneBy, TellsOnFolder, long_entries, wrong_stored}
use Rattle.command_ends.specs.Causes.{ByReadings, ShowsCommandFault, long_context, long_profile}
use Rattle.command_plans.specs.Command.{anno_begun, anno_job, annotated_by, by_words, command, command_by, folder_begun, folder_found, inc_begun, list_begun, list_job, mark_begun, mark_job, pack_begun, pack_job, pick_begun, pick_job, picked_by, rmm_begun, rmm_job, sort_begun, sort_job, store_begun, store_job, task_begun, tell_begun, tell_job, word_by}
use Rattle.command_plans.specs.CommandNames.{shows_ends, command_of, named}
use Rattle.command_plans.specs.Incorporating.{IncAsked, job_by, job_writing}
use Rattle.command_plans.specs.Looking.{WritesAs, look_found, written_by}
use Rattle.command_plans.specs.Profile.{entries_by, folder_of, path_of}
use Rattle.command_ends.specs.WordCauses.{AreWordsOf, IsRefusedByWords, OfSaid, asked_file, named_refusal, refusal_in}
use Rattle.command_plans.specs.declared.name.CommandName.{CommandName}
use Rattle.command_plans.specs.declared.name.CommandName.TheVariants.{Anno, Folder as FolderCommand, Inc, Mark, Mhlist, Mhstore, Pick, Rmm, Sortm}
use Rattle.command_plans.specs.declared.caller.Caller.{Caller}
use Rattle.command_ends.proofs.Ending.{scan_shows}
use Rattle.command_ends.proofs.IncEnding.{BehindLook, TakesIn, ToldSo, inc_comes}
use Rattle.command_ends.proofs.BegunParts.{Behind, Later, after_context, after_profile, begun_clean, behind_kept, ended_more, held_none, later_keeps, made_none, numbered_there, put_none, quietly_keeps, taken_none}
use Rattle.command_ends.proofs.Begins.{command_keeps, context_then, folder_then, silent_then, words_keep}
use Rattle.command_plans.proofs.LookFound.{Looked, look_comes, look_deeds, look_silent}
use Rattle.command_plans.proofs.Refusals.{job_refuses, mark_refuses, rmm_refuses, tell_refuses}
use Rattle.command_plans.proofs.SaidPick.{pick_refuses}
use Rattle.command_ends.proofs.WordEnding.{file_by, format_shown, refusal_of, refused_by}

module _ (run : ℕ) (few : run < 2 ^ 128) (caller : Caller) (words_ : List (List ℕ)) where
  abbrev Shows : CommandFault → List Deed → Type 0
  Shows e own = ShowsFault run caller words_ e own

  -- what it may say
  abbrev Spoken : List ℕ → List Deed → Type 0
  Spoken text own = TellsOnFolder run caller words_ text own

  abbrev pub Speech : Rules
  Speech = speaking Spoken

  -- how the command ends
  abbrev pub EndsBy : List runs.Deed → Hand → Result Unit Ended → Type 0
  EndsBy past h (Ok u) = ShowsOnFolder run caller words_ (Ok (said_of past)) (acts past)
  EndsBy past h (Err x) = IsEndedBy Shows x.fault (acts past)

  -- and a plan whose faults speak of no word
  abbrev Plainly : List runs.Deed → Hand → Result Unit CommandFault → Type 0
  Plainly past h r = EndsBy past h (converted plain r)

  -- an end before the command came to a folder
  pub early : (e : CommandFault) (own : List Deed) → ShowsEarly e own → NoneFailed own → IsEndedBy Shows e own
  early _ own (wrong_stored f) clean = at_once (inr (inl (wrong_stored f))) clean
  early _ _ (long_entries long_profile) clean = at_once (inr (inl (long_entries long_profile))) clean
  early _ _ (long_entries long_context) clean = at_once (inr (inl (long_entries long_context))) clean

  -- a refusal that is shown
  refusal_ends : (e : CommandFault) (own : List Deed) → IsRefusal e → Shows e own → NoneFailed own → IsEndedBy Shows e own
  refusal_ends e own r s clean = subst (λ z. IsEndedBy Shows z own) (sym r.1) (at_once (subst (λ z. Shows z own) r.1 s) clean)

  -- one whose words are refused
  pub refused_shown : (a : Answer) (x : Ended) (past : List runs.Deed) → acts past ≡ after_profile a → IsRefusal x.fault → IsRefusedByWords caller words_ x.fault (after_profile a) → NoneFailed (acts past) → IsEndedBy Shows x.fault (acts past)
  refused_shown a x past is r s clean = refusal_ends x.fault (acts past) r (inl (subst (λ o. IsRefusedByWords caller words_ x.fault o) (sym is) s)) clean

  -- that of a command that looks
  looked : (e : CommandFault) (own : List Deed) → ShowsCommandFault run e own → (ShowsCommandFault run e own → Shows e own) → NoneFailed own → IsEndedBy Shows e own
  looked (fault.Refused r) own s so clean = at_once (so s) clean
  looked (fault.Faulted which) own s so clean = absurd s
  looked (fault.Locked q) own s so clean = at_once (so s) clean
  looked (fault.Meddled q x) own s so clean = (so s, clean)
  looked fault.Memory own s so clean = absurd s

  -- or that ends otherwise
  looked_or : (X : Type 0) (folder path : List ℕ) (e : CommandFault) (own : List Deed) → ScanShows run path folder e own ⊎ X → (ShowsCommandFault run e own ⊎ X → Shows e own) → (X → Shows e own → NoneFailed own → IsEndedBy Shows e own) → NoneFailed own
      → IsEndedBy Shows e own
  looked_or X folder path e own (inl s) shows other clean = looked e own (scan_shows run path folder e own s) (λ z. shows (inl z)) clean
  looked_or X folder path e own (inr x) shows other clean = other x (shows (inr x)) clean

  -- the storing of files: a part is missing or a file is there; or a file could not be stored
  storing_ends : (e : CommandFault) (own : List Deed) → IsNoStoring e ⊎ ShowsStoring run e own → Shows e own → NoneFailed own → IsEndedBy Shows e own
  storing_ends e own (inl (inl lacks)) s clean = refusal_ends e own (refusal.NoPart lacks.0, lacks.1) s clean
  storing_ends e own (inl (inr meets)) s clean = refusal_ends e own (refusal.WouldReplace meets.0, meets.1) s clean
  storing_ends (fault.Refused r) own (inr f) s clean = absurd f
  storing_ends (fault.Faulted which) own (inr f) s clean = absurd f
  storing_ends (fault.Locked q) own (inr f) s clean = absurd f
  storing_ends (fault.Meddled q x) own (inr f) s clean = (s, clean)
  storing_ends fault.Memory own (inr f) s clean = tt

  -- the profile was read
  module _ (a : Answer) where
    abbrev profile : List NamedValue
    profile = entries_by a

    abbrev path : List ℕ
    path = path_of profile

    -- what holds by both readings
    by_readings : (b : Answer) (own : List Deed) (Holds : Answer → Answer → Type 0) → Behind a b own → Holds a b → ByReadings Holds own
    by_readings b own Holds f holds = record { profile = a; context = b; newer = f.0; begun = f.1; holds = holds }

    -- what shows how the command ended on its folder
    abbrev OnFolder : Answer → (Result (List ℕ) CommandFault → List Deed → Type 0) → Type 0
    OnFolder b S = (r : Result (List ℕ) CommandFault) (own : List Deed) → Behind a b own × S r own → ShowsOnFolder run caller words_ r own

    -- both readings were made
    module _ (past : List runs.Deed) (b : Answer) (is : acts past ≡ after_context path a b) (clean : NoneFailed (acts past)) (silent : said_of past ≡ []) where
      abbrev hand : Hand
      hand = knowing (entries_by b) fresh

      abbrev EndsPlainly : Commanded Unit → Type 0
      EndsPlainly q = Keeps Speech past hand q Plainly

      -- what it has said at its end is this
      abbrev SaidSo : (Result (List ℕ) CommandFault → List Deed → Type 0) → List runs.Deed → Hand → Result Unit CommandFault → Type 0
      SaidSo S later i r = IfOkay (λ last k u. Behind a b (acts last) × S (Ok (said_of last)) (acts last)) later i r

      begins : Clean run (acts past) hand
      begins = begun_clean run a b past is clean

      untaken : (folder x : List ℕ) → is_number (kind_of x) ≡ true → Once (λ d older. IsTakenAway (Folder path folder) x d) (acts past) → ⊥
      untaken folder x n t = taken_none run a b past is clean (Folder path folder) x n t

      unput : PutsNone (Mail path) (acts past)
      unput = put_none run a b past is clean (Mail path)

      unmade : WasMade (Mail path) (temp_name run hand.next) (acts past) → ⊥
      unmade w = made_none run a b past is clean (Mail path) (temp_name run hand.next) w

      -- a plan that tells this, and whose fault is shown by more
      told_on : (q : Commanded Unit) (S : Result (List ℕ) CommandFault → List Deed → Type 0) → OnFolder b S → (T : List ℕ → List Deed → Type 0) → ((text : List ℕ) (own : List Deed) → T text own → Spoken text own)
          → Keeps (speaking T) past hand q (SaidSo S) → Keeps anything past hand q (EndsBeside (λ e own. S (Err e) own) (Behind a b) (λ own. Unit {0})) → EndsPlainly q
      told_on q S on T tells says shown =
          keeps_more Speech past hand q (λ later i r. SaidSo S later i r × EndsBeside (λ e own. S (Err e) own) (Behind a b) (λ own. Unit {0}) later i r) Plainly more
          (keeps_both Speech anything past hand q (SaidSo S) (EndsBeside (λ e own. S (Err e) own) (Behind a b) (λ own. Unit {0})) (speaks_more T Spoken tells past hand q (SaidSo S) says) shown)
        where
          more : (later : List runs.Deed) (i : Hand) (r : Result Unit CommandFault) → SaidSo S later i r × EndsBeside (λ e own. S (Err e) own) (Behind a b) (λ own. Unit {0}) later i r → Plainly later i r
          more later i (Ok u) s = on (Ok (said_of later)) (acts later) s.0
          more later i (Err e) s = ended_more (λ k own. Behind a b own × S (Err k) own) Shows (λ k own f. inr (inr (on (Err k) own f))) e (acts later) s.1

      -- one that only looks
      looks_on : (q : Commanded Unit) (S : Result (List ℕ) CommandFault → List Deed → Type 0) → OnFolder b S → (T : List ℕ → List Deed → Type 0) → ((text : List ℕ) (own : List Deed) → T text own → Spoken text own) → (Q : Outcome (Result Unit CommandFault))
          → Keeps (speaking T) past hand q (SaidSo S) → Comes (acts past) hand q Q → ((own : List Deed) (i : Hand) (e : CommandFault) → Behind a b own → Q own i (Err e) → NoneFailed own → IsEndedBy Shows e own) → EndsPlainly q
      looks_on q S on T tells Q says comes fails =
          keeps_more Speech past hand q (λ later i r. SaidSo S later i r × OfActs (Later a b Q) later i r) Plainly more
          (keeps_both Speech anything past hand q (SaidSo S) (OfActs (Later a b Q)) (speaks_more T Spoken tells past hand q (SaidSo S) says) (later_keeps run a b past is clean q Q comes))
        where
          more : (later : List runs.Deed) (i : Hand) (r : Result Unit CommandFault) → SaidSo S later i r × OfActs (Later a b Q) later i r → Plainly later i r
          more later i (Ok u) s = on (Ok (said_of later)) (acts later) s.0
          more later i (Err e) s = fails (acts later) i e s.1.1.0 s.1.1.1 s.1.0

      -- one that says nothing
      silent_on : (q : Commanded Unit) (D : List Deed → Type 0) (F : CommandFault → List Deed → Type 0) → OnFolder b (ShowsSilent D F) → (w : Pledge) → ((now_ : List runs.Deed) (piece : List ℕ) → (rules_of w).may_say now_ piece → ⊥)
          → (P S : List runs.Deed → Hand → Result Unit CommandFault → Type 0) → Keeps (rules_of w) past hand q P → Keeps anything past hand q S
          → ((later : List runs.Deed) (i : Hand) → P later i (Ok tt) → S later i (Ok tt) → Behind a b (acts later) × D (acts later)) → ((later : List runs.Deed) (i : Hand) (e : CommandFault) → S later i (Err e) → IsEndedBy (λ k own. Behind a b own × F k own) e (acts later))
          → EndsPlainly q
      silent_on q D F on w unsaid P S done shown has fails = quietly_keeps run a b past is clean Spoken w unsaid silent q P S Plainly done shown so
        where
          so : (later : List runs.Deed) (i : Hand) (r : Result Unit CommandFault) → said_of later ≡ [] → P later i r → S later i r → Plainly later i r
          so later i (Ok u) none p s = let f = has later i p s in on (Ok (said_of later)) (acts later) (f.0, (f.1, none))
          so later i (Err e) none p s = ended_more (λ k own. Behind a b own × F k own) Shows (λ k own f. inr (inr (on (Err k) own f))) e (acts later) (fails later i e s)

      -- a task that changes sequences
      setting : (t : Task) → IsOrderly t → OnFolder b (ShowsChangedTask run path t) → EndsPlainly (folder_changed run path t)
      setting t orders on =
          told_on (folder_changed run path t) (ShowsChangedTask run path t) on (λ text own. Behind a b own × HasChanged run path t text own) (λ text own f. inl (on (Ok text) own f))
          (changes_say run few path t orders (Behind a b) (behind_kept a b) past hand silent ([], is) (record { numbered = begins.numbered; unfailed = begins.unfailed }))
          (changes_end run few path t (Behind a b) (behind_kept a b) past hand clean begins unput (λ x n f. untaken t.folder x n f) ([], is))

      -- and one that only looks
      looking : (t : Task) → IsOrderly t → OnFolder b (ShowsToldTask run path t (entries_by b)) → EndsPlainly (folder_looked run path t)
      looking t orders on =
          looks_on (folder_looked run path t) (ShowsToldTask run path t (entries_by b)) on (λ text own. Behind a b own × TellsFolder path t (entries_by b) text own) (λ text own f. inl (on (Ok text) own f))
          (λ own i r. ScanEnds run path (looks_job t) hand (numbered_there a b hand refl) own i r × Refuses run path t hand own i r)
          (listing_says run few path t orders hand (Behind a b) (behind_kept a b) past silent ([], is) begins.numbered clean)
          (comes_both (acts past) hand (folder_looked run path t) (ScanEnds run path (looks_job t) hand (numbered_there a b hand refl)) (Refuses run path t hand)
          (looks_comes run path t hand (numbered_there a b hand refl) (acts past) unmade) (looks_refuses run path t hand (acts past) unmade))
          (λ own i e f s unfailed. looked e own (scan_shows run path t.folder e own s.0) (λ z. inr (inr (on (Err e) own (f, (z, s.1))))) unfailed)

      -- `mark`
      marks_on : (job : MarkJob) (act : Option MarkAct) → OnFolder b (λ r own. ShowsMarking run path job (entries_by b) r own act) → EndsPlainly (mark_by_act run path job act)
      marks_on job None on = looking (look_task job) (look_orderly job) on
      marks_on job (Some act) on = setting (mark_task job act) (mark_orderly job act) on

      -- `folder`
      tells_on : (job : FolderJob) (specs : List (List ℕ)) → OnFolder b (λ r own. ShowsTelling run path job (entries_by b) r own specs) → EndsPlainly (folder_by run path job specs)
      tells_on job [] on = looking (task_with [] job) (orderly [] job) on
      tells_on job (spec ∷ specs) on = setting (task_with (spec ∷ specs) job) (orderly (spec ∷ specs) job) on

      -- and `folder -pack`
      packs_on : (job : PackJob) → OnFolder b (ShowsPacking run path job) → EndsPlainly (pack run path job)
      packs_on job on =
          told_on (pack run path job) (ShowsPacking run path job) on (λ text own. Behind a b own × TellsPacked run path job own text) (λ text own f. inl (on (Ok text) own f))
          (pack_says run few path job (Behind a b) (behind_kept a b) past hand silent ([], is) (held_none run a b past is clean job.folder) (record { numbered = begins.numbered; unfailed = begins.unfailed }))
          (pack_ends run few path job (Behind a b) (behind_kept a b) past hand clean begins unput (λ x n f. untaken job.folder x n f) ([], is))

      -- `pick`
      found_on : (job : PickJob) (marks : Option PickMarks) → OnFolder b (λ r own. ShowsPickJob run path job (entries_by b) r own marks) → ((text : List ℕ) (own : List Deed) → Behind a b own → TellsNoneBy run path job (entries_by b) text own marks → Spoken text own)
          → EndsPlainly (pick_by run path job marks)
      found_on job None on none =
          looks_on (pick_looks run path job) (ShowsFinding run path job (entries_by b)) on (λ text own. Behind a b own × TellsFound (HasFoundListed path job (entries_by b)) job text own) tells
          (λ own i r. PickLooks run path job hand (numbered_there a b hand refl) own i r × PickRefuses run path job hand own i r)
          (finding_says run few path job hand (Behind a b) (behind_kept a b) past silent ([], is) begins.numbered clean)
          (comes_both (acts past) hand (pick_looks run path job) (PickLooks run path job hand (numbered_there a b hand refl)) (PickRefuses run path job hand)
          (finding_comes run path job hand (numbered_there a b hand refl) (acts past) unmade) (finding_refuses run path job hand (acts past) unmade))
          (λ own i e f s unfailed. looked_or (e ≡ fault.Refused refusal.NoMatch) job.folder path e own s.0 (λ z. inr (inr (on (Err e) own (f, (z, s.1))))) (λ same. refusal_ends e own (refusal.NoMatch, same)) unfailed)
        where
          tells : (text : List ℕ) (own : List Deed) → Behind a b own × TellsFound (HasFoundListed path job (entries_by b)) job text own → Spoken text own
          tells text own (f, inl t) = inl (on (Ok text) own (f, t))
          tells text own (f, inr t) = none text own f t
      found_on job (Some p) on none =
          told_on (pick_changes run path job p) (ShowsMarkingFound run path job p) on (λ text own. Behind a b own × TellsFound (HasFound run path job) job text own) tells
          (marking_says run few path job p (Behind a b) (behind_kept a b) past hand silent ([], is) (record { numbered = begins.numbered; unfailed = begins.unfailed }))
          (marking_ends run few path job p (Behind a b) (behind_kept a b) past hand clean begins unput (λ x n f. untaken job.folder x n f) ([], is))
        where
          tells : (text : List ℕ) (own : List Deed) → Behind a b own × TellsFound (HasFound run path job) job text own → Spoken text own
          tells text own (f, inl t) = inl (on (Ok text) own (f, t))
          tells text own (f, inr t) = none text own f t

      -- `rmm`
      removes_on : (job : RmmJob) → OnFolder b (ShowsRemoving run path job) → EndsPlainly (rmm run path job)
      removes_on job on =
          silent_on (rmm run path job) (HasRemovedChosen run path job) (ShowsEnd run path job.folder (rmm_answers job)) on (rmm_pledge run path job) (λ now_ piece f. f) (IfOkay (Still (acts past))) (EndsSo run few path job.folder (rmm_answers job) (Behind a b) (HasRemovedChosen run path job))
          (rmm_pledged run few path job past hand (record { numbered = begins.numbered; unfailed = begins.unfailed })) (rmm_ends run few path job (Behind a b) (behind_kept a b) past hand clean begins unput (λ x n f. untaken job.folder x n f) ([], is))
          (λ later i p s. s) (λ later i e s. s)

      -- `anno`
      notes_on : (job : AnnoJob) → are_annotations job.lines ≡ true → OnFolder b (ShowsNoting run path job) → EndsPlainly (anno run path job)
      notes_on job notes on =
          silent_on (anno run path job) (HasNotedChosen run path job) (ShowsAnno run path job) on (anno_pledge run path job) (λ now_ piece f. f) (IfOkay (HasNoted run few path job)) (EndsBeside (ShowsAnno run path job) (Behind a b) (λ own. Unit {0}))
          (anno_done run few path job notes past hand (held_none run a b past is clean job.folder) (record { numbered = begins.numbered; unfailed = begins.unfailed }))
          (anno_ends run few path job (Behind a b) (behind_kept a b) past hand clean begins unput (λ x n f. untaken job.folder x n f) ([], is))
          (λ later i p s. (s.0, p)) (λ later i e s. s)

      -- `sortm`
      sorts_on : (job : SortJob) → OnFolder b (ShowsSorting run path job) → EndsPlainly (sortm run path job)
      sorts_on job on =
          silent_on (sortm run path job) (HasSortedChosen run path job) (ShowsSort run path job) on (sortm_pledge run path job) (λ now_ piece f. f) (IfOkay (HasSorted run few path job)) (EndsBeside (ShowsSort run path job) (Behind a b) (λ own. Unit {0}))
          (sortm_done run few path job past hand (held_none run a b past is clean job.folder) (record { numbered = begins.numbered; unfailed = begins.unfailed }))
          (sortm_ends run few path job (Behind a b) (behind_kept a b) past hand clean begins unput (λ x n f. untaken job.folder x n f) ([], is))
          (λ later i p s. (s.0, p)) (λ later i e s. s)

      -- `mhlist`
      lists_on : (job : ListJob) → OnFolder b (ShowsListingParts run path job (entries_by b)) → ((text : List ℕ) (own : List Deed) → Behind a b own × TellsFirstRows path job (entries_by b) text own → Spoken text own) → EndsPlainly (mhlist run path job)
      lists_on job on tells =
          looks_on (mhlist run path job) (ShowsListingParts run path job (entries_by b)) on (λ text own. Behind a b own × TellsFirstRows path job (entries_by b) text own) tells
          (λ own i r. PartsLook run path job hand (numbered_there a b hand refl) own i r × PartsRefuse run path job hand own i r)
          (list_says run few path job hand (Behind a b) (behind_kept a b) past silent ([], is) begins.numbered clean)
          (comes_both (acts past) hand (mhlist run path job) (PartsLook run path job hand (numbered_there a b hand refl)) (PartsRefuse run path job hand)
          (list_comes run path job hand (numbered_there a b hand refl) (acts past) unmade) (list_refuses run path job hand (acts past) unmade))
          (λ own i e f s unfailed. looked_or (IsNoPart e) job.folder path e own s.0 (λ z. inr (inr (on (Err e) own (f, (z, s.1))))) (λ lacks. refusal_ends e own (refusal.NoPart lacks.0, lacks.1)) unfailed)

      -- `mhstore`
      stores_on : (job : StoreJob) → OnFolder b (ShowsStoringParts run path job (entries_by b)) → ((text : List ℕ) (own : List Deed) → Behind a b own × TellsFirstFiles run path job (entries_by b) text own → Spoken text own) → EndsPlainly (mhstore run path job)
      stores_on job on tells =
          looks_on (mhstore run path job) (ShowsStoringParts run path job (entries_by b)) on (λ text own. Behind a b own × TellsFirstFiles run path job (entries_by b) text own) tells (StoreEnd run few path job hand)
          (store_says run few path job hand (Behind a b) (behind_kept a b) past silent ([], is) begins) (store_comes run few path job hand (acts past) begins)
          (λ own i e f s unfailed. looked_or (IsNoStoring e ⊎ ShowsStoring run e own) job.folder path e own s.0 (λ z. inr (inr (on (Err e) own (f, (z, s.1))))) (storing_ends e own) unfailed)

    module _ (word : List ℕ) (rest : List (List ℕ)) (is_words : words_ ≡ word ∷ rest) where
      -- what is shown of the words of this command is shown of the call
      on_folder : (n : Option CommandName) → named word ≡ n → (b : Answer) (folder : List ℕ) (r : Result (List ℕ) CommandFault) (own : List Deed) → Behind a b own → ShowsNamed run caller profile (entries_by b) folder r own rest n → ShowsOnFolder run caller words_ r own
      on_folder n name b folder r own f s =
          by_readings b own (λ q c. (folder_ : List ℕ) × ShowsWords run caller (entries_by q) (entries_by c) folder_ r own words_) f
          (folder, subst (λ ws. ShowsWords run caller profile (entries_by b) folder r own ws) (sym is_words) (subst (λ k. ShowsNamed run caller profile (entries_by b) folder r own rest k) (sym name) s))

      pub said_on : {W : Type 0} (n : Option CommandName) → named word ≡ n → (value : Result W Ended) (said : W) → value ≡ Ok said → (named_in : W → Option (List ℕ)) (S : W → Type 0) (b : Answer) (folder : List ℕ) (r : Result (List ℕ) CommandFault) (own : List Deed)
          → (ShowsOn profile (entries_by b) folder value named_in S → ShowsNamed run caller profile (entries_by b) folder r own rest n) → folder_of (named_in said) (entries_by b) profile ≡ Ok folder → Behind a b own × S said → ShowsOnFolder run caller words_ r own
      said_on n name value said is named_in S b folder r own row there s = on_folder n name b folder r own s.0 (row (subst (λ m. ShowsOn profile (entries_by b) folder m named_in S) (sym is) (there, s.1)))

      -- they make this the job on the folder
      job_said : {W J : Type 0} (n : CommandName) → named word ≡ Some n → (said_by : List (List ℕ) → Result W Ended) (said : W) → said_by (map chars rest) ≡ Ok said → (named_in : W → Option (List ℕ)) (job_on : List ℕ → W → List NamedValue → J) (b : Answer) (folder : List ℕ)
          → folder_of (named_in said) (entries_by b) profile ≡ Ok folder → AreWordsOf n (λ ws. IsJobOn profile (entries_by b) (job_on folder said profile) (said_by ws) named_in job_on) words_
      job_said n name said_by said is named_in job_on b folder there =
          subst (λ ws. AreWordsOf n (λ more. IsJobOn profile (entries_by b) (job_on folder said profile) (said_by more) named_in job_on) ws) (sym is_words)
          (name, subst (λ m. IsJobOn profile (entries_by b) (job_on folder said profile) m named_in job_on) (sym is) (folder, there, refl))

      module _ (past : List runs.Deed) (is : acts past ≡ after_profile a) (clean : NoneFailed (acts past)) (silent : said_of past ≡ []) where
        -- the end of the command of this name
        abbrev NamedEnds : Option CommandName → Type 0
        NamedEnds n = Keeps Speech past fresh (word_by run caller profile word rest n) EndsBy

        -- by words, refused or not
        words_end : {W : Type 0} (n : Option CommandName) → named word ≡ n → (value : Result W Ended) → ((x : Ended) → value ≡ Err x → IsRefusal x.fault) → refusal_in value ≡ named_refusal caller profile rest n
            → (starts : W → Commanded Unit) → ((said : W) → value ≡ Ok said → Keeps Speech past fresh (starts said) Plainly) → Keeps Speech past fresh (by_words starts value) EndsBy
        words_end n name value refuses row starts keeps =
            words_keep Spoken EndsBy a past is clean silent starts value keeps
            (λ x e. refused_shown a x past is (refuses x e) (refused_by caller words_ a word rest is_words n name x.fault (sym row ∙ refusal_of value x e)) clean)

        -- the folder is found, and the work on it goes on
        on_found : (named_in : Option (List ℕ)) (act : List ℕ → Commanded Unit)
            → ((later : List runs.Deed) (b : Answer) (folder : List ℕ) → acts later ≡ after_context path a b → folder_of named_in (entries_by b) profile ≡ Ok folder → NoneFailed (acts later) → said_of later ≡ [] → Keeps Speech later (knowing (entries_by b) fresh) (act folder) Plainly)
            → Keeps Speech past fresh (folder_found profile named_in >>= act) Plainly
        on_found named_in act follows = folder_then Spoken EndsBy a past is clean silent named_in act (λ later j e none unfailed s. early e (acts later) s unfailed) follows

        -- so the words of a command on a folder
        folder_words_end : {W : Type 0} (n : Option CommandName) → named word ≡ n → (value : Result W Ended) → ((x : Ended) → value ≡ Err x → IsRefusal x.fault) → refusal_in value ≡ named_refusal caller profile rest n
            → (named_in : W → Option (List ℕ)) (act : W → List ℕ → Commanded Unit) (S : W → Answer → List ℕ → Result (List ℕ) CommandFault → List Deed → Type 0)
            → ((b : Answer) (folder : List ℕ) (r : Result (List ℕ) CommandFault) (own : List Deed) → ShowsOn profile (entries_by b) folder value named_in (λ said. S said b folder r own) → ShowsNamed run caller profile (entries_by b) folder r own rest n)
            → ((said : W) → value ≡ Ok said → (later : List runs.Deed) (b : Answer) (folder : List ℕ) → acts later ≡ after_context path a b → folder_of (named_in said) (entries_by b) profile ≡ Ok folder → NoneFailed (acts later) → said_of later ≡ [] → OnFolder b (S said b folder)
            → Keeps Speech later (knowing (entries_by b) fresh) (act said folder) Plainly)
            → Keeps Speech past fresh (by_words (λ said. folder_found profile (named_in said) >>= act said) value) EndsBy
        folder_words_end n name value refuses row named_in act S shows keeps =
            words_end n name value refuses row (λ said. folder_found profile (named_in said) >>= act said)
            (λ said e. on_found (named_in said) (act said) (λ later b folder at there unfailed none.
            keeps said e later b folder at there unfailed none (λ r own f. said_on n name value said e named_in (λ w. S w b folder r own) b folder r own (shows b folder r own) there f)))

        -- the commands
        mark_words_end : named word ≡ Some Mark → NamedEnds (Some Mark)
        unfolding mark_begun mark
        mark_words_end name =
            folder_words_end (Some Mark) name (mark_said profile (map chars rest)) (mark_refuses profile (map chars rest)) refl (λ said. said.folder) (λ said folder. mark run path (mark_job folder said profile))
            (λ said b folder r own. ShowsMarking run path (mark_job folder said profile) (entries_by b) r own said.act) (λ b folder r own s. s)
            (λ said e later b folder at there unfailed none on. marks_on later b at unfailed none (mark_job folder said profile) said.act on)

        pick_words_end : named word ≡ Some Pick → NamedEnds (Some Pick)
        unfolding pick_begun pick
        pick_words_end name =
            folder_words_end (Some Pick) name (picked_by caller profile (map chars rest)) (pick_refuses caller.clock.moment caller.clock.offset profile (map chars rest)) refl (λ said. said.folder) (λ said folder. pick run path (pick_job folder said profile))
            (λ said b folder r own. ShowsPickJob run path (pick_job folder said profile) (entries_by b) r own said.marks) (λ b folder r own s. s)
            (λ said e later b folder at there unfailed none on. found_on later b at unfailed none (pick_job folder said profile) said.marks on
            (λ text own f t. inr (inr (inl (by_readings b own (λ q c. (job : PickJob) × PicksBy caller (entries_by q) (entries_by c) words_ job × TellsNoneBy run (path_of (entries_by q)) job (entries_by c) text own job.marks) f
            (pick_job folder said profile, job_said Pick name (picked_by caller profile) said e (λ w. w.folder) pick_job b folder there, t))))))

        rmm_words_end : named word ≡ Some Rmm → NamedEnds (Some Rmm)
        unfolding rmm_begun
        rmm_words_end name =
            folder_words_end (Some Rmm) name (rmm_said profile (map chars rest)) (rmm_refuses profile (map chars rest)) refl (λ said. said.folder) (λ said folder. rmm run path (rmm_job folder said profile)) (λ said b folder. ShowsRemoving run path (rmm_job folder said profile))
            (λ b folder r own s. s) (λ said e later b folder at there unfailed none on. removes_on later b at unfailed none (rmm_job folder said profile) on)

        anno_words_end : named word ≡ Some Anno → NamedEnds (Some Anno)
        unfolding anno_begun
        anno_words_end name =
            folder_words_end (Some Anno) name (annotated_by caller profile (map chars rest)) (anno_refuses caller.clock.moment caller.clock.offset profile (map chars rest)) refl (λ said. said.folder) (λ said folder. anno run path (anno_job folder said profile))
            (λ said b folder. ShowsNoting run path (anno_job folder said profile)) (λ b folder r own s. s)
            (λ said e later b folder at there unfailed none on. notes_on later b at unfailed none (anno_job folder said profile) (anno_annotates caller.clock.moment caller.clock.offset profile (map chars rest) said e) on)

        sort_words_end : named word ≡ Some Sortm → NamedEnds (Some Sortm)
        unfolding sort_begun
        sort_words_end name =
            folder_words_end (Some Sortm) name (sort_said profile (map chars rest)) (sort_refuses profile (map chars rest)) refl (λ said. said.folder) (λ said folder. sortm run path (sort_job folder said profile)) (λ said b folder. ShowsSorting run path (sort_job folder said profile))
            (λ b folder r own s. s) (λ said e later b folder at there unfailed none on. sorts_on later b at unfailed none (sort_job folder said profile) on)

        list_words_end : named word ≡ Some Mhlist → NamedEnds (Some Mhlist)
        unfolding list_begun
        list_words_end name =
            folder_words_end (Some Mhlist) name (list_said profile (map chars rest)) (list_words_refuse profile (map chars rest)) refl (λ said. said.folder) (λ said folder. mhlist run path (list_job folder said profile))
            (λ said b folder. ShowsListingParts run path (list_job folder said profile) (entries_by b)) (λ b folder r own s. s)
            (λ said e later b folder at there unfailed none on. lists_on later b at unfailed none (list_job folder said profile) on
            (λ text own f. inr (inr (inr (inl (by_readings b own (λ q c. (job : ListJob) × ListsBy (entries_by q) (entries_by c) words_ job × TellsFirstRows (path_of (entries_by q)) job (entries_by c) text own) f.0
            (list_job folder said profile, job_said Mhlist name (list_said profile) said e (λ w. w.folder) list_job b folder there, f.1)))))))

        store_words_end : named word ≡ Some Mhstore → NamedEnds (Some Mhstore)
        unfolding store_begun
        store_words_end name =
            folder_words_end (Some Mhstore) name (store_said profile (map chars rest)) (store_words_refuse profile (map chars rest)) refl (λ said. said.folder) (λ said folder. mhstore run path (store_job folder said profile))
            (λ said b folder. ShowsStoringParts run path (store_job folder said profile) (entries_by b)) (λ b folder r own s. s)
            (λ said e later b folder at there unfailed none on. stores_on later b at unfailed none (store_job folder said profile) on
            (λ text own f. inr (inr (inr (inr (by_readings b own (λ q c. (job : StoreJob) × StoresBy (entries_by q) (entries_by c) words_ job × TellsFirstFiles run (path_of (entries_by q)) job (entries_by c) text own) f.0
            (store_job folder said profile, job_said Mhstore name (store_said profile) said e (λ w. w.folder) store_job b folder there, f.1)))))))

        -- `folder`, whose messages are numbered anew, or which is told of
        tell_words_end : named word ≡ Some FolderCommand → NamedEnds (Some FolderCommand)
        unfolding task_begun pack_begun tell_begun tell
        tell_words_end name =
            words_end (Some FolderCommand) name (tell_said profile (map chars rest)) (tell_refuses profile (map chars rest)) refl (folder_begun run profile)
            (λ said e. by_task said said.pack (λ b folder there r own f. said_on (Some FolderCommand) name (tell_said profile (map chars rest)) said e (λ w. w.folder) (λ w. ShowsTask run profile (entries_by b) folder w r own w.pack) b folder r own (λ s. s) there f))
          where
            by_task : (said : FolderWords) (anew : Bool) → ((b : Answer) (folder : List ℕ) → folder_of said.folder (entries_by b) profile ≡ Ok folder → OnFolder b (λ r own. ShowsTask run profile (entries_by b) folder said r own anew))
                → Keeps Speech past fresh (task_begun run profile said anew) Plainly
            by_task said true on = on_found said.folder (λ folder. pack run path (pack_job folder)) (λ later b folder at there unfailed none. packs_on later b at unfailed none (pack_job folder) (on b folder there))
            by_task said false on =
                on_found said.folder (λ folder. tell run path (tell_job folder said profile)) (λ later b folder at there unfailed none. tells_on later b at unfailed none (tell_job folder said profile) said.specs (on b folder there))

        -- `inc`
        module _ (name : named word ≡ Some Inc) (asked : IncAsked) (said : job_by caller profile (inc_said profile (map chars rest)) ≡ Ok asked) where
          taken_in : (later : List runs.Deed) (j : Hand) (b c : Answer) (spoken : Standing → Writing) → acts later ≡ look_deeds asked.telling c (after_context path a b) → written_by asked.telling c ≡ Ok spoken → j ≡ knowing (entries_by b) fresh
              → NoneFailed (acts later) → said_of later ≡ [] → Keeps Speech later j (inc run path (job_writing asked spoken)) Plainly
          taken_in later j b c spoken at written first unfailed none =
              keeps_more Speech later j (inc run path (job_writing asked spoken)) (TakesIn run few a asked b spoken) Plainly more
              (speaks_more (ToldSo run few a asked b spoken) Spoken tells later j (inc run path (job_writing asked spoken)) (TakesIn run few a asked b spoken) (inc_comes run few a asked b spoken later j c at written first unfailed none))
            where
              on : (r : Result (List ℕ) CommandFault) (own : List Deed) → BehindLook run few a asked b spoken own × ShowsIncorporating run path (job_writing asked spoken) r own → ShowsOnFolder run caller words_ r own
              on r own s =
                  on_folder (Some Inc) name b asked.folder r own s.0.0
                  (subst (λ m. OfSaid m (ShowsIncJob run profile asked.folder r own)) (sym said) (refl, (spoken, s.0.1, s.1)))

              tells : (text : List ℕ) (own : List Deed) → ToldSo run few a asked b spoken text own → Spoken text own
              tells text own t =
                  inr (inl (by_readings b own
                  (λ q c_. (job : IncAsked) × (spoken_ : Standing → Writing) × AreWordsOf Inc (λ ws. job_by caller (entries_by q) (inc_said (entries_by q) ws) ≡ Ok job) words_ × WritesAs job.telling spoken_ own × IsTextOfNew run (path_of (entries_by q)) (job_writing job spoken_) own text)
                  t.0.0 (asked, spoken, subst (λ ws. AreWordsOf Inc (λ more_. job_by caller profile (inc_said profile more_) ≡ Ok asked) ws) (sym is_words) (name, said), t.0.1, t.1)))

              more : (last : List runs.Deed) (i : Hand) (r : Result Unit CommandFault) → TakesIn run few a asked b spoken last i r → Plainly last i r
              more last i (Ok u) q = on (Ok (said_of last)) (acts last) (q.0.0, (q.1.1, q.0.1))
              more last i (Err e) q =
                  ended_more (λ k own. BehindLook run few a asked b spoken own × ShowsInc run path (job_writing asked spoken) k own) Shows (λ k own s. inr (inr (on (Err k) own s))) e (acts last) q.1

          -- the file of a format is refused
          file_refused : (b c : Answer) (e : CommandFault) (own : List Deed) → own ≡ look_deeds asked.telling c (after_context path a b) → written_by asked.telling c ≡ Err e → NoneFailed own → IsEndedBy Shows e own
          file_refused b c e own at wrong unfailed =
              let s = format_shown caller words_ a b c asked.telling e wrong (λ file f. file_by caller words_ a word rest is_words (Some Inc) name file (ap (λ m. asked_file m (λ w. w.telling)) said ∙ f)) in
              refusal_ends e own s.0 (inl (subst (λ o. IsRefusedByWords caller words_ e o) (sym at) s.1)) unfailed

          look_keeps : (later : List runs.Deed) (b : Answer) → acts later ≡ after_context path a b → NoneFailed (acts later) → said_of later ≡ []
              → Keeps Speech later (knowing (entries_by b) fresh) (look_found asked.telling >>= (λ spoken. inc run path (job_writing asked spoken))) Plainly
          look_keeps later b at unfailed none =
              silent_then Spoken later (knowing (entries_by b) fresh) (look_found asked.telling) (λ spoken. inc run path (job_writing asked spoken)) (Looked asked.telling (acts later) (knowing (entries_by b) fresh)) Plainly none unfailed
              (look_silent later (knowing (entries_by b) fresh) asked.telling) (look_comes asked.telling (acts later) (knowing (entries_by b) fresh))
              (λ last i spoken quiet live q. taken_in last i b q.0 spoken (q.1 ∙ ap (look_deeds asked.telling q.0) at) q.3 q.2 live quiet)
              (λ last i e quiet live q. file_refused b q.0 e (acts last) (q.1 ∙ ap (look_deeds asked.telling q.0) at) q.2 live)

        inc_words_end : named word ≡ Some Inc → NamedEnds (Some Inc)
        unfolding inc_begun
        inc_words_end name =
            words_end (Some Inc) name (job_by caller profile (inc_said profile (map chars rest))) (job_refuses caller profile (map chars rest)) refl (inc_begun run path)
            (λ asked e. context_then Spoken EndsBy a past is clean silent (look_found asked.telling >>= (λ spoken. inc run path (job_writing asked spoken))) (λ later j x none unfailed s. early x (acts later) (long_entries s) unfailed)
            (λ later b at unfailed none. look_keeps name asked e later b at unfailed none))

        by_word : (n : Option CommandName) → named word ≡ n → shows_ends n ≡ true → NamedEnds n
        by_word (Some Inc) name begins = inc_words_end name
        by_word (Some Mark) name begins = mark_words_end name
        by_word (Some Pick) name begins = pick_words_end name
        by_word (Some Rmm) name begins = rmm_words_end name
        by_word (Some FolderCommand) name begins = tell_words_end name
        by_word (Some Anno) name begins = anno_words_end name
        by_word (Some Sortm) name begins = sort_words_end name
        by_word (Some Mhlist) name begins = list_words_end name
        by_word (Some Mhstore) name begins = store_words_end name
        by_word other name begins = cc (begins)

    by_line : (past : List runs.Deed) → acts past ≡ after_profile a → NoneFailed (acts past) → said_of past ≡ [] → (words : List (List ℕ)) → words_ ≡ words → shows_ends (command_of words) ≡ true → Keeps Speech past fresh (command_by run caller profile words) EndsBy
    by_line past is clean silent [] is_words begins = cc (begins)
    by_line past is clean silent (word ∷ rest) is_words begins = by_word word rest is_words past is clean silent (named word) refl begins

  -- a command whose words name one that begins folders: how it ends, and what shows it
  pub begun_ends_by : shows_ends (command_of words_) ≡ true → Keeps Speech [] fresh (command run caller words_) EndsBy
  begun_ends_by begins =
      command_keeps Spoken EndsBy run caller words_ (λ past h x silent clean s. early x.fault (acts past) (long_entries s) clean) (λ a past is clean silent. by_line a past is clean silent words_ refl begins)

  -- so does each run of it
  pub run_ends_by : shows_ends (command_of words_) ≡ true → (ds : List runs.Deed) (j : Hand) (r : Result Unit Ended) → Runs (command run caller words_) fresh ds j (Returned r) → EndsBy ds j r
  run_ends_by begins ds j r f = (run_keeps Speech [] fresh (command run caller words_) ds j (Returned r) EndsBy (begun_ends_by begins) f).gave

  -- and what it says however it ends
  pub run_tells : shows_ends (command_of words_) ≡ true → (ds : List runs.Deed) (j : Hand) (x : Exit (Result Unit Ended)) → Runs (command run caller words_) fresh ds j x
      → IsToldBy Spoken (said_of ds) (acts ds) × (x ≡ OutFailed → (text : List ℕ) × Spoken text (acts ds) × (text ≢ []))
  run_tells begins ds j x f = run_speaks Spoken (command run caller words_) fresh ds j x EndsBy (begun_ends_by begins) f
