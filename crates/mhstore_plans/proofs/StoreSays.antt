-- What `mhstore` says: a front of the lines of the files that it has stored so far; and all of them where it is done.
use Rattle.std.proofs.Common.{◌≡◌, ◌<◌, ◌^◌, ◌++◌, ◌∷◌, [], ℕ, Bool, true, false, List, Option, Some, None, Result, Ok, Err, refl, sym, ◌∙◌, ap, subst, append_assoc, append-nil}
use Rattle.mh_base.specs.Entries.{entry_text}
use Rattle.mh_base.specs.Numbers.{IsMsgNum}
use Rattle.mh_base.specs.declared.entry.Entry.TheVariants.{Number, Sequences}
use Rattle.mh_profile.specs.declared.named_value.NamedValue.{NamedValue}
use Rattle.msg_ranges.proofs.Rising.{lists, first_listed, other_listed}
use Rattle.sequence_commits.specs.RunsOfAll.{runs_of_all}
use Rattle.sequence_commits.proofs.RunTests.{all_runs}
use Rattle.folder_files.specs.Careful.{IsRead}
use Rattle.folder_files.specs.Deeds as deeds
use Rattle.folder_files.specs.Deeds.{Once, did, now, on}
use Rattle.folder_files.specs.declared.place.Place.{Place}
use Rattle.folder_files.specs.declared.place.Place.TheVariants.{Folder}
use Rattle.folder_files.specs.declared.refusal.Refusal.TheVariants as refusal
use Rattle.folder_files.specs.declared.step.Answer.{Answer}
use Rattle.folder_files.specs.declared.step.Answer.TheVariants as answer
use Rattle.folder_files.specs.declared.step.Step.TheVariants as step
use Rattle.file_plans.specs.Asking.{read, reading_of as reading_by}
use Rattle.file_plans.specs.Plan.{Hand, Plan, Return, after, ask, bind, lifted, ◌>>=◌}
use Rattle.file_plans.specs.Rules.{IfOkay, Keeps}
use Rattle.file_plans.specs.Runs.{Deed, Did}
use Rattle.file_plans.specs.Sightings.{has_number}
use Rattle.file_plans.specs.Text.{said_of}
use Rattle.file_plans.proofs.Acting.{acts, acts_append}
use Rattle.file_plans.proofs.Framing.{AnyStep}
use Rattle.file_plans.proofs.Keeping.{keeps_bind}
use Rattle.step_plans.specs.ContextCommit.{LIMIT_BYTES}
use Rattle.step_plans.specs.Pledges.{Pledge}
use Rattle.step_plans.specs.declared.command_fault.CommandFault.{CommandFault}
use Rattle.step_plans.specs.declared.command_fault.CommandFault.TheVariants as fault
use Rattle.step_plans.proofs.Coming.{OfActs, anything, comes_keeps, comes_lifted}
use Rattle.step_plans.proofs.Going.{ByActs, Outcome, Soundly, goes_keeps, goes_lifted, okay}
use Rattle.step_plans.proofs.Lasting.{KeptBy}
use Rattle.step_plans.proofs.Ruling.{rules_of}
use Rattle.step_plans.proofs.Stepping.{on_read}
use Rattle.command_stages.specs.Current.{made_current}
use Rattle.command_stages.specs.Endings.{of_plan}
use Rattle.command_stages.specs.Texts.{too_large}
use Rattle.mh_looks.specs.ScanPledge.{HasListed}
use Rattle.mh_looks.proofs.Ending.{name_of}
use Rattle.opening_plans.specs.Endings.{IsToldBy}
use Rattle.opening_plans.specs.Reads.{TellsText}
use Rattle.opening_plans.proofs.ChosenListed.{has_ranged, words_listed}
use Rattle.opening_plans.proofs.CleanRuns.{Clean, clean_more}
use Rattle.opening_plans.proofs.EndedKept.{keeps_more}
use Rattle.opening_plans.proofs.Speaking.{Quiet, keeps_both, quietly, said_did, speaking, told_did}
use Rattle.told_folders.specs.Outcomes.{joined}
use Rattle.told_folders.specs.Tasks.{Task, listed_runs, sequences_listed}
use Rattle.told_folders.proofs.ChangesPledged.{notes_pledge}
use Rattle.told_folders.proofs.FrontComes.{reading}
use Rattle.told_folders.proofs.FrontSays.{GoesOn, behind, current_says, front_says, stops}
use Rattle.told_folders.proofs.ChangesSay.{Adds, all_told, lines_say}
use Rattle.part_rows.specs.Choices.{first_missing, stored as stored_parts}
use Rattle.part_rows.specs.FileNames.{StoredFile, files_of}
use Rattle.part_rows.specs.PartViews.{parts_of}
use Rattle.mhlist_plans.specs.ListAnswers.{ReadMessage}
use Rattle.mhlist_plans.specs.ListPledge.{task_of}
use Rattle.mhlist_plans.specs.Listing.{no_part}
use Rattle.mhstore_plans.specs.Files.{file_stored}
use Rattle.mhstore_plans.specs.StoreAnswers.{TellsFiles, TellsFirstFiles, files_in, lines_of, listing_of}
use Rattle.mhstore_plans.specs.StorePledge.{IsPartRead}
use Rattle.mhstore_plans.specs.Storing.{all_filed, all_stored, chosen_seen, filed_unless, mhstore, one_filed, one_stored, stored_by, told_by}
use Rattle.mhstore_plans.specs.declared.job.StoreJob.{StoreJob}
use Rattle.mhstore_plans.proofs.FileEnds.{Filed, So, Stores, stores_come}
use Rattle.mhstore_plans.proofs.FilePledged.{Stored as GoesStored, stored_goes, v as storing_pledge}
use Rattle.mhstore_plans.proofs.StoreEnds.{clean_both}
use Rattle.mhstore_plans.proofs.StoreGiven.{AreFine, IsFine, fine_parts}
use Rattle.mhstore_plans.proofs.StoreStands.{Stored, file_more, kept, lines_more, message_more}
use Rattle.mh_profile.specs.Reading.{entries_seen}

module _ (run : ℕ) (few : run < 2 ^ 128) (path : List ℕ) (job : StoreJob) (entries : List NamedValue) where
  abbrev place : Place
  place = Folder path job.folder

  abbrev no_piece : List deeds.Deed → List ℕ → Type 0
  no_piece own piece = ⊥

  abbrev task : Task
  task = task_of (listing_of job)

  -- one that says nothing, as it makes its folder the current one, and as it stores a file
  abbrev v : Pledge
  v = notes_pledge run few path task no_piece

  abbrev w : Pledge
  w = storing_pledge run few path job no_piece

  quiet_files : (past : List Deed) (piece : List ℕ) → (rules_of w).may_say past piece → ⊥
  quiet_files past piece f = f

  abbrev Has : List ReadMessage → List ℕ → List StoredFile → List StoredFile → List deeds.Deed → Type 0
  Has messages left files rest own = Stored run path job entries messages left files rest own

  listed_once : (messages : List ReadMessage) (left : List ℕ) (files rest : List StoredFile) (own : List deeds.Deed) → Has messages left files rest own → HasListed place own
  listed_once messages left files rest own f = subst (HasListed place) (sym f.seen) (behind _ f.newer (f.reading ∷ did (step.List place) (answer.Names f.names) ∷ f.older) (on (now (f.names, refl))))

  -- with what lasts besides
  module _ (F : List deeds.Deed → Type 0) (lasts : KeptBy AnyStep F) where
    abbrev T : List ℕ → List deeds.Deed → Type 0
    T text own = F own × TellsFirstFiles run path job entries text own

    -- where it is done
    abbrev Done : List ℕ → List deeds.Deed → Type 0
    Done text own = F own × TellsFiles run path job entries text own

    told_kept : (text : List ℕ) → KeptBy AnyStep (T text)
    told_kept text own s x any (f, t) = (lasts own s x any f, record { messages = t.messages; left = t.left; files = t.files; rest = t.rest; stored = kept run path job entries t.messages t.left t.files t.rest own s x any t.stored; lines = t.lines })

    abbrev Told : List Deed → Type 0
    Told past = IsToldBy T (said_of past) (acts past)

    abbrev Ends_ : List Deed → Hand → Result Unit CommandFault → Type 0
    Ends_ later j r = IfOkay (λ last i u. Done (said_of last) (acts last)) later j r

    fails : (later : List Deed) (j : Hand) (e : CommandFault) → Ends_ later j (Err e)
    fails later j e = tt

    -- a part that is over
    returns : (later : List Deed) (j : Hand) (r : Result Unit CommandFault) (Q : List Deed → Hand → Result Unit CommandFault → Type 0) → Told later → Q later j r → Keeps (speaking T) later j (Return r) Q
    unfolding Keeps
    returns later j r Q told q = (told, q)

    -- the lines of the files that were stored were said
    record Stands (messages : List ReadMessage) (left : List ℕ) (files rest : List StoredFile) (past : List Deed) (j : Hand) : Type 0 where
      pub fact : F (acts past)
      pub stored : Has messages left files rest (acts past)
      pub said : said_of past ≡ lines_of files
      pub clean : Clean run (acts past) j

    text_now : (messages : List ReadMessage) (left : List ℕ) (files rest : List StoredFile) (own : List deeds.Deed) → F own → Has messages left files rest own → T (lines_of files) own
    text_now messages left files rest own f s = (f, record { messages = messages; left = left; files = files; rest = rest; stored = s; lines = refl })

    stands_told : (messages : List ReadMessage) (left : List ℕ) (files rest : List StoredFile) (past : List Deed) (j : Hand) → Stands messages left files rest past j → Told past
    stands_told messages left files rest past j s = all_told T (lines_of files) (said_of past) (acts past) (text_now messages left files rest (acts past) s.fact s.stored) s.said

    -- one file
    module _ (messages : List ReadMessage) (left : List ℕ) (files : List StoredFile) (f : StoredFile) (rest : List StoredFile) (fine : IsFine f) (past : List Deed) (h : Hand) (part : IsPartRead path job f (acts past)) (s : Stands messages left files (f ∷ rest) past h) where
      abbrev new : List ℕ
      new = lines_of (files ++ f ∷ [])

      abbrev One : List Deed → Hand → Result Unit CommandFault → Type 0
      One later j (Ok u) = Stands messages left (files ++ f ∷ []) rest later j × ((newer : List deeds.Deed) × (acts later ≡ newer ++ acts past))
      One later j (Err e) = Told later

      abbrev plan : Plan (Result Bool CommandFault)
      plan = lifted (of_plan job.folder) (file_stored run job.clobber f.name f.content)

      abbrev Free : Outcome (Result Bool CommandFault)
      Free later j (Ok b) = Stores run few f job.clobber (acts past) later j b
      Free later j (Err e) = Unit {0}

      abbrev Silent : List Deed → Hand → Result Bool CommandFault → Type 0
      Silent later j r = Quiet T told_kept (rules_of w) quiet_files F lasts (ByActs (Soundly w (okay (GoesStored run few path job no_piece f fine.other (acts past))))) past later j r

      silent : Keeps (speaking T) past h plan Silent
      silent =
          quietly T told_kept (rules_of w) quiet_files F lasts past h plan (ByActs (Soundly w (okay (GoesStored run few path job no_piece f fine.other (acts past))))) (stands_told messages left files (f ∷ rest) past h s)
          (goes_keeps w past (acts past) h plan (okay (GoesStored run few path job no_piece f fine.other (acts past))) refl (record { numbered = s.clean.numbered; unfailed = s.clean.unfailed })
          (goes_lifted w (acts past) h (of_plan job.folder) (file_stored run job.clobber f.name f.content) (GoesStored run few path job no_piece f fine.other (acts past)) (stored_goes run few path job no_piece f fine.other (acts past) h part)))

      free : Keeps anything past h plan (OfActs Free)
      free =
          comes_keeps past (acts past) h plan Free refl
          (comes_lifted (acts past) h (of_plan job.folder) (file_stored run job.clobber f.name f.content) (So run (Stores run few f job.clobber (acts past))) Free (stores_come run few f (acts past) h s.clean job.clobber) (λ later j b t. t) (λ later j e t. tt))

      -- its line
      line_says : (later : List Deed) (j : Hand) → said_of later ≡ said_of past → F (acts later) → Clean run (acts later) j → Filed run few f (acts past) (acts later) → Keeps (speaking T) later j (told_by f.name f.line true) One
      line_says later j same fact clean filed =
          keeps_more (speaking T) later j (told_by f.name f.line true) (λ last i r. Adds (joined (f.line ∷ [])) later j last i r) One more
          (lines_say T new later j (f.line ∷ []) (fine.some, tt) (text_now messages left (files ++ f ∷ []) rest (acts later) fact stored) said)
        where
          stored : Has messages left (files ++ f ∷ []) rest (acts later)
          stored = subst (Has messages left (files ++ f ∷ []) rest) (sym filed.is) (file_more run path job entries messages left files f rest filed.newer (acts past) filed.stored s.stored)

          said : said_of later ++ joined (f.line ∷ []) ≡ new
          said = ap (λ z. z ++ joined (f.line ∷ [])) (same ∙ s.said) ∙ (ap (λ z. lines_of files ++ z) (append-nil f.line) ∙ sym (lines_more files f))

          more : (last : List Deed) (i : Hand) (r : Result Unit CommandFault) → Adds (joined (f.line ∷ [])) later j last i r → One last i r
          more last i (Ok u) q = (
            record {
              fact = subst F (sym q.1) fact;
              stored = subst (Has messages left (files ++ f ∷ []) rest) (sym q.1) stored;
              said = q.0 ∙ said;
              clean = subst (λ k. Clean run (acts last) k) (sym q.2) (subst (λ o. Clean run o j) (sym q.1) clean);
            },
            (filed.newer, q.1 ∙ filed.is),
          )
          more last i (Err e) q = all_told T new (said_of last) (acts last) (subst (T new) (sym q.1) (text_now messages left (files ++ f ∷ []) rest (acts later) fact stored)) (q.0 ∙ said)

      file_says : Keeps (speaking T) past h (one_filed run job f) One
      unfolding one_filed ◌>>=◌
      file_says = keeps_bind (speaking T) past h plan (after (λ b. told_by f.name f.line b)) (λ later j r. Silent later j r × OfActs Free later j r) One (keeps_both (speaking T) anything past h plan Silent (OfActs Free) silent free) go
        where
          go : (later : List Deed) (j : Hand) (r : Result Bool CommandFault) → Silent later j r × OfActs Free later j r → Keeps (speaking T) later j (after (λ b. told_by f.name f.line b) r) One
          go later j (Ok true) q = line_says later j q.0.0 (q.0.1 s.fact) q.1.0 q.1.1
          go later j (Ok false) q = returns later j (Err (fault.Refused (refusal.WouldReplace f.name))) One q.0.2 q.0.2
          go later j (Err e) q = returns later j (Err e) One q.0.2 q.0.2

    -- the files that are to come of a message that was read
    abbrev FiledAll : List ReadMessage → List ℕ → List Deed → Hand → Result Unit CommandFault → Type 0
    FiledAll messages left later j (Ok u) = Stands messages left (files_in job.parts messages) [] later j
    FiledAll messages left later j (Err e) = Told later

    module _ (messages : List ReadMessage) (left : List ℕ) (n : ℕ) (message : List ℕ) where
      files_say : (before rest : List StoredFile) → files_of n job.parts message ≡ before ++ rest → AreFine rest → (files : List StoredFile) (past : List Deed) (h : Hand) → Once (λ d older. IsRead place (entry_text (Number n)) message d) (acts past) → Stands messages left files rest past h
          → Keeps (speaking T) past h (all_filed run job rest) (FiledAll messages left)
      unfolding all_filed ◌>>=◌
      files_say before [] is fine files past h read s =
          let whole : files ≡ files_in job.parts messages = sym (append-nil files) ∙ sym s.stored.all in
          returns past h (Ok tt) (FiledAll messages left) (stands_told messages left files [] past h s) (subst (λ fs. Stands messages left fs [] past h) whole s)
      files_say before (f ∷ rest) is fine files past h read s =
          keeps_bind (speaking T) past h (one_filed run job f) (after (λ filed. all_filed run job rest)) (One messages left files f rest fine.0 past h part s) (FiledAll messages left) (file_says messages left files f rest fine.0 past h part s)
          (λ later j r q. next (λ fs last i again t. files_say (before ++ f ∷ []) rest (is ∙ sym (append_assoc before (f ∷ []) rest)) fine.1 fs last i again t) later j r q)
        where
          part : IsPartRead path job f (acts past)
          part = record { number = n; message = message; read = read; among = (before, (rest, is)) }

          next : ((fs : List StoredFile) (last : List Deed) (i : Hand) → Once (λ d older. IsRead place (entry_text (Number n)) message d) (acts last) → Stands messages left fs rest last i → Keeps (speaking T) last i (all_filed run job rest) (FiledAll messages left))
              → (later : List Deed) (j : Hand) (r : Result Unit CommandFault) → One messages left files f rest fine.0 past h part s later j r → Keeps (speaking T) later j (after (λ filed. all_filed run job rest) r) (FiledAll messages left)
          next go later j (Ok u) q = go (files ++ f ∷ []) later j (subst (Once _) (sym q.1.1) (behind _ q.1.0 (acts past) read)) q.0
          next go later j (Err e) q = returns later j (Err e) (FiledAll messages left) q q

    -- one message
    module _ (messages : List ReadMessage) (n : ℕ) (ok : IsMsgNum n) (left : List ℕ) (past : List Deed) (h : Hand) (s : Stands messages (n ∷ left) (files_in job.parts messages) [] past h) where
      abbrev m : List ℕ → ReadMessage
      m text = record { number = n; text = text }

      abbrev Message : List Deed → Hand → Result Unit CommandFault → Type 0
      Message later j (Ok u) = (text : List ℕ) × Stands (messages ++ m text ∷ []) left (files_in job.parts (messages ++ m text ∷ [])) [] later j
      Message later j (Err e) = Told later

      abbrev reads : Answer → List Deed
      reads a = past ++ Did (step.Read place (name_of n) LIMIT_BYTES) a ∷ []

      acts_read : (a : Answer) → acts (reads a) ≡ did (step.Read place (name_of n) LIMIT_BYTES) a ∷ acts past
      acts_read a = acts_append [] past (Did (step.Read place (name_of n) LIMIT_BYTES) a ∷ [])

      told_read : (a : Answer) → Told (reads a)
      told_read a = told_did T told_kept past (step.Read place (name_of n) LIMIT_BYTES) a (stands_told messages (n ∷ left) (files_in job.parts messages) [] past h s)

      parts_say : (text : List ℕ) (missing : Option (List ℕ)) → first_missing job.parts (parts_of text) ≡ missing → Keeps (speaking T) (reads (answer.Content text)) h (filed_unless run job n text missing) Message
      parts_say text (Some part) is = returns (reads (answer.Content text)) h (Err (no_part part)) Message (told_read (answer.Content text)) (told_read (answer.Content text))
      parts_say text None is =
          keeps_more (speaking T) (reads (answer.Content text)) h (filed_unless run job n text None) (FiledAll (messages ++ m text ∷ []) left) Message more
          (files_say (messages ++ m text ∷ []) left n text [] (files_of n job.parts text) refl (fine_parts n ok (stored_parts job.parts (parts_of text))) (files_in job.parts messages) (reads (answer.Content text)) h (subst (Once _) (sym at) (now (LIMIT_BYTES, refl))) begun)
        where
          at : acts (reads (answer.Content text)) ≡ did (step.Read place (name_of n) LIMIT_BYTES) (answer.Content text) ∷ acts past
          at = acts_read (answer.Content text)

          begun : Stands (messages ++ m text ∷ []) left (files_in job.parts messages) (files_of n job.parts text) (reads (answer.Content text)) h
          begun = record {
            fact = subst F (sym at) (lasts (acts past) (step.Read place (name_of n) LIMIT_BYTES) (answer.Content text) tt s.fact);
            stored = subst (Has (messages ++ m text ∷ []) left (files_in job.parts messages) (files_of n job.parts text)) (sym at) (message_more run path job entries messages (m text) left (acts past) is s.stored);
            said = said_did past (step.Read place (name_of n) LIMIT_BYTES) (answer.Content text) ∙ s.said;
            clean = subst (λ o. Clean run o h) (sym at) (clean_more run (acts past) h (step.Read place (name_of n) LIMIT_BYTES) (answer.Content text) (λ e. cc (e)) tt s.clean);
          }

          more : (later : List Deed) (j : Hand) (r : Result Unit CommandFault) → FiledAll (messages ++ m text ∷ []) left later j r → Message later j r
          more later j (Ok u) q = (text, q)
          more later j (Err e) q = q

      message_says : Keeps (speaking T) past h (one_stored run job place n) Message
      unfolding Keeps one_stored read ask lifted bind ◌>>=◌
      message_says = (
        stands_told messages (n ∷ left) (files_in job.parts messages) [] past h s,
        tt,
        told_read answer.Failed,
        on_read (λ a. Keeps (speaking T) (reads a) h (stored_by run job place n (reading_by a)) Message) (λ text. parts_say text (first_missing job.parts (parts_of text)) refl)
            (λ l. returns (reads (answer.Long l)) h (Err (too_large l)) Message (told_read (answer.Long l)) (told_read (answer.Long l)))
            (returns (reads answer.Gone) h (Err (fault.Meddled place (name_of n))) Message (told_read answer.Gone) (told_read answer.Gone)),
      )

    abbrev AllSaid : List Deed → Hand → Result Unit CommandFault → Type 0
    AllSaid later j (Ok u) = (messages : List ReadMessage) × Stands messages [] (files_in job.parts messages) [] later j
    AllSaid later j (Err e) = Told later

    -- the messages that are left
    all_say : (left : List ℕ) → ((n : ℕ) → lists left n ≡ true → IsMsgNum n) → (messages : List ReadMessage) (past : List Deed) (h : Hand) → Stands messages left (files_in job.parts messages) [] past h → Keeps (speaking T) past h (all_stored run job place left) AllSaid
    unfolding all_stored ◌>>=◌
    all_say [] ok messages past h s = returns past h (Ok tt) AllSaid (stands_told messages [] (files_in job.parts messages) [] past h s) (messages, s)
    all_say (n ∷ left) ok messages past h s =
        keeps_bind (speaking T) past h (one_stored run job place n) (after (λ done. all_stored run job place left)) (Message messages n (ok n (first_listed n left)) left past h s) AllSaid (message_says messages n (ok n (first_listed n left)) left past h s)
        (λ later j r q. next (λ ms last i t. all_say left (λ k e. ok k (other_listed n k left e)) ms last i t) later j r q)
      where
        next : ((ms : List ReadMessage) (last : List Deed) (i : Hand) → Stands ms left (files_in job.parts ms) [] last i → Keeps (speaking T) last i (all_stored run job place left) AllSaid) → (later : List Deed) (j : Hand) (r : Result Unit CommandFault)
            → Message messages n (ok n (first_listed n left)) left past h s later j r → Keeps (speaking T) later j (after (λ done. all_stored run job place left) r) AllSaid
        next go later j (Ok u) q = go (messages ++ m messages n (ok n (first_listed n left)) left past h s q.0 ∷ []) later j q.1
        next go later j (Err e) q = returns later j (Err e) AllSaid q q

    -- the folder becomes the current one
    module _ (messages : List ReadMessage) where
      abbrev files : List StoredFile
      files = files_in job.parts messages

      abbrev S : List deeds.Deed → Type 0
      S own = F own × Has messages [] files [] own

      S_kept : KeptBy AnyStep S
      S_kept own s x any z = (lasts own s x any z.0, kept run path job entries messages [] files [] own s x any z.1)

      current_made : (past : List Deed) (j : Hand) → Stands messages [] files [] past j → Keeps (speaking T) past j (made_current run path job.folder) Ends_
      current_made past j s =
          current_says T told_kept Ends_ fails run few path task S S_kept past j (record { numbered = s.clean.numbered; unfailed = s.clean.unfailed }) (stands_told messages [] files [] past j s) (listed_once messages [] files [] (acts past) s.stored)
          (s.fact, s.stored) (λ last i none z. subst (λ t. Done t (acts last)) (sym (none ∙ s.said)) (z.0, (messages, z.1, refl)))

-- the whole
module _ (run : ℕ) (few : run < 2 ^ 128) (path : List ℕ) (job : StoreJob) (h : Hand) (F : List deeds.Deed → Type 0) (lasts : KeptBy AnyStep F) where
  abbrev at : Place
  at = Folder path job.folder

  abbrev es : List NamedValue
  es = entries_seen h.context

  abbrev Texts : List ℕ → List deeds.Deed → Type 0
  Texts text own = F own × TellsFirstFiles run path job es text own

  texts_kept : (text : List ℕ) → KeptBy AnyStep (Texts text)
  texts_kept text = told_kept run few path job es F lasts text

  abbrev pub Ends : List Deed → Hand → Result Unit CommandFault → Type 0
  Ends later j r = IfOkay (λ last i u. F (acts last) × TellsFiles run path job es (said_of last) (acts last)) later j r

  ends_failed : (later : List Deed) (j : Hand) (e : CommandFault) → Ends later j (Err e)
  ends_failed later j e = tt

  abbrev rest : List ℕ → Plan (Result Unit CommandFault)
  rest numbers = bind (all_stored run job at numbers) (after (λ done. made_current run path job.folder))

  -- what was read
  module _ (past : List Deed) (silent : said_of past ≡ []) (f : F (acts past)) (clean : Clean run (acts past) h) where
    module _ (names : List (List ℕ)) (text : List ℕ) (reading_ : deeds.Deed) (told_text : TellsText at (entry_text Sequences) text reading_) (later : List Deed) (is : acts later ≡ reading_ ∷ did (step.List at) (answer.Names names) ∷ acts past)
        (g : F (acts later)) (clean_later : Clean run (acts later) h) (none : said_of later ≡ []) where
      ranged : (numbers : List ℕ) → chosen_seen job names text es ≡ Ok numbers → (n : ℕ) → lists numbers n ≡ true → IsMsgNum n
      ranged numbers same n e =
          has_ranged (runs_of_all (λ k. has_number k names)) (all_runs (λ k. has_number k names)) n (words_listed job.negation (listed_runs names) (sequences_listed names text es job.folder) job.specs numbers same n e)

      begun : (numbers : List ℕ) → chosen_seen job names text es ≡ Ok numbers → Stands run few path job es F lasts [] numbers [] [] later h
      begun numbers same = record {
        fact = g;
        stored = record { names = names; text = text; reading = reading_; newer = []; older = acts past; seen = is; told = told_text; chosen = same; whole = tt; read = tt; all = refl; stored = tt };
        said = none;
        clean = clean_later;
      }

      numbers_say : (numbers : List ℕ) → chosen_seen job names text es ≡ Ok numbers → Keeps (speaking Texts) later h (rest numbers) Ends
      numbers_say numbers same =
          keeps_bind (speaking Texts) later h (all_stored run job at numbers) (after (λ done. made_current run path job.folder)) (AllSaid run few path job es F lasts) Ends
          (all_say run few path job es F lasts numbers (ranged numbers same) [] later h (begun numbers same)) go
        where
          go : (last : List Deed) (j : Hand) (r : Result Unit CommandFault) → AllSaid run few path job es F lasts last j r → Keeps (speaking Texts) last j (after (λ done. made_current run path job.folder) r) Ends
          go last j (Ok u) q = current_made run few path job es F lasts q.0 last j q.1
          go last j (Err e) q = stops Texts texts_kept Ends ends_failed last j e (λ (u : Unit {0}). made_current run path job.folder) q

    -- after deeds that said nothing, of which none failed
    pub store_says : Keeps (speaking Texts) past h (mhstore run path job) Ends
    unfolding mhstore ◌>>=◌
    store_says = front_says Texts texts_kept Ends ends_failed F lasts path job.folder h (List ℕ) (chosen_seen job) (λ names. rest) past silent f goes
      where
        goes : GoesOn Texts texts_kept Ends ends_failed F lasts path job.folder h (List ℕ) (chosen_seen job) (λ names. rest) past
        goes names text a told live later is g none t numbers same = numbers_say names text (reading path job.folder h a) told later is g (subst (λ o. Clean run o h) (sym is) (clean_both run few path job h names a (acts past) live clean)) none numbers same
