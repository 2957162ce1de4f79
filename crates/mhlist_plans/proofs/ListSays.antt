-- What `mhlist` says: a front of the line above the rows and of the rows of the messages that it has read so far; and all of them where it is done.
use Rattle.std.proofs.Common.{◌≡◌, ◌<◌, ◌^◌, ◌++◌, ◌∷◌, [], inl, inr, ℕ, List, Option, Some, None, Result, Ok, Err, refl, sym, ◌∙◌, ap, subst}
use Rattle.mh_base.specs.Entries.{entry_text}
use Rattle.mh_base.specs.declared.entry.Entry.TheVariants.{Sequences}
use Rattle.mh_profile.specs.declared.named_value.NamedValue.{NamedValue}
use Rattle.folder_files.specs.Deeds as deeds
use Rattle.folder_files.specs.Deeds.{did, now, on}
use Rattle.folder_files.specs.declared.place.Place.{Place}
use Rattle.folder_files.specs.declared.place.Place.TheVariants.{Folder}
use Rattle.folder_files.specs.declared.step.Answer.{Answer}
use Rattle.folder_files.specs.declared.step.Answer.TheVariants as answer
use Rattle.folder_files.specs.declared.step.Step.TheVariants as step
use Rattle.file_plans.specs.Asking.{read, reading_of as reading_by}
use Rattle.file_plans.specs.Plan.{Hand, Plan, Return, after, ask, bind, lifted, ◌>>=◌}
use Rattle.file_plans.specs.Rules.{IfOkay, Keeps}
use Rattle.file_plans.specs.Runs.{Deed, Did}
use Rattle.file_plans.specs.Text.{said_of}
use Rattle.file_plans.proofs.Acting.{acts, acts_append}
use Rattle.file_plans.proofs.Framing.{AnyStep}
use Rattle.file_plans.proofs.Keeping.{keeps_bind}
use Rattle.step_plans.specs.ContextCommit.{LIMIT_BYTES}
use Rattle.step_plans.specs.declared.command_fault.CommandFault.{CommandFault}
use Rattle.step_plans.specs.declared.command_fault.CommandFault.TheVariants as fault
use Rattle.step_plans.proofs.Coming.{NoneFailed}
use Rattle.step_plans.proofs.Lasting.{KeptBy}
use Rattle.step_plans.proofs.Ruling.{AreNumbered}
use Rattle.step_plans.proofs.Stepping.{on_read}
use Rattle.command_stages.specs.Current.{made_current}
use Rattle.command_stages.specs.Texts.{too_large}
use Rattle.mh_looks.specs.ScanPledge.{HasListed}
use Rattle.mh_looks.proofs.Ending.{name_of}
use Rattle.opening_plans.specs.Endings.{IsToldBy}
use Rattle.opening_plans.specs.Reads.{TellsText}
use Rattle.opening_plans.proofs.CleanRuns.{unfailed_by}
use Rattle.opening_plans.proofs.EndedKept.{keeps_more}
use Rattle.opening_plans.proofs.Speaking.{said_did, speaking, told_did}
use Rattle.told_folders.specs.Outcomes.{joined}
use Rattle.told_folders.proofs.FrontComes.{reading}
use Rattle.told_folders.proofs.FrontSays.{GoesOn, both_clean, current_says, front_says, stops}
use Rattle.told_folders.proofs.ChangesSay.{Adds, all_told, lines_say}
use Rattle.part_rows.specs.Choices.{first_missing, listed}
use Rattle.part_rows.specs.PartViews.{parts_of}
use Rattle.part_rows.specs.Rows.{header, rows_of}
use Rattle.mhlist_plans.specs.ListAnswers.{HasJustRead, HasRead, IsWhole, ReadMessage, TellsFirstRows, TellsRows, reading_of, told_of}
use Rattle.mhlist_plans.specs.ListPledge.{task_of}
use Rattle.mhlist_plans.specs.Listing.{all_listed, chosen_seen, header_said, listed_by, mhlist, no_part, one_listed, said_unless}
use Rattle.mhlist_plans.specs.declared.job.ListJob.{ListJob}
use Rattle.mhlist_plans.proofs.MessagesRead.{just_more, reading_kept, told_more}
use Rattle.mhlist_plans.proofs.RowsGiven.{header_some, some_rows}
use Rattle.mh_profile.specs.Reading.{entries_seen}

module _ (run : ℕ) (few : run < 2 ^ 128) (path : List ℕ) (job : ListJob) (h : Hand) where
  abbrev place : Place
  place = Folder path job.folder

  abbrev entries : List NamedValue
  entries = entries_seen h.context

  abbrev Just : List ReadMessage → List ℕ → List deeds.Deed → Type 0
  Just messages left own = HasJustRead path job entries messages left own

  abbrev HaveRead : List ReadMessage → List ℕ → List deeds.Deed → Type 0
  HaveRead messages left own = HasRead path job entries messages left own

  read_kept : (messages : List ReadMessage) (left : List ℕ) → KeptBy AnyStep (HaveRead messages left)
  read_kept messages left own s x any f = record { newer = did s x ∷ f.newer; before = f.before; seen = ap (λ z. did s x ∷ z) f.seen; just = f.just }

  read_now : (messages : List ReadMessage) (left : List ℕ) (own : List deeds.Deed) → Just messages left own → HaveRead messages left own
  read_now messages left own f = record { newer = []; before = own; seen = refl; just = f }

  listed_by_now : (messages : List ReadMessage) (left : List ℕ) (own : List deeds.Deed) → Just messages left own → HasListed place own
  listed_by_now messages left own f =
      subst (HasListed place) (sym f.seen)
      (reading_kept place (HasListed place) (λ before n text z. on z) messages (f.reading ∷ did (step.List place) (answer.Names f.names) ∷ f.older) (on (now (f.names, refl))))

  -- with what lasts besides
  module _ (F : List deeds.Deed → Type 0) (lasts : KeptBy AnyStep F) where
    abbrev T : List ℕ → List deeds.Deed → Type 0
    T text own = F own × TellsFirstRows path job entries text own

    -- where it is done
    abbrev Done : List ℕ → List deeds.Deed → Type 0
    Done text own = F own × TellsRows path job entries text own

    told_kept : (text : List ℕ) → KeptBy AnyStep (T text)
    told_kept text own s x any (f, t) = (lasts own s x any f, (t.0, (t.1.0, read_kept t.0 t.1.0 own s x any t.1.1, t.1.2)))

    abbrev Told : List Deed → Type 0
    Told past = IsToldBy T (said_of past) (acts past)

    abbrev pub Ends : List Deed → Hand → Result Unit CommandFault → Type 0
    Ends later j r = IfOkay (λ last i u. Done (said_of last) (acts last)) later j r

    fails : (later : List Deed) (j : Hand) (e : CommandFault) → Ends later j (Err e)
    fails later j e = tt

    -- a part that is over
    returns : (later : List Deed) (j : Hand) (r : Result Unit CommandFault) (Q : List Deed → Hand → Result Unit CommandFault → Type 0) → Told later → Q later j r → Keeps (speaking T) later j (Return r) Q
    unfolding Keeps
    returns later j r Q told q = (told, q)

    -- these messages were just read, and all that is to be said of them was said
    record Stands (messages : List ReadMessage) (left : List ℕ) (past : List Deed) : Type 0 where
      pub fact : F (acts past)
      pub just : Just messages left (acts past)
      pub said : said_of past ≡ told_of job.parts messages
      pub numbered : AreNumbered run h.next (acts past)
      pub clean : NoneFailed (acts past)

    text_now : (messages : List ReadMessage) (left : List ℕ) (own : List deeds.Deed) → F own → Just messages left own → T (told_of job.parts messages) own
    text_now messages left own f just = (f, (messages, (left, read_now messages left own just, refl)))

    stands_told : (messages : List ReadMessage) (left : List ℕ) (past : List Deed) → Stands messages left past → Told past
    stands_told messages left past s = all_told T (told_of job.parts messages) (said_of past) (acts past) (text_now messages left (acts past) s.fact s.just) s.said

    -- one message
    module _ (messages : List ReadMessage) (n : ℕ) (left : List ℕ) (past : List Deed) (s : Stands messages (n ∷ left) past) where
      abbrev m : List ℕ → ReadMessage
      m text = record { number = n; text = text }

      abbrev One : List Deed → Hand → Result Unit CommandFault → Type 0
      One later j (Ok u) = (text : List ℕ) × Stands (messages ++ m text ∷ []) left later × (j ≡ h)
      One later j (Err e) = Told later

      abbrev reads : Answer → List Deed
      reads a = past ++ Did (step.Read place (name_of n) LIMIT_BYTES) a ∷ []

      acts_read : (a : Answer) → acts (reads a) ≡ did (step.Read place (name_of n) LIMIT_BYTES) a ∷ acts past
      acts_read a = acts_append [] past (Did (step.Read place (name_of n) LIMIT_BYTES) a ∷ [])

      told_read : (a : Answer) → Told (reads a)
      told_read a = told_did T told_kept past (step.Read place (name_of n) LIMIT_BYTES) a (stands_told messages (n ∷ left) past s)

      still_clean : (text : List ℕ) → NoneFailed (did (step.Read place (name_of n) LIMIT_BYTES) (answer.Content text) ∷ acts past)
      still_clean text (inl e) = cc (e)
      still_clean text (inr w) = s.clean w

      -- it has all parts that are wanted, and its rows were said
      whole_stands : (text : List ℕ) → IsWhole job.parts text → (later : List Deed) → acts later ≡ acts (reads (answer.Content text)) → said_of later ≡ told_of job.parts (messages ++ m text ∷ []) → Stands (messages ++ m text ∷ []) left later
      whole_stands text whole later same said =
          let at : acts later ≡ reading_of place (m text) ∷ acts past = same ∙ acts_read (answer.Content text) in
          record {
            fact = subst F (sym at) (lasts (acts past) (step.Read place (name_of n) LIMIT_BYTES) (answer.Content text) tt s.fact);
            just = subst (Just (messages ++ m text ∷ []) left) (sym at) (just_more path job entries messages (m text) left (acts past) whole s.just);
            said = said;
            numbered = subst (AreNumbered run h.next) (sym at) (tt, s.numbered);
            clean = subst NoneFailed (sym at) (still_clean text);
          }

      rows_say : (text : List ℕ) (missing : Option (List ℕ)) → first_missing job.parts (parts_of text) ≡ missing → Keeps (speaking T) (reads (answer.Content text)) h (said_unless job.parts n text missing) One
      rows_say text (Some part) is = returns (reads (answer.Content text)) h (Err (no_part part)) One (told_read (answer.Content text)) (told_read (answer.Content text))
      rows_say text None is =
          keeps_more (speaking T) (reads (answer.Content text)) h (lines_said_) (λ later j r. Adds rows (reads (answer.Content text)) h later j r) One more
          (lines_say T new (reads (answer.Content text)) h (rows_of n job.parts text) (some_rows n (listed job.parts (parts_of text))) telling (ap (λ z. z ++ rows) before ∙ sym (told_more job.parts messages (m text))))
        where
          rows : List ℕ
          rows = joined (rows_of n job.parts text)

          new : List ℕ
          new = told_of job.parts (messages ++ m text ∷ [])

          lines_said_ : Plan (Result Unit CommandFault)
          lines_said_ = said_unless job.parts n text None

          before : said_of (reads (answer.Content text)) ≡ told_of job.parts messages
          before = said_did past (step.Read place (name_of n) LIMIT_BYTES) (answer.Content text) ∙ s.said

          telling : T new (acts (reads (answer.Content text)))
          telling =
              subst (T new) (sym (acts_read (answer.Content text)))
              (text_now (messages ++ m text ∷ []) left (reading_of place (m text) ∷ acts past) (lasts (acts past) (step.Read place (name_of n) LIMIT_BYTES) (answer.Content text) tt s.fact) (just_more path job entries messages (m text) left (acts past) is s.just))

          all : (later : List Deed) (j : Hand) (r : Result Unit CommandFault) → Adds rows (reads (answer.Content text)) h later j r → said_of later ≡ new
          all later j r q = q.0 ∙ (ap (λ z. z ++ rows) before ∙ sym (told_more job.parts messages (m text)))

          more : (later : List Deed) (j : Hand) (r : Result Unit CommandFault) → Adds rows (reads (answer.Content text)) h later j r → One later j r
          more later j (Ok u) q = (text, whole_stands text is later q.1 (all later j (Ok u) q), q.2)
          more later j (Err e) q = all_told T new (said_of later) (acts later) (subst (T new) (sym q.1) telling) (all later j (Err e) q)

      one_says : Keeps (speaking T) past h (one_listed job.parts place n) One
      unfolding Keeps one_listed read ask lifted bind ◌>>=◌
      one_says = (
        stands_told messages (n ∷ left) past s,
        tt,
        told_read answer.Failed,
        on_read (λ a. Keeps (speaking T) (reads a) h (listed_by job.parts place n (reading_by a)) One) (λ text. rows_say text (first_missing job.parts (parts_of text)) refl)
            (λ l. returns (reads (answer.Long l)) h (Err (too_large l)) One (told_read (answer.Long l)) (told_read (answer.Long l)))
            (returns (reads answer.Gone) h (Err (fault.Meddled place (name_of n))) One (told_read answer.Gone) (told_read answer.Gone)),
      )

    abbrev All : List Deed → Hand → Result Unit CommandFault → Type 0
    All later j (Ok u) = (messages : List ReadMessage) × Stands messages [] later × (j ≡ h)
    All later j (Err e) = Told later

    -- the messages that are left
    all_say : (left : List ℕ) (messages : List ReadMessage) (past : List Deed) → Stands messages left past → Keeps (speaking T) past h (all_listed job.parts place left) All
    unfolding all_listed ◌>>=◌
    all_say [] messages past s = returns past h (Ok tt) All (stands_told messages [] past s) (messages, s, refl)
    all_say (n ∷ left) messages past s =
        keeps_bind (speaking T) past h (one_listed job.parts place n) (after (λ u. all_listed job.parts place left)) (One messages n left past s) All (one_says messages n left past s)
        (λ later j r q. next (λ ms last t. all_say left ms last t) later j r q)
      where
        next : ((ms : List ReadMessage) (last : List Deed) → Stands ms left last → Keeps (speaking T) last h (all_listed job.parts place left) All) → (later : List Deed) (j : Hand) (r : Result Unit CommandFault) → One messages n left past s later j r
            → Keeps (speaking T) later j (after (λ u. all_listed job.parts place left) r) All
        next rest later j (Ok u) q = subst (λ i. Keeps (speaking T) later i (all_listed job.parts place left) All) (sym q.2) (rest (messages ++ m messages n left past s q.0 ∷ []) later q.1)
        next rest later j (Err e) q = returns later j (Err e) All q q

    -- the folder becomes the current one
    module _ (messages : List ReadMessage) where
      abbrev new : List ℕ
      new = told_of job.parts messages

      abbrev S : List deeds.Deed → Type 0
      S own = F own × HaveRead messages [] own

      S_kept : KeptBy AnyStep S
      S_kept own s x any z = (lasts own s x any z.0, read_kept messages [] own s x any z.1)

      current_made : (past : List Deed) → Stands messages [] past → Keeps (speaking T) past h (made_current run path job.folder) Ends
      current_made past s =
          current_says T told_kept Ends fails run few path (task_of job) S S_kept past h (record { numbered = s.numbered; unfailed = unfailed_by (acts past) s.clean }) (stands_told messages [] past s) (listed_by_now messages [] (acts past) s.just)
          (s.fact, read_now messages [] (acts past) s.just) (λ last i none z. subst (λ t. Done t (acts last)) (sym (none ∙ s.said)) (z.0, (messages, z.1, refl)))

    abbrev then_all : List ℕ → Plan (Result Unit CommandFault)
    then_all numbers = bind (all_listed job.parts place numbers) (after (λ u. made_current run path job.folder))

    abbrev rest : List ℕ → Plan (Result Unit CommandFault)
    rest numbers = bind header_said (after (λ u. then_all numbers))

    -- what was read
    module _ (past : List Deed) (silent : said_of past ≡ []) (f : F (acts past)) (numbered : AreNumbered run h.next (acts past)) where
      module _ (names : List (List ℕ)) (text : List ℕ) (reading_ : deeds.Deed) (told_text : TellsText place (entry_text Sequences) text reading_) (later : List Deed) (is : acts later ≡ reading_ ∷ did (step.List place) (answer.Names names) ∷ acts past)
          (g : F (acts later)) (numbered_later : AreNumbered run h.next (acts later)) (clean : NoneFailed (acts later)) (none : said_of later ≡ []) where
        module _ (numbers : List ℕ) (same : chosen_seen job names text entries ≡ Ok numbers) where
          just : Just [] numbers (acts later)
          just = record { names = names; text = text; reading = reading_; older = acts past; seen = is; told = told_text; chosen = same; whole = tt }

          abbrev Headed : List Deed → Hand → Result Unit CommandFault → Type 0
          Headed last j r = Adds (joined (header ∷ [])) later h last j r

          header_says : Keeps (speaking T) later h header_said Headed
          header_says = lines_say T (told_of job.parts []) later h (header ∷ []) (header_some, tt) (text_now [] numbers (acts later) g just) (ap (λ z. z ++ joined (header ∷ [])) none)

          said_header : (last : List Deed) (j : Hand) (r : Result Unit CommandFault) → Headed last j r → said_of last ≡ told_of job.parts []
          said_header last j r q = q.0 ∙ ap (λ z. z ++ joined (header ∷ [])) none

          begun : (last : List Deed) (j : Hand) (r : Result Unit CommandFault) → Headed last j r → Stands [] numbers last
          begun last j r q = record {
            fact = subst F (sym q.1) g;
            just = subst (Just [] numbers) (sym q.1) just;
            said = said_header last j r q;
            numbered = subst (AreNumbered run h.next) (sym q.1) numbered_later;
            clean = subst NoneFailed (sym q.1) clean;
          }

          all_then : (last : List Deed) → Stands [] numbers last → Keeps (speaking T) last h (then_all numbers) Ends
          all_then last s = keeps_bind (speaking T) last h (all_listed job.parts place numbers) (after (λ u. made_current run path job.folder)) All Ends (all_say numbers [] last s) go
            where
              go : (end : List Deed) (j : Hand) (r : Result Unit CommandFault) → All end j r → Keeps (speaking T) end j (after (λ u. made_current run path job.folder) r) Ends
              go end j (Ok u) q = subst (λ i. Keeps (speaking T) end i (made_current run path job.folder) Ends) (sym q.2) (current_made q.0 end q.1)
              go end j (Err e) q = stops T told_kept Ends fails end j e (λ (u : Unit {0}). made_current run path job.folder) q

          numbers_say : Keeps (speaking T) later h (rest numbers) Ends
          numbers_say = keeps_bind (speaking T) later h header_said (after (λ u. then_all numbers)) Headed Ends header_says go
            where
              go : (last : List Deed) (j : Hand) (r : Result Unit CommandFault) → Headed last j r → Keeps (speaking T) last j (after (λ u. then_all numbers) r) Ends
              go last j (Ok u) q = subst (λ i. Keeps (speaking T) last i (then_all numbers) Ends) (sym q.2) (all_then last (begun last j (Ok u) q))
              go last j (Err e) q = stops T told_kept Ends fails last j e (λ (u : Unit {0}). then_all numbers) (stands_told [] numbers last (begun last j (Err e) q))

      -- after deeds that said nothing, of which none failed
      pub list_says : NoneFailed (acts past) → Keeps (speaking T) past h (mhlist run path job) Ends
      unfolding mhlist ◌>>=◌
      list_says clean = front_says T told_kept Ends fails F lasts path job.folder h (List ℕ) (chosen_seen job) (λ names. rest) past silent f goes
        where
          goes : GoesOn T told_kept Ends fails F lasts path job.folder h (List ℕ) (chosen_seen job) (λ names. rest) past
          goes names text a told live later is g none t numbers same =
              numbers_say names text (reading path job.folder h a) told later is g (subst (AreNumbered run h.next) (sym is) (tt, (tt, numbered))) (subst NoneFailed (sym is) (both_clean path job.folder h names a (acts past) live clean)) none numbers same
