-- What a run knows while it commits a folder's text and the context, under the folder's lock.
use Rattle.std.proofs.Common.{◌≡◌, ◌≢◌, ◌⊎◌, inl, inr, ◌∷◌, [], ℕ, zero, suc, Bool, true, false, List, Ok, Err, refl, sym, ap, subst, nat_lt, length}
use Rattle.std.specs.Prelude.{if◌then◌else◌}
use Rattle.mh_base.specs.Entries.{kind_of}
use Rattle.mh_profile.specs.declared.named_value.NamedValue.{NamedValue}
use Rattle.mh_profile.specs.Printing.{printed}
use Rattle.mh_profile.specs.Reading.{entries_in}
use Rattle.folder_files.specs.Careful.{HasLock, IsKnown}
use Rattle.folder_files.specs.Deeds.{Deed, WasDone, did, now, on, last, still}
use Rattle.folder_files.specs.Named.{is_temp}
use Rattle.folder_files.specs.declared.place.Place.{Place}
use Rattle.folder_files.specs.declared.place.Place.TheVariants.{Folder, Mail}
use Rattle.folder_files.specs.declared.step.Answer.{Answer}
use Rattle.folder_files.specs.declared.step.Answer.TheVariants as answer
use Rattle.folder_files.specs.declared.step.Step.{Step}
use Rattle.folder_files.specs.declared.step.Step.TheVariants as step
use Rattle.file_plans.specs.Plan.{Hand, Plan, Return, ◌>>=◌}
use Rattle.step_plans.specs.Commits.{IsBase}
use Rattle.step_plans.specs.Commits as commits
use Rattle.step_plans.specs.ContextCommit.{LIMIT_BYTES, TRIES, changed, commit_by, commit_context, committed, context_name, context_read, context_replaced, entries_by, settled}
use Rattle.step_plans.specs.Hands.{known, named}
use Rattle.step_plans.specs.Locking.{let_go, lock_name, locked, locked_by, temps_cleared}
use Rattle.step_plans.specs.PlanFaults.{of_stop}
use Rattle.step_plans.specs.Pledges.{MayAsk, Pledge}
use Rattle.step_plans.specs.Replacing.{created, entered_once, held_to, made_safe, renamed, replaced, synced, written}
use Rattle.step_plans.specs.declared.change.ChangeEntry.{ChangeEntry}
use Rattle.step_plans.specs.declared.fault.PlanFault.{PlanFault}
use Rattle.step_plans.specs.declared.fault.PlanFault.TheVariants as fault
use Rattle.step_plans.proofs.Asks.{asks_named, asks_temps_cleared}
use Rattle.step_plans.proofs.Committed.{no_entries}
use Rattle.step_plans.proofs.Going.{Outcome, okay}
use Rattle.step_plans.proofs.Past.{did_step}
use Rattle.marks_law.specs.Apart.{IsSynced, IsText}
use Rattle.marks_law.specs.Apart as apart
use Rattle.sequence_marks.specs.SequenceMarks.{private_marks}
use Rattle.opening_plans.proofs.AllMarks.{MindsAll, clear_minds, create_minds, look_minds, make_minds}
use Rattle.opening_plans.proofs.FolderSeen.{Quiet, created_temp}
use Rattle.opening_plans.proofs.Meeting.{Meets, meets_create, meets_end, meets_lock, meets_make, meets_okay, meets_quietly, meets_read, meets_rename, meets_return, meets_sync_file, meets_sync_folder, meets_then, meets_unlock}

-- the run synced the mail directory under the folder's lock, after its last commit of the context
abbrev pub Synced : List ℕ → List ℕ → List Deed → Type 0
Synced path folder own = (sequence : List ℕ) → IsSynced (private_marks path folder sequence) own

-- the run made a file with these bytes under this name, which is a temporary one
abbrev pub MadeTemp : Place → List ℕ → List ℕ → List Deed → Type 0
MadeTemp q temp bytes own = WasDone (step.Create q temp bytes) own × (is_temp (kind_of temp) ≡ true)

-- a step that commits no context of the mail directory
abbrev pub NoCommit : List ℕ → Step → Type 0
NoCommit path s = (temp : List ℕ) → s ≢ step.Rename (Mail path) temp context_name

module _ (Of : List ℕ → Type 0) (w : Pledge) (path folder : List ℕ) where
  abbrev p : Place
  p = Folder path folder

  abbrev mail : Place
  mail = Mail path

  abbrev M : {R : Type 0} → List Deed → Hand → Plan R → Outcome R → Type 0
  M own h plan Q = Meets (MayAsk w) (MindsAll Of w.run) own h plan Q

  quiet_no : (s : Step) → Quiet p s → s ≡ step.Unlock p → ⊥
  quiet_no s quiet e = (subst (λ z. Quiet p z) e quiet) refl

  pub synced_kept : (own : List Deed) (s : Step) (a : Answer) → Quiet p s → NoCommit path s → Synced path folder own → Synced path folder (did s a ∷ own)
  synced_kept own s a quiet none f sequence = apart.on (quiet_no s quiet) none (f sequence)

  -- a fact of the deeds that steps keep which leave the folder's messages and its lock alone
  abbrev pub Lasts : (List Deed → Type 0) → Type 0
  Lasts F = (own : List Deed) (s : Step) (a : Answer) → MayAsk w own s → Quiet p s → F own → F (did s a ∷ own)

  -- a file is written under a temporary name, and takes another name's place
  module _ (q : Place) (F : List Deed → Type 0)
      (creates : (own : List Deed) (temp bytes : List ℕ) (a : Answer) → MayAsk w own (step.Create q temp bytes) → F own → F (did (step.Create q temp bytes) a ∷ own))
      (syncs : (own : List Deed) (temp : List ℕ) (a : Answer) → MayAsk w own (step.SyncFile q temp) → F own → F (did (step.SyncFile q temp) a ∷ own)) where
    abbrev IsNone : Step → Type 0
    IsNone s = ⊥

    created_meets : (own : List Deed) (h : Hand) (temp bytes : List ℕ) → F own → M own h (created q temp bytes) (okay (λ later j u. F later × MadeTemp q temp bytes later))
    unfolding created
    created_meets own h temp bytes f =
        meets_create (MayAsk w) (MindsAll Of w.run) own h of_stop (okay (λ later j u. F later × MadeTemp q temp bytes later)) q temp bytes (entered_once q temp)
        (λ may. (
          create_minds Of w.run own q temp bytes,
          meets_return (MayAsk w) (MindsAll Of w.run) (did (step.Create q temp bytes) answer.Done ∷ own) h tt (okay (λ later j u. F later × MadeTemp q temp bytes later)) (creates own temp bytes answer.Done may f, (now refl, created_temp w own q temp bytes may)),
          meets_end (MayAsk w) (MindsAll Of w.run) (did (step.Create q temp bytes) answer.Exists ∷ own) h (fault.Meddled q temp) (λ later j u. F later × MadeTemp q temp bytes later),
          meets_end (MayAsk w) (MindsAll Of w.run) (did (step.Create q temp bytes) answer.Gone ∷ own) h (fault.Meddled q temp) (λ later j u. F later × MadeTemp q temp bytes later),
        ))

    safe_meets : (own : List Deed) (h : Hand) (temp bytes : List ℕ) → F own → MadeTemp q temp bytes own → M own h (made_safe q temp) (okay (λ later j u. F later × MadeTemp q temp bytes later))
    unfolding made_safe
    safe_meets own h temp bytes f made =
        meets_sync_file (MayAsk w) (MindsAll Of w.run) own h of_stop (okay (λ later j u. F later × MadeTemp q temp bytes later)) q temp (held_to q temp)
        (λ may. (
          look_minds Of w.run own (step.SyncFile q temp) tt,
          meets_return (MayAsk w) (MindsAll Of w.run) (did (step.SyncFile q temp) answer.Done ∷ own) h tt (okay (λ later j u. F later × MadeTemp q temp bytes later)) (syncs own temp answer.Done may f, (on made.0, made.1)),
          meets_end (MayAsk w) (MindsAll Of w.run) (did (step.SyncFile q temp) answer.Gone ∷ own) h (fault.Meddled q temp) (λ later j u. F later × MadeTemp q temp bytes later),
        ))

    pub written_meets : (own : List Deed) (h : Hand) (bytes : List ℕ) → F own → M own h (written w.run q bytes) (okay (λ later j temp. F later × MadeTemp q temp bytes later))
    unfolding written
    written_meets own h bytes f =
        meets_then (MayAsk w) (MindsAll Of w.run) own h (named w.run) (λ temp. created q temp bytes >>= (λ made. made_safe q temp >>= (λ safe. Return (Ok temp)))) (λ later j temp. F later) (λ later j temp. F later × MadeTemp q temp bytes later)
        (meets_quietly (MayAsk w) (MindsAll Of w.run) IsNone F (λ own s a may none g. absurd none) (λ own s may none g. absurd none) own h (named w.run) (asks_named IsNone w.run) f)
        (λ later j temp g.
        meets_then (MayAsk w) (MindsAll Of w.run) later j (created q temp bytes) (λ made. made_safe q temp >>= (λ safe. Return (Ok temp))) (λ last i u. F last × MadeTemp q temp bytes last) (λ last i t. F last × MadeTemp q t bytes last)
        (created_meets later j temp bytes g)
        (λ last i u k.
        meets_then (MayAsk w) (MindsAll Of w.run) last i (made_safe q temp) (λ safe. Return (Ok temp)) (λ end l u. F end × MadeTemp q temp bytes end) (λ end l t. F end × MadeTemp q t bytes end) (safe_meets last i temp bytes k.0 k.1)
        (λ end l u z. meets_return (MayAsk w) (MindsAll Of w.run) end l temp (okay (λ end l t. F end × MadeTemp q t bytes end)) z)))

    pub replaced_meets : (own : List Deed) (h : Hand) (name bytes : List ℕ) (E : List Deed → Type 0) → F own
        → ((later : List Deed) (temp : List ℕ) → MayAsk w later (step.Rename q temp name) → F later → WasDone (step.Create q temp bytes) later → MindsAll Of w.run later (step.Rename q temp name))
        → ((later : List Deed) (temp : List ℕ) → MayAsk w later (step.Rename q temp name) → F later → WasDone (step.Create q temp bytes) later
        → MayAsk w (did (step.Rename q temp name) answer.Done ∷ later) (step.SyncFolder q) → E (did (step.SyncFolder q) answer.Done ∷ (did (step.Rename q temp name) answer.Done ∷ later)))
        → M own h (replaced w.run q name bytes) (okay (λ later j u. E later))
    unfolding replaced renamed synced
    replaced_meets own h name bytes E f minds ends =
        meets_then (MayAsk w) (MindsAll Of w.run) own h (written w.run q bytes) (λ temp. renamed q temp name >>= (λ moved. synced q name)) (λ later j temp. F later × MadeTemp q temp bytes later) (λ later j u. E later) (written_meets own h bytes f) moves
      where
        moves : (later : List Deed) (j : Hand) (temp : List ℕ) → F later × MadeTemp q temp bytes later → M later j (renamed q temp name >>= (λ moved. synced q name)) (okay (λ last i u. E last))
        moves later j temp g =
            meets_then (MayAsk w) (MindsAll Of w.run) later j (renamed q temp name) (λ moved. synced q name) (λ last i u. MayAsk w later (step.Rename q temp name) × (last ≡ did (step.Rename q temp name) answer.Done ∷ later)) (λ last i u. E last)
            (meets_rename (MayAsk w) (MindsAll Of w.run) later j of_stop (okay (λ last i u. MayAsk w later (step.Rename q temp name) × (last ≡ did (step.Rename q temp name) answer.Done ∷ later))) q temp name (held_to q temp)
            (λ may. (
              minds later temp may g.0 g.1.0,
              meets_return (MayAsk w) (MindsAll Of w.run) (did (step.Rename q temp name) answer.Done ∷ later) j tt (okay (λ last i u. MayAsk w later (step.Rename q temp name) × (last ≡ did (step.Rename q temp name) answer.Done ∷ later))) (may, refl),
              meets_end (MayAsk w) (MindsAll Of w.run) (did (step.Rename q temp name) answer.Gone ∷ later) j (fault.Meddled q temp) (λ last i u. MayAsk w later (step.Rename q temp name) × (last ≡ did (step.Rename q temp name) answer.Done ∷ later)),
            )))
            (λ last i u k. subst (λ z. M z i (synced q name) (okay (λ end l v. E end))) (sym k.1)
            (meets_sync_folder (MayAsk w) (MindsAll Of w.run) (did (step.Rename q temp name) answer.Done ∷ later) i of_stop (okay (λ end l v. E end)) q (held_to q name)
            (λ may. (
              look_minds Of w.run (did (step.Rename q temp name) answer.Done ∷ later) (step.SyncFolder q) tt,
              meets_return (MayAsk w) (MindsAll Of w.run) (did (step.SyncFolder q) answer.Done ∷ (did (step.Rename q temp name) answer.Done ∷ later)) i tt (okay (λ end l v. E end)) (ends later temp k.0 g.0 g.1.0 may),
              meets_end (MayAsk w) (MindsAll Of w.run) (did (step.SyncFolder q) answer.Gone ∷ (did (step.Rename q temp name) answer.Done ∷ later)) i (fault.Meddled q name) (λ end l v. E end),
            ))))

  -- the lock of the mail directory
  locked_meets : (F : List Deed → Type 0) → ((own : List Deed) (s : Step) (a : Answer) → MayAsk w own s → Quiet p s → NoCommit path s → F own → F (did s a ∷ own)) → (tries : ℕ) (own : List Deed) (h : Hand) → F own → M own h (locked mail tries) (okay (λ later j u. F later × HasLock mail later))
  unfolding locked
  locked_meets F keeps zero own h f = meets_end (MayAsk w) (MindsAll Of w.run) own h (fault.Locked mail) (λ later j u. F later × HasLock mail later)
  locked_meets F keeps (suc n) own h f =
      meets_lock (MayAsk w) (MindsAll Of w.run) own h of_stop (okay (λ later j u. F later × HasLock mail later)) mail (λ l. locked_by mail l (locked mail n))
      (λ may. (
        look_minds Of w.run own (step.Lock mail) tt,
        meets_return (MayAsk w) (MindsAll Of w.run) (did (step.Lock mail) answer.Done ∷ own) h tt (okay (λ later j u. F later × HasLock mail later)) (keeps own (step.Lock mail) answer.Done may tt (λ t u. cc (u)) f, last refl),
        locked_meets F keeps n (did (step.Lock mail) answer.Busy ∷ own) h (keeps own (step.Lock mail) answer.Busy may tt (λ t u. cc (u)) f),
        meets_end (MayAsk w) (MindsAll Of w.run) (did (step.Lock mail) answer.Gone ∷ own) h (fault.Meddled mail lock_name) (λ later j u. F later × HasLock mail later),
      ))

  mail_apart : mail ≡ p → ⊥
  mail_apart e = cc (e)

  -- a step in the mail directory that clears it of temporary names
  abbrev Clearing : Step → Type 0
  Clearing s = (s ≡ step.List mail) ⊎ ((temp : List ℕ) × (s ≡ step.Unlink mail temp) × (is_temp (kind_of temp) ≡ true))

  clearing_quiet : (s : Step) → Clearing s → Quiet p s × NoCommit path s × (s ≡ step.Unlock mail → ⊥)
  clearing_quiet s (inl e) = subst (λ z. Quiet p z × NoCommit path z × (z ≡ step.Unlock mail → ⊥)) (sym e) (tt, (λ temp u. cc (u)), (λ u. cc (u)))
  clearing_quiet s (inr c) = subst (λ z. Quiet p z × NoCommit path z × (z ≡ step.Unlock mail → ⊥)) (sym c.1) ((λ same. absurd (mail_apart same)), (λ temp u. cc (u)), (λ u. cc (u)))

  clearing_minds : (own : List Deed) (s : Step) → Clearing s → MindsAll Of w.run own s
  clearing_minds own s (inl e) = subst (λ z. MindsAll Of w.run own z) (sym e) (look_minds Of w.run own (step.List mail) tt)
  clearing_minds own s (inr c) = subst (λ z. MindsAll Of w.run own z) (sym c.1) (clear_minds Of w.run own mail c.0 c.2)

  cleared_meets : (F : List Deed → Type 0) → ((own : List Deed) (s : Step) (a : Answer) → MayAsk w own s → Quiet p s → NoCommit path s → F own → F (did s a ∷ own)) → (own : List Deed) (h : Hand) → F own → HasLock mail own
      → M own h (temps_cleared mail) (okay (λ later j u. F later × HasLock mail later))
  cleared_meets F keeps own h f lock_ =
      meets_quietly (MayAsk w) (MindsAll Of w.run) Clearing (λ later. F later × HasLock mail later)
      (λ before s a may c g. let q = clearing_quiet s c in (keeps before s a may q.0 q.1 g.0, still q.2 g.1)) (λ before s may c g. clearing_minds before s c)
      own h (temps_cleared mail) (asks_temps_cleared Clearing mail (inl refl) (λ temp is. inr (temp, refl, is))) (f, lock_)

  -- what is known of the context, read under its lock and the folder's
  pub record Context (old : List ℕ) (own : List Deed) : Type 0 where
    pub base : IsBase w.run mail context_name old own
    pub text : (sequence : List ℕ) → IsText w.run (private_marks path folder sequence) old own

  context_kept : (old : List ℕ) (own : List Deed) (s : Step) (a : Answer) → (s ≡ step.Unlock mail → ⊥) → (s ≡ step.Unlock p → ⊥) → (IsKnown w.run mail context_name (did s a) → ⊥) → Context old own → Context old (did s a ∷ own)
  context_kept old own s a off away unknown f = record { base = commits.on off unknown f.base; text = λ sequence. apart.on away unknown (f.text sequence) }

  -- a fact that steps keep besides which commit no context
  abbrev pub LastsBetween : (List Deed → Type 0) → Type 0
  LastsBetween F = (own : List Deed) (s : Step) (a : Answer) → MayAsk w own s → Quiet p s → NoCommit path s → F own → F (did s a ∷ own)

  -- a commit of the context by such changes: a fact that lasts, and that the mail directory was synced, hold before and after it; and each
  -- commit of such a text minds all marks. Of what each commit makes another, the one holds before it, and the other after it
  module _ (F : List Deed → Type 0) (keeps : Lasts F) (locks : (own : List Deed) → F own → HasLock p own) (cs : List ChangeEntry)
      (minds : (own : List Deed) (temp old : List ℕ) → MayAsk w own (step.Rename mail temp context_name) → F own → Synced path folder own → Context old own → WasDone (step.Create mail temp (printed (changed cs (entries_in old)))) own
      → MindsAll Of w.run own (step.Rename mail temp context_name))
      (Old New : List Deed → Type 0) (keeps_old : LastsBetween Old) (keeps_new : LastsBetween New)
      (commits_so : (own : List Deed) (temp old : List ℕ) → MayAsk w own (step.Rename mail temp context_name) → F own → Context old own → WasDone (step.Create mail temp (printed (changed cs (entries_in old)))) own → Old own
      → New (did (step.Rename mail temp context_name) answer.Done ∷ own)) where
    abbrev Both : List Deed → Type 0
    Both own = (F own × Synced path folder own) × Old own

    both_kept : (own : List Deed) (s : Step) (a : Answer) → MayAsk w own s → Quiet p s → NoCommit path s → Both own → Both (did s a ∷ own)
    both_kept own s a may quiet none f = ((keeps own s a may quiet f.0.0, synced_kept own s a quiet none f.0.1), keeps_old own s a may quiet none f.1)

    -- after it
    abbrev Since : List Deed → Type 0
    Since own = (F own × Synced path folder own) × New own

    since_kept : (own : List Deed) (s : Step) (a : Answer) → MayAsk w own s → Quiet p s → NoCommit path s → Since own → Since (did s a ∷ own)
    since_kept own s a may quiet none f = ((keeps own s a may quiet f.0.0, synced_kept own s a quiet none f.0.1), keeps_new own s a may quiet none f.1)

    abbrev Reads : List ℕ → List Deed → Type 0
    Reads old own = Both own × Context old own

    create_kept : (old : List ℕ) (own : List Deed) (temp bytes : List ℕ) (a : Answer) → MayAsk w own (step.Create mail temp bytes) → Reads old own → Reads old (did (step.Create mail temp bytes) a ∷ own)
    create_kept old own temp bytes a may f = (both_kept own (step.Create mail temp bytes) a may tt (λ t u. cc (u)) f.0, context_kept old own (step.Create mail temp bytes) a (λ u. cc (u)) (λ u. cc (u)) unknown f.1)
      where
        unknown : IsKnown w.run mail context_name (did (step.Create mail temp bytes) a) → ⊥
        unknown (inl e) = let same = did_step e.1.1 in cc (same)
        unknown (inr (inl e)) = let same = did_step e.1 in cc (same)
        unknown (inr (inr e)) = let same = did_step e.1 in cc (same)

    sync_kept : (old : List ℕ) (own : List Deed) (temp : List ℕ) (a : Answer) → MayAsk w own (step.SyncFile mail temp) → Reads old own → Reads old (did (step.SyncFile mail temp) a ∷ own)
    sync_kept old own temp a may f = (both_kept own (step.SyncFile mail temp) a may tt (λ t u. cc (u)) f.0, context_kept old own (step.SyncFile mail temp) a (λ u. cc (u)) (λ u. cc (u)) unknown f.1)
      where
        unknown : IsKnown w.run mail context_name (did (step.SyncFile mail temp) a) → ⊥
        unknown (inl e) = let same = did_step e.1.1 in cc (same)
        unknown (inr (inl e)) = let same = did_step e.1 in cc (same)
        unknown (inr (inr e)) = let same = did_step e.1 in cc (same)

    abbrev Ends : Outcome Unit
    Ends later j u = Since later

    replaced_context : (own : List Deed) (h : Hand) (old text : List ℕ) → text ≡ printed (changed cs (entries_in old)) → Reads old own → M own h (context_replaced w.run mail text) (okay Ends)
    unfolding context_replaced
    replaced_context own h old text is f = go (nat_lt LIMIT_BYTES (length text))
      where
        go : (b : Bool) → M own h (if b then Return (Err (fault.TooLarge (length text))) else replaced w.run mail context_name text) (okay Ends)
        go true = meets_end (MayAsk w) (MindsAll Of w.run) own h (fault.TooLarge (length text)) Ends
        go false =
            replaced_meets mail (Reads old) (create_kept old) (sync_kept old) own h context_name text Since f
            (λ later temp may g made. minds later temp old may g.0.0.0 g.0.0.1 g.1 (subst (λ z. WasDone (step.Create mail temp z) later) is made))
            (λ later temp may g made may_sync.
            let renamed_ = did (step.Rename mail temp context_name) answer.Done ∷ later in
            let one = keeps later (step.Rename mail temp context_name) answer.Done may (λ same. absurd (mail_apart same)) g.0.0.0 in (
              (keeps renamed_ (step.SyncFolder mail) answer.Done may_sync tt one, λ sequence. apart.synced refl (locks renamed_ one)),
              keeps_new renamed_ (step.SyncFolder mail) answer.Done may_sync tt (λ t u. cc (u)) (commits_so later temp old may g.0.0.0 g.1 (subst (λ z. WasDone (step.Create mail temp z) later) is made) g.0.1),
            ))

    abbrev Entries : Outcome (List NamedValue)
    Entries later j es = (old : List ℕ) × (es ≡ entries_in old) × Reads old later

    read_meets : (own : List Deed) (h : Hand) → Both own → HasLock mail own → M own h (context_read mail) (okay Entries)
    unfolding context_read
    read_meets own h f lock_ =
        meets_read (MayAsk w) (MindsAll Of w.run) own h of_stop (okay Entries) mail context_name LIMIT_BYTES entries_by
        (λ may. (
          look_minds Of w.run own (step.Read mail context_name LIMIT_BYTES) tt,
          (λ bytes. meets_return (MayAsk w) (MindsAll Of w.run) (did (step.Read mail context_name LIMIT_BYTES) (answer.Content bytes) ∷ own) h (entries_in bytes) (okay Entries) (
            bytes,
            refl,
            (
              both_kept own (step.Read mail context_name LIMIT_BYTES) (answer.Content bytes) may tt (λ t u. cc (u)) f,
              record { base = commits.found (LIMIT_BYTES, refl) lock_; text = λ sequence. apart.found (LIMIT_BYTES, refl) (locks own f.0.0) },
            ),
          )),
          (λ l. meets_end (MayAsk w) (MindsAll Of w.run) (did (step.Read mail context_name LIMIT_BYTES) (answer.Long l) ∷ own) h (fault.TooLarge l) Entries),
          meets_return (MayAsk w) (MindsAll Of w.run) (did (step.Read mail context_name LIMIT_BYTES) answer.Gone ∷ own) h [] (okay Entries) (
            [],
            sym no_entries,
            (
              both_kept own (step.Read mail context_name LIMIT_BYTES) answer.Gone may tt (λ t u. cc (u)) f,
              record { base = commits.missing refl lock_; text = λ sequence. apart.missing refl (locks own f.0.0) },
            ),
          ),
        ))

    known_meets : (own : List Deed) (h : Hand) (es : List NamedValue) → Since own → M own h (known es) (okay Ends)
    unfolding Meets known
    known_meets own h es f = f

    free_meets : (own : List Deed) (h : Hand) (es : List NamedValue) → Since own → M own h (let_go mail >>= (λ free. known es)) (okay Ends)
    unfolding let_go
    free_meets own h es f =
        meets_then (MayAsk w) (MindsAll Of w.run) own h (let_go mail) (λ free. known es) Ends Ends
        (meets_unlock (MayAsk w) (MindsAll Of w.run) own h of_stop (okay Ends) mail (λ a. Return (Ok tt))
        (λ may. (
          look_minds Of w.run own (step.Unlock mail) tt,
          meets_return (MayAsk w) (MindsAll Of w.run) (did (step.Unlock mail) answer.Done ∷ own) h tt (okay Ends) (since_kept own (step.Unlock mail) answer.Done may mail_apart (λ t u. cc (u)) f),
        )))
        (λ later j u g. known_meets later j es g)

    writing : (own : List Deed) (h : Hand) (es : List NamedValue) (old : List ℕ) → es ≡ entries_in old → Reads old own → M own h (context_replaced w.run mail (printed (changed cs es)) >>= (λ new. let_go mail >>= (λ free. known (changed cs es)))) (okay Ends)
    writing own h es old is f =
        meets_then (MayAsk w) (MindsAll Of w.run) own h (context_replaced w.run mail (printed (changed cs es))) (λ new. let_go mail >>= (λ free. known (changed cs es))) Ends Ends
        (replaced_context own h old (printed (changed cs es)) (ap (λ z. printed (changed cs z)) is) f) (λ later j u g. free_meets later j (changed cs es) g)

    made_meets : (own : List Deed) (h : Hand) → Both own
        → M own h (locked mail TRIES >>= (λ held. temps_cleared mail >>= (λ clear. context_read mail >>= (λ es. context_replaced w.run mail (printed (changed cs es)) >>= (λ new. let_go mail >>= (λ free. known (changed cs es))))))) (okay Ends)
    made_meets own h f =
        meets_then (MayAsk w) (MindsAll Of w.run) own h (locked mail TRIES) (λ held. temps_cleared mail >>= (λ clear. context_read mail >>= (λ es. context_replaced w.run mail (printed (changed cs es)) >>= (λ new. let_go mail >>= (λ free. known (changed cs es)))))) (λ later j u. Both later × HasLock mail later) Ends
        (locked_meets Both both_kept TRIES own h f)
        (λ later j u g.
        meets_then (MayAsk w) (MindsAll Of w.run) later j (temps_cleared mail) (λ clear. context_read mail >>= (λ es. context_replaced w.run mail (printed (changed cs es)) >>= (λ new. let_go mail >>= (λ free. known (changed cs es))))) (λ last i v. Both last × HasLock mail last) Ends (cleared_meets Both both_kept later j g.0 g.1)
        (λ last i v k.
        meets_then (MayAsk w) (MindsAll Of w.run) last i (context_read mail) (λ es. context_replaced w.run mail (printed (changed cs es)) >>= (λ new. let_go mail >>= (λ free. known (changed cs es)))) Entries Ends (read_meets last i k.0 k.1)
        (λ end l es z. writing end l es z.0 z.1 z.2)))

    committed_meets : (own : List Deed) (h : Hand) → Both own → M own h (committed w.run mail cs) (okay Ends)
    unfolding committed
    committed_meets own h f =
        meets_make (MayAsk w) (MindsAll Of w.run) own h of_stop (okay Ends) mail _
        (λ may. (
          make_minds Of w.run own mail,
          made_meets (did (step.MakeFolder mail) answer.Done ∷ own) h (both_kept own (step.MakeFolder mail) answer.Done may tt (λ t u. cc (u)) f),
          made_meets (did (step.MakeFolder mail) answer.Exists ∷ own) h (both_kept own (step.MakeFolder mail) answer.Exists may tt (λ t u. cc (u)) f),
        ))

    pub commit_meets_so : (own : List Deed) (h : Hand) → F own → Synced path folder own → Old own → (settled cs h.context ≡ true → New own) → M own h (commit_context w.run mail cs) (okay (λ later j u. (F later × Synced path folder later) × New later))
    unfolding Meets commit_context
    commit_meets_so own h f s old says_so = go (settled cs h.context) refl
      where
        go : (b : Bool) → settled cs h.context ≡ b → M own h (commit_by w.run mail cs b) (okay Ends)
        go true e = meets_return (MayAsk w) (MindsAll Of w.run) {E = PlanFault} own h tt (okay Ends) ((f, s), says_so e)
        go false e = committed_meets own h ((f, s), old)

  -- where nothing is made another
  pub commit_meets : (F : List Deed → Type 0) → Lasts F → ((own : List Deed) → F own → HasLock p own) → (cs : List ChangeEntry)
      → ((own : List Deed) (temp old : List ℕ) → MayAsk w own (step.Rename mail temp context_name) → F own → Synced path folder own → Context old own → WasDone (step.Create mail temp (printed (changed cs (entries_in old)))) own
      → MindsAll Of w.run own (step.Rename mail temp context_name))
      → (own : List Deed) (h : Hand) → F own → Synced path folder own → M own h (commit_context w.run mail cs) (okay (λ later j u. F later × Synced path folder later))
  commit_meets F keeps locks cs minds own h f s =
      meets_okay (MayAsk w) (MindsAll Of w.run) own h (commit_context w.run mail cs) (λ later j u. (F later × Synced path folder later) × Unit {0}) (λ later j u. F later × Synced path folder later) (λ later j u g. g.0)
      (commit_meets_so F keeps locks cs minds (λ before. Unit {0}) (λ before. Unit {0}) (λ before step_ a may quiet none u. tt) (λ before step_ a may quiet none u. tt) (λ before temp old may g context made u. tt) own h f s tt (λ e. tt))
