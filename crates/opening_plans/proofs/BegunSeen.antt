-- What a run sees of a folder once it has begun it, and that each of these steps minds all marks.
use Rattle.std.proofs.Common.{◌≡◌, ◌⊎◌, inl, inr, ◌+◌, ◌∷◌, [], ℕ, Bool, true, false, List, Option, Ok, refl, sym, ◌∙◌, ap, subst, arith}
use Rattle.std.specs.Prelude.{Some, decimal}
use Rattle.mh_base.specs.Entries.{kind_of}
use Rattle.mh_base.specs.declared.entry.Entry.TheVariants.{Number}
use Rattle.mh_profile.specs.declared.named_value.NamedValue.{NamedValue}
use Rattle.mh_profile.specs.Reading.{entries_in}
use Rattle.mh_sequences.specs.Runs.{AreRuns}
use Rattle.mh_sequences.specs.Sequences.{Marked}
use Rattle.mh_sequences.specs.declared.run.Run.{Run}
use Rattle.folder_files.specs.Careful.{HasLock}
use Rattle.folder_files.specs.Deeds.{Deed, WasDone, did, last, now, on, still}
use Rattle.folder_files.specs.Named.{is_number, is_temp}
use Rattle.folder_files.specs.Steps.{has_text}
use Rattle.folder_files.specs.declared.place.Place.{Place}
use Rattle.folder_files.specs.declared.place.Place.TheVariants.{Folder, Mail}
use Rattle.folder_files.specs.declared.step.Answer.{Answer}
use Rattle.folder_files.specs.declared.step.Answer.TheVariants as answer
use Rattle.folder_files.specs.declared.step.Step.{Step}
use Rattle.folder_files.specs.declared.step.Step.TheVariants as step
use Rattle.folder_files.proofs.Names.{both, number_text, or_case}
use Rattle.file_plans.specs.Mailboxes.{is_message_number}
use Rattle.file_plans.specs.Plan.{Hand, Plan, Return, ◌>>=◌}
use Rattle.file_plans.specs.Sightings.{has_number}
use Rattle.file_plans.proofs.NumberTexts.{has_number_text}
use Rattle.file_plans.proofs.Showing.{is_number_of}
use Rattle.step_plans.specs.ContextCommit.{LIMIT_BYTES, context_name, context_read, entries_by}
use Rattle.step_plans.specs.Hands.{known}
use Rattle.step_plans.specs.Locking.{cleared, lock_name}
use Rattle.step_plans.specs.PlanFaults.{of_stop}
use Rattle.step_plans.specs.Pledges.{MayAsk, Pledge}
use Rattle.step_plans.specs.Replacing.{held_to, synced}
use Rattle.step_plans.specs.declared.fault.PlanFault.TheVariants as fault
use Rattle.step_plans.proofs.Asks.{asks_cleared}
use Rattle.step_plans.proofs.Committed.{no_entries}
use Rattle.step_plans.proofs.Going.{Outcome, okay}
use Rattle.step_plans.proofs.Past.{did_step}
use Rattle.marks_law.specs.Apart as apart
use Rattle.marks_law.specs.Minding.{Sees, listed}
use Rattle.held_messages.specs.HeldPairs.{held_pairs}
use Rattle.held_messages.specs.Highest.{highest}
use Rattle.held_messages.specs.Settle.{Settled, names_by, put_back, settle, settled_of}
use Rattle.held_messages.proofs.ListedPairs.{are_pairs, pairs_listed}
use Rattle.held_messages.proofs.Telling.{highest_small}
use Rattle.held_messages.proofs.Tops.{highest_above}
use Rattle.sequence_marks.specs.SequenceMarks.{private_marks}
use Rattle.sequence_commits.specs.Committing.{cut_committed}
use Rattle.sequence_commits.specs.Reading.{sequences_in}
use Rattle.sequence_commits.proofs.RunTests.{all_has, all_runs}
use Rattle.sequence_commits.proofs.SequencesPledged.{sequences_name}
use Rattle.opening_plans.specs.Existing.{are_tried, exists_in, numbers_settled}
use Rattle.opening_plans.specs.FolderPledge.{told_within}
use Rattle.opening_plans.specs.Opening.{Opened, begun, folder_locked, locked_begun, locked_by, mail_made, marks_cut, marks_read, opened_of, sequences_read, settled_read, text_by}
use Rattle.opening_plans.proofs.AllMarks.{MindsAll, clear_minds, look_minds, make_minds}
use Rattle.opening_plans.proofs.CommitFrees.{frees_meet, same_private}
use Rattle.opening_plans.proofs.CommitMinds.{Facts, IsTold}
use Rattle.opening_plans.proofs.CommitSeen.{Synced, synced_kept}
use Rattle.opening_plans.proofs.FolderSeen.{LetGo, Quiet, Seen, quiet_seen}
use Rattle.opening_plans.proofs.FreeMarks.{FreesOthers, FreesRead}
use Rattle.opening_plans.proofs.Meeting.{Meets, meets_end, meets_list, meets_lock, meets_make, meets_on, meets_quietly, meets_read, meets_return, meets_stop, meets_sync_folder, meets_then}
use Rattle.opening_plans.proofs.ToldMarks.{InListing, told_cur, told_in, told_listed, told_valid}
use Rattle.opening_plans.proofs.SettledSeen.{AbsentFrom, HasSettled, number_ranged, settle_meets}

-- no name of the place was unlinked
abbrev pub NoneUnlinked : Place → List Deed → Type 0
NoneUnlinked q own = (x : List ℕ) → WasDone (step.Unlink q x) own → ⊥

pub still_none : (q : Place) (own : List Deed) (s : Step) (a : Answer) → ((x : List ℕ) → s ≡ step.Unlink q x → ⊥) → NoneUnlinked q own → NoneUnlinked q (did s a ∷ own)
still_none q own s a other f x (now e) = other x (did_step e)
still_none q own s a other f x (on g) = f x g

-- what was begun of the folder is known: each listed number is there, and no held name but those that were listed and not let go; and the
-- sequences are those that were read, cut
pub record HasSeenBegun (path folder : List ℕ) (later : List Deed) (o : Opened) : Type 0 where
  pub place : o.place ≡ Folder path folder
  pub name : o.folder ≡ folder
  pub names : List (List ℕ)
  pub facts : Seen (Folder path folder) names (InListing o.listing) later × Synced path folder later
  pub runs : AreRuns o.listing
  pub text : List ℕ
  pub context : List ℕ
  pub sequences : o.sequences ≡ told_within o.listing text context folder

module _ (w : Pledge) (path folder : List ℕ) where
  abbrev Of : List ℕ → Type 0
  Of other = IsTold folder other

  abbrev p : Place
  p = Folder path folder

  abbrev mail : Place
  mail = Mail path

  abbrev M : {R : Type 0} → List Deed → Hand → Plan R → Outcome R → Type 0
  M own h plan Q = Meets (MayAsk w) (MindsAll Of w.run) own h plan Q

  -- the folder's lock
  abbrev Locked : Outcome Unit
  Locked later j u = HasLock p later × NoneUnlinked p later

  lock_meets : (own : List Deed) (h : Hand) → NoneUnlinked p own → M own h (folder_locked p) (okay Locked)
  unfolding folder_locked
  lock_meets own h none =
      meets_lock (MayAsk w) (MindsAll Of w.run) own h of_stop (okay Locked) p (locked_by p)
      (λ may. (
        look_minds Of w.run own (step.Lock p) tt,
        meets_return (MayAsk w) (MindsAll Of w.run) (did (step.Lock p) answer.Done ∷ own) h tt (okay Locked) (last refl, still_none p own (step.Lock p) answer.Done (λ x e. cc (e)) none),
        meets_end (MayAsk w) (MindsAll Of w.run) (did (step.Lock p) answer.Busy ∷ own) h (fault.Locked p) Locked,
        meets_end (MayAsk w) (MindsAll Of w.run) (did (step.Lock p) answer.Gone ∷ own) h (fault.Absent p) Locked,
      ))

  -- the mail directory is safe
  abbrev Safe : Outcome Unit
  Safe later j u = (HasLock p later × NoneUnlinked p later) × Synced path folder later

  synced_mail : (own : List Deed) (h : Hand) → HasLock p own → NoneUnlinked p own → M own h (synced mail lock_name) (okay Safe)
  unfolding synced
  synced_mail own h lock none =
      meets_sync_folder (MayAsk w) (MindsAll Of w.run) own h of_stop (okay Safe) mail (held_to mail lock_name)
      (λ may. (
        look_minds Of w.run own (step.SyncFolder mail) tt,
        meets_return (MayAsk w) (MindsAll Of w.run) (did (step.SyncFolder mail) answer.Done ∷ own) h tt (okay Safe)
            ((still (λ e. cc (e)) lock, still_none p own (step.SyncFolder mail) answer.Done (λ x e. cc (e)) none), (λ sequence. apart.synced refl lock)),
        meets_end (MayAsk w) (MindsAll Of w.run) (did (step.SyncFolder mail) answer.Gone ∷ own) h (fault.Meddled mail lock_name) Safe,
      ))

  mail_meets : (own : List Deed) (h : Hand) → HasLock p own → NoneUnlinked p own → M own h (mail_made mail) (okay Safe)
  unfolding mail_made
  mail_meets own h lock none =
      meets_make (MayAsk w) (MindsAll Of w.run) own h of_stop (okay Safe) mail (λ made. synced mail lock_name)
      (λ may. (
        make_minds Of w.run own mail,
        synced_mail (did (step.MakeFolder mail) answer.Done ∷ own) h (still (λ e. cc (e)) lock) (still_none p own (step.MakeFolder mail) answer.Done (λ x e. cc (e)) none),
        synced_mail (did (step.MakeFolder mail) answer.Exists ∷ own) h (still (λ e. cc (e)) lock) (still_none p own (step.MakeFolder mail) answer.Exists (λ x e. cc (e)) none),
      ))

  -- what is held aside is put back
  abbrev Exists_ : Settled → List ℕ → Type 0
  Exists_ s z = (n : ℕ) × (kind_of z ≡ Number n) × (exists_in w.run s n ≡ true)

  abbrev Back : Outcome Settled
  Back later j s = Seen p s.names (Exists_ s) later × Synced path folder later

  listed_text : (names : List (List ℕ)) (z : List ℕ) (n : ℕ) → kind_of z ≡ Number n → has_number n names ≡ true → has_text z names ≡ true
  listed_text names z n kind e =
      subst (λ y. has_text y names ≡ true) (sym (number_text z n kind)) (both (is_message_number n) (has_text (decimal n) names) (sym (has_number_text n names) ∙ e)).1

  number_listed : (names : List (List ℕ)) (z : List ℕ) (n : ℕ) → kind_of z ≡ Number n → has_text z names ≡ true → has_number n names ≡ true
  number_listed names z n kind e =
      has_number_text n names ∙ rw (is_number_of n (number_ranged z n kind)) (subst (λ y. has_text y names ≡ true) (number_text z n kind) e)

  back_meets : (own : List Deed) (h : Hand) → HasLock p own → NoneUnlinked p own → Synced path folder own → M own h (put_back w.run p) (okay Back)
  unfolding put_back
  back_meets own h lock none safe =
      meets_list (MayAsk w) (MindsAll Of w.run) own h of_stop (okay Back) p (λ listing. names_by p listing >>= (λ names. settle p (held_pairs w.run names) (highest names) >>= (λ ends. Return (Ok (settled_of names ends)))))
      (λ may. (
        look_minds Of w.run own (step.List p) tt,
        (λ names. meets_on (MayAsk w) (MindsAll Of w.run) (did (step.List p) (answer.Names names) ∷ own) h names (λ names. settle p (held_pairs w.run names) (highest names) >>= (λ ends. Return (Ok (settled_of names ends)))) (okay Back) (settles names)),
        meets_stop (MayAsk w) (MindsAll Of w.run) (did (step.List p) answer.Gone ∷ own) h (fault.Absent p) (λ names. settle p (held_pairs w.run names) (highest names) >>= (λ ends. Return (Ok (settled_of names ends)))) Back,
      ))
    where
      settles : (names : List (List ℕ)) → M (did (step.List p) (answer.Names names) ∷ own) h (settle p (held_pairs w.run names) (highest names) >>= (λ ends. Return (Ok (settled_of names ends)))) (okay Back)
      settles names =
          meets_then (MayAsk w) (MindsAll Of w.run) seen_ h (settle p (held_pairs w.run names) (highest names)) (λ ends. Return (Ok (settled_of names ends))) (λ later j ends. HasSettled Of w p seen_ (held_pairs w.run names) (highest names) later ends) Back
          (settle_meets Of w p (held_pairs w.run names) (are_pairs names (held_pairs w.run names) (pairs_listed w.run names)) (highest names) (highest_small names) seen_ h (still (λ e. cc (e)) lock) absent)
          (λ later j ends f. meets_return (MayAsk w) (MindsAll Of w.run) later j (settled_of names ends) (okay Back) (
            record {
              lock = f.grows.lock;
              there = λ z so number. there later ends f z so.0 so.1 number (or_case (are_tried (held_pairs w.run names) ends (highest names) so.0) (has_number so.0 names) so.2);
              held = f.grows.held names let_go;
              listed = f.grows.listed names (now refl);
            },
            (λ sequence. f.grows.synced (private_marks path folder sequence) (apart.on (λ e. cc (e)) (λ temp e. cc (e)) (safe sequence))),
          ))
        where
          seen_ : List Deed
          seen_ = did (step.List p) (answer.Names names) ∷ own

          by_text : (b : Bool) (z : List ℕ) → has_text z names ≡ b → Sees p z b seen_
          by_text b z e = subst (λ y. Sees p z y seen_) e (listed refl lock)

          absent : AbsentFrom Of w p (highest names + 1) seen_
          absent z j kind low = go (has_text z names) refl
            where
              go : (b : Bool) → has_text z names ≡ b → Sees p z false seen_
              go true e = let high = highest_above names j (number_listed names z j kind e) in absurd (omega (arith, high, low))
              go false e = by_text false z e

          let_go : LetGo p names seen_
          let_go x held gone = go (has_text x names) refl
            where
              go : (b : Bool) → has_text x names ≡ b → Sees p x false seen_
              go true e = absurd (still_none p own (step.List p) (answer.Names names) (λ y u. cc (u)) none x (gone e))
              go false e = by_text false x e

          there : (later : List Deed) (ends : List (Option ℕ)) → HasSettled Of w p seen_ (held_pairs w.run names) (highest names) later ends → (z : List ℕ) (n : ℕ) → kind_of z ≡ Number n → is_number (kind_of z) ≡ true
              → (are_tried (held_pairs w.run names) ends (highest names) n ≡ true) ⊎ (has_number n names ≡ true) → Sees p z true later
          there later ends f z n kind number (inl t) = f.tried z n kind t
          there later ends f z n kind number (inr t) = f.grows.there z number (by_text true z (listed_text names z n kind t))

  -- facts that last while what is read and cleared leaves the messages alone
  module _ (names : List (List ℕ)) (There : List ℕ → Type 0) where
    abbrev Known : List Deed → Type 0
    Known own = Seen p names There own × Synced path folder own

    known_kept : (own : List Deed) (s : Step) (a : Answer) → MayAsk w own s → Quiet p s → ((temp : List ℕ) → s ≡ step.Rename mail temp context_name → ⊥) → Known own → Known (did s a ∷ own)
    known_kept own s a may quiet none f = (quiet_seen w p names There own s a may quiet f.0, synced_kept Of w path folder own s a quiet none f.1)

    abbrev Clears_ : Step → Type 0
    Clears_ s = (temp : List ℕ) × (s ≡ step.Unlink p temp) × (is_temp (kind_of temp) ≡ true)

    clear_kept : (own : List Deed) (s : Step) (a : Answer) → MayAsk w own s → Clears_ s → Known own → Known (did s a ∷ own)
    clear_kept own s a may c f = known_kept own s a may (subst (λ z. Quiet p z) (sym c.1) (λ e. c.2)) (λ temp e. unlink_rename c.0 temp (sym c.1 ∙ e)) f
      where
        unlink_rename : (x temp : List ℕ) → step.Unlink p x ≡ step.Rename mail temp context_name → ⊥
        unlink_rename x temp e = cc (e)

    cleared_meets : (own : List Deed) (h : Hand) (xs : List (List ℕ)) → Known own → M own h (cleared p xs) (okay (λ later j u. Known later))
    cleared_meets own h xs f =
        meets_quietly (MayAsk w) (MindsAll Of w.run) Clears_ Known clear_kept (λ before s may c g. subst (λ z. MindsAll Of w.run before z) (sym c.1) (clear_minds Of w.run before p c.0 c.2)) own h (cleared p xs)
        (asks_cleared Clears_ p xs (λ temp is. (temp, refl, is))) f

    text_meets : (own : List Deed) (h : Hand) → Known own → M own h (sequences_read p) (okay (λ later j (text : List ℕ). Known later))
    unfolding sequences_read
    text_meets own h f =
        meets_read (MayAsk w) (MindsAll Of w.run) own h of_stop (okay (λ later j (text : List ℕ). Known later)) p sequences_name LIMIT_BYTES text_by
        (λ may. (
          look_minds Of w.run own (step.Read p sequences_name LIMIT_BYTES) tt,
          (λ bytes. meets_return (MayAsk w) (MindsAll Of w.run) (did (step.Read p sequences_name LIMIT_BYTES) (answer.Content bytes) ∷ own) h bytes (okay (λ later j (text : List ℕ). Known later)) (known_kept own (step.Read p sequences_name LIMIT_BYTES) (answer.Content bytes) may tt (λ t e. cc (e)) f)),
          (λ l. meets_end (MayAsk w) (MindsAll Of w.run) (did (step.Read p sequences_name LIMIT_BYTES) (answer.Long l) ∷ own) h (fault.TooLarge l) (λ later j (text : List ℕ). Known later)),
          meets_return (MayAsk w) (MindsAll Of w.run) (did (step.Read p sequences_name LIMIT_BYTES) answer.Gone ∷ own) h [] (okay (λ later j (text : List ℕ). Known later)) (known_kept own (step.Read p sequences_name LIMIT_BYTES) answer.Gone may tt (λ t e. cc (e)) f),
        ))

    abbrev Entries : Outcome (List NamedValue)
    Entries later j es = Known later × ((context : List ℕ) × (es ≡ entries_in context) × FreesRead w.run path folder context later)

    entries_meet : (own : List Deed) (h : Hand) → Known own → M own h (context_read mail) (okay Entries)
    unfolding context_read
    entries_meet own h f =
        meets_read (MayAsk w) (MindsAll Of w.run) own h of_stop (okay Entries) mail context_name LIMIT_BYTES entries_by
        (λ may. (
          look_minds Of w.run own (step.Read mail context_name LIMIT_BYTES) tt,
          (λ bytes. meets_return (MayAsk w) (MindsAll Of w.run) (did (step.Read mail context_name LIMIT_BYTES) (answer.Content bytes) ∷ own) h (entries_in bytes) (okay Entries)
              (known_kept own (step.Read mail context_name LIMIT_BYTES) (answer.Content bytes) may tt (λ t e. cc (e)) f, (bytes, refl, (λ sequence n e. apart.found (LIMIT_BYTES, refl) f.0.lock e)))),
          (λ l. meets_end (MayAsk w) (MindsAll Of w.run) (did (step.Read mail context_name LIMIT_BYTES) (answer.Long l) ∷ own) h (fault.TooLarge l) Entries),
          meets_return (MayAsk w) (MindsAll Of w.run) (did (step.Read mail context_name LIMIT_BYTES) answer.Gone ∷ own) h [] (okay Entries)
              (known_kept own (step.Read mail context_name LIMIT_BYTES) answer.Gone may tt (λ t e. cc (e)) f, ([], sym no_entries, (λ sequence n e. apart.missing refl f.0.lock))),
        ))

    known_meets : (own : List Deed) (h : Hand) (es : List NamedValue) → M own h (known es) (okay (λ later j u. (later ≡ own) × (j.context ≡ Some es)))
    unfolding Meets known
    known_meets own h es = (refl, refl)

    -- the sequences of both texts: the hand knows the context, and the run what that doesn't mark
    record ReadMarks (later : List Deed) (j : Hand) (m : Marked) : Type 0 where
      known : Known later
      text : List ℕ
      context : List ℕ
      is : m ≡ sequences_in text (entries_in context) folder
      hand : j.context ≡ Some (entries_in context)
      frees : FreesRead w.run path folder context later

    abbrev Reads : Outcome Marked
    Reads later j m = ReadMarks later j m

    marks_meet : (own : List Deed) (h : Hand) → Known own → M own h (marks_read p mail folder) (okay Reads)
    unfolding marks_read
    marks_meet own h f =
        meets_then (MayAsk w) (MindsAll Of w.run) own h (sequences_read p) (λ text. context_read mail >>= (λ entries. known entries >>= (λ seen. Return (Ok (sequences_in text entries folder))))) (λ later j (text : List ℕ). Known later) Reads (text_meets own h f)
        (λ later j text g.
        meets_then (MayAsk w) (MindsAll Of w.run) later j (context_read mail) (λ entries. known entries >>= (λ seen. Return (Ok (sequences_in text entries folder)))) Entries Reads (entries_meet later j g)
        (λ next i entries k.
        meets_then (MayAsk w) (MindsAll Of w.run) next i (known entries) (λ seen. Return (Ok (sequences_in text entries folder))) (λ end l u. (end ≡ next) × (l.context ≡ Some entries)) Reads (known_meets next i entries)
        (λ end l u z.
        meets_return (MayAsk w) (MindsAll Of w.run) end l (sequences_in text entries folder) (okay Reads)
        (record {
          known = subst Known (sym z.0) k.0;
          text = text;
          context = k.1.0;
          is = ap (λ es. sequences_in text es folder) k.1.1;
          hand = z.1 ∙ ap (λ es. Some es) k.1.1;
          frees = subst (λ o. FreesRead w.run path folder k.1.0 o) (sym z.0) k.1.2;
        }))))

  -- the folder's numbers, as the run knows them
  abbrev Listing : Settled → List Run
  Listing s = numbers_settled w.run s

  settled_runs : (s : Settled) → AreRuns (Listing s)
  unfolding numbers_settled
  settled_runs s = all_runs (exists_in w.run s)

  settled_exists : (s : Settled) (z : List ℕ) → InListing (Listing s) z → Exists_ s z
  unfolding numbers_settled
  settled_exists s z f = let ranged = number_ranged z f.0 f.1 in (f.0, f.1, sym (all_has (exists_in w.run s) f.0 ranged.0 ranged.1) ∙ f.2)

  -- and of each private sequence of the folder the run knows that the context marks no number that isn't listed
  abbrev Begun_ : Outcome Opened
  Begun_ later j o = HasSeenBegun path folder later o × FreesOthers w.run path folder o.listing later

  cut_meets : (own : List Deed) (h : Hand) (s : Settled) (text context : List ℕ) → h.context ≡ Some (entries_in context) → FreesRead w.run path folder context own → Seen p s.names (InListing (Listing s)) own × Synced path folder own
      → M own h (marks_cut w.run p mail folder s (sequences_in text (entries_in context) folder)) (okay Begun_)
  unfolding marks_cut
  cut_meets own h s text context hand frees f =
      meets_then (MayAsk w) (MindsAll Of w.run) own h (cut_committed w.run p mail folder (sequences_in text (entries_in context) folder) (Listing s))
      (λ cut. Return (Ok (opened_of p folder (Listing s) (told_within (Listing s) text context folder) s.ends))) (λ later j u. Facts w path folder s.names (InListing (Listing s)) later × FreesOthers w.run path folder (Listing s) later) Begun_
      (frees_meet w path folder s.names (InListing (Listing s)) (told_within (Listing s) text context folder) (told_valid (Listing s) text context folder) (told_cur (Listing s) text context folder) (told_in (Listing s) text context folder) context (Listing s)
      (told_listed (Listing s) text context folder) own h (sequences_in text (entries_in context) folder) (λ same. same_private (Listing s) text context folder same) hand f frees)
      (λ later j u g. meets_return (MayAsk w) (MindsAll Of w.run) later j (opened_of p folder (Listing s) (told_within (Listing s) text context folder) s.ends) (okay Begun_)
      (record { place = refl; name = refl; names = s.names; facts = g.0; runs = settled_runs s; text = text; context = context; sequences = refl }, g.1))

  read_meets : (own : List Deed) (h : Hand) (s : Settled) → Seen p s.names (InListing (Listing s)) own × Synced path folder own → M own h (settled_read w.run p mail folder s) (okay Begun_)
  unfolding settled_read
  read_meets own h s f =
      meets_then (MayAsk w) (MindsAll Of w.run) own h (cleared p s.names) (λ clear. marks_read p mail folder >>= (λ marked. marks_cut w.run p mail folder s marked)) (λ later j u. Known s.names (InListing (Listing s)) later) Begun_ (cleared_meets s.names (InListing (Listing s)) own h s.names f)
      (λ later j u g.
      meets_then (MayAsk w) (MindsAll Of w.run) later j (marks_read p mail folder) (λ marked. marks_cut w.run p mail folder s marked) (Reads s.names (InListing (Listing s))) Begun_ (marks_meet s.names (InListing (Listing s)) later j g)
      (λ next i m k. subst (λ z. M next i (marks_cut w.run p mail folder s z) (okay Begun_)) (sym k.is) (cut_meets next i s k.text k.context k.hand k.frees k.known)))

  -- a folder is begun, and each step of that minds all marks
  pub begun_meets : (own : List Deed) (h : Hand) → NoneUnlinked p own → M own h (begun w.run p mail folder) (okay Begun_)
  unfolding begun locked_begun
  begun_meets own h none =
      meets_then (MayAsk w) (MindsAll Of w.run) own h (folder_locked p) (λ held. mail_made mail >>= (λ made. put_back w.run p >>= (λ s. settled_read w.run p mail folder s))) Locked Begun_ (lock_meets own h none)
      (λ first j u a.
      meets_then (MayAsk w) (MindsAll Of w.run) first j (mail_made mail) (λ made. put_back w.run p >>= (λ s. settled_read w.run p mail folder s)) Safe Begun_ (mail_meets first j a.0 a.1)
      (λ second k v b.
      meets_then (MayAsk w) (MindsAll Of w.run) second k (put_back w.run p) (λ s. settled_read w.run p mail folder s) Back Begun_ (back_meets second k b.0.0 b.0.1 b.1)
      (λ third i s c.
      read_meets third i s (record { lock = c.0.lock; there = λ z so number. c.0.there z (settled_exists s z so) number; held = c.0.held; listed = c.0.listed }, c.1))))
