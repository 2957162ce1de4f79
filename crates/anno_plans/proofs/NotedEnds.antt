-- How messages that get lines end, and what shows it.
use Rattle.std.proofs.Common.{◌≡◌, ◌⊎◌, inl, inr, ◌<◌, ◌≤◌, ◌^◌, ◌+◌, ◌++◌, ◌∷◌, [], ℕ, Bool, true, false, max, List, Some, Result, Ok, Err, length, nat_lt, refl, sym, ◌∙◌, ap, subst}
use Rattle.std.specs.Prelude.{decimal, if◌then◌else◌}
use Rattle.mh_base.specs.Entries.{entry_text, kind_of}
use Rattle.mh_base.specs.Numbers.{IsMsgNum}
use Rattle.mh_base.specs.declared.entry.Entry.TheVariants.{Held, Number}
use Rattle.mh_base.proofs.EntryKinds.{kind_of-entry_text}
use Rattle.mh_base.proofs.NumberTests.{greater_is}
use Rattle.mh_sequences.specs.Runs.{has}
use Rattle.mh_sequences.specs.declared.run.Run.{Run}
use Rattle.msg_ranges.proofs.Rising.{Rise, lists, first_of, rest_of}
use Rattle.folder_files.specs.Deeds.{Deed, WasDone, did, last, on, still}
use Rattle.folder_files.specs.Named.{is_temp}
use Rattle.folder_files.specs.declared.place.Place.{Place}
use Rattle.folder_files.specs.declared.place.Place.TheVariants.{Folder, Mail}
use Rattle.folder_files.specs.declared.step.Answer.{Answer}
use Rattle.folder_files.specs.declared.step.Answer.TheVariants as answer
use Rattle.folder_files.specs.declared.step.Step.{Step}
use Rattle.folder_files.specs.declared.step.Step.TheVariants as step
use Rattle.folder_files.proofs.Names.{is_temp_any, not_both}
use Rattle.file_plans.specs.Plan.{Hand, Return, bind, ◌>>=◌}
use Rattle.file_plans.proofs.Framing.{AnyStep}
use Rattle.step_plans.specs.ContextCommit.{LIMIT_BYTES}
use Rattle.step_plans.specs.Endings.{IsTakenAway}
use Rattle.step_plans.specs.Locking.{removed}
use Rattle.step_plans.specs.PlanFaults.{Planned, of_stop}
use Rattle.step_plans.specs.Replacing.{held_to, renamed, synced}
use Rattle.step_plans.specs.declared.command_fault.CommandFault.{CommandFault}
use Rattle.step_plans.specs.declared.fault.PlanFault.{PlanFault}
use Rattle.step_plans.specs.declared.fault.PlanFault.TheVariants as plan
use Rattle.step_plans.proofs.Coming.{Comes, comes_read, comes_rename, comes_sync_folder, comes_then, comes_to, comes_unlink}
use Rattle.step_plans.proofs.Going.{Outcome}
use Rattle.step_plans.proofs.Lasting.{KeptBy}
use Rattle.command_stages.specs.Endings.{of_plan}
use Rattle.message_puts.specs.Putting.{message_put}
use Rattle.message_puts.specs.Stored.{HasMetAt}
use Rattle.message_moves.specs.Moving.{content_by, content_read, held_discarded, number_taken, readable}
use Rattle.message_notes.specs.Noting.{message_noted, messages_noted, stored_at}
use Rattle.message_notes.proofs.NotedPledged.{AsksOwnPut, put_kept}
use Rattle.opening_plans.specs.Endings.{HasMetIn, PutsBackups, last_gone, met_gone}
use Rattle.opening_plans.specs.FolderPledge.{told_within}
use Rattle.opening_plans.specs.Reads.{HaveSeen}
use Rattle.opening_plans.proofs.CleanRuns.{Clean, clean_more}
use Rattle.opening_plans.proofs.FolderPledged.{seen_kept}
use Rattle.opening_plans.proofs.NamesKept.{other_renamed, other_unlinked, taking}
use Rattle.opening_plans.proofs.WorkEnds.{folder_shows}
use Rattle.refile_plans.specs.RmmOutcome.{is_among}
use Rattle.refile_plans.proofs.RmmEnds.{later_ones, number_names}
use Rattle.anno_plans.specs.Anno.{chosen_from}
use Rattle.anno_plans.specs.AnnoAnswers.{ShowsAnno, anno_answers, let_go_gone, long_lines, long_message, none_left, none_met}
use Rattle.anno_plans.specs.AnnoPledge.{WasChosen}
use Rattle.anno_plans.specs.declared.job.AnnoJob.{AnnoJob}
use Rattle.anno_plans.proofs.WishedEnds.{PutShown, Puts, ShowsPut, put_comes}

module _ (run : ℕ) (few : run < 2 ^ 128) (path : List ℕ) (job : AnnoJob) (listing : List Run) (text context : List ℕ) (numbers : List ℕ) (chosen : chosen_from job listing (told_within listing text context job.folder) ≡ Ok numbers) where
  abbrev p : Place
  p = Folder path job.folder

  abbrev mail : Place
  mail = Mail path

  abbrev Shows : CommandFault → List Deed → Type 0
  Shows e own = ShowsAnno run path job e own

  -- how a plan ends: with this, or by what shows its fault
  abbrev pub Plainly : {A : Type 0} → Outcome A → Outcome (Result A PlanFault)
  Plainly P later j (Ok a) = P later j a
  Plainly P later j (Err e) = Shows (of_plan job.folder e) later

  abbrev pub Seen : List Deed → Type 0
  Seen own = HaveSeen run p mail listing text context own

  abbrev held_of : ℕ → List ℕ
  held_of n = entry_text (Held run n)

  abbrev number_of : ℕ → List ℕ
  number_of n = entry_text (Number n)

  -- the last number is taken: the run listed a message there, or put or met one there
  abbrev pub Top : List Deed → Type 0
  Top own = (Seen own × (has listing 999999 ≡ true)) ⊎ HasMetAt p 999999 own

  top_kept : KeptBy AnyStep Top
  top_kept own s a any (inl f) = inl (seen_kept run p mail listing text context own s a tt f.0, f.1)
  top_kept own s a any (inr f) = inr (on f)

  top_met : (own : List Deed) → HasMetAt p 999999 own → Top own
  top_met own f = inr f

  shows_top : (own : List Deed) → Top own → Shows (of_plan job.folder plan.Full) own
  shows_top own (inl f) = inr (none_left f.0 f.1)
  shows_top own (inr f) = inr (none_met f)

  -- no number above this one is left where the last is taken
  abbrev pub Topped : ℕ → List Deed → Type 0
  Topped top own = (top ≤ 999999) × (top ≡ 999999 → Top own)

  topped_kept : (top : ℕ) → KeptBy AnyStep (Topped top)
  topped_kept top own s a any f = (f.0, λ e. top_kept own s a any (f.1 e))

  abbrev Met : ℕ → List Deed → Type 0
  Met k own = IsMsgNum k × HasMetIn p (number_of k) own

  -- the run has met each of these messages
  abbrev pub AllMet : List ℕ → List Deed → Type 0
  AllMet left own = (k : ℕ) → lists left k ≡ true → Met k own

  -- the words choose each of these numbers
  abbrev pub AllAmong : List ℕ → Type 0
  AllAmong left = (k : ℕ) → lists left k ≡ true → is_among k numbers ≡ true

  was_chosen : (n : ℕ) → is_among n numbers ≡ true → (own : List Deed) → Seen own → WasChosen run path job n own
  was_chosen n one own seen = record { listing = listing; text = text; context = context; seen = seen; numbers = numbers; chosen = chosen; one = one }

  -- a step that takes away no name but temporary ones
  abbrev TakesTemps : Step → Type 0
  TakesTemps s = (x : List ℕ) → is_temp (kind_of x) ≡ false → (a : Answer) → IsTakenAway p x (did s a) → ⊥

  own_puts : AsksOwnPut TakesTemps run p
  own_puts = record {
    create = λ temp bytes x is a t. taking p x (step.Create p temp bytes) a t;
    sync = λ temp x is a t. taking p x (step.SyncFile p temp) a t;
    link = λ temp number own x is a t. taking p x (step.Link p temp number) a t;
    unlink = λ temp own x is a t. other_unlinked p temp x a (λ same. not_both (is_temp (kind_of x)) (subst (λ z. is_temp (kind_of z) ≡ true) same (is_temp_any run temp own)) is) t;
  }

  -- before the next message: of those that are left the run has met each, and it has put no name into the folder that isn't safe
  pub record Moving (left : List ℕ) (top : ℕ) (own : List Deed) : Type 0 where
    pub safe : PutsBackups p own
    pub lock : WasDone (step.Lock p) own
    pub seen : Seen own
    pub met : AllMet left own
    pub topped : Topped top own

  -- while one is held aside
  record Holding (n : ℕ) (left : List ℕ) (top : ℕ) (own : List Deed) : Type 0 where
    lock : WasDone (step.Lock p) own
    seen : Seen own
    met : AllMet left own
    held : HasMetIn p (held_of n) own
    topped : Topped top own

  number_unmade : (k : ℕ) → IsMsgNum k → is_temp (kind_of (number_of k)) ≡ false
  number_unmade k ok = rw (kind_of-entry_text (Number k) ok) refl

  held_unmade : (n : ℕ) → IsMsgNum n → is_temp (kind_of (held_of n)) ≡ false
  held_unmade n ok = rw (kind_of-entry_text (Held run n) (few, ok)) refl

  all_met_kept : (left : List ℕ) → KeptBy TakesTemps (AllMet left)
  all_met_kept left own s a takes f k e = let m = f k e in (m.0, still (takes (number_of k) (number_unmade k m.0) a) m.1)

  holding_kept : (n : ℕ) → IsMsgNum n → (left : List ℕ) (top : ℕ) → KeptBy TakesTemps (Holding n left top)
  holding_kept n ok left top own s a takes f = record {
    lock = on f.lock;
    seen = seen_kept run p mail listing text context own s a tt f.seen;
    met = all_met_kept left own s a takes f.met;
    held = still (takes (held_of n) (held_unmade n ok) a) f.held;
    topped = topped_kept top own s a tt f.topped;
  }

  held_no_number : (n k : ℕ) → IsMsgNum n → IsMsgNum k → held_of n ≡ number_of k → ⊥
  held_no_number n k good fine e = let same : Held run n ≡ Number k = sym (kind_of-entry_text (Held run n) (few, good)) ∙ (ap kind_of e ∙ kind_of-entry_text (Number k) fine) in cc (same)

  -- what shows a fault of a put shows it here
  put_shown : (e : PlanFault) (own : List Deed) → ShowsPut run few path job.folder (anno_answers job) Top top_kept top_met e own → Shows (of_plan job.folder e) own
  put_shown plan.Faulted own g = absurd g
  put_shown (plan.Locked q) own g = inl (folder_shows run few path job.folder (anno_answers job) (plan.Locked q) own g)
  put_shown (plan.Meddled q x) own g = inl (folder_shows run few path job.folder (anno_answers job) (plan.Meddled q x) own g)
  put_shown plan.Full own g = shows_top own g
  put_shown (plan.Absent q) own g = inl (folder_shows run few path job.folder (anno_answers job) (plan.Absent q) own g)
  put_shown (plan.TooLarge l) own g = inl (folder_shows run few path job.folder (anno_answers job) (plan.TooLarge l) own g)
  put_shown plan.Memory own g = inl tt

  module _ (n : ℕ) (ok : IsMsgNum n) (one : is_among n numbers ≡ true) (ns : List ℕ) (other : (k : ℕ) → lists ns k ≡ true → n ≡ k → ⊥) (top : ℕ) where
    abbrev Holds : Outcome Unit
    Holds later j u = Clean run later j × Holding n ns top later

    -- it is held aside
    abbrev Taken : Outcome (List ℕ)
    Taken later j name = (name ≡ held_of n) × Holds later j tt

    renamed_now : (own : List Deed) (h : Hand) → Clean run own h → Moving (n ∷ ns) top own → Holds (did (step.Rename p (number_of n) (held_of n)) answer.Done ∷ own) h tt
    renamed_now own h clean f = (
      clean_more run own h (step.Rename p (number_of n) (held_of n)) answer.Done (λ e. cc (e)) tt clean,
      record {
        lock = on f.lock;
        seen = seen_kept run p mail listing text context own (step.Rename p (number_of n) (held_of n)) answer.Done tt f.seen;
        met = λ k e. (
          (rest_of {F = λ z. Met z own} n ns f.met k e).0,
          still (other_renamed p (number_of n) (held_of n) (number_of k) answer.Done (λ same. other k e (number_names n k ok (rest_of {F = λ z. Met z own} n ns f.met k e).0 same)))
              (rest_of {F = λ z. Met z own} n ns f.met k e).1,
        );
        held = last (inr (inl (inr (inr (number_of n, refl)))));
        topped = topped_kept top own (step.Rename p (number_of n) (held_of n)) answer.Done tt f.topped;
      },
    )

    taken_comes : (own : List Deed) (h : Hand) → Clean run own h → Moving (n ∷ ns) top own → Comes own h (number_taken run p n) (Plainly Taken)
    unfolding number_taken renamed
    taken_comes own h clean f =
        comes_then own h (renamed p (number_of n) (held_of n)) (λ moved. Return (Ok (held_of n))) (Plainly Holds) (Plainly Taken)
        (comes_rename own h of_stop (Plainly Holds) p (number_of n) (held_of n) (held_to p (number_of n)) (comes_to _ h (Ok tt) (Plainly Holds) (renamed_now own h clean f))
        (comes_to _ h (Err (plan.Meddled p (number_of n))) (Plainly Holds) (inl (met_gone (inl (inr (inr (inr (held_of n, refl))))) (first_of {F = λ z. Met z own} n ns f.met).1))))
        (λ later j u q. comes_to later j (Ok (held_of n)) (Plainly Taken) (refl, q))
        (λ later j e q. q)

    -- it is read, and that was the last step
    record Read_ (bytes : List ℕ) (later : List Deed) (j : Hand) : Type 0 where
      holds : Holds later j tt
      older : List Deed
      seen : Seen older
      deeds : later ≡ did (step.Read p (held_of n) LIMIT_BYTES) (answer.Content bytes) ∷ older

    abbrev Reads : Outcome (List ℕ)
    Reads later j bytes = Read_ bytes later j

    read_takes : TakesTemps (step.Read p (held_of n) LIMIT_BYTES)
    read_takes x is a t = taking p x (step.Read p (held_of n) LIMIT_BYTES) a t

    content_comes : (own : List Deed) (h : Hand) → Holds own h tt → Comes own h (content_read p (held_of n)) (Plainly Reads)
    unfolding content_read
    content_comes own h q =
        comes_read own h of_stop (Plainly Reads) p (held_of n) LIMIT_BYTES (content_by p (held_of n))
        (λ bytes. comes_to _ h (Ok bytes) (Plainly Reads) (record {
          holds = (clean_more run own h (step.Read p (held_of n) LIMIT_BYTES) (answer.Content bytes) (λ e. cc (e)) tt q.0, holding_kept n ok ns top own (step.Read p (held_of n) LIMIT_BYTES) (answer.Content bytes) read_takes q.1);
          older = own;
          seen = q.1.seen;
          deeds = refl;
        }))
        (λ l. comes_to _ h (Err (plan.TooLarge l)) (Plainly Reads) (inr (long_message (was_chosen n one own q.1.seen))))
        (comes_to _ h (Err (plan.Meddled p (held_of n))) (Plainly Reads) (inl (met_gone (inl (inl (LIMIT_BYTES, refl))) q.1.held)))

    -- it is put anew, and made safe
    abbrev Stored_ : Outcome ℕ
    Stored_ later j m = IsMsgNum m × (Clean run later j × Holding n ns (max top m) later × PutsBackups p later)

    sync_takes : TakesTemps (step.SyncFolder p)
    sync_takes x is a t = taking p x (step.SyncFolder p) a t

    higher : (m : ℕ) (own : List Deed) → IsMsgNum m → HasMetAt p m own → Topped top own → Topped (max top m) own
    higher m own good met f = greater_is (λ k. Topped k own) top m f (good.1, λ e. inr (subst (λ k. HasMetAt p k own) e met))

    synced_now : (m : ℕ) (own : List Deed) (h : Hand) → IsMsgNum m → Clean run own h → HasMetAt p m own → Holding n ns top own → Stored_ (did (step.SyncFolder p) answer.Done ∷ own) h m
    synced_now m own h good clean met f =
        let g = holding_kept n ok ns top own (step.SyncFolder p) answer.Done sync_takes f in (
          good,
          (
            clean_more run own h (step.SyncFolder p) answer.Done (λ e. cc (e)) tt clean,
            record { lock = g.lock; seen = g.seen; met = g.met; held = g.held; topped = higher m _ good (on met) g.topped },
            last (inr refl),
          ),
        )

    stored_comes : (new : List ℕ) (own : List Deed) (h : Hand) → Holds own h tt → Comes own h (stored_at run p n new top) (Plainly Stored_)
    unfolding stored_at synced
    stored_comes new own h q =
        comes_then own h (message_put run p new (Some n) top) (λ number. synced p (decimal number) >>= (λ safe. Return (Ok number)))
        (PutShown run few path job.folder (anno_answers job) Top top_kept top_met (Puts run few path job.folder (anno_answers job) Top top_kept top_met new own)) (Plainly Stored_)
        (put_comes run few path job.folder (anno_answers job) Top top_kept top_met new n top ok own h q.1.topped q.0 q.1.lock)
        (λ later j m f.
        comes_then later j (synced p (decimal m)) (λ safe. Return (Ok m)) (Plainly (λ end i u. Stored_ end i m)) (Plainly Stored_)
        (comes_sync_folder later j of_stop (Plainly (λ end i u. Stored_ end i m)) p (held_to p (decimal m))
        (comes_to _ j (Ok tt) (Plainly (λ end i u. Stored_ end i m)) (synced_now m later j f.number f.clean f.met (put_kept TakesTemps (Holding n ns top) (holding_kept n ok ns top) run p own_puts new own m later f.put q.1)))
        (comes_to _ j (Err (plan.Meddled p (decimal m))) (Plainly (λ end i u. Stored_ end i m)) (inl (last_gone f.last_))))
        (λ end i u g. comes_to end i (Ok m) (Plainly Stored_) g)
        (λ end i e g. g))
        (λ later j e g. put_shown e later g)

    -- and then it is let go
    record Gone_ (m : ℕ) (later : List Deed) (j : Hand) : Type 0 where
      clean : Clean run later j
      older : List Deed
      deeds : later ≡ did (step.Unlink p (held_of n)) answer.Done ∷ older
      lock : WasDone (step.Lock p) later
      seen : Seen later
      met : AllMet ns later
      topped : Topped (max top m) later

    unlinked_now : (m : ℕ) (own : List Deed) (h : Hand) → Stored_ own h m → Gone_ m (did (step.Unlink p (held_of n)) answer.Done ∷ own) h
    unlinked_now m own h f = record {
      clean = clean_more run own h (step.Unlink p (held_of n)) answer.Done (λ e. cc (e)) tt f.1.0;
      older = own;
      deeds = refl;
      lock = on f.1.1.lock;
      seen = seen_kept run p mail listing text context own (step.Unlink p (held_of n)) answer.Done tt f.1.1.seen;
      met = λ k e. ((f.1.1.met k e).0, still (other_unlinked p (held_of n) (number_of k) answer.Done (held_no_number n k ok (f.1.1.met k e).0)) (f.1.1.met k e).1);
      topped = topped_kept (max top m) own (step.Unlink p (held_of n)) answer.Done tt f.1.1.topped;
    }

    abbrev pub Left_ : Outcome ℕ
    Left_ later j m = Clean run later j × Moving ns (max top m) later

    safe_now : (m : ℕ) (own : List Deed) (h : Hand) → Gone_ m own h → Left_ (did (step.SyncFolder p) answer.Done ∷ own) h m
    safe_now m own h g = (
      clean_more run own h (step.SyncFolder p) answer.Done (λ e. cc (e)) tt g.clean,
      record {
        safe = last (inr refl);
        lock = on g.lock;
        seen = seen_kept run p mail listing text context own (step.SyncFolder p) answer.Done tt g.seen;
        met = all_met_kept ns own (step.SyncFolder p) answer.Done sync_takes g.met;
        topped = topped_kept (max top m) own (step.SyncFolder p) answer.Done tt g.topped;
      },
    )

    gone_shows : (own : List Deed) → ((older : List Deed) × (own ≡ did (step.Unlink p (held_of n)) answer.Done ∷ older)) → Shows (of_plan job.folder (plan.Meddled p (held_of n))) (did (step.SyncFolder p) answer.Gone ∷ own)
    gone_shows own f = subst (λ z. Shows (of_plan job.folder (plan.Meddled p (held_of n))) (did (step.SyncFolder p) answer.Gone ∷ z)) (sym f.1) (inr (let_go_gone n))

    discarded_comes : (m : ℕ) (own : List Deed) (h : Hand) → Stored_ own h m → Comes own h (held_discarded p (held_of n)) (Plainly (λ later j u. Left_ later j m))
    unfolding held_discarded removed synced
    discarded_comes m own h f =
        comes_then own h (removed p (held_of n)) (λ gone. synced p (held_of n)) (Plainly (λ later j u. Gone_ m later j)) (Plainly (λ later j u. Left_ later j m))
        (comes_unlink own h of_stop (Plainly (λ later j u. Gone_ m later j)) p (held_of n) (held_to p (held_of n)) (comes_to _ h (Ok tt) (Plainly (λ later j u. Gone_ m later j)) (unlinked_now m own h f))
        (comes_to _ h (Err (plan.Meddled p (held_of n))) (Plainly (λ later j u. Gone_ m later j)) (inl (met_gone (inl (inr (inr (inl refl)))) f.1.1.held))))
        (λ later j u g.
        comes_sync_folder later j of_stop (Plainly (λ end i v. Left_ end i m)) p (held_to p (held_of n)) (comes_to _ j (Ok tt) (Plainly (λ end i v. Left_ end i m)) (safe_now m later j g))
        (comes_to _ j (Err (plan.Meddled p (held_of n))) (Plainly (λ end i v. Left_ end i m)) (gone_shows later (g.older, g.deeds))))
        (λ later j e g. g)

    abbrev ending : ℕ → Planned ℕ
    ending m = held_discarded p (held_of n) >>= (λ gone. Return (Ok m))

    ending_comes : (m : ℕ) (own : List Deed) (h : Hand) → Stored_ own h m → Comes own h (ending m) (Plainly Left_)
    ending_comes m own h f =
        comes_then own h (held_discarded p (held_of n)) (λ gone. Return (Ok m)) (Plainly (λ later j u. Left_ later j m)) (Plainly Left_) (discarded_comes m own h f)
        (λ later j u g. comes_to later j (Ok m) (Plainly Left_) g) (λ later j e g. g)

    abbrev storing : List ℕ → Planned ℕ
    storing new = stored_at run p n new top >>= (λ m. ending m)

    storing_comes : (new : List ℕ) (own : List Deed) (h : Hand) → Holds own h tt → Comes own h (storing new) (Plainly Left_)
    storing_comes new own h q = comes_then own h (stored_at run p n new top) (λ m. ending m) (Plainly Stored_) (Plainly Left_) (stored_comes new own h q) (λ later j m g. ending_comes m later j g) (λ later j e g. g)

    long_shows : (bytes : List ℕ) (own : List Deed) (h : Hand) → Read_ bytes own h → nat_lt LIMIT_BYTES (length (job.lines ++ bytes)) ≡ true → Shows (of_plan job.folder (plan.TooLarge (length (job.lines ++ bytes)))) own
    long_shows bytes own h r long = subst (λ z. Shows (of_plan job.folder (plan.TooLarge (length (job.lines ++ bytes)))) z) (sym r.deeds) (inr (long_lines (was_chosen n one r.older r.seen) long))

    lined_comes : (bytes : List ℕ) (own : List Deed) (h : Hand) → Read_ bytes own h → Comes own h (Return (readable (job.lines ++ bytes)) >>= (λ new. storing new)) (Plainly Left_)
    unfolding Comes bind ◌>>=◌
    lined_comes bytes own h r = go (nat_lt LIMIT_BYTES (length (job.lines ++ bytes))) refl
      where
        put_so : Comes own h (storing (job.lines ++ bytes)) (Plainly Left_)
        put_so = storing_comes (job.lines ++ bytes) own h r.holds

        go : (v : Bool) → nat_lt LIMIT_BYTES (length (job.lines ++ bytes)) ≡ v → Comes own h (Return (if v then Err (plan.TooLarge (length (job.lines ++ bytes))) else Ok (job.lines ++ bytes)) >>= (λ new. storing new)) (Plainly Left_)
        go true long = comes_to own h (Err (plan.TooLarge (length (job.lines ++ bytes)))) (Plainly Left_) (long_shows bytes own h r long)
        go false short = put_so

    abbrev reading : List ℕ → Planned ℕ
    reading x = content_read p x >>= (λ bytes. Return (readable (job.lines ++ bytes)) >>= (λ new. stored_at run p n new top >>= (λ m. held_discarded p x >>= (λ gone. Return (Ok m)))))

    reading_comes : (own : List Deed) (h : Hand) → Holds own h tt → Comes own h (reading (held_of n)) (Plainly Left_)
    reading_comes own h q =
        comes_then own h (content_read p (held_of n)) (λ bytes. Return (readable (job.lines ++ bytes)) >>= (λ new. storing new)) (Plainly Reads) (Plainly Left_) (content_comes own h q) (λ later j bytes r. lined_comes bytes later j r) (λ later j e g. g)

    one_comes : (own : List Deed) (h : Hand) → Clean run own h → Moving (n ∷ ns) top own → Comes own h (message_noted run p job.lines n top) (Plainly Left_)
    unfolding message_noted
    one_comes own h clean f =
        comes_then own h (number_taken run p n) (λ x. reading x) (Plainly Taken) (Plainly Left_) (taken_comes own h clean f)
        (λ later j x q. subst (λ z. Comes later j (reading z) (Plainly Left_)) (sym q.0) (reading_comes later j q.1))
        (λ later j e g. g)

  -- all of them
  abbrev pub All : Outcome Unit
  All later j u = Clean run later j × (PutsBackups p later × Seen later)

  pub noted_comes : (first : ℕ) (ns : List ℕ) → Rise first ns → AllAmong ns → (top : ℕ) (own : List Deed) (h : Hand) → Clean run own h → Moving ns top own → Comes own h (messages_noted run p job.lines ns top) (Plainly All)
  unfolding messages_noted
  noted_comes first [] rise among top own h clean f = comes_to own h (Ok tt) (Plainly All) (clean, (f.safe, f.seen))
  noted_comes first (n ∷ ns) rise among top own h clean f =
      comes_then own h (message_noted run p job.lines n top) (λ m. messages_noted run p job.lines ns (max top m))
      (Plainly (Left_ n (first_of {F = λ z. Met z own} n ns f.met).0 (first_of {F = λ k. is_among k numbers ≡ true} n ns among) ns (later_ones first n ns rise) top)) (Plainly All)
      (one_comes n (first_of {F = λ z. Met z own} n ns f.met).0 (first_of {F = λ k. is_among k numbers ≡ true} n ns among) ns (later_ones first n ns rise) top own h clean f)
      (λ later j m g. noted_comes (n + 1) ns rise.1 (rest_of {F = λ k. is_among k numbers ≡ true} n ns among) (max top m) later j g.0 g.1)
      (λ later j e g. g)
