-- How the plan ends by which a message is stored, and what shows it.
use Rattle.std.proofs.Common.{◌≡◌, ◌<◌, ◌≤◌, ◌+◌, ◌-◌, ◌^◌, ◌∷◌, ℕ, zero, suc, true, List, Option, Some, None, Result, Ok, Err, inl, inr, refl, sym, ap, subst, arith}
use Rattle.std.specs.Prelude.{decimal}
use Rattle.std.proofs.lemmas.Bool.Decides.{Decides-eqb}
use Rattle.mh_base.specs.Entries.{kind_of}
use Rattle.mh_base.specs.Numbers.{IsMsgNum}
use Rattle.mh_base.specs.declared.entry.Entry.TheVariants.{Temp}
use Rattle.mh_base.proofs.EntryKinds.{kind_of-entry_text}
use Rattle.folder_files.specs.Deeds.{Deed, WasDone, did, last, now, on, still}
use Rattle.folder_files.specs.Named.{is_temp_of}
use Rattle.folder_files.specs.declared.place.Place.{Place}
use Rattle.folder_files.specs.declared.place.Place.TheVariants.{Folder}
use Rattle.folder_files.specs.declared.step.Answer.TheVariants as answer
use Rattle.folder_files.specs.declared.step.Step.TheVariants as step
use Rattle.file_plans.specs.Plan.{Hand, Return, ◌>>=◌}
use Rattle.step_plans.specs.Endings.{IsTakenAway}
use Rattle.step_plans.specs.Hands.{temp_name, used}
use Rattle.step_plans.specs.Locking.{removed}
use Rattle.step_plans.specs.PlanFaults.{of_stop}
use Rattle.step_plans.specs.Replacing.{held_to, synced, written}
use Rattle.step_plans.specs.declared.fault.PlanFault.{PlanFault}
use Rattle.step_plans.specs.declared.fault.PlanFault.TheVariants as fault
use Rattle.step_plans.proofs.Coming.{Comes, comes_sync_folder, comes_then, comes_to, comes_unlink}
use Rattle.step_plans.proofs.Going.{Outcome}
use Rattle.held_messages.specs.Settle.{given_at, given_from, given_up}
use Rattle.message_puts.specs.Putting.{linked_first, message_put, message_stored, number_got, numbered}
use Rattle.message_puts.specs.Stored.{HasMetAt}
use Rattle.message_puts.proofs.PutPledged.{IsLinked, IsPutBy, Tries, made_ready, tried, untried}
use Rattle.message_puts.proofs.StoredPledged.{IsStoredBy}
use Rattle.opening_plans.specs.Endings.{Answering, HasMetIn, IsLastName, PutsBackups, ShowsInFolder, last_gone, met_gone}
use Rattle.opening_plans.proofs.CleanRuns.{Clean, clean_more, comes_link}
use Rattle.opening_plans.proofs.NamesKept.{last_kept, met_in_kept, putting, taking}
use Rattle.opening_plans.proofs.SequencesEnd.{Writes, written_clean, written_comes}
use Rattle.opening_plans.proofs.SettledEnds.{Shown}

module _ (run : ℕ) (few : run < 2 ^ 128) (path folder : List ℕ) (Answers : Answering) where
  abbrev p : Place
  p = Folder path folder

  -- what shows a fault of a put: that no number is left, where the last one was met
  abbrev pub ShowsPut : PlanFault → List Deed → Type 0
  ShowsPut fault.Faulted own = ⊥
  ShowsPut (fault.Locked q) own = ShowsInFolder run path folder Answers (fault.Locked q) own
  ShowsPut (fault.Meddled q x) own = ShowsInFolder run path folder Answers (fault.Meddled q x) own
  ShowsPut fault.Full own = HasMetAt p 999999 own
  ShowsPut (fault.Absent q) own = ShowsInFolder run path folder Answers (fault.Absent q) own
  ShowsPut (fault.TooLarge l) own = ShowsInFolder run path folder Answers (fault.TooLarge l) own
  ShowsPut fault.Memory own = Unit {0}

  abbrev pub PutShown : {A : Type 0} → Outcome A → Outcome (Result A PlanFault)
  PutShown P later j (Ok a) = P later j a
  PutShown P later j (Err e) = ShowsPut e later

  put_shows : (e : PlanFault) (own : List Deed) → ShowsInFolder run path folder Answers e own → ShowsPut e own
  put_shows fault.Faulted own f = f
  put_shows (fault.Locked q) own f = f
  put_shows (fault.Meddled q x) own f = f
  put_shows fault.Full own f = absurd f
  put_shows (fault.Absent q) own f = f
  put_shows (fault.TooLarge l) own f = f
  put_shows fault.Memory own f = tt

  -- no number above this one is left where the last was met
  abbrev pub Topped : ℕ → List Deed → Type 0
  Topped top own = top ≡ 999999 → HasMetAt p 999999 own

  module _ (temp : List ℕ) (base : List Deed) where
    -- the file was linked to numbers that were taken
    record Linking (own : List Deed) (h : Hand) : Type 0 where
      tries : Tries p temp base own
      met : HasMetIn p temp own
      clean : Clean run own h

    -- and then to this one
    record Linked (m : ℕ) (later : List Deed) (h : Hand) : Type 0 where
      link : IsLinked p temp base m later
      met : HasMetIn p temp later
      clean : Clean run later h
      number : IsMsgNum m

    abbrev Ends : Outcome (Option ℕ)
    Ends later j None = HasMetAt p 999999 later
    Ends later j (Some m) = Linked m later j

    met_one : (n : ℕ) (own : List Deed) (h : Hand) → Linking own h → Linking (did (step.Link p temp (decimal n)) answer.Exists ∷ own) h
    met_one n own h f = record {
      tries = tried n f.tries;
      met = met_in_kept p temp (step.Link p temp (decimal n)) answer.Exists own (λ t. t) f.met;
      clean = clean_more run own h (step.Link p temp (decimal n)) answer.Exists (λ e. cc (e)) tt f.clean;
    }

    put_one : (n : ℕ) (own : List Deed) (h : Hand) → IsMsgNum n → Linking own h → Linked n (did (step.Link p temp (decimal n)) answer.Done ∷ own) h
    put_one n own h ok f = record {
      link = record { older = own; tries = f.tries; deeds = refl };
      met = met_in_kept p temp (step.Link p temp (decimal n)) answer.Done own (λ t. t) f.met;
      clean = clean_more run own h (step.Link p temp (decimal n)) answer.Done (λ e. cc (e)) tt f.clean;
      number = ok;
    }

    up_comes : (left n : ℕ) → 1 ≤ n → n + left ≡ 1000000 → (own : List Deed) (h : Hand) → (n ≡ 1000000 → HasMetAt p 999999 own) → Linking own h → Comes own h (given_up p temp n left) (PutShown Ends)
    unfolding given_up
    up_comes zero n one range own h reached f = comes_to own h (Ok None) (PutShown Ends) (reached (omega (arith, range)))
    up_comes (suc left) n one range own h reached f =
        comes_link own h of_stop (PutShown Ends) p temp (decimal n) (λ e. given_at p temp n e (given_up p temp (n + 1) left))
        (comes_to _ h (Ok (Some n)) (PutShown Ends) (put_one n own h (one, omega (arith, range)) f))
        (up_comes left (n + 1) (omega arith) (omega (arith, range)) (did (step.Link p temp (decimal n)) answer.Exists ∷ own) h
        (λ e. now (temp, inr (ap (λ k. did (step.Link p temp (decimal k)) answer.Exists) (let same : n ≡ 999999 = omega (arith, e) in same)))) (met_one n own h f))
        (comes_to _ h (Err (fault.Meddled p temp)) (PutShown Ends) (met_gone (inr (decimal n, refl)) f.met))

    abbrev Numbers : Outcome ℕ
    Numbers later j m = Linked m later j

    numbered_comes : (top : ℕ) → top ≤ 999999 → (own : List Deed) (h : Hand) → Topped top own → Linking own h → Comes own h (numbered p temp None top) (PutShown Numbers)
    unfolding numbered linked_first
    numbered_comes top low own h topped f =
        comes_then own h (given_from p temp (top + 1)) number_got (PutShown Ends) (PutShown Numbers)
        (up_comes (1000000 - (top + 1)) (top + 1) (omega arith) (omega (arith, low)) own h (λ e. topped (omega (arith, e))) f)
        (λ later j end g. got later j end g)
        (λ later j e g. g)
      where
        got : (later : List Deed) (j : Hand) (end : Option ℕ) → Ends later j end → Comes later j (number_got end) (PutShown Numbers)
        got later j None g = comes_to later j (Err fault.Full) (PutShown Numbers) g
        got later j (Some m) g = comes_to later j (Ok m) (PutShown Numbers) g

  -- a message was put
  record Put (bytes : List ℕ) (own : List Deed) (m : ℕ) (later : List Deed) (h : Hand) : Type 0 where
    put : IsPutBy run p bytes own m later
    clean : Clean run later h
    last_ : IsLastName p (decimal m) later
    number : IsMsgNum m

  is_own_temp : (k : ℕ) → k < 2 ^ 64 → is_temp_of run (kind_of (temp_name run k)) ≡ true
  is_own_temp k low = rw (kind_of-entry_text (Temp run k) (few, low)) ((Decides-eqb run run).1 refl)

  abbrev Puts : List ℕ → List Deed → Outcome ℕ
  Puts bytes own later j m = Put bytes own m later j

  module _ (bytes : List ℕ) (own : List Deed) (temp : List ℕ) (is_own : is_temp_of run (kind_of temp) ≡ true) where
    unlinked : (m : ℕ) (later : List Deed) (h : Hand) → Linked temp (made_ready p temp bytes own) m later h → Put bytes own m (did (step.Unlink p temp) answer.Done ∷ later) h
    unlinked m later h l = record {
      put = record { temp = temp; is_own = is_own; linked = later; link = l.link; deeds = refl };
      clean = clean_more run later h (step.Unlink p temp) answer.Done (λ e. cc (e)) tt l.clean;
      last_ = last_kept p (decimal m) (step.Unlink p temp) answer.Done later (λ y w. putting p y (step.Unlink p temp) answer.Done w) (subst (IsLastName p (decimal m)) (sym l.link.deeds) (last (inr (inl (temp, refl)))));
      number = l.number;
    }

    then_comes : (top : ℕ) → top ≤ 999999 → (h : Hand) → Topped top (made_ready p temp bytes own) → Linking temp (made_ready p temp bytes own) (made_ready p temp bytes own) h
        → Comes (made_ready p temp bytes own) h (numbered p temp None top >>= (λ number. removed p temp >>= (λ gone. Return (Ok number)))) (PutShown (Puts bytes own))
    unfolding removed
    then_comes top low h topped f =
        comes_then (made_ready p temp bytes own) h (numbered p temp None top) (λ number. removed p temp >>= (λ gone. Return (Ok number))) (PutShown (Numbers temp (made_ready p temp bytes own))) (PutShown (Puts bytes own))
        (numbered_comes temp (made_ready p temp bytes own) top low (made_ready p temp bytes own) h topped f)
        (λ later j m l.
        comes_then later j (removed p temp) (λ gone. Return (Ok m)) (PutShown (λ last_ i u. Put bytes own m last_ i)) (PutShown (Puts bytes own))
        (comes_unlink later j of_stop (PutShown (λ last_ i u. Put bytes own m last_ i)) p temp (held_to p temp) (comes_to _ j (Ok tt) (PutShown (λ last_ i u. Put bytes own m last_ i)) (unlinked m later j l))
        (comes_to _ j (Err (fault.Meddled p temp)) (PutShown (λ last_ i u. Put bytes own m last_ i)) (met_gone (inl (inr (inr (inl refl)))) l.met)))
        (λ last_ i u q. comes_to last_ i (Ok m) (PutShown (Puts bytes own)) q)
        (λ last_ i e q. q))
        (λ later j e q. q)

  put_comes : (bytes : List ℕ) (top : ℕ) → top ≤ 999999 → (own : List Deed) (h : Hand) → Topped top own → Clean run own h → WasDone (step.Lock p) own → Comes own h (message_put run p bytes None top) (PutShown (Puts bytes own))
  unfolding message_put
  put_comes bytes top low own h topped clean lock =
      comes_then own h (written run p bytes) (λ temp. numbered p temp None top >>= (λ number. removed p temp >>= (λ gone. Return (Ok number)))) (Shown run path folder Answers (Writes run few path folder Answers bytes own h)) (PutShown (Puts bytes own))
      (written_comes run few path folder Answers own h bytes clean lock)
      (λ later j temp w.
      subst (λ k. Comes k j (numbered p temp None top >>= (λ number. removed p temp >>= (λ gone. Return (Ok number)))) (PutShown (Puts bytes own))) (sym w.0)
      (subst (λ i. Comes (made_ready p temp bytes own) i (numbered p temp None top >>= (λ number. removed p temp >>= (λ gone. Return (Ok number)))) (PutShown (Puts bytes own))) (sym w.1)
      (then_comes bytes own temp (subst (λ t. is_temp_of run (kind_of t) ≡ true) (sym w.2) (is_own_temp h.next w.3)) top low (used h) (λ e. on (on (topped e)))
      (record {
        tries = untried;
        met = still (λ t. no_taking temp t) (last (inl (inl (bytes, refl))));
        clean = subst (λ t. Clean run (made_ready p t bytes own) (used h)) (sym w.2) (written_clean run few path folder Answers own h bytes w.3 clean);
      }))))
      (λ later j e s. put_shows e later s)
    where
      no_taking : (temp : List ℕ) → IsTakenAway p temp (did (step.SyncFile p temp) answer.Done) → ⊥
      no_taking temp t = taking p temp (step.SyncFile p temp) answer.Done t

  -- it is stored
  pub record Stores (bytes : List ℕ) (own : List Deed) (m : ℕ) (later : List Deed) (h : Hand) : Type 0 where
    pub taken : IsStoredBy run p bytes own m later
    pub clean : Clean run later h
    pub safe : PutsBackups p later
    pub number : IsMsgNum m
    pub met : HasMetAt p m later

  abbrev pub StoredAs : List ℕ → List Deed → Outcome ℕ
  StoredAs bytes own later j m = Stores bytes own m later j

  stored_now : (bytes : List ℕ) (own : List Deed) (m : ℕ) (later : List Deed) (h : Hand) → Put bytes own m later h → Stores bytes own m (did (step.SyncFolder p) answer.Done ∷ later) h
  stored_now bytes own m later h f = record {
    taken = record { before = later; put = f.put; deeds = refl };
    clean = clean_more run later h (step.SyncFolder p) answer.Done (λ e. cc (e)) tt f.clean;
    safe = last (inr refl);
    number = f.number;
    met = on (subst (HasMetAt p m) (sym f.put.deeds) (on (subst (HasMetAt p m) (sym f.put.link.deeds) (now (f.put.temp, inl refl)))));
  }

  pub stored_comes : (bytes : List ℕ) (top : ℕ) → top ≤ 999999 → (own : List Deed) (h : Hand) → Topped top own → Clean run own h → WasDone (step.Lock p) own → Comes own h (message_stored run p top bytes) (PutShown (StoredAs bytes own))
  unfolding message_stored synced
  stored_comes bytes top low own h topped clean lock =
      comes_then own h (message_put run p bytes None top) (λ number. synced p (decimal number) >>= (λ safe. Return (Ok number))) (PutShown (Puts bytes own)) (PutShown (StoredAs bytes own)) (put_comes bytes top low own h topped clean lock)
      (λ later j m f.
      comes_then later j (synced p (decimal m)) (λ safe. Return (Ok m)) (PutShown (λ last_ i u. Stores bytes own m last_ i)) (PutShown (StoredAs bytes own))
      (comes_sync_folder later j of_stop (PutShown (λ last_ i u. Stores bytes own m last_ i)) p (held_to p (decimal m)) (comes_to _ j (Ok tt) (PutShown (λ last_ i u. Stores bytes own m last_ i)) (stored_now bytes own m later j f))
      (comes_to _ j (Err (fault.Meddled p (decimal m))) (PutShown (λ last_ i u. Stores bytes own m last_ i)) (last_gone f.last_)))
      (λ last_ i u q. comes_to last_ i (Ok m) (PutShown (StoredAs bytes own)) q)
      (λ last_ i e q. q))
      (λ later j e q. q)
