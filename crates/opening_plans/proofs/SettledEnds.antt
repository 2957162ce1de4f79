-- How the plan ends that puts back what is held aside, and what shows it.
use Rattle.std.proofs.Common.{◌≡◌, ◌≢◌, ◌⊎◌, ◌||◌, ◌+◌, ◌-◌, ◌++◌, ◌∷◌, [], ℕ, zero, suc, max, Bool, true, false, List, Option, Some, None, Result, Ok, Err, inl, inr, refl, sym, ◌∙◌, subst, bytes_eq}
use Rattle.std.specs.Prelude.{decimal}
use Rattle.mh_base.specs.Entries.{kind_of}
use Rattle.mh_base.specs.declared.entry.Entry.{Entry}
use Rattle.mh_base.specs.declared.entry.Entry.TheVariants.{Held}
use Rattle.folder_files.specs.Deeds.{Deed, Once, WasDone, did, last, now, on, still}
use Rattle.folder_files.specs.Named.{is_temp}
use Rattle.folder_files.specs.Steps.{has_text}
use Rattle.folder_files.specs.declared.place.Place.{Place}
use Rattle.folder_files.specs.declared.place.Place.TheVariants.{Folder}
use Rattle.folder_files.specs.declared.step.Answer.{Answer}
use Rattle.folder_files.specs.declared.step.Answer.TheVariants as answer
use Rattle.folder_files.specs.declared.step.Step.{Step}
use Rattle.folder_files.specs.declared.step.Step.TheVariants as step
use Rattle.folder_files.proofs.Names.{both, bytes_self, not_both}
use Rattle.file_plans.specs.Mailboxes.{is_message_number}
use Rattle.file_plans.specs.Plan.{Hand, Return, ◌>>=◌}
use Rattle.file_plans.specs.Sightings.{has_number}
use Rattle.file_plans.proofs.Framing.{AnyStep, asks_any}
use Rattle.file_plans.proofs.NumberTexts.{has_number_text}
use Rattle.step_plans.specs.Endings.{HasMet, name_gone}
use Rattle.step_plans.specs.Locking.{removed}
use Rattle.step_plans.specs.PlanFaults.{of_stop}
use Rattle.step_plans.specs.Replacing.{held_to, synced}
use Rattle.step_plans.specs.declared.fault.PlanFault.{PlanFault}
use Rattle.step_plans.specs.declared.fault.PlanFault.TheVariants as fault
use Rattle.step_plans.proofs.Coming.{Comes, comes_framed, comes_list, comes_more, comes_on, comes_stop, comes_sync_folder, comes_then, comes_to, comes_unlink}
use Rattle.step_plans.proofs.Going.{Outcome}
use Rattle.step_plans.proofs.Ruling.{IsNumbered}
use Rattle.held_messages.specs.HeldPairs.{held_name, held_pairs, top_after}
use Rattle.held_messages.specs.Highest.{highest}
use Rattle.held_messages.specs.Settle.{Settled, all_homed, dropped, dropped_for_good, dropped_safely, given_at, given_from, given_up, homed, last_put, names_by, or_before, put_back, settle, settled_by, settled_of, synced_at}
use Rattle.held_messages.specs.declared.held.HeldPair.{HeldPair}
use Rattle.held_messages.proofs.ListedPairs.{All, AreApart, ArePairs, IsApart, IsListedPair, IsPair, are_apart, are_pairs, held_kind, pairs_listed, pairs_ordered}
use Rattle.opening_plans.specs.Endings.{Answering, IsLastName, IsMetIn, IsMeddledIn, PutsBackups, PutsName, ShowsInFolder, last_gone, met_gone, plainly}
use Rattle.opening_plans.specs.Existing.{are_tried, exists_in}
use Rattle.opening_plans.proofs.CleanRuns.{Clean, clean_more, comes_both, comes_link}
use Rattle.opening_plans.proofs.NumbersMet.{AllTried, Fine, Meets, all_homed_meets}
use Rattle.opening_plans.proofs.NamesKept.{IsTaking, backups_kept, last_kept, met_in, met_kept, other_unlinked, putting, undone_puts}

-- the last of more ends
last_of_more : (before : List (Option ℕ)) (end o : Option ℕ) → last_put (before ++ end ∷ []) o ≡ or_before end (last_put before o)
unfolding last_put
last_of_more [] end o = refl
last_of_more (b ∷ before) end o = last_of_more before end (or_before b o)

temp_not_held : (e : Entry) (r n : ℕ) → is_temp e ≡ true → e ≡ Held r n → ⊥
temp_not_held e r n is same = absurd (let no : is_temp (Held r n) ≡ true = subst (λ z. is_temp z ≡ true) same is in cc (no))

module _ (run : ℕ) (path folder : List ℕ) (Answers : Answering) where
  abbrev p : Place
  p = Folder path folder

  abbrev Shows : PlanFault → List Deed → Type 0
  Shows e own = ShowsInFolder run path folder Answers e own

  -- how a plan ends: with this, or by what shows its fault
  abbrev pub Shown : {A : Type 0} → Outcome A → Outcome (Result A PlanFault)
  Shown P later j (Ok a) = P later j a
  Shown P later j (Err e) = Shows e later

  module _ (names : List (List ℕ)) where
    -- the number that was put last, if any was: its name is the last that the run put there
    abbrev LastPut : Option ℕ → List Deed → Type 0
    LastPut None own = PutsBackups p own
    LastPut (Some m) own = IsLastName p (decimal m) own

    last_put_kept : (o : Option ℕ) (s : Step) (a : Answer) (own : List Deed) → ((y : List ℕ) → PutsName p y (did s a) → ⊥) → LastPut o own → LastPut o (did s a ∷ own)
    last_put_kept None s a own never f = backups_kept p s a own never f
    last_put_kept (Some m) s a own never f = last_kept p (decimal m) s a own never f

    -- what lasts from the listing on
    pub record Listed (own : List Deed) (h : Hand) : Type 0 where
      pub clean : Clean run own h
      pub lock : WasDone (step.Lock p) own
      pub listed : Once (λ d older. d ≡ did (step.List p) (answer.Names names)) own
      pub temps : (x : List ℕ) → has_text x names ≡ true → is_temp (kind_of x) ≡ true → HasMet p x own

    abbrev AllMet : List Deed → Type 0
    AllMet own = (x : List ℕ) → has_text x names ≡ true → HasMet p x own

    listed_more : (s : Step) (a : Answer) (own : List Deed) (h : Hand) → a ≢ answer.Failed → IsNumbered run h.next s → (IsTaking p s → ⊥) → Listed own h → Listed (did s a ∷ own) h
    listed_more s a own h live n never f = record {
      clean = clean_more run own h s a live n f.clean;
      lock = on f.lock;
      listed = on f.listed;
      temps = λ x e is. met_kept p x s a own never (f.temps x e is);
    }

    -- while held names are linked
    record Homing (o : Option ℕ) (own : List Deed) (h : Hand) : Type 0 where
      facts : Listed own h
      met : AllMet own
      last_ : LastPut o own

    abbrev Homes : Option ℕ → Outcome (Option ℕ)
    Homes o later j end = Homing (or_before end o) later j

    met_there : (o : Option ℕ) (held : List ℕ) (n : ℕ) (own : List Deed) (h : Hand) → Homing o own h → Homing o (did (step.Link p held (decimal n)) answer.Exists ∷ own) h
    met_there o held n own h f = record {
      facts = listed_more (step.Link p held (decimal n)) answer.Exists own h (λ e. cc (e)) tt (λ e. e) f.facts;
      met = λ x e. met_kept p x (step.Link p held (decimal n)) answer.Exists own (λ t. t) (f.met x e);
      last_ = last_put_kept o (step.Link p held (decimal n)) answer.Exists own (λ y w. undone_puts p y (step.Link p held (decimal n)) answer.Exists (λ e. cc (e)) w) f.last_;
    }

    put_there : (o : Option ℕ) (held : List ℕ) (n : ℕ) (own : List Deed) (h : Hand) → Homing o own h → Homing (Some n) (did (step.Link p held (decimal n)) answer.Done ∷ own) h
    put_there o held n own h f = record {
      facts = listed_more (step.Link p held (decimal n)) answer.Done own h (λ e. cc (e)) tt (λ e. e) f.facts;
      met = λ x e. met_kept p x (step.Link p held (decimal n)) answer.Done own (λ t. t) (f.met x e);
      last_ = last (inr (inl (held, refl)));
    }

    held_gone : (held : List ℕ) (n : ℕ) (own : List Deed) → HasMet p held own → IsMeddledIn run p held (did (step.Link p held (decimal n)) answer.Gone ∷ own)
    held_gone held n own met = met_gone (inr (decimal n, refl)) (met_in p held own met)

    given_up_comes : (held : List ℕ) → has_text held names ≡ true → (left n : ℕ) (o : Option ℕ) (own : List Deed) (h : Hand) → Homing o own h → Comes own h (given_up p held n left) (Shown (Homes o))
    unfolding given_up
    given_up_comes held is zero n o own h f = comes_to own h (Ok None) (Shown (Homes o)) f
    given_up_comes held is (suc left) n o own h f =
        comes_link own h of_stop (Shown (Homes o)) p held (decimal n) (λ e. given_at p held n e (given_up p held (n + 1) left)) (comes_to _ h (Ok (Some n)) (Shown (Homes o)) (put_there o held n own h f))
        (given_up_comes held is left (n + 1) o (did (step.Link p held (decimal n)) answer.Exists ∷ own) h (met_there o held n own h f)) (comes_to _ h (Err (fault.Meddled p held)) (Shown (Homes o)) (held_gone held n own (f.met held is)))

    homed_comes : (k : HeldPair) → has_text (held_name k) names ≡ true → (top : ℕ) (o : Option ℕ) (own : List Deed) (h : Hand) → Homing o own h → Comes own h (homed p k top) (Shown (Homes o))
    unfolding homed
    homed_comes k is top o own h f =
        comes_link own h of_stop (Shown (Homes o)) p (held_name k) (decimal k.number) (λ e. given_at p (held_name k) k.number e (given_from p (held_name k) (max k.number top + 1)))
        (comes_to _ h (Ok (Some k.number)) (Shown (Homes o)) (put_there o (held_name k) k.number own h f))
        (given_up_comes (held_name k) is (1000000 - (max k.number top + 1)) (max k.number top + 1) o (did (step.Link p (held_name k) (decimal k.number)) answer.Exists ∷ own) h (met_there o (held_name k) k.number own h f))
        (comes_to _ h (Err (fault.Meddled p (held_name k))) (Shown (Homes o)) (held_gone (held_name k) k.number own (f.met (held_name k) is)))

    abbrev AllHomes : Outcome (List (Option ℕ))
    AllHomes later j ends = Homing (last_put ends None) later j

    all_homed_comes : (ks : List HeldPair) → All (IsListedPair names) ks → (top : ℕ) (before : List (Option ℕ)) (own : List Deed) (h : Hand) → Homing (last_put before None) own h → Comes own h (all_homed p ks top before) (Shown AllHomes)
    unfolding all_homed
    all_homed_comes [] all top before own h f = comes_to own h (Ok before) (Shown AllHomes) f
    all_homed_comes (k ∷ ks) all top before own h f =
        comes_then own h (homed p k top) (λ end. all_homed p ks (top_after end top) (before ++ end ∷ [])) (Shown (Homes (last_put before None))) (Shown AllHomes)
        (homed_comes k all.0.1 top (last_put before None) own h f)
        (λ later j end g. all_homed_comes ks all.1 (top_after end top) (before ++ end ∷ []) later j (subst (λ o. Homing o later j) (sym (last_of_more before end None)) g)) (λ later j e g. g)

    -- while they are unlinked
    record Dropping (m : ℕ) (ks : List HeldPair) (own : List Deed) (h : Hand) : Type 0 where
      facts : Listed own h
      met : All (λ k. HasMet p (held_name k) own) ks
      last_ : IsLastName p (decimal m) own
      safe : PutsBackups p own

    still_met : (k : HeldPair) (ks : List HeldPair) (own : List Deed) → IsApart k ks → All (λ z. HasMet p (held_name z) own) ks → All (λ z. HasMet p (held_name z) (did (step.Unlink p (held_name k)) answer.Done ∷ own)) ks
    still_met k [] own apart f = tt
    still_met k (z ∷ ks) own apart f =
        (still (λ t. other_unlinked p (held_name k) (held_name z) answer.Done (λ e. not_both (bytes_eq (held_name k) (held_name z)) (subst (λ x. bytes_eq (held_name k) x ≡ true) e (bytes_self (held_name k))) apart.0) t) f.0, still_met k ks own apart.1 f.1)

    unputting : (own : List Deed) (n y : List ℕ) → PutsName p y (did (step.Unlink p n) answer.Done) → ⊥
    unputting own n y w = putting p y (step.Unlink p n) answer.Done w

    one_dropped : (m : ℕ) (k : HeldPair) (ks : List HeldPair) (own : List Deed) (h : Hand) → IsPair k → IsApart k ks → Dropping m (k ∷ ks) own h → Dropping m ks (did (step.Unlink p (held_name k)) answer.Done ∷ own) h
    one_dropped m k ks own h pair apart f = record {
      facts = record {
        clean = clean_more run own h (step.Unlink p (held_name k)) answer.Done (λ e. cc (e)) tt f.facts.clean;
        lock = on f.facts.lock;
        listed = on f.facts.listed;
        temps = λ x e is. still (other_unlinked p (held_name k) x answer.Done (λ same. temp_not_held (kind_of x) k.run k.number is (subst (λ z. kind_of z ≡ Held k.run k.number) same (held_kind k pair)))) (f.facts.temps x e is);
      };
      met = still_met k ks own apart f.met.1;
      last_ = last_kept p (decimal m) (step.Unlink p (held_name k)) answer.Done own (unputting own (held_name k)) f.last_;
      safe = backups_kept p (step.Unlink p (held_name k)) answer.Done own (unputting own (held_name k)) f.safe;
    }

    stays : (m : ℕ) (k : HeldPair) (ks : List HeldPair) (own : List Deed) (h : Hand) → Dropping m (k ∷ ks) own h → Dropping m ks own h
    stays m k ks own h f = record { facts = f.facts; met = f.met.1; last_ = f.last_; safe = f.safe }

    -- what is left after it
    record Dropped (m : ℕ) (own : List Deed) (h : Hand) : Type 0 where
      facts : Listed own h
      last_ : IsLastName p (decimal m) own
      safe : PutsBackups p own

    abbrev Drops : ℕ → Outcome Unit
    Drops m later j u = Dropped m later j

    no_more : (m : ℕ) (ks : List HeldPair) (own : List Deed) (h : Hand) → Dropping m ks own h → Dropped m own h
    no_more m ks own h f = record { facts = f.facts; last_ = f.last_; safe = f.safe }

    dropped_comes : (m : ℕ) (ks : List HeldPair) → ArePairs ks → AreApart ks → (ends : List (Option ℕ)) (own : List Deed) (h : Hand) → Dropping m ks own h → Comes own h (dropped p ks ends) (Shown (Drops m))
    unfolding dropped removed
    dropped_comes m [] pairs apart ends own h f = comes_to own h (Ok tt) (Shown (Drops m)) (no_more m [] own h f)
    dropped_comes m (k ∷ ks) pairs apart [] own h f = comes_to own h (Ok tt) (Shown (Drops m)) (no_more m (k ∷ ks) own h f)
    dropped_comes m (k ∷ ks) pairs apart (None ∷ ends) own h f = comes_on own h tt (λ u. dropped p ks ends) (Shown (Drops m)) (dropped_comes m ks pairs.1 apart.1 ends own h (stays m k ks own h f))
    dropped_comes m (k ∷ ks) pairs apart (Some n ∷ ends) own h f =
        comes_then own h (removed p (held_name k)) (λ u. dropped p ks ends) (Shown (λ later j u. Dropping m ks later j)) (Shown (Drops m)) one
        (λ later j u g. dropped_comes m ks pairs.1 apart.1 ends later j g) (λ later j e g. g)
      where
        one : Comes own h (removed p (held_name k)) (Shown (λ later j u. Dropping m ks later j))
        one =
            comes_unlink own h of_stop (Shown (λ later j u. Dropping m ks later j)) p (held_name k) (held_to p (held_name k)) (comes_to _ h (Ok tt) (Shown (λ later j u. Dropping m ks later j)) (one_dropped m k ks own h pairs.0 apart.0 f))
            (comes_to _ h (Err (fault.Meddled p (held_name k))) (Shown (λ later j u. Dropping m ks later j)) (plainly (name_gone (inr (inr (inl refl))) f.met.0)))

    -- the directory is made safe
    pub synced_comes : (own : List Deed) (h : Hand) (x : List ℕ) → IsMeddledIn run p x (did (step.SyncFolder p) answer.Gone ∷ own) → (Q : Outcome Unit) → Q (did (step.SyncFolder p) answer.Done ∷ own) h tt → Comes own h (synced p x) (Shown Q)
    unfolding synced
    synced_comes own h x gone Q q = comes_sync_folder own h of_stop (Shown Q) p (held_to p x) (comes_to _ h (Ok tt) (Shown Q) q) (comes_to _ h (Err (fault.Meddled p x)) (Shown Q) gone)

    synced_facts : (own : List Deed) (h : Hand) → Listed own h → Listed (did (step.SyncFolder p) answer.Done ∷ own) h
    synced_facts own h f = listed_more (step.SyncFolder p) answer.Done own h (λ e. cc (e)) tt (λ t. t) f

    -- what is left of a folder that was put back: it was listed, and no temporary name was taken away
    pub record IsSettled (own : List Deed) (h : Hand) : Type 0 where
      pub facts : Listed own h
      pub safe : PutsBackups p own

    abbrev Settles : List (Option ℕ) → Outcome (List (Option ℕ))
    Settles ends later j r = (r ≡ ends) × IsSettled later j

    for_good_comes : (m : ℕ) (ks : List HeldPair) → ArePairs ks → AreApart ks → (ends : List (Option ℕ)) (own : List Deed) (h : Hand) → Dropping m ks own h → Comes own h (dropped_for_good p ks ends m) (Shown (λ later j u. IsSettled later j))
    unfolding dropped_for_good
    for_good_comes m ks pairs apart ends own h f =
        comes_then own h (dropped p ks ends) (λ u. synced_at p m) (Shown (Drops m)) (Shown (λ later j u. IsSettled later j)) (dropped_comes m ks pairs apart ends own h f)
        (λ later j u g. synced_comes later j (decimal m) (last_gone g.last_) (λ end i v. IsSettled end i) (record { facts = synced_facts later j g.facts; safe = last (inr refl) })) (λ later j e g. g)

    met_each : (ks : List HeldPair) (own : List Deed) → All (IsListedPair names) ks → AllMet own → All (λ k. HasMet p (held_name k) own) ks
    met_each [] own all f = tt
    met_each (k ∷ ks) own all f = (f (held_name k) all.0.1, met_each ks own all.1 f)

    after_sync : (m : ℕ) (ks : List HeldPair) (own : List Deed) (h : Hand) → All (IsListedPair names) ks → Homing (Some m) own h → Dropping m ks (did (step.SyncFolder p) answer.Done ∷ own) h
    after_sync m ks own h all f = record {
      facts = synced_facts own h f.facts;
      met = met_each ks (did (step.SyncFolder p) answer.Done ∷ own) all (λ x e. met_kept p x (step.SyncFolder p) answer.Done own (λ t. t) (f.met x e));
      last_ = last_kept p (decimal m) (step.SyncFolder p) answer.Done own (λ y w. putting p y (step.SyncFolder p) answer.Done w) f.last_;
      safe = last (inr refl);
    }

    settled_by_comes : (ks : List HeldPair) → All (IsListedPair names) ks → ArePairs ks → AreApart ks → (ends : List (Option ℕ)) (o : Option ℕ) (own : List Deed) (h : Hand) → Homing o own h → Comes own h (settled_by p ks ends o) (Shown (Settles ends))
    unfolding dropped_safely
    settled_by_comes ks all pairs apart ends None own h f = comes_to own h (Ok ends) (Shown (Settles ends)) (refl, record { facts = f.facts; safe = f.last_ })
    settled_by_comes ks all pairs apart ends (Some m) own h f =
        comes_then own h (synced_at p m) (λ safe. dropped_for_good p ks ends m >>= (λ gone. Return (Ok ends))) (Shown (λ later j u. Dropping m ks later j)) (Shown (Settles ends))
        (synced_comes own h (decimal m) (last_gone f.last_) (λ later j u. Dropping m ks later j) (after_sync m ks own h all f))
        (λ later j u g.
        comes_then later j (dropped_for_good p ks ends m) (λ gone. Return (Ok ends)) (Shown (λ end i v. IsSettled end i)) (Shown (Settles ends)) (for_good_comes m ks pairs apart ends later j g)
        (λ end i v s. comes_to end i (Ok ends) (Shown (Settles ends)) (refl, s)) (λ end i e s. s))
        (λ later j e g. g)

    -- the run has met the name of each number that it takes to be there
    abbrev pub HasMetAll : List (Option ℕ) → List Deed → Type 0
    HasMetAll ends own = (n : ℕ) → exists_in run (settled_of names ends) n ≡ true → Once (λ d older. IsMetIn p (decimal n) d) own

    abbrev Put : Outcome (List (Option ℕ))
    Put later j ends = IsSettled later j × HasMetAll ends later

    or_is : (a b : Bool) → a || b ≡ true → (a ≡ true) ⊎ (b ≡ true)
    or_is true b e = inl refl
    or_is false b e = inr e

    settle_comes : (own : List Deed) (h : Hand) → Homing None own h → Meets p (λ n. has_number n names ≡ true) own → Comes own h (settle p (held_pairs run names) (highest names)) (Shown Put)
    unfolding settle last_put
    settle_comes own h f met =
        comes_then own h (all_homed p ks (highest names) []) (λ ends. settled_by p ks ends (last_put ends None)) (λ later j r. Shown AllHomes later j r × Tried later j r) (Shown Put)
        (comes_both own h (all_homed p ks (highest names) []) (Shown AllHomes) Tried (all_homed_comes ks all (highest names) [] own h f) (all_homed_meets p ks (highest names) [] (λ n. has_number n names ≡ true) own h met))
        (λ later j ends g.
        comes_more later j (settled_by p ks ends (last_put ends None)) (λ last_ i r. HasMetAll ends last_ × Shown (Settles ends) last_ i r) (Shown Put) (told ends)
        (comes_framed AnyStep (HasMetAll ends) (λ now_ t a any q n e. on (q n e)) later j (settled_by p ks ends (last_put ends None)) (Shown (Settles ends)) (asks_any (settled_by p ks ends (last_put ends None)))
        (all_met later ends g.1) (settled_by_comes ks all pairs (are_apart ks pairs (pairs_ordered run names)) ends (last_put ends None) later j g.0)))
        (λ later j e g. g.0)
      where
        ks : List HeldPair
        ks = held_pairs run names

        all : All (IsListedPair names) ks
        all = pairs_listed run names

        pairs : ArePairs ks
        pairs = are_pairs names ks all

        Tried : Outcome (Result (List (Option ℕ)) PlanFault)
        Tried later j r = Fine p (λ later j all. AllTried p (λ n. has_number n names ≡ true) ks (highest names) [] all later) later j r

        all_met : (later : List Deed) (ends : List (Option ℕ)) → AllTried p (λ n. has_number n names ≡ true) ks (highest names) [] ends later → HasMetAll ends later
        all_met later ends t n e = elim (or_is (are_tried ks ends (highest names) n) (has_number n names) e) [
          | inl z ↦ t.met n (inr (subst (λ x. are_tried ks x (highest names) n ≡ true) t.all_so z))
          | inr z ↦ t.met n (inl z)
        ]

        told : (ends : List (Option ℕ)) (last_ : List Deed) (i : Hand) (r : Result (List (Option ℕ)) PlanFault) → HasMetAll ends last_ × Shown (Settles ends) last_ i r → Shown Put last_ i r
        told ends last_ i (Ok r) q = (q.1.1, subst (λ x. HasMetAll x last_) (sym q.1.0) q.0)
        told ends last_ i (Err e) q = q.1

  -- the names of the folder, and what is left of it
  abbrev pub PutsBack : Outcome Settled
  PutsBack later j s = IsSettled s.names later j × HasMetAll s.names s.ends later

  -- a folder whose lock was taken is put back
  pub put_back_comes : (own : List Deed) (h : Hand) → Clean run own h → WasDone (step.Lock p) own → PutsBackups p own → Comes own h (put_back run p) (Shown PutsBack)
  unfolding put_back
  put_back_comes own h clean lock safe =
      comes_list own h of_stop (Shown PutsBack) p (λ listing. names_by p listing >>= (λ names. settle p (held_pairs run names) (highest names) >>= (λ ends. Return (Ok (settled_of names ends)))))
      (λ names. comes_on _ h names (λ names. settle p (held_pairs run names) (highest names) >>= (λ ends. Return (Ok (settled_of names ends)))) (Shown PutsBack) (settles names))
      (comes_stop _ h (fault.Absent p) (λ names. settle p (held_pairs run names) (highest names) >>= (λ ends. Return (Ok (settled_of names ends)))) (Shown PutsBack) (refl, (own, inr refl)))
    where
      begins : (names : List (List ℕ)) → Homing names None (did (step.List p) (answer.Names names) ∷ own) h
      begins names = record {
        facts = record {
          clean = clean_more run own h (step.List p) (answer.Names names) (λ e. cc (e)) tt clean;
          lock = on lock;
          listed = now refl;
          temps = λ x e is. last (inr (names, refl, e));
        };
        met = λ x e. last (inr (names, refl, e));
        last_ = backups_kept p (step.List p) (answer.Names names) own (λ y w. putting p y (step.List p) (answer.Names names) w) safe;
      }

      listed : (names : List (List ℕ)) → Meets p (λ n. has_number n names ≡ true) (did (step.List p) (answer.Names names) ∷ own)
      listed names n e = now (inl (inr (names, refl, (both (is_message_number n) (has_text (decimal n) names) (sym (has_number_text n names) ∙ e)).1)))

      settles : (names : List (List ℕ)) → Comes (did (step.List p) (answer.Names names) ∷ own) h (settle p (held_pairs run names) (highest names) >>= (λ ends. Return (Ok (settled_of names ends)))) (Shown PutsBack)
      settles names =
          comes_then (did (step.List p) (answer.Names names) ∷ own) h (settle p (held_pairs run names) (highest names)) (λ ends. Return (Ok (settled_of names ends))) (Shown (Put names)) (Shown PutsBack)
          (settle_comes names (did (step.List p) (answer.Names names) ∷ own) h (begins names) (listed names))
          (λ later j ends s. comes_to later j (Ok (settled_of names ends)) (Shown PutsBack) s) (λ later j e s. s)
