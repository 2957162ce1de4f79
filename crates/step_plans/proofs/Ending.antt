-- How a commit of the context ends, and what shows it.
use Rattle.std.proofs.Common.{◌≡◌, ◌⊎◌, inl, inr, ◌++◌, ◌^◌, ◌∷◌, [], ℕ, zero, suc, Bool, true, false, List, Result, Ok, Err, length, nat_lt, replicate, refl, sym, ◌∙◌, ap, subst, ◌||◌, bytes_eq}
use Rattle.std.specs.Prelude.{if◌then◌else◌}
use Rattle.mh_base.specs.Entries.{kind_of}
use Rattle.mh_profile.specs.declared.named_value.NamedValue.{NamedValue}
use Rattle.mh_profile.specs.Printing.{printed}
use Rattle.mh_profile.specs.Reading.{entries_in}
use Rattle.folder_files.specs.Careful.{WasMade}
use Rattle.folder_files.specs.Deeds.{Deed, did, Once, now, on, last, still, WasDone}
use Rattle.folder_files.specs.Named.{is_temp}
use Rattle.folder_files.specs.Steps.{IsAscending, has_text}
use Rattle.folder_files.specs.declared.place.Place.{Place}
use Rattle.folder_files.specs.declared.step.Step.{Step}
use Rattle.folder_files.specs.declared.step.Step.TheVariants as step
use Rattle.folder_files.specs.declared.step.Answer.{Answer}
use Rattle.folder_files.specs.declared.step.Answer.TheVariants as answer
use Rattle.folder_files.proofs.Names.{bytes_self}
use Rattle.file_plans.specs.Plan.{Hand, Return, ◌>>=◌}
use Rattle.file_plans.specs.Rules.{Keeps}
use Rattle.file_plans.specs.Runs as runs
use Rattle.file_plans.proofs.Acting.{acts}
use Rattle.file_plans.proofs.Soundness.{IsSound, AllSound}
use Rattle.file_plans.proofs.Clearing.{listed_once, rest_ascending}
use Rattle.step_plans.specs.declared.change.ChangeEntry.{ChangeEntry}
use Rattle.step_plans.specs.declared.fault.PlanFault.{PlanFault}
use Rattle.step_plans.specs.declared.fault.PlanFault.TheVariants as fault
use Rattle.step_plans.specs.ContextCommit.{context_name, LIMIT_BYTES, TRIES, changed, settled, entries_by, context_read, context_replaced, committed, commit_by, commit_context}
use Rattle.step_plans.specs.Endings.{IsTakenAway, HasMet, WasListed, IsMeddled, name_gone, temp_gone, name_taken, lock_gone, list_gone, sync_gone, HasRead, entries, none, ShowsPlanFault}
use Rattle.step_plans.specs.Hands.{temp_name, named, named_by, known}
use Rattle.step_plans.specs.Locking.{locked_by, locked, let_go, removed, cleared_one, cleared, clear_listed, temps_cleared, lock_name}
use Rattle.step_plans.specs.PlanFaults.{of_stop, Planned}
use Rattle.step_plans.specs.Replacing.{held_to, entered_once, created, made_safe, written, synced, renamed, replaced}
use Rattle.step_plans.proofs.Coming.{Comes, comes_to, comes_on, comes_more, comes_then, comes_clean, comes_keeps, NoneFailed, anything, comes_make, comes_lock, comes_unlock, comes_list, comes_read, comes_create, comes_sync_file, comes_sync_folder, comes_rename, comes_unlink}
use Rattle.step_plans.proofs.Going.{Outcome}
use Rattle.step_plans.proofs.Past.{did_step}
use Rattle.step_plans.proofs.Pledged.{after_written}

-- a step that makes no such name leaves it unmade
pub unmade_more : (p : Place) (x : List ℕ) (s : Step) (a : Answer) (own : List Deed) → ((bytes : List ℕ) → s ≡ step.Create p x bytes → ⊥) → (WasMade p x own → ⊥) → WasMade p x (did s a ∷ own) → ⊥
unmade_more p x s a own other f (now w) = other w.0 (did_step w.1)
unmade_more p x s a own other f (on z) = f z

one_more : (n : ℕ) (d : Deed) (own : List Deed) → replicate n d ++ d ∷ own ≡ replicate (suc n) d ++ own
one_more zero d own = refl
one_more (suc n) d own = ap (λ t. d ∷ t) (one_more n d own)

other_unlink : (p : Place) (n x : List ℕ) → did (step.Unlink p n) answer.Done ≡ did (step.Unlink p x) answer.Done → n ≡ x
other_unlink p n x e = let same : step.Unlink p n ≡ step.Unlink p x = did_step e in cc

pub has_later : (a b : Bool) → b ≡ true → a || b ≡ true
has_later true b e = refl
has_later false b e = e

pub has_first : (n : List ℕ) (b : Bool) → bytes_eq n n || b ≡ true
has_first n b = rw (bytes_self n) refl

pub true_false : {X : Type 0} (b : Bool) → b ≡ true → b ≡ false → X
true_false true t f = cc
true_false false t f = cc

-- the names that are left were in the listing, and no own step has taken one away since
record Left (p : Place) (names ns : List (List ℕ)) (own : List Deed) : Type 0 where
  listing : Once (λ d older. d ≡ did (step.List p) (answer.Names names)) own
  among : (x : List ℕ) → has_text x ns ≡ true → has_text x names ≡ true
  sorted : IsAscending names → IsAscending ns
  since : IsAscending names → (x : List ℕ) → has_text x ns ≡ true → HasMet p x own

left_all : (p : Place) (names : List (List ℕ)) (own : List Deed) → Left p names names (did (step.List p) (answer.Names names) ∷ own)
left_all p names own = record { listing = now refl; among = λ x e. e; sorted = λ f. f; since = λ f x e. last (inr (names, refl, e)) }

left_rest : (p : Place) (names : List (List ℕ)) (n : List ℕ) (ns : List (List ℕ)) (own : List Deed) → Left p names (n ∷ ns) own → Left p names ns own
left_rest p names n ns own f = record {
  listing = f.listing;
  among = λ x e. f.among x (has_later (bytes_eq n x) (has_text x ns) e);
  sorted = λ s. rest_ascending n ns (f.sorted s);
  since = λ s x e. f.since s x (has_later (bytes_eq n x) (has_text x ns) e);
}

left_unlinked : (p : Place) (names : List (List ℕ)) (n : List ℕ) (ns : List (List ℕ)) (own : List Deed) → Left p names (n ∷ ns) own → Left p names ns (did (step.Unlink p n) answer.Done ∷ own)
left_unlinked p names n ns own f = record {
  listing = on f.listing;
  among = λ x e. f.among x (has_later (bytes_eq n x) (has_text x ns) e);
  sorted = λ s. rest_ascending n ns (f.sorted s);
  since = λ s x e. still (other x e (listed_once n ns (f.sorted s))) (f.since s x (has_later (bytes_eq n x) (has_text x ns) e));
}
  where
    other : (x : List ℕ) → has_text x ns ≡ true → has_text n ns ≡ false → IsTakenAway p x (did (step.Unlink p n) answer.Done) → ⊥
    other x e alone (inl t) = true_false (has_text x ns) e (subst (λ z. has_text z ns ≡ false) (other_unlink p n x t) alone)
    other x e alone (inr t) = let moved : step.Unlink p n ≡ step.Rename p x t.0 = did_step t.1 in cc

left_first : (p : Place) (names : List (List ℕ)) (n : List ℕ) (ns : List (List ℕ)) (own : List Deed) → Left p names (n ∷ ns) own → WasListed p n own
left_first p names n ns own f = record { names = names; listing = f.listing; among = f.among n (has_first n (has_text n ns)); since = λ s. f.since s n (has_first n (has_text n ns)) }

not_taken_by_sync : (p : Place) (x : List ℕ) → IsTakenAway p x (did (step.SyncFile p x) answer.Done) → ⊥
not_taken_by_sync p x (inl t) = let same : step.SyncFile p x ≡ step.Unlink p x = did_step t in cc
not_taken_by_sync p x (inr t) = let same : step.SyncFile p x ≡ step.Rename p x t.0 = did_step t.1 in cc

sorted_by : (run : ℕ) (p : Place) (names : List (List ℕ)) → IsSound run (did (step.List p) (answer.Names names)) → IsAscending names
sorted_by run p names (inl e) = cc
sorted_by run p names (inr f) = f.1.1.ascending

listing_sorted : (run : ℕ) (p : Place) (names : List (List ℕ)) (own : List Deed) → AllSound run own → Once (λ d older. d ≡ did (step.List p) (answer.Names names)) own → IsAscending names
listing_sorted run p names (d ∷ own) s (now e) = sorted_by run p names (subst (IsSound run) e s.0)
listing_sorted run p names (d ∷ own) s (on z) = listing_sorted run p names own s.1 z
listing_sorted run p names [] s z = elim z [ ]

-- where the answers are those of some world, a listed name that the run clears was met
pub listed_is_met : (run : ℕ) (p : Place) (x : List ℕ) (own : List Deed) → AllSound run own → WasListed p x own → HasMet p x own
listed_is_met run p x own s f = f.since (listing_sorted run p f.names own s f.listing)

-- a part that returns no error
abbrev Okay : {A : Type 0} → Outcome (Result A PlanFault)
Okay later j (Ok a) = Unit {0}
Okay later j (Err e) = ⊥

module _ (run : ℕ) (p : Place) (cs : List ChangeEntry) (h : Hand) where
  -- how a commit ends: what shows its fault
  abbrev pub CommitEnds : Outcome (Result Unit PlanFault)
  CommitEnds later j (Ok u) = Unit {0}
  CommitEnds later j (Err e) = ShowsPlanFault run p cs h e later

  abbrev fresh_name : List ℕ
  fresh_name = temp_name run h.next

  -- the directory is locked, and the run's next name was not made
  abbrev IsReady : List Deed → Type 0
  IsReady own = WasDone (step.Lock p) own × (WasMade p fresh_name own → ⊥)

  abbrev LockEnds : ℕ → List Deed → Outcome (Result Unit PlanFault)
  LockEnds n own later j (Ok u) = (j ≡ h) × IsReady later
  LockEnds n own later j (Err fault.Faulted) = ⊥
  LockEnds n own later j (Err (fault.Locked q)) = (q ≡ p) × (later ≡ replicate n (did (step.Lock p) answer.Busy) ++ own)
  LockEnds n own later j (Err (fault.Meddled q x)) = (q ≡ p) × IsMeddled run p x later
  LockEnds n own later j (Err fault.Full) = ⊥
  LockEnds n own later j (Err (fault.Absent q)) = ⊥
  LockEnds n own later j (Err (fault.TooLarge l)) = ⊥
  LockEnds n own later j (Err fault.Memory) = ⊥

  one_try : (n : ℕ) (own later : List Deed) (j : Hand) (r : Result Unit PlanFault) → LockEnds n (did (step.Lock p) answer.Busy ∷ own) later j r → LockEnds (suc n) own later j r
  one_try n own later j (Ok u) q = q
  one_try n own later j (Err fault.Faulted) q = q
  one_try n own later j (Err (fault.Locked place)) q = (q.0, q.1 ∙ one_more n (did (step.Lock p) answer.Busy) own)
  one_try n own later j (Err (fault.Meddled place x)) q = q
  one_try n own later j (Err fault.Full) q = q
  one_try n own later j (Err (fault.Absent place)) q = q
  one_try n own later j (Err (fault.TooLarge l)) q = q
  one_try n own later j (Err fault.Memory) q = q

  locked_comes : (n : ℕ) (own : List Deed) → Once (λ d older. d.step ≡ step.MakeFolder p) own → (WasMade p fresh_name own → ⊥) → Comes own h (locked p n) (LockEnds n own)
  unfolding locked
  locked_comes zero own made unmade = comes_to own h (Err (fault.Locked p)) (LockEnds zero own) (refl, refl)
  locked_comes (suc n) own made unmade =
      comes_lock own h of_stop (LockEnds (suc n) own) p (λ l. locked_by p l (locked p n))
      (comes_to _ h (Ok tt) (LockEnds (suc n) own) (refl, (now refl, unmade_more p fresh_name (step.Lock p) answer.Done own (λ b e. cc (e)) unmade)))
      (comes_more (did (step.Lock p) answer.Busy ∷ own) h (locked p n) (LockEnds n (did (step.Lock p) answer.Busy ∷ own)) (LockEnds (suc n) own) (one_try n own)
      (locked_comes n (did (step.Lock p) answer.Busy ∷ own) (on made) (unmade_more p fresh_name (step.Lock p) answer.Busy own (λ b e. cc (e)) unmade)))
      (comes_to _ h (Err (fault.Meddled p lock_name)) (LockEnds (suc n) own) (refl, lock_gone refl made))

  -- one deed more, with the same hand; or what shows the fault
  abbrev Next : Deed → List Deed → Hand → Outcome (Result Unit PlanFault)
  Next d own i later j (Ok u) = (later ≡ d ∷ own) × (j ≡ i)
  Next d own i later j (Err e) = ShowsPlanFault run p cs h e later

  at : {A : Type 0} (own now_ : List Deed) (j i : Hand) (q : Planned A) (Q : Outcome (Result A PlanFault)) → (own ≡ now_) × (j ≡ i) → Comes now_ i q Q → Comes own j q Q
  at own now_ j i q Q e f = rw (e.0, e.1) f

  -- temporary names
  abbrev ClearEnds : Outcome (Result Unit PlanFault)
  ClearEnds later j (Ok u) = (j ≡ h) × IsReady later
  ClearEnds later j (Err e) = ShowsPlanFault run p cs h e later

  removed_comes : (n : List ℕ) (own : List Deed) → WasListed p n own → Comes own h (removed p n) (Next (did (step.Unlink p n) answer.Done) own h)
  unfolding removed
  removed_comes n own f =
      comes_unlink own h of_stop (Next (did (step.Unlink p n) answer.Done) own h) p n (held_to p n)
      (comes_to _ h (Ok tt) (Next (did (step.Unlink p n) answer.Done) own h) (refl, refl))
      (comes_to _ h (Err (fault.Meddled p n)) (Next (did (step.Unlink p n) answer.Done) own h) (refl, temp_gone f))

  cleared_comes : (names ns : List (List ℕ)) (own : List Deed) → IsReady own → Left p names ns own → Comes own h (cleared p ns) ClearEnds
  unfolding cleared cleared_one
  cleared_comes names [] own ready f = comes_to own h (Ok tt) ClearEnds (refl, ready)
  cleared_comes names (n ∷ ns) own ready f =
      go (is_temp (kind_of n)) (cleared_comes names ns (did (step.Unlink p n) answer.Done ∷ own) (on ready.0, unmade_more p fresh_name (step.Unlink p n) answer.Done own (λ b e. cc (e)) ready.1) (left_unlinked p names n ns own f))
      (cleared_comes names ns own ready (left_rest p names n ns own f))
    where
      go : (b : Bool) → Comes (did (step.Unlink p n) answer.Done ∷ own) h (cleared p ns) ClearEnds → Comes own h (cleared p ns) ClearEnds → Comes own h ((if b then removed p n else Return (Ok tt)) >>= (λ u. cleared p ns)) ClearEnds
      go true rest same =
          comes_then own h (removed p n) (λ u. cleared p ns) (Next (did (step.Unlink p n) answer.Done) own h) ClearEnds (removed_comes n own (left_first p names n ns own f))
          (λ later j u e. at later (did (step.Unlink p n) answer.Done ∷ own) j h (cleared p ns) ClearEnds e rest) (λ later j e q. q)
      go false rest same = comes_on own h tt (λ u. cleared p ns) ClearEnds same

  temps_comes : (own : List Deed) → IsReady own → Comes own h (temps_cleared p) ClearEnds
  unfolding temps_cleared
  temps_comes own ready =
      comes_list own h of_stop ClearEnds p (clear_listed p)
      (λ names. cleared_comes names names (did (step.List p) (answer.Names names) ∷ own) (on ready.0, unmade_more p fresh_name (step.List p) (answer.Names names) own (λ b e. cc (e)) ready.1) (left_all p names own))
      (comes_to _ h (Err (fault.Meddled p lock_name)) ClearEnds (refl, list_gone refl ready.0))

  -- the context
  abbrev ReadEnds : Outcome (Result (List NamedValue) PlanFault)
  ReadEnds later j (Ok es) = (j ≡ h) × (IsReady later × HasRead p es later)
  ReadEnds later j (Err e) = ShowsPlanFault run p cs h e later

  read_comes : (own : List Deed) → IsReady own → Comes own h (context_read p) ReadEnds
  unfolding context_read
  read_comes own ready =
      comes_read own h of_stop ReadEnds p context_name LIMIT_BYTES entries_by (λ bytes. comes_to _ h (Ok (entries_in bytes)) ReadEnds (refl, (more (answer.Content bytes), entries)))
      (λ l. comes_to _ h (Err (fault.TooLarge l)) ReadEnds (inl (own, refl))) (comes_to _ h (Ok []) ReadEnds (refl, (more answer.Gone, none)))
    where
      more : (a : Answer) → IsReady (did (step.Read p context_name LIMIT_BYTES) a ∷ own)
      more a = (on ready.0, unmade_more p fresh_name (step.Read p context_name LIMIT_BYTES) a own (λ b e. cc (e)) ready.1)

  -- the new file
  abbrev NameEnds : List Deed → Outcome (Result (List ℕ) PlanFault)
  NameEnds own later j (Ok temp) = (later ≡ own) × (temp ≡ fresh_name)
  NameEnds own later j (Err e) = ShowsPlanFault run p cs h e later

  named_comes : (own : List Deed) → Comes own h (named run) (NameEnds own)
  unfolding Comes named
  named_comes own = go (nat_lt h.next (2 ^ 64)) refl
    where
      go : (b : Bool) → nat_lt h.next (2 ^ 64) ≡ b → Comes own h (named_by run h b) (NameEnds own)
      go true e = (refl, refl)
      go false e = e

  created_comes : (own : List Deed) (j : Hand) (temp bytes : List ℕ) → temp ≡ fresh_name → IsReady own → Comes own j (created p temp bytes) (Next (did (step.Create p temp bytes) answer.Done) own j)
  unfolding created
  created_comes own j temp bytes is ready =
      comes_create own j of_stop (Next (did (step.Create p temp bytes) answer.Done) own j) p temp bytes (entered_once p temp) (comes_to _ j (Ok tt) (Next (did (step.Create p temp bytes) answer.Done) own j) (refl, refl))
      (comes_to _ j (Err (fault.Meddled p temp)) (Next (did (step.Create p temp bytes) answer.Done) own j) (refl, taken answer.Exists (inl refl)))
      (comes_to _ j (Err (fault.Meddled p temp)) (Next (did (step.Create p temp bytes) answer.Done) own j) (refl, taken answer.Gone (inr refl)))
    where
      taken : (a : Answer) → (a ≡ answer.Exists) ⊎ (a ≡ answer.Gone) → IsMeddled run p temp (did (step.Create p temp bytes) a ∷ own)
      taken a e = name_taken h.next is (subst (λ z. WasMade p z own → ⊥) (sym is) ready.1) ready.0 e

  safe_comes : (own : List Deed) (j : Hand) (temp bytes : List ℕ)
      → Comes (did (step.Create p temp bytes) answer.Done ∷ own) j (made_safe p temp) (Next (did (step.SyncFile p temp) answer.Done) (did (step.Create p temp bytes) answer.Done ∷ own) j)
  unfolding made_safe
  safe_comes own j temp bytes =
      comes_sync_file _ j of_stop (Next (did (step.SyncFile p temp) answer.Done) (did (step.Create p temp bytes) answer.Done ∷ own) j) p temp (held_to p temp)
      (comes_to _ j (Ok tt) (Next (did (step.SyncFile p temp) answer.Done) (did (step.Create p temp bytes) answer.Done ∷ own) j) (refl, refl))
      (comes_to _ j (Err (fault.Meddled p temp)) (Next (did (step.SyncFile p temp) answer.Done) (did (step.Create p temp bytes) answer.Done ∷ own) j) (refl, name_gone (inr (inl refl)) (last (inl (bytes, refl)))))

  abbrev WriteEnds : List ℕ → List Deed → Outcome (Result (List ℕ) PlanFault)
  WriteEnds bytes own later j (Ok temp) = later ≡ after_written p temp bytes own
  WriteEnds bytes own later j (Err e) = ShowsPlanFault run p cs h e later

  written_comes : (own : List Deed) (bytes : List ℕ) → IsReady own → Comes own h (written run p bytes) (WriteEnds bytes own)
  unfolding written
  written_comes own bytes ready =
      comes_then own h (named run) _ (NameEnds own) (WriteEnds bytes own) (named_comes own)
      (λ later j temp q. at later own j j _ (WriteEnds bytes own) (q.0, refl)
      (comes_then own j (created p temp bytes) _ (Next (did (step.Create p temp bytes) answer.Done) own j) (WriteEnds bytes own) (created_comes own j temp bytes q.1 ready)
      (λ later_ i u e. at later_ (did (step.Create p temp bytes) answer.Done ∷ own) i j _ (WriteEnds bytes own) e
      (comes_then (did (step.Create p temp bytes) answer.Done ∷ own) j (made_safe p temp) _ (Next (did (step.SyncFile p temp) answer.Done) (did (step.Create p temp bytes) answer.Done ∷ own) j) (WriteEnds bytes own) (safe_comes own j temp bytes)
      (λ last_ k v s. comes_to last_ k (Ok temp) (WriteEnds bytes own) s.0) (λ last_ k e_ s. s)))
      (λ later_ i e s. s)))
      (λ later j e q. q)

  renamed_comes : (own : List Deed) (j : Hand) (temp bytes : List ℕ)
      → Comes (after_written p temp bytes own) j (renamed p temp context_name) (Next (did (step.Rename p temp context_name) answer.Done) (after_written p temp bytes own) j)
  unfolding renamed
  renamed_comes own j temp bytes =
      comes_rename _ j of_stop (Next (did (step.Rename p temp context_name) answer.Done) (after_written p temp bytes own) j) p temp context_name (held_to p temp)
      (comes_to _ j (Ok tt) (Next (did (step.Rename p temp context_name) answer.Done) (after_written p temp bytes own) j) (refl, refl))
      (comes_to _ j (Err (fault.Meddled p temp)) (Next (did (step.Rename p temp context_name) answer.Done) (after_written p temp bytes own) j)
      (refl, name_gone (inr (inr (inr (context_name, refl)))) (still (not_taken_by_sync p temp) (last (inl (bytes, refl))))))

  synced_comes : (own : List Deed) (j : Hand) (temp : List ℕ) → Comes (did (step.Rename p temp context_name) answer.Done ∷ own) j (synced p context_name) CommitEnds
  unfolding synced
  synced_comes own j temp =
      comes_sync_folder _ j of_stop CommitEnds p (held_to p context_name) (comes_to _ j (Ok tt) CommitEnds tt) (comes_to _ j (Err (fault.Meddled p context_name)) CommitEnds (refl, sync_gone))

  replaced_comes : (own : List Deed) (bytes : List ℕ) → IsReady own → Comes own h (replaced run p context_name bytes) CommitEnds
  unfolding replaced
  replaced_comes own bytes ready =
      comes_then own h (written run p bytes) _ (WriteEnds bytes own) CommitEnds (written_comes own bytes ready)
      (λ later j temp q. at later (after_written p temp bytes own) j j _ CommitEnds (q, refl)
      (comes_then (after_written p temp bytes own) j (renamed p temp context_name) _ (Next (did (step.Rename p temp context_name) answer.Done) (after_written p temp bytes own) j) CommitEnds (renamed_comes own j temp bytes)
      (λ later_ i u e. at later_ (did (step.Rename p temp context_name) answer.Done ∷ after_written p temp bytes own) i j _ CommitEnds e (synced_comes (after_written p temp bytes own) j temp))
      (λ later_ i e s. s)))
      (λ later j e q. q)

  context_comes : (own : List Deed) (es : List NamedValue) → IsReady own → HasRead p es own → Comes own h (context_replaced run p (printed (changed cs es))) CommitEnds
  unfolding context_replaced
  context_comes own es ready read = go (nat_lt LIMIT_BYTES (length (printed (changed cs es)))) refl
    where
      go : (b : Bool) → nat_lt LIMIT_BYTES (length (printed (changed cs es))) ≡ b
          → Comes own h (if b then Return (Err (fault.TooLarge (length (printed (changed cs es))))) else replaced run p context_name (printed (changed cs es))) CommitEnds
      go true e = comes_to own h (Err (fault.TooLarge (length (printed (changed cs es))))) CommitEnds (inr (record { entries = es; read = read; is = refl; above = e }))
      go false e = replaced_comes own (printed (changed cs es)) ready

  let_go_comes : (own : List Deed) (j : Hand) → Comes own j (let_go p) Okay
  unfolding let_go
  let_go_comes own j = comes_unlock own j of_stop Okay p _ (comes_to _ j (Ok tt) Okay tt)

  known_comes : (own : List Deed) (j : Hand) (es : List NamedValue) → Comes own j (known es) CommitEnds
  unfolding Comes known
  known_comes own j es = tt

  held_fault : (a : Answer) (own later : List Deed) (j : Hand) (e : PlanFault) → LockEnds TRIES own later j (Err e) → ShowsPlanFault run p cs h e later
  held_fault a own later j fault.Faulted q = q
  held_fault a own later j (fault.Locked place) q = (q.0, record { older = own; is = q.1 })
  held_fault a own later j (fault.Meddled place x) q = q
  held_fault a own later j fault.Full q = q
  held_fault a own later j (fault.Absent place) q = q
  held_fault a own later j (fault.TooLarge l) q = absurd q
  held_fault a own later j fault.Memory q = absurd q

  locking : (a : Answer) (own : List Deed) → (WasMade p fresh_name own → ⊥)
      → Comes (did (step.MakeFolder p) a ∷ own) h (locked p TRIES >>= (λ held. temps_cleared p >>= (λ clear. context_read p >>= (λ es. context_replaced run p (printed (changed cs es)) >>= (λ new. let_go p >>= (λ free. known (changed cs es))))))) CommitEnds
  locking a own unmade =
      comes_then made h (locked p TRIES) _ (LockEnds TRIES made) CommitEnds (locked_comes TRIES made (now refl) (unmade_more p fresh_name (step.MakeFolder p) a own (λ b e. cc (e)) unmade))
      (λ own1 j u q. at own1 own1 j h _ CommitEnds (refl, q.0)
      (comes_then own1 h (temps_cleared p) _ ClearEnds CommitEnds (temps_comes own1 q.1)
      (λ own2 j2 v r. at own2 own2 j2 h _ CommitEnds (refl, r.0)
      (comes_then own2 h (context_read p) _ ReadEnds CommitEnds (read_comes own2 r.1)
      (λ own3 j3 es s. at own3 own3 j3 h _ CommitEnds (refl, s.0)
      (comes_then own3 h (context_replaced run p (printed (changed cs es))) _ CommitEnds CommitEnds (context_comes own3 es s.1.0 s.1.1)
      (λ own4 j4 w t. comes_then own4 j4 (let_go p) (λ free. known (changed cs es)) Okay CommitEnds (let_go_comes own4 j4) (λ own5 j5 x y. known_comes own5 j5 (changed cs es)) (λ own5 j5 e y. absurd y))
      (λ own4 j4 e t. t)))
      (λ own3 j3 e s. s)))
      (λ own2 j2 e r. r)))
      (λ own1 j e q. held_fault a made own1 j e q)
    where
      made : List Deed
      made = did (step.MakeFolder p) a ∷ own

  committed_comes : (own : List Deed) → (WasMade p fresh_name own → ⊥) → Comes own h (committed run p cs) CommitEnds
  unfolding committed
  committed_comes own unmade = comes_make own h of_stop CommitEnds p _ (locking answer.Done own unmade) (locking answer.Exists own unmade)

  -- a commit of the context, where the run's next name was not made yet: its end, and what shows it
  pub commit_comes : (own : List Deed) → (WasMade p fresh_name own → ⊥) → Comes own h (commit_context run p cs) CommitEnds
  unfolding Comes commit_context
  commit_comes own unmade = go (settled cs h.context)
    where
      go : (b : Bool) → Comes own h (commit_by run p cs b) CommitEnds
      go true = tt
      go false = committed_comes own unmade

  -- the same in a call that did these deeds; and where it returns no step has failed
  abbrev pub CommitEndsAs : List runs.Deed → Hand → Result Unit PlanFault → Type 0
  CommitEndsAs past j r = NoneFailed (acts past) × CommitEnds (acts past) j r

  pub commit_ends : (past : List runs.Deed) → NoneFailed (acts past) → (WasMade p fresh_name (acts past) → ⊥) → Keeps anything past h (commit_context run p cs) CommitEndsAs
  commit_ends past clean unmade =
      comes_keeps past (acts past) h (commit_context run p cs) (λ later j r. NoneFailed later × CommitEnds later j r) refl (comes_clean (acts past) h (commit_context run p cs) CommitEnds clean (commit_comes (acts past) unmade))
