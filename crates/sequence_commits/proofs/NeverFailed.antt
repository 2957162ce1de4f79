-- A call whose plan tries nothing has returned only where none of its steps failed.
use Rattle.std.proofs.Common.{◌≡◌, inl, inr, ◌^◌, [], ◌∷◌, ℕ, zero, suc, Bool, true, false, List, Result, Ok, Err, refl, sym, ◌∙◌, nat_lt, length}
use Rattle.std.specs.Prelude.{if◌then◌else◌}
use Rattle.mh_base.specs.Entries.{kind_of}
use Rattle.mh_profile.specs.Printing.{printed}
use Rattle.mh_profile.specs.declared.named_value.NamedValue.{NamedValue}
use Rattle.mh_sequences.specs.Sequences.{Marked}
use Rattle.folder_files.specs.Named.{is_temp}
use Rattle.folder_files.specs.declared.place.Place.{Place}
use Rattle.folder_files.specs.declared.step.Step.{Step}
use Rattle.folder_files.specs.declared.step.Step.TheVariants as step
use Rattle.file_plans.specs.Asking.{list, read, make_folder, create, sync_file, sync_folder, rename, unlink, lock}
use Rattle.file_plans.specs.Plan.{Hand, Plan, Return, Ask, Try, Say, Hear, Recall, Note, bind, after, ask, ◌>>=◌, converted, lifted}
use Rattle.file_plans.specs.Runs.{Exit, Returned, FilesFailed, NoMemory, Deed, Did, Said, Heard, Runs, AnyFailed}
use Rattle.file_plans.specs.declared.answers.Entered.{Entered}
use Rattle.file_plans.specs.declared.answers.Entered.TheVariants as entered
use Rattle.file_plans.specs.declared.answers.Listing.{Listing}
use Rattle.file_plans.specs.declared.answers.Listing.TheVariants as listing
use Rattle.file_plans.specs.declared.answers.Locking.{Locking}
use Rattle.file_plans.specs.declared.answers.Locking.TheVariants as locking
use Rattle.file_plans.specs.declared.answers.Reading.{Reading}
use Rattle.file_plans.specs.declared.answers.Reading.TheVariants as reading
use Rattle.file_plans.specs.declared.answers.Touched.{Touched}
use Rattle.file_plans.specs.declared.answers.Touched.TheVariants as touched
use Rattle.file_plans.proofs.Giving.{Same}
use Rattle.step_plans.specs.ContextCommit.{LIMIT_BYTES, TRIES, changed, context_name, context_read, context_replaced, commit_by, commit_context, committed, entries_by, settled}
use Rattle.step_plans.specs.Hands.{known, named, named_by}
use Rattle.step_plans.specs.Locking.{clear_listed, cleared, cleared_one, let_go, locked, locked_by, removed, temps_cleared}
use Rattle.step_plans.specs.PlanFaults.{Planned, of_stop}
use Rattle.step_plans.specs.Replacing.{created, entered_once, held_to, made_safe, renamed, replaced, synced, written}
use Rattle.step_plans.specs.declared.change.ChangeEntry.{ChangeEntry}
use Rattle.step_plans.specs.declared.fault.PlanFault.{PlanFault}
use Rattle.step_plans.specs.declared.fault.PlanFault.TheVariants as fault
use Rattle.sequence_commits.specs.Committing.{changed_sequences, committed_unless, entries_committed, sequences_replaced, told_committed}
use Rattle.sequence_commits.specs.PrivateChanges.{changes_to}
use Rattle.mh_profile.specs.Reading.{entries_seen}
use Rattle.sequence_commits.specs.Telling.{same_told}
use Rattle.sequence_commits.proofs.SequencesPledged.{sequences_name}

-- each step of the plan ends it where it fails, and it neither speaks nor hears
unfoldable pub IsPlain : {R : Type 0} → Plan R → Type 0
IsPlain (Return r) = Unit {0}
IsPlain (Ask s next) = (a : _) → IsPlain (next a)
IsPlain (Try s next) = ⊥
IsPlain (Say piece next) = ⊥
IsPlain (Hear most next) = ⊥
IsPlain (Recall next) = (h : Hand) → IsPlain (next h)
IsPlain (Note j next) = IsPlain next

other_exit : {R : Type 0} (r : R) (exit e : Exit R) → exit ≡ e → exit ≡ Returned r → Same e (Returned r)
other_exit r exit e is at = sym is ∙ at

plain_clean : {R : Type 0} (p : Plan R) (h : Hand) (ds : List Deed) (k : Hand) (exit : Exit R) (r : R) → IsPlain p → Runs p h ds k exit → exit ≡ Returned r → AnyFailed ds → ⊥
unfolding IsPlain Runs
plain_clean (Return x) h [] k exit r plain f at any = any
plain_clean (Return x) h (d ∷ ds) k exit r plain f at any = f
plain_clean (Ask s next) h [] k exit r plain f at any = any
plain_clean (Ask s next) h (Did t a ∷ ds) k exit r plain (is, row, inl w) at any = let e = other_exit r exit FilesFailed w.3 at in cc
plain_clean (Ask s next) h (Did t a ∷ ds) k exit r plain (is, row, inr (live, f)) at (inl e) = live e
plain_clean (Ask s next) h (Did t a ∷ ds) k exit r plain (is, row, inr (live, f)) at (inr any) = plain_clean (next a) h ds k exit r (plain a) f at any
plain_clean (Ask s next) h (Said piece ∷ ds) k exit r plain f at any = f
plain_clean (Ask s next) h (Heard piece ∷ ds) k exit r plain f at any = f
plain_clean (Try s next) h ds k exit r plain f at any = plain
plain_clean (Say piece next) h ds k exit r plain f at any = plain
plain_clean (Hear most next) h ds k exit r plain f at any = plain
plain_clean (Recall next) h ds k exit r plain f at any = plain_clean (next h) h ds k exit r (plain h) f at any
plain_clean (Note j next) h ds k exit r plain (inl w) at any = let e = other_exit r exit NoMemory w.2 at in cc
plain_clean (Note j next) h ds k exit r plain (inr f) at any = plain_clean next j ds k exit r plain f at any

pub plain_bind : {A B : Type 0} (p : Plan A) (k : A → Plan B) → IsPlain p → ((a : A) → IsPlain (k a)) → IsPlain (bind p k)
unfolding IsPlain bind
plain_bind (Return r) k f g = g r
plain_bind (Ask s next) k f g = λ a. plain_bind (next a) k (f a) g
plain_bind (Try s next) k f g = f
plain_bind (Say piece next) k f g = f
plain_bind (Hear most next) k f g = f
plain_bind (Recall next) k f g = λ h. plain_bind (next h) k (f h) g
plain_bind (Note j next) k f g = plain_bind next k f g

plain_after : {A B E : Type 0} (k : A → Plan (Result B E)) (r : Result A E) → ((a : A) → IsPlain (k a)) → IsPlain (after k r)
unfolding IsPlain
plain_after k (Ok a) g = g a
plain_after k (Err e) g = tt

-- one part, and the next where it is Ok
pub plain_then : {A B E : Type 0} (p : Plan (Result A E)) (k : A → Plan (Result B E)) → IsPlain p → ((a : A) → IsPlain (k a)) → IsPlain (p >>= k)
unfolding ◌>>=◌
plain_then p k f g = plain_bind p (after k) f (λ r. plain_after k r g)

pub plain_return : {R : Type 0} (r : R) → IsPlain (Return r)
unfolding IsPlain
plain_return r = tt

pub plain_lifted : {A E F : Type 0} (from : E → F) (p : Plan (Result A E)) → IsPlain p → IsPlain (lifted from p)
unfolding lifted
plain_lifted from p f = plain_bind p (λ r. Return (converted from r)) f (λ r. plain_return (converted from r))

pub plain_ask : (E : Type 0) (s : Step) → IsPlain (ask {E = E} s)
unfolding IsPlain ask
plain_ask E s = λ a. tt

-- what each answer leads to
plain_held : (p : Place) (n : List ℕ) (t : Touched) → IsPlain (held_to p n t)
plain_held p n touched.Done = plain_return _
plain_held p n touched.Gone = plain_return _

plain_entered : (p : Place) (n : List ℕ) (t : Entered) → IsPlain (entered_once p n t)
plain_entered p n entered.Done = plain_return _
plain_entered p n entered.Exists = plain_return _
plain_entered p n entered.Gone = plain_return _

-- the parts of a file that takes a name's place
plain_created : (p : Place) (n b : List ℕ) → IsPlain (created p n b)
unfolding created create
plain_created p n b = plain_then _ _ (plain_lifted of_stop _ (plain_then _ _ (plain_ask _ (step.Create p n b)) (λ a. plain_return _))) (plain_entered p n)

plain_made_safe : (p : Place) (n : List ℕ) → IsPlain (made_safe p n)
unfolding made_safe sync_file
plain_made_safe p n = plain_then _ _ (plain_lifted of_stop _ (plain_then _ _ (plain_ask _ (step.SyncFile p n)) (λ a. plain_return _))) (plain_held p n)

pub plain_synced : (p : Place) (n : List ℕ) → IsPlain (synced p n)
unfolding synced sync_folder
plain_synced p n = plain_then _ _ (plain_lifted of_stop _ (plain_then _ _ (plain_ask _ (step.SyncFolder p)) (λ a. plain_return _))) (plain_held p n)

pub plain_renamed : (p : Place) (a b : List ℕ) → IsPlain (renamed p a b)
unfolding renamed rename
plain_renamed p a b = plain_then _ _ (plain_lifted of_stop _ (plain_then _ _ (plain_ask _ (step.Rename p a b)) (λ a. plain_return _))) (plain_held p a)

plain_named : (run : ℕ) → IsPlain (named run)
unfolding IsPlain named
plain_named run = λ h. go h (nat_lt h.next (2 ^ 64))
  where
    go : (h : Hand) (b : Bool) → IsPlain (named_by run h b)
    go h true = tt
    go h false = tt

pub plain_written : (run : ℕ) (p : Place) (bytes : List ℕ) → IsPlain (written run p bytes)
unfolding written
plain_written run p bytes =
    plain_then (named run) _ (plain_named run) (λ temp. plain_then (created p temp bytes) _ (plain_created p temp bytes) (λ u. plain_then (made_safe p temp) _ (plain_made_safe p temp) (λ v. plain_return (Ok temp))))

plain_replaced : (run : ℕ) (p : Place) (name bytes : List ℕ) → IsPlain (replaced run p name bytes)
unfolding replaced
plain_replaced run p name bytes =
    plain_then (written run p bytes) _ (plain_written run p bytes) (λ temp. plain_then (renamed p temp name) _ (plain_renamed p temp name) (λ u. plain_synced p name))

-- the parts of a commit of the context
plain_locked_by : (p : Place) (l : Locking) (again : Planned Unit) → IsPlain again → IsPlain (locked_by p l again)
plain_locked_by p locking.Done again f = plain_return _
plain_locked_by p locking.Busy again f = f
plain_locked_by p locking.Gone again f = plain_return _

plain_locked : (p : Place) (tries : ℕ) → IsPlain (locked p tries)
unfolding locked lock
plain_locked p zero = plain_return _
plain_locked p (suc n) = plain_then _ _ (plain_lifted of_stop _ (plain_then _ _ (plain_ask _ (step.Lock p)) (λ a. plain_return _))) (λ l. plain_locked_by p l (locked p n) (plain_locked p n))

plain_let_go : (p : Place) → IsPlain (let_go p)
unfolding let_go
plain_let_go p = plain_then _ _ (plain_lifted of_stop _ (plain_ask _ (step.Unlock p))) (λ a. plain_return _)

plain_removed : (p : Place) (n : List ℕ) → IsPlain (removed p n)
unfolding removed unlink
plain_removed p n = plain_then _ _ (plain_lifted of_stop _ (plain_then _ _ (plain_ask _ (step.Unlink p n)) (λ a. plain_return _))) (plain_held p n)

plain_cleared_one : (p : Place) (n : List ℕ) → IsPlain (cleared_one p n)
unfolding cleared_one
plain_cleared_one p n = go (is_temp (kind_of n))
  where
    go : (b : Bool) → IsPlain (if b then removed p n else Return (Ok tt))
    go true = plain_removed p n
    go false = plain_return _

plain_cleared : (p : Place) (names : List (List ℕ)) → IsPlain (cleared p names)
unfolding cleared
plain_cleared p [] = plain_return _
plain_cleared p (n ∷ names) = plain_then (cleared_one p n) _ (plain_cleared_one p n) (λ u. plain_cleared p names)

plain_listed : (p : Place) (l : Listing) → IsPlain (clear_listed p l)
plain_listed p (listing.Names names) = plain_cleared p names
plain_listed p listing.Gone = plain_return _

plain_temps : (p : Place) → IsPlain (temps_cleared p)
unfolding temps_cleared list
plain_temps p = plain_then _ _ (plain_lifted of_stop _ (plain_then _ _ (plain_ask _ (step.List p)) (λ a. plain_return _))) (plain_listed p)

plain_entries : (r : Reading) → IsPlain (entries_by r)
plain_entries (reading.Content bytes) = plain_return _
plain_entries (reading.Long l) = plain_return _
plain_entries reading.Gone = plain_return _

plain_read : (p : Place) → IsPlain (context_read p)
unfolding context_read read
plain_read p = plain_then _ _ (plain_lifted of_stop _ (plain_then _ _ (plain_ask _ (step.Read p context_name LIMIT_BYTES)) (λ a. plain_return _))) plain_entries

plain_context : (run : ℕ) (p : Place) (text : List ℕ) → IsPlain (context_replaced run p text)
unfolding context_replaced
plain_context run p text = go (nat_lt LIMIT_BYTES (length text))
  where
    go : (b : Bool) → IsPlain (if b then Return (Err (fault.TooLarge (length text))) else replaced run p context_name text)
    go true = plain_return _
    go false = plain_replaced run p context_name text

plain_known : (es : List NamedValue) → IsPlain (known es)
unfolding IsPlain known
plain_known es = λ h. tt

plain_committed : (run : ℕ) (p : Place) (cs : List ChangeEntry) → IsPlain (committed run p cs)
unfolding committed make_folder
plain_committed run p cs =
    plain_then _ _ (plain_lifted of_stop _ (plain_then _ _ (plain_ask _ (step.MakeFolder p)) (λ a. plain_return _))) (λ m.
    plain_then (locked p TRIES) _ (plain_locked p TRIES) (λ l.
    plain_then (temps_cleared p) _ (plain_temps p) (λ t.
    plain_then (context_read p) _ (plain_read p) (λ es.
    plain_then (context_replaced run p (printed (changed cs es))) _ (plain_context run p (printed (changed cs es))) (λ u.
    plain_then (let_go p) _ (plain_let_go p) (λ v. plain_known (changed cs es)))))))

plain_commit : (run : ℕ) (p : Place) (cs : List ChangeEntry) → IsPlain (commit_context run p cs)
unfolding IsPlain commit_context
plain_commit run p cs = λ h. go (settled cs h.context)
  where
    go : (b : Bool) → IsPlain (commit_by run p cs b)
    go true = tt
    go false = plain_committed run p cs

-- a commit of sequences
plain_text : (run : ℕ) (p : Place) (text : List ℕ) → IsPlain (sequences_replaced run p text)
unfolding sequences_replaced
plain_text run p text = go (nat_lt LIMIT_BYTES (length text))
  where
    go : (b : Bool) → IsPlain (if b then Return (Err (fault.TooLarge (length text))) else replaced run p sequences_name text)
    go true = plain_return _
    go false = plain_replaced run p sequences_name text

plain_private : (run : ℕ) (mail : Place) (ending : List ℕ) (kept : List NamedValue) → IsPlain (entries_committed run mail ending kept)
unfolding IsPlain entries_committed
plain_private run mail ending kept = λ h. plain_commit run mail (changes_to ending kept (entries_seen h.context))

plain_told : (run : ℕ) (p mail : Place) (ending text : List ℕ) (kept : List NamedValue) → IsPlain (told_committed run p mail ending text kept)
unfolding told_committed
plain_told run p mail ending text kept = plain_then (sequences_replaced run p text) _ (plain_text run p text) (λ u. plain_private run mail ending kept)

plain_changed : (run : ℕ) (p mail : Place) (folder : List ℕ) (old new : Marked) → IsPlain (changed_sequences run p mail folder old new)
unfolding changed_sequences
plain_changed run p mail folder old new = go (same_told folder old new)
  where
    go : (b : Bool) → IsPlain (committed_unless b run p mail folder new)
    go true = plain_return _
    go false = plain_told run p mail _ _ _

-- none of its steps has failed where it has returned
pub changed_clean : (run : ℕ) (p mail : Place) (folder : List ℕ) (old new : Marked) (h : Hand) (ds : List Deed) (k : Hand) (r : Result Unit PlanFault)
    → Runs (changed_sequences run p mail folder old new) h ds k (Returned r) → AnyFailed ds → ⊥
changed_clean run p mail folder old new h ds k r f = plain_clean (changed_sequences run p mail folder old new) h ds k (Returned r) r (plain_changed run p mail folder old new) f refl
