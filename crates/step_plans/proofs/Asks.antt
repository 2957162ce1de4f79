-- Which steps the parts of a commit ask for, whatever is answered.
use Rattle.std.proofs.Common.{◌≡◌, ◌^◌, ◌∷◌, [], ℕ, zero, suc, Bool, true, false, List, Ok, Err, refl, nat_lt, length}
use Rattle.std.specs.Prelude.{if◌then◌else◌}
use Rattle.mh_base.specs.Entries.{kind_of}
use Rattle.mh_profile.specs.Printing.{printed}
use Rattle.mh_profile.specs.declared.named_value.NamedValue.{NamedValue}
use Rattle.folder_files.specs.Named.{is_temp}
use Rattle.folder_files.specs.declared.place.Place.{Place}
use Rattle.folder_files.specs.declared.step.Step.{Step}
use Rattle.folder_files.specs.declared.step.Step.TheVariants as step
use Rattle.file_plans.specs.Asking.{list, read, make_folder, create, sync_file, sync_folder, rename, unlink, lock}
use Rattle.file_plans.specs.Framing.{AsksOnly}
use Rattle.file_plans.specs.Plan.{Hand, Return, bind, ask, ◌>>=◌, lifted}
use Rattle.file_plans.specs.declared.answers.Entered.{Entered}
use Rattle.file_plans.specs.declared.answers.Entered.TheVariants as entered
use Rattle.file_plans.specs.declared.answers.Listing.{Listing}
use Rattle.file_plans.specs.declared.answers.Listing.TheVariants as listing
use Rattle.file_plans.specs.declared.answers.Locking.{Locking}
use Rattle.file_plans.specs.declared.answers.Locking.TheVariants as locking
use Rattle.file_plans.specs.declared.answers.Reading.{Reading}
use Rattle.file_plans.specs.declared.answers.Reading.TheVariants as reading
use Rattle.file_plans.specs.declared.answers.Touched.{Touched}
use Rattle.file_plans.specs.declared.answers.Touched.TheVariants as touched
use Rattle.file_plans.proofs.Framing.{asks_then, asks_none}
use Rattle.step_plans.specs.declared.change.ChangeEntry.{ChangeEntry}
use Rattle.step_plans.specs.declared.fault.PlanFault.TheVariants as fault
use Rattle.step_plans.specs.PlanFaults.{of_stop, Planned}
use Rattle.step_plans.specs.ContextCommit.{context_name, LIMIT_BYTES, TRIES, changed, settled, entries_by, context_read, context_replaced, committed, commit_by, commit_context}
use Rattle.step_plans.specs.Hands.{named, named_by, known}
use Rattle.step_plans.specs.Locking.{locked_by, locked, let_go, removed, cleared_one, cleared, clear_listed, temps_cleared}
use Rattle.step_plans.specs.Replacing.{held_to, entered_once, created, made_safe, written, synced, renamed, replaced}

-- where such steps of a commit of this name are free
pub record Commits (P : Step → Type 0) (p : Place) (name : List ℕ) : Type 0 where
  pub make : P (step.MakeFolder p)
  pub lock : P (step.Lock p)
  pub list : P (step.List p)
  pub clear : (temp : List ℕ) → is_temp (kind_of temp) ≡ true → P (step.Unlink p temp)
  pub read : P (step.Read p name LIMIT_BYTES)
  pub create : (temp bytes : List ℕ) → P (step.Create p temp bytes)
  pub sync_file : (temp : List ℕ) → P (step.SyncFile p temp)
  pub rename : (temp : List ℕ) → P (step.Rename p temp name)
  pub sync : P (step.SyncFolder p)
  pub unlock : P (step.Unlock p)

module _ (P : Step → Type 0) where
  asks_held : (p : Place) (n : List ℕ) (t : Touched) → AsksOnly P (held_to p n t)
  unfolding AsksOnly
  asks_held p n touched.Done = tt
  asks_held p n touched.Gone = tt

  asks_entered : (p : Place) (n : List ℕ) (t : Entered) → AsksOnly P (entered_once p n t)
  unfolding AsksOnly
  asks_entered p n entered.Done = tt
  asks_entered p n entered.Exists = tt
  asks_entered p n entered.Gone = tt

  asks_one_created : (p : Place) (n b : List ℕ) → P (step.Create p n b) → AsksOnly P (lifted of_stop (create p n b))
  unfolding AsksOnly create ask bind ◌>>=◌ lifted
  asks_one_created p n b f = (f, λ a. tt)

  pub asks_created : (p : Place) (n b : List ℕ) → P (step.Create p n b) → AsksOnly P (created p n b)
  unfolding created
  asks_created p n b f = asks_then P (lifted of_stop (create p n b)) (entered_once p n) (asks_one_created p n b f) (λ e. asks_entered p n e)

  asks_one_synced : (p : Place) (n : List ℕ) → P (step.SyncFile p n) → AsksOnly P (lifted of_stop (sync_file p n))
  unfolding AsksOnly sync_file ask bind ◌>>=◌ lifted
  asks_one_synced p n f = (f, λ a. tt)

  pub asks_made_safe : (p : Place) (n : List ℕ) → P (step.SyncFile p n) → AsksOnly P (made_safe p n)
  unfolding made_safe
  asks_made_safe p n f = asks_then P (lifted of_stop (sync_file p n)) (held_to p n) (asks_one_synced p n f) (λ t. asks_held p n t)

  asks_one_folder : (p : Place) → P (step.SyncFolder p) → AsksOnly P (lifted of_stop (sync_folder p))
  unfolding AsksOnly sync_folder ask bind ◌>>=◌ lifted
  asks_one_folder p f = (f, λ a. tt)

  pub asks_synced : (p : Place) (n : List ℕ) → P (step.SyncFolder p) → AsksOnly P (synced p n)
  unfolding synced
  asks_synced p n f = asks_then P (lifted of_stop (sync_folder p)) (held_to p n) (asks_one_folder p f) (λ t. asks_held p n t)

  asks_one_renamed : (p : Place) (a b : List ℕ) → P (step.Rename p a b) → AsksOnly P (lifted of_stop (rename p a b))
  unfolding AsksOnly rename ask bind ◌>>=◌ lifted
  asks_one_renamed p a b f = (f, λ a. tt)

  pub asks_renamed : (p : Place) (a b : List ℕ) → P (step.Rename p a b) → AsksOnly P (renamed p a b)
  unfolding renamed
  asks_renamed p a b f = asks_then P (lifted of_stop (rename p a b)) (held_to p a) (asks_one_renamed p a b f) (λ t. asks_held p a t)

  asks_one_removed : (p : Place) (n : List ℕ) → P (step.Unlink p n) → AsksOnly P (lifted of_stop (unlink p n))
  unfolding AsksOnly unlink ask bind ◌>>=◌ lifted
  asks_one_removed p n f = (f, λ a. tt)

  pub asks_removed : (p : Place) (n : List ℕ) → P (step.Unlink p n) → AsksOnly P (removed p n)
  unfolding removed
  asks_removed p n f = asks_then P (lifted of_stop (unlink p n)) (held_to p n) (asks_one_removed p n f) (λ t. asks_held p n t)

  pub asks_named : (run : ℕ) → AsksOnly P (named run)
  unfolding AsksOnly named
  asks_named run = λ h. go h (nat_lt h.next (2 ^ 64))
    where
      go : (h : Hand) (b : Bool) → AsksOnly P (named_by run h b)
      go h true = tt
      go h false = tt

  pub asks_written : (run : ℕ) (p : Place) (bytes : List ℕ) → ((temp b : List ℕ) → P (step.Create p temp b)) → ((temp : List ℕ) → P (step.SyncFile p temp)) → AsksOnly P (written run p bytes)
  unfolding written
  asks_written run p bytes f g =
      asks_then P (named run) _ (asks_named run) (λ temp.
      asks_then P (created p temp bytes) _ (asks_created p temp bytes (f temp bytes)) (λ u.
      asks_then P (made_safe p temp) _ (asks_made_safe p temp (g temp)) (λ u. asks_none P (Ok temp))))

  pub asks_replaced : (run : ℕ) (p : Place) (name bytes : List ℕ) → Commits P p name → AsksOnly P (replaced run p name bytes)
  unfolding replaced
  asks_replaced run p name bytes f =
      asks_then P (written run p bytes) _ (asks_written run p bytes f.create f.sync_file) (λ temp.
      asks_then P (renamed p temp name) _ (asks_renamed p temp name (f.rename temp)) (λ u. asks_synced p name f.sync))

  asks_one_locked : (p : Place) → P (step.Lock p) → AsksOnly P (lifted of_stop (lock p))
  unfolding AsksOnly lock ask bind ◌>>=◌ lifted
  asks_one_locked p f = (f, λ a. tt)

  asks_locked_by : (p : Place) (l : Locking) (again : Planned Unit) → AsksOnly P again → AsksOnly P (locked_by p l again)
  unfolding AsksOnly
  asks_locked_by p locking.Done again f = tt
  asks_locked_by p locking.Busy again f = f
  asks_locked_by p locking.Gone again f = tt

  pub asks_locked : (p : Place) (tries : ℕ) → P (step.Lock p) → AsksOnly P (locked p tries)
  unfolding locked
  asks_locked p zero f = asks_none P _
  asks_locked p (suc n) f = asks_then P (lifted of_stop (lock p)) (λ l. locked_by p l (locked p n)) (asks_one_locked p f) (λ l. asks_locked_by p l (locked p n) (asks_locked p n f))

  asks_one_unlocked : (p : Place) → P (step.Unlock p) → AsksOnly P (lifted of_stop (ask (step.Unlock p)))
  unfolding AsksOnly ask bind ◌>>=◌ lifted
  asks_one_unlocked p f = (f, λ a. tt)

  pub asks_let_go : (p : Place) → P (step.Unlock p) → AsksOnly P (let_go p)
  unfolding let_go
  asks_let_go p f = asks_then P (lifted of_stop (ask (step.Unlock p))) _ (asks_one_unlocked p f) (λ a. asks_none P (Ok tt))

  pub asks_cleared : (p : Place) (ns : List (List ℕ)) → ((temp : List ℕ) → is_temp (kind_of temp) ≡ true → P (step.Unlink p temp)) → AsksOnly P (cleared p ns)
  unfolding cleared cleared_one
  asks_cleared p [] f = asks_none P (Ok tt)
  asks_cleared p (n ∷ ns) f = asks_then P (cleared_one p n) (λ u. cleared p ns) one (λ u. asks_cleared p ns f)
    where
      go : (b : Bool) → is_temp (kind_of n) ≡ b → AsksOnly P (if b then removed p n else Return (Ok tt))
      go true e = asks_removed p n (f n e)
      go false e = asks_none P (Ok tt)

      one : AsksOnly P (cleared_one p n)
      one = go (is_temp (kind_of n)) refl

  asks_one_listed : (p : Place) → P (step.List p) → AsksOnly P (lifted of_stop (list p))
  unfolding AsksOnly list ask bind ◌>>=◌ lifted
  asks_one_listed p f = (f, λ a. tt)

  asks_clear_listed : (p : Place) (l : Listing) → ((temp : List ℕ) → is_temp (kind_of temp) ≡ true → P (step.Unlink p temp)) → AsksOnly P (clear_listed p l)
  asks_clear_listed p (listing.Names ns) f = asks_cleared p ns f
  asks_clear_listed p listing.Gone f = asks_none P _

  pub asks_temps_cleared : (p : Place) → P (step.List p) → ((temp : List ℕ) → is_temp (kind_of temp) ≡ true → P (step.Unlink p temp)) → AsksOnly P (temps_cleared p)
  unfolding temps_cleared
  asks_temps_cleared p f g = asks_then P (lifted of_stop (list p)) (clear_listed p) (asks_one_listed p f) (λ l. asks_clear_listed p l g)

  asks_one_read : (p : Place) (n : List ℕ) (limit : ℕ) → P (step.Read p n limit) → AsksOnly P (lifted of_stop (read p n limit))
  unfolding AsksOnly read ask bind ◌>>=◌ lifted
  asks_one_read p n limit f = (f, λ a. tt)

  asks_entries : (r : Reading) → AsksOnly P (entries_by r)
  asks_entries (reading.Content b) = asks_none P _
  asks_entries (reading.Long l) = asks_none P _
  asks_entries reading.Gone = asks_none P _

  pub asks_context_read : (p : Place) → P (step.Read p context_name LIMIT_BYTES) → AsksOnly P (context_read p)
  unfolding context_read
  asks_context_read p f = asks_then P (lifted of_stop (read p context_name LIMIT_BYTES)) entries_by (asks_one_read p context_name LIMIT_BYTES f) asks_entries

  pub asks_context_replaced : (run : ℕ) (p : Place) (text : List ℕ) → Commits P p context_name → AsksOnly P (context_replaced run p text)
  unfolding context_replaced
  asks_context_replaced run p text f = go (nat_lt LIMIT_BYTES (length text))
    where
      go : (b : Bool) → AsksOnly P (if b then Return (Err (fault.TooLarge (length text))) else replaced run p context_name text)
      go true = asks_none P _
      go false = asks_replaced run p context_name text f

  asks_made : (p : Place) → P (step.MakeFolder p) → AsksOnly P (lifted of_stop (make_folder p))
  unfolding AsksOnly make_folder ask bind ◌>>=◌ lifted
  asks_made p f = (f, λ a. tt)

  asks_known : (es : List NamedValue) → AsksOnly P (known es)
  unfolding AsksOnly known
  asks_known es = λ h. tt

  asks_committed : (run : ℕ) (p : Place) (cs : List ChangeEntry) → Commits P p context_name → AsksOnly P (committed run p cs)
  unfolding committed
  asks_committed run p cs f =
      asks_then P (lifted of_stop (make_folder p)) _ (asks_made p f.make) (λ u.
      asks_then P (locked p TRIES) _ (asks_locked p TRIES f.lock) (λ u.
      asks_then P (temps_cleared p) _ (asks_temps_cleared p f.list f.clear) (λ u.
      asks_then P (context_read p) _ (asks_context_read p f.read) (λ es.
      asks_then P (context_replaced run p (printed (changed cs es))) _ (asks_context_replaced run p (printed (changed cs es)) f) (λ u.
      asks_then P (let_go p) _ (asks_let_go p f.unlock) (λ u. asks_known (changed cs es)))))))

  -- the steps of a commit of the context
  pub asks_commit : (run : ℕ) (p : Place) (cs : List ChangeEntry) → Commits P p context_name → AsksOnly P (commit_context run p cs)
  unfolding AsksOnly commit_context
  asks_commit run p cs f = λ h. go (settled cs h.context)
    where
      go : (b : Bool) → AsksOnly P (commit_by run p cs b)
      go true = tt
      go false = asks_committed run p cs f
