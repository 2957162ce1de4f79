-- Which steps the begin of a folder asks for, whatever is answered.
use Rattle.std.proofs.Common.{◌≡◌, ◌+◌, ◌-◌, ◌==◌, ◌∷◌, ◌++◌, [], ℕ, zero, suc, Bool, true, false, max, List, Option, Some, None, refl}
use Rattle.std.specs.Prelude.{decimal, if◌then◌else◌}
use Rattle.mh_base.specs.Entries.{kind_of}
use Rattle.mh_base.specs.declared.entry.Entry.{Entry}
use Rattle.mh_base.specs.declared.entry.Entry.TheVariants.{Backup, Held, LockFile, Number, Other, Sequences, Temp}
use Rattle.mh_profile.specs.declared.named_value.NamedValue.{NamedValue}
use Rattle.mh_sequences.specs.Sequences.{Marked}
use Rattle.folder_files.specs.declared.place.Place.{Place}
use Rattle.folder_files.specs.declared.step.Step.{Step}
use Rattle.folder_files.specs.declared.step.Step.TheVariants as step
use Rattle.file_plans.specs.Asking.{link, list, lock, make_folder, read}
use Rattle.file_plans.specs.Framing.{AsksOnly}
use Rattle.file_plans.specs.Plan.{ask, bind, lifted, ◌>>=◌}
use Rattle.file_plans.specs.declared.answers.Entered.{Entered}
use Rattle.file_plans.specs.declared.answers.Entered.TheVariants as entered
use Rattle.file_plans.specs.declared.answers.Listing.{Listing}
use Rattle.file_plans.specs.declared.answers.Listing.TheVariants as listing
use Rattle.file_plans.specs.declared.answers.Locking.{Locking}
use Rattle.file_plans.specs.declared.answers.Locking.TheVariants as locking
use Rattle.file_plans.specs.declared.answers.Reading.{Reading}
use Rattle.file_plans.specs.declared.answers.Reading.TheVariants as reading
use Rattle.file_plans.proofs.Framing.{asks_lifted, asks_none, asks_then}
use Rattle.step_plans.specs.ContextCommit.{LIMIT_BYTES, context_name, context_read}
use Rattle.step_plans.specs.Hands.{known}
use Rattle.step_plans.specs.Locking.{cleared, lock_name}
use Rattle.step_plans.specs.PlanFaults.{Planned, of_stop}
use Rattle.step_plans.specs.Replacing.{synced}
use Rattle.step_plans.proofs.Asks.{Commits, asks_cleared, asks_context_read, asks_removed, asks_synced}
use Rattle.held_messages.specs.HeldPairs.{held_name, held_pairs, inserted, is_before, top_after, with_kind}
use Rattle.held_messages.specs.Highest.{highest}
use Rattle.held_messages.specs.Settle.{Settled, all_homed, dropped, dropped_for_good, dropped_one, dropped_safely, given_at, given_from, given_up, homed, last_put, linked, names_by, put_back, settle, settled_by}
use Rattle.held_messages.specs.declared.held.HeldPair.{HeldPair}
use Rattle.held_messages.proofs.ListedPairs.{ArePairs, IsPair, are_pairs, pairs_listed}
use Rattle.sequence_commits.specs.Committing.{changed_sequences}
use Rattle.sequence_commits.specs.Cutting.{cut_to}
use Rattle.sequence_commits.proofs.AsksSequences.{asks_sequences}
use Rattle.sequence_commits.proofs.SequencesPledged.{sequences_name}
use Rattle.opening_plans.specs.Existing.{numbers_settled}
use Rattle.opening_plans.specs.Making.{made_begun, once_made}
use Rattle.opening_plans.specs.Opening.{begun, folder_locked, locked_begun, locked_by, mail_made, marks_cut, marks_read, sequences_read, settled_read, text_by}

-- another run holds the message aside
abbrev pub IsOthers : ℕ → HeldPair → Type 0
IsOthers run h = (h.run == run) ≡ false

abbrev AllOthers : ℕ → List HeldPair → Type 0
AllOthers run [] = Unit {0}
AllOthers run (h ∷ hs) = IsOthers run h × AllOthers run hs

others_inserted : (run : ℕ) (h : HeldPair) (hs : List HeldPair) → IsOthers run h → AllOthers run hs → AllOthers run (inserted h hs)
unfolding inserted
others_inserted run h [] one all = (one, tt)
others_inserted run h (k ∷ ks) one all = go (is_before h k) (is_before k h) (others_inserted run h ks one all.1)
  where
    go : (u v : Bool) → AllOthers run (inserted h ks) → AllOthers run (if u then h ∷ (k ∷ ks) else (if v then k ∷ inserted h ks else k ∷ ks))
    go true v more = (one, all)
    go false true more = (all.0, more)
    go false false more = all

others_kind : (run : ℕ) (e : Entry) (hs : List HeldPair) → AllOthers run hs → AllOthers run (with_kind run e hs)
others_kind run (Held r n) hs all = go (r == run) refl
  where
    go : (b : Bool) → (r == run) ≡ b → AllOthers run (if b then hs else inserted (record { run = r; number = n }) hs)
    go true e = all
    go false e = others_inserted run (record { run = r; number = n }) hs e all
others_kind run (Number n) hs all = all
others_kind run (Backup n) hs all = all
others_kind run (Temp r k) hs all = all
others_kind run Sequences hs all = all
others_kind run LockFile hs all = all
others_kind run Other hs all = all

-- what a run finds held aside is others'
others_pairs : (run : ℕ) (names : List (List ℕ)) → AllOthers run (held_pairs run names)
unfolding held_pairs
others_pairs run [] = tt
others_pairs run (x ∷ names) = others_kind run (kind_of x) (held_pairs run names) (others_pairs run names)

-- where such steps of the begin of a folder are free, up to the commit of its sequences: those of a commit of its text, but only some of the mail
-- directory; links of what others hold aside; and unlinks
pub record Opens (P : Step → Type 0) (run : ℕ) (p mail : Place) : Type 0 where
  pub text : Commits P p sequences_name
  pub make_mail : P (step.MakeFolder mail)
  pub sync_mail : P (step.SyncFolder mail)
  pub read_context : P (step.Read mail context_name LIMIT_BYTES)
  pub give : (h : HeldPair) (number : List ℕ) → IsPair h → IsOthers run h → P (step.Link p (held_name h) number)
  pub drop : (name : List ℕ) → P (step.Unlink p name)

-- and where all of them are: also those of a commit of the context
pub record Begins (P : Step → Type 0) (run : ℕ) (p mail : Place) : Type 0 where
  pub text : Commits P p sequences_name
  pub context : Commits P mail context_name
  pub give : (h : HeldPair) (number : List ℕ) → IsPair h → IsOthers run h → P (step.Link p (held_name h) number)
  pub drop : (name : List ℕ) → P (step.Unlink p name)

opens_of : (P : Step → Type 0) (run : ℕ) (p mail : Place) → Begins P run p mail → Opens P run p mail
opens_of P run p mail free = record { text = free.text; make_mail = free.context.make; sync_mail = free.context.sync; read_context = free.context.read; give = free.give; drop = free.drop }

module _ (P : Step → Type 0) (run : ℕ) (p mail : Place) (free : Opens P run p mail) where
  -- what others hold aside is put back
  module _ (h : HeldPair) (pair : IsPair h) (others : IsOthers run h) where
    abbrev held : List ℕ
    held = held_name h

    asks_linked : (n : ℕ) → AsksOnly P (linked p held n)
    unfolding AsksOnly link ask bind ◌>>=◌ lifted
    asks_linked n = (free.give h (decimal n) pair others, λ a. tt)

    asks_given_at : (n : ℕ) (e : Entered) (up : Planned (Option ℕ)) → AsksOnly P up → AsksOnly P (given_at p held n e up)
    asks_given_at n entered.Done up f = asks_none P _
    asks_given_at n entered.Exists up f = f
    asks_given_at n entered.Gone up f = asks_none P _

    asks_given_up : (left n : ℕ) → AsksOnly P (given_up p held n left)
    unfolding given_up
    asks_given_up zero n = asks_none P _
    asks_given_up (suc left) n =
        asks_then P (linked p held n) (λ e. given_at p held n e (given_up p held (n + 1) left)) (asks_linked n) (λ e. asks_given_at n e (given_up p held (n + 1) left) (asks_given_up left (n + 1)))

    asks_homed : (top : ℕ) → AsksOnly P (homed p h top)
    unfolding homed
    asks_homed top =
        asks_then P (linked p held h.number) (λ e. given_at p held h.number e (given_from p held (max h.number top + 1))) (asks_linked h.number)
        (λ e. asks_given_at h.number e (given_from p held (max h.number top + 1)) (asks_given_up (1000000 - (max h.number top + 1)) (max h.number top + 1)))

  asks_all_homed : (hs : List HeldPair) → ArePairs hs → AllOthers run hs → (top : ℕ) (before : List (Option ℕ)) → AsksOnly P (all_homed p hs top before)
  unfolding all_homed
  asks_all_homed [] pairs all top before = asks_none P _
  asks_all_homed (h ∷ hs) pairs all top before = asks_then P (homed p h top) (λ end. all_homed p hs (top_after end top) (before ++ end ∷ [])) (asks_homed h pairs.0 all.0 top) (λ end. asks_all_homed hs pairs.1 all.1 (top_after end top) (before ++ end ∷ []))

  asks_dropped_one : (h : HeldPair) (end : Option ℕ) → AsksOnly P (dropped_one p h end)
  asks_dropped_one h None = asks_none P _
  asks_dropped_one h (Some m) = asks_removed P p (held_name h) (free.drop (held_name h))

  asks_dropped : (hs : List HeldPair) (ends : List (Option ℕ)) → AsksOnly P (dropped p hs ends)
  unfolding dropped
  asks_dropped [] ends = asks_none P _
  asks_dropped (h ∷ hs) [] = asks_none P _
  asks_dropped (h ∷ hs) (end ∷ ends) = asks_then P (dropped_one p h end) (λ gone. dropped p hs ends) (asks_dropped_one h end) (λ gone. asks_dropped hs ends)

  asks_settled_by : (hs : List HeldPair) (ends : List (Option ℕ)) (put : Option ℕ) → AsksOnly P (settled_by p hs ends put)
  unfolding dropped_safely dropped_for_good
  asks_settled_by hs ends None = asks_none P _
  asks_settled_by hs ends (Some m) =
      asks_then P (synced p (decimal m)) _ (asks_synced P p (decimal m) free.text.sync) (λ safe.
      asks_then P (dropped_for_good p hs ends m) _
      (asks_then P (dropped p hs ends) _ (asks_dropped hs ends) (λ gone. asks_synced P p (decimal m) free.text.sync)) (λ gone. asks_none P _))

  asks_settle : (hs : List HeldPair) → ArePairs hs → AllOthers run hs → (top : ℕ) → AsksOnly P (settle p hs top)
  unfolding settle
  asks_settle hs pairs all top = asks_then P (all_homed p hs top []) (λ ends. settled_by p hs ends (last_put ends None)) (asks_all_homed hs pairs all top []) (λ ends. asks_settled_by hs ends (last_put ends None))

  asks_one_listed : AsksOnly P (lifted of_stop (list p))
  unfolding AsksOnly list ask bind ◌>>=◌ lifted
  asks_one_listed = (free.text.list, λ a. tt)

  asks_names : (l : Listing) → AsksOnly P (names_by p l)
  asks_names (listing.Names names) = asks_none P _
  asks_names listing.Gone = asks_none P _

  pub asks_back : AsksOnly P (put_back run p)
  unfolding put_back
  asks_back =
      asks_then P (lifted of_stop (list p)) _ asks_one_listed (λ l.
      asks_then P (names_by p l) _ (asks_names l) (λ names.
      asks_then P (settle p (held_pairs run names) (highest names)) _ (asks_settle (held_pairs run names) (are_pairs names (held_pairs run names) (pairs_listed run names)) (others_pairs run names) (highest names)) (λ ends. asks_none P _)))

  -- the lock, and the mail directory
  asks_one_locked : AsksOnly P (lifted of_stop (lock p))
  unfolding AsksOnly lock ask bind ◌>>=◌ lifted
  asks_one_locked = (free.text.lock, λ a. tt)

  asks_by_lock : (l : Locking) → AsksOnly P (locked_by p l)
  asks_by_lock locking.Done = asks_none P _
  asks_by_lock locking.Busy = asks_none P _
  asks_by_lock locking.Gone = asks_none P _

  pub asks_lock : AsksOnly P (folder_locked p)
  unfolding folder_locked
  asks_lock = asks_then P (lifted of_stop (lock p)) (locked_by p) asks_one_locked asks_by_lock

  pub asks_one_made : (q : Place) → P (step.MakeFolder q) → AsksOnly P (lifted of_stop (make_folder q))
  unfolding AsksOnly make_folder ask bind ◌>>=◌ lifted
  asks_one_made q f = (f, λ a. tt)

  pub asks_mail : AsksOnly P (mail_made mail)
  unfolding mail_made
  asks_mail = asks_then P (lifted of_stop (make_folder mail)) (λ made. synced mail lock_name) (asks_one_made mail free.make_mail) (λ made. asks_synced P mail lock_name free.sync_mail)

  -- the sequences
  asks_one_read : AsksOnly P (lifted of_stop (read p sequences_name LIMIT_BYTES))
  unfolding AsksOnly read ask bind ◌>>=◌ lifted
  asks_one_read = (free.text.read, λ a. tt)

  asks_text : (r : Reading) → AsksOnly P (text_by r)
  asks_text (reading.Content bytes) = asks_none P _
  asks_text (reading.Long l) = asks_none P _
  asks_text reading.Gone = asks_none P _

  asks_known : (es : List NamedValue) → AsksOnly P (known es)
  unfolding AsksOnly known
  asks_known es = λ h. tt

  pub asks_text_read : AsksOnly P (sequences_read p)
  unfolding sequences_read
  asks_text_read = asks_then P (lifted of_stop (read p sequences_name LIMIT_BYTES)) text_by asks_one_read asks_text

  pub asks_marks : (folder : List ℕ) → AsksOnly P (marks_read p mail folder)
  unfolding marks_read sequences_read
  asks_marks folder =
      asks_then P (sequences_read p) _ asks_text_read (λ text.
      asks_then P (context_read mail) _ (asks_context_read P mail free.read_context) (λ entries. asks_then P (known entries) _ (asks_known entries) (λ seen. asks_none P _)))

module _ (P : Step → Type 0) (run : ℕ) (p mail : Place) (free : Begins P run p mail) where
  asks_cut : (folder : List ℕ) (s : Settled) (m : Marked) → AsksOnly P (marks_cut run p mail folder s m)
  unfolding marks_cut
  asks_cut folder s m =
      asks_then P (changed_sequences run p mail folder m (cut_to (numbers_settled run s) m)) _ (asks_sequences P run p mail free.text free.context folder m (cut_to (numbers_settled run s) m)) (λ cut. asks_none P _)

  -- a folder is begun
  pub asks_begun : (folder : List ℕ) → AsksOnly P (begun run p mail folder)
  unfolding begun locked_begun settled_read
  asks_begun folder =
      asks_then P (folder_locked p) _ (asks_lock P run p mail (opens_of P run p mail free)) (λ held.
      asks_then P (mail_made mail) _ (asks_mail P run p mail (opens_of P run p mail free)) (λ made.
      asks_then P (put_back run p) _ (asks_back P run p mail (opens_of P run p mail free)) (λ s.
      asks_then P (cleared p s.names) _ (asks_cleared P p s.names (λ temp is. free.drop temp)) (λ clear. asks_then P (marks_read p mail folder) _ (asks_marks P run p mail (opens_of P run p mail free) folder) (λ m. asks_cut folder s m)))))

  -- one that the run makes where it is missing
  pub asks_made_begun : (folder : List ℕ) → AsksOnly P (made_begun run p mail folder)
  unfolding made_begun
  asks_made_begun folder = asks_then P (lifted of_stop (make_folder p)) _ (asks_one_made P run p mail (opens_of P run p mail free) p free.text.make) (λ made. asks_lifted P once_made (begun run p mail folder) (asks_begun folder))
