-- A folder is begun by steps in it and in the mail directory.
use Rattle.std.proofs.Common.{◌≡◌, ◌⊎◌, inl, inr, ◌+◌, ◌-◌, ◌∷◌, ◌++◌, [], ℕ, zero, suc, max, List, Option, Some, None, Ok, refl}
use Rattle.mh_base.specs.Entries.{entry_text}
use Rattle.mh_base.specs.declared.entry.Entry.TheVariants.{Sequences}
use Rattle.mh_profile.specs.declared.named_value.NamedValue.{NamedValue}
use Rattle.mh_sequences.specs.Sequences.{Marked}
use Rattle.folder_files.specs.declared.place.Place.{Place}
use Rattle.folder_files.specs.declared.step.Step.{Step}
use Rattle.folder_files.specs.declared.step.Step.TheVariants as step
use Rattle.file_plans.specs.Asking.{link, list, lock, make_folder, read}
use Rattle.file_plans.specs.Framing.{AsksOnly}
use Rattle.file_plans.specs.Plan.{Return, ask, bind, lifted, ◌>>=◌}
use Rattle.file_plans.specs.declared.answers.Entered.{Entered}
use Rattle.file_plans.specs.declared.answers.Entered.TheVariants as entered
use Rattle.file_plans.specs.declared.answers.Listing.{Listing}
use Rattle.file_plans.specs.declared.answers.Listing.TheVariants as listing
use Rattle.file_plans.specs.declared.answers.Locking.{Locking}
use Rattle.file_plans.specs.declared.answers.Locking.TheVariants as locking
use Rattle.file_plans.specs.declared.answers.Reading.{Reading}
use Rattle.file_plans.specs.declared.answers.Reading.TheVariants as reading
use Rattle.file_plans.proofs.Framing.{asks_none, asks_then}
use Rattle.step_plans.specs.ContextCommit.{LIMIT_BYTES, context_name, context_read}
use Rattle.step_plans.specs.Hands.{known}
use Rattle.step_plans.specs.Locking.{cleared, lock_name}
use Rattle.step_plans.specs.PlanFaults.{Planned, of_stop}
use Rattle.step_plans.specs.Replacing.{synced}
use Rattle.step_plans.proofs.Asks.{Commits, asks_cleared, asks_context_read, asks_removed, asks_synced}
use Rattle.held_messages.specs.HeldPairs.{held_name, held_pairs, top_after}
use Rattle.held_messages.specs.Highest.{highest}
use Rattle.held_messages.specs.Settle.{Settled, all_homed, dropped, dropped_for_good, dropped_one, dropped_safely, given_at, given_from, given_up, homed, last_put, linked, names_by, put_back, settle, settled_by, synced_at}
use Rattle.held_messages.specs.declared.held.HeldPair.{HeldPair}
use Rattle.sequence_commits.specs.Cutting.{cut_to}
use Rattle.sequence_commits.proofs.AsksSequences.{asks_sequences}
use Rattle.opening_plans.specs.Existing.{numbers_settled}
use Rattle.opening_plans.specs.Opening.{begun, folder_locked, locked_begun, locked_by, mail_made, marks_cut, marks_read, sequences_read, settled_read, text_by}

-- the step is in one of these places; it isn't one of an outside file
abbrev pub IsIn : (Place → Type 0) → Step → Type 0
IsIn F (step.List p) = F p
IsIn F (step.Read p n limit) = F p
IsIn F (step.MakeFolder p) = F p
IsIn F (step.Create p n b) = F p
IsIn F (step.SyncFile p n) = F p
IsIn F (step.SyncFolder p) = F p
IsIn F (step.Link p n m) = F p
IsIn F (step.Rename p n m) = F p
IsIn F (step.Unlink p n) = F p
IsIn F (step.Lock p) = F p
IsIn F (step.Unlock p) = F p
IsIn F (step.ReadFile path limit) = ⊥
IsIn F (step.ReadDrop path from most) = ⊥
IsIn F (step.CutDrop path n) = ⊥

-- this place is one of the two
abbrev pub OneOf : Place → Place → Place → Type 0
OneOf p mail q = (q ≡ p) ⊎ (q ≡ mail)

module _ (P : Step → Type 0) where
  -- one step each
  asks_list : (p : Place) → P (step.List p) → AsksOnly P (lifted of_stop (list p))
  unfolding AsksOnly list ask bind ◌>>=◌ lifted
  asks_list p f = (f, λ a. tt)

  asks_link : (p : Place) (a b : List ℕ) → P (step.Link p a b) → AsksOnly P (lifted of_stop (link p a b))
  unfolding AsksOnly link ask bind ◌>>=◌ lifted
  asks_link p a b f = (f, λ x. tt)

  asks_lock : (p : Place) → P (step.Lock p) → AsksOnly P (lifted of_stop (lock p))
  unfolding AsksOnly lock ask bind ◌>>=◌ lifted
  asks_lock p f = (f, λ a. tt)

  pub asks_make : (p : Place) → P (step.MakeFolder p) → AsksOnly P (lifted of_stop (make_folder p))
  unfolding AsksOnly make_folder ask bind ◌>>=◌ lifted
  asks_make p f = (f, λ a. tt)

  asks_read : (p : Place) (n : List ℕ) (limit : ℕ) → P (step.Read p n limit) → AsksOnly P (lifted of_stop (read p n limit))
  unfolding AsksOnly read ask bind ◌>>=◌ lifted
  asks_read p n limit f = (f, λ a. tt)

  asks_known : (es : List NamedValue) → AsksOnly P (known es)
  unfolding AsksOnly known
  asks_known es = λ h. tt

  -- parts without a step
  asks_locked_by : (p : Place) (l : Locking) → AsksOnly P (locked_by p l)
  asks_locked_by p locking.Done = asks_none P _
  asks_locked_by p locking.Busy = asks_none P _
  asks_locked_by p locking.Gone = asks_none P _

  asks_text_by : (r : Reading) → AsksOnly P (text_by r)
  asks_text_by (reading.Content b) = asks_none P _
  asks_text_by (reading.Long l) = asks_none P _
  asks_text_by reading.Gone = asks_none P _

  asks_names_by : (p : Place) (l : Listing) → AsksOnly P (names_by p l)
  asks_names_by p (listing.Names ns) = asks_none P _
  asks_names_by p listing.Gone = asks_none P _

  -- what other runs hold aside is put back
  module _ (p : Place) (list_ : P (step.List p)) (link_ : (a b : List ℕ) → P (step.Link p a b)) (unlink_ : (a : List ℕ) → P (step.Unlink p a)) (sync_ : P (step.SyncFolder p)) where
    asks_given_at : (held : List ℕ) (n : ℕ) (e : Entered) (up : Planned (Option ℕ)) → AsksOnly P up → AsksOnly P (given_at p held n e up)
    asks_given_at held n entered.Done up f = asks_none P _
    asks_given_at held n entered.Exists up f = f
    asks_given_at held n entered.Gone up f = asks_none P _

    -- what is held aside is linked upward
    asks_given_up : (held : List ℕ) (n left : ℕ) → AsksOnly P (given_up p held n left)
    unfolding given_up
    asks_given_up held n zero = asks_none P _
    asks_given_up held n (suc left) =
        asks_then P (linked p held n) (λ e. given_at p held n e (given_up p held (n + 1) left)) (asks_link p held _ (link_ held _)) (λ e. asks_given_at held n e (given_up p held (n + 1) left) (asks_given_up held (n + 1) left))

    asks_given_from : (held : List ℕ) (n : ℕ) → AsksOnly P (given_from p held n)
    asks_given_from held n = asks_given_up held n (1000000 - n)

    -- it is linked to its number, or upward
    asks_homed : (h : HeldPair) (top : ℕ) → AsksOnly P (homed p h top)
    unfolding homed
    asks_homed h top =
        asks_then P (linked p (held_name h) h.number) (λ e. given_at p (held_name h) h.number e (given_from p (held_name h) (max h.number top + 1))) (asks_link p (held_name h) _ (link_ (held_name h) _))
        (λ e. asks_given_at (held_name h) h.number e (given_from p (held_name h) (max h.number top + 1)) (asks_given_from (held_name h) (max h.number top + 1)))

    asks_all_homed : (hs : List HeldPair) (top : ℕ) (before : List (Option ℕ)) → AsksOnly P (all_homed p hs top before)
    unfolding all_homed
    asks_all_homed [] top before = asks_none P _
    asks_all_homed (h ∷ hs) top before = asks_then P (homed p h top) (λ end. all_homed p hs (top_after end top) (before ++ end ∷ [])) (asks_homed h top) (λ end. asks_all_homed hs (top_after end top) (before ++ end ∷ []))

    -- and let go
    asks_dropped_one : (h : HeldPair) (end : Option ℕ) → AsksOnly P (dropped_one p h end)
    asks_dropped_one h None = asks_none P _
    asks_dropped_one h (Some m) = asks_removed P p (held_name h) (unlink_ (held_name h))

    asks_dropped : (hs : List HeldPair) (ends : List (Option ℕ)) → AsksOnly P (dropped p hs ends)
    unfolding dropped
    asks_dropped [] ends = asks_none P _
    asks_dropped (h ∷ hs) [] = asks_none P _
    asks_dropped (h ∷ hs) (end ∷ ends) = asks_then P (dropped_one p h end) (λ gone. dropped p hs ends) (asks_dropped_one h end) (λ gone. asks_dropped hs ends)

    asks_for_good : (hs : List HeldPair) (ends : List (Option ℕ)) (m : ℕ) → AsksOnly P (dropped_for_good p hs ends m)
    unfolding dropped_for_good
    asks_for_good hs ends m = asks_then P (dropped p hs ends) (λ gone. synced_at p m) (asks_dropped hs ends) (λ gone. asks_synced P p _ sync_)

    -- once it is safe
    asks_safely : (hs : List HeldPair) (ends : List (Option ℕ)) (m : ℕ) → AsksOnly P (dropped_safely p hs ends m)
    unfolding dropped_safely
    asks_safely hs ends m =
        asks_then P (synced_at p m) (λ safe. dropped_for_good p hs ends m >>= (λ gone. Return (Ok ends))) (asks_synced P p _ sync_)
        (λ safe. asks_then P (dropped_for_good p hs ends m) (λ gone. Return (Ok ends)) (asks_for_good hs ends m) (λ gone. asks_none P (Ok ends)))

    asks_settled_by : (hs : List HeldPair) (ends : List (Option ℕ)) (o : Option ℕ) → AsksOnly P (settled_by p hs ends o)
    asks_settled_by hs ends None = asks_none P _
    asks_settled_by hs ends (Some m) = asks_safely hs ends m

    asks_settle : (hs : List HeldPair) (top : ℕ) → AsksOnly P (settle p hs top)
    unfolding settle
    asks_settle hs top = asks_then P (all_homed p hs top []) (λ ends. settled_by p hs ends (last_put ends None)) (asks_all_homed hs top []) (λ ends. asks_settled_by hs ends (last_put ends None))

    -- all of it
    asks_put_back : (own : ℕ) → AsksOnly P (put_back own p)
    unfolding put_back
    asks_put_back own =
        asks_then P (lifted of_stop (list p)) _ (asks_list p list_) (λ l.
        asks_then P (names_by p l) _ (asks_names_by p l) (λ names.
        asks_then P (settle p (held_pairs own names) (highest names)) _ (asks_settle (held_pairs own names) (highest names)) (λ ends. asks_none P _)))

-- all steps that begin the folder
module _ (run : ℕ) (p mail : Place) (folder : List ℕ) where
  abbrev P : Step → Type 0
  P = IsIn (OneOf p mail)

  -- the commits of the folder's text and of the context
  of_text : Commits P p (entry_text Sequences)
  of_text = record { make = inl refl; lock = inl refl; list = inl refl; clear = λ t is. inl refl; read = inl refl; create = λ t b. inl refl; sync_file = λ t. inl refl; rename = λ t. inl refl; sync = inl refl; unlock = inl refl }

  of_context : Commits P mail context_name
  of_context = record { make = inr refl; lock = inr refl; list = inr refl; clear = λ t is. inr refl; read = inr refl; create = λ t b. inr refl; sync_file = λ t. inr refl; rename = λ t. inr refl; sync = inr refl; unlock = inr refl }

  -- the lock, the mail directory and the sequences
  asks_locked : AsksOnly P (folder_locked p)
  unfolding folder_locked
  asks_locked = asks_then P (lifted of_stop (lock p)) (locked_by p) (asks_lock P p (inl refl)) (λ l. asks_locked_by P p l)

  asks_mail : AsksOnly P (mail_made mail)
  unfolding mail_made
  asks_mail = asks_then P (lifted of_stop (make_folder mail)) (λ made. synced mail lock_name) (asks_make P mail (inr refl)) (λ made. asks_synced P mail lock_name (inr refl))

  asks_text : AsksOnly P (sequences_read p)
  unfolding sequences_read
  asks_text = asks_then P (lifted of_stop (read p (entry_text Sequences) LIMIT_BYTES)) text_by (asks_read P p (entry_text Sequences) LIMIT_BYTES (inl refl)) (λ r. asks_text_by P r)

  asks_marks : AsksOnly P (marks_read p mail folder)
  unfolding marks_read
  asks_marks =
      asks_then P (sequences_read p) _ asks_text (λ text.
      asks_then P (context_read mail) _ (asks_context_read P mail (inr refl)) (λ entries.
      asks_then P (known entries) _ (asks_known P entries) (λ seen. asks_none P _)))

  -- the commit of the cut
  asks_cut : (s : Settled) (marked : Marked) → AsksOnly P (marks_cut run p mail folder s marked)
  unfolding marks_cut
  asks_cut s marked = asks_then P _ _ (asks_sequences P run p mail of_text of_context folder marked (cut_to (numbers_settled run s) marked)) (λ cut. asks_none P _)

  asks_settled : (s : Settled) → AsksOnly P (settled_read run p mail folder s)
  unfolding settled_read
  asks_settled s =
      asks_then P (cleared p s.names) _ (asks_cleared P p s.names (λ temp is. inl refl)) (λ clear.
      asks_then P (marks_read p mail folder) _ asks_marks (λ marked. asks_cut s marked))

  asks_locked_begun : AsksOnly P (locked_begun run p mail folder)
  unfolding locked_begun
  asks_locked_begun =
      asks_then P (mail_made mail) _ asks_mail (λ made.
      asks_then P (put_back run p) _ (asks_put_back P p (inl refl) (λ a b. inl refl) (λ a. inl refl) (inl refl) run) (λ s. asks_settled s))

  -- the whole
  pub asks_begun : AsksOnly P (begun run p mail folder)
  unfolding begun
  asks_begun = asks_then P (folder_locked p) _ asks_locked (λ held. asks_locked_begun)
