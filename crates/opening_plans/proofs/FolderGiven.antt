-- What beginning a folder makes of contents, alone and beside others.
use Rattle.std.proofs.Common.{◌≡◌, ◌⊎◌, inl, inr, ◌<◌, ◌^◌, ℕ, Bool, true, false, List, Option, Some, None, Result, Ok, Err, refl, sym, ◌∙◌, ap, subst, ◌||◌, length}
use Rattle.std.specs.Prelude.{is_some, nat_lt, if◌then◌else◌}
use Rattle.mh_base.specs.Entries.{kind_of}
use Rattle.mh_profile.specs.declared.named_value.NamedValue.{NamedValue}
use Rattle.mh_sequences.specs.Printing.{private_entries, text_of}
use Rattle.mh_sequences.specs.Reading.{suffix}
use Rattle.mh_sequences.specs.Sequences.{Marked}
use Rattle.folder_files.specs.Named.{is_held, is_temp}
use Rattle.folder_files.specs.Places.{is_parent, same_place}
use Rattle.folder_files.specs.Steps.{has_text, there_answer, read_file_answer}
use Rattle.folder_files.specs.declared.place.Place.{Place}
use Rattle.folder_files.specs.declared.place.Place.TheVariants.{Folder, Mail}
use Rattle.folder_files.specs.declared.step.Step.TheVariants as step
use Rattle.folder_files.specs.declared.step.Answer.{Answer}
use Rattle.folder_files.specs.declared.step.Answer.TheVariants as answer
use Rattle.folder_files.proofs.Names.{is_temp_quiet, not_both, or_last}
use Rattle.folder_files.proofs.Sameness.{place_is}
use Rattle.file_plans.specs.Contents.{Contents, IsListingIn, filled, with_folder}
use Rattle.file_plans.specs.Giving.{Gives}
use Rattle.file_plans.specs.Plan.{Hand, Return, bind, ◌>>=◌}
use Rattle.file_plans.specs.Views.{Unseen, View, view_after, by_view}
use Rattle.file_plans.proofs.Clearing.{cleared_in, cleared_temps, without_temps}
use Rattle.file_plans.proofs.Giving.{gives_more, gives_on}
use Rattle.file_plans.proofs.Onward.{Is, IsShort, content_is, fits_at, gone_is, not_gone_there, onward}
use Rattle.file_plans.proofs.Viewing.{lock_view, make_folder_view, read_view, sync_folder_view}
use Rattle.step_plans.specs.ContextCommit.{LIMIT_BYTES, context_name, context_read, says, settled}
use Rattle.step_plans.specs.Hands.{known, temp_name, used}
use Rattle.step_plans.specs.Locking.{cleared, lock_name}
use Rattle.step_plans.specs.PlanFaults.{of_stop, Planned}
use Rattle.step_plans.specs.Replacing.{held_to, synced}
use Rattle.step_plans.specs.declared.fault.PlanFault.{PlanFault}
use Rattle.step_plans.specs.declared.fault.PlanFault.TheVariants as fault
use Rattle.step_plans.proofs.Cleared.{cleared_gives}
use Rattle.step_plans.proofs.Committed.{CommitFails, Knows, ReadEnds, ReadFails, entries_at, read_gives, IsTooLong, opened}
use Rattle.step_plans.proofs.Named.{temp_is}
use Rattle.step_plans.proofs.Replaced.{Fails, Leaves, Left, left_as}
use Rattle.held_messages.specs.HeldPairs.{held_pairs, homes, numbers_in}
use Rattle.held_messages.specs.Highest.{highest}
use Rattle.held_messages.specs.Settle.{Settled, linked_in, put_back, settled_in}
use Rattle.held_messages.proofs.Homecoming.{AreEnds, dropped_place, linked_place}
use Rattle.held_messages.proofs.Linking.{Has}
use Rattle.held_messages.proofs.ListedPairs.{are_pairs, pairs_listed}
use Rattle.held_messages.proofs.Restored.{IsRestored, Misses, Restores, put_back_gives}
use Rattle.held_messages.proofs.Telling.{TellsHeld, plain_settled, taken_in}
use Rattle.sequence_commits.specs.Committing.{cut_committed}
use Rattle.sequence_commits.specs.Cutting.{cut_to}
use Rattle.sequence_commits.specs.Reading.{sequences_in}
use Rattle.sequence_commits.specs.Telling.{same_told}
use Rattle.sequence_commits.proofs.SequencesGiven.{TextFails, ToldEnds, Unchanged, changed_gives, with_sequences, changes_by}
use Rattle.sequence_commits.proofs.SequencesPledged.{sequences_name}
use Rattle.opening_plans.specs.Existing.{numbers_settled}
use Rattle.opening_plans.specs.Opening.{Opened, begun, folder_locked, locked_begun, locked_by, mail_made, marks_cut, marks_read, opened_of, sequences_read, settled_read, text_by}
use Rattle.mh_sequences.specs.declared.run.Run.{Run}
use Rattle.sequence_commits.specs.PrivateChanges.{private_changes, changes_to}
use Rattle.mh_profile.specs.Reading.{entries_seen}

-- a part of it ends early alone only where the run has no number left for a name; that the folder isn't there, and that a text is too long, is
-- said below
abbrev pub BeginFails : Bool → Contents → Place → PlanFault → Type 0
BeginFails alone c p fault.Faulted = ⊥
BeginFails alone c p (fault.Locked q) = alone ≡ true → ⊥
BeginFails alone c p (fault.Meddled q n) = alone ≡ true → ⊥
BeginFails alone c p fault.Full = ⊥
BeginFails alone c p (fault.Absent q) = alone ≡ true → ⊥
BeginFails alone c p (fault.TooLarge l) = ⊥
BeginFails alone c p fault.Memory = Unit {0}

-- as long as nothing was looked at in the folder: these are the contents, and this the hand
pub record IsUntouched (ns : List ℕ) (p : Place) (c : Contents) (h : Hand) (z : View) (j : Hand) : Type 0 where
  pub has : Has ns z c
  pub fresh : (x : List ℕ) → z.seen.names p x ≡ Unseen
  pub unmet : (x : List ℕ) → is_held (kind_of x) ≡ true → z.met p x ≡ false
  pub hand : j ≡ h

not_gone_here : (b : Bool) → answer.Gone ≡ there_answer b → b ≡ false
not_gone_here true e = cc (e)
not_gone_here false e = refl

done_here : (b : Bool) → answer.Done ≡ there_answer b → b ≡ true
done_here true e = refl
done_here false e = cc (e)

not_busy_here : (b : Bool) → answer.Busy ≡ there_answer b → ⊥
not_busy_here true e = cc (e)
not_busy_here false e = cc (e)

some_same : {A : Type 0} {a b : A} → Some a ≡ Some b → a ≡ b
some_same e = cc (e)

-- a text that is too long was read
pub record IsLongText (o : Option (List ℕ)) (l : ℕ) : Type 0 where
  pub text : List ℕ
  pub there : o ≡ Some text
  pub long : nat_lt LIMIT_BYTES (length text) ≡ true
  pub is : l ≡ length text

long_is : (o : Option (List ℕ)) (l : ℕ) → answer.Long l ≡ read_file_answer LIMIT_BYTES o → IsLongText o l
long_is None l e = absurd (cc (e))
long_is (Some text) l e = go (nat_lt LIMIT_BYTES (length text)) refl e
  where
    go : (v : Bool) → nat_lt LIMIT_BYTES (length text) ≡ v → answer.Long l ≡ (if v then answer.Long (length text) else answer.Content text) → IsLongText (Some text) l
    go true f e = record { text = text; there = refl; long = f; is = cc (e) }
    go false f e = absurd (cc (e))

-- a text that was read whole, or that is not there, is not too long
read_short : (o : Option (List ℕ)) (a : Answer) → ((l : ℕ) → a ≡ answer.Long l → ⊥) → a ≡ read_file_answer LIMIT_BYTES o → IsShort LIMIT_BYTES o
read_short None a whole e = tt
read_short (Some text) a whole e = go (nat_lt LIMIT_BYTES (length text)) e
  where
    go : (v : Bool) → a ≡ (if v then answer.Long (length text) else answer.Content text) → v ≡ false
    go true e = absurd (whole (length text) e)
    go false e = refl

-- which text was too long, in a folder with these contents: that of its sequences; the context; what the cut makes of the one; or of the
-- other, by the entries that were read
pub data IsLongBy (p mail : Place) (folder : List ℕ) (listing : List Run) (d : Contents) (old : Marked) (l : ℕ) (z : Contents) : Type 0 where
  old_text : IsLongText (d.texts p sequences_name) l → z ≡ d → IsLongBy p mail folder listing d old l z
  old_context : IsLongText (d.texts mail context_name) l → z ≡ d → IsLongBy p mail folder listing d old l z
  new_text : IsShort LIMIT_BYTES (d.texts p sequences_name) → same_told folder old (cut_to listing old) ≡ false → nat_lt LIMIT_BYTES (length (text_of (cut_to listing old))) ≡ true → l ≡ length (text_of (cut_to listing old)) → z ≡ d
      → IsLongBy p mail folder listing d old l z
  new_context : IsShort LIMIT_BYTES (d.texts p sequences_name) → same_told folder old (cut_to listing old) ≡ false → nat_lt LIMIT_BYTES (length (text_of (cut_to listing old))) ≡ false
      → says (entries_at d mail) (private_changes folder (cut_to listing old).users (entries_at d mail)) ≡ false
      → IsTooLong (with_sequences d p (text_of (cut_to listing old))) mail (private_changes folder (cut_to listing old).users (entries_at d mail)) l → z ≡ opened (with_sequences d p (text_of (cut_to listing old))) mail
      → IsLongBy p mail folder listing d old l z

module _ (alone : Bool) (ns : List ℕ) (run : ℕ) (few : run < 2 ^ 128) (path folder : List ℕ) (c : Contents) where
  abbrev p : Place
  p = Folder path folder

  abbrev mail : Place
  mail = Mail path

  is_so : (z : View) (d : Contents) → Has ns z d → Is alone ns z d
  is_so z d has = ((λ e. has.0), has.1)

  -- the mail directory is there then
  abbrev made : Contents
  made = with_folder c mail

  mail_there : made.there mail ≡ true
  mail_there = rw (place_is mail) refl

  made_there : (alone ≡ true → c.there p ≡ true) → alone ≡ true → made.there p ≡ true
  made_there there e = or_last (same_place mail p || is_parent p mail) (c.there p) (there e)

  misses : (alone ≡ true → c.there p ≡ true) → (e : PlanFault) → Misses alone p made e → BeginFails alone c p e
  misses there fault.Faulted f = f
  misses there (fault.Locked q) f = absurd f
  misses there (fault.Meddled q n) f = f
  misses there fault.Full f = f
  misses there (fault.Absent q) f = λ e. absurd (not_both (made.there p) (made_there there e) (f e))
  misses there (fault.TooLarge l) f = f
  misses there fault.Memory f = tt

  -- what is held aside was put back, and the folder is without temporary names
  abbrev pub settled_contents : Settled → Contents
  settled_contents s = settled_in made p (held_pairs run s.names) s.ends

  abbrev pub begun_contents : Settled → Contents
  begun_contents s = without_temps (settled_contents s) p

  -- the folder's sequences, by these contents
  abbrev pub sequences_of : Settled → Marked
  sequences_of s = sequences_in (filled ((begun_contents s).texts p sequences_name)) (entries_at (begun_contents s) mail) folder

  -- how the cut ended: nothing was changed, or it was committed
  abbrev pub CutEnds : Settled → List ℕ → Marked → Marked → Hand → View → Hand → List ℕ → Result Unit PlanFault → Type 0
  CutEnds s later old new h z j left r =
      ((same_told folder old new ≡ true) × Unchanged alone later (begun_contents s) h z j r)
      ⊎ ((same_told folder old new ≡ false) × ToldEnds alone later (begun_contents s) p mail (suffix folder) (text_of new) (private_entries (suffix folder) new.users) h z j left r)

  -- a folder that was begun
  pub record IsBegunIn (z : View) (j : Hand) (left : List ℕ) (o : Opened) : Type 0 where
    pub there : alone ≡ true → c.there p ≡ true
    pub settled : Settled
    pub listing : alone ≡ true → IsListingIn made p settled.names
    pub holds : TellsHeld made p settled.names
    pub ends_so : AreEnds (held_pairs run settled.names) settled.ends
    pub homes_so : alone ≡ true → settled.ends ≡ homes (taken_in made p) (highest settled.names) (held_pairs run settled.names)
    pub old : Marked
    pub is : o ≡ opened_of p folder (numbers_settled run settled) (cut_to (numbers_settled run settled) old) settled.ends
    pub later : List ℕ
    pub numbers : ns ≡ numbers_in settled.ends later
    pub same : alone ≡ true → old ≡ sequences_of settled
    pub short : alone ≡ true → IsShort LIMIT_BYTES ((begun_contents settled).texts p sequences_name)
    pub hand : Hand
    pub entries : List NamedValue
    pub seen : hand.context ≡ Some entries
    pub knows : alone ≡ true → entries ≡ entries_at (begun_contents settled) mail
    pub cut : CutEnds settled later old (cut_to (numbers_settled run settled) old) hand z j left (Ok tt)

  -- alone a text was too long
  pub record IsLongIn (l : ℕ) (z : Contents) : Type 0 where
    pub there : c.there p ≡ true
    pub settled : Settled
    pub listing : IsListingIn made p settled.names
    pub holds : TellsHeld made p settled.names
    pub ends_so : AreEnds (held_pairs run settled.names) settled.ends
    pub homes_so : settled.ends ≡ homes (taken_in made p) (highest settled.names) (held_pairs run settled.names)
    pub long : IsLongBy p mail folder (numbers_settled run settled) (begun_contents settled) (sequences_of settled) l z

  abbrev pub BeginErrs : View → PlanFault → Type 0
  BeginErrs z fault.Faulted = ⊥
  BeginErrs z (fault.Locked q) = alone ≡ true → ⊥
  BeginErrs z (fault.Meddled q n) = alone ≡ true → ⊥
  BeginErrs z fault.Full = ⊥
  BeginErrs z (fault.Absent q) = alone ≡ true → (c.there p ≡ false) × (z.contents ≡ c)
  BeginErrs z (fault.TooLarge l) = alone ≡ true → IsLongIn l z.contents
  BeginErrs z fault.Memory = Unit {0}

  errs : (z : View) (e : PlanFault) → BeginFails alone c p e → BeginErrs z e
  errs z fault.Faulted f = f
  errs z (fault.Locked q) f = f
  errs z (fault.Meddled q n) f = f
  errs z fault.Full f = f
  errs z (fault.Absent q) f = λ e. absurd (f e)
  errs z (fault.TooLarge l) f = absurd f
  errs z fault.Memory f = f

  abbrev Untouches : {A : Type 0} → Contents → Hand → View → Hand → List ℕ → Result A PlanFault → Type 0
  Untouches d h z j left (Ok u) = IsUntouched ns p d h z j × (alone ≡ true → c.there p ≡ true)
  Untouches d h z j left (Err e) = BeginErrs z e

  -- the folder's lock
  lock_gives : (v : View) (h : Hand) (text : List ℕ) → IsUntouched ns p c h v h → Gives (by_view alone) v h text (folder_locked p) (Untouches c h)
  unfolding Gives folder_locked
  lock_gives v h text u =
      lock_view alone v of_stop h text (Untouches c h) p (locked_by p)
      (λ f. (record { has = u.has; fresh = u.fresh; unmet = u.unmet; hand = refl }, λ e. done_here (c.there p) (fits_at alone ns v c (step.Lock p) answer.Done (is_so v c u.has) f e)))
      (λ f e. not_busy_here (c.there p) (fits_at alone ns v c (step.Lock p) answer.Busy (is_so v c u.has) f e))
      (λ f e. (not_gone_here (c.there p) (fits_at alone ns v c (step.Lock p) answer.Gone (is_so v c u.has) f e), u.has.0))

  mail_gives : (v : View) (h : Hand) (text : List ℕ) → IsUntouched ns p c h v h → (alone ≡ true → c.there p ≡ true) → Gives (by_view alone) v h text (mail_made mail) (Untouches made h)
  unfolding Gives mail_made synced
  mail_gives v h text u there =
      make_folder_view alone v of_stop h text (Untouches made h) mail (λ m. synced mail lock_name)
      (λ f. safe answer.Done) (λ f. safe answer.Exists)
    where
      safe : (a : Answer) → Gives (by_view alone) (view_after v (step.MakeFolder mail) a) h text (synced mail lock_name) (Untouches made h)
      safe a =
          let z = view_after v (step.MakeFolder mail) a in
          let has : Has ns z made = (ap (λ d. with_folder d mail) u.has.0, u.has.1) in
          sync_folder_view alone z of_stop h text (Untouches made h) mail (held_to mail lock_name)
          (λ f. (record { has = has; fresh = u.fresh; unmet = u.unmet; hand = refl }, there))
          (λ f e. not_gone_there (made.there mail) mail_there (fits_at alone ns z made (step.SyncFolder mail) answer.Gone (is_so z made has) f e))

  abbrev pub BeginEnds : View → Hand → List ℕ → Result Opened PlanFault → Type 0
  BeginEnds z j left (Ok o) = IsBegunIn z j left o
  BeginEnds z j left (Err e) = BeginErrs z e

  module _ (there : alone ≡ true → c.there p ≡ true) (s : Settled) (y : View) (back : IsRestored alone run p made ns s y) where
    abbrev later : List ℕ
    later = y.numbers

    abbrev d : Contents
    d = begun_contents s

    there_still : alone ≡ true → d.there p ≡ true
    there_still e = ap (λ t. t p) (dropped_place (linked_in made p (held_pairs run s.names) s.ends) p (held_pairs run s.names) s.ends ∙ linked_place made p (held_pairs run s.names) s.ends) ∙ made_there there e

    temp_same : (x : List ℕ) → is_temp (kind_of x) ≡ true → (settled_contents s).texts p x ≡ made.texts p x
    temp_same x t = plain_settled made p (held_pairs run s.names) s.ends x (are_pairs s.names (held_pairs run s.names) (pairs_listed run s.names)) back.ends_so (is_temp_quiet x t)

    listed_temps : alone ≡ true → (x : List ℕ) → is_temp (kind_of x) ≡ true → has_text x s.names ≡ is_some ((settled_contents s).texts p x)
    listed_temps e x t = (back.listing e).all x ∙ ap is_some (sym (temp_same x t))

    -- a temporary name of the folder leads to nothing
    no_temp : (x : List ℕ) → is_temp (kind_of x) ≡ true → d.texts p x ≡ None
    no_temp x t = rw (place_is p, t) refl

    fails : (i : Hand) (e : PlanFault) → Fails alone i e → BeginFails alone c p e
    fails i fault.Faulted f = f
    fails i (fault.Locked q) f = f
    fails i (fault.Meddled q n) f = f
    fails i fault.Full f = f
    fails i (fault.Absent q) f = absurd f
    fails i (fault.TooLarge l) f = f
    fails i fault.Memory f = tt

    -- the temporary names are cleared
    abbrev Clears : Hand → View → Hand → List ℕ → Result Unit PlanFault → Type 0
    Clears i z j left (Ok u) = Left alone later d i z j
    Clears i z j left (Err e) = BeginFails alone c p e

    clears : (i : Hand) (z : View) (j : Hand) (left : List ℕ) (r : Result Unit PlanFault) → Leaves alone later (cleared_in (settled_contents s) p s.names) i (Fails alone i) z j left r → Clears i z j left r
    clears i z j left (Ok u) f = left_as alone later (cleared_in (settled_contents s) p s.names) d i z j (λ e. cleared_temps (settled_contents s) p s.names (listed_temps e)) f
    clears i z j left (Err e) f = fails i e f

    -- a text was too long, in these contents
    is_long : (l : ℕ) (z : Contents) → alone ≡ true → IsLongBy p mail folder (numbers_settled run s) d (sequences_of s) l z → IsLongIn l z
    is_long l z a long = record { there = there a; settled = s; listing = back.listing a; holds = back.holds; ends_so = back.ends_so; homes_so = back.homes a; long = long }

    clear_gives : (i : Hand) (text : List ℕ) → Gives (by_view alone) y i text (cleared p s.names) (Clears i)
    clear_gives i text =
        gives_more (by_view alone) y i text (cleared p s.names) (Leaves alone later (cleared_in (settled_contents s) p s.names) i (Fails alone i)) (Clears i)
        (cleared_gives alone later p i s.names y (settled_contents s) i text ((λ e. back.contents), refl) (λ e. ((back.listing e).ascending, λ x f t. sym (listed_temps e x t) ∙ f)))
        (clears i)

    -- the sequences are read
    record ReadsText (h : Hand) (z : View) (j : Hand) (text : List ℕ) : Type 0 where
      left : Left alone later d h z j
      same : alone ≡ true → text ≡ filled (d.texts p sequences_name)
      short : alone ≡ true → IsShort LIMIT_BYTES (d.texts p sequences_name)

    abbrev TextReads : Hand → View → Hand → List ℕ → Result (List ℕ) PlanFault → Type 0
    TextReads h z j left (Ok text) = ReadsText h z j text
    TextReads h z j left (Err e) = BeginErrs z e

    text_gives : (v : View) (h : Hand) (out : List ℕ) → Is alone later v d → Gives (by_view alone) v h out (sequences_read p) (TextReads h)
    unfolding Gives sequences_read
    text_gives v h out is =
        read_view alone v of_stop h out (TextReads h) p sequences_name LIMIT_BYTES text_by
        (λ bytes f. record {
          left = record { is = onward alone later v d (step.Read p sequences_name LIMIT_BYTES) (answer.Content bytes) is refl; hand = refl };
          same = λ e. content_is LIMIT_BYTES (d.texts p sequences_name) bytes (fits_at alone later v d (step.Read p sequences_name LIMIT_BYTES) (answer.Content bytes) is f e);
          short = λ e. read_short (d.texts p sequences_name) (answer.Content bytes) (λ l no. cc (no)) (fits_at alone later v d (step.Read p sequences_name LIMIT_BYTES) (answer.Content bytes) is f e);
        })
        (λ l f. λ e. is_long l v.contents e (old_text (long_is (d.texts p sequences_name) l (fits_at alone later v d (step.Read p sequences_name LIMIT_BYTES) (answer.Long l) is f e)) (is.0 e)))
        (λ f. record {
          left = record { is = onward alone later v d (step.Read p sequences_name LIMIT_BYTES) answer.Gone is refl; hand = refl };
          same = λ e. gone_is LIMIT_BYTES (d.texts p sequences_name) (fits_at alone later v d (step.Read p sequences_name LIMIT_BYTES) answer.Gone is f e);
          short = λ e. read_short (d.texts p sequences_name) answer.Gone (λ l no. cc (no)) (fits_at alone later v d (step.Read p sequences_name LIMIT_BYTES) answer.Gone is f e);
        })

    -- and so is the context
    record ReadsMarks (z : View) (j : Hand) (m : Marked) : Type 0 where
      is : Is alone later z d
      entries : List NamedValue
      seen : j.context ≡ Some entries
      knows : alone ≡ true → entries ≡ entries_at d mail
      same : alone ≡ true → m ≡ sequences_of s
      short : alone ≡ true → IsShort LIMIT_BYTES (d.texts p sequences_name)

    abbrev MarksRead : View → Hand → List ℕ → Result Marked PlanFault → Type 0
    MarksRead z j left (Ok m) = ReadsMarks z j m
    MarksRead z j left (Err e) = BeginErrs z e

    entries_then : List ℕ → List NamedValue → Planned Marked
    entries_then text entries = known entries >>= (λ seen. Return (Ok (sequences_in text entries folder)))

    known_gives : (z : View) (j : Hand) (out text : List ℕ) (entries : List NamedValue) → Is alone later z d → (alone ≡ true → text ≡ filled (d.texts p sequences_name)) → (alone ≡ true → IsShort LIMIT_BYTES (d.texts p sequences_name)) → (alone ≡ true → entries ≡ entries_at d mail)
        → Gives (by_view alone) z j out (entries_then text entries) MarksRead
    unfolding Gives known bind ◌>>=◌ entries_then
    known_gives z j out text entries is same short knows = record { is = is; entries = entries; seen = refl; knows = knows; same = λ e. (λ i. sequences_in (same e i) (knows e i) folder); short = short }

    no_entries : (z : View) (e : PlanFault) → ReadFails alone later d mail z e → BeginErrs z e
    no_entries z fault.Faulted f = f
    no_entries z (fault.Locked q) f = absurd f
    no_entries z (fault.Meddled q n) f = absurd f
    no_entries z fault.Full f = f
    no_entries z (fault.Absent q) f = absurd f
    no_entries z (fault.TooLarge l) f = λ e. let t = f.long e in is_long l z.contents e (old_context (record { text = t.0; there = t.1; long = t.2; is = t.3 }) (f.is.0 e))
    no_entries z fault.Memory f = tt

    marks_give : (v : View) (h : Hand) (out : List ℕ) → Is alone later v d → Gives (by_view alone) v h out (marks_read p mail folder) MarksRead
    unfolding marks_read entries_then
    marks_give v h out is =
        gives_on (by_view alone) v h out (sequences_read p) (λ text. context_read mail >>= entries_then text) (TextReads h) MarksRead (text_gives v h out is)
        (λ z j left text t.
        gives_on (by_view alone) z j left (context_read mail) (entries_then text) (ReadEnds alone later d mail j) MarksRead (read_gives alone later mail z d j left t.left.is)
        (λ y i rest entries e. known_gives y i rest text entries e.left.is t.same t.short e.same)
        (λ y i rest e f. no_entries y e f))
        (λ z j left e f. f)

    -- and the cut is committed
    module _ (m : Marked) (h : Hand) (entries : List NamedValue) (seen : h.context ≡ Some entries) (knows : alone ≡ true → entries ≡ entries_at d mail) (same : alone ≡ true → m ≡ sequences_of s)
        (short_text : alone ≡ true → IsShort LIMIT_BYTES (d.texts p sequences_name)) where
      abbrev new : Marked
      new = cut_to (numbers_settled run s) m

      long_then : (l : ℕ) (z : Contents) → alone ≡ true → IsLongBy p mail folder (numbers_settled run s) d m l z → IsLongIn l z
      long_then l z a long = is_long l z a (subst (λ x. IsLongBy p mail folder (numbers_settled run s) d x l z) (same a) long)

      changes_so : alone ≡ true → changes_by (suffix folder) (private_entries (suffix folder) new.users) h ≡ private_changes folder new.users (entries_at d mail)
      changes_so a = ap (λ o. changes_to (suffix folder) (private_entries (suffix folder) new.users) (entries_seen o)) seen ∙ ap (λ es. private_changes folder new.users es) (knows a)

      text_fails : (e : PlanFault) (z : View) (j : Hand) → same_told folder m new ≡ false → TextFails alone later d (text_of new) h z j e → BeginErrs z e
      text_fails e z j k (inl f) = errs z e (fails h e f)
      text_fails e z j k (inr f) = subst (λ q. BeginErrs z q) (sym f.fault) (λ a. long_then (length (text_of new)) z.contents a (new_text (short_text a) k f.long refl (f.left.is.0 a)))

      said_so : alone ≡ true → settled (changes_by (suffix folder) (private_entries (suffix folder) new.users) h) h.context ≡ false → says (entries_at d mail) (private_changes folder new.users (entries_at d mail)) ≡ false
      said_so a e = sym (ap (λ o. settled (private_changes folder new.users (entries_at d mail)) o) seen ∙ ap (λ es. says es (private_changes folder new.users (entries_at d mail))) (knows a)) ∙ (sym (ap (λ cs. settled cs h.context) (changes_so a)) ∙ e)

      commit_fails : (e : PlanFault) (z : View) → same_told folder m new ≡ false → nat_lt LIMIT_BYTES (length (text_of new)) ≡ false
          → settled (changes_by (suffix folder) (private_entries (suffix folder) new.users) h) h.context ≡ false
          → CommitFails alone later (with_sequences d p (text_of new)) mail (changes_by (suffix folder) (private_entries (suffix folder) new.users) h) (used h) z e → BeginErrs z e
      commit_fails fault.Faulted z k short need f = f
      commit_fails (fault.Locked q) z k short need f = f
      commit_fails (fault.Meddled q n) z k short need f = f
      commit_fails fault.Full z k short need f = f
      commit_fails (fault.Absent q) z k short need f = absurd f
      commit_fails (fault.TooLarge l) z k short need f = λ a. long_then l z.contents a (new_context (short_text a) k short (said_so a need) (subst (λ cs. IsTooLong (with_sequences d p (text_of new)) mail cs l) (changes_so a) (f.long a)) (f.is.0 a))
      commit_fails fault.Memory z k short need f = tt

      cut_fails : (e : PlanFault) (z : View) (j : Hand) (left : List ℕ) → CutEnds s later m new h z j left (Err e) → BeginErrs z e
      cut_fails e z j left (inl f) = let no : Err e ≡ Ok tt = f.1.done in cc (no)
      cut_fails e z j left (inr (k, inl f)) = text_fails e z j k f
      cut_fails e z j left (inr (k, inr f)) = commit_fails e z k f.0 f.1.0 f.1.1

    cut_gives : (v : View) (h : Hand) (out : List ℕ) (m : Marked) → ReadsMarks v h m → Gives (by_view alone) v h out (marks_cut run p mail folder s m) BeginEnds
    unfolding marks_cut Gives
    cut_gives v h out m r =
        gives_on (by_view alone) v h out (cut_committed run p mail folder m (numbers_settled run s)) (λ cut. Return (Ok o)) (CutEnds s later m new h) BeginEnds
        (changed_gives alone later run few p mail folder m new v d h out r.is knows (λ low e. (there_still e, no_temp (temp_name run h.next) (temp_is run h.next few low))))
        (λ z j left u f. record {
          there = there;
          settled = s;
          listing = back.listing;
          holds = back.holds;
          ends_so = back.ends_so;
          homes_so = back.homes;
          old = m;
          is = refl;
          later = later;
          numbers = back.numbers;
          same = r.same;
          short = r.short;
          hand = h;
          entries = r.entries;
          seen = r.seen;
          knows = r.knows;
          cut = f;
        })
        (λ z j left e f. cut_fails m h r.entries r.seen r.knows r.same r.short e z j left f)
      where
        new : Marked
        new = cut_to (numbers_settled run s) m

        o : Opened
        o = opened_of p folder (numbers_settled run s) new s.ends

        knows : Knows alone d mail h
        knows e entries is = some_same (sym is ∙ r.seen) ∙ r.knows e

    read_gives_on : (i : Hand) (out : List ℕ) → Gives (by_view alone) y i out (settled_read run p mail folder s) BeginEnds
    unfolding settled_read
    read_gives_on i out =
        gives_on (by_view alone) y i out (cleared p s.names) (λ clear. marks_read p mail folder >>= (λ marked. marks_cut run p mail folder s marked)) (Clears i) BeginEnds (clear_gives i out)
        (λ z j left u f.
        gives_on (by_view alone) z j left (marks_read p mail folder) (λ marked. marks_cut run p mail folder s marked) MarksRead BeginEnds (marks_give z j left f.is)
        (λ x k rest m r. cut_gives x k rest m r)
        (λ x k rest e f. f))
        (λ z j left e f. errs z e f)

  -- a folder is begun, alone and beside others
  pub begun_gives : (v : View) (h : Hand) (out : List ℕ) → IsUntouched ns p c h v h → Gives (by_view alone) v h out (begun run p mail folder) BeginEnds
  unfolding begun locked_begun
  begun_gives v h out u =
      gives_on (by_view alone) v h out (folder_locked p) (λ held. mail_made mail >>= after_mail) (Untouches c h) BeginEnds (lock_gives v h out u)
      (λ z j left a f.
      gives_on (by_view alone) z j left (mail_made mail) after_mail (Untouches made j) BeginEnds (mail_gives z j left (same_hand z j f.0) f.1)
      (λ x k rest b g.
      gives_on (by_view alone) x k rest (put_back run p) (settled_read run p mail folder) (Restores alone run p made ns) BeginEnds (put_back_gives alone run p ns made x g.0.has g.0.fresh g.0.unmet k rest)
      (λ y i last s r. read_gives_on g.1 s y r i last)
      (λ y i last e m. errs y e (misses g.1 e m)))
      (λ x k rest e g. g))
      (λ z j left e f. f)
    where
      after_mail : Unit {0} → Planned Opened
      after_mail u = put_back run p >>= (λ s. settled_read run p mail folder s)

      same_hand : (z : View) (j : Hand) → IsUntouched ns p c h z j → IsUntouched ns p c j z j
      same_hand z j f = record { has = f.has; fresh = f.fresh; unmet = f.unmet; hand = refl }
