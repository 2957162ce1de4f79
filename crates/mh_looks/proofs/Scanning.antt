-- What `scan` gives, alone and beside others: what it comes to on the mailbox that it finds.
use Rattle.std.proofs.Common.{◌≡◌, ◌⊎◌, inl, inr, ◌<◌, ◌^◌, ℕ, ◌==◌, ◌&&◌, ◌||◌, Bool, true, false, List, [], ◌∷◌, Option, Some, None, Result, Ok, Err, length, refl, sym, ◌∙◌, ap, subst, bytes_eq}
use Rattle.std.specs.Prelude.{nat_lt, decimal, is_some, map, if◌then◌else◌}
use Rattle.std.specs.Str.{encode_utf8_all}
use Rattle.std.proofs.lemmas.Bool.Decides.{Decides-eqb}
use Rattle.std.proofs.lemmas.Slice.Eq.{bytes_eq-Decides}
use Rattle.mh_base.specs.Entries.{entry_text, kind_of}
use Rattle.mh_base.specs.declared.entry.Entry.{Entry}
use Rattle.mh_base.specs.declared.entry.Entry.TheVariants.{Number, Sequences}
use Rattle.mh_profile.specs.Printing.{printed}
use Rattle.mh_profile.specs.declared.named_value.NamedValue.{NamedValue}
use Rattle.mh_sequences.specs.Runs.{numbers_of as all_numbers}
use Rattle.folder_files.specs.Named.{is_number, is_held}
use Rattle.folder_files.specs.Places.{same_place}
use Rattle.folder_files.specs.Standing.{is_standing}
use Rattle.folder_files.specs.Steps.{has_text}
use Rattle.folder_files.proofs.Sameness.{place_is}
use Rattle.folder_files.specs.declared.place.Place.{Place}
use Rattle.folder_files.specs.declared.place.Place.TheVariants.{Folder, Mail}
use Rattle.folder_files.specs.declared.refusal.Refusal.{Refusal}
use Rattle.folder_files.specs.declared.refusal.Refusal.TheVariants as refusal
use Rattle.folder_files.specs.declared.step.Step.TheVariants as step
use Rattle.folder_files.specs.declared.step.Answer.TheVariants as answer
use Rattle.file_plans.specs.Contents.{Contents, folder_at, with_folder, mailbox_in}
use Rattle.file_plans.specs.Giving.{Gives}
use Rattle.file_plans.specs.Mailboxes.{Mailbox, is_message_number, numbers_of}
use Rattle.file_plans.specs.MailboxChanges.{with_context_text}
use Rattle.file_plans.specs.Plan.{Hand, Plan, Return, Recall, bind, after, ◌>>=◌, converted, lifted}
use Rattle.file_plans.specs.Sightings.{has_number}
use Rattle.file_plans.specs.Views.{Unseen, Listed, View, view_after, sight_listed, by_view}
use Rattle.file_plans.proofs.Giving.{gives_on}
use Rattle.file_plans.proofs.Onward.{IsShort}
use Rattle.file_plans.proofs.Showing.{number_ok, number_kind, shows_made, shows_cleared}
use Rattle.file_plans.proofs.NumberTexts.{has_number_text}
use Rattle.msg_ranges.specs.Selected.{every_number, selected}
use Rattle.msg_ranges.specs.Selecting.{Folder as MsgFolder}
use Rattle.msg_ranges.specs.Selection.{Marks}
use Rattle.msg_ranges.specs.declared.fault.SelectFault.{SelectFault}
use Rattle.msg_ranges.specs.declared.fault.SelectFault.TheVariants as select
use Rattle.msg_ranges.proofs.Rising.{lists, lists_filter}
use Rattle.msg_ranges.proofs.Within.{selected_within, never_memory}
use Rattle.step_plans.specs.ContextCommit.{LIMIT_BYTES, changed, says, settled, context_name, commit_by, commit_context}
use Rattle.step_plans.specs.declared.change.ChangeEntry.{ChangeEntry}
use Rattle.step_plans.specs.declared.command_fault.CommandFault.{CommandFault}
use Rattle.step_plans.specs.declared.command_fault.CommandFault.TheVariants as fault
use Rattle.step_plans.specs.declared.fault.PlanFault.{PlanFault}
use Rattle.step_plans.specs.declared.fault.PlanFault.TheVariants as plan
use Rattle.step_plans.proofs.Committed.{Makes, Refused, IsTooLong, old_text, new_text, CommitEnds, entries_at, text_after, commit_lifted, shows_committed}
use Rattle.command_stages.specs.Chosen.{word_at, chosen_in, folder_with, marks_in, refused_by}
use Rattle.command_stages.specs.Endings.{of_plan}
use Rattle.command_stages.specs.Listed.{folder_listed, numbers_listed}
use Rattle.command_stages.specs.Texts.{too_large, text_read}
use Rattle.command_stages.specs.Works.{Work, refused_at, readable}
use Rattle.command_stages.specs.Current.{current_change, made_current as made_current_plan}
use Rattle.mh_looks.specs.Outcomes.{current_text, written_current, made_current, lines_of, too_long_of, lines_written, numbers_shown, chosen_shown, sequences_read, scan_work}
use Rattle.message_lines.specs.MessageText.{Writing}
use Rattle.mh_looks.specs.Scan.{all_shown, ordered, chosen_by, lined_by, scan}
use Rattle.mh_looks.specs.ScanJob.{ScanJob}
use Rattle.mh_looks.proofs.Apart.{AreApart, apart_ordered, lists_ordered, selected_apart}
use Rattle.mh_looks.proofs.Folders.{IsFresh, Tells, IsListed, IsAbsent, FolderListed, folder_gives, messages_listed}
use Rattle.mh_looks.proofs.Numbers.{folder_numbers}
use Rattle.mh_looks.proofs.Reading.{after_read, TextRead, text_gives}
use Rattle.mh_looks.proofs.AllShown.{IsMessage, AreMessages, AllShown, all_gives}
use Rattle.mh_profile.specs.Reading.{entries_seen}

-- an end that the last commit alone decides
abbrev pub IsLate : Result Unit CommandFault → Type 0
IsLate r = (r ≡ Ok tt) ⊎ ((l : ℕ) × (r ≡ Err (too_large l)))

-- the end is that of the work, and alone so is the mailbox; beside others the context may have changed under the commit
abbrev pub Decides : Bool → Work CommandFault → View → Result Unit CommandFault → Type 0
Decides alone w z r = ((w.end ≡ r) × (alone ≡ true → mailbox_in z.contents ≡ w.mailbox)) ⊎ ((alone ≡ false) × (IsLate w.end × IsLate r))

abbrev pub ScanEnds : Bool → Work CommandFault → View → Hand → List ℕ → Result Unit CommandFault → Type 0
ScanEnds alone w z j left (Ok u) = (left ≡ []) × Decides alone w z (Ok tt)
ScanEnds alone w z j left (Err (fault.Refused r)) = (left ≡ []) × Decides alone w z (Err (fault.Refused r))
ScanEnds alone w z j left (Err (fault.Faulted which)) = ⊥
ScanEnds alone w z j left (Err (fault.Locked q)) = alone ≡ true → ⊥
ScanEnds alone w z j left (Err (fault.Meddled q x)) = alone ≡ true → ⊥
ScanEnds alone w z j left (Err fault.Memory) = ⊥

-- a refusal that the work has too, where the contents are as they were
refused_so : (alone : Bool) (c : Contents) (e : CommandFault) (r : Refusal) (z : View) (j : Hand) (left : List ℕ) → e ≡ fault.Refused r → left ≡ [] → z.contents ≡ c → ScanEnds alone (refused_at (mailbox_in c) e) z j left (Err e)
refused_so alone c e r z j left is none same = subst (λ f. ScanEnds alone (refused_at (mailbox_in c) f) z j left (Err f)) (sym is) (none, inl (refl, λ a. ap mailbox_in same))

pub unreadable : (o : Option (List ℕ)) (e : CommandFault) → Err e ≡ readable o → (l : ℕ) × (e ≡ too_large l)
unreadable None e is = cc
unreadable (Some text) e is = go (nat_lt LIMIT_BYTES (length text)) is
  where
    go : (b : Bool) → Err e ≡ (if b then Err (too_large (length text)) else Ok text) → (l : ℕ) × (e ≡ too_large l)
    go true is = (length text, cc (is))
    go false is = cc

-- what words refuse is a refusal
pub refuses : (folder : MsgFolder) (words : List (List ℕ)) (e : CommandFault) → chosen_in folder words ≡ Err e → (r : Refusal) × (e ≡ fault.Refused r)
refuses folder words e is = go (selected folder (map encode_utf8_all words)) refl is
  where
    go : (s : Result (List ℕ) SelectFault) → selected folder (map encode_utf8_all words) ≡ s → refused_by words s ≡ Err e → (r : Refusal) × (e ≡ fault.Refused r)
    go (Ok numbers) s is = cc
    go (Err (select.BadSpec k)) s is = (refusal.BadSpec (word_at words k), cc (is))
    go (Err (select.Absent k)) s is = (refusal.Absent (word_at words k), cc (is))
    go (Err (select.EmptyRange k)) s is = (refusal.EmptyRange (word_at words k), cc (is))
    go (Err (select.EmptySequence k)) s is = (refusal.EmptySequence (word_at words k), cc (is))
    go (Err select.Memory) s is = absurd (never_memory folder (map encode_utf8_all words) s)

selects : (folder : MsgFolder) (words : List (List ℕ)) (numbers : List ℕ) → chosen_in folder words ≡ Ok numbers → selected folder (map encode_utf8_all words) ≡ Ok numbers
selects folder words numbers is = go (selected folder (map encode_utf8_all words)) is
  where
    go : (s : Result (List ℕ) SelectFault) → refused_by words s ≡ Ok numbers → s ≡ Ok numbers
    go (Ok found) is = let same : found ≡ numbers = cc in ap (λ z. Ok z) same
    go (Err (select.BadSpec k)) is = cc
    go (Err (select.Absent k)) is = cc
    go (Err (select.EmptyRange k)) is = cc
    go (Err (select.EmptySequence k)) is = cc
    go (Err select.Memory) is = cc

module _ (alone : Bool) (run : ℕ) (path : List ℕ) (job : ScanJob) (c : Contents) (es : List NamedValue) where
  abbrev place : Place
  place = Folder path job.folder

  abbrev mail : Place
  mail = Mail path

  abbrev box : Mailbox
  box = mailbox_in c

  work_absent : c.there place ≡ false → scan_work path es job box ≡ refused_at box (fault.Refused (refusal.NoFolder job.folder))
  unfolding scan_work mailbox_in
  work_absent none = rw none refl

  work_there : c.there place ≡ true → scan_work path es job box ≡ sequences_read box path es job (folder_at c place) (readable (folder_at c place).sequences)
  unfolding scan_work mailbox_in
  work_there there = rw there refl

  -- the context, at the end
  abbrev context_short : Type 0
  context_short = alone ≡ true → IsShort LIMIT_BYTES (c.texts mail context_name)

  not_short : {X : Type 0} (o : Option (List ℕ)) (text : List ℕ) → o ≡ Some text → nat_lt LIMIT_BYTES (length text) ≡ true → IsShort LIMIT_BYTES o → X
  not_short None text is long short = cc (is)
  not_short (Some other) text is long short = let same : other ≡ text = cc in absurd (let e : true ≡ false = sym long ∙ ap (λ t. nat_lt LIMIT_BYTES (length t)) (sym same) ∙ short in cc)

  written_short : (text lines : List ℕ) → nat_lt LIMIT_BYTES (length text) ≡ false → written_current box path text lines ≡ record { text = lines; end = Ok tt; mailbox = with_context_text box mail text }
  written_short text lines short = rw short refl

  written_long : (text lines : List ℕ) → nat_lt LIMIT_BYTES (length text) ≡ true → written_current box path text lines ≡ record { text = lines; end = Err (too_large (length text)); mailbox = box }
  written_long text lines long = rw long refl

  written_late : (text lines : List ℕ) → IsLate (written_current box path text lines).end
  written_late text lines = go (nat_lt LIMIT_BYTES (length text))
    where
      go : (b : Bool) → (λ (w : Work CommandFault). IsLate w.end) (if b then record { text = lines; end = Err (too_large (length text)); mailbox = box } else record { text = lines; end = Ok tt; mailbox = with_context_text box mail text })
      go true = inr (length text, refl)
      go false = inl refl

  written_text : (text lines : List ℕ) → (written_current box path text lines).text ≡ lines
  written_text text lines = go (nat_lt LIMIT_BYTES (length text))
    where
      go : (b : Bool) → (λ (w : Work CommandFault). w.text ≡ lines) (if b then record { text = lines; end = Err (too_large (length text)); mailbox = box } else record { text = lines; end = Ok tt; mailbox = with_context_text box mail text })
      go true = refl
      go false = refl

  current_texts : (lines : List ℕ) → (made_current box path es job.folder lines).text ≡ lines
  current_texts lines = go (says es (current_change job.folder))
    where
      go : (b : Bool) → (λ (w : Work CommandFault). w.text ≡ lines) (if b then record { text = lines; end = Ok tt; mailbox = box } else written_current box path (current_text es job.folder) lines)
      go true = refl
      go false = written_text (current_text es job.folder) lines

  abbrev change : List ChangeEntry
  change = current_change job.folder

  current_settled : (lines : List ℕ) → says es change ≡ true → made_current box path es job.folder lines ≡ record { text = lines; end = Ok tt; mailbox = box }
  current_settled lines said = rw said refl

  current_unsettled : (lines : List ℕ) → says es change ≡ false → made_current box path es job.folder lines ≡ written_current box path (current_text es job.folder) lines
  current_unsettled lines unsaid = rw unsaid refl

  -- the commit's ends are the work's
  module _ (lines : List ℕ) (h : Hand) (known : h.context ≡ Some es) (next : nat_lt h.next (2 ^ 64) ≡ true) (stood : alone ≡ true → es ≡ entries_at c mail) (short : context_short) (unsaid : says es change ≡ false) where
    abbrev work : Work CommandFault
    work = made_current box path es job.folder lines

    text_same : alone ≡ true → text_after c mail change ≡ current_text es job.folder
    text_same a = ap (λ x. printed (changed change x)) (sym (stood a))

    is_late : IsLate work.end
    is_late = rw (current_unsettled lines unsaid) (written_late (current_text es job.folder) lines)

    by_alone : (z : View) (r : Result Unit CommandFault) → IsLate r → (alone ≡ true → (work.end ≡ r) × (mailbox_in z.contents ≡ work.mailbox)) → Decides alone work z r
    by_alone z r late f = go alone refl f
      where
        go : (b : Bool) → alone ≡ b → (alone ≡ true → (work.end ≡ r) × (mailbox_in z.contents ≡ work.mailbox)) → Decides alone work z r
        go true e f = let k = f e in inl (k.0, λ a. k.1)
        go false e f = inr (e, (is_late, late))

    made_so : (z : View) (j : Hand) (ns : List ℕ) → Makes alone ns c mail change h z j → Decides alone work z (Ok tt)
    made_so z j ns m = by_alone z (Ok tt) (inl refl) (λ a.
        let fits : nat_lt LIMIT_BYTES (length (current_text es job.folder)) ≡ false = ap (λ t. nat_lt LIMIT_BYTES (length t)) (sym (text_same a)) ∙ m.new_short a in
        let w = current_unsettled lines unsaid ∙ written_short (current_text es job.folder) lines fits in
        (ap (λ x. x.end) w, ap mailbox_in (m.is.0 a) ∙ shows_committed c path change ∙ ap (with_context_text box mail) (text_same a) ∙ ap (λ x. x.mailbox) (sym w)))

    refusal_so : (z : View) (j : Hand) (ns : List ℕ) (l : ℕ) → Refused alone ns c mail change l z → Decides alone work z (Err (too_large l))
    refusal_so z j ns l r = by_alone z (Err (too_large l)) (inr (l, refl)) (λ a. by_long a (r.long a))
      where
        by_long : alone ≡ true → IsTooLong c mail change l → (work.end ≡ Err (too_large l)) × (mailbox_in z.contents ≡ work.mailbox)
        by_long a (old_text text there long is) = not_short (c.texts mail context_name) text there long (short a)
        by_long a (new_text old long is) =
            let fits : nat_lt LIMIT_BYTES (length (current_text es job.folder)) ≡ true = ap (λ t. nat_lt LIMIT_BYTES (length t)) (sym (text_same a)) ∙ long in
            let w = current_unsettled lines unsaid ∙ written_long (current_text es job.folder) lines fits in
            (ap (λ x. x.end) w ∙ ap (λ k. Err (too_large k)) (sym (is ∙ ap length (text_same a))), ap mailbox_in (r.is.0 a) ∙ (shows_cleared (with_folder c mail) mail refl refl ∙ shows_made c path) ∙ ap (λ x. x.mailbox) (sym w))

  -- the end of `scan`: the folder becomes the current one
  module _ (few : run < 2 ^ 128) (stood : alone ≡ true → es ≡ entries_at c mail) (short : context_short) where
    decided_ok : (lines : List ℕ) (z : View) → z.contents ≡ c → says es change ≡ true → Decides alone (made_current box path es job.folder lines) z (Ok tt)
    decided_ok lines z same said = let w = current_settled lines said in inl (ap (λ x. x.end) w, λ a. ap mailbox_in same ∙ sym (ap (λ x. x.mailbox) w))

    no_stand : {X : Type 0} (h : Hand) → h.context ≡ Some es → says es change ≡ false → settled change h.context ≡ true → X
    no_stand h known unsaid stands = absurd (let e : true ≡ false = sym stands ∙ (ap (settled change) known ∙ unsaid) in cc)

    ends_well : (lines : List ℕ) (h : Hand) (y : View) (j : Hand) (left ns : List ℕ) (q : Result Unit PlanFault) → h.context ≡ Some es → nat_lt h.next (2 ^ 64) ≡ true → says es change ≡ false → left ≡ [] → Ok tt ≡ converted (of_plan job.folder) q
        → CommitEnds alone ns c mail change h y j [] q → ScanEnds alone (made_current box path es job.folder lines) y j left (Ok tt)
    ends_well lines h y j left ns (Ok u) known next unsaid none is (inl s) = no_stand h known unsaid s.settled_so
    ends_well lines h y j left ns (Ok u) known next unsaid none is (inr m) = (none, made_so lines h known next stood short unsaid y j ns m.1)
    ends_well lines h y j left ns (Err e) known next unsaid none is f = cc (is)

    ends_badly : (lines : List ℕ) (h : Hand) (y : View) (j : Hand) (left ns : List ℕ) (q : Result Unit PlanFault) (e : CommandFault) → h.context ≡ Some es → nat_lt h.next (2 ^ 64) ≡ true → says es change ≡ false → left ≡ [] → Err e ≡ converted (of_plan job.folder) q
        → CommitEnds alone ns c mail change h y j [] q → ScanEnds alone (made_current box path es job.folder lines) y j left (Err e)
    ends_badly lines h y j left ns (Ok u) e known next unsaid none is f = cc (is)
    ends_badly lines h y j left ns (Err plan.Faulted) e known next unsaid none is f = absurd f
    ends_badly lines h y j left ns (Err (plan.Locked q)) e known next unsaid none is f = let same : e ≡ fault.Locked q = cc in subst (λ z. ScanEnds alone (made_current box path es job.folder lines) y j left (Err z)) (sym same) f
    ends_badly lines h y j left ns (Err (plan.Meddled q x)) e known next unsaid none is f = let same : e ≡ fault.Meddled q x = cc in subst (λ z. ScanEnds alone (made_current box path es job.folder lines) y j left (Err z)) (sym same) f
    ends_badly lines h y j left ns (Err plan.Full) e known next unsaid none is f = absurd f
    ends_badly lines h y j left ns (Err (plan.Absent q)) e known next unsaid none is f = absurd f
    ends_badly lines h y j left ns (Err (plan.TooLarge l)) e known next unsaid none is f =
        let same : e ≡ too_large l = cc in
        subst (λ z. ScanEnds alone (made_current box path es job.folder lines) y j left (Err z)) (sym same) (none, refusal_so lines h known next stood short unsaid y j ns l f)
    ends_badly lines h y j left ns (Err plan.Memory) e known next unsaid none is f = absurd (let never : true ≡ false = sym next ∙ f in cc)

    -- the folder's plan, and what is left of it
    abbrev current_plan : Plan (Result Unit CommandFault)
    current_plan = lifted (of_plan job.folder) (commit_context run mail change) >>= (λ u. Return (Ok tt))

    abbrev current_by : Bool → Plan (Result Unit CommandFault)
    current_by b = lifted (of_plan job.folder) (commit_by run mail change b) >>= (λ u. Return (Ok tt))

    settled_done : (lines : List ℕ) (z : View) (h : Hand) → z.contents ≡ c → says es change ≡ true → Gives (by_view alone) z h [] (current_by true) (ScanEnds alone (made_current box path es job.folder lines))
    unfolding Gives lifted bind ◌>>=◌
    settled_done lines z h same said = (refl, decided_ok lines z same said)

    settled_gives : (lines : List ℕ) (z : View) (h : Hand) → z.contents ≡ c → h.context ≡ Some es → says es change ≡ true → Gives (by_view alone) z h [] current_plan (ScanEnds alone (made_current box path es job.folder lines))
    unfolding Gives commit_context lifted bind ◌>>=◌
    settled_gives lines z h same known said =
        subst (λ b. Gives (by_view alone) z h [] (current_by b) (ScanEnds alone (made_current box path es job.folder lines))) (sym (ap (settled change) known ∙ said)) (settled_done lines z h same said)

    returned : (lines : List ℕ) (h : Hand) (y : View) (j : Hand) (left ns : List ℕ) → h.context ≡ Some es → nat_lt h.next (2 ^ 64) ≡ true → says es change ≡ false
        → (left ≡ []) × ((q : Result Unit PlanFault) × (Ok tt ≡ converted (of_plan job.folder) q) × CommitEnds alone ns c mail change h y j [] q)
        → Gives (by_view alone) y j left (Return (Ok tt)) (ScanEnds alone (made_current box path es job.folder lines))
    unfolding Gives
    returned lines h y j left ns known next unsaid p = ends_well lines h y j left ns p.1.0 known next unsaid p.0 p.1.1 p.1.2

    unsettled_gives : (lines : List ℕ) (z : View) (h : Hand) → z.contents ≡ c → h.context ≡ Some es → nat_lt h.next (2 ^ 64) ≡ true → says es change ≡ false → Gives (by_view alone) z h [] current_plan (ScanEnds alone (made_current box path es job.folder lines))
    unsettled_gives lines z h same known next unsaid =
        gives_on (by_view alone) z h [] (lifted (of_plan job.folder) (commit_context run mail change)) (λ u. Return (Ok tt))
        (λ y j left r. (left ≡ []) × ((q : Result Unit PlanFault) × (r ≡ converted (of_plan job.folder) q) × CommitEnds alone z.numbers c mail change h y j [] q))
        (ScanEnds alone (made_current box path es job.folder lines))
        (commit_lifted alone z.numbers run few mail change (of_plan job.folder) z c h [] ((λ a. same), refl) (λ a es_ is. let one : Some es_ ≡ Some es = sym is ∙ known in let also : es_ ≡ es = cc in also ∙ stood a))
        (λ y j left u p. returned lines h y j left z.numbers known next unsaid p) (λ y j left e p. ends_badly lines h y j left z.numbers p.1.0 e known next unsaid p.0 p.1.1 p.1.2)

    pub current_gives : (lines : List ℕ) (z : View) (h : Hand) → z.contents ≡ c → h.context ≡ Some es → nat_lt h.next (2 ^ 64) ≡ true
        → Gives (by_view alone) z h [] (made_current_plan run path job.folder) (ScanEnds alone (made_current box path es job.folder lines))
    unfolding made_current_plan
    current_gives lines z h same known next = go (says es change) refl
      where
        go : (b : Bool) → says es change ≡ b → Gives (by_view alone) z h [] current_plan (ScanEnds alone (made_current box path es job.folder lines))
        go true said = settled_gives lines z h same known said
        go false unsaid = unsettled_gives lines z h same known next unsaid

    -- the messages that words choose are there
    chosen_there : (v : View) (names : List (List ℕ)) (neg : List ℕ) (marks : Marks) (numbers : List ℕ) → Tells c place names → chosen_in (folder_with neg (numbers_listed names) marks) job.specs ≡ Ok numbers → (n : ℕ) → lists numbers n ≡ true → has_number n names ≡ true
    chosen_there v names neg marks numbers t is n e =
        right_true (lists (all_numbers every_number) n) (has_number n names)
        (sym (lists_filter (λ m. has_number m names) (all_numbers every_number) n) ∙ selected_within (folder_with neg (numbers_listed names) marks) (map encode_utf8_all job.specs) numbers (selects (folder_with neg (numbers_listed names) marks) job.specs numbers is) n e)
      where
        right_true : (a b : Bool) → a && b ≡ true → b ≡ true
        right_true true b e = e
        right_true false b e = cc

    -- what is seen of the folder's names after its listing and the reading of its sequences
    abbrev listed_view : View → List (List ℕ) → View
    listed_view v names = view_after v (step.List place) (answer.Names names)

    sequences_unseen : (v : View) (names : List (List ℕ)) → IsFresh v place → v.seen.names place (entry_text Sequences) ≡ Unseen → (listed_view v names).seen.names place (entry_text Sequences) ≡ Unseen
    unfolding entry_text kind_of
    sequences_unseen v names fresh unseen = go (same_place place place)
      where
        go : (b : Bool) → sight_listed (b && is_standing (entry_text Sequences)) (has_text (entry_text Sequences) names || v.met place (entry_text Sequences)) (v.seen.names place (entry_text Sequences)) ≡ Unseen
        go true = unseen
        go false = unseen

    kind_sequences : kind_of (entry_text Sequences) ≡ Sequences
    unfolding entry_text kind_of
    kind_sequences = refl

    sequences_apart : (n : ℕ) → is_message_number n ≡ true → bytes_eq (entry_text Sequences) (decimal n) ≡ false
    sequences_apart n ok = go (bytes_eq (entry_text Sequences) (decimal n)) refl
      where
        never : Sequences ≡ Number n → ⊥
        never e = cc (e)

        go : (b : Bool) → bytes_eq (entry_text Sequences) (decimal n) ≡ b → b ≡ false
        go true e = absurd (never (sym kind_sequences ∙ ap kind_of ((bytes_eq-Decides (entry_text Sequences) (decimal n)).0 e) ∙ number_kind n (number_ok n ok)))
        go false e = refl

    abbrev read_view_ : View → List (List ℕ) → View
    read_view_ v names = after_read (listed_view v names) place (entry_text Sequences)

    number_listed : (v : View) (names : List (List ℕ)) (n : ℕ) → IsFresh v place → has_number n names ≡ true → is_message_number n ≡ true → (read_view_ v names).seen.names place (decimal n) ≡ Listed
    number_listed v names n fresh has ok =
        let stands : is_standing (decimal n) ≡ true = ap (λ k. is_standing_kind k) (number_kind n (number_ok n ok)) in
        let text : has_text (decimal n) names ≡ true = and_last (is_message_number n) (has_text (decimal n) names) (sym (has_number_text n names) ∙ has) in
        rw (sequences_apart n ok, place_is place, stands, text, fresh.names (decimal n) stands) refl
      where
        is_standing_kind : Entry → Bool
        is_standing_kind k = is_number k || is_held k

        and_last : (a b : Bool) → a && b ≡ true → b ≡ true
        and_last true b e = e
        and_last false b e = cc

    is_number_of : (n : ℕ) (names : List (List ℕ)) → has_number n names ≡ true → is_message_number n ≡ true
    is_number_of n names has = go (is_message_number n) (has_text (decimal n) names) (sym (has_number_text n names) ∙ has)
      where
        go : (a b : Bool) → a && b ≡ true → a ≡ true
        go true b e = refl
        go false b e = cc

    one_there : (v : View) (names : List (List ℕ)) (n : ℕ) → v.contents ≡ c → Tells c place names → (alone ≡ false → IsFresh v place) → has_number n names ≡ true → IsMessage alone c (read_view_ v names) place n
    one_there v names n same t fresh has =
        let ok = is_number_of n names has in
        let text : has_text (decimal n) names ≡ true = and_last (is_message_number n) (has_text (decimal n) names) (sym (has_number_text n names) ∙ has) in
        let some : is_some (c.texts place (decimal n)) ≡ true = sym (t.all (decimal n) (ap is_standing_kind (number_kind n (number_ok n ok)))) ∙ text in
        let it = the_text (c.texts place (decimal n)) some in
        record { number = ok; text = it.0; there = it.1; sight = λ beside. number_listed v names n (fresh beside) has ok }
      where
        is_standing_kind : Entry → Bool
        is_standing_kind k = is_number k || is_held k

        and_last : (a b : Bool) → a && b ≡ true → b ≡ true
        and_last true b e = e
        and_last false b e = cc

        the_text : (o : Option (List ℕ)) → is_some o ≡ true → (text : List ℕ) × (o ≡ Some text)
        the_text None e = cc
        the_text (Some text) e = (text, refl)

    all_there : (v : View) (names : List (List ℕ)) (ns : List ℕ) → v.contents ≡ c → Tells c place names → (alone ≡ false → IsFresh v place) → ((n : ℕ) → lists ns n ≡ true → has_number n names ≡ true) → AreMessages alone c (read_view_ v names) place ns
    all_there v names [] same t fresh inside = tt
    all_there v names (n ∷ ns) same t fresh inside = (one_there v names n same t fresh (inside n (first_true n (lists ns n))), all_there v names ns same t fresh (λ m e. inside m (later_true (n == m) (lists ns m) e)))
      where
        first_true : (n : ℕ) (b : Bool) → (n == n) || b ≡ true
        first_true n b = rw ((Decides-eqb n n).1 refl) refl

        later_true : (a b : Bool) → b ≡ true → a || b ≡ true
        later_true true b e = refl
        later_true false b e = e

    -- the numbers that words choose stand in order, none of them twice
    chosen_apart : (neg : List ℕ) (names : List (List ℕ)) (marks : Marks) (numbers : List ℕ) → chosen_in (folder_with neg (numbers_listed names) marks) job.specs ≡ Ok numbers → AreApart numbers
    chosen_apart neg names marks numbers is = selected_apart (folder_with neg (numbers_listed names) marks) (map encode_utf8_all job.specs) numbers (selects (folder_with neg (numbers_listed names) marks) job.specs numbers is)

    -- all that follows the sequences
    abbrev marks_now : List ℕ → Marks
    marks_now text = marks_in text es job.folder

    abbrev chosen_now : List (List ℕ) → List ℕ → Result (List ℕ) CommandFault
    chosen_now names text = chosen_in (folder_with job.negation (numbers_listed names) (marks_now text)) job.specs

    shown_text : (lined : Writing) (ns : List ℕ) → (numbers_shown lined box path es job.folder (folder_at c place).messages ns).text ≡ lines_of lined (folder_at c place).messages ns
    shown_text lined ns = go (too_long_of (folder_at c place).messages ns)
      where
        go : (o : Option ℕ) → (lines_written box path es job.folder (lines_of lined (folder_at c place).messages ns) o).text ≡ lines_of lined (folder_at c place).messages ns
        go None = current_texts (lines_of lined (folder_at c place).messages ns)
        go (Some l) = refl

    -- the messages are shown, and then the folder becomes the current one
    shown_gives : (lined : Writing) (v : View) (h : Hand) (ns : List ℕ) → v.contents ≡ c → AreMessages alone c v place ns → AreApart ns → h.context ≡ Some es → nat_lt h.next (2 ^ 64) ≡ true
        → Gives (by_view alone) v h (lines_of lined (folder_at c place).messages ns) (all_shown lined place ns >>= (λ u. made_current_plan run path job.folder)) (ScanEnds alone (numbers_shown lined box path es job.folder (folder_at c place).messages ns))
    shown_gives lined v h ns same all apart known next =
        gives_on (by_view alone) v h (lines_of lined (folder_at c place).messages ns) (all_shown lined place ns) (λ u. made_current_plan run path job.folder) (AllShown alone c place lined h ns) (ScanEnds alone (numbers_shown lined box path es job.folder (folder_at c place).messages ns))
        (all_gives alone c place lined ns v h same all apart)
        (λ z j left u o. subst (λ k. Gives (by_view alone) z k left (made_current_plan run path job.folder) (ScanEnds alone (numbers_shown lined box path es job.folder (folder_at c place).messages ns))) (sym o.3)
        (subst (λ t. Gives (by_view alone) z h t (made_current_plan run path job.folder) (ScanEnds alone (numbers_shown lined box path es job.folder (folder_at c place).messages ns))) (sym o.0)
        (subst (λ w. Gives (by_view alone) z h [] (made_current_plan run path job.folder) (ScanEnds alone w)) (sym (ap (lines_written box path es job.folder (lines_of lined (folder_at c place).messages ns)) o.1)) (current_gives (lines_of lined (folder_at c place).messages ns) z h o.2 known next))))
        (λ z j left e o. failed z j left e o)
      where
        failed : (z : View) (j : Hand) (left : List ℕ) (e : CommandFault) → AllShown alone c place lined h ns z j left (Err e) → ScanEnds alone (numbers_shown lined box path es job.folder (folder_at c place).messages ns) z j left (Err e)
        failed z j left (fault.Refused r) o =
            let w : numbers_shown lined box path es job.folder (folder_at c place).messages ns ≡ record { text = lines_of lined (folder_at c place).messages ns; end = Err (too_large o.0); mailbox = box } = ap (lines_written box path es job.folder (lines_of lined (folder_at c place).messages ns)) o.2 in
            (o.3, inl (ap (λ x. x.end) w ∙ ap (λ x. Err x) (sym o.1), λ a. ap mailbox_in o.4 ∙ sym (ap (λ x. x.mailbox) w)))
        failed z j left (fault.Faulted w) o = o
        failed z j left (fault.Locked q) o = absurd o
        failed z j left (fault.Meddled q x) o = o
        failed z j left fault.Memory o = o

    -- the whole
    abbrev whole_work : Work CommandFault
    whole_work = scan_work path es job box

    abbrev Aim : View → Hand → Plan (Result Unit CommandFault) → Type 0
    Aim v h p = Gives (by_view alone) v h whole_work.text p (ScanEnds alone whole_work)

    aim_at : (w : Work CommandFault) (v : View) (h : Hand) (p : Plan (Result Unit CommandFault)) → whole_work ≡ w → Gives (by_view alone) v h w.text p (ScanEnds alone w) → Aim v h p
    aim_at w v h p is g = subst (λ x. Gives (by_view alone) v h x.text p (ScanEnds alone x)) (sym is) g

    ends_at : (e : CommandFault) (r : Refusal) (z : View) (j : Hand) (left : List ℕ) → whole_work ≡ refused_at box e → e ≡ fault.Refused r → left ≡ whole_work.text → z.contents ≡ c → ScanEnds alone whole_work z j left (Err e)
    ends_at e r z j left is what none same = subst (λ x. ScanEnds alone x z j left (Err e)) (sym is) (refused_so alone c e r z j left what (none ∙ ap (λ x. x.text) is) same)

    abbrev lined_now : List ℕ → Writing
    lined_now text = lined_by job text es

    abbrev then_shown : List ℕ → List ℕ → Plan (Result Unit CommandFault)
    then_shown text numbers = Recall (λ h. all_shown (lined_by job text (entries_seen h.context)) place (ordered job.reverse numbers)) >>= (λ shown. made_current_plan run path job.folder)

    shown_at : (v : View) (h : Hand) (left text numbers : List ℕ) (Q : View → Hand → List ℕ → Result Unit CommandFault → Type 0) → h.context ≡ Some es
        → Gives (by_view alone) v h left (all_shown (lined_now text) place (ordered job.reverse numbers) >>= (λ shown. made_current_plan run path job.folder)) Q
        → Gives (by_view alone) v h left (then_shown text numbers) Q
    unfolding Gives bind ◌>>=◌
    shown_at v h left text numbers Q known g =
        subst (λ o. Gives (by_view alone) v h left (all_shown (lined_by job text (entries_seen o)) place (ordered job.reverse numbers) >>= (λ shown. made_current_plan run path job.folder)) Q) (sym known) g

    abbrev then_chosen : List (List ℕ) → List ℕ → Plan (Result Unit CommandFault)
    then_chosen names text = Recall (λ h. Return (chosen_by job names text (entries_seen h.context))) >>= then_shown text

    abbrev then_read : List (List ℕ) → Plan (Result Unit CommandFault)
    then_read names = text_read place (entry_text Sequences) >>= (λ text. then_chosen names text)

    same_chosen : (names : List (List ℕ)) (text : List ℕ) → Tells c place names → chosen_in (folder_with job.negation (numbers_of (folder_at c place)) (marks_now text)) job.specs ≡ chosen_now names text
    same_chosen names text t = ap (λ ns. chosen_in (folder_with job.negation ns (marks_now text)) job.specs) (folder_numbers (folder_at c place) names (messages_listed c place names t))

    module _ (v : View) (h : Hand) (same : v.contents ≡ c) (known : h.context ≡ Some es) (next : nat_lt h.next (2 ^ 64) ≡ true) (fresh : alone ≡ false → IsFresh v place) (unseen : alone ≡ false → v.seen.names place (entry_text Sequences) ≡ Unseen) where
      after_chosen : (names : List (List ℕ)) (text : List ℕ) (value : Result (List ℕ) CommandFault) → Tells c place names → readable (folder_at c place).sequences ≡ Ok text → chosen_now names text ≡ value → Aim (read_view_ v names) h (after (then_shown text) value)
      unfolding Gives
      after_chosen names text (Ok numbers) t reads is =
          let inside : (n : ℕ) → lists (ordered job.reverse numbers) n ≡ true → has_number n names ≡ true = λ n e. chosen_there v names job.negation (marks_now text) numbers t is n (sym (lists_ordered job.reverse numbers n) ∙ e) in
          let w : whole_work ≡ numbers_shown (lined_now text) box path es job.folder (folder_at c place).messages (ordered job.reverse numbers) =
          work_there t.there ∙ ap (sequences_read box path es job (folder_at c place)) reads ∙ ap (chosen_shown (lined_now text) box path es job (folder_at c place)) (same_chosen names text t ∙ is)
          in
          aim_at (numbers_shown (lined_now text) box path es job.folder (folder_at c place).messages (ordered job.reverse numbers)) (read_view_ v names) h (then_shown text numbers) w
          (subst (λ l. Gives (by_view alone) (read_view_ v names) h l (then_shown text numbers) (ScanEnds alone (numbers_shown (lined_now text) box path es job.folder (folder_at c place).messages (ordered job.reverse numbers)))) (sym (shown_text (lined_now text) (ordered job.reverse numbers)))
          (shown_at (read_view_ v names) h (lines_of (lined_now text) (folder_at c place).messages (ordered job.reverse numbers)) text numbers (ScanEnds alone (numbers_shown (lined_now text) box path es job.folder (folder_at c place).messages (ordered job.reverse numbers))) known
          (shown_gives (lined_now text) (read_view_ v names) h (ordered job.reverse numbers) same (all_there v names (ordered job.reverse numbers) same t fresh inside) (apart_ordered job.reverse numbers (chosen_apart job.negation names (marks_now text) numbers is)) known next)))
      after_chosen names text (Err e) t reads is =
          let r = refuses (folder_with job.negation (numbers_listed names) (marks_now text)) job.specs e is in
          let w : whole_work ≡ refused_at box e = work_there t.there ∙ ap (sequences_read box path es job (folder_at c place)) reads ∙ ap (chosen_shown (lined_now text) box path es job (folder_at c place)) (same_chosen names text t ∙ is) in
          ends_at e r.0 (read_view_ v names) h whole_work.text w r.1 refl same

      after_text : (names : List (List ℕ)) (text : List ℕ) → Tells c place names → readable (folder_at c place).sequences ≡ Ok text → Aim (read_view_ v names) h (then_chosen names text)
      unfolding Gives bind ◌>>=◌
      after_text names text t reads = subst (λ o. Aim (read_view_ v names) h (after (then_shown text) (chosen_by job names text (entries_seen o)))) (sym known) (after_chosen names text (chosen_now names text) t reads refl)

      after_names : (names : List (List ℕ)) → Tells c place names → Aim (listed_view v names) h (then_read names)
      after_names names t =
          gives_on (by_view alone) (listed_view v names) h whole_work.text (text_read place (entry_text Sequences)) (λ text. then_chosen names text) (TextRead (listed_view v names) place (entry_text Sequences) h whole_work.text) (ScanEnds alone whole_work)
          (text_gives alone (listed_view v names) place (entry_text Sequences) h whole_work.text (λ beside. sequences_unseen v names (fresh beside) (unseen beside)))
          (λ z j left text r. on z j left text r) (λ z j left e r. off z j left e r)
        where
          text_at : (listed_view v names).contents.texts place (entry_text Sequences) ≡ (folder_at c place).sequences
          text_at = ap (λ d. d.texts place (entry_text Sequences)) same

          on : (z : View) (j : Hand) (left text : List ℕ) → TextRead (listed_view v names) place (entry_text Sequences) h whole_work.text z j left (Ok text) → Gives (by_view alone) z j left (then_chosen names text) (ScanEnds alone whole_work)
          on z j left text r = rw (r.view, r.hand, r.rest) (after_text names text t (sym (r.value ∙ ap readable text_at)))

          off : (z : View) (j : Hand) (left : List ℕ) (e : CommandFault) → TextRead (listed_view v names) place (entry_text Sequences) h whole_work.text z j left (Err e) → ScanEnds alone whole_work z j left (Err e)
          off z j left e r =
              let is : Err e ≡ readable (folder_at c place).sequences = r.value ∙ ap readable text_at in
              let what = unreadable (folder_at c place).sequences e is in
              let w : whole_work ≡ refused_at box e = work_there t.there ∙ ap (sequences_read box path es job (folder_at c place)) (sym is) in
              ends_at e (refusal.TooLarge what.0 LIMIT_BYTES) z j left w what.1 r.rest (ap (λ y. y.contents) r.view ∙ same)

      pub scan_gives : Aim v h (scan run path job)
      unfolding scan
      scan_gives =
          gives_on (by_view alone) v h whole_work.text (folder_listed place job.folder) (λ names. then_read names) (FolderListed v place job.folder h whole_work.text) (ScanEnds alone whole_work)
          (folder_gives alone v place job.folder h whole_work.text fresh) (λ z j left names l. on z j left names l) (λ z j left e a. off z j left e a)
        where
          on : (z : View) (j : Hand) (left : List ℕ) (names : List (List ℕ)) → IsListed v place h whole_work.text names z j left → Gives (by_view alone) z j left (then_read names) (ScanEnds alone whole_work)
          on z j left names l = rw (l.view, l.hand, l.rest) (after_names names (subst (λ d. Tells d place names) same l.tells))

          off : (z : View) (j : Hand) (left : List ℕ) (e : CommandFault) → IsAbsent v place job.folder h whole_work.text e z j left → ScanEnds alone whole_work z j left (Err e)
          off z j left e a =
              let none : c.there place ≡ false = ap (λ d. d.there place) (sym same) ∙ a.none in
              let w : whole_work ≡ refused_at box e = work_absent none ∙ ap (refused_at box) (sym a.fault) in
              ends_at e (refusal.NoFolder job.folder) z j left w a.fault a.rest (a.contents ∙ same)
