-- What `refile` does alone with folders that were begun: the chosen messages go, and the marks are committed.
use Rattle.std.proofs.Common.{◌≡◌, inl, inr, ◌<◌, ◌^◌, ◌∷◌, [], ℕ, Bool, true, false, List, Some, None, Result, Ok, Err, refl, sym, ◌∙◌, ap, subst, length}
use Rattle.std.specs.Prelude.{decimal, is_some}
use Rattle.mh_base.specs.Folders.{is_folder_name}
use Rattle.mh_profile.specs.Reading.{entries_in}
use Rattle.mh_sequences.specs.Sequences.{Marked}
use Rattle.mh_sequences.proofs.Suffixes.{suffix_clean}
use Rattle.msg_ranges.proofs.Rising.{Rise, lists}
use Rattle.mh_base.specs.Entries.{kind_of}
use Rattle.folder_files.specs.Named.{is_held, is_number}
use Rattle.folder_files.specs.declared.place.Place.{Place}
use Rattle.folder_files.specs.declared.place.Place.TheVariants.{Folder, Mail}
use Rattle.folder_files.specs.declared.refusal.Refusal.{Refusal}
use Rattle.file_plans.specs.Contents.{Contents, filled, mailbox_in}
use Rattle.file_plans.specs.Giving.{Gives}
use Rattle.file_plans.specs.Plan.{Hand, Plan, Return, converted, lifted, ◌>>=◌}
use Rattle.file_plans.specs.Views.{View, by_view}
use Rattle.file_plans.proofs.Framing.{gives_quietly}
use Rattle.file_plans.proofs.Giving.{gives_more, gives_on}
use Rattle.file_plans.proofs.Onward.{Is, IsShort}
use Rattle.file_plans.proofs.Showing.{context_no_number}
use Rattle.folder_files.proofs.Names.{bytes_self, is_committed_quiet, is_temp_unheld, is_temp_unnumbered, or_false}
use Rattle.step_plans.specs.ContextCommit.{LIMIT_BYTES, context_name}
use Rattle.step_plans.specs.Locking.{lock_name}
use Rattle.step_plans.specs.Replacing.{synced}
use Rattle.step_plans.specs.declared.command_fault.CommandFault.{CommandFault}
use Rattle.step_plans.specs.declared.command_fault.CommandFault.TheVariants as command
use Rattle.step_plans.specs.declared.fault.PlanFault.{PlanFault}
use Rattle.step_plans.specs.declared.fault.PlanFault.TheVariants as plan
use Rattle.step_plans.proofs.Replaced.{Fails, Leaves, synced_gives}
use Rattle.sequence_commits.specs.Committing.{changed_sequences}
use Rattle.sequence_commits.proofs.MarkedOnce.{marked_valid}
use Rattle.command_stages.specs.Endings.{of_plan}
use Rattle.command_stages.specs.Texts.{too_large}
use Rattle.command_stages.specs.Works.{Work, refused_at}
use Rattle.opening_plans.specs.BegunWork.{after_commits}
use Rattle.opening_plans.specs.Kept.{Commits, Kept, sequences_kept}
use Rattle.opening_plans.proofs.KeptGiven.{Ends, Holds, IsClear}
use Rattle.opening_plans.proofs.WorkGiven.{WorkEnds, current_gives, lifted_gives, sequences_give, weaker}
use Rattle.message_moves.specs.Copying.{messages_copied}
use Rattle.message_moves.specs.Refiling.{messages_refiled}
use Rattle.message_moves.specs.declared.destination.Destination.{Destination}
use Rattle.message_moves.proofs.RefiledGiven.{IsElsewhere}
use Rattle.refile_plans.specs.MailMoved.{Moves, copied_from, gone_from, mail_moved}
use Rattle.refile_plans.specs.Refile.{current_if}
use Rattle.refile_plans.specs.RefileOutcome.{set_work}
use Rattle.refile_plans.specs.Rmm.{withdrawn}
use Rattle.refile_plans.proofs.MovedEntries.{moved_entries}
use Rattle.refile_plans.proofs.MovedGiven.{AreReady, Moved, copies_go, messages_go}
use Rattle.refile_plans.proofs.Roomy.{AreRoomy}
use Rattle.refile_plans.proofs.Distinct.{IsFilled}
use Rattle.mh_base.proofs.NumberTests.{AreNumbers}

-- the context is no held message's name
pub context_unheld : is_held (kind_of context_name) ≡ false
context_unheld = (or_false (is_number (kind_of context_name)) (is_held (kind_of context_name)) (is_committed_quiet (Mail []) context_name (bytes_self context_name))).1

-- what the definitions come to
pub after_all : (c : Commits) (next : Kept → Work CommandFault) → c.long ≡ None → after_commits c next ≡ next c.kept
after_all c next none = rw none refl

pub after_long : (c : Commits) (next : Kept → Work CommandFault) (l : ℕ) → c.long ≡ Some l → after_commits c next ≡ refused_at c.kept.mailbox (too_large l)
after_long c next l some = rw some refl

module _ (run : ℕ) (few : run < 2 ^ 128) (path source : List ℕ) where
  abbrev p : Place
  p = Folder path source

  abbrev mail : Place
  mail = Mail path

  -- so far all is done, and the work goes on so; or it has ended
  abbrev pub Leads : Work CommandFault → (Kept → Work CommandFault) → View → Hand → List ℕ → Result Unit CommandFault → Type 0
  Leads w next z j left (Ok u) = (left ≡ []) × ((k : Kept) × (w ≡ next k) × ((d : Contents) × Is true z.numbers z d × Holds (λ e. Unit {0}) path k d j))
  Leads w next z j left (Err e) = WorkEnds w z j left (Err e)

  -- a refusal where this is the mailbox
  pub refused_so : (w : Work CommandFault) (next : Kept → Work CommandFault) (r : Refusal) (k : Kept) (d : Contents) (z : View) (j : Hand) → w ≡ refused_at k.mailbox (command.Refused r) → mailbox_in d ≡ k.mailbox → Is true z.numbers z d
      → Leads w next z j [] (Err (command.Refused r))
  refused_so w next r k d z j is shows at = subst (λ x. Leads x next z j [] (Err (command.Refused r))) (sym is) (refl, refl, ap mailbox_in (at.0 refl) ∙ shows)

  -- the source becomes the current folder, where it is to
  module _ (valid : is_folder_name source ≡ true) where
    -- it becomes that, or nothing is done
    set_gives : (b : Bool) (k : Kept) (d : Contents) (z : View) (j : Hand) → Is true z.numbers z d → Holds (λ e. Unit {0}) path k d j → Gives (by_view true) z j [] (current_if b run path source) (WorkEnds (set_work b path source k))
    unfolding Gives
    set_gives true k d z j is holds = current_gives run few path source valid z.numbers [] k d z j is holds
    set_gives false k d z j is holds = (refl, refl, ap mailbox_in (is.0 refl) ∙ holds.shows)

    -- and then the command ends
    pub leads_on : (b : Bool) (w : Work CommandFault) (said : Plan (Result Unit CommandFault)) (z : View) (j : Hand) → Gives (by_view true) z j [] said (Leads w (set_work b path source))
        → Gives (by_view true) z j [] (said >>= (λ moved. current_if b run path source)) (WorkEnds w)
    leads_on b w said z j gives =
        gives_on (by_view true) z j [] said (λ moved. current_if b run path source) (Leads w (set_work b path source)) (WorkEnds w) gives
        (λ y i left u f.
        subst (λ t. Gives (by_view true) y i t (current_if b run path source) (WorkEnds w)) (sym f.0)
        (subst (λ x. Gives (by_view true) y i [] (current_if b run path source) (WorkEnds x)) (sym f.1.1) (set_gives b f.1.0 f.1.2.0 y i f.1.2.1 f.1.2.2)))
        (λ y i left e f. f)

  -- a commit, and the work goes on
  abbrev Clear : Contents → Type 0
  Clear c = IsClear c p

  -- how the commit ended decides
  commit_leads : (ns : List ℕ) (commits : Commits) (next : Kept → Work CommandFault) (w : Work CommandFault) → w ≡ after_commits commits next → (y : View) (i : Hand) (left : List ℕ) (q : Result Unit PlanFault) → left ≡ [] → Ends Clear path ns commits y i q
      → Leads w next y i left (converted (of_plan source) q)
  commit_leads ns commits next w is y i left (Ok u) none e =
      (none, (commits.kept, is ∙ after_all commits next e.0, (e.1.0, (e.1.1.0, refl), weaker run few path source Clear commits.kept e.1.0 i e.1.2)))
  commit_leads ns commits next w is y i left (Err plan.Faulted) none e = e
  commit_leads ns commits next w is y i left (Err (plan.Locked q)) none e = absurd e
  commit_leads ns commits next w is y i left (Err (plan.Meddled q x)) none e = e
  commit_leads ns commits next w is y i left (Err plan.Full) none e = absurd e
  commit_leads ns commits next w is y i left (Err (plan.Absent q)) none e = absurd e
  commit_leads ns commits next w is y i left (Err (plan.TooLarge l)) none e =
      subst (λ x. WorkEnds x y i left (Err (too_large l))) (sym (is ∙ after_long commits next l e.0)) (none, refl, e.1)
  commit_leads ns commits next w is y i left (Err plan.Memory) none e = tt

  -- the work on folders that were begun
  module _ (k : Kept) (c : Contents) (h : Hand) (holds : Holds (λ e. Unit {0}) path k c h) (clear : IsClear c p) (to : List Destination) (away : IsElsewhere p to) where
    module _ (numbers : List ℕ) (rise : Rise 1 numbers) (all : AreNumbers numbers) (stand : (n : ℕ) → lists numbers n ≡ true → is_some (c.texts p (decimal n)) ≡ true) (rooms : AreRoomy path c to (length numbers)) where
      -- the messages are ready
      ready : AreReady run few path source c to numbers
      ready = record { there = clear.there; off = away; rooms = rooms; stand = stand }

      module _ (moves : Moves) where
        -- what they come to
        abbrev commits : Commits
        commits = mail_moved moves p numbers to k

        -- all messages went
        holds_moved : (F : Contents → Type 0) (y : View) (i : Hand) (es : List Destination) (f : Moved commits c h y i [] (Ok es)) → F f.1.0 → Holds F path commits.kept f.1.0 i
        holds_moved F y i es f still = record {
          shows = f.1.2;
          entries = moved_entries moves p numbers to k ∙ (holds.entries ∙ sym (ap (λ t. entries_in (filled t)) context_same));
          known = f.1.4 ∙ (holds.known ∙ ap (λ x. Some x) (sym (moved_entries moves p numbers to k)));
          short = subst (IsShort LIMIT_BYTES) (sym context_same) holds.short;
          still = still;
        }
          where
            context_same : f.1.0.texts mail context_name ≡ c.texts mail context_name
            context_same = f.1.3.names mail context_name context_no_number context_unheld

        -- the source stays clear
        clear_moved : (y : View) (i : Hand) (es : List Destination) (f : Moved commits c h y i [] (Ok es)) → IsClear f.1.0 p
        clear_moved y i es f = record { there = f.1.3.there p ∙ clear.there; free = λ x t. f.1.3.names p x (is_temp_unnumbered x t) (is_temp_unheld x t) ∙ clear.free x t }

        -- or not all
        not_moved : (next : Kept → Work CommandFault) (w : Work CommandFault) → w ≡ after_commits commits next → (y : View) (i : Hand) (e : CommandFault) → Moved commits c h y i [] (Err e) → WorkEnds w y i [] (Err e)
        not_moved next w is y i e (inl memory) = subst (λ x. WorkEnds w y i [] (Err x)) (sym memory) tt
        not_moved next w is y i e (inr f) =
            subst (λ x. WorkEnds w y i [] (Err x)) (sym f.2)
            (subst (λ x. WorkEnds x y i [] (Err (too_large f.0))) (sym (is ∙ after_long commits next f.0 f.1)) (refl, refl, f.3))

      -- they are copied, and stay
      module _ (next : Kept → Work CommandFault) where
        -- what it comes to
        abbrev stay_work : Work CommandFault
        stay_work = after_commits (mail_moved copied_from p numbers to k) next

        -- so it is
        pub stay_gives : (z : View) → Is true z.numbers z c → Gives (by_view true) z h [] (messages_copied run source p numbers to >>= (λ copied. Return (Ok tt))) (Leads stay_work next)
        unfolding Gives
        stay_gives z is =
            gives_quietly (by_view true) z h [] (messages_copied run source p numbers to) (λ copied. Return (Ok tt)) (Moved (mail_moved copied_from p numbers to k) c h) (Leads stay_work next)
            (copies_go run few path source numbers 1 rise all to c ready k holds.shows z.numbers z h [] is)
            (λ y i es f. (refl, ((mail_moved copied_from p numbers to k).kept, after_all (mail_moved copied_from p numbers to k) next f.0, (f.1.0, f.1.1, holds_moved copied_from (λ e. Unit {0}) y i es f tt))))
            (λ y i e f. not_moved copied_from next stay_work refl y i e f)

      -- they leave, and the source's sequences are committed
      module _ (m : Marked) (next : Kept → Work CommandFault) where
        -- the sequences without them
        abbrev new : Marked
        new = withdrawn numbers m

        -- their commit
        abbrev commit : Kept → Commits
        commit l = sequences_kept path source m new l

        -- what the moves come to
        abbrev left_moves : Commits
        left_moves = mail_moved (gone_from run p) p numbers to k

        -- what it comes to
        abbrev left_work : Work CommandFault
        left_work = after_commits left_moves (λ l. after_commits (commit l) next)

        abbrev then_commit : Plan (Result Unit CommandFault)
        then_commit = lifted (of_plan source) (changed_sequences run p mail source m new)

        abbrev then_safe : Plan (Result Unit CommandFault)
        then_safe = lifted (of_plan source) (synced p lock_name) >>= (λ safe. then_commit)

        -- the commit
        commit_gives : (y : View) (i : Hand) (d : Contents) → left_moves.long ≡ None → Is true y.numbers y d → Holds Clear path left_moves.kept d i → Gives (by_view true) y i [] then_commit (Leads left_work next)
        commit_gives y i d short is good =
            gives_more (by_view true) y i [] then_commit (λ x j left r. (left ≡ []) × ((q : Result Unit PlanFault) × (r ≡ converted (of_plan source) q) × Ends Clear path y.numbers (commit left_moves.kept) x j q)) (Leads left_work next)
            (lifted_gives y i [] (of_plan source) (changed_sequences run p mail source m new) (λ x j left r. Ends Clear path y.numbers (commit left_moves.kept) x j r)
            (sequences_give run few path source (suffix_clean source) m new (marked_valid _ m) y.numbers left_moves.kept d y i is good []))
            (λ x j left r g.
            subst (λ q. Leads left_work next x j left q) (sym g.1.1)
            (commit_leads y.numbers (commit left_moves.kept) next left_work (after_all left_moves (λ l. after_commits (commit l) next) short) x j left g.1.0 g.0 g.1.2))

        -- a folder that is there is made safe, or memory is wanting
        unsafe : (x : View) (j : Hand) (left : List ℕ) (e : PlanFault) (i : Hand) → Fails true i e → WorkEnds left_work x j left (Err (of_plan source e))
        unsafe x j left plan.Faulted i f = f
        unsafe x j left (plan.Locked q) i f = absurd (f refl)
        unsafe x j left (plan.Meddled q n) i f = f refl
        unsafe x j left plan.Full i f = absurd f
        unsafe x j left (plan.Absent q) i f = absurd f
        unsafe x j left (plan.TooLarge l) i f = absurd f
        unsafe x j left plan.Memory i f = tt

        -- the source is made safe, and then comes the commit
        safe_gives : (y : View) (i : Hand) (d : Contents) → left_moves.long ≡ None → Is true y.numbers y d → Holds Clear path left_moves.kept d i → Gives (by_view true) y i [] then_safe (Leads left_work next)
        safe_gives y i d short is good =
            gives_on (by_view true) y i [] (lifted (of_plan source) (synced p lock_name)) (λ safe. then_commit) Synced (Leads left_work next)
            (lifted_gives y i [] (of_plan source) (synced p lock_name) (Leaves true y.numbers d i (Fails true i)) (synced_gives true y.numbers p i lock_name y d i [] is (λ e. good.still.there)))
            (λ x j left u g. on x j left g.0 g.1.0 g.1.1 g.1.2)
            (λ x j left e g. off x j left e g.1.0 g.1.1 g.1.2)
          where
            Synced : View → Hand → List ℕ → Result Unit CommandFault → Type 0
            Synced x j left r = (left ≡ []) × ((q : Result Unit PlanFault) × (r ≡ converted (of_plan source) q) × Leaves true y.numbers d i (Fails true i) x j [] q)

            on : (x : View) (j : Hand) (left : List ℕ) → left ≡ [] → (q : Result Unit PlanFault) → Ok tt ≡ converted (of_plan source) q → Leaves true y.numbers d i (Fails true i) x j [] q → Gives (by_view true) x j left then_commit (Leads left_work next)
            on x j left same (Ok u) r f =
                subst (λ t. Gives (by_view true) x j t then_commit (Leads left_work next)) (sym same)
                (subst (λ l. Gives (by_view true) x l [] then_commit (Leads left_work next)) (sym f.hand) (commit_gives x i d short (f.is.0, refl) good))
            on x j left same (Err e) r f = absurd (cc (r))

            off : (x : View) (j : Hand) (left : List ℕ) (e : CommandFault) (q : Result Unit PlanFault) → Err e ≡ converted (of_plan source) q → Leaves true y.numbers d i (Fails true i) x j [] q → WorkEnds left_work x j left (Err e)
            off x j left e (Ok u) r f = absurd (cc (r))
            off x j left e (Err a) r f = let is_ : e ≡ of_plan source a = cc (r) in subst (λ b. WorkEnds left_work x j left (Err b)) (sym is_) (unsafe x j left a i f)

  -- the messages leave for the other folders, of which there is one at least
  pub leave_gives : (k : Kept) (c : Contents) (h : Hand) (holds : Holds (λ e. Unit {0}) path k c h) (clear : IsClear c p) (to : List Destination) → IsFilled to → (away : IsElsewhere p to)
      → (numbers : List ℕ) (rise : Rise 1 numbers) (all : AreNumbers numbers) (stand : (n : ℕ) → lists numbers n ≡ true → is_some (c.texts p (decimal n)) ≡ true) (rooms : AreRoomy path c to (length numbers)) (m : Marked) (next : Kept → Work CommandFault)
      → (z : View) → Is true z.numbers z c → Gives (by_view true) z h [] (messages_refiled run source p numbers to >>= (λ gone. then_safe k c h holds clear to away numbers rise all stand rooms m next))
      (Leads (left_work k c h holds clear to away numbers rise all stand rooms m next) next)
  leave_gives k c h holds clear [] filled away numbers rise all stand rooms m next z is = absurd filled
  leave_gives k c h holds clear (d ∷ ds) filled away numbers rise all stand rooms m next z is =
      gives_quietly (by_view true) z h [] (messages_refiled run source p numbers (d ∷ ds)) (λ gone. then_safe k c h holds clear (d ∷ ds) away numbers rise all stand rooms m next) (Moved (mail_moved (gone_from run p) p numbers (d ∷ ds) k) c h)
      (Leads (left_work k c h holds clear (d ∷ ds) away numbers rise all stand rooms m next) next)
      (messages_go run few path source numbers 1 rise all d ds c (ready k c h holds clear (d ∷ ds) away numbers rise all stand rooms) k holds.shows z.numbers z h [] is)
      (λ y i es f.
      safe_gives k c h holds clear (d ∷ ds) away numbers rise all stand rooms m next y i f.1.0 f.0 f.1.1
      (holds_moved k c h holds clear (d ∷ ds) away numbers rise all stand rooms (gone_from run p) Clear y i es f (clear_moved k c h holds clear (d ∷ ds) away numbers rise all stand rooms (gone_from run p) y i es f)))
      (λ y i e f.
      not_moved k c h holds clear (d ∷ ds) away numbers rise all stand rooms (gone_from run p) (λ l. after_commits (commit k c h holds clear (d ∷ ds) away numbers rise all stand rooms m next l) next)
      (left_work k c h holds clear (d ∷ ds) away numbers rise all stand rooms m next) refl y i e f)
