-- What such a command gives alone: what it comes to on the mailbox that it finds.
use Rattle.std.proofs.Common.{◌≡◌, ◌∷◌, [], ◌<◌, ◌^◌, ℕ, true, false, List, Some, None, Result, Ok, Err, refl, sym, ◌∙◌, ap, subst}
use Rattle.std.specs.List.{list_all}
use Rattle.mail_headers.specs.Lines.{is_name_byte}
use Rattle.mh_sequences.proofs.Suffixes.{suffix_clean}
use Rattle.told_folders.proofs.FrontGiven.{front_gives}
use Rattle.told_folders.proofs.ToldAlone.{GivesWork}
use Rattle.mh_profile.specs.declared.named_value.NamedValue.{NamedValue}
use Rattle.mh_sequences.specs.Reading.{suffix}
use Rattle.mh_sequences.specs.Sequences.{AreSequences, Marked}
use Rattle.mh_sequences.specs.declared.run.Run.{Run}
use Rattle.folder_files.specs.declared.place.Place.{Place}
use Rattle.folder_files.specs.declared.place.Place.TheVariants.{Folder, Mail}
use Rattle.folder_files.specs.declared.refusal.Refusal.{Refusal}
use Rattle.folder_files.specs.declared.refusal.Refusal.TheVariants as refusal
use Rattle.file_plans.specs.Contents.{Contents, mailbox_in}
use Rattle.file_plans.specs.Giving.{Gives}
use Rattle.file_plans.specs.Plan.{Hand, Plan, Return, bind, converted, lifted, say, ◌>>=◌}
use Rattle.file_plans.specs.Views.{View, by_view}
use Rattle.file_plans.proofs.Giving.{gives_on}
use Rattle.step_plans.specs.declared.command_fault.CommandFault.{CommandFault}
use Rattle.step_plans.specs.declared.command_fault.CommandFault.TheVariants as fault
use Rattle.step_plans.specs.declared.fault.PlanFault.{PlanFault}
use Rattle.step_plans.specs.declared.fault.PlanFault.TheVariants as plan
use Rattle.mh_base.specs.Folders.{is_folder_name}
use Rattle.file_plans.proofs.Onward.{Is}
use Rattle.command_stages.specs.Current.{made_current}
use Rattle.command_stages.specs.Endings.{of_plan}
use Rattle.command_stages.specs.Works.{Work}
use Rattle.command_stages.specs.Chosen.{folder_with}
use Rattle.command_stages.specs.Texts.{too_large}
use Rattle.command_stages.specs.Works.{refused_at}
use Rattle.mh_looks.proofs.Scanning.{refuses}
use Rattle.mh_sequences.specs.Printing.{private_entries}
use Rattle.mh_sequences.specs.Runs.{numbers_of}
use Rattle.mh_sequences.proofs.ContextEntries.{valid_entries}
use Rattle.msg_ranges.specs.Selection.{marks_of}
use Rattle.sequence_commits.specs.Committing.{changed_sequences}
use Rattle.sequence_commits.specs.PrivateChanges.{private_changes}
use Rattle.sequence_commits.proofs.ChangesTo.{are_changes}
use Rattle.step_plans.specs.ContextCommit.{AreChanges}
use Rattle.opening_plans.specs.BegunWork.{AreHomesAt, Homes, after_commits, current_work}
use Rattle.opening_plans.specs.Kept.{Commits, Kept, sequences_kept}
use Rattle.opening_plans.specs.Opening.{Opened, with_sequences}
use Rattle.opening_plans.proofs.BegunWorks.{clear_context, clear_text}
use Rattle.opening_plans.specs.BegunWork.{runs_in}
use Rattle.opening_plans.specs.Kept.{kept_of}
use Rattle.file_plans.specs.Contents.{folder_at}
use Rattle.file_plans.specs.Mailboxes.{Folder as FolderValue}
use Rattle.file_plans.proofs.Onward.{IsShort}
use Rattle.step_plans.specs.ContextCommit.{LIMIT_BYTES, context_name}
use Rattle.step_plans.proofs.Committed.{entries_at}
use Rattle.command_stages.specs.Works.{readable}
use Rattle.sequence_commits.specs.Cutting.{cut_to}
use Rattle.sequence_commits.specs.Reading.{sequences_in}
use Rattle.opening_plans.proofs.FolderGiven.{IsUntouched}
use Rattle.opening_plans.proofs.KeptGiven.{Ends, Holds, IsClear, sequences_end}
use Rattle.opening_plans.proofs.WorkGiven.{WorkEnds, changes_give, current_gives, lifted_gives, weaker}
use Rattle.told_folders.specs.Outcomes.{changed_work, chosen_work, joined, listed_work, looked_work, opened_work, read_work, told_work}
use Rattle.told_folders.specs.Plans.{chosen_changed, folder_changed, folder_looked, lines_said, opened_told}
use Rattle.told_folders.specs.Tasks.{AreSome, IsOrderly, Task, checked, checked_by, chosen_from, listed_runs, sequences_listed, sequences_seen, unless_refused}

-- the lines are said
abbrev pub Told : View → Hand → View → Hand → List ℕ → Result Unit CommandFault → Type 0
Told v h z j left r = (r ≡ Ok tt) × (z ≡ v) × (j ≡ h) × (left ≡ [])

pub lines_give : (v : View) (h : Hand) (lines : List (List ℕ)) → AreSome lines → Gives (by_view true) v h (joined lines) (lines_said lines) (Told v h)
unfolding Gives lines_said say lifted bind ◌>>=◌
lines_give v h [] f = (refl, refl, refl, refl)
lines_give v h (l ∷ ls) f = (f.0, (joined ls, refl, lines_give v h ls f.1))

module _ (run : ℕ) (few : run < 2 ^ 128) (path : List ℕ) (task : Task) (orderly : IsOrderly task) (valid : is_folder_name task.folder ≡ true) where
  abbrev p : Place
  p = Folder path task.folder

  abbrev mail : Place
  mail = Mail path

  -- the lines are said, and then the folder becomes the current one
  abbrev said : List Run → Marked → List ℕ
  said listing m = joined (task.lines listing m)

  listed_gives : (ns : List ℕ) (listing : List Run) (m : Marked) (k : Kept) (c : Contents) (z : View) (j : Hand) → Is true ns z c → Holds (λ d. Unit {0}) path k c j
      → Gives (by_view true) z j (said listing m) (lines_said (task.lines listing m) >>= (λ told. made_current run path task.folder)) (WorkEnds (current_work path task.folder (said listing m) k))
  listed_gives ns listing m k c z j is holds =
      gives_on (by_view true) z j (said listing m) (lines_said (task.lines listing m)) (λ told. made_current run path task.folder) (Told z j) (WorkEnds (current_work path task.folder (said listing m) k))
      (lines_give z j (task.lines listing m) (orderly.lines listing m))
      (λ y i left u g. rw (g.1, g.2, g.3) (current_gives run few path task.folder valid ns (said listing m) k c z j is holds))
      (λ y i left e g. absurd (cc (g.0)))

  abbrev Clear : Contents → Type 0
  Clear c = IsClear c p

  -- the work on a folder that was begun
  module _ (clean : list_all is_name_byte (suffix task.folder) ≡ true) (o : Opened) (place : o.place ≡ p) (name : o.folder ≡ task.folder) (users : AreSequences o.sequences.users)
      (ns : List ℕ) (k : Kept) (c : Contents) (z : View) (j : Hand) (is : Is true ns z c) (holds : Holds Clear path k c j) where
    abbrev made : List ℕ → Marked
    made numbers = task.becomes o.listing numbers o.sequences

    made_valid : (numbers : List ℕ) → AreSequences (made numbers).users
    made_valid numbers = orderly.valid o.listing numbers o.sequences users

    changes_valid : (numbers : List ℕ) (es : List NamedValue) → AreChanges (private_changes task.folder (made numbers).users es)
    changes_valid numbers es = are_changes (suffix task.folder) (private_entries (suffix task.folder) (made numbers).users) es (valid_entries (suffix task.folder) (made numbers).users clean (made_valid numbers))

    abbrev commits : List ℕ → Commits
    commits numbers = sequences_kept path task.folder o.sequences (made numbers) k

    commit_gives : (numbers : List ℕ) → Gives (by_view true) z j [] (changed_sequences run o.place mail o.folder o.sequences (made numbers)) (λ y i left r. Ends Clear path ns (commits numbers) y i r)
    commit_gives numbers =
        subst (λ q. Gives (by_view true) z j [] (changed_sequences run q mail o.folder o.sequences (made numbers)) (λ y i left r. Ends Clear path ns (commits numbers) y i r)) (sym place)
        (subst (λ n. Gives (by_view true) z j [] (changed_sequences run p mail n o.sequences (made numbers)) (λ y i left r. Ends Clear path ns (commits numbers) y i r)) (sym name)
        (sequences_end Clear path ns (clear_context path task.folder) run few task.folder o.sequences (made numbers) (changes_valid numbers) (clear_text path task.folder) k c j holds z is holds.still []))

    abbrev work_then : List ℕ → Work CommandFault
    work_then numbers = after_commits (commits numbers) (told_work path task o.listing (made numbers))

    work_made : (numbers : List ℕ) → (commits numbers).long ≡ None → work_then numbers ≡ told_work path task o.listing (made numbers) (commits numbers).kept
    work_made numbers none = rw none refl

    work_long : (numbers : List ℕ) (l : ℕ) → (commits numbers).long ≡ Some l → work_then numbers ≡ refused_at (commits numbers).kept.mailbox (too_large l)
    work_long numbers l some = rw some refl

    -- the sequences are committed
    abbrev AfterMarks : List ℕ → View → Hand → List ℕ → Result Opened CommandFault → Type 0
    AfterMarks numbers y i left (Ok q) = (q ≡ with_sequences (made numbers) o) × (left ≡ (work_then numbers).text) × ((commits numbers).long ≡ None) × ((d : Contents) × Is true ns y d × Holds Clear path (commits numbers).kept d i)
    AfterMarks numbers y i left (Err e) = WorkEnds (work_then numbers) y i left (Err e)

    refused_then : (numbers : List ℕ) (y : View) (i : Hand) (left : List ℕ) (e : PlanFault) → left ≡ (work_then numbers).text → Ends Clear path ns (commits numbers) y i (Err e) → WorkEnds (work_then numbers) y i left (Err (of_plan task.folder e))
    refused_then numbers y i left plan.Faulted same f = f
    refused_then numbers y i left (plan.Locked q) same f = absurd f
    refused_then numbers y i left (plan.Meddled q x) same f = f
    refused_then numbers y i left plan.Full same f = absurd f
    refused_then numbers y i left (plan.Absent q) same f = absurd f
    refused_then numbers y i left (plan.TooLarge l) same f =
        let w = work_long numbers l f.0 in
        (same ∙ ap (λ x. x.text) w, ap (λ x. x.end) w, f.1 ∙ sym (ap (λ x. x.mailbox) w))
    refused_then numbers y i left plan.Memory same f = tt

    marks_give : (numbers : List ℕ) → Gives (by_view true) z j (work_then numbers).text
        (lifted (of_plan task.folder) (changed_sequences run o.place mail o.folder o.sequences (made numbers)) >>= (λ done. Return (Ok (with_sequences (made numbers) o)))) (AfterMarks numbers)
    unfolding Gives
    marks_give numbers =
        gives_on (by_view true) z j (work_then numbers).text (lifted (of_plan task.folder) (changed_sequences run o.place mail o.folder o.sequences (made numbers))) (λ done. Return (Ok (with_sequences (made numbers) o)))
        (λ y i left r. (left ≡ (work_then numbers).text) × ((q : Result Unit PlanFault) × (r ≡ converted (of_plan task.folder) q) × Ends Clear path ns (commits numbers) y i q)) (AfterMarks numbers)
        (lifted_gives z j (work_then numbers).text (of_plan task.folder) (changed_sequences run o.place mail o.folder o.sequences (made numbers)) (λ y i left r. Ends Clear path ns (commits numbers) y i r) (commit_gives numbers))
        (λ y i left u g. good y i left g.1.0 g.0 (g.1.1) g.1.2)
        (λ y i left e g. bad y i left e g.1.0 g.0 (g.1.1) g.1.2)
      where
        good : (y : View) (i : Hand) (left : List ℕ) (q : Result Unit PlanFault) → left ≡ (work_then numbers).text → Ok tt ≡ converted (of_plan task.folder) q → Ends Clear path ns (commits numbers) y i q
            → AfterMarks numbers y i left (Ok (with_sequences (made numbers) o))
        good y i left (Ok u) same r e = (refl, same, e.0, e.1)
        good y i left (Err x) same r e = absurd (cc (r))

        bad : (y : View) (i : Hand) (left : List ℕ) (e : CommandFault) (q : Result Unit PlanFault) → left ≡ (work_then numbers).text → Err e ≡ converted (of_plan task.folder) q → Ends Clear path ns (commits numbers) y i q
            → WorkEnds (work_then numbers) y i left (Err e)
        bad y i left e (Ok u) same r f = absurd (cc (r))
        bad y i left e (Err x) same r f = let is_ : e ≡ of_plan task.folder x = cc (r) in subst (λ q. WorkEnds (work_then numbers) y i left (Err q)) (sym is_) (refused_then numbers y i left x same f)

    -- then they are listed, and the folder becomes the current one
    abbrev then_listed : Opened → Plan (Result Unit CommandFault)
    then_listed marked = lines_said (task.lines marked.listing marked.sequences) >>= (λ told. made_current run path task.folder)

    rest_gives : (numbers : List ℕ) → Gives (by_view true) z j (work_then numbers).text
        ((lifted (of_plan task.folder) (changed_sequences run o.place mail o.folder o.sequences (made numbers)) >>= (λ done. Return (Ok (with_sequences (made numbers) o)))) >>= then_listed) (WorkEnds (work_then numbers))
    rest_gives numbers =
        gives_on (by_view true) z j (work_then numbers).text (lifted (of_plan task.folder) (changed_sequences run o.place mail o.folder o.sequences (made numbers)) >>= (λ done. Return (Ok (with_sequences (made numbers) o)))) then_listed (AfterMarks numbers) (WorkEnds (work_then numbers))
        (marks_give numbers)
        (λ y i left q g.
        let w = work_made numbers g.2 in
        subst (λ x. Gives (by_view true) y i left (then_listed x) (WorkEnds (work_then numbers))) (sym g.0)
        (subst (λ t. Gives (by_view true) y i t (then_listed (with_sequences (made numbers) o)) (WorkEnds (work_then numbers))) (sym g.1)
        (subst (λ x. Gives (by_view true) y i x.text (then_listed (with_sequences (made numbers) o)) (WorkEnds x)) (sym w)
        (listed_gives ns o.listing (made numbers) (commits numbers).kept g.3.0 y i g.3.1 (weaker run few path task.folder Clear (commits numbers).kept g.3.0 i g.3.2)))))
        (λ y i left e g. g)

    by_value : (value : Result (List ℕ) CommandFault) → chosen_from task o.listing o.sequences ≡ value → Gives (by_view true) z j (chosen_work path task o.listing o.sequences k value).text
        ((Return value >>= (λ numbers. lifted (of_plan task.folder) (changed_sequences run o.place mail o.folder o.sequences (made numbers)) >>= (λ done. Return (Ok (with_sequences (made numbers) o))))) >>= then_listed)
        (WorkEnds (chosen_work path task o.listing o.sequences k value))
    unfolding Gives bind ◌>>=◌
    by_value (Ok numbers) is_ = rest_gives numbers
    by_value (Err e) is_ =
        let r = refuses (folder_with task.negation (numbers_of o.listing) (marks_of o.sequences)) task.specs e is_ in
        subst (λ x. WorkEnds (refused_at k.mailbox x) z j [] (Err x)) (sym r.1) (refl, refl, ap mailbox_in (is.0 refl) ∙ holds.shows)

    pub opened_gives : Gives (by_view true) z j (opened_work path task o.listing o.sequences k).text (opened_told run path task o) (WorkEnds (opened_work path task o.listing o.sequences k))
    unfolding opened_told chosen_changed
    opened_gives = by_value (chosen_from task o.listing o.sequences) refl

-- the whole, where the context has these entries and its text is not too long
module _ (run : ℕ) (few : run < 2 ^ 128) (path : List ℕ) (task : Task) (orderly : IsOrderly task) (valid : is_folder_name task.folder ≡ true) (clean : list_all is_name_byte (suffix task.folder) ≡ true)
    (c : Contents) (entries : List NamedValue) (entries_are : entries ≡ entries_at c (Mail path)) (short : IsShort LIMIT_BYTES (c.texts (Mail path) context_name)) where
  abbrev at : Place
  at = Folder path task.folder

  -- one that changes sequences
  module _ (h : Homes) (are : AreHomesAt run ((mailbox_in c).folders at) h) (ns : List ℕ) (v : View) (hand : Hand) (untouched : IsUntouched ns at c hand v hand) where
    abbrev work : Work CommandFault
    work = changed_work path entries h task (mailbox_in c)

    pub changed_gives : Gives (by_view true) v hand work.text (folder_changed run path task) (WorkEnds work)
    unfolding folder_changed changed_work
    changed_gives =
        changes_give run few path task.folder clean c entries entries_are short h are ns v hand untouched (opened_work path task) (opened_told run path task)
        (λ o z j f. opened_gives run few path task orderly valid clean o f.place f.name f.valid f.later f.kept f.contents z j f.is f.holds)

  -- one that only looks
  module _ (ns : List ℕ) (v : View) (hand : Hand) (same : v.contents ≡ c) (nums : v.numbers ≡ ns) (known : hand.context ≡ Some entries) where
    abbrev k : Kept
    k = kept_of (mailbox_in c) entries

    abbrev looked : Work CommandFault
    looked = looked_work path entries task (mailbox_in c)

    abbrev old : FolderValue
    old = folder_at c at

    looked_absent : c.there at ≡ false → looked ≡ refused_at (mailbox_in c) (fault.Refused (refusal.NoFolder task.folder))
    unfolding looked_work mailbox_in
    looked_absent none = rw none refl

    looked_there : c.there at ≡ true → looked ≡ read_work path task k (runs_in old) (readable old.sequences)
    unfolding looked_work mailbox_in
    looked_there there = rw there refl

    holds_c : (j : Hand) → j.context ≡ Some entries → Holds (λ d. Unit {0}) path k c j
    holds_c j is = record { shows = refl; entries = entries_are; known = is; short = short; still = tt }

    abbrev then_said : List Run → Marked → Plan (Result Unit CommandFault)
    then_said listing m = lines_said (task.lines listing m) >>= (λ told. made_current run path task.folder)

    -- what the words say, where they are looked at
    check_refuses : (specs : List (List ℕ)) (listing : List Run) (m : Marked) (e : CommandFault) → checked_by specs task listing m ≡ Err e → (r : Refusal) × (e ≡ fault.Refused r)
    check_refuses [] listing m e is = cc (is)
    check_refuses (s ∷ specs) listing m e is = go (chosen_from task listing m) refl is
      where
        go : (value : Result (List ℕ) CommandFault) → chosen_from task listing m ≡ value → unless_refused m value ≡ Err e → (r : Refusal) × (e ≡ fault.Refused r)
        go (Ok numbers) is_ f = absurd (cc (f))
        go (Err x) is_ f = let one : x ≡ e = cc (f) in subst (λ q. (r : Refusal) × (q ≡ fault.Refused r)) one (refuses (folder_with task.negation (numbers_of listing) (marks_of m)) task.specs x is_)

    pub looks_give : Gives (by_view true) v hand looked.text (folder_looked run path task) (WorkEnds looked)
    unfolding folder_looked
    looks_give =
        front_gives path task.folder c entries ns hand Marked (sequences_seen task) (λ names m. then_said (listed_runs names) m) v same nums known looked (read_work path task k (runs_in old)) (λ names. listed_work path task (listed_runs names) k)
        (record {
          absent = looked_absent;
          there = looked_there;
          unread = λ e. refl;
          by_text = λ names text runs. ap (λ l. listed_work path task l k (checked task l (cut_to l (sequences_in text entries task.folder)))) runs;
          stops = λ names e. refl;
          refuses = λ names text e f. check_refuses task.specs (listed_runs names) (sequences_listed names text entries task.folder) e f;
          gives = λ names text m z t so is. listed_gives run few path task orderly valid ns (listed_runs names) m k c z hand is (holds_c hand known);
        })

-- and so on every contents
module _ (run : ℕ) (path : List ℕ) (task : Task) (orderly : IsOrderly task) where
  pub changed_works : GivesWork run path task.folder (folder_changed run path task) (λ entries held m. changed_work path entries held task m)
  changed_works few valid c es are short held homes ns v hand untouched same nums known =
      changed_gives run few path task orderly valid (suffix_clean task.folder) c es are short held homes ns v hand untouched

  pub looked_works : GivesWork run path task.folder (folder_looked run path task) (λ entries held m. looked_work path entries task m)
  looked_works few valid c es are short held homes ns v hand untouched same nums known =
      looks_give run few path task orderly valid (suffix_clean task.folder) c es are short ns v hand same nums known
