-- What `pick` gives alone: what it comes to on the mailbox that it finds.
use Rattle.std.proofs.Common.{◌≡◌, ◌<◌, ◌^◌, ◌∷◌, [], ℕ, true, false, List, Option, Some, None, Result, Ok, Err, refl, sym, ◌∙◌, ap, subst}
use Rattle.std.specs.Prelude.{is_some}
use Rattle.std.specs.List.{list_all}
use Rattle.mail_headers.specs.Lines.{is_name_byte}
use Rattle.mh_base.specs.Folders.{is_folder_name}
use Rattle.mh_profile.specs.declared.named_value.NamedValue.{NamedValue}
use Rattle.mh_sequences.specs.Reading.{suffix}
use Rattle.mh_sequences.specs.Runs.{numbers_of}
use Rattle.mh_sequences.specs.Sequences.{Marked}
use Rattle.msg_ranges.specs.Selection.{marks_of}
use Rattle.folder_files.specs.declared.place.Place.{Place}
use Rattle.folder_files.specs.declared.place.Place.TheVariants.{Folder, Mail}
use Rattle.folder_files.specs.declared.refusal.Refusal.TheVariants as refusal
use Rattle.file_plans.specs.Contents.{Contents, folder_at, mailbox_in}
use Rattle.file_plans.specs.Giving.{Gives}
use Rattle.file_plans.specs.Mailboxes.{Folder as FolderValue, Mailbox}
use Rattle.file_plans.specs.Plan.{Hand, Plan, Return, bind, lifted, ◌>>=◌}
use Rattle.file_plans.specs.Views.{View, by_view}
use Rattle.file_plans.proofs.Giving.{gives_on}
use Rattle.file_plans.proofs.Onward.{Is, IsShort}
use Rattle.step_plans.specs.ContextCommit.{LIMIT_BYTES, context_name}
use Rattle.step_plans.specs.declared.command_fault.CommandFault.{CommandFault}
use Rattle.step_plans.specs.declared.command_fault.CommandFault.TheVariants as fault
use Rattle.step_plans.proofs.Committed.{entries_at}
use Rattle.sequence_commits.specs.Committing.{changed_sequences}
use Rattle.sequence_commits.specs.Cutting.{cut_to}
use Rattle.sequence_commits.specs.Reading.{sequences_in}
use Rattle.sequence_commits.specs.RunsOfAll.{set_among}
use Rattle.sequence_commits.proofs.MarkedOnce.{all_valid}
use Rattle.command_stages.specs.Chosen.{folder_with}
use Rattle.command_stages.specs.Current.{made_current}
use Rattle.command_stages.specs.Endings.{of_plan}
use Rattle.command_stages.specs.Works.{Work, readable, refused_at}
use Rattle.mh_looks.proofs.Scanning.{refuses}
use Rattle.opening_plans.specs.BegunWork.{AreHomesAt, Homes}
use Rattle.opening_plans.specs.Kept.{Kept, kept_of, sequences_kept}
use Rattle.opening_plans.specs.Opening.{Opened}
use Rattle.opening_plans.proofs.ChosenListed.{words_listed}
use Rattle.opening_plans.proofs.FolderGiven.{IsUntouched}
use Rattle.opening_plans.proofs.KeptGiven.{Holds, IsClear}
use Rattle.opening_plans.proofs.KeptMessages.{message_at}
use Rattle.opening_plans.proofs.WorkGiven.{IsOpen, WorkEnds, changes_give, current_gives, sequences_give, then_gives, weaker}
use Rattle.told_folders.proofs.FrontGiven.{front_gives}
use Rattle.told_folders.proofs.MessagesStand.{AllStand, all_stand, words_stand}
use Rattle.told_folders.specs.Tasks.{listed_runs, sequences_listed}
use Rattle.pick_plans.specs.Lines.{lines_for}
use Rattle.pick_plans.specs.Marking.{marked_for, marks_for}
use Rattle.pick_plans.specs.Outcomes.{changes_work, chosen_work, found_work, looked_work, looks_work, marked_work, messages_of, opened_work, pick_work, text_if, told_work, work_by}
use Rattle.pick_plans.specs.Pick.{chosen_from, chosen_seen, found_marked, found_told, opened_picked, pick, pick_by, pick_changes, pick_looks, said_if, some_found}
use Rattle.pick_plans.specs.declared.job.PickJob.{PickJob}
use Rattle.pick_plans.specs.declared.job.PickMarks.{PickMarks}
use Rattle.pick_plans.proofs.TestsGiven.{found_then, said_gives, some_for}

messages_there : (c : Contents) (path folder : List ℕ) → c.there (Folder path folder) ≡ true → messages_of ((mailbox_in c).folders (Folder path folder)) ≡ (folder_at c (Folder path folder)).messages
unfolding mailbox_in
messages_there c path folder there = rw there refl

message_there : (c : Contents) (path folder : List ℕ) (n : ℕ) → c.there (Folder path folder) ≡ true → message_at (mailbox_in c) (Folder path folder) n ≡ (folder_at c (Folder path folder)).messages n
unfolding mailbox_in
message_there c path folder n there = rw there refl

module _ (run : ℕ) (few : run < 2 ^ 128) (path : List ℕ) (job : PickJob) (valid : is_folder_name job.folder ≡ true) where
  abbrev place : Place
  place = Folder path job.folder

  abbrev mail : Place
  mail = Mail path

  -- what was found is told, where the job lists, and then the folder becomes the current one
  told_gives : (ns found : List ℕ) (k : Kept) (c : Contents) (z : View) (j : Hand) → Is true ns z c → Holds (λ d. Unit {0}) path k c j
      → Gives (by_view true) z j (text_if job.list (lines_for found)) (found_told run path job found) (WorkEnds (told_work path job k found))
  unfolding found_told
  told_gives ns found k c z j is holds =
      gives_on (by_view true) z j (text_if job.list (lines_for found)) (said_if job.list (lines_for found)) (λ told. made_current run path job.folder) (λ y i left r. (r ≡ Ok tt) × (y ≡ z) × (i ≡ j) × (left ≡ [])) (WorkEnds (told_work path job k found))
      (said_gives z j job.list (lines_for found) (some_for found))
      (λ y i left u g. rw (g.1, g.2, g.3) (current_gives run few path job.folder valid ns (text_if job.list (lines_for found)) k c z j is holds))
      (λ y i left e g. absurd (cc (g.0)))

  -- the work on a folder that was begun
  module _ (clean : list_all is_name_byte (suffix job.folder) ≡ true) (p : PickMarks) (o : Opened) (z : View) (j : Hand) (f : IsOpen path job.folder o z j) where
    abbrev k : Kept
    k = f.kept

    abbrev c : Contents
    c = f.contents

    abbrev made : List ℕ → Marked
    made found = marked_for p found o.sequences

    abbrev next : List ℕ → Work CommandFault
    next found = marked_work path job p o.sequences k found

    abbrev then_marked : Place → List ℕ → List ℕ → Plan (Result Unit CommandFault)
    then_marked q n found = lifted (of_plan job.folder) (changed_sequences run q mail n o.sequences (made found)) >>= (λ done. found_told run path job found)

    marked_gives : (found : List ℕ) (y : View) (i : Hand) → i ≡ j → Is true f.later y c → Gives (by_view true) y i (next found).text (then_marked place job.folder found) (WorkEnds (next found))
    marked_gives found y i same is =
        let holds : Holds (λ d. IsClear d place) path k c i = subst (λ h. Holds (λ d. IsClear d place) path k c h) (sym same) f.holds in
        then_gives run few path job.folder (sequences_kept path job.folder o.sequences (made found) k) (changed_sequences run place mail job.folder o.sequences (made found)) (λ kept. told_work path job kept found) (found_told run path job found) f.later y i
        (sequences_give run few path job.folder clean o.sequences (made found) (all_valid (marks_for p (set_among found)) o.sequences f.valid) f.later k c y i is holds [])
        (λ d x h at there. told_gives f.later found (sequences_kept path job.folder o.sequences (made found) k).kept d x h at (weaker run few path job.folder (λ e. IsClear e place) (sequences_kept path job.folder o.sequences (made found) k).kept d h there))

    stand : (numbers : List ℕ) → chosen_from job o.listing o.sequences ≡ Ok numbers → AllStand c place numbers
    stand numbers is =
        all_stand c place numbers
        (λ n e. ap is_some (sym (message_there c path job.folder n f.holds.still.there)) ∙ (ap (λ m. is_some (message_at m place n)) f.holds.shows ∙ (f.stands n ∙ words_listed job.negation o.listing o.sequences job.specs numbers is n e)))

    abbrev work_on : Mailbox → (ℕ → Option (List ℕ)) → List ℕ → Work CommandFault
    work_on m messages numbers = found_work job m messages next numbers

    numbers_give : (numbers : List ℕ) → chosen_from job o.listing o.sequences ≡ Ok numbers
        → Gives (by_view true) z j (work_on k.mailbox (messages_of (k.mailbox.folders place)) numbers).text (some_found place job numbers >>= then_marked place job.folder) (WorkEnds (work_on k.mailbox (messages_of (k.mailbox.folders place)) numbers))
    numbers_give numbers is =
        subst (λ m. Gives (by_view true) z j (work_on m (messages_of (m.folders place)) numbers).text (some_found place job numbers >>= then_marked place job.folder) (WorkEnds (work_on m (messages_of (m.folders place)) numbers))) f.holds.shows
        (subst (λ ms. Gives (by_view true) z j (work_on (mailbox_in c) ms numbers).text (some_found place job numbers >>= then_marked place job.folder) (WorkEnds (work_on (mailbox_in c) ms numbers))) (sym (messages_there c path job.folder f.holds.still.there))
        (found_then place job c f.later next (then_marked place job.folder) numbers z j (λ n rest y there. marked_gives (n ∷ rest) y j refl there) f.is (stand numbers is)))

    by_value : (value : Result (List ℕ) CommandFault) → chosen_from job o.listing o.sequences ≡ value → Gives (by_view true) z j (chosen_work job k.mailbox (messages_of (k.mailbox.folders place)) next value).text
        (Return value >>= (λ numbers. some_found place job numbers >>= then_marked place job.folder)) (WorkEnds (chosen_work job k.mailbox (messages_of (k.mailbox.folders place)) next value))
    unfolding Gives bind ◌>>=◌
    by_value (Ok numbers) is = numbers_give numbers is
    by_value (Err e) is =
        let r = refuses (folder_with job.negation (numbers_of o.listing) (marks_of o.sequences)) job.specs e is in
        subst (λ x. WorkEnds (refused_at k.mailbox x) z j [] (Err x)) (sym r.1) (refl, refl, ap mailbox_in (f.is.0 refl) ∙ f.holds.shows)

    at_place : (q : Place) (n : List ℕ) → q ≡ place → n ≡ job.folder → Gives (by_view true) z j (opened_work path job p o.listing o.sequences k).text
        (Return (chosen_from job o.listing o.sequences) >>= (λ numbers. some_found q job numbers >>= then_marked q n)) (WorkEnds (opened_work path job p o.listing o.sequences k))
    at_place q n at name = rw (at, name) (by_value (chosen_from job o.listing o.sequences) refl)

    pub opened_gives : Gives (by_view true) z j (opened_work path job p o.listing o.sequences k).text (opened_picked run path job p o) (WorkEnds (opened_work path job p o.listing o.sequences k))
    unfolding opened_picked found_marked
    opened_gives = at_place o.place o.folder f.place f.name

-- the whole, where the context has these entries and its text is not too long
module _ (run : ℕ) (few : run < 2 ^ 128) (path : List ℕ) (job : PickJob) (valid : is_folder_name job.folder ≡ true) (clean : list_all is_name_byte (suffix job.folder) ≡ true)
    (c : Contents) (entries : List NamedValue) (entries_are : entries ≡ entries_at c (Mail path)) (short : IsShort LIMIT_BYTES (c.texts (Mail path) context_name)) where
  abbrev at : Place
  at = Folder path job.folder

  -- a `pick` that marks
  module _ (p : PickMarks) (h : Homes) (are : AreHomesAt run ((mailbox_in c).folders at) h) (ns : List ℕ) (v : View) (hand : Hand) (untouched : IsUntouched ns at c hand v hand) where
    abbrev work : Work CommandFault
    work = changes_work path entries h job p (mailbox_in c)

    pub changed_gives : Gives (by_view true) v hand work.text (pick_changes run path job p) (WorkEnds work)
    unfolding pick_changes changes_work
    changed_gives =
        changes_give run few path job.folder clean c entries entries_are short h are ns v hand untouched (opened_work path job p) (opened_picked run path job p) (λ o z j f. opened_gives run few path job valid clean p o z j f)

  -- one that marks nothing
  module _ (ns : List ℕ) (v : View) (hand : Hand) (same : v.contents ≡ c) (nums : v.numbers ≡ ns) (known : hand.context ≡ Some entries) where
    abbrev kept_now : Kept
    kept_now = kept_of (mailbox_in c) entries

    abbrev looked : Work CommandFault
    looked = looks_work path entries job (mailbox_in c)

    abbrev old : FolderValue
    old = folder_at c at

    looked_absent : c.there at ≡ false → looked ≡ refused_at (mailbox_in c) (fault.Refused (refusal.NoFolder job.folder))
    unfolding looks_work mailbox_in
    looked_absent none = rw none refl

    looked_there : c.there at ≡ true → looked ≡ looked_work path job kept_now old (readable old.sequences)
    unfolding looks_work mailbox_in
    looked_there there = rw there refl

    holds_c : (j : Hand) → j.context ≡ Some entries → Holds (λ d. Unit {0}) path kept_now c j
    holds_c j is = record { shows = refl; entries = entries_are; known = is; short = short; still = tt }

    abbrev then_found : List ℕ → Plan (Result Unit CommandFault)
    then_found numbers = some_found at job numbers >>= (λ found. found_told run path job found)

    pub looks_give : Gives (by_view true) v hand looked.text (pick_looks run path job) (WorkEnds looked)
    unfolding pick_looks
    looks_give =
        front_gives path job.folder c entries ns hand (List ℕ) (chosen_seen job) (λ names. then_found) v same nums known looked (looked_work path job kept_now old) (λ names. chosen_work job (mailbox_in c) old.messages (told_work path job kept_now))
        (record {
          absent = looked_absent;
          there = looked_there;
          unread = λ e. refl;
          by_text = λ names text runs. ap (λ l. chosen_work job (mailbox_in c) old.messages (told_work path job kept_now) (chosen_from job l (cut_to l (sequences_in text entries job.folder)))) runs;
          stops = λ names e. refl;
          refuses = λ names text e f. refuses (folder_with job.negation (numbers_of (listed_runs names)) (marks_of (sequences_listed names text entries job.folder))) job.specs e f;
          gives = λ names text numbers z t so is.
              found_then at job c ns (told_work path job kept_now) (λ found. found_told run path job found) numbers z hand (λ n rest y there. told_gives run few path job valid ns (n ∷ rest) kept_now c y hand there (holds_c hand known)) is
              (words_stand c at names t job.negation (sequences_listed names text entries job.folder) job.specs numbers so);
        })

  -- `pick`, by what it marks
  pub pick_gives : (h : Homes) → AreHomesAt run ((mailbox_in c).folders at) h → (ns : List ℕ) (v : View) (hand : Hand) → IsUntouched ns at c hand v hand → v.contents ≡ c → v.numbers ≡ ns → hand.context ≡ Some entries
      → Gives (by_view true) v hand (pick_work path entries h job (mailbox_in c)).text (pick run path job) (WorkEnds (pick_work path entries h job (mailbox_in c)))
  unfolding pick pick_work
  pick_gives h are ns v hand untouched same nums known = go job.marks
    where
      go : (marks : Option PickMarks) → Gives (by_view true) v hand (work_by path entries h job (mailbox_in c) marks).text (pick_by run path job marks) (WorkEnds (work_by path entries h job (mailbox_in c) marks))
      go None = looks_give ns v hand same nums known
      go (Some p) = changed_gives p h are ns v hand untouched
