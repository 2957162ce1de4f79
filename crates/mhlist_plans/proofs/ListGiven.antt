-- What `mhlist` gives alone: what it comes to on the mailbox that it finds.
use Rattle.std.proofs.Common.{◌≡◌, ◌<◌, ◌^◌, ◌++◌, ◌∷◌, [], ℕ, true, false, List, Option, Some, None, Result, Err, refl, sym, ap, subst}
use Rattle.mh_base.specs.Folders.{is_folder_name}
use Rattle.mh_profile.specs.declared.named_value.NamedValue.{NamedValue}
use Rattle.mh_sequences.specs.Runs.{numbers_of}
use Rattle.msg_ranges.specs.Selection.{marks_of}
use Rattle.folder_files.specs.declared.place.Place.{Place}
use Rattle.folder_files.specs.declared.place.Place.TheVariants.{Folder, Mail}
use Rattle.folder_files.specs.declared.refusal.Refusal.TheVariants as refusal
use Rattle.file_plans.specs.Contents.{Contents, folder_at, mailbox_in}
use Rattle.file_plans.specs.Giving.{Gives}
use Rattle.file_plans.specs.Mailboxes.{Folder as FolderValue}
use Rattle.file_plans.specs.Plan.{Hand, Plan, ◌>>=◌}
use Rattle.file_plans.specs.Views.{View, by_view}
use Rattle.file_plans.proofs.Giving.{gives_on}
use Rattle.file_plans.proofs.Onward.{Is, IsShort}
use Rattle.step_plans.specs.ContextCommit.{LIMIT_BYTES, context_name}
use Rattle.step_plans.specs.declared.command_fault.CommandFault.{CommandFault}
use Rattle.step_plans.specs.declared.command_fault.CommandFault.TheVariants as fault
use Rattle.step_plans.proofs.Committed.{entries_at}
use Rattle.step_plans.proofs.Refusals.{IsRefusal}
use Rattle.sequence_commits.specs.Cutting.{cut_to}
use Rattle.sequence_commits.specs.Reading.{sequences_in}
use Rattle.command_stages.specs.Chosen.{folder_with}
use Rattle.command_stages.specs.Current.{made_current}
use Rattle.command_stages.specs.Works.{Work, readable, refused_at}
use Rattle.mh_looks.proofs.Scanning.{refuses}
use Rattle.opening_plans.specs.Kept.{Kept, kept_of}
use Rattle.opening_plans.proofs.KeptGiven.{Holds}
use Rattle.opening_plans.proofs.WorkGiven.{WorkEnds, current_gives}
use Rattle.told_folders.specs.Tasks.{listed_runs, sequences_listed}
use Rattle.told_folders.proofs.FrontGiven.{front_gives}
use Rattle.told_folders.proofs.MessagesStand.{AllStand, words_stand}
use Rattle.told_folders.proofs.ToldAlone.{GivesWork}
use Rattle.part_rows.specs.Rows.{header}
use Rattle.mhlist_plans.specs.Listing.{all_listed, chosen_seen, header_said, mhlist}
use Rattle.mhlist_plans.specs.ListOutcome.{chosen_from, chosen_work, first_refused, looked_work, mhlist_work, numbers_work, rows_among, unless_stopped}
use Rattle.mhlist_plans.specs.declared.job.ListJob.{ListJob}
use Rattle.mhlist_plans.proofs.RowsGiven.{AllGiven, Told, all_gives, header_some, lines_then}

-- the header, and then what follows
header_gives : (v : View) (h : Hand) (rest : List ℕ) → Gives (by_view true) v h (header ++ rest) header_said (Told v h rest)
header_gives v h rest = subst (λ t. Gives (by_view true) v h t header_said (Told v h rest)) (ap (λ l. l ++ rest) (append_none header)) (lines_then v h (header ∷ []) rest (header_some, tt))
  where
    append_none : (l : List ℕ) → l ++ [] ≡ l
    append_none [] = refl
    append_none (x ∷ l) = ap (λ m. x ∷ m) (append_none l)

module _ (run : ℕ) (few : run < 2 ^ 128) (path : List ℕ) (job : ListJob) (valid : is_folder_name job.folder ≡ true)
    (c : Contents) (entries : List NamedValue) (entries_are : entries ≡ entries_at c (Mail path)) (short : IsShort LIMIT_BYTES (c.texts (Mail path) context_name))
    (ns : List ℕ) (v : View) (hand : Hand) (same : v.contents ≡ c) (nums : v.numbers ≡ ns) (known : hand.context ≡ Some entries) where
  abbrev at : Place
  at = Folder path job.folder

  abbrev k : Kept
  k = kept_of (mailbox_in c) entries

  abbrev looked : Work CommandFault
  looked = mhlist_work path entries job (mailbox_in c)

  abbrev old : FolderValue
  old = folder_at c at

  looked_absent : c.there at ≡ false → looked ≡ refused_at (mailbox_in c) (fault.Refused (refusal.NoFolder job.folder))
  unfolding mhlist_work mailbox_in
  looked_absent none = rw none refl

  looked_there : c.there at ≡ true → looked ≡ looked_work path job k old (readable old.sequences)
  unfolding mhlist_work mailbox_in
  looked_there there = rw there refl

  holds_c : (j : Hand) → j.context ≡ Some entries → Holds (λ d. Unit {0}) path k c j
  holds_c j is = record { shows = refl; entries = entries_are; known = is; short = short; still = tt }

  abbrev work : List ℕ → Work CommandFault
  work numbers = numbers_work path job k old.messages numbers

  abbrev rows : List ℕ → List ℕ
  rows numbers = rows_among job.parts old.messages numbers

  abbrev stop : List ℕ → Option CommandFault
  stop numbers = first_refused job.parts old.messages numbers

  work_text : (numbers : List ℕ) → (work numbers).text ≡ header ++ rows numbers
  work_text numbers = go (stop numbers)
    where
      go : (o : Option CommandFault) → (unless_stopped path job k (header ++ rows numbers) o).text ≡ header ++ rows numbers
      go None = refl
      go (Some e) = refl

  -- the messages are listed, and then the folder becomes the current one
  abbrev then_all : List ℕ → Plan (Result Unit CommandFault)
  then_all numbers = all_listed job.parts at numbers >>= (λ listed. made_current run path job.folder)

  abbrev then_listed : List ℕ → Plan (Result Unit CommandFault)
  then_listed numbers = header_said >>= (λ told. then_all numbers)

  rows_then : (numbers : List ℕ) (z : View) (j : Hand) → Is true ns z c → j.context ≡ Some entries → AllStand c at numbers → Gives (by_view true) z j (rows numbers) (then_all numbers) (WorkEnds (work numbers))
  rows_then numbers z j is ctx all =
      gives_on (by_view true) z j (rows numbers) (all_listed job.parts at numbers) (λ listed. made_current run path job.folder) (AllGiven at job.parts c ns numbers j) (WorkEnds (work numbers))
      (all_gives at job.parts c ns numbers z j is all)
      (λ y i left u a. rw (a.2, a.3) (subst (λ o. Gives (by_view true) y j [] (made_current run path job.folder) (WorkEnds (unless_stopped path job k (header ++ rows numbers) o))) (sym a.0)
      (current_gives run few path job.folder valid ns (header ++ rows numbers) k c y j a.1 (holds_c j ctx))))
      (λ y i left e a. stopped y i left e a.0 a.1 a.2 a.4)
    where
      stopped : (y : View) (i : Hand) (left : List ℕ) (e : CommandFault) → stop numbers ≡ Some e → IsRefusal e → y.contents ≡ c → left ≡ [] → WorkEnds (work numbers) y i left (Err e)
      stopped y i left e is r stays empty =
          subst (λ o. WorkEnds (unless_stopped path job k (header ++ rows numbers) o) y i left (Err e)) (sym is)
          (subst (λ x. WorkEnds (record { text = header ++ rows numbers; end = Err x; mailbox = k.mailbox }) y i left (Err x)) (sym r.1) (empty, refl, ap mailbox_in stays))

  numbers_give : (numbers : List ℕ) (z : View) (j : Hand) → Is true ns z c → j.context ≡ Some entries → AllStand c at numbers → Gives (by_view true) z j (work numbers).text (then_listed numbers) (WorkEnds (work numbers))
  numbers_give numbers z j is ctx all =
      subst (λ t. Gives (by_view true) z j t (then_listed numbers) (WorkEnds (work numbers))) (sym (work_text numbers))
      (gives_on (by_view true) z j (header ++ rows numbers) header_said (λ told. then_all numbers) (Told z j (rows numbers)) (WorkEnds (work numbers)) (header_gives z j (rows numbers))
      (λ y i left u t. rw (t.1, t.2, t.3) (rows_then numbers z j is ctx all))
      (λ y i left e t. absurd (cc (t.0))))

  pub list_gives : Gives (by_view true) v hand looked.text (mhlist run path job) (WorkEnds looked)
  unfolding mhlist
  list_gives =
      front_gives path job.folder c entries ns hand (List ℕ) (chosen_seen job) (λ names. then_listed) v same nums known looked (looked_work path job k old) (λ names. chosen_work path job k old.messages)
      (record {
        absent = looked_absent;
        there = looked_there;
        unread = λ e. refl;
        by_text = λ names text runs. ap (λ l. chosen_work path job k old.messages (chosen_from job l (cut_to l (sequences_in text entries job.folder)))) runs;
        stops = λ names e. refl;
        refuses = λ names text e f. refuses (folder_with job.negation (numbers_of (listed_runs names)) (marks_of (sequences_listed names text entries job.folder))) job.specs e f;
        gives = λ names text numbers z t so is. numbers_give numbers z hand is known (words_stand c at names t job.negation (sequences_listed names text entries job.folder) job.specs numbers so);
      })

-- and so on every contents
pub list_works : (run : ℕ) (path : List ℕ) (job : ListJob) → GivesWork run path job.folder (mhlist run path job) (λ entries held m. mhlist_work path entries job m)
list_works run path job few valid c es are short held homes ns v hand untouched same nums known = list_gives run few path job valid c es are short ns v hand same nums known
