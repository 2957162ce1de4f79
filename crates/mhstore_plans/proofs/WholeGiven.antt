-- `mhstore` gives alone what its work says.
use Rattle.std.proofs.Common.{◌≡◌, ◌≤◌, ◌<◌, ◌^◌, [], ℕ, true, false, List, Some, None, Result, Ok, refl, sym, ◌∙◌, ap, subst}
use Rattle.mh_base.specs.Folders.{is_folder_name}
use Rattle.mh_profile.specs.Reading.{entries_in}
use Rattle.mh_profile.specs.declared.named_value.NamedValue.{NamedValue}
use Rattle.mh_sequences.specs.Runs.{numbers_of}
use Rattle.msg_ranges.specs.Selection.{marks_of}
use Rattle.sequence_commits.specs.Cutting.{cut_to}
use Rattle.sequence_commits.specs.Reading.{sequences_in}
use Rattle.folder_files.specs.declared.place.Place.{Place}
use Rattle.folder_files.specs.declared.place.Place.TheVariants as place
use Rattle.folder_files.specs.declared.refusal.Refusal.TheVariants as refusal
use Rattle.file_plans.specs.Contents.{Contents, filled, folder_at, mailbox_in}
use Rattle.file_plans.specs.Giving.{Gives}
use Rattle.file_plans.specs.Mailboxes.{Folder as FolderValue, Mailbox}
use Rattle.file_plans.specs.Plan.{Hand, Plan, ◌>>=◌}
use Rattle.file_plans.specs.Views.{View, by_view}
use Rattle.file_plans.proofs.Giving.{gives_more, gives_on}
use Rattle.file_plans.proofs.Onward.{Is, IsShort}
use Rattle.step_plans.specs.ContextCommit.{LIMIT_BYTES, context_name}
use Rattle.step_plans.specs.Hands.{temp_name}
use Rattle.step_plans.specs.declared.command_fault.CommandFault.{CommandFault}
use Rattle.step_plans.specs.declared.command_fault.CommandFault.TheVariants as fault
use Rattle.step_plans.proofs.Committed.{entries_at}
use Rattle.command_stages.specs.Chosen.{folder_with}
use Rattle.command_stages.specs.Current.{made_current}
use Rattle.command_stages.specs.Works.{Work, readable, refused_at}
use Rattle.mh_looks.proofs.Scanning.{refuses}
use Rattle.opening_plans.specs.BegunWork.{current_work}
use Rattle.opening_plans.specs.Kept.{Kept, kept_of}
use Rattle.opening_plans.proofs.KeptGiven.{Holds}
use Rattle.opening_plans.proofs.WorkGiven.{WorkEnds, current_gives}
use Rattle.told_folders.specs.Tasks.{listed_runs, sequences_listed}
use Rattle.told_folders.proofs.FrontGiven.{front_gives}
use Rattle.told_folders.proofs.MessagesStand.{AllStand, words_stand}
use Rattle.mhstore_plans.specs.StoreOutcome.{chosen_from, chosen_work, looked_work, messages_work, mhstore_work, numbers_work}
use Rattle.mhstore_plans.specs.Storing.{all_stored, chosen_seen, mhstore}
use Rattle.mhstore_plans.specs.declared.job.StoreJob.{StoreJob}
use Rattle.mhstore_plans.proofs.PartsGiven.{At, PartEnds, ended, stopped, text_then, whole_text}
use Rattle.mhstore_plans.proofs.StoreGiven.{messages_give}

module _ (run : ℕ) (few : run < 2 ^ 128) (path : List ℕ) (job : StoreJob) (valid : is_folder_name job.folder ≡ true)
    (c : Contents) (entries : List NamedValue) (entries_are : entries ≡ entries_at c (place.Mail path)) (short : IsShort LIMIT_BYTES (c.texts (place.Mail path) context_name))
    (ns : List ℕ) (v : View) (hand : Hand) (same : v.contents ≡ c) (nums : v.numbers ≡ ns) (known : hand.context ≡ Some entries) (work_there : c.there place.Work ≡ true) (free : (x : ℕ) → hand.next ≤ x → x < 2 ^ 64 → c.texts place.Work (temp_name run x) ≡ None) where
  abbrev at : Place
  at = place.Folder path job.folder

  abbrev k : Kept
  k = kept_of (mailbox_in c) entries

  abbrev looked : Work CommandFault
  looked = mhstore_work path entries job (mailbox_in c)

  abbrev old : FolderValue
  old = folder_at c at

  looked_absent : c.there at ≡ false → looked ≡ refused_at (mailbox_in c) (fault.Refused (refusal.NoFolder job.folder))
  unfolding mhstore_work mailbox_in
  looked_absent none = rw none refl

  looked_there : c.there at ≡ true → looked ≡ looked_work path job k old (readable old.sequences)
  unfolding mhstore_work mailbox_in
  looked_there there = rw there refl

  -- the contents at the start, and those after files were stored
  at_first : At run c (Some entries) c (mailbox_in c) hand
  at_first = record { shows = refl; same = λ q x e. refl; there = work_there; free = free; context = known }

  abbrev work : List ℕ → Work CommandFault
  work numbers = numbers_work path job k old.messages numbers

  abbrev stored : List ℕ → Work CommandFault
  stored numbers = messages_work job old.messages numbers (mailbox_in c)

  abbrev made : Mailbox → Work CommandFault
  made m = current_work path job.folder [] (kept_of m entries)

  holds_then : (d : Contents) (m : Mailbox) (j : Hand) → At run c (Some entries) d m j → Holds (λ e. Unit {0}) path (kept_of m entries) d j
  holds_then d m j a = record {
    shows = a.shows;
    entries = entries_are ∙ ap (λ t. entries_in (filled t)) (sym (a.same (place.Mail path) context_name refl));
    known = a.context;
    short = subst (IsShort LIMIT_BYTES) (sym (a.same (place.Mail path) context_name refl)) short;
    still = tt;
  }

  -- the messages are stored, and then the folder becomes the current one
  abbrev then_all : List ℕ → Plan (Result Unit CommandFault)
  then_all numbers = all_stored run job at numbers >>= (λ done. made_current run path job.folder)

  numbers_give : (numbers : List ℕ) (z : View) → Is true ns z c → AllStand c at numbers → Gives (by_view true) z hand (work numbers).text (then_all numbers) (WorkEnds (work numbers))
  numbers_give numbers z is all =
      subst (λ t. Gives (by_view true) z hand t (then_all numbers) (WorkEnds (work numbers))) (sym (whole_text (stored numbers) made))
      (gives_on (by_view true) z hand (text_then (stored numbers) []) (all_stored run job at numbers) (λ done. made_current run path job.folder) (PartEnds run c (Some entries) ns (stored numbers) []) (WorkEnds (work numbers))
      (messages_give run few job c (Some entries) ns path numbers all c (mailbox_in c) z hand is at_first [])
      (λ y i left u s. on y i left s.0 s.1 s.2.0 s.2.1 s.2.2) (λ y i left e s. stopped (stored numbers) made y i left e s))
    where
      on : (y : View) (i : Hand) (left : List ℕ) → (stored numbers).end ≡ Ok tt → left ≡ [] → (d : Contents) → Is true ns y d → At run c (Some entries) d (stored numbers).mailbox i → Gives (by_view true) y i left (made_current run path job.folder) (WorkEnds (work numbers))
      on y i left done none d here a =
          subst (λ t. Gives (by_view true) y i t (made_current run path job.folder) (WorkEnds (work numbers))) (sym none)
          (gives_more (by_view true) y i [] (made_current run path job.folder) (WorkEnds (made (stored numbers).mailbox)) (WorkEnds (work numbers))
          (current_gives run few path job.folder valid ns [] (kept_of (stored numbers).mailbox entries) d y i here (holds_then d (stored numbers).mailbox i a)) (λ x l rest r t. ended (stored numbers) made done x l rest r t))

  pub store_gives : Gives (by_view true) v hand looked.text (mhstore run path job) (WorkEnds looked)
  unfolding mhstore
  store_gives =
      front_gives path job.folder c entries ns hand (List ℕ) (chosen_seen job) (λ names. then_all) v same nums known looked (looked_work path job k old) (λ names. chosen_work path job k old.messages)
      (record {
        absent = looked_absent;
        there = looked_there;
        unread = λ e. refl;
        by_text = λ names text runs. ap (λ l. chosen_work path job k old.messages (chosen_from job l (cut_to l (sequences_in text entries job.folder)))) runs;
        stops = λ names e. refl;
        refuses = λ names text e f. refuses (folder_with job.negation (numbers_of (listed_runs names)) (marks_of (sequences_listed names text entries job.folder))) job.specs e f;
        gives = λ names text numbers z t so is. numbers_give numbers z is (words_stand c at names t job.negation (sequences_listed names text entries job.folder) job.specs numbers so);
      })
