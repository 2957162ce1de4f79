-- What `rmm` gives alone: what it comes to on the mailbox that it finds.
use Rattle.std.proofs.Common.{◌≡◌, ◌<◌, ◌^◌, ◌+◌, ◌≤◌, ◌||◌, ℕ, Bool, true, false, List, [], ◌∷◌, Option, Some, None, Result, Ok, Err, refl, sym, ◌∙◌, ap, subst, arith}
use Rattle.std.specs.Prelude.{decimal, is_some, nat_le, not, ◌==◌, if◌then◌else◌}
use Rattle.std.proofs.lemmas.Bool.Decides.{Decides-eqb, nat_tests}
use Rattle.std.specs.List.{list_all}
use Rattle.mail_headers.specs.Lines.{is_name_byte}
use Rattle.mh_base.specs.Entries.{entry_text}
use Rattle.mh_base.specs.Folders.{is_folder_name}
use Rattle.mh_base.specs.Numbers.{IsMsgNum}
use Rattle.mh_base.specs.declared.entry.Entry.TheVariants.{Number}
use Rattle.mh_profile.specs.Reading.{entries_in}
use Rattle.mh_profile.specs.declared.named_value.NamedValue.{NamedValue}
use Rattle.mh_sequences.specs.Reading.{suffix}
use Rattle.mh_sequences.specs.Runs.{numbers_of}
use Rattle.mh_sequences.specs.Sequences.{AreSequences, Marked}
use Rattle.msg_ranges.specs.Selection.{marks_of}
use Rattle.msg_ranges.proofs.Rising.{Rise, lists, none_below, first_of, rest_of}
use Rattle.folder_files.specs.declared.place.Place.{Place}
use Rattle.folder_files.specs.declared.place.Place.TheVariants.{Folder, Mail}
use Rattle.folder_files.proofs.Names.{not_both}
use Rattle.file_plans.specs.Contents.{Contents, filled, folder_at, mailbox_in}
use Rattle.file_plans.specs.Giving.{Gives}
use Rattle.file_plans.specs.Mailboxes.{is_message_number, numbered}
use Rattle.file_plans.specs.Plan.{Hand, Plan, Return, bind, lifted, ◌>>=◌}
use Rattle.file_plans.specs.Views.{View, by_view}
use Rattle.file_plans.proofs.Onward.{Is, IsShort}
use Rattle.step_plans.specs.ContextCommit.{LIMIT_BYTES, context_name}
use Rattle.step_plans.specs.Locking.{lock_name}
use Rattle.step_plans.specs.Removing.{message_removed}
use Rattle.step_plans.specs.Replacing.{synced}
use Rattle.step_plans.specs.declared.command_fault.CommandFault.{CommandFault}
use Rattle.step_plans.specs.declared.fault.PlanFault.{PlanFault}
use Rattle.step_plans.specs.declared.fault.PlanFault.TheVariants as plan
use Rattle.step_plans.proofs.Cleared.{removed_gives}
use Rattle.step_plans.proofs.Committed.{entries_at}
use Rattle.step_plans.proofs.Replaced.{Fails, Leaves, gives_next, renamed_gives, synced_gives}
use Rattle.held_messages.specs.HeldPairs.{with_folder_changed}
use Rattle.sequence_commits.specs.Committing.{changed_sequences}
use Rattle.sequence_commits.proofs.MarkedOnce.{marked_valid}
use Rattle.command_stages.specs.Chosen.{folder_with}
use Rattle.command_stages.specs.Current.{made_current}
use Rattle.command_stages.specs.Endings.{of_plan}
use Rattle.command_stages.specs.Works.{refused_at}
use Rattle.mh_looks.proofs.Scanning.{refuses}
use Rattle.opening_plans.specs.BegunWork.{AreHomesAt, Homes, current_work}
use Rattle.opening_plans.specs.Kept.{Commits, Kept, sequences_kept}
use Rattle.opening_plans.specs.Opening.{Opened}
use Rattle.opening_plans.proofs.FolderGiven.{IsUntouched}
use Rattle.opening_plans.proofs.KeptGiven.{Ends, Holds, IsClear}
use Rattle.opening_plans.proofs.KeptMessages.{message_at, message_of}
use Rattle.opening_plans.proofs.WorkGiven.{IsOpen, WorkEnds, changes_give, current_gives, sequences_give, then_gives, weaker}
use Rattle.refile_plans.specs.Rmm.{all_removed, chosen_from, opened_removed, removed_marked, removed_safely, rmm, said_removed, withdrawn}
use Rattle.refile_plans.specs.RmmOutcome.{chosen_work, opened_work, removed_from, rmm_work, without}
use Rattle.refile_plans.specs.declared.job.RmmJob.{RmmJob}
use Rattle.refile_plans.proofs.Selected.{chosen_listed, chosen_numbers, chosen_rise}
use Rattle.refile_plans.proofs.Shown.{all_at, context_all, removed_at, shows_all, still_one, temp_all, there_all}
use Rattle.mh_base.proofs.NumberTests.{AreNumbers}

-- a message that is there by the mailbox is there
pub stands_in : (c : Contents) (path folder : List ℕ) (n : ℕ) → is_some (message_at (mailbox_in c) (Folder path folder) n) ≡ true → is_some (c.texts (Folder path folder) (decimal n)) ≡ true
unfolding mailbox_in entry_text
stands_in c path folder n e = go (c.there (Folder path folder)) (is_message_number n) e
  where
    go : (b v : Bool) → is_some (message_of (if b then Some (folder_at c (Folder path folder)) else None) n) ≡ true → is_some (c.texts (Folder path folder) (decimal n)) ≡ true
    go true v e = number v e
      where
        number : (v : Bool) → is_some (numbered n (c.texts (Folder path folder) (decimal n))) ≡ true → is_some (c.texts (Folder path folder) (decimal n)) ≡ true
        number v e = within (is_message_number n) (c.texts (Folder path folder) (decimal n)) e
          where
            within : (b : Bool) (o : Option (List ℕ)) → is_some (if b then o else None) ≡ true → is_some o ≡ true
            within true o e = e
            within false o e = cc (e)
    go false v e = cc (e)

number_there : (c : Contents) (q : Place) (n : ℕ) → is_some (c.texts q (decimal n)) ≡ true → is_some (c.texts q (entry_text (Number n))) ≡ true
unfolding entry_text
number_there c q n e = e

module _ (run : ℕ) (few : run < 2 ^ 128) (path : List ℕ) (job : RmmJob) (valid : is_folder_name job.folder ≡ true) (clean : list_all is_name_byte (suffix job.folder) ≡ true) where
  abbrev p : Place
  p = Folder path job.folder

  abbrev mail : Place
  mail = Mail path

  abbrev backup : Bool
  backup = not job.unlink

  abbrev Clear : Contents → Type 0
  Clear c = IsClear c p

  module _ (ns : List ℕ) (h : Hand) where
    -- one message leaves
    message_gives : (b : Bool) (n : ℕ) (z : View) (c : Contents) (j : Hand) (text : List ℕ) → Is true ns z c → is_some (c.texts p (entry_text (Number n))) ≡ true
        → Gives (by_view true) z j text (message_removed p n b) (Leaves true ns (removed_at b c p n) j (Fails true h))
    message_gives true n z c j text is there = renamed_gives true ns p h (entry_text (Number n)) _ z c j text is (λ e. there)
    message_gives false n z c j text is there = removed_gives true ns p h (entry_text (Number n)) z c j text is (λ e. there)

    abbrev Stand : Contents → List ℕ → Type 0
    Stand c numbers = (n : ℕ) → lists numbers n ≡ true → is_some (c.texts p (decimal n)) ≡ true

    above : (low : ℕ) (numbers : List ℕ) → Rise low numbers → (k : ℕ) → lists numbers k ≡ true → low ≤ k
    above low [] rise k e = cc (e)
    above low (n ∷ numbers) rise k e = go (nat_le low k) refl
      where
        go : (b : Bool) → nat_le low k ≡ b → low ≤ k
        go true f = grind (arith, nat_tests, f)
        go false f = absurd (not_both (lists (n ∷ numbers) k) e (none_below low (n ∷ numbers) rise k (below_not f)))
          where
            below_not : nat_le low k ≡ false → k < low
            below_not f = grind (arith, nat_tests, f)

    number_in : (numbers : List ℕ) → AreNumbers numbers → (k : ℕ) → lists numbers k ≡ true → IsMsgNum k
    number_in [] ok k e = cc (e)
    number_in (n ∷ numbers) ok k e = go (n == k) refl (λ f. number_in numbers ok.1 k f) e
      where
        go : (b : Bool) → (n == k) ≡ b → (lists numbers k ≡ true → IsMsgNum k) → b || lists numbers k ≡ true → IsMsgNum k
        go true f more g = subst IsMsgNum ((Decides-eqb n k).0 f) ok.0
        go false f more g = more g

    stand_rest : (b : Bool) (c : Contents) (n : ℕ) (numbers : List ℕ) → IsMsgNum n → AreNumbers numbers → Rise (n + 1) numbers → Stand c (n ∷ numbers) → Stand (removed_at b c p n) numbers
    stand_rest b c n numbers ok all rise stand k e =
        ap is_some (still_one path job.folder c n ok b k (number_in numbers all k e) (let l : n + 1 ≤ k = above (n + 1) numbers rise k e in omega (arith, l))) ∙ rest_of {F = λ m. is_some (c.texts p (decimal m)) ≡ true} n numbers stand k e

    all_gives : (b : Bool) (low : ℕ) (numbers : List ℕ) → Rise low numbers → AreNumbers numbers → (z : View) (c : Contents) (j : Hand) (text : List ℕ) → Is true ns z c → Stand c numbers
        → Gives (by_view true) z j text (all_removed p b numbers) (Leaves true ns (all_at b c p numbers) j (Fails true h))
    unfolding Gives all_removed all_at
    all_gives b low [] rise all z c j text is stand = record { is = is; hand = refl }
    all_gives b low (n ∷ numbers) rise all z c j text is stand =
        gives_next true ns (removed_at b c p n) j (Fails true h) z j text (message_removed p n b) (λ gone. all_removed p b numbers) (Leaves true ns (all_at b (removed_at b c p n) p numbers) j (Fails true h))
        (message_gives b n z c j text is (number_there c p n (first_of {F = λ m. is_some (c.texts p (decimal m)) ≡ true} n numbers stand)))
        (λ y left u same. all_gives b (n + 1) numbers rise.1 all.1 y (removed_at b c p n) j left same (stand_rest b c n numbers all.0 all.1 rise.1 stand))
        (λ y i left e f. f)

    safely_gives : (b : Bool) (numbers : List ℕ) → Rise 1 numbers → AreNumbers numbers → (z : View) (c : Contents) (j : Hand) (text : List ℕ) → Is true ns z c → Stand c numbers → c.there p ≡ true
        → Gives (by_view true) z j text (removed_safely p b numbers) (Leaves true ns (all_at b c p numbers) j (Fails true h))
    unfolding removed_safely
    safely_gives b numbers rise all z c j text is stand there =
        gives_next true ns (all_at b c p numbers) j (Fails true h) z j text (all_removed p b numbers) (λ gone. synced p lock_name) (Leaves true ns (all_at b c p numbers) j (Fails true h))
        (all_gives b 1 numbers rise all z c j text is stand)
        (λ y left u same. synced_gives true ns p h lock_name y (all_at b c p numbers) j left same (λ e. ap (λ t. t p) (there_all path job.folder b c numbers all) ∙ there))
        (λ y i left e f. f)

  -- the work on a folder that was begun
  module _ (o : Opened) (z : View) (j : Hand) (f : IsOpen path job.folder o z j) where
    abbrev k : Kept
    k = f.kept

    abbrev c : Contents
    c = f.contents

    module _ (numbers : List ℕ) (is : chosen_from job o.listing o.sequences ≡ Ok numbers) where
      rise : Rise 1 numbers
      rise = chosen_rise job o.listing o.sequences numbers is

      all : AreNumbers numbers
      all = chosen_numbers job o.listing o.sequences numbers is f.runs

      stand : (n : ℕ) → lists numbers n ≡ true → is_some (c.texts p (decimal n)) ≡ true
      stand n e = stands_in c path job.folder n (ap (λ m. is_some (message_at m p n)) f.holds.shows ∙ (f.stands n ∙ chosen_listed job o.listing o.sequences numbers is n e))

      abbrev later_contents : Contents
      later_contents = all_at backup c p numbers

      abbrev later_kept : Kept
      later_kept = removed_from path job numbers k

      holds_then : Holds Clear path later_kept later_contents j
      holds_then = record {
        shows = shows_all path job.folder backup c 1 numbers rise all ∙ ap (λ m. with_folder_changed m p (without backup numbers)) f.holds.shows;
        entries = f.holds.entries ∙ sym entries_same;
        known = f.holds.known;
        short = subst (IsShort LIMIT_BYTES) (sym (context_all path job.folder backup c numbers all mail)) f.holds.short;
        still = record {
          there = ap (λ t. t p) (there_all path job.folder backup c numbers all) ∙ f.holds.still.there;
          free = λ x t. temp_all path job.folder backup c numbers all x t ∙ f.holds.still.free x t;
        };
      }
        where
          entries_same : entries_at later_contents mail ≡ entries_at c mail
          entries_same = ap (λ t. entries_in (filled t)) (context_all path job.folder backup c numbers all mail)

      abbrev new : Marked
      new = withdrawn numbers o.sequences

      new_valid : AreSequences new.users
      new_valid = marked_valid _ o.sequences

      abbrev commits : Commits
      commits = sequences_kept path job.folder o.sequences new later_kept

      fails_end : (y : View) (i : Hand) (e : PlanFault) → Fails true j e → Ends Clear path f.later commits y i (Err e)
      fails_end y i plan.Faulted g = g
      fails_end y i (plan.Locked q) g = g refl
      fails_end y i (plan.Meddled q x) g = g refl
      fails_end y i plan.Full g = g
      fails_end y i (plan.Absent q) g = g
      fails_end y i (plan.TooLarge l) g = absurd g
      fails_end y i plan.Memory g = tt

      marked_gives : Gives (by_view true) z j [] (removed_safely p backup numbers >>= (λ gone. changed_sequences run p mail job.folder o.sequences new)) (λ y i left r. Ends Clear path f.later commits y i r)
      marked_gives =
          gives_next true f.later later_contents j (Fails true j) z j [] (removed_safely p backup numbers) (λ gone. changed_sequences run p mail job.folder o.sequences new) (λ y i left r. Ends Clear path f.later commits y i r)
          (safely_gives f.later j backup numbers rise all z c j [] f.is stand f.holds.still.there)
          (λ y left u same. sequences_give run few path job.folder clean o.sequences new new_valid f.later later_kept later_contents y j same holds_then left)
          (λ y i left e g. fails_end y i e g)

      chosen_gives : Gives (by_view true) z j (chosen_work path job o.sequences k (Ok numbers)).text
          (lifted (of_plan job.folder) (removed_safely p backup numbers >>= (λ gone. changed_sequences run p mail job.folder o.sequences new)) >>= (λ removed. made_current run path job.folder)) (WorkEnds (chosen_work path job o.sequences k (Ok numbers)))
      chosen_gives =
          then_gives run few path job.folder commits (removed_safely p backup numbers >>= (λ gone. changed_sequences run p mail job.folder o.sequences new)) (current_work path job.folder []) (made_current run path job.folder) f.later z j marked_gives
          (λ d y i same holds. current_gives run few path job.folder valid f.later [] commits.kept d y i same (weaker run few path job.folder Clear commits.kept d i holds))

    abbrev then_removed : Place → List ℕ → List ℕ → Plan (Result Unit PlanFault)
    then_removed q n numbers = removed_safely q backup numbers >>= (λ gone. changed_sequences run q mail n o.sequences (withdrawn numbers o.sequences))

    by_value : (value : Result (List ℕ) CommandFault) → chosen_from job o.listing o.sequences ≡ value → Gives (by_view true) z j (chosen_work path job o.sequences k value).text
        ((Return value >>= (λ numbers. lifted (of_plan job.folder) (then_removed p job.folder numbers))) >>= (λ removed. made_current run path job.folder)) (WorkEnds (chosen_work path job o.sequences k value))
    unfolding Gives bind ◌>>=◌
    by_value (Ok numbers) is = chosen_gives numbers is
    by_value (Err e) is =
        let r = refuses (folder_with job.negation (numbers_of o.listing) (marks_of o.sequences)) job.specs e is in
        subst (λ x. WorkEnds (refused_at k.mailbox x) z j [] (Err x)) (sym r.1) (refl, refl, ap mailbox_in (f.is.0 refl) ∙ f.holds.shows)

    at_place : (q : Place) (n : List ℕ) → q ≡ p → n ≡ job.folder → Gives (by_view true) z j (opened_work path job o.listing o.sequences k).text
        ((Return (chosen_from job o.listing o.sequences) >>= (λ numbers. lifted (of_plan job.folder) (then_removed q n numbers))) >>= (λ removed. made_current run path job.folder)) (WorkEnds (opened_work path job o.listing o.sequences k))
    at_place q n place name = rw (place, name) (by_value (chosen_from job o.listing o.sequences) refl)

    opened_gives : Gives (by_view true) z j (opened_work path job o.listing o.sequences k).text (opened_removed run path job o) (WorkEnds (opened_work path job o.listing o.sequences k))
    unfolding opened_removed said_removed removed_marked
    opened_gives = at_place o.place o.folder f.place f.name

-- the whole, where the context has these entries and its text is not too long
pub rmm_gives : (run : ℕ) → run < 2 ^ 128 → (path : List ℕ) (job : RmmJob) → is_folder_name job.folder ≡ true → list_all is_name_byte (suffix job.folder) ≡ true → (c : Contents) (entries : List NamedValue) → entries ≡ entries_at c (Mail path) → IsShort LIMIT_BYTES (c.texts (Mail path) context_name)
    → (h : Homes) → AreHomesAt run ((mailbox_in c).folders (Folder path job.folder)) h → (ns : List ℕ) (v : View) (hand : Hand) → IsUntouched ns (Folder path job.folder) c hand v hand
    → Gives (by_view true) v hand (rmm_work path entries h job (mailbox_in c)).text (rmm run path job) (WorkEnds (rmm_work path entries h job (mailbox_in c)))
unfolding rmm rmm_work
rmm_gives run few path job valid clean c entries entries_are short h are ns v hand untouched =
    changes_give run few path job.folder clean c entries entries_are short h are ns v hand untouched (opened_work path job) (opened_removed run path job) (λ o z j f. opened_gives run few path job valid clean o z j f)
