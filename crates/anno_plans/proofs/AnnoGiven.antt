-- What `anno` gives alone: what it comes to on the mailbox that it finds.
use Rattle.std.proofs.Common.{◌≡◌, inl, inr, ◌<◌, ◌^◌, ℕ, true, List, [], Some, None, Result, Ok, Err, refl, sym, ◌∙◌, ap, subst}
use Rattle.std.specs.Prelude.{decimal, is_some, Option}
use Rattle.std.specs.List.{list_all}
use Rattle.mail_headers.specs.Lines.{is_name_byte}
use Rattle.mh_base.specs.Folders.{is_folder_name}
use Rattle.mh_profile.specs.Reading.{entries_in}
use Rattle.mh_profile.specs.declared.named_value.NamedValue.{NamedValue}
use Rattle.mh_sequences.specs.Reading.{suffix}
use Rattle.mh_sequences.specs.Runs.{numbers_of, last_in}
use Rattle.msg_ranges.specs.Selection.{marks_of}
use Rattle.msg_ranges.proofs.Rising.{Rise, lists}
use Rattle.folder_files.specs.declared.place.Place.{Place}
use Rattle.folder_files.specs.declared.place.Place.TheVariants.{Folder, Mail}
use Rattle.file_plans.specs.Contents.{Contents, filled, mailbox_in}
use Rattle.file_plans.specs.Giving.{Gives}
use Rattle.file_plans.specs.Plan.{Hand, Return, bind, converted, lifted, ◌>>=◌}
use Rattle.file_plans.specs.Views.{View, by_view}
use Rattle.file_plans.proofs.Giving.{gives_more}
use Rattle.file_plans.proofs.Onward.{IsShort}
use Rattle.file_plans.proofs.Showing.{context_no_number}
use Rattle.step_plans.specs.ContextCommit.{LIMIT_BYTES, context_name}
use Rattle.step_plans.specs.declared.command_fault.CommandFault.{CommandFault}
use Rattle.step_plans.specs.declared.fault.PlanFault.{PlanFault}
use Rattle.step_plans.proofs.Committed.{entries_at}
use Rattle.command_stages.specs.Chosen.{folder_with}
use Rattle.command_stages.specs.Current.{made_current}
use Rattle.command_stages.specs.Endings.{of_plan}
use Rattle.command_stages.specs.Texts.{too_large}
use Rattle.command_stages.specs.Works.{Work, refused_at}
use Rattle.mh_looks.proofs.Scanning.{refuses}
use Rattle.opening_plans.specs.BegunWork.{AreHomesAt, Homes, after_commits, current_work, unless_long}
use Rattle.opening_plans.specs.Kept.{Commits, Kept}
use Rattle.opening_plans.specs.Opening.{Opened}
use Rattle.opening_plans.proofs.FolderGiven.{IsUntouched}
use Rattle.opening_plans.proofs.KeptGiven.{Holds}
use Rattle.opening_plans.proofs.KeptMessages.{message_at}
use Rattle.opening_plans.proofs.WorkGiven.{IsOpen, WorkEnds, changes_give, lifted_gives}
use Rattle.message_notes.specs.Noting.{messages_noted}
use Rattle.refile_plans.proofs.RefiledOpened.{Leads, after_all, after_long, context_unheld, leads_on}
use Rattle.refile_plans.proofs.Selected.{chosen_listed, chosen_numbers, chosen_rise}
use Rattle.anno_plans.specs.Anno.{anno, chosen_from, opened_noted, said_noted}
use Rattle.anno_plans.specs.AnnoOutcome.{anno_work, chosen_work, mail_noted, opened_work}
use Rattle.anno_plans.specs.declared.job.AnnoJob.{AnnoJob}
use Rattle.anno_plans.proofs.AnnoEntries.{noted_entries}
use Rattle.anno_plans.proofs.Listed.{like}
use Rattle.anno_plans.proofs.NotedMail.{Went, all_noted}
use Rattle.refile_plans.proofs.RmmGiven.{stands_in}
use Rattle.mh_base.proofs.NumberTests.{AreNumbers}

-- the end of work that says nothing
long_silent : (o : Option ℕ) (k : Kept) (next : Kept → Work CommandFault) → (next k).text ≡ [] → (unless_long o k next).text ≡ []
long_silent None k next f = f
long_silent (Some l) k next f = refl

module _ (run : ℕ) (few : run < 2 ^ 128) (path : List ℕ) (job : AnnoJob) (valid : is_folder_name job.folder ≡ true) where
  abbrev p : Place
  p = Folder path job.folder

  abbrev mail : Place
  mail = Mail path

  abbrev next : Kept → Work CommandFault
  next = current_work path job.folder []

  -- the work on a folder that was begun
  module _ (o : Opened) (z : View) (j : Hand) (f : IsOpen path job.folder o z j) where
    abbrev k : Kept
    k = f.kept

    abbrev c : Contents
    c = f.contents

    module _ (numbers : List ℕ) (is : chosen_from job o.listing o.sequences ≡ Ok numbers) where
      rise : Rise 1 numbers
      rise = chosen_rise (like job) o.listing o.sequences numbers is

      all : AreNumbers numbers
      all = chosen_numbers (like job) o.listing o.sequences numbers is f.runs

      stand : (n : ℕ) → lists numbers n ≡ true → is_some (c.texts p (decimal n)) ≡ true
      stand n e = stands_in c path job.folder n (ap (λ m. is_some (message_at m p n)) f.holds.shows ∙ (f.stands n ∙ chosen_listed (like job) o.listing o.sequences numbers is n e))

      abbrev commits : Commits
      commits = mail_noted run p job.lines numbers k

      abbrev work : Work CommandFault
      work = after_commits commits next

      -- all got the lines
      holds_then : (y : View) (i : Hand) (g : Went commits c j y i [] (Ok tt)) → Holds (λ e. Unit {0}) path commits.kept g.1.0 i
      holds_then y i g = record {
        shows = g.1.2;
        entries = noted_entries run p job.lines numbers k ∙ (f.holds.entries ∙ sym (ap (λ t. entries_in (filled t)) context_same));
        known = g.1.4 ∙ (f.holds.known ∙ ap (λ x. Some x) (sym (noted_entries run p job.lines numbers k)));
        short = subst (IsShort LIMIT_BYTES) (sym context_same) f.holds.short;
        still = tt;
      }
        where
          context_same : g.1.0.texts mail context_name ≡ c.texts mail context_name
          context_same = g.1.3.names mail context_name context_no_number context_unheld

      -- how they went decides
      leads : (y : View) (i : Hand) (left : List ℕ) (q : Result Unit PlanFault) → left ≡ [] → Went commits c j y i [] q → Leads run few path job.folder work next y i left (converted (of_plan job.folder) q)
      leads y i left (Ok u) none g = (none, (commits.kept, after_all commits next g.0, (g.1.0, g.1.1, holds_then y i g)))
      leads y i left (Err e) none (inl memory) = subst (λ x. WorkEnds work y i left (Err (of_plan job.folder x))) (sym memory) tt
      leads y i left (Err e) none (inr g) =
          subst (λ x. WorkEnds work y i left (Err (of_plan job.folder x))) (sym g.2)
          (subst (λ x. WorkEnds x y i left (Err (too_large g.0))) (sym (after_long commits next g.0 g.1)) (none, refl, g.3))

      noted_gives : Gives (by_view true) z j [] (lifted (of_plan job.folder) (messages_noted run p job.lines numbers (last_in o.listing))) (Leads run few path job.folder work next)
      noted_gives =
          gives_more (by_view true) z j [] (lifted (of_plan job.folder) (messages_noted run p job.lines numbers (last_in o.listing)))
          (λ y i left r. (left ≡ []) × ((q : Result Unit PlanFault) × (r ≡ converted (of_plan job.folder) q) × Went commits c j y i [] q)) (Leads run few path job.folder work next)
          (lifted_gives z j [] (of_plan job.folder) (messages_noted run p job.lines numbers (last_in o.listing)) (λ y i left r. Went commits c j y i left r)
          (all_noted run few path job.folder job.lines numbers 1 rise all c f.holds.still stand k f.holds.shows f.later z j [] (last_in o.listing) f.is))
          (λ y i left r g. subst (λ q. Leads run few path job.folder work next y i left q) (sym g.1.1) (leads y i left g.1.0 g.0 g.1.2))

    by_value : (value : Result (List ℕ) CommandFault) → chosen_from job o.listing o.sequences ≡ value
        → Gives (by_view true) z j [] (Return value >>= (λ numbers. lifted (of_plan job.folder) (messages_noted run p job.lines numbers (last_in o.listing)))) (Leads run few path job.folder (chosen_work run path job k value) next)
    unfolding Gives bind ◌>>=◌
    by_value (Ok numbers) is = noted_gives numbers is
    by_value (Err e) is =
        let r = refuses (folder_with job.negation (numbers_of o.listing) (marks_of o.sequences)) job.specs e is in
        subst (λ x. WorkEnds (refused_at k.mailbox x) z j [] (Err x)) (sym r.1) (refl, refl, ap mailbox_in (f.is.0 refl) ∙ f.holds.shows)

    at_place : (q : Place) → q ≡ p → Gives (by_view true) z j [] (Return (chosen_from job o.listing o.sequences) >>= (λ numbers. lifted (of_plan job.folder) (messages_noted run q job.lines numbers (last_in o.listing)))) (Leads run few path job.folder (opened_work run path job o.listing o.sequences k) next)
    at_place q place = rw place (by_value (chosen_from job o.listing o.sequences) refl)

    said_gives : Gives (by_view true) z j [] (said_noted run job o) (Leads run few path job.folder (opened_work run path job o.listing o.sequences k) next)
    unfolding said_noted
    said_gives = at_place o.place f.place

    -- nothing is written
    no_text : (value : Result (List ℕ) CommandFault) → chosen_from job o.listing o.sequences ≡ value → (chosen_work run path job k value).text ≡ []
    no_text (Ok numbers) is = long_silent (commits numbers is).long (commits numbers is).kept next refl
    no_text (Err e) is = refl

    opened_gives : Gives (by_view true) z j (opened_work run path job o.listing o.sequences k).text (opened_noted run path job o) (WorkEnds (opened_work run path job o.listing o.sequences k))
    unfolding opened_noted
    opened_gives =
        subst (λ t. Gives (by_view true) z j t (said_noted run job o >>= (λ noted. made_current run path job.folder)) (WorkEnds (opened_work run path job o.listing o.sequences k))) (sym (no_text (chosen_from job o.listing o.sequences) refl))
        (leads_on run few path job.folder valid true (opened_work run path job o.listing o.sequences k) (said_noted run job o) z j said_gives)

-- the whole, where the context has these entries and its text is not too long
pub anno_gives : (run : ℕ) → run < 2 ^ 128 → (path : List ℕ) (job : AnnoJob) → is_folder_name job.folder ≡ true → list_all is_name_byte (suffix job.folder) ≡ true → (c : Contents) (entries : List NamedValue) → entries ≡ entries_at c (Mail path) → IsShort LIMIT_BYTES (c.texts (Mail path) context_name)
    → (h : Homes) → AreHomesAt run ((mailbox_in c).folders (Folder path job.folder)) h → (ns : List ℕ) (v : View) (hand : Hand) → IsUntouched ns (Folder path job.folder) c hand v hand
    → Gives (by_view true) v hand (anno_work run path entries h job (mailbox_in c)).text (anno run path job) (WorkEnds (anno_work run path entries h job (mailbox_in c)))
unfolding anno anno_work
anno_gives run few path job valid clean c entries entries_are short h are ns v hand untouched =
    changes_give run few path job.folder clean c entries entries_are short h are ns v hand untouched (opened_work run path job) (opened_noted run path job) (λ o z j f. opened_gives run few path job valid o z j f)
