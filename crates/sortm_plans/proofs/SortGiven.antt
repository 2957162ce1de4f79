-- What `sortm` gives alone: what it comes to on the mailbox that it finds.
use Rattle.std.proofs.Common.{◌≡◌, ◌<◌, ◌^◌, ℕ, suc, true, List, [], ◌∷◌, Option, Some, None, Result, Ok, Err, length, map, refl, sym, ◌∙◌, ap, subst}
use Rattle.std.specs.Prelude.{decimal, is_some}
use Rattle.std.specs.List.{list_all}
use Rattle.mail_headers.specs.Lines.{is_name_byte}
use Rattle.mh_base.specs.Folders.{is_folder_name}
use Rattle.mh_profile.specs.declared.named_value.NamedValue.{NamedValue}
use Rattle.mh_sequences.specs.Reading.{suffix}
use Rattle.mh_sequences.specs.Runs.{numbers_of}
use Rattle.mh_sequences.specs.Sequences.{Marked}
use Rattle.msg_ranges.specs.Selection.{marks_of}
use Rattle.msg_ranges.proofs.Rising.{lists}
use Rattle.folder_files.specs.declared.place.Place.{Place}
use Rattle.folder_files.specs.declared.place.Place.TheVariants.{Folder, Mail}
use Rattle.folder_files.proofs.Names.{not_both}
use Rattle.file_plans.specs.Contents.{Contents, filled, mailbox_in}
use Rattle.file_plans.specs.Giving.{Gives}
use Rattle.file_plans.specs.Plan.{Hand, Plan, after, bind, converted, lifted, ◌>>=◌}
use Rattle.file_plans.specs.Views.{View, by_view}
use Rattle.file_plans.proofs.Giving.{gives_more, gives_on}
use Rattle.file_plans.proofs.Onward.{Is, IsShort}
use Rattle.step_plans.specs.ContextCommit.{LIMIT_BYTES, context_name}
use Rattle.step_plans.specs.declared.command_fault.CommandFault.{CommandFault}
use Rattle.step_plans.specs.declared.fault.PlanFault.{PlanFault}
use Rattle.step_plans.specs.declared.fault.PlanFault.TheVariants as plan
use Rattle.step_plans.proofs.Committed.{entries_at}
use Rattle.command_stages.specs.Chosen.{folder_with}
use Rattle.command_stages.specs.Current.{made_current}
use Rattle.command_stages.specs.Endings.{of_plan}
use Rattle.command_stages.specs.Texts.{too_large}
use Rattle.command_stages.specs.Works.{Work, refused_at}
use Rattle.mh_looks.proofs.Scanning.{refuses}
use Rattle.message_places.specs.Order.{moves_of}
use Rattle.message_places.specs.Places.{AreDistinct, AreMsgNums, froms, is_in, slots}
use Rattle.message_places.specs.declared.moves.Move.{Move}
use Rattle.message_places.proofs.InOrder.{froms_distinct, froms_good, moves_permute, slot_in, slots_distinct, slots_good}
use Rattle.message_places.proofs.Permuted.{same_good}
use Rattle.opening_plans.specs.BegunWork.{AreHomesAt, Homes, after_commits, current_work, unless_long}
use Rattle.opening_plans.specs.Kept.{Commits, Kept, sequences_kept}
use Rattle.opening_plans.specs.Opening.{Opened, opened_of}
use Rattle.opening_plans.proofs.FolderGiven.{IsUntouched}
use Rattle.opening_plans.proofs.KeptGiven.{Holds, IsClear}
use Rattle.opening_plans.proofs.KeptMessages.{message_at, message_of, sequences_messages}
use Rattle.opening_plans.proofs.WorkGiven.{IsOpen, WorkEnds, changes_give, current_gives, lifted_gives, weaker}
use Rattle.refile_plans.specs.MailMoved as mail_moved
use Rattle.refile_plans.proofs.MovedShown.{message_shown}
use Rattle.sortm_plans.specs.Reading.{order_read}
use Rattle.sortm_plans.specs.Sort.{chosen_from, chosen_sorted, opened_sorted, places_changed, sortm}
use Rattle.sortm_plans.specs.SortMoves.{order_by}
use Rattle.sortm_plans.specs.SortOutcome.{chosen_work, first_long, in_order_at, mail_sorted, opened_work, read_work, sort_work, texts_in, texts_work}
use Rattle.sortm_plans.specs.declared.job.SortJob.{SortJob}
use Rattle.sortm_plans.proofs.Listed.{sort_distinct, sort_good, sort_listed}
use Rattle.sortm_plans.proofs.MarkedGiven as stage
use Rattle.sortm_plans.proofs.MarkedGiven.{EndsAt}
use Rattle.sortm_plans.proofs.OrderMoves.{order_distinct, order_many, order_members, order_permutes}
use Rattle.sortm_plans.proofs.OrderStands.{in_order_so}
use Rattle.sortm_plans.proofs.ReadGiven as reading
use Rattle.sortm_plans.proofs.ReadGiven.{order_gives}
use Rattle.refile_plans.specs.Rmm.{withdrawn}
use Rattle.refile_plans.proofs.RefiledOpened.{after_all, after_long}
use Rattle.refile_plans.proofs.RmmGiven.{stands_in}

-- the end of work that says nothing
long_silent : (o : Option ℕ) (k : Kept) (next : Kept → Work CommandFault) → (next k).text ≡ [] → (unless_long o k next).text ≡ []
long_silent None k next f = f
long_silent (Some l) k next f = refl

mapped_many : {A B : Type 0} (f : A → B) (xs : List A) → length (map f xs) ≡ length xs
mapped_many f [] = refl
mapped_many f (x ∷ xs) = ap suc (mapped_many f xs)

module _ (run : ℕ) (few : run < 2 ^ 128) (path : List ℕ) (job : SortJob) (valid : is_folder_name job.folder ≡ true) (clean : list_all is_name_byte (suffix job.folder) ≡ true) where
  abbrev p : Place
  p = Folder path job.folder

  abbrev mail : Place
  mail = Mail path

  abbrev next : Kept → Work CommandFault
  next = current_work path job.folder []

  abbrev Clear : Contents → Type 0
  Clear c = IsClear c p

  -- how commits ended decides; messages that moved ended at their slots
  abbrev EndsHere : List Move → Commits → View → Hand → Result (List ℕ) PlanFault → Type 0
  EndsHere ms commits y i r = EndsAt run few path job.folder clean ms commits y i r

  -- so far all is done, and the work goes on so; or it has ended
  abbrev LeadsOn : Work CommandFault → View → Hand → List ℕ → Result (List ℕ) CommandFault → Type 0
  LeadsOn w y i left (Ok ends) = (left ≡ []) × ((l : Kept) × (w ≡ next l) × ((d : Contents) × Is true y.numbers y d × Holds (λ e. Unit {0}) path l d i))
  LeadsOn w y i left (Err e) = WorkEnds w y i left (Err e)

  leads : (ms : List Move) (commits : Commits) (w : Work CommandFault) → w ≡ after_commits commits next → (y : View) (i : Hand) (left : List ℕ) (q : Result (List ℕ) PlanFault) → left ≡ [] → EndsHere ms commits y i q → LeadsOn w y i left (converted (of_plan job.folder) q)
  leads ms commits w is y i left (Ok ends) none e =
      (none, (commits.kept, is ∙ after_all commits next e.1.0, (e.1.1.0, e.1.1.1, weaker run few path job.folder Clear commits.kept e.1.1.0 i e.1.1.2)))
  leads ms commits w is y i left (Err plan.Faulted) none e = e
  leads ms commits w is y i left (Err (plan.Locked q)) none e = absurd e
  leads ms commits w is y i left (Err (plan.Meddled q x)) none e = e
  leads ms commits w is y i left (Err plan.Full) none e = absurd e
  leads ms commits w is y i left (Err (plan.Absent q)) none e = absurd e
  leads ms commits w is y i left (Err (plan.TooLarge l)) none e = subst (λ x. WorkEnds x y i left (Err (too_large l))) (sym (is ∙ after_long commits next l e.0)) (none, refl, e.1)
  leads ms commits w is y i left (Err plan.Memory) none e = tt

  -- the work on a folder that was begun
  module _ (o : Opened) (z : View) (j : Hand) (f : IsOpen path job.folder o z j) where
    abbrev k : Kept
    k = f.kept

    abbrev c : Contents
    c = f.contents

    abbrev m : Marked
    m = o.sequences

    abbrev opened : Opened
    opened = opened_of p job.folder o.listing m o.ends

    module _ (numbers : List ℕ) (is : chosen_from job o.listing m ≡ Ok numbers) where
      good : AreMsgNums numbers
      good = sort_good job o.listing m numbers is f.runs

      distinct : AreDistinct numbers
      distinct = sort_distinct job o.listing m numbers is

      stand_by : (n : ℕ) → lists numbers n ≡ true → is_some (message_at k.mailbox p n) ≡ true
      stand_by n e = f.stands n ∙ sort_listed job o.listing m numbers is n e

      stand : (n : ℕ) → lists numbers n ≡ true → is_some (c.texts p (decimal n)) ≡ true
      stand n e = stands_in c path job.folder n (ap (λ x. is_some (message_at x p n)) f.holds.shows ∙ stand_by n e)

      -- the bytes of the messages
      abbrev texts : List (List ℕ)
      texts = map (λ n. filled (c.texts p (decimal n))) numbers

      texts_same : texts_in (k.mailbox.folders p) numbers ≡ texts
      texts_same = each numbers good
        where
          each : (ns : List ℕ) → AreMsgNums ns → map (λ n. filled (mail_moved.message_of (k.mailbox.folders p) n)) ns ≡ map (λ n. filled (c.texts p (decimal n))) ns
          each [] ok = refl
          each (n ∷ ns) ok = λ i. filled (((ap (λ x. mail_moved.message_of (x.folders p) n) (sym f.holds.shows) ∙ message_shown c path job.folder n f.holds.still.there ok.0) i)) ∷ each ns ok.1 i

      many : length texts ≡ length numbers
      many = mapped_many (λ n. filled (c.texts p (decimal n))) numbers

      abbrev order : List ℕ
      order = order_by job.key texts numbers

      good_order : AreMsgNums order
      good_order = same_good numbers order (order_permutes job.key texts numbers many) good

      -- these messages move
      abbrev ms : List Move
      ms = moves_of order numbers

      abbrev takes : List ℕ
      takes = slots ms

      many_order : length order ≡ length numbers
      many_order = order_many job.key texts numbers many good distinct

      order_differs : AreDistinct order
      order_differs = order_distinct job.key texts numbers many good distinct

      members : (k : ℕ) → is_in k order ≡ is_in k numbers
      members = order_members job.key texts numbers many good distinct

      good_takes : AreMsgNums takes
      good_takes = slots_good order numbers good

      distinct_takes : AreDistinct takes
      distinct_takes = slots_distinct order numbers distinct

      just : (n : ℕ) → is_in n (froms ms) ≡ is_in n takes
      just n = sym (moves_permute order numbers many_order order_differs distinct members n)

      -- each stands there still, once the sequences are without it
      stand_then : (d : Contents) → mailbox_in d ≡ (sequences_kept path job.folder m (withdrawn takes m) k).kept.mailbox → (n : ℕ) → is_in n takes ≡ true → is_some (d.texts p (decimal n)) ≡ true
      stand_then d shows n e =
          stands_in d path job.folder n (ap (λ y. is_some (message_at y p n)) shows ∙ (ap is_some (sequences_messages path job.folder m (withdrawn takes m) k p n) ∙ stand_by n (slot_in order numbers n e)))

      -- they come to stand in order, and the sequences have them again
      moved_gives : Gives (by_view true) z j [] (places_changed run mail opened ms) (λ y i left r. EndsHere ms (mail_sorted run path job.folder order numbers m k) y i r)
      moved_gives =
          stage.moved_gives run few path job.folder clean o z j f takes good_takes distinct_takes ms (froms_good order numbers good_order) (froms_distinct order numbers order_differs) good_takes distinct_takes just (in_order_at run order numbers)
          (in_order_so order numbers many_order order_differs distinct members run) (λ d shows there n e. stand_then d shows n e) (λ d shows there n e off. absurd (not_both (is_in n takes) e off)) ms refl

  -- the messages are read, and change places
  module _ (o : Opened) (z : View) (j : Hand) (f : IsOpen path job.folder o z j) where
    -- also once they were read
    abbrev at_view : (y : View) → Is true f.later y f.contents → IsOpen path job.folder o y j
    at_view y at = record { place = f.place; name = f.name; valid = f.valid; runs = f.runs; kept = f.kept; contents = f.contents; later = f.later; is = at; holds = f.holds; stands = f.stands }

    module _ (numbers : List ℕ) (is : chosen_from job o.listing o.sequences ≡ Ok numbers) where
      abbrev bytes : List (List ℕ)
      bytes = texts o z j f numbers is

      abbrev work : Work CommandFault
      work = texts_work run path job o.sequences f.kept numbers bytes

      abbrev sorted : List ℕ
      sorted = order_by job.key bytes numbers

      abbrev commits : Commits
      commits = mail_sorted run path job.folder sorted numbers o.sequences f.kept

      work_short : first_long bytes ≡ None → work ≡ after_commits commits next
      work_short e = ap (read_work run path job o.sequences f.kept numbers bytes) e

      work_long : (l : ℕ) → first_long bytes ≡ Some l → work ≡ refused_at f.kept.mailbox (too_large l)
      work_long l e = ap (read_work run path job o.sequences f.kept numbers bytes) e

      abbrev opened_so : Opened
      opened_so = opened_of p job.folder o.listing o.sequences o.ends

      then_gives : (y : View) → Is true f.later y f.contents → first_long bytes ≡ None → Gives (by_view true) y j [] (lifted (of_plan job.folder) (places_changed run mail opened_so (moves_of sorted numbers))) (LeadsOn work)
      then_gives y at short =
          gives_more (by_view true) y j [] (lifted (of_plan job.folder) (places_changed run mail opened_so (moves_of sorted numbers)))
          (λ w i left r. (left ≡ []) × ((q : Result (List ℕ) PlanFault) × (r ≡ converted (of_plan job.folder) q) × EndsHere (moves_of sorted numbers) commits w i q)) (LeadsOn work)
          (lifted_gives y j [] (of_plan job.folder) (places_changed run mail opened_so (moves_of sorted numbers)) (λ w i left r. EndsHere (moves_of sorted numbers) commits w i r) (moved_gives o y j (at_view y at) numbers is))
          (λ w i left r g. subst (λ q. LeadsOn work w i left q) (sym g.1.1) (leads (moves_of sorted numbers) commits work (work_short short) w i left g.1.0 g.0 g.1.2))

      -- one that is too long refuses
      too_long_ends : (y : View) (i : Hand) (l : ℕ) → Is true f.later y f.contents → first_long bytes ≡ Some l → WorkEnds work y i [] (Err (too_large l))
      too_long_ends y i l at long = subst (λ x. WorkEnds x y i [] (Err (too_large l))) (sym (work_long l long)) (refl, refl, ap mailbox_in (at.0 refl) ∙ f.holds.shows)

      abbrev reads : Plan (Result (List ℕ) CommandFault)
      reads = order_read p job.key numbers

      abbrev goes_on : List ℕ → Plan (Result (List ℕ) CommandFault)
      goes_on order_ = lifted (of_plan job.folder) (places_changed run mail opened_so (moves_of order_ numbers))

      numbers_give : Gives (by_view true) z j [] (reads >>= goes_on) (LeadsOn work)
      numbers_give =
          gives_on (by_view true) z j [] reads goes_on (reading.Orders p f.contents f.later j job.key numbers []) (LeadsOn work)
          (order_gives p f.contents f.later j job.key numbers (stand o z j f numbers is) z [] f.is)
          (λ y i left order_ g. good_order_gives y i left order_ g)
          (λ y i left e g. bad_order_ends y i left e g)
        where
          good_order_gives : (y : View) (i : Hand) (left order_ : List ℕ) → reading.Orders p f.contents f.later j job.key numbers [] y i left (Ok order_) → Gives (by_view true) y i left (goes_on order_) (LeadsOn work)
          good_order_gives y i left order_ g =
              subst (λ t. Gives (by_view true) y i t (goes_on order_) (LeadsOn work)) (sym g.0.0)
              (subst (λ h. Gives (by_view true) y h [] (goes_on order_) (LeadsOn work)) (sym g.0.1)
              (subst (λ t. Gives (by_view true) y j [] (goes_on t) (LeadsOn work)) (sym g.1.1) (then_gives y g.0.2 g.1.0)))

          bad_order_ends : (y : View) (i : Hand) (left : List ℕ) (e : CommandFault) → reading.Orders p f.contents f.later j job.key numbers [] y i left (Err e) → WorkEnds work y i left (Err e)
          bad_order_ends y i left e g = subst (λ t. WorkEnds work y i t (Err e)) (sym g.0.0) (subst (λ x. WorkEnds work y i [] (Err x)) (sym g.1.2) (too_long_ends y i g.1.0 g.0.2 g.1.1))

    -- by the words
    abbrev all_work : Work CommandFault
    all_work = opened_work run path job o.listing o.sequences f.kept

    by_value : (value : Result (List ℕ) CommandFault) → chosen_from job o.listing o.sequences ≡ value
        → Gives (by_view true) z j [] (after (λ numbers. order_read p job.key numbers >>= (λ order_. lifted (of_plan job.folder) (places_changed run mail (opened_of p job.folder o.listing o.sequences o.ends) (moves_of order_ numbers)))) value)
        (LeadsOn (chosen_work run path job o.sequences f.kept value))
    unfolding Gives
    by_value (Ok numbers) is = subst (λ t. Gives (by_view true) z j [] (reads numbers is >>= goes_on numbers is) (LeadsOn (texts_work run path job o.sequences f.kept numbers t))) (sym (texts_same o z j f numbers is)) (numbers_give numbers is)
    by_value (Err e) is =
        let r = refuses (folder_with job.negation (numbers_of o.listing) (marks_of o.sequences)) job.specs e is in
        subst (λ x. WorkEnds (refused_at f.kept.mailbox x) z j [] (Err x)) (sym r.1) (refl, refl, ap mailbox_in (f.is.0 refl) ∙ f.holds.shows)

    same_opened : o ≡ opened_of p job.folder o.listing o.sequences o.ends
    same_opened = λ i. opened_of (f.place i) (f.name i) o.listing o.sequences o.ends

    chosen_gives : Gives (by_view true) z j [] (chosen_sorted run path job (opened_of p job.folder o.listing o.sequences o.ends)) (LeadsOn all_work)
    unfolding Gives chosen_sorted bind ◌>>=◌
    chosen_gives = by_value (chosen_from job o.listing o.sequences) refl

    -- nothing is written
    silent_by : (numbers : List ℕ) (texts_ : List (List ℕ)) (l : Option ℕ) → (read_work run path job o.sequences f.kept numbers texts_ l).text ≡ []
    silent_by numbers texts_ None = long_silent (mail_sorted run path job.folder (order_by job.key texts_ numbers) numbers o.sequences f.kept).long (mail_sorted run path job.folder (order_by job.key texts_ numbers) numbers o.sequences f.kept).kept next refl
    silent_by numbers texts_ (Some l) = refl

    no_text : (value : Result (List ℕ) CommandFault) → (chosen_work run path job o.sequences f.kept value).text ≡ []
    no_text (Ok numbers) = silent_by numbers (texts_in (f.kept.mailbox.folders p) numbers) (first_long (texts_in (f.kept.mailbox.folders p) numbers))
    no_text (Err e) = refl

    chosen_so : Gives (by_view true) z j [] (chosen_sorted run path job o) (LeadsOn all_work)
    chosen_so = subst (λ x. Gives (by_view true) z j [] (chosen_sorted run path job x) (LeadsOn all_work)) (sym same_opened) chosen_gives

    opened_gives : Gives (by_view true) z j all_work.text (opened_sorted run path job o) (WorkEnds all_work)
    unfolding opened_sorted
    opened_gives =
        subst (λ t. Gives (by_view true) z j t (chosen_sorted run path job o >>= (λ ends. made_current run path job.folder)) (WorkEnds all_work)) (sym (no_text (chosen_from job o.listing o.sequences)))
        (gives_on (by_view true) z j [] (chosen_sorted run path job o) (λ ends. made_current run path job.folder) (LeadsOn all_work) (WorkEnds all_work) chosen_so
        (λ y i left ends g.
        subst (λ t. Gives (by_view true) y i t (made_current run path job.folder) (WorkEnds all_work)) (sym g.0)
        (subst (λ x. Gives (by_view true) y i [] (made_current run path job.folder) (WorkEnds x)) (sym g.1.1) (current_gives run few path job.folder valid y.numbers [] g.1.0 g.1.2.0 y i g.1.2.1 g.1.2.2)))
        (λ y i left e g. g))

-- the whole, where the context has these entries and its text is not too long
pub sortm_gives : (run : ℕ) → run < 2 ^ 128 → (path : List ℕ) (job : SortJob) → is_folder_name job.folder ≡ true → list_all is_name_byte (suffix job.folder) ≡ true → (c : Contents) (entries : List NamedValue) → entries ≡ entries_at c (Mail path) → IsShort LIMIT_BYTES (c.texts (Mail path) context_name)
    → (h : Homes) → AreHomesAt run ((mailbox_in c).folders (Folder path job.folder)) h → (ns : List ℕ) (v : View) (hand : Hand) → IsUntouched ns (Folder path job.folder) c hand v hand
    → Gives (by_view true) v hand (sort_work run path entries h job (mailbox_in c)).text (sortm run path job) (WorkEnds (sort_work run path entries h job (mailbox_in c)))
unfolding sortm sort_work
sortm_gives run few path job valid clean c entries entries_are short h are ns v hand untouched =
    changes_give run few path job.folder clean c entries entries_are short h are ns v hand untouched (opened_work run path job) (opened_sorted run path job) (λ o z j f. opened_gives run few path job valid clean o z j f)
