-- Each step of `pick` minds the marks of all sequences.
use Rattle.std.proofs.Common.{◌≡◌, inl, inr, ◌==◌, ◌||◌, ◌∷◌, [], ℕ, Bool, true, false, cond, List, Result, Ok, Err, map, refl, sym, ◌∙◌, subst, bytes_eq}
use Rattle.std.specs.Prelude.{IfSome, Option, filter, if◌then◌else◌}
use Rattle.mh_base.specs.Numbers.{IsMsgNum}
use Rattle.mh_sequences.specs.Marks.{marked, marked_cur}
use Rattle.mh_sequences.specs.Runs.{has}
use Rattle.mh_sequences.specs.Sequences.{AreSequences, Marked, member}
use Rattle.mh_sequences.specs.declared.run.Run.{Run}
use Rattle.msg_ranges.proofs.Rising.{lists}
use Rattle.folder_files.specs.Deeds.{Deed}
use Rattle.folder_files.specs.declared.place.Place.{Place}
use Rattle.folder_files.specs.declared.place.Place.TheVariants.{Folder, Mail}
use Rattle.folder_files.specs.declared.refusal.Refusal.TheVariants as refusal
use Rattle.folder_files.specs.declared.step.Answer.TheVariants as answer
use Rattle.folder_files.specs.declared.step.Step.TheVariants as step
use Rattle.folder_files.proofs.Names.{or_case}
use Rattle.file_plans.specs.Plan.{Hand, Plan, Return, after, bind, lifted, ◌>>=◌}
use Rattle.step_plans.specs.CommandFaults.{of_sink}
use Rattle.step_plans.specs.ContextCommit.{AreChanges, LIMIT_BYTES}
use Rattle.step_plans.specs.Pledges.{MayAsk, Pledge}
use Rattle.step_plans.specs.declared.command_fault.CommandFault.{CommandFault}
use Rattle.step_plans.specs.declared.command_fault.CommandFault.TheVariants as fault
use Rattle.step_plans.proofs.Going.{Outcome, okay}
use Rattle.sequence_commits.specs.Committing.{changed_sequences}
use Rattle.sequence_commits.specs.Marking.{marked_by, marked_by_all}
use Rattle.sequence_commits.specs.RunsOfAll.{set_among}
use Rattle.sequence_commits.proofs.MarkedOnce.{marked_valid}
use Rattle.command_stages.specs.Current.{current_change, made_current}
use Rattle.command_stages.specs.Endings.{of_plan}
use Rattle.opening_plans.specs.FolderPledge.{told_within}
use Rattle.opening_plans.specs.Opening.{Opened}
use Rattle.opening_plans.proofs.AllMarks.{MindsAll}
use Rattle.opening_plans.proofs.BegunSeen.{HasSeenBegun, NoneUnlinked}
use Rattle.opening_plans.proofs.ChosenListed.{has_tested, marked_cur_is, marked_member, words_listed}
use Rattle.opening_plans.proofs.CommitMinds.{Facts, IsTold, Within, changed_meets}
use Rattle.opening_plans.proofs.CommitSeen.{synced_kept}
use Rattle.opening_plans.proofs.FolderSeen.{quiet_seen}
use Rattle.opening_plans.proofs.Meeting.{Meets, meets_end, meets_lifted, meets_more, meets_okay, meets_return, meets_say, meets_then}
use Rattle.opening_plans.proofs.ToldMarks.{InListing, told_cur, told_listed, told_valid}
use Rattle.opening_plans.proofs.WorkMinds.{Anyhow, current_meets, whole_meets}
use Rattle.told_folders.specs.Plans.{lines_said}
use Rattle.pick_expr.specs.Picks.{picks}
use Rattle.mh_looks.proofs.Ending.{name_of}
use Rattle.pick_plans.specs.Lines.{lines_for}
use Rattle.pick_plans.specs.Marking.{mark_with, marked_for}
use Rattle.pick_plans.specs.Pick.{chosen_from, found_marked, found_told, opened_picked, pick_changes, said_if, some_found, unless_none}
use Rattle.pick_plans.specs.PickPledge.{pick_pledge}
use Rattle.pick_plans.specs.Testing.{ReadMessage, all_tested, numbers_in}
use Rattle.pick_plans.specs.declared.job.PickAct.{PickAct}
use Rattle.pick_plans.specs.declared.job.PickAct.TheVariants as act
use Rattle.pick_plans.specs.declared.job.PickJob.{PickJob}
use Rattle.pick_plans.specs.declared.job.PickMarks.{PickMarks}
use Rattle.pick_plans.proofs.Tested.{All, AreTested, all_meets}
use Rattle.told_folders.proofs.MessagesStand.{reading}

-- what matches is among what was read
matches_among : (test : ReadMessage → Bool) (ms : List ReadMessage) (n : ℕ) → lists (numbers_in (filter test ms)) n ≡ true → lists (numbers_in ms) n ≡ true
matches_among test [] n e = e
matches_among test (m ∷ ms) n e = go (test m) (matches_among test ms n) e
  where
    left_case : (a b c : Bool) → (b ≡ true → c ≡ true) → a || b ≡ true → a || c ≡ true
    left_case true b c f e = refl
    left_case false b c f e = f e

    right_case : (a c : Bool) → c ≡ true → a || c ≡ true
    right_case true c e = refl
    right_case false c e = e

    go : (b : Bool) → (lists (numbers_in (filter test ms)) n ≡ true → lists (numbers_in ms) n ≡ true) → lists (numbers_in (cond b (m ∷ filter test ms) (filter test ms))) n ≡ true → lists (numbers_in (m ∷ ms)) n ≡ true
    go true f e = left_case (m.number == n) (lists (numbers_in (filter test ms)) n) (lists (numbers_in ms) n) f e
    go false f e = right_case (m.number == n) (lists (numbers_in ms) n) (f e)

-- marks on listed numbers leave sequences of listed numbers
module _ (listing : List Run) (a : PickAct) (public : Option Bool) (runs : List Run) (listed : (n : ℕ) → has runs n ≡ true → has listing n ≡ true) where
  one_within : (act_ : PickAct) (name t : List ℕ) (old : ℕ → Bool) (n : ℕ) → (old n ≡ true → has listing n ≡ true) → marked (mark_with act_ public runs name) t old n ≡ true → has listing n ≡ true
  one_within act.Add name t old n before e = go (bytes_eq t name) e
    where
      go : (b : Bool) → (if b then old n || has runs n else old n) ≡ true → has listing n ≡ true
      go true e = elim (or_case (old n) (has runs n) e) [ inl f ↦ before f | inr f ↦ listed n f ]
      go false e = before e
  one_within act.Set name t old n before e = go (bytes_eq t name) e
    where
      go : (b : Bool) → (if b then has runs n else old n) ≡ true → has listing n ≡ true
      go true e = listed n e
      go false e = before e

  all_within : (names : List (List ℕ)) (m : Marked) → ((t : List ℕ) (n : ℕ) → member m.users t n ≡ true → has listing n ≡ true)
      → (t : List ℕ) (n : ℕ) → member (marked_by_all (map (mark_with a public runs) names) m).users t n ≡ true → has listing n ≡ true
  unfolding marked_by_all
  all_within [] m before t n e = before t n e
  all_within (name ∷ names) m before t n e =
      all_within names (marked_by (mark_with a public runs name) m) (λ s k f. one_within a name s (member m.users s) k (before s k) (marked_member (mark_with a public runs name) m s k f)) t n e

  all_valid : (names : List (List ℕ)) (m : Marked) → AreSequences m.users → AreSequences (marked_by_all (map (mark_with a public runs) names) m).users
  unfolding marked_by_all
  all_valid [] m valid = valid
  all_valid (name ∷ names) m valid = all_valid names (marked_by (mark_with a public runs name) m) (marked_valid (mark_with a public runs name) m)

  one_cur : (act_ : PickAct) (name : List ℕ) (cur : Option ℕ) → marked_cur (mark_with act_ public runs name) cur ≡ cur
  one_cur act.Add name cur = refl
  one_cur act.Set name cur = refl

  all_cur : (names : List (List ℕ)) (m : Marked) → (marked_by_all (map (mark_with a public runs) names) m).cur ≡ m.cur
  unfolding marked_by_all
  all_cur [] m = refl
  all_cur (name ∷ names) m = all_cur names (marked_by (mark_with a public runs name) m) ∙ (marked_cur_is (mark_with a public runs name) m ∙ one_cur a name m.cur)

module _ (run : ℕ) (path : List ℕ) (job : PickJob) (p : PickMarks) (ok : AreChanges (current_change job.folder)) where
  abbrev w : Pledge
  w = pick_pledge run path job p

  abbrev Of : List ℕ → Type 0
  Of other = IsTold job.folder other

  abbrev place : Place
  place = Folder path job.folder

  abbrev mail : Place
  mail = Mail path

  abbrev M : {R : Type 0} → List Deed → Hand → Plan R → Outcome R → Type 0
  M own h plan Q = Meets (MayAsk w) (MindsAll Of run) own h plan Q

  lines_meet : (own : List Deed) (h : Hand) (lines : List (List ℕ)) → M own h (lines_said lines) (okay (λ later j u. later ≡ own))
  unfolding lines_said
  lines_meet own h [] = meets_return (MayAsk w) (MindsAll Of run) own h tt (okay (λ later j u. later ≡ own)) refl
  lines_meet own h (line ∷ lines) = meets_say (MayAsk w) (MindsAll Of run) own h of_sink (okay (λ later j u. later ≡ own)) line (λ told. lines_said lines) (lines_meet own h lines)

  said_meets : (own : List Deed) (h : Hand) (list : Bool) (lines : List (List ℕ)) → M own h (said_if list lines) (okay (λ later j u. later ≡ own))
  said_meets own h true lines = lines_meet own h lines
  said_meets own h false lines = meets_return (MayAsk w) (MindsAll Of run) own h tt (okay (λ later j u. later ≡ own)) refl

  abbrev Same : List ℕ → List Deed → Hand → Outcome (List ℕ)
  Same found own h later j all = (later ≡ own) × (j ≡ h) × (all ≡ found)

  unless_meets : (own : List Deed) (h : Hand) (list : Bool) (found : List ℕ) → M own h (unless_none list found) (okay (Same found own h))
  unfolding unless_none
  unless_meets own h list [] =
      meets_then (MayAsk w) (MindsAll Of run) own h (said_if list (lines_for [])) _ (λ later j u. later ≡ own) (Same [] own h) (said_meets own h list (lines_for []))
      (λ later j u q. meets_end (MayAsk w) (MindsAll Of run) later j (fault.Refused refusal.NoMatch) (Same [] own h))
  unless_meets own h list (n ∷ ns) = meets_return (MayAsk w) (MindsAll Of run) own h (n ∷ ns) (okay (Same (n ∷ ns) own h)) (refl, refl, refl)

  module _ (own : List Deed) (h : Hand) (o : Opened) (b : HasSeenBegun path job.folder own o) where
    abbrev m : Marked
    m = told_within o.listing b.text b.context job.folder

    abbrev Known : List Deed → Type 0
    Known later = Facts w path job.folder b.names (InListing o.listing) later

    known_read : (before : List Deed) (n : ℕ) (text : List ℕ) → MayAsk w before (step.Read place (name_of n) LIMIT_BYTES) → Known before → Known (reading place n (answer.Content text) ∷ before)
    known_read before n text may f = (
      quiet_seen w place b.names (InListing o.listing) before (step.Read place (name_of n) LIMIT_BYTES) (answer.Content text) may tt f.0,
      synced_kept Of w path job.folder before (step.Read place (name_of n) LIMIT_BYTES) (answer.Content text) tt (λ temp e. cc (e)) f.1,
    )

    abbrev made : List ℕ → Marked
    made found = marked_for p found m

    abbrev Found : List ℕ → Outcome (List ℕ)
    Found numbers later j found = Known later × ((n : ℕ) → lists found n ≡ true → lists numbers n ≡ true)

    found_meets : (numbers : List ℕ) → M own h (some_found place job numbers) (okay (Found numbers))
    unfolding some_found
    found_meets numbers =
        meets_then (MayAsk w) (MindsAll Of run) own h (all_tested place job.expr [] numbers) (λ found. unless_none job.list found) (λ later j found. All place job.expr [] numbers own h later j found × Known later) (Found numbers)
        (all_meets place job.expr (MayAsk w) Of run Known known_read [] numbers own h b.facts)
        (λ later j found t. meets_okay (MayAsk w) (MindsAll Of run) later j (unless_none job.list found) (Same found later j) (Found numbers) (λ last i all q. rw (q.0, q.2) (t.1, among found later t.0.0)) (unless_meets later j job.list found))
      where
        among : (found : List ℕ) (later : List Deed) → AreTested place job.expr [] numbers own later found → (n : ℕ) → lists found n ≡ true → lists numbers n ≡ true
        among found later t n e = subst (λ z. lists z n ≡ true) t.numbers (matches_among (λ z. picks job.expr z.text) t.messages n (subst (λ z. lists z n ≡ true) t.matches e))

    module _ (numbers : List ℕ) (is : chosen_from job o.listing m ≡ Ok numbers) (found : List ℕ) (among : (n : ℕ) → lists found n ≡ true → lists numbers n ≡ true) where
      found_listed : (n : ℕ) → has (set_among found) n ≡ true → has o.listing n ≡ true
      found_listed n e = words_listed job.negation o.listing m job.specs numbers is n (among n (has_tested _ n e))

      made_within : Within (InListing o.listing) (made found)
      made_within z n sequence kind e = (n, kind, all_within o.listing p.act p.public (set_among found) found_listed p.names m (λ t k f. told_listed o.listing b.text b.context job.folder t k f) sequence n e)

      made_valid : AreSequences (made found).users
      made_valid = all_valid o.listing p.act p.public (set_among found) found_listed p.names m (told_valid o.listing b.text b.context job.folder)

      made_cur : IfSome (made found).cur IsMsgNum
      made_cur = subst (λ z. IfSome z IsMsgNum) (sym (all_cur o.listing p.act p.public (set_among found) found_listed p.names m)) (told_cur o.listing b.text b.context job.folder)

      commits : (later : List Deed) (j : Hand) → Known later → M later j (lifted (of_plan job.folder) (changed_sequences run place mail job.folder m (made found))) (okay (λ last i u. Known last))
      commits later j f =
          meets_lifted (MayAsk w) (MindsAll Of run) later j (of_plan job.folder) (changed_sequences run place mail job.folder m (made found)) (λ last i u. Known last)
          (changed_meets w path job.folder b.names (InListing o.listing) (made found) made_valid made_cur made_within later j m f)

    abbrev Knows : Outcome Unit
    Knows later j u = Known later

    told_meets : (later : List Deed) (j : Hand) (found : List ℕ) → Known later → M later j (found_told run path job found) (okay Knows)
    unfolding found_told
    told_meets later j found f =
        meets_then (MayAsk w) (MindsAll Of run) later j (said_if job.list (lines_for found)) (λ told. made_current run path job.folder) (λ last i u. last ≡ later) Knows (said_meets later j job.list (lines_for found))
        (λ last i u e. current_meets w path job.folder b.names (InListing o.listing) ok last i (subst Known (sym e) f))

    abbrev then_told : Place → List ℕ → Marked → List ℕ → Plan (Result Unit CommandFault)
    then_told q n s found = lifted (of_plan job.folder) (changed_sequences run q mail n s (marked_for p found s)) >>= (λ done. found_told run path job found)

    marked_meets : (numbers : List ℕ) → chosen_from job o.listing m ≡ Ok numbers → (later : List Deed) (j : Hand) (found : List ℕ) → Found numbers later j found → M later j (then_told place job.folder m found) (okay Knows)
    marked_meets numbers is later j found f =
        meets_then (MayAsk w) (MindsAll Of run) later j (lifted (of_plan job.folder) (changed_sequences run place mail job.folder m (made found))) (λ done. found_told run path job found) Knows Knows (commits numbers is found f.1 later j f.0)
        (λ last i u g. told_meets last i found g)

    chosen_by : (value : Result (List ℕ) CommandFault) → chosen_from job o.listing m ≡ value → M own h (after (λ numbers. some_found place job numbers >>= then_told place job.folder m) value) (okay Knows)
    chosen_by (Err e) is = meets_end (MayAsk w) (MindsAll Of run) own h e Knows
    chosen_by (Ok numbers) is =
        meets_then (MayAsk w) (MindsAll Of run) own h (some_found place job numbers) (then_told place job.folder m) (Found numbers) Knows (found_meets numbers) (λ later j found f. marked_meets numbers is later j found f)

    chosen_at : (q : Place) (n : List ℕ) (s : Marked) → q ≡ place → n ≡ job.folder → s ≡ m → M own h (Return (chosen_from job o.listing s) >>= (λ numbers. some_found q job numbers >>= then_told q n s)) (okay Knows)
    unfolding Meets bind ◌>>=◌
    chosen_at q n s at name is = rw (at, name, is) (chosen_by (chosen_from job o.listing m) refl)

    opened_okay : M own h (opened_picked run path job p o) (okay Knows)
    unfolding opened_picked found_marked
    opened_okay = chosen_at o.place o.folder o.sequences b.place b.name b.sequences

    pub opened_meets : M own h (opened_picked run path job p o) Anyhow
    opened_meets = meets_more (MayAsk w) (MindsAll Of run) own h (opened_picked run path job p o) (okay Knows) Anyhow (λ later j r q. tt) opened_okay

  -- a `pick` that marks
  pub changes_meet : (own : List Deed) (h : Hand) → NoneUnlinked place own → M own h (pick_changes run path job p) Anyhow
  unfolding pick_changes
  changes_meet own h none = whole_meets w path job.folder (MindsAll Of run) (λ before s f. f) (opened_picked run path job p) (λ before i o b. opened_meets before i o b) own h none
