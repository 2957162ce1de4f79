-- `pick` goes as it pledges.
use Rattle.std.proofs.Common.{◌≡◌, inr, ◌<◌, ◌^◌, ◌∷◌, [], ℕ, Bool, true, false, List, Result, Ok, Err, refl, sym, ◌∙◌, ap, subst}
use Rattle.std.specs.Prelude.{Option, None, Some}
use Rattle.mh_base.specs.Entries.{entry_text, kind_of}
use Rattle.mh_base.specs.Numbers.{IsMsgNum}
use Rattle.mh_base.specs.declared.entry.Entry.TheVariants.{Number, Sequences}
use Rattle.mh_base.proofs.EntryKinds.{kind_of-entry_text}
use Rattle.mh_sequences.specs.Runs.{AreRuns}
use Rattle.mh_sequences.specs.Sequences.{Marked}
use Rattle.mh_sequences.specs.declared.run.Run.{Run}
use Rattle.msg_ranges.proofs.Rising.{lists}
use Rattle.folder_files.specs.Careful.{HasLock}
use Rattle.folder_files.specs.Commands.{Marking}
use Rattle.folder_files.specs.Deeds.{Deed}
use Rattle.folder_files.specs.declared.place.Place.{Place}
use Rattle.folder_files.specs.declared.place.Place.TheVariants.{Folder, Mail}
use Rattle.folder_files.specs.declared.refusal.Refusal.TheVariants as refusal
use Rattle.folder_files.specs.declared.step.Answer.TheVariants as answer
use Rattle.folder_files.specs.declared.step.Step.{Step}
use Rattle.folder_files.specs.declared.step.Step.TheVariants as step
use Rattle.file_plans.specs.Follows.{Follows, State}
use Rattle.file_plans.specs.Plan.{Hand, Plan, Return, after, lifted, ◌>>=◌, bind}
use Rattle.file_plans.specs.Rules.{IfOkay, Keeps}
use Rattle.file_plans.specs.Runs.{Deed as Done}
use Rattle.file_plans.proofs.Acting.{acts}
use Rattle.file_plans.proofs.Framing.{AnyStep}
use Rattle.step_plans.specs.Commits.{IsBase}
use Rattle.step_plans.specs.CommandFaults.{command_cause}
use Rattle.step_plans.specs.ContextCommit.{LIMIT_BYTES}
use Rattle.step_plans.specs.Pledges.{Pledge}
use Rattle.step_plans.specs.Promises.{Promises}
use Rattle.step_plans.specs.Settled.{AreSettled}
use Rattle.step_plans.specs.declared.command_fault.CommandFault.{CommandFault}
use Rattle.step_plans.specs.declared.command_fault.CommandFault.TheVariants as fault
use Rattle.step_plans.proofs.Facts.{LeavesLock, LeavesSettled, base_kept, lock_kept, once_kept, settled_kept}
use Rattle.step_plans.proofs.Going.{ByActs, Goes, Outcome, Sound, Soundly, goes_keeps, goes_more, goes_then, okay, okay_more}
use Rattle.step_plans.proofs.Lasting.{KeptBy, lasting}
use Rattle.step_plans.proofs.Pledged.{Of}
use Rattle.step_plans.proofs.Promising.{keeps_pledge}
use Rattle.step_plans.proofs.Ruling.{rules_of}
use Rattle.step_plans.proofs.Stepping.{goes_end, goes_return}
use Rattle.step_plans.proofs.Written.{goes_at}
use Rattle.sequence_commits.specs.Committing.{changed_sequences}
use Rattle.sequence_commits.proofs.SequencesPledged.{sequences_name}
use Rattle.command_stages.specs.Current.{made_current}
use Rattle.command_stages.specs.Endings.{of_plan}
use Rattle.command_stages.specs.Listed.{folder_listed}
use Rattle.command_stages.specs.Texts.{text_read}
use Rattle.mh_looks.specs.ScanPledge.{HasListed}
use Rattle.mh_looks.proofs.LooksLeave.{Lists, Looks, goes_chosen, listed_goes, text_goes}
use Rattle.mh_looks.proofs.Ending.{name_of}
use Rattle.opening_plans.specs.FolderPledge.{folder_pledge, told_within}
use Rattle.opening_plans.specs.Opening.{Opened}
use Rattle.opening_plans.specs.Reads.{HaveSeen}
use Rattle.opening_plans.proofs.ChosenListed.{has_ranged, words_listed}
use Rattle.opening_plans.proofs.EndedKept.{Still, keeps_more}
use Rattle.opening_plans.proofs.FolderPledged.{HasBegun, seen_kept}
use Rattle.opening_plans.proofs.WorkPledged.{LetsBegin, begun_keeps, committed_goes, current_goes}
use Rattle.told_folders.proofs.ChangesPledged.{lines_go, noted_goes}
use Rattle.pick_plans.specs.Lines.{lines_for}
use Rattle.pick_plans.specs.Marking.{marked_for}
use Rattle.pick_plans.specs.Pick.{chosen_from, chosen_seen, found_marked, found_told, opened_picked, pick, pick_by, pick_changes, pick_looks, said_if, some_found, unless_none}
use Rattle.pick_plans.specs.PickPledge.{Picks, looks_pledge, pick_pledge, pledge_by}
use Rattle.pick_plans.specs.Testing.{HaveTested, all_tested, numbers_in}
use Rattle.pick_plans.specs.declared.job.PickJob.{PickJob}
use Rattle.pick_plans.specs.declared.job.PickMarks.{PickMarks}
use Rattle.pick_plans.proofs.LooksJob.{looks_of}
use Rattle.pick_plans.proofs.Tested.{All, AreTested, all_goes, reading_keeps, reading_kept, tested_all, tested_kept}
use Rattle.opening_plans.proofs.Listed.{settled_runs}
use Rattle.mh_profile.specs.Reading.{entries_seen}

-- the numbers that words choose of a folder are those of messages
pub chosen_numbers : (job : PickJob) (listing : List Run) (m : Marked) (numbers : List ℕ) → chosen_from job listing m ≡ Ok numbers → AreRuns listing → (n : ℕ) → lists numbers n ≡ true → IsMsgNum n
chosen_numbers job listing m numbers is valid n e = has_ranged listing valid n (words_listed job.negation listing m job.specs numbers is n e)

-- no message has the name of the sequences
number_apart : (n : ℕ) → IsMsgNum n → name_of n ≡ sequences_name → ⊥
number_apart n ok e = differ (sym (kind_of-entry_text (Number n) ok) ∙ (ap kind_of e ∙ kind_of-entry_text Sequences tt))
  where
    differ : Number n ≡ Sequences → ⊥
    differ f = cc (f)

-- lines may be said, and no step is made for them
module _ (w : Pledge) (tells : (own : List Deed) (piece : List ℕ) → w.may_tell own piece) where
  said_goes : (own : List Deed) (h : Hand) (list : Bool) (lines : List (List ℕ)) → Goes w own h (said_if list lines) (okay (λ later j u. later ≡ own))
  said_goes own h true lines = lines_go w tells own h lines
  said_goes own h false lines = goes_return w own h tt (okay (λ later j u. later ≡ own)) refl

  abbrev Same : List ℕ → List Deed → Hand → Outcome (List ℕ)
  Same found own h later j all = (later ≡ own) × (j ≡ h) × (all ≡ found)

  unless_goes : (own : List Deed) (h : Hand) (list : Bool) (found : List ℕ) → Goes w own h (unless_none list found) (okay (Same found own h))
  unfolding unless_none
  unless_goes own h list [] =
      goes_then w own h (said_if list (lines_for [])) _ (λ later j u. later ≡ own) (Same [] own h) (said_goes own h list (lines_for [])) (λ later j u q. goes_end w later j (fault.Refused refusal.NoMatch) (Same [] own h))
  unless_goes own h list (n ∷ ns) = goes_return w own h (n ∷ ns) (okay (Same (n ∷ ns) own h)) (refl, refl, refl)

  pub found_goes : (place : Place) (job : PickJob) (numbers : List ℕ) (own : List Deed) (h : Hand) → Goes w own h (some_found place job numbers) (okay (All place job.expr [] numbers own h))
  unfolding some_found
  found_goes place job numbers own h =
      goes_then w own h (all_tested place job.expr [] numbers) (λ found. unless_none job.list found) (All place job.expr [] numbers own h) (All place job.expr [] numbers own h) (all_goes place job.expr w [] numbers own h)
      (λ later j found t. goes_more w later j (unless_none job.list found) (okay (Same found later j)) (okay (All place job.expr [] numbers own h))
      (okay_more (Same found later j) (All place job.expr [] numbers own h) (λ last i all q. rw (q.0, q.1, q.2) t)) (unless_goes later j job.list found))

module _ (run : ℕ) (few : run < 2 ^ 128) (path : List ℕ) (job : PickJob) (p : PickMarks) (may_tell : List Deed → List ℕ → Type 0) where
  abbrev place : Place
  place = Folder path job.folder

  abbrev mail : Place
  mail = Mail path

  abbrev any_step : List Deed → Step → Type 0
  any_step own s = Unit {0}

  -- whatever it may say
  abbrev pub telling_pledge : Pledge
  telling_pledge = folder_pledge run path job.folder (Picks path job p) (Marking path job.folder) may_tell any_step

  abbrev w : Pledge
  w = telling_pledge

  pub lets : LetsBegin path job.folder (Marking path job.folder) any_step
  lets = record {
    kinds = λ own kind s k. k;
    makes = λ own q. tt;
    creates = λ own q temp bytes. tt;
    clears = λ own q temp is. tt;
    gives = λ own q held number is. tt;
    drops = λ own q held is away. tt;
    commits = λ own q temp name is. tt;
  }

  -- what was found is found later too
  pub lasts : (listing : List Run) (m new : Marked) → KeptBy AnyStep (λ own. Picks path job p own listing m new)
  lasts listing m new own s a any f = (f.0, f.1, f.2, tested_kept place job.expr f.0 f.1 own s a any f.3, f.4)

  abbrev Seen : Opened → List ℕ → List ℕ → List Deed → Type 0
  Seen o text context later = HaveSeen run place mail o.listing text context later

  pub seen_runs : (o : Opened) (text context : List ℕ) (own : List Deed) → Seen o text context own → AreRuns o.listing
  seen_runs o text context own s = subst AreRuns (sym s.listed.1) (settled_runs run s.listed.0)

  module _ (first own : List Deed) (o : Opened) (b : HasBegun w first path job.folder own o) (h : Hand) where
    abbrev made : List ℕ → Marked
    made found = marked_for p found o.sequences

    -- the marks on what matches are committed
    module _ (numbers : List ℕ) (is : chosen_from job o.listing o.sequences ≡ Ok numbers) (later : List Deed) (found : List ℕ) (t : AreTested place job.expr [] numbers own later found) where
      fine : (n : ℕ) → lists (numbers_in t.messages) n ≡ true → IsMsgNum n
      fine n e = chosen_numbers job o.listing o.sequences numbers is (seen_runs o b.text b.context own b.seen) n (subst (λ z. lists z n ≡ true) t.numbers e)

      pub seen_later : Seen o b.text b.context later
      seen_later = subst (Seen o b.text b.context) (sym t.read) (reading_keeps place AnyStep (Seen o b.text b.context) (seen_kept run place mail o.listing b.text b.context) (λ x. tt) t.messages own b.seen)

      lock_later : HasLock place later
      lock_later = subst (HasLock place) (sym t.read) (reading_keeps place (LeavesLock place) (HasLock place) (lock_kept place) (λ x. tt) t.messages own b.held.lock)

      base_later : IsBase run place sequences_name b.base.0 later
      base_later =
          subst (IsBase run place sequences_name b.base.0) (sym t.read)
          (reading_kept place (IsBase run place sequences_name b.base.0) IsMsgNum
          (λ before n text ok f. base_kept run place sequences_name b.base.0 before (step.Read place (name_of n) LIMIT_BYTES) (answer.Content text) (λ same e. number_apart n ok e) f) t.messages fine own b.base.1)

      pub settled_later : AreSettled own → AreSettled later
      settled_later s = subst AreSettled (sym t.read) (reading_keeps place LeavesSettled AreSettled settled_kept (λ x. tt) t.messages own s)

      -- the folder and its texts were seen, and what was tested was
      abbrev pub Commits : Outcome Unit
      Commits last i u = HaveTested place job.expr numbers found last × (Seen o b.text b.context last × (AreSettled later → AreSettled last))

      commit_goes_told : (j : Hand) → Goes w later j (lifted (of_plan job.folder) (changed_sequences run place mail job.folder (told_within o.listing b.text b.context job.folder) (made found))) (okay Commits)
      commit_goes_told j =
          lasting w (HaveTested place job.expr numbers found) (tested_kept place job.expr numbers found) later j
          (lifted (of_plan job.folder) (changed_sequences run place mail job.folder (told_within o.listing b.text b.context job.folder) (made found))) (λ last i u. Seen o b.text b.context last × (AreSettled later → AreSettled last))
          (tested_all place job.expr numbers found own later t)
          (committed_goes run few path job.folder (Picks path job p) (Marking path job.folder) may_tell any_step lets lasts later j o.listing b.text b.context (made found)
          (inr (numbers, found, ap (λ m. chosen_from job o.listing m) (sym b.sequences) ∙ is, tested_all place job.expr numbers found own later t, ap (marked_for p found) b.sequences)) seen_later lock_later b.base.0 base_later)

      pub commit_goes : (j : Hand) → Goes w later j (lifted (of_plan job.folder) (changed_sequences run place mail job.folder o.sequences (made found))) (okay Commits)
      commit_goes j = subst (λ m. Goes w later j (lifted (of_plan job.folder) (changed_sequences run place mail job.folder m (made found))) (okay Commits)) (sym b.sequences) (commit_goes_told j)

    -- whatever it may say, it may say what it says of what matches
    module _ (tells : (before : List Deed) (piece : List ℕ) → may_tell before piece) where
      abbrev Settles : List Deed → Outcome Unit
      Settles before later j u = AreSettled before → AreSettled later

      told_goes : (later : List Deed) (j : Hand) (found : List ℕ) → Seen o b.text b.context later → Goes w later j (found_told run path job found) (okay (Settles later))
      unfolding found_told
      told_goes later j found seen =
          goes_then w later j (said_if job.list (lines_for found)) (λ told. made_current run path job.folder) (λ last i u. last ≡ later) (Settles later) (said_goes w tells later j job.list (lines_for found))
          (λ last i u e. goes_at w last later i (made_current run path job.folder) (okay (Settles later)) e
          (current_goes run few path job.folder (Picks path job p) (Marking path job.folder) may_tell any_step lets lasts later i o.listing b.text b.context seen))

      abbrev then_told : Place → List ℕ → List ℕ → Plan (Result Unit CommandFault)
      then_told q n found = lifted (of_plan job.folder) (changed_sequences run q mail n o.sequences (made found)) >>= (λ done. found_told run path job found)

      marked_goes : (numbers : List ℕ) → chosen_from job o.listing o.sequences ≡ Ok numbers → (later : List Deed) (j : Hand) (found : List ℕ) → AreTested place job.expr [] numbers own later found
          → Goes w later j (then_told place job.folder found) (okay (Settles own))
      marked_goes numbers is later j found t =
          goes_then w later j (lifted (of_plan job.folder) (changed_sequences run place mail job.folder o.sequences (made found))) (λ done. found_told run path job found) (Commits numbers is later found t) (Settles own) (commit_goes numbers is later found t j)
          (λ last i u f. goes_more w last i (found_told run path job found) (okay (Settles last)) (okay (Settles own)) (okay_more (Settles last) (Settles own) (λ end k v g s. g (f.1.1 (settled_later numbers is later found t s)))) (told_goes last i found f.1.0))

      chosen_by : (value : Result (List ℕ) CommandFault) → chosen_from job o.listing o.sequences ≡ value → Goes w own h (after (λ numbers. some_found place job numbers >>= then_told place job.folder) value) (okay (Settles own))
      chosen_by (Err e) is = goes_end w own h e (Settles own)
      chosen_by (Ok numbers) is =
          goes_then w own h (some_found place job numbers) (then_told place job.folder) (All place job.expr [] numbers own h) (Settles own) (found_goes w tells place job numbers own h)
          (λ later j found t. marked_goes numbers is later j found t.0)

      chosen_at : (q : Place) (n : List ℕ) → q ≡ place → n ≡ job.folder → Goes w own h (Return (chosen_from job o.listing o.sequences) >>= (λ numbers. some_found q job numbers >>= then_told q n)) (okay (Settles own))
      unfolding Goes bind ◌>>=◌
      chosen_at q n at name = rw (at, name) (chosen_by (chosen_from job o.listing o.sequences) refl)

      -- the work on a folder that was begun
      pub opened_goes : Goes w own h (opened_picked run path job p o) (okay (Of (λ later. AreSettled own → AreSettled later)))
      unfolding opened_picked found_marked
      opened_goes = chosen_at o.place o.folder b.place b.name

-- one that marks nothing
module _ (run : ℕ) (few : run < 2 ^ 128) (path : List ℕ) (job : PickJob) where
  abbrev any_tells : List Deed → List ℕ → Type 0
  any_tells own piece = Unit {0}

  abbrev v : Pledge
  v = looks_pledge run path job

  abbrev folder_at : Place
  folder_at = Folder path job.folder

  abbrev StillBy : List Deed → Outcome Unit
  StillBy own later j u = AreSettled own → AreSettled later

  tells_any : (own : List Deed) (piece : List ℕ) → v.may_tell own piece
  tells_any own piece = tt

  noted_after : (own later : List Deed) (h : Hand) → (AreSettled own → AreSettled later) → HasListed folder_at later → Goes v later h (made_current run path job.folder) (okay (StillBy own))
  noted_after own later h f listed =
      goes_more v later h (made_current run path job.folder) (okay (StillBy later)) (okay (StillBy own)) (okay_more (StillBy later) (StillBy own) (λ last j u g s. g (f s))) (noted_goes run few path (looks_of job) any_tells later h listed)

  told_after : (own later : List Deed) (j : Hand) (found : List ℕ) → (AreSettled own → AreSettled later) → HasListed folder_at later → Goes v later j (found_told run path job found) (okay (StillBy own))
  unfolding found_told
  told_after own later j found f listed =
      goes_then v later j (said_if job.list (lines_for found)) (λ told. made_current run path job.folder) (λ last i u. last ≡ later) (StillBy own) (said_goes v tells_any later j job.list (lines_for found))
      (λ last i u e. goes_at v last later i (made_current run path job.folder) (okay (StillBy own)) e (noted_after own later i f listed))

  -- reading messages leaves what was settled, and what was listed
  read_after : (own later last : List Deed) (numbers found : List ℕ) → (AreSettled own → AreSettled later) → HasListed folder_at later → AreTested folder_at job.expr [] numbers later last found
      → (AreSettled own → AreSettled last) × HasListed folder_at last
  read_after own later last numbers found f listed t = (
    (λ s. subst AreSettled (sym t.read) (reading_keeps folder_at LeavesSettled AreSettled settled_kept (λ x. tt) t.messages later (f s))),
    subst (HasListed folder_at) (sym t.read) (reading_keeps folder_at AnyStep (HasListed folder_at) (once_kept _ AnyStep) (λ x. tt) t.messages later listed),
  )

  looks_go : (own : List Deed) (h : Hand) → Goes v own h (pick_looks run path job) (okay (StillBy own))
  unfolding pick_looks
  looks_go own h =
      goes_then v own h (folder_listed folder_at job.folder) _ (Lists v tells_any folder_at own) (StillBy own) (listed_goes v tells_any own h folder_at job.folder) (λ later j names f.
      goes_then v later j (text_read folder_at (entry_text Sequences)) _ (Looks later) (StillBy own) (text_goes v tells_any later j folder_at (entry_text Sequences)) (λ next i text g.
      goes_chosen v next i (λ k. chosen_seen job names text (entries_seen k.context)) _ (StillBy own) (λ numbers is.
      goes_then v next i (some_found folder_at job numbers) _ (All folder_at job.expr [] numbers next i) (StillBy own) (found_goes v tells_any folder_at job numbers next i) (λ last k found t.
      let r = read_after own next last numbers found (λ s. g.settled (f.0.settled s)) (g.listed folder_at f.1) t.0 in told_after own last k found r.0 r.1))))

module _ (run : ℕ) (few : run < 2 ^ 128) (path : List ℕ) (job : PickJob) where
  abbrev any_piece : List Deed → List ℕ → Type 0
  any_piece own piece = Unit {0}

  abbrev no_more : List Deed → Step → Type 0
  no_more own s = Unit {0}

  changes_keep : (p : PickMarks) (past : List Done) (h : Hand) → Sound (pick_pledge run path job p) (acts past) h → Keeps (rules_of (pick_pledge run path job p)) past h (pick_changes run path job p) (IfOkay (Still (acts past)))
  unfolding pick_changes
  changes_keep p past h sound =
      begun_keeps run few path job.folder (Picks path job p) (Marking path job.folder) any_piece no_more (lets run few path job p any_piece) (lasts run few path job p any_piece) (opened_picked run path job p)
      (λ first own o b i. opened_goes run few path job p any_piece first own o b i (λ before piece. tt)) past h sound

  looked_so : (own : List Deed) (past : List Done) (h : Hand) (r : Result Unit CommandFault) → Sound (looks_pledge run path job) (acts past) h → okay (StillBy run few path job own) (acts past) h r → IfOkay (Still own) past h r
  looked_so own past h (Ok u) s f = record { settled = f; unfailed = s.unfailed }
  looked_so own past h (Err e) s f = tt

  looks_keep : (past : List Done) (h : Hand) → Sound (looks_pledge run path job) (acts past) h → Keeps (rules_of (looks_pledge run path job)) past h (pick_looks run path job) (IfOkay (Still (acts past)))
  looks_keep past h sound =
      keeps_more (rules_of (looks_pledge run path job)) past h (pick_looks run path job) (ByActs (Soundly (looks_pledge run path job) (okay (StillBy run few path job (acts past))))) (IfOkay (Still (acts past)))
      (λ later j r q. looked_so (acts past) later j r q.0 q.1)
      (goes_keeps (looks_pledge run path job) past (acts past) h (pick_looks run path job) (okay (StillBy run few path job (acts past))) refl sound (looks_go run few path job (acts past) h))

  -- a `pick` keeps the rules of its pledge, whatever its run has done before
  pub pick_keeps : (marks : Option PickMarks) (past : List Done) (h : Hand) → Sound (pledge_by run path job marks) (acts past) h → Keeps (rules_of (pledge_by run path job marks)) past h (pick_by run path job marks) (IfOkay (Still (acts past)))
  pick_keeps None past h sound = looks_keep past h sound
  pick_keeps (Some p) past h sound = changes_keep p past h sound

  -- a `pick` promises what its pledge says
  pub pick_promises : (x y : State) (result : Result Unit CommandFault) → Follows run command_cause (pick run path job) x y result → Promises (pledge_by run path job job.marks) x y
  unfolding pick
  pick_promises x y result f = go job.marks f
    where
      sound : (w : Pledge) → Sound w [] x.hand
      sound w = record { numbered = tt; unfailed = λ z. elim z [ ] }

      go : (marks : Option PickMarks) → Follows run command_cause (pick_by run path job marks) x y result → Promises (pledge_by run path job marks) x y
      go None f = keeps_pledge (looks_pledge run path job) command_cause (pick_looks run path job) x y result (IfOkay (Still [])) (pick_keeps None [] x.hand (sound (looks_pledge run path job))) f
      go (Some p) f = keeps_pledge (pick_pledge run path job p) command_cause (pick_changes run path job p) x y result (IfOkay (Still [])) (pick_keeps (Some p) [] x.hand (sound (pick_pledge run path job p))) f
