-- `rmm` goes as it pledges.
use Rattle.std.proofs.Common.{◌≡◌, ◌≢◌, inl, inr, ◌<◌, ◌≤◌, ◌+◌, ◌^◌, ◌∷◌, [], ℕ, zero, suc, Bool, true, false, List, Result, Ok, Err, refl, sym, ◌∙◌, ap, subst, arith}
use Rattle.std.specs.Prelude.{Contains, not, ◌==◌}
use Rattle.std.proofs.lemmas.Bool.Decides.{Decides-eqb}
use Rattle.mh_base.specs.Entries.{entry_text, kind_of}
use Rattle.mh_base.specs.Numbers.{IsMsgNum, numbers_up}
use Rattle.mh_base.specs.declared.entry.Entry.{Entry}
use Rattle.mh_base.specs.declared.entry.Entry.TheVariants.{Backup, Number, Sequences}
use Rattle.mh_base.proofs.EntryKinds.{kind_of-entry_text}
use Rattle.mh_sequences.specs.Runs.{AreRuns}
use Rattle.mh_sequences.specs.Sequences.{Marked}
use Rattle.mh_sequences.specs.declared.run.Run.{Run}
use Rattle.folder_files.specs.Careful.{HasLock, Removes as OfRemoves, backs_up, removes}
use Rattle.folder_files.specs.Commands.{IsChosen, Removing}
use Rattle.folder_files.specs.Deeds.{Deed, did}
use Rattle.folder_files.specs.Named.{is_backing_up, is_committed, is_held, is_number, is_sequences, is_temp}
use Rattle.folder_files.proofs.Names.{not_both}
use Rattle.folder_files.specs.declared.place.Place.{Place}
use Rattle.folder_files.specs.declared.place.Place.TheVariants.{Folder, Mail}
use Rattle.folder_files.specs.declared.step.Answer.{Answer}
use Rattle.folder_files.specs.declared.step.Answer.TheVariants as answer
use Rattle.folder_files.specs.declared.step.Step.{Step}
use Rattle.folder_files.specs.declared.step.Step.TheVariants as step
use Rattle.file_plans.specs.Follows.{Follows, State}
use Rattle.file_plans.specs.Plan.{Hand, Plan, Return, after, bind, lifted, ◌>>=◌}
use Rattle.file_plans.specs.Rules.{IfOkay, Keeps}
use Rattle.file_plans.specs.Runs.{Deed as Done}
use Rattle.file_plans.specs.StaysCareful.{careful}
use Rattle.file_plans.proofs.Acting.{acts}
use Rattle.step_plans.specs.CommandFaults.{command_cause}
use Rattle.step_plans.specs.Locking.{lock_name, removed}
use Rattle.step_plans.specs.Pledges.{Pledge}
use Rattle.step_plans.specs.PlanFaults.{of_stop}
use Rattle.step_plans.specs.Promises.{Promises}
use Rattle.step_plans.specs.Removing.{message_removed}
use Rattle.step_plans.specs.Replacing.{held_to, renamed, synced}
use Rattle.step_plans.specs.Settled.{AreSettled}
use Rattle.step_plans.specs.declared.command_fault.CommandFault.{CommandFault}
use Rattle.step_plans.specs.declared.fault.PlanFault.{PlanFault}
use Rattle.step_plans.specs.declared.fault.PlanFault.TheVariants as fault
use Rattle.step_plans.proofs.Facts.{LeavesBase, LeavesLock, LeavesSettled, base_kept, lock_kept, settled_kept}
use Rattle.step_plans.proofs.Going.{Goes, Outcome, Sound, goes_lifted, goes_more, goes_then, okay, okay_more}
use Rattle.step_plans.proofs.Pledged.{Of, synced_goes}
use Rattle.step_plans.proofs.Promising.{keeps_pledge}
use Rattle.step_plans.proofs.Ruling.{rules_of}
use Rattle.step_plans.proofs.Stepping.{goes_end, goes_rename, goes_return, goes_unlink}
use Rattle.step_plans.proofs.Written.{Adds, lock_held}
use Rattle.step_plans.specs.Commits.{IsBase}
use Rattle.sequence_commits.specs.Committing.{changed_sequences}
use Rattle.sequence_commits.proofs.SequencesPledged.{sequences_name}
use Rattle.command_stages.specs.Current.{made_current}
use Rattle.command_stages.specs.Endings.{of_plan}
use Rattle.opening_plans.specs.FolderPledge.{told_within}
use Rattle.opening_plans.specs.Opening.{Opened}
use Rattle.opening_plans.specs.Reads.{HaveSeen}
use Rattle.opening_plans.proofs.EndedKept.{Still}
use Rattle.opening_plans.proofs.FolderPledged.{HasBegun, seen_kept}
use Rattle.opening_plans.proofs.WorkPledged.{LetsBegin, begun_keeps, current_goes, sequences_goes, whenever}
use Rattle.opening_plans.proofs.Listed.{settled_runs}
use Rattle.refile_plans.specs.Rmm.{all_removed, chosen_from, opened_removed, removed_marked, removed_safely, rmm, said_removed, withdrawn}
use Rattle.refile_plans.specs.RmmPledge.{Removes, RemovesChosen, WasChosen, Withdraws, every_message, rmm_pledge}
use Rattle.refile_plans.specs.RmmOutcome.{is_among}
use Rattle.refile_plans.specs.declared.job.RmmJob.{RmmJob}
use Rattle.refile_plans.proofs.Selected.{chosen_numbers}
use Rattle.msg_ranges.proofs.Rising.{lists, first_of, rest_of}
use Rattle.mh_base.proofs.NumberTests.{AreNumbers}

-- each message number is among all of them
pub in_up : (n count k : ℕ) → n ≤ k → k < n + count → Contains (numbers_up n count) k
unfolding numbers_up
in_up n zero k low high = absurd (omega (arith, low, high))
in_up n (suc count) k low high = go (n == k) refl (λ apart. in_up (n + 1) count k (omega (arith, low, apart)) (omega (arith, high)))
  where
    go : (b : Bool) → (n == k) ≡ b → (n ≢ k → Contains (numbers_up (n + 1) count) k) → Contains (n ∷ numbers_up (n + 1) count) k
    go true e more = (0, omega arith, (Decides-eqb n k).0 e)
    go false e more = let r = more (λ same. absurd (let no : true ≡ false = sym ((Decides-eqb n k).1 same) ∙ e in cc (no))) in (suc r.0, omega (arith, r.1), r.2)

temp_no_number : (e : Entry) (n : ℕ) → is_temp e ≡ true → e ≡ Number n → ⊥
temp_no_number e n is same = absurd (let no : is_temp (Number n) ≡ true = subst (λ z. is_temp z ≡ true) same is in cc (no))

held_no_number : (e : Entry) (n : ℕ) → is_held e ≡ true → e ≡ Number n → ⊥
held_no_number e n is same = absurd (let no : is_held (Number n) ≡ true = subst (λ z. is_held z ≡ true) same is in cc (no))

committed_no_backup : (path folder name : List ℕ) (n : ℕ) → is_committed (Folder path folder) name ≡ true → kind_of name ≡ Backup n → ⊥
committed_no_backup path folder name n is same = absurd (let no : is_sequences (Backup n) ≡ true = subst (λ z. is_sequences z ≡ true) same is in cc (no))

-- what was listed are runs
pub listed_runs : (run : ℕ) (p mail : Place) (listing : List Run) (text context : List ℕ) (own : List Deed) → HaveSeen run p mail listing text context own → AreRuns listing
listed_runs run p mail listing text context own f = subst AreRuns (sym f.listed.1) (settled_runs run f.listed.0)

module _ (run : ℕ) (few : run < 2 ^ 128) (path : List ℕ) (job : RmmJob) where
  abbrev w : Pledge
  w = rmm_pledge run path job

  abbrev p : Place
  p = Folder path job.folder

  abbrev mail : Place
  mail = Mail path

  abbrev no_piece : List Deed → List ℕ → Type 0
  no_piece own piece = ⊥

  pub lets : LetsBegin path job.folder (Removing path job.folder every_message) (RemovesChosen run path job)
  lets = record {
    kinds = λ own kind s k. inl k;
    makes = λ own q. λ n r. absurd r;
    creates = λ own q temp bytes. λ n r. absurd r;
    clears = λ own q temp is. λ n r. absurd (temp_no_number (kind_of temp) n is r.1);
    gives = λ own q held number is. λ n r. absurd r;
    drops = λ own q held is away. λ n r. absurd (held_no_number (kind_of held) n is r.1);
    commits = λ own q temp name is. λ n r. absurd (committed_no_backup path job.folder name n (subst (λ z. is_committed z name ≡ true) r.0 is) r.2);
  }

  module _ (listing : List Run) (text context : List ℕ) (numbers : List ℕ) (is : chosen_from job listing (told_within listing text context job.folder) ≡ Ok numbers) (all : AreNumbers numbers) (old : List ℕ) (first : List Deed) where
    -- what lasts while messages are removed
    record Going (later : List Deed) : Type 0 where
      settled : AreSettled first → AreSettled later
      lock : HasLock p later
      seen : HaveSeen run p mail listing text context later
      base : IsBase run p sequences_name old later

    going_on : (own : List Deed) (s : Step) (a : Answer) → LeavesSettled s → LeavesLock p s → LeavesBase p sequences_name s → Going own → Going (did s a ∷ own)
    going_on own s a f l b g = record {
      settled = λ x. settled_kept own s a f (g.settled x);
      lock = lock_kept p own s a l g.lock;
      seen = seen_kept run p mail listing text context own s a tt g.seen;
      base = base_kept run p sequences_name old own s a b g.base;
    }

    was_chosen : (own : List Deed) (n : ℕ) → is_among n numbers ≡ true → Going own → WasChosen run path job n own
    was_chosen own n among g = record { listing = listing; text = text; context = context; seen = g.seen; numbers = numbers; chosen = is; one = among }

    module _ (n : ℕ) (ok : IsMsgNum n) (among : is_among n numbers ≡ true) (own : List Deed) (h : Hand) (g : Going own) where
      abbrev num : List ℕ
      num = entry_text (Number n)

      abbrev backup : List ℕ
      backup = entry_text (Backup n)

      num_kind : kind_of num ≡ Number n
      num_kind = kind_of-entry_text (Number n) ok

      backup_kind : kind_of backup ≡ Backup n
      backup_kind = kind_of-entry_text (Backup n) ok

      uncommitted : is_committed p backup ≡ false
      uncommitted = rw backup_kind refl

      chosen_name : IsChosen every_message num
      chosen_name = (n, num_kind, in_up 1 999999 n ok.0 (let l = ok.1 in omega (arith, l)))

      backing : is_backing_up (kind_of num) (kind_of backup) ≡ true
      backing = rw (num_kind, backup_kind) ((Decides-eqb n n).1 refl)

      is_num : is_number (kind_of num) ≡ true
      is_num = rw num_kind refl

      of_step : (s : Step) → ((m : ℕ) → Removes p m s → kind_of num ≡ Number m) → RemovesChosen run path job own s
      of_step s tells m r = let same : n ≡ m = cc (sym num_kind ∙ tells m r) in subst (λ k. WasChosen run path job k own) same (was_chosen own n among g)

      no_sequences : backup ≡ sequences_name → ⊥
      no_sequences e = absurd (let same : Backup n ≡ Sequences = sym backup_kind ∙ (ap kind_of e ∙ kind_of-entry_text Sequences tt) in cc (same))

      message_goes : (b : Bool) → Goes w own h (message_removed p n b) (okay (Of Going))
      unfolding renamed removed
      message_goes true =
          goes_rename w own h of_stop (okay (Of Going)) p num backup (held_to p num)
          (λ s. (
            record {
              is_own = careful s.unfailed OfRemoves (backs_up p num backup (refl, backing)) (inr (refl, num, chosen_name, inl (backup, refl))) (lock_held p own g.lock);
              marks = λ e. absurd (not_both (is_committed p backup) e uncommitted);
              steps = λ no. of_step (step.Rename p num backup) (λ m r. r.1);
            },
            tt,
          ))
          (goes_return w _ h tt (okay (Of Going)) (going_on own (step.Rename p num backup) answer.Done uncommitted tt (λ e f. no_sequences f) g))
          (goes_end w _ h (fault.Meddled p num) (Of Going))
      message_goes false =
          goes_unlink w own h of_stop (okay (Of Going)) p num (held_to p num)
          (λ s. (
            record {
              is_own = careful s.unfailed OfRemoves (removes p num (refl, is_num)) (inr (refl, num, chosen_name, inr refl)) (lock_held p own g.lock);
              marks = tt;
              steps = λ no. of_step (step.Unlink p num) (λ m r. r.1);
            },
            tt,
          ))
          (goes_return w _ h tt (okay (Of Going)) (going_on own (step.Unlink p num) answer.Done tt tt tt g))
          (goes_end w _ h (fault.Meddled p num) (Of Going))

    all_goes : (b : Bool) (left : List ℕ) → AreNumbers left → ((k : ℕ) → lists left k ≡ true → is_among k numbers ≡ true) → (own : List Deed) (h : Hand) → Going own → Goes w own h (all_removed p b left) (okay (Of Going))
    unfolding all_removed
    all_goes b [] ok among own h g = goes_return w own h tt (okay (Of Going)) g
    all_goes b (n ∷ left) ok among own h g =
        goes_then w own h (message_removed p n b) (λ gone. all_removed p b left) (Of Going) (Of Going)
        (message_goes n ok.0 (first_of {F = λ k. is_among k numbers ≡ true} n left among) own h g b)
        (λ later j u f. all_goes b left ok.1 (rest_of {F = λ k. is_among k numbers ≡ true} n left among) later j f)

    safely_goes : (b : Bool) (own : List Deed) (h : Hand) → Going own → Goes w own h (removed_safely p b numbers) (okay (Of Going))
    unfolding removed_safely
    safely_goes b own h g =
        goes_then w own h (all_removed p b numbers) (λ gone. synced p lock_name) (Of Going) (Of Going) (all_goes b numbers all (λ k e. e) own h g)
        (λ later j u f.
        goes_more w later j (synced p lock_name) (okay (Adds later (did (step.SyncFolder p) answer.Done))) (okay (Of Going))
        (okay_more (Adds later (did (step.SyncFolder p) answer.Done)) (Of Going) (λ end i v e. subst Going (sym e) (going_on later (step.SyncFolder p) answer.Done tt tt tt f)))
        (synced_goes w later j p lock_name))

    abbrev After : Outcome Unit
    After later j u = HaveSeen run p mail listing text context later × (AreSettled first → AreSettled later)

    abbrev m : Marked
    m = told_within listing text context job.folder

    marked_goes : (b : Bool) (own : List Deed) (h : Hand) → Going own → Goes w own h (removed_safely p b numbers >>= (λ gone. changed_sequences run p mail job.folder m (withdrawn numbers m))) (okay After)
    marked_goes b own h g =
        goes_then w own h (removed_safely p b numbers) (λ gone. changed_sequences run p mail job.folder m (withdrawn numbers m)) (Of Going) After (safely_goes b own h g)
        (λ later j u f.
        goes_more w later j (changed_sequences run p mail job.folder m (withdrawn numbers m)) (okay (λ end i v. HaveSeen run p mail listing text context end × (AreSettled later → AreSettled end))) (okay After)
        (okay_more (λ end i v. HaveSeen run p mail listing text context end × (AreSettled later → AreSettled end)) After (λ end i v e. (e.0, λ s. e.1 (f.settled s))))
        (sequences_goes run few path job.folder (λ own. Withdraws job) (Removing path job.folder every_message) no_piece (RemovesChosen run path job) lets (whenever (Withdraws job)) later j listing text context (withdrawn numbers m) (inr (numbers, is, refl)) f.seen f.lock old f.base))

  -- the work on a folder that was begun
  module _ (begin own : List Deed) (o : Opened) (b : HasBegun w begin path job.folder own o) (h : Hand) where
    abbrev then_removed : Place → List ℕ → Marked → List ℕ → Plan (Result Unit PlanFault)
    then_removed q n seen numbers = removed_safely q (not job.unlink) numbers >>= (λ gone. changed_sequences run q mail n seen (withdrawn numbers seen))

    abbrev told : Marked
    told = told_within o.listing b.text b.context job.folder

    abbrev Removed_ : Outcome Unit
    Removed_ later j u = HaveSeen run p mail o.listing b.text b.context later × (AreSettled own → AreSettled later)

    by_value : (value : Result (List ℕ) CommandFault) → chosen_from job o.listing told ≡ value → Goes w own h (after (λ numbers. lifted (of_plan job.folder) (then_removed p job.folder told numbers)) value) (okay Removed_)
    by_value (Ok numbers) is =
        goes_lifted w own h (of_plan job.folder) (then_removed p job.folder told numbers) Removed_
        (marked_goes o.listing b.text b.context numbers is (chosen_numbers job o.listing told numbers is (listed_runs run p mail o.listing b.text b.context own b.seen)) b.base.0 own (not job.unlink) own h (record { settled = λ s. s; lock = b.held.lock; seen = b.seen; base = b.base.1 }))
    by_value (Err e) is = goes_end w own h e Removed_

    at_place : (q : Place) (n : List ℕ) (seen : Marked) → q ≡ p → n ≡ job.folder → seen ≡ told → Goes w own h (Return (chosen_from job o.listing seen) >>= (λ numbers. lifted (of_plan job.folder) (then_removed q n seen numbers))) (okay Removed_)
    unfolding Goes bind ◌>>=◌
    at_place q n seen place name is = rw (place, name, is) (by_value (chosen_from job o.listing told) refl)

    said_goes : Goes w own h (said_removed run path job o) (okay Removed_)
    unfolding said_removed removed_marked
    said_goes = at_place o.place o.folder o.sequences b.place b.name b.sequences

    opened_goes : Goes w own h (opened_removed run path job o) (okay (Of (λ later. AreSettled own → AreSettled later)))
    unfolding opened_removed
    opened_goes =
        goes_then w own h (said_removed run path job o) (λ removed_. made_current run path job.folder) Removed_ (Of (λ later. AreSettled own → AreSettled later)) said_goes
        (λ later j u f.
        goes_more w later j (made_current run path job.folder) (okay (Of (λ end. AreSettled later → AreSettled end))) (okay (Of (λ end. AreSettled own → AreSettled end)))
        (okay_more (Of (λ end. AreSettled later → AreSettled end)) (Of (λ end. AreSettled own → AreSettled end)) (λ end i v g s. g (f.1 s)))
        (current_goes run few path job.folder (λ own. Withdraws job) (Removing path job.folder every_message) no_piece (RemovesChosen run path job) lets (whenever (Withdraws job)) later j o.listing b.text b.context f.0))

  -- `rmm` keeps the rules of its pledge, whatever its run has done before
  pub rmm_keeps : (past : List Done) (h : Hand) → Sound w (acts past) h → Keeps (rules_of w) past h (rmm run path job) (IfOkay (Still (acts past)))
  unfolding rmm
  rmm_keeps past h sound =
      begun_keeps run few path job.folder (λ own. Withdraws job) (Removing path job.folder every_message) no_piece (RemovesChosen run path job) lets (whenever (Withdraws job)) (opened_removed run path job)
      (λ begin own o b i. opened_goes begin own o b i) past h sound

  pub rmm_promises : (x y : State) (result : Result Unit CommandFault) → Follows run command_cause (rmm run path job) x y result → Promises w x y
  rmm_promises x y result f = keeps_pledge w command_cause (rmm run path job) x y result (IfOkay (Still [])) (rmm_keeps [] x.hand (record { numbered = tt; unfailed = λ z. elim z [ ] })) f
