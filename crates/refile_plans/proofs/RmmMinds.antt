-- Each step of `rmm` minds the marks of all sequences, where no message is held aside when it removes.
use Rattle.std.proofs.Common.{◌≡◌, ◌⊎◌, inl, inr, ◌||◌, ◌==◌, ◌∷◌, [], ℕ, Bool, true, false, List, Result, Ok, Err, refl, sym, ◌∙◌, ap, subst, not}
use Rattle.std.specs.Prelude.{IfSome}
use Rattle.std.proofs.lemmas.Bool.Decides.{Decides-eqb}
use Rattle.mh_base.specs.Entries.{entry_text, kind_of}
use Rattle.mh_base.specs.Numbers.{IsMsgNum}
use Rattle.mh_base.specs.declared.entry.Entry.TheVariants.{Backup, Number}
use Rattle.mh_base.proofs.EntryKinds.{kind_of-entry_text}
use Rattle.mh_sequences.specs.declared.mark.Mark.TheVariants.{Withdraw}
use Rattle.mh_sequences.specs.Runs.{has, set_of}
use Rattle.mh_sequences.specs.Sequences.{AreSequences, Marked, member}
use Rattle.mh_sequences.specs.declared.run.Run.{Run}
use Rattle.msg_ranges.proofs.Rising.{lists, first_of, rest_of}
use Rattle.folder_files.specs.Deeds.{Deed, WasDone, did, now, on, still}
use Rattle.folder_files.specs.Named.{is_backing_up, is_held, is_number}
use Rattle.folder_files.specs.declared.place.Place.{Place}
use Rattle.folder_files.specs.declared.place.Place.TheVariants.{Folder, Mail}
use Rattle.folder_files.specs.declared.step.Answer.TheVariants as answer
use Rattle.folder_files.specs.declared.step.Step.{Step}
use Rattle.folder_files.specs.declared.step.Step.TheVariants as step
use Rattle.folder_files.proofs.Names.{both, is_number_unheld, not_both}
use Rattle.file_plans.specs.Plan.{Hand, Plan, Return, after, bind, lifted, ◌>>=◌}
use Rattle.step_plans.specs.ContextCommit.{AreChanges}
use Rattle.step_plans.specs.Locking.{lock_name, removed}
use Rattle.step_plans.specs.PlanFaults.{of_stop}
use Rattle.step_plans.specs.Pledges.{MayAsk, Pledge}
use Rattle.step_plans.specs.Removing.{message_removed}
use Rattle.step_plans.specs.Replacing.{held_to, renamed, synced}
use Rattle.step_plans.specs.declared.command_fault.CommandFault.{CommandFault}
use Rattle.step_plans.specs.declared.fault.PlanFault.{PlanFault}
use Rattle.step_plans.specs.declared.fault.PlanFault.TheVariants as fault
use Rattle.step_plans.proofs.Going.{Outcome, okay}
use Rattle.step_plans.proofs.Past.{did_step}
use Rattle.marks_law.specs.Apart as apart
use Rattle.marks_law.specs.Minding.{Minds, Sees, SeesNoneHeld, backs_up, removes}
use Rattle.marks_law.specs.Minding as minding
use Rattle.sequence_commits.specs.Committing.{changed_sequences}
use Rattle.sequence_commits.specs.RunsOfAll.{set_among}
use Rattle.sequence_commits.proofs.MarkedOnce.{marked_valid}
use Rattle.command_stages.specs.Current.{current_change, made_current}
use Rattle.command_stages.specs.Endings.{of_plan}
use Rattle.opening_plans.specs.FolderPledge.{told_within}
use Rattle.opening_plans.specs.Opening.{Opened}
use Rattle.opening_plans.proofs.AllMarks.{MindsAll, look_minds, plain_minds}
use Rattle.opening_plans.proofs.BegunSeen.{HasSeenBegun, NoneUnlinked}
use Rattle.opening_plans.proofs.ChosenListed.{marked_cur_is, marked_member, tested_has}
use Rattle.opening_plans.proofs.CommitMinds.{Facts, IsTold, Within, changed_meets}
use Rattle.opening_plans.proofs.FolderSeen.{quiet_seen}
use Rattle.opening_plans.proofs.Meeting.{Meets, meets_end, meets_lifted, meets_more, meets_okay, meets_rename, meets_return, meets_stop, meets_sync_folder, meets_then, meets_unlink, meets_weaker}
use Rattle.opening_plans.proofs.ToldMarks.{told_cur, told_listed}
use Rattle.opening_plans.proofs.WorkMinds.{Anyhow, current_meets, whole_meets}
use Rattle.refile_plans.specs.HeldLeft.{HasLetGo, RemovesUnheld}
use Rattle.refile_plans.specs.Rmm.{all_removed, chosen_from, opened_removed, removed_marked, removed_safely, rmm, said_removed, withdrawn}
use Rattle.refile_plans.specs.RmmPledge.{rmm_pledge}
use Rattle.refile_plans.specs.declared.job.RmmJob.{RmmJob}
use Rattle.refile_plans.proofs.Selected.{chosen_numbers}
use Rattle.mh_base.proofs.NumberTests.{AreNumbers}

-- the step minds all marks, where no message is held aside when it removes
abbrev pub MindsUnheld : (List ℕ → Type 0) → ℕ → List Deed → Step → Type 0
MindsUnheld Of run own s = RemovesUnheld own s → MindsAll Of run own s

negated : (b : Bool) → not b ≡ true → b ≡ false
negated true e = cc (e)
negated false e = refl

-- sequences without these numbers have none of them
pub withdrawn_member : (numbers : List ℕ) (m : Marked) (t : List ℕ) (n : ℕ) → member (withdrawn numbers m).users t n ≡ true → (member m.users t n ≡ true) × (has (set_among numbers) n ≡ false)
withdrawn_member numbers m t n e =
    let parts = both (member m.users t n) (not (has (set_among numbers) n)) (marked_member (Withdraw (set_of (set_among numbers) 0)) m t n e) in (parts.0, negated (has (set_among numbers) n) parts.1)

module _ (run : ℕ) (path : List ℕ) (job : RmmJob) (ok : AreChanges (current_change job.folder)) where
  abbrev w : Pledge
  w = rmm_pledge run path job

  abbrev Of : List ℕ → Type 0
  Of other = IsTold job.folder other

  abbrev p : Place
  p = Folder path job.folder

  abbrev mail : Place
  mail = Mail path

  abbrev A : List Deed → Step → Type 0
  A own s = MindsUnheld Of run own s

  abbrev M : {R : Type 0} → List Deed → Hand → Plan R → Outcome R → Type 0
  M own h plan Q = Meets (MayAsk w) A own h plan Q

  abbrev All_ : {R : Type 0} → List Deed → Hand → Plan R → Outcome R → Type 0
  All_ own h plan Q = Meets (MayAsk w) (MindsAll Of run) own h plan Q

  weaker : {R : Type 0} (own : List Deed) (h : Hand) (plan : Plan R) (Q : Outcome R) → All_ own h plan Q → M own h plan Q
  weaker own h plan Q f = meets_weaker (MayAsk w) (MindsAll Of run) A (λ before s g unheld. g) own h plan Q f

  module _ (names : List (List ℕ)) (listing : List Run) (numbers : List ℕ) where
    -- a listed number that is not chosen
    abbrev Left : List ℕ → Type 0
    Left z = (n : ℕ) × (kind_of z ≡ Number n) × (has listing n ≡ true) × (has (set_among numbers) n ≡ false)

    abbrev Known : List Deed → Type 0
    Known own = Facts w path job.folder names Left own

    none_held : (own : List Deed) → Known own → HasLetGo p own → SeesNoneHeld p own
    none_held own f gone x held = f.0.held x held (λ listed. gone names f.0.listed x held listed)

    module _ (n : ℕ) (one : IsMsgNum n) (chosen : has (set_among numbers) n ≡ true) where
      abbrev num : List ℕ
      num = entry_text (Number n)

      abbrev backup : List ℕ
      backup = entry_text (Backup n)

      num_kind : kind_of num ≡ Number n
      num_kind = kind_of-entry_text (Number n) one

      backup_kind : kind_of backup ≡ Backup n
      backup_kind = kind_of-entry_text (Backup n) one

      is_num : is_number (kind_of num) ≡ true
      is_num = rw num_kind refl

      backing : is_backing_up (kind_of num) (kind_of backup) ≡ true
      backing = rw (num_kind, backup_kind) ((Decides-eqb n n).1 refl)

      one_number : (k : ℕ) → Number n ≡ Number k → n ≡ k
      one_number k e = cc (e)

      -- what is left has another name
      other : (z : List ℕ) → Left z → num ≡ z → ⊥
      other z so e = not_both (has (set_among numbers) n) chosen (subst (λ k. has (set_among numbers) k ≡ false) (sym (one_number so.0 (sym num_kind ∙ (ap kind_of e ∙ so.1)))) so.3)

      num_unheld : (x : List ℕ) → is_held (kind_of x) ≡ true → num ≡ x → ⊥
      num_unheld x held e = not_both (is_held (kind_of x)) held (subst (λ (y : List ℕ). is_held (kind_of y) ≡ false) e (is_number_unheld num is_num))

      backup_unheld : (x : List ℕ) → is_held (kind_of x) ≡ true → backup ≡ x → ⊥
      backup_unheld x held e = not_both (is_held (kind_of x)) held (subst (λ (y : List ℕ). is_held (kind_of y) ≡ false) e (rw backup_kind refl))

      backup_unnumbered : (z : List ℕ) → is_number (kind_of z) ≡ true → backup ≡ z → ⊥
      backup_unnumbered z number e = not_both (is_number (kind_of z)) number (subst (λ (y : List ℕ). is_number (kind_of y) ≡ false) e (rw backup_kind refl))

      backed_up : (own : List Deed) → Known own → Known (did (step.Rename p num backup) answer.Done ∷ own)
      backed_up own f = (
        record {
          lock = still (λ e. cc (e)) f.0.lock;
          there = λ z so number. minding.on (λ e. cc (e)) (λ t. touched z so number t.1) (f.0.there z so number);
          held = λ x held gone. minding.on (λ e. cc (e)) (λ t. unheld x held t.1) (f.0.held x held (λ listed. before x (gone listed)));
          listed = on f.0.listed;
        },
        (λ sequence. apart.on (λ e. cc (e)) (λ temp e. cc (e)) (f.1 sequence)),
      )
        where
          touched : (z : List ℕ) → Left z → is_number (kind_of z) ≡ true → (num ≡ z) ⊎ (backup ≡ z) → ⊥
          touched z so number (inl e) = other z so e
          touched z so number (inr e) = backup_unnumbered z number e

          unheld : (x : List ℕ) → is_held (kind_of x) ≡ true → (num ≡ x) ⊎ (backup ≡ x) → ⊥
          unheld x held (inl e) = num_unheld x held e
          unheld x held (inr e) = backup_unheld x held e

          before : (x : List ℕ) → WasDone (step.Unlink p x) (did (step.Rename p num backup) answer.Done ∷ own) → WasDone (step.Unlink p x) own
          before x (now e) = let same = did_step e in absurd (cc (same))
          before x (on g) = g

      unlinked_one : (a b : List ℕ) → step.Unlink p a ≡ step.Unlink p b → a ≡ b
      unlinked_one a b e = cc (e)

      gone_ : (own : List Deed) → Known own → Known (did (step.Unlink p num) answer.Done ∷ own)
      gone_ own f = (
        record {
          lock = still (λ e. cc (e)) f.0.lock;
          there = λ z so number. minding.on (λ e. cc (e)) (λ t. other z so t.1) (f.0.there z so number);
          held = λ x held gone. minding.on (λ e. cc (e)) (λ t. num_unheld x held t.1) (f.0.held x held (λ listed. before x held (gone listed)));
          listed = on f.0.listed;
        },
        (λ sequence. apart.on (λ e. cc (e)) (λ temp e. cc (e)) (f.1 sequence)),
      )
        where
          before : (x : List ℕ) → is_held (kind_of x) ≡ true → WasDone (step.Unlink p x) (did (step.Unlink p num) answer.Done ∷ own) → WasDone (step.Unlink p x) own
          before x held (now e) = absurd (num_unheld x held (unlinked_one num x (did_step e)))
          before x held (on g) = g

      backing_minds : (own : List Deed) → Known own → A own (step.Rename p num backup)
      backing_minds own f unheld =
          plain_minds Of run own (step.Rename p num backup)
          (λ k g c. subst (λ z. Minds run k g own (step.Rename z num backup)) c (backs_up backing (λ x held. subst (λ z. Sees z x false own) (sym c) (none_held own f (unheld p n (refl, num_kind, backup_kind)) x held))))
          (λ other_mail folder sequence temp e. cc (e))

      removing_minds : (own : List Deed) → Known own → A own (step.Unlink p num)
      removing_minds own f unheld =
          plain_minds Of run own (step.Unlink p num)
          (λ k g c. subst (λ z. Minds run k g own (step.Unlink z num)) c (removes is_num (λ x held. subst (λ z. Sees z x false own) (sym c) (none_held own f (unheld p n (refl, num_kind)) x held))))
          (λ other_mail folder sequence temp e. cc (e))

      message_meets : (b : Bool) (own : List Deed) (h : Hand) → Known own → M own h (message_removed p n b) (okay (λ later j u. Known later))
      unfolding renamed removed
      message_meets true own h f =
          meets_rename (MayAsk w) A own h of_stop (okay (λ later j u. Known later)) p num backup (held_to p num)
          (λ may. (
            backing_minds own f,
            meets_return (MayAsk w) A (did (step.Rename p num backup) answer.Done ∷ own) h tt (okay (λ later j u. Known later)) (backed_up own f),
            meets_end (MayAsk w) A (did (step.Rename p num backup) answer.Gone ∷ own) h (fault.Meddled p num) (λ later j u. Known later),
          ))
      message_meets false own h f =
          meets_unlink (MayAsk w) A own h of_stop (okay (λ later j u. Known later)) p num (held_to p num)
          (λ may. (
            removing_minds own f,
            meets_return (MayAsk w) A (did (step.Unlink p num) answer.Done ∷ own) h tt (okay (λ later j u. Known later)) (gone_ own f),
            meets_end (MayAsk w) A (did (step.Unlink p num) answer.Gone ∷ own) h (fault.Meddled p num) (λ later j u. Known later),
          ))

    all_meet : (b : Bool) (left : List ℕ) → AreNumbers left → ((k : ℕ) → lists left k ≡ true → has (set_among numbers) k ≡ true) → (own : List Deed) (h : Hand) → Known own → M own h (all_removed p b left) (okay (λ later j u. Known later))
    unfolding all_removed
    all_meet b [] valid chosen own h f = meets_return (MayAsk w) A own h tt (okay (λ later j u. Known later)) f
    all_meet b (n ∷ left) valid chosen own h f =
        meets_then (MayAsk w) A own h (message_removed p n b) (λ gone. all_removed p b left) (λ later j u. Known later) (λ later j u. Known later)
        (message_meets n valid.0 (first_of {F = λ k. has (set_among numbers) k ≡ true} n left chosen) b own h f)
        (λ later j u g. all_meet b left valid.1 (rest_of {F = λ k. has (set_among numbers) k ≡ true} n left chosen) later j g)

    synced_meets : (own : List Deed) (h : Hand) → Known own → M own h (synced p lock_name) (okay (λ later j u. Known later))
    unfolding synced
    synced_meets own h f =
        meets_sync_folder (MayAsk w) A own h of_stop (okay (λ later j u. Known later)) p (held_to p lock_name)
        (λ may. (
          (λ unheld. look_minds Of run own (step.SyncFolder p) tt),
          meets_return (MayAsk w) A (did (step.SyncFolder p) answer.Done ∷ own) h tt (okay (λ later j u. Known later)) (quiet_seen w p names Left own (step.SyncFolder p) answer.Done may tt f.0, (λ sequence. apart.on (λ e. cc (e)) (λ temp e. cc (e)) (f.1 sequence))),
          meets_end (MayAsk w) A (did (step.SyncFolder p) answer.Gone ∷ own) h (fault.Meddled p lock_name) (λ later j u. Known later),
        ))

    safely_meets : (b : Bool) → AreNumbers numbers → ((k : ℕ) → lists numbers k ≡ true → has (set_among numbers) k ≡ true) → (own : List Deed) (h : Hand) → Known own → M own h (removed_safely p b numbers) (okay (λ later j u. Known later))
    unfolding removed_safely
    safely_meets b valid chosen own h f =
        meets_then (MayAsk w) A own h (all_removed p b numbers) (λ gone. synced p lock_name) (λ later j u. Known later) (λ later j u. Known later) (all_meet b numbers valid chosen own h f) (λ later j u g. synced_meets later j g)

  listed_number : (numbers : List ℕ) → AreNumbers numbers → (k : ℕ) → lists numbers k ≡ true → IsMsgNum k
  listed_number [] valid k e = cc (e)
  listed_number (n ∷ numbers) valid k e = go (n == k) refl e (listed_number numbers valid.1 k)
    where
      go : (b : Bool) → (n == k) ≡ b → b || lists numbers k ≡ true → (lists numbers k ≡ true → IsMsgNum k) → IsMsgNum k
      go true same e rest = subst IsMsgNum ((Decides-eqb n k).0 same) valid.0
      go false same e rest = rest e

  -- the work on a folder that was begun
  module _ (own : List Deed) (h : Hand) (o : Opened) (b : HasSeenBegun path job.folder own o) where
    abbrev told : Marked
    told = told_within o.listing b.text b.context job.folder

    abbrev After : List ℕ → List Deed → Type 0
    After numbers later = Facts w path job.folder b.names (Left b.names o.listing numbers) later

    withdrawn_in : (numbers : List ℕ) → Within (Left b.names o.listing numbers) (withdrawn numbers told)
    withdrawn_in numbers z n sequence kind e = let parts = withdrawn_member numbers told sequence n e in (n, kind, told_listed o.listing b.text b.context job.folder sequence n parts.0, parts.1)

    withdrawn_valid : (numbers : List ℕ) → AreSequences (withdrawn numbers told).users
    withdrawn_valid numbers = marked_valid (Withdraw (set_of (set_among numbers) 0)) told

    withdrawn_cur : (numbers : List ℕ) → IfSome (withdrawn numbers told).cur IsMsgNum
    withdrawn_cur numbers = subst (λ z. IfSome z IsMsgNum) (sym (marked_cur_is (Withdraw (set_of (set_among numbers) 0)) told)) (told_cur o.listing b.text b.context job.folder)

    fewer : (numbers : List ℕ) → After numbers own
    fewer numbers = (record { lock = b.facts.0.lock; there = λ z so number. b.facts.0.there z (so.0, so.1, so.2) number; held = b.facts.0.held; listed = b.facts.0.listed }, b.facts.1)

    abbrev then_removed : Place → List ℕ → Marked → List ℕ → Plan (Result Unit PlanFault)
    then_removed q n seen numbers = removed_safely q (not job.unlink) numbers >>= (λ gone. changed_sequences run q mail n seen (withdrawn numbers seen))

    removed_meets : (numbers : List ℕ) → chosen_from job o.listing told ≡ Ok numbers → M own h (then_removed p job.folder told numbers) (okay (λ later j u. After numbers later))
    removed_meets numbers is =
        let valid = chosen_numbers job o.listing told numbers is b.runs in
        meets_then (MayAsk w) A own h (removed_safely p (not job.unlink) numbers) (λ gone. changed_sequences run p mail job.folder told (withdrawn numbers told)) (λ later j u. After numbers later) (λ later j u. After numbers later)
        (safely_meets b.names o.listing numbers (not job.unlink) valid (λ k e. tested_has _ k (listed_number numbers valid k e) e) own h (fewer numbers))
        (λ later j u f. weaker later j (changed_sequences run p mail job.folder told (withdrawn numbers told)) (okay (λ last i v. After numbers last))
        (changed_meets w path job.folder b.names (Left b.names o.listing numbers) (withdrawn numbers told) (withdrawn_valid numbers) (withdrawn_cur numbers) (withdrawn_in numbers) later j told f))

    by_value : (value : Result (List ℕ) CommandFault) → chosen_from job o.listing told ≡ value
        → M own h (after (λ numbers. lifted (of_plan job.folder) (then_removed p job.folder told numbers)) value >>= (λ gone. made_current run path job.folder)) (okay (λ later j u. Unit {0}))
    unfolding ◌>>=◌
    by_value (Ok numbers) is =
        meets_then (MayAsk w) A own h (lifted (of_plan job.folder) (then_removed p job.folder told numbers)) (λ gone. made_current run path job.folder) (λ later j u. After numbers later) (λ later j u. Unit {0})
        (meets_lifted (MayAsk w) A own h (of_plan job.folder) (then_removed p job.folder told numbers) (λ later j u. After numbers later) (removed_meets numbers is))
        (λ later j u f. weaker later j (made_current run path job.folder) (okay (λ last i v. Unit {0}))
        (meets_okay (MayAsk w) (MindsAll Of run) later j (made_current run path job.folder) (λ last i v. After numbers last) (λ last i v. Unit {0}) (λ last i v g. tt)
        (current_meets w path job.folder b.names (Left b.names o.listing numbers) ok later j f)))
    by_value (Err e) is = refused e
      where
        refused : (e : CommandFault) → M own h (Return (Err e) >>= (λ (gone : Unit {0}). made_current run path job.folder)) (okay (λ later j u. Unit {0}))
        refused e = meets_stop (MayAsk w) A own h e (λ (gone : Unit {0}). made_current run path job.folder) (λ later j u. Unit {0})

    at_place : (q : Place) (n : List ℕ) (seen : Marked) → q ≡ p → n ≡ job.folder → seen ≡ told
        → M own h ((Return (chosen_from job o.listing seen) >>= (λ numbers. lifted (of_plan job.folder) (then_removed q n seen numbers))) >>= (λ gone. made_current run path job.folder)) (okay (λ later j u. Unit {0}))
    unfolding Meets bind ◌>>=◌
    at_place q n seen place name is = rw (place, name, is) (by_value (chosen_from job o.listing told) refl)

    opened_okay : M own h (opened_removed run path job o) (okay (λ later j u. Unit {0}))
    unfolding opened_removed said_removed removed_marked
    opened_okay = at_place o.place o.folder o.sequences b.place b.name b.sequences

    opened_meets : M own h (opened_removed run path job o) Anyhow
    opened_meets = meets_more (MayAsk w) A own h (opened_removed run path job o) (okay (λ later j u. Unit {0})) Anyhow (λ later j r q. tt) opened_okay

  -- each step of `rmm` minds all marks, where no message is held aside when it removes
  pub rmm_meets : (own : List Deed) (h : Hand) → NoneUnlinked p own → M own h (rmm run path job) Anyhow
  unfolding rmm
  rmm_meets own h none = whole_meets w path job.folder A (λ before s f unheld. f) (opened_removed run path job) (λ before i o b. opened_meets before i o b) own h none
