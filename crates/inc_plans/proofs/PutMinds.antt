-- Each step of a put of `inc` minds the marks of all sequences: the number is one that no text marks.
use Rattle.std.proofs.Common.{◌≡◌, ◌⊎◌, inl, inr, ◌<◌, ◌≤◌, ◌+◌, ◌-◌, ◌||◌, ◌&&◌, ◌==◌, ◌++◌, ◌∷◌, [], ℕ, zero, suc, Bool, true, false, List, Option, Some, None, Ok, refl, sym, ◌∙◌, ap, subst, nat_le, arith}
use Rattle.std.specs.Prelude.{decimal}
use Rattle.std.proofs.lemmas.Bool.Decides.{Decides-eqb, nat_tests}
use Rattle.mh_base.specs.Entries.{kind_of}
use Rattle.mh_base.specs.Numbers.{IsMsgNum}
use Rattle.mh_base.specs.declared.entry.Entry.TheVariants.{Number}
use Rattle.mh_sequences.specs.Runs.{has}
use Rattle.mh_sequences.specs.declared.run.Run.{Run}
use Rattle.msg_ranges.proofs.Rising.{lists}
use Rattle.folder_files.specs.Deeds.{Deed, did}
use Rattle.folder_files.specs.Named.{is_number, is_temp}
use Rattle.folder_files.specs.declared.place.Place.{Place}
use Rattle.folder_files.specs.declared.place.Place.TheVariants.{Folder, Mail}
use Rattle.folder_files.specs.declared.step.Answer.{Answer}
use Rattle.folder_files.specs.declared.step.Answer.TheVariants as answer
use Rattle.folder_files.specs.declared.step.Step.{Step}
use Rattle.folder_files.specs.declared.step.Step.TheVariants as step
use Rattle.folder_files.proofs.Names.{both, not_both, number_text, or_case}
use Rattle.file_plans.specs.Plan.{Hand, Plan, Return, ◌>>=◌}
use Rattle.file_plans.proofs.Showing.{number_kind}
use Rattle.held_messages.specs.Settle.{given_at, given_from, given_up}
use Rattle.step_plans.specs.Commits.{IsBase}
use Rattle.step_plans.specs.Locking.{removed}
use Rattle.step_plans.specs.PlanFaults.{of_stop}
use Rattle.step_plans.specs.Pledges.{MayAsk, Pledge}
use Rattle.step_plans.specs.Replacing.{held_to, synced, written}
use Rattle.step_plans.specs.declared.fault.PlanFault.TheVariants as fault
use Rattle.step_plans.proofs.Facts.{LeavesBase, base_kept}
use Rattle.step_plans.proofs.Going.{Outcome, okay}
use Rattle.marks_law.specs.Apart.{by_text}
use Rattle.marks_law.specs.Minding.{Minds, Sees, by_base, linked, met, plain}
use Rattle.sequence_marks.specs.SequenceMarks.{private_marks, public_marks, says_public}
use Rattle.message_puts.specs.Putting.{linked_first, message_put, number_got, numbered}
use Rattle.opening_plans.proofs.AllMarks.{MindsAll, clear_minds, look_minds}
use Rattle.opening_plans.proofs.CommitMinds.{Facts, IsTold, one_folder, one_mail, text_name}
use Rattle.opening_plans.proofs.CommitSeen.{MadeTemp, NoCommit, synced_kept, written_meets}
use Rattle.opening_plans.proofs.FolderSeen.{Quiet, quiet_seen}
use Rattle.opening_plans.proofs.FreeMarks.{FreesOthers, free_kept}
use Rattle.opening_plans.proofs.Meeting.{Meets, meets_end, meets_link, meets_okay, meets_return, meets_sync_folder, meets_then, meets_unlink}
use Rattle.opening_plans.proofs.SettledSeen.{grows_link, kind_numbered}
use Rattle.opening_plans.proofs.ToldMarks.{InListing}
use Rattle.sequence_commits.proofs.SequencesPledged.{sequences_name}
use Rattle.inc_plans.specs.Inc.{top_of}
use Rattle.inc_plans.specs.IncPledge.{inc_pledge}
use Rattle.message_puts.specs.Putting.{message_stored}
use Rattle.inc_plans.specs.IncJob.{IncJob}

-- a set's numbers are its greatest at most
pub has_top : (runs : List Run) (n : ℕ) → has runs n ≡ true → n ≤ top_of runs
has_top [] n e = cc (e)
has_top (r ∷ runs) n e = elim (or_case (nat_le r.from n && nat_le n r.to) (has runs n) e) [
  | inl f ↦ let parts = both (nat_le r.from n) (nat_le n r.to) f in let high = parts.1 in let le : n ≤ r.to = grind (arith, nat_tests, high) in omega (arith, le)
  | inr f ↦ let rest = has_top runs n f in omega (arith, rest)
]

-- one number more
pub lists_more : (numbers : List ℕ) (n k : ℕ) → lists (numbers ++ n ∷ []) k ≡ true → (lists numbers k ≡ true) ⊎ (n ≡ k)
lists_more [] n k e = elim (or_case (n == k) false e) [ inl f ↦ inr ((Decides-eqb n k).0 f) | inr f ↦ cc (f) ]
lists_more (m ∷ numbers) n k e = go (m == k) e (lists_more numbers n k)
  where
    go : (b : Bool) → b || lists (numbers ++ n ∷ []) k ≡ true → (lists (numbers ++ n ∷ []) k ≡ true → (lists numbers k ≡ true) ⊎ (n ≡ k)) → (b || lists numbers k ≡ true) ⊎ (n ≡ k)
    go true f more = inl refl
    go false f more = more f

module _ (run : ℕ) (path : List ℕ) (job : IncJob) where
  abbrev w : Pledge
  w = inc_pledge run path job

  abbrev p : Place
  p = Folder path job.folder

  abbrev mail : Place
  mail = Mail path

  abbrev Of : List ℕ → Type 0
  Of other = IsTold job.folder other

  -- what each step meets
  abbrev pub A : List Deed → Step → Type 0
  A own s = MindsAll Of run own s

  abbrev pub M : {R : Type 0} → List Deed → Hand → Plan R → Outcome R → Type 0
  M own h plan Q = Meets (MayAsk w) A own h plan Q

  -- the folder was listed so, and its text and the context mark only numbers that were listed
  module _ (names : List (List ℕ)) (listing : List Run) (old : List ℕ) (marks : (sequence : List ℕ) (n : ℕ) → says_public sequence old n ≡ true → has listing n ≡ true) where
    -- a number that was listed, or at which a message was put since
    abbrev pub There : List ℕ → List ℕ → Type 0
    There numbers z = InListing listing z ⊎ ((n : ℕ) × (kind_of z ≡ Number n) × (lists numbers n ≡ true))

    abbrev pub Known : List ℕ → List Deed → Type 0
    Known numbers own = (Facts w path job.folder names (There numbers) own × IsBase run p sequences_name old own) × FreesOthers run path job.folder listing own

    pub known_kept : (numbers : List ℕ) (own : List Deed) (s : Step) (a : Answer) → MayAsk w own s → Quiet p s → NoCommit path s → LeavesBase p sequences_name s → Known numbers own → Known numbers (did s a ∷ own)
    known_kept numbers own s a may quiet none leaves f = (
      ((quiet_seen w p names (There numbers) own s a may quiet f.0.0.0, synced_kept Of w path job.folder own s a quiet none f.0.0.1), base_kept run p sequences_name old own s a leaves f.0.1),
      (λ sequence n unlisted. free_kept run path job.folder sequence n own s a (λ e. (subst (λ z. Quiet p z) e quiet) refl) none (f.1 sequence n unlisted)),
    )

    -- a number that is there after a link
    linked_known : (numbers : List ℕ) (own : List Deed) (temp : List ℕ) (n : ℕ) (a : Answer) → IsMsgNum n → Sees p (decimal n) true (did (step.Link p temp (decimal n)) a ∷ own) → Known numbers own
        → Known numbers (did (step.Link p temp (decimal n)) a ∷ own)
    linked_known numbers own temp n a one sees f =
        let g = grows_link Of w p own temp (decimal n) a (kind_numbered (decimal n) n (number_kind n one)) f.0.0.0.lock sees in (
          (
            (
              record { lock = g.lock; there = λ z so number. g.there z number (f.0.0.0.there z so number); held = g.held names f.0.0.0.held; listed = g.listed names f.0.0.0.listed },
              (λ sequence. g.synced (private_marks path job.folder sequence) (f.0.0.1 sequence)),
            ),
            base_kept run p sequences_name old own (step.Link p temp (decimal n)) a tt f.0.1,
          ),
          (λ sequence k unlisted. free_kept run path job.folder sequence k own (step.Link p temp (decimal n)) a (λ e. cc (e)) (λ t e. cc (e)) (f.1 sequence k unlisted)),
        )

    one_more : (numbers : List ℕ) (own : List Deed) (n : ℕ) → Sees p (decimal n) true own → Known numbers own → Known (numbers ++ n ∷ []) own
    one_more numbers own n sees f = (((record { lock = f.0.0.0.lock; there = there; held = f.0.0.0.held; listed = f.0.0.0.listed }, f.0.0.1), f.0.1), f.1)
      where
        there : (z : List ℕ) → There (numbers ++ n ∷ []) z → is_number (kind_of z) ≡ true → Sees p z true own
        there z (inl so) number = f.0.0.0.there z (inl so) number
        there z (inr so) number = go (lists_more numbers n so.0 so.2)
          where
            go : (lists numbers so.0 ≡ true) ⊎ (n ≡ so.0) → Sees p z true own
            go (inl before) = f.0.0.0.there z (inr (so.0, so.1, before)) number
            go (inr same) = subst (λ y. Sees p y true own) (ap decimal same ∙ sym (number_text z so.0 so.1)) sees

    -- a number above all that were listed was not listed, and is not marked
    unlisted_above : (n : ℕ) → top_of listing < n → has listing n ≡ false
    unlisted_above n above = go (has listing n) refl
      where
        go : (b : Bool) → has listing n ≡ b → b ≡ false
        go true e = let low = has_top listing n e in absurd (omega (arith, low, above))
        go false e = refl

    unmarked : (sequence : List ℕ) (n : ℕ) → top_of listing < n → says_public sequence old n ≡ false
    unmarked sequence n above = go (says_public sequence old n) refl
      where
        go : (b : Bool) → says_public sequence old n ≡ b → b ≡ false
        go true e = absurd (not_both (has listing n) (marks sequence n e) (unlisted_above n above))
        go false e = refl

    put_minds : (numbers : List ℕ) (own : List Deed) (temp : List ℕ) (n : ℕ) → IsMsgNum n → top_of listing < n → Known numbers own → A own (step.Link p temp (decimal n))
    put_minds numbers own temp n one above f = record {
      public = λ other_mail other sequence c.
          subst (λ z. Minds run (public_marks z other sequence) (by_base run (public_marks z other sequence)) own (step.Link p temp (decimal n))) (sym (one_mail other_mail other path job.folder c))
          (subst (λ z. Minds run (public_marks path z sequence) (by_base run (public_marks path z sequence)) own (step.Link p temp (decimal n))) (sym (one_folder other_mail other path job.folder c)) (public_so sequence));
      private = λ other_mail other sequence is c. elim c [
        | inl e ↦
            subst (λ z. Minds run (private_marks z other sequence) (by_text run (private_marks z other sequence)) own (step.Link p temp (decimal n))) (sym (one_mail other_mail other path job.folder e))
            (subst (λ z. Minds run (private_marks path z sequence) (by_text run (private_marks path z sequence)) own (step.Link p temp (decimal n))) (sym (one_folder other_mail other path job.folder e)) (private_so sequence))
        | inr e ↦ let same = e.1 in absurd (cc (same))
      ];
      considerate = λ other_mail other sequence is other_temp e. absurd (cc (e));
    }
      where
        public_so : (sequence : List ℕ) → Minds run (public_marks path job.folder sequence) (by_base run (public_marks path job.folder sequence)) own (step.Link p temp (decimal n))
        public_so sequence = plain (number_kind n one) (old, (rw text_name at f.0.1), unmarked sequence n above)

        private_so : (sequence : List ℕ) → Minds run (private_marks path job.folder sequence) (by_text run (private_marks path job.folder sequence)) own (step.Link p temp (decimal n))
        private_so sequence = plain (number_kind n one) (f.1 sequence n (unlisted_above n above), f.0.0.1 sequence)

    -- where the file was put, if anywhere
    abbrev PutAt : List ℕ → ℕ → Outcome (Option ℕ)
    PutAt numbers n later j None = Known numbers later
    PutAt numbers n later j (Some m) = (n ≤ m) × (m ≤ 999999) × Known (numbers ++ m ∷ []) later

    put_up : (numbers : List ℕ) (n : ℕ) (later : List Deed) (j : Hand) (end : Option ℕ) → PutAt numbers (n + 1) later j end → PutAt numbers n later j end
    put_up numbers n later j None q = q
    put_up numbers n later j (Some m) q = ((let le = q.0 in omega (arith, le)), q.1, q.2)

    up_meets : (temp : List ℕ) (numbers : List ℕ) (left n : ℕ) → (1 ≤ n) × (n + left ≡ 1000000) → top_of listing < n → (own : List Deed) (h : Hand) → Known numbers own
        → M own h (given_up p temp n left) (okay (PutAt numbers n))
    unfolding given_up
    up_meets temp numbers zero n few above own h f = meets_return (MayAsk w) A own h None (okay (PutAt numbers n)) f
    up_meets temp numbers (suc left) n few above own h f =
        meets_link (MayAsk w) A own h of_stop (okay (PutAt numbers n)) p temp (decimal n) (λ e. given_at p temp n e (given_up p temp (n + 1) left))
        (λ may. (
          put_minds numbers own temp n one above f,
          meets_return (MayAsk w) A (did (step.Link p temp (decimal n)) answer.Done ∷ own) h (Some n) (okay (PutAt numbers n))
              (omega arith, one.1, one_more numbers (did (step.Link p temp (decimal n)) answer.Done ∷ own) n (linked refl f.0.0.0.lock) (linked_known numbers own temp n answer.Done one (linked refl f.0.0.0.lock) f)),
          meets_okay (MayAsk w) A (did (step.Link p temp (decimal n)) answer.Exists ∷ own) h (given_up p temp (n + 1) left) (PutAt numbers (n + 1)) (PutAt numbers n) (put_up numbers n)
              (up_meets temp numbers left (n + 1) (omega arith, (let full = few.1 in omega (arith, full))) (omega (arith, above)) (did (step.Link p temp (decimal n)) answer.Exists ∷ own) h
              (linked_known numbers own temp n answer.Exists one (met refl f.0.0.0.lock) f)),
          meets_end (MayAsk w) A (did (step.Link p temp (decimal n)) answer.Gone ∷ own) h (fault.Meddled p temp) (PutAt numbers n),
        ))
      where
        one : IsMsgNum n
        one = (few.0, (let full = few.1 in omega (arith, full)))

    -- the file has a number above the highest
    abbrev pub Numbered : List ℕ → ℕ → Outcome ℕ
    Numbered numbers top later j m = (top < m) × (m ≤ 999999) × Known (numbers ++ m ∷ []) later

    numbered_meets : (temp : List ℕ) (numbers : List ℕ) (top : ℕ) → top_of listing ≤ top → top ≤ 999999 → (own : List Deed) (h : Hand) → Known numbers own
        → M own h (numbered p temp None top) (okay (Numbered numbers top))
    unfolding numbered linked_first
    numbered_meets temp numbers top low small own h f =
        meets_then (MayAsk w) A own h (given_from p temp (top + 1)) number_got (PutAt numbers (top + 1)) (Numbered numbers top)
        (up_meets temp numbers (1000000 - (top + 1)) (top + 1) (omega arith, omega (arith, small)) (omega (arith, low)) own h f) got
      where
        got : (later : List Deed) (j : Hand) (end : Option ℕ) → PutAt numbers (top + 1) later j end → M later j (number_got end) (okay (Numbered numbers top))
        got later j None q = meets_end (MayAsk w) A later j fault.Full (Numbered numbers top)
        got later j (Some m) q = meets_return (MayAsk w) A later j m (okay (Numbered numbers top)) ((let le = q.0 in omega (arith, le)), q.1, q.2)

    gone_meets : (temp : List ℕ) → is_temp (kind_of temp) ≡ true → (numbers : List ℕ) (own : List Deed) (h : Hand) → Known numbers own → M own h (removed p temp) (okay (λ later j u. Known numbers later))
    unfolding removed
    gone_meets temp is numbers own h f =
        meets_unlink (MayAsk w) A own h of_stop (okay (λ later j u. Known numbers later)) p temp (held_to p temp)
        (λ may. (
          clear_minds Of run own p temp is,
          meets_return (MayAsk w) A (did (step.Unlink p temp) answer.Done ∷ own) h tt (okay (λ later j u. Known numbers later)) (known_kept numbers own (step.Unlink p temp) answer.Done may (λ e. is) (λ t e. cc (e)) tt f),
          meets_end (MayAsk w) A (did (step.Unlink p temp) answer.Gone ∷ own) h (fault.Meddled p temp) (λ later j u. Known numbers later),
        ))

    safe_meets : (name : List ℕ) (numbers : List ℕ) (own : List Deed) (h : Hand) → Known numbers own → M own h (synced p name) (okay (λ later j u. Known numbers later))
    unfolding synced
    safe_meets name numbers own h f =
        meets_sync_folder (MayAsk w) A own h of_stop (okay (λ later j u. Known numbers later)) p (held_to p name)
        (λ may. (
          look_minds Of run own (step.SyncFolder p) tt,
          meets_return (MayAsk w) A (did (step.SyncFolder p) answer.Done ∷ own) h tt (okay (λ later j u. Known numbers later)) (known_kept numbers own (step.SyncFolder p) answer.Done may tt (λ t e. cc (e)) tt f),
          meets_end (MayAsk w) A (did (step.SyncFolder p) answer.Gone ∷ own) h (fault.Meddled p name) (λ later j u. Known numbers later),
        ))

    put_meets : (numbers : List ℕ) (top : ℕ) → top_of listing ≤ top → top ≤ 999999 → (bytes : List ℕ) (own : List Deed) (h : Hand) → Known numbers own → M own h (message_put run p bytes None top) (okay (Numbered numbers top))
    unfolding message_put
    put_meets numbers top low small bytes own h f =
        meets_then (MayAsk w) A own h (written run p bytes) (λ temp. numbered p temp None top >>= (λ number. removed p temp >>= (λ gone. Return (Ok number)))) (λ later j temp. Known numbers later × MadeTemp p temp bytes later) (Numbered numbers top)
        (written_meets Of w path job.folder p (Known numbers) (λ before temp text a may g. known_kept numbers before (step.Create p temp text) a may tt (λ t e. cc (e)) tt g)
        (λ before temp a may g. known_kept numbers before (step.SyncFile p temp) a may tt (λ t e. cc (e)) tt g) own h bytes f)
        (λ later j temp q.
        meets_then (MayAsk w) A later j (numbered p temp None top) (λ number. removed p temp >>= (λ gone. Return (Ok number))) (Numbered numbers top) (Numbered numbers top) (numbered_meets temp numbers top low small later j q.0)
        (λ last i number z.
        meets_then (MayAsk w) A last i (removed p temp) (λ gone. Return (Ok number)) (λ end k u. Known (numbers ++ number ∷ []) end) (Numbered numbers top) (gone_meets temp q.1.1 (numbers ++ number ∷ []) last i z.2)
        (λ end k u g. meets_return (MayAsk w) A end k number (okay (Numbered numbers top)) (z.0, z.1, g))))

    -- it is put, and its folder made safe
    pub stored_meets : (numbers : List ℕ) (top : ℕ) → top_of listing ≤ top → top ≤ 999999 → (bytes : List ℕ) (own : List Deed) (h : Hand) → Known numbers own → M own h (message_stored run p top bytes) (okay (Numbered numbers top))
    unfolding message_stored
    stored_meets numbers top low small bytes own h f =
        meets_then (MayAsk w) A own h (message_put run p bytes None top) (λ number. synced p (decimal number) >>= (λ safe. Return (Ok number))) (Numbered numbers top) (Numbered numbers top) (put_meets numbers top low small bytes own h f)
        (λ later j number q.
        meets_then (MayAsk w) A later j (synced p (decimal number)) (λ safe. Return (Ok number)) (λ last i u. Known (numbers ++ number ∷ []) last) (Numbered numbers top) (safe_meets (decimal number) (numbers ++ number ∷ []) later j q.2)
        (λ last i u g. meets_return (MayAsk w) A last i number (okay (Numbered numbers top)) (q.0, q.1, g)))
