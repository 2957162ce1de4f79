-- What a run sees of a folder while it puts back what is held aside there, and that each of these steps minds all marks.
use Rattle.std.proofs.Common.{◌≡◌, ◌+◌, ◌-◌, ◌<◌, ◌≤◌, ◌||◌, ◌∷◌, ◌++◌, ◌⊎◌, inl, inr, [], ℕ, zero, suc, max, Bool, true, false, List, Option, Some, None, Ok, refl, sym, ◌∙◌, ap, subst, arith, append-nil, append_assoc, bytes_eq}
use Rattle.std.specs.Prelude.{decimal, unwrap_or}
use Rattle.std.proofs.lemmas.Bool.Decides.{nat_tests}
use Rattle.mh_base.specs.Entries.{IsKind, kind_of}
use Rattle.mh_base.specs.Numbers.{IsMsgNum}
use Rattle.mh_base.specs.declared.entry.Entry.{Entry}
use Rattle.mh_base.specs.declared.entry.Entry.TheVariants.{Held, Number}
use Rattle.mh_base.proofs.EntryKinds.{kind_is}
use Rattle.folder_files.specs.Careful.{HasLock}
use Rattle.folder_files.specs.Deeds.{Deed, WasDone, did, now, on, still}
use Rattle.folder_files.specs.Named.{is_held, is_number}
use Rattle.folder_files.specs.declared.place.Place.{Place}
use Rattle.folder_files.specs.declared.step.Answer.{Answer}
use Rattle.folder_files.specs.declared.step.Answer.TheVariants as answer
use Rattle.folder_files.specs.declared.step.Step.TheVariants as step
use Rattle.folder_files.proofs.Names.{bytes_true, bytes_self, held_stands, is_number_unheld, not_both, number_stands, number_text, or_case}
use Rattle.file_plans.specs.Plan.{Hand, Plan, Return, ◌>>=◌}
use Rattle.file_plans.proofs.Showing.{number_kind}
use Rattle.step_plans.specs.Locking.{removed}
use Rattle.step_plans.specs.Pledges.{MayAsk, Pledge}
use Rattle.step_plans.specs.PlanFaults.{of_stop}
use Rattle.step_plans.specs.Replacing.{held_to, synced}
use Rattle.step_plans.specs.declared.fault.PlanFault.TheVariants as fault
use Rattle.step_plans.proofs.Going.{Outcome, okay}
use Rattle.step_plans.proofs.Past.{did_step}
use Rattle.marks_law.specs.Apart.{IsSynced}
use Rattle.marks_law.specs.Apart as apart
use Rattle.marks_law.specs.Bearers.{Marking}
use Rattle.marks_law.specs.Minding.{Minds, Sees, gives_above, gives_back, linked, met, unlinked}
use Rattle.marks_law.specs.Minding as minding
use Rattle.held_messages.specs.HeldPairs.{held_name, top_after}
use Rattle.held_messages.specs.Settle.{all_homed, dropped, dropped_for_good, dropped_safely, given_at, given_from, given_up, homed, last_put, settle, settled_by, synced_at}
use Rattle.held_messages.specs.declared.held.HeldPair.{HeldPair}
use Rattle.held_messages.proofs.Linking.{held_is}
use Rattle.held_messages.proofs.ListedPairs.{ArePairs, IsPair, held_kind}
use Rattle.opening_plans.specs.Existing.{are_tried, is_between, is_tried}
use Rattle.opening_plans.proofs.AllMarks.{MindsAll, drop_minds, look_minds, plain_minds}
use Rattle.opening_plans.proofs.FolderSeen.{LetGo, Quiet, WasListed, quiet_lock, quiet_sees, quiet_unlinked}
use Rattle.opening_plans.proofs.Meeting.{Meets, meets_end, meets_link, meets_okay, meets_on, meets_return, meets_sync_folder, meets_then, meets_unlink}

-- a held name is given its number back, or one above its own from which on none is there
pub back_minds : (Of : List ℕ → Type 0) (run : ℕ) (own : List Deed) (q : Place) (held number : List ℕ) (o n : ℕ) → kind_of held ≡ Held o n → kind_of number ≡ Number n → MindsAll Of run own (step.Link q held number)
back_minds Of run own q held number o n is to =
    plain_minds Of run own (step.Link q held number) (λ k g c. subst (λ z. Minds run k g own (step.Link z held number)) c (gives_back is to)) (λ mail folder sequence temp e. cc (e))

pub above_minds : (Of : List ℕ → Type 0) (run : ℕ) (own : List Deed) (q : Place) (held number : List ℕ) (o m n : ℕ) → kind_of held ≡ Held o m → kind_of number ≡ Number n → m < n
    → ((z : List ℕ) (j : ℕ) → kind_of z ≡ Number j → n ≤ j → Sees q z false own) → MindsAll Of run own (step.Link q held number)
above_minds Of run own q held number o m n is to lt absent =
    plain_minds Of run own (step.Link q held number)
    (λ k g c. subst (λ z. Minds run k g own (step.Link z held number)) c (gives_above is to lt (λ z j e le. subst (λ y. Sees y z false own) (sym c) (absent z j e le))))
    (λ mail folder sequence temp e. cc (e))

pub kind_numbered : (z : List ℕ) (n : ℕ) → kind_of z ≡ Number n → is_number (kind_of z) ≡ true
kind_numbered z n e = rw e refl

number_one : (n j : ℕ) → Number n ≡ Number j → n ≡ j
number_one n j e = cc (e)

between_parts : (first last n : ℕ) → is_between first last n ≡ true → (first ≤ n) × (n ≤ last)
between_parts first last n e = (grind (arith, nat_tests, e), grind (arith, nat_tests, e))

-- a number's name is that of a message number
pub number_ranged : (z : List ℕ) (j : ℕ) → kind_of z ≡ Number j → IsMsgNum j
number_ranged z j e = go (kind_of z) e (kind_is z)
  where
    go : (k : Entry) → k ≡ Number j → IsKind z k → IsMsgNum j
    go (Number n) e f = subst IsMsgNum (number_one n j e) f.0
    go k e f = cc (e)

unlinked_one : (p : Place) (a b : List ℕ) → step.Unlink p a ≡ step.Unlink p b → a ≡ b
unlinked_one p a b e = cc (e)

module _ (Of : List ℕ → Type 0) (w : Pledge) (p : Place) where
  abbrev M : {R : Type 0} → List Deed → Hand → Plan R → Outcome R → Type 0
  M own h plan Q = Meets (MayAsk w) (MindsAll Of w.run) own h plan Q

  -- the lock is had, and no number goes; nor does what was let go of held names come back
  pub record Grows (own later : List Deed) : Type 0 where
    pub lock : HasLock p later
    pub there : (z : List ℕ) → is_number (kind_of z) ≡ true → Sees p z true own → Sees p z true later
    pub held : (names : List (List ℕ)) → LetGo p names own → LetGo p names later
    pub listed : (names : List (List ℕ)) → WasListed p names own → WasListed p names later
    pub synced : (k : Marking) → IsSynced k own → IsSynced k later

  pub grows_same : (own : List Deed) → HasLock p own → Grows own own
  grows_same own lock = record { lock = lock; there = λ z number f. f; held = λ names f. f; listed = λ names f. f; synced = λ k f. f }

  pub grows_then : (own mid later : List Deed) → Grows own mid → Grows mid later → Grows own later
  grows_then own mid later a b = record { lock = b.lock; there = λ z number f. b.there z number (a.there z number f); held = λ names f. b.held names (a.held names f); listed = λ names f. b.listed names (a.listed names f); synced = λ k f. b.synced k (a.synced k f) }

  grows_synced : (own : List Deed) → MayAsk w own (step.SyncFolder p) → HasLock p own → Grows own (did (step.SyncFolder p) answer.Done ∷ own)
  grows_synced own may lock = let s = step.SyncFolder p in let a = answer.Done in let quiet : Quiet p s = tt in record {
    lock = quiet_lock w p own s a quiet lock;
    there = λ z number f. quiet_sees w p own s a z true may quiet (number_stands z number) f;
    held = λ names f x held gone. quiet_sees w p own s a x false may quiet (held_stands x held) (f x held (λ listed. quiet_unlinked w p own s a x quiet held (gone listed)));
    listed = λ names f. on f;
    synced = λ k f. apart.on (λ e. cc (e)) (λ temp e. cc (e)) f;
  }

  -- a link of a held name to a number that is there then
  pub grows_link : (own : List Deed) (held number : List ℕ) (a : Answer) → is_number (kind_of number) ≡ true → HasLock p own → Sees p number true (did (step.Link p held number) a ∷ own)
      → Grows own (did (step.Link p held number) a ∷ own)
  grows_link own held number a numbered lock sees = record {
    lock = still (λ e. cc (e)) lock;
    there = λ z is f. there z f (bytes_eq number z) refl;
    held = λ names f x is gone. minding.on (λ e. cc (e)) (λ t. not_both (is_held (kind_of x)) is (subst (λ (y : List ℕ). is_held (kind_of y) ≡ false) t.1 (is_number_unheld number numbered))) (f x is (λ listed. before x (gone listed)));
    listed = λ names f. on f;
    synced = λ k f. apart.on (λ e. cc (e)) (λ temp e. cc (e)) f;
  }
    where
      there : (z : List ℕ) → Sees p z true own → (b : Bool) → bytes_eq number z ≡ b → Sees p z true (did (step.Link p held number) a ∷ own)
      there z f true e = subst (λ y. Sees p y true (did (step.Link p held number) a ∷ own)) (bytes_true number z e) sees
      there z f false e = minding.on (λ u. cc (u)) (λ t. not_both (bytes_eq number z) (subst (λ y. bytes_eq number y ≡ true) t.1 (bytes_self number)) e) f

      before : (x : List ℕ) → WasDone (step.Unlink p x) (did (step.Link p held number) a ∷ own) → WasDone (step.Unlink p x) own
      before x (now e) = let same = did_step e in absurd (cc (same))
      before x (on f) = f

  -- from this number on none is there
  abbrev pub AbsentFrom : ℕ → List Deed → Type 0
  AbsentFrom t own = (z : List ℕ) (j : ℕ) → kind_of z ≡ Number j → t ≤ j → Sees p z false own

  absent_more : (t u : ℕ) (own : List Deed) → t ≤ u → AbsentFrom t own → AbsentFrom u own
  absent_more t u own le f z j e low = f z j e (omega (arith, le, low))

  absent_link : (t n : ℕ) (own : List Deed) (held number : List ℕ) (a : Answer) → kind_of number ≡ Number n → n < t → AbsentFrom t own → AbsentFrom t (did (step.Link p held number) a ∷ own)
  absent_link t n own held number a is lt f z j e low =
      minding.on (λ u. cc (u)) (λ x. differs (number_one n j (sym is ∙ ap kind_of x.1 ∙ e))) (f z j e low)
    where
      differs : n ≡ j → ⊥
      differs same = omega (arith, same, lt, low)

  -- this end, or the last number of all
  abbrev bound : Option ℕ → ℕ
  bound None = 1000000
  bound (Some m) = m + 1

  module _ (h : HeldPair) (pair : IsPair h) where
    abbrev name : List ℕ
    name = held_name h

    -- the numbers from n on to where it went are there, and none above
    record Up (own : List Deed) (n : ℕ) (later : List Deed) (end : Option ℕ) : Type 0 where
      grows : Grows own later
      absent : AbsentFrom (bound end) later
      tried : (z : List ℕ) (k : ℕ) → kind_of z ≡ Number k → n ≤ k → k ≤ unwrap_or end 999999 → Sees p z true later
      small : unwrap_or end 999999 ≤ 999999

    abbrev Ups : List Deed → ℕ → Outcome (Option ℕ)
    Ups own n later j end = Up own n later end

    at_number : (z : List ℕ) (n k : ℕ) (later : List Deed) → kind_of z ≡ Number k → k ≡ n → Sees p (decimal n) true later → Sees p z true later
    at_number z n k later e same f = subst (λ y. Sees p y true later) (ap decimal (sym same) ∙ sym (number_text z k e)) f

    up_done : (own : List Deed) (n : ℕ) → IsMsgNum n → HasLock p own → AbsentFrom n own → Up own n (did (step.Link p name (decimal n)) answer.Done ∷ own) (Some n)
    up_done own n ok lock absent = record {
      grows = grows_link own name (decimal n) answer.Done (kind_numbered (decimal n) n (number_kind n ok)) lock (linked refl lock);
      absent = absent_link (n + 1) n own name (decimal n) answer.Done (number_kind n ok) (omega arith) (absent_more n (n + 1) own (omega arith) absent);
      tried = λ z k e low high. at_number z n k (did (step.Link p name (decimal n)) answer.Done ∷ own) e (omega (arith, low, high)) (linked refl lock);
      small = ok.1;
    }

    up_met : (own : List Deed) (n : ℕ) → IsMsgNum n → HasLock p own → (later : List Deed) (end : Option ℕ) → Up (did (step.Link p name (decimal n)) answer.Exists ∷ own) (n + 1) later end → Up own n later end
    up_met own n ok lock later end u = record {
      grows = grows_then own met_ later (grows_link own name (decimal n) answer.Exists numbered lock (met refl lock)) u.grows;
      absent = u.absent;
      tried = λ z k e low high. tried z k e low high (bytes_eq z (decimal n)) refl;
      small = u.small;
    }
      where
        met_ : List Deed
        met_ = did (step.Link p name (decimal n)) answer.Exists ∷ own

        numbered : is_number (kind_of (decimal n)) ≡ true
        numbered = kind_numbered (decimal n) n (number_kind n ok)

        above : (z : List ℕ) (k : ℕ) → kind_of z ≡ Number k → bytes_eq z (decimal n) ≡ false → n ≤ k → n + 1 ≤ k
        above z k e f low = let differs : k ≡ n → ⊥ = (λ same. not_both (bytes_eq z (decimal n)) (subst (λ y. bytes_eq y (decimal n) ≡ true) (ap decimal (sym same) ∙ sym (number_text z k e)) (bytes_self (decimal n))) f) in omega (arith, differs, low)

        tried : (z : List ℕ) (k : ℕ) → kind_of z ≡ Number k → n ≤ k → k ≤ unwrap_or end 999999 → (b : Bool) → bytes_eq z (decimal n) ≡ b → Sees p z true later
        tried z k e low high true f = subst (λ y. Sees p y true later) (sym (bytes_true z (decimal n) f)) (u.grows.there (decimal n) numbered (met refl lock))
        tried z k e low high false f = u.tried z k e (above z k e f low) high

    given_up_meets : (left n : ℕ) (own : List Deed) (i : Hand) → h.number < n → (1 ≤ n) × (n + left ≡ 1000000) → HasLock p own → AbsentFrom n own → M own i (given_up p name n left) (okay (Ups own n))
    unfolding given_up
    given_up_meets zero n own i lt few lock absent =
        let full : n + 0 ≡ 1000000 = few.1 in
        meets_return (MayAsk w) (MindsAll Of w.run) own i None (okay (Ups own n)) (record {
          grows = grows_same own lock;
          absent = absent_more n 1000000 own (omega (arith, full)) absent;
          tried = λ z k e low high. absurd (omega (arith, full, low, high));
          small = omega arith;
        })
    given_up_meets (suc left) n own i lt few lock absent =
        meets_link (MayAsk w) (MindsAll Of w.run) own i of_stop (okay (Ups own n)) p name (decimal n) (λ e. given_at p name n e (given_up p name (n + 1) left))
        (λ may. (
          above_minds Of w.run own p name (decimal n) h.run h.number n (held_kind h pair) (number_kind n ok) lt absent,
          meets_return (MayAsk w) (MindsAll Of w.run) (did (step.Link p name (decimal n)) answer.Done ∷ own) i (Some n) (okay (Ups own n)) (up_done own n ok lock absent),
          meets_okay (MayAsk w) (MindsAll Of w.run) (did (step.Link p name (decimal n)) answer.Exists ∷ own) i (given_up p name (n + 1) left) (Ups (did (step.Link p name (decimal n)) answer.Exists ∷ own) (n + 1)) (Ups own n)
              (λ later j end u. up_met own n ok lock later end u)
              (given_up_meets left (n + 1) (did (step.Link p name (decimal n)) answer.Exists ∷ own) i (omega (arith, lt)) (omega arith, (let full = few.1 in omega (arith, full))) (still (λ e. cc (e)) lock)
              (absent_link (n + 1) n own name (decimal n) answer.Exists (number_kind n ok) (omega arith) (absent_more n (n + 1) own (omega arith) absent))),
          meets_end (MayAsk w) (MindsAll Of w.run) (did (step.Link p name (decimal n)) answer.Gone ∷ own) i (fault.Meddled p name) (Ups own n),
        ))
      where
        ok : IsMsgNum n
        ok = (few.0, (let full = few.1 in omega (arith, full)))

    -- after it went home
    pub record Home (own : List Deed) (top : ℕ) (later : List Deed) (end : Option ℕ) : Type 0 where
      pub grows : Grows own later
      pub absent : AbsentFrom (top_after end top + 1) later
      pub tried : (z : List ℕ) (k : ℕ) → kind_of z ≡ Number k → is_tried h top end k ≡ true → Sees p z true later
      pub small : top_after end top ≤ 999999

    abbrev Homes_ : List Deed → ℕ → Outcome (Option ℕ)
    Homes_ own top later j end = Home own top later end

    back_done : (own : List Deed) (top : ℕ) → top ≤ 999999 → HasLock p own → AbsentFrom (top + 1) own → Home own top (did (step.Link p name (decimal h.number)) answer.Done ∷ own) (Some h.number)
    back_done own top low lock absent = record {
      grows = grows_link own name (decimal h.number) answer.Done (kind_numbered (decimal h.number) h.number (number_kind h.number pair.1)) lock (linked refl lock);
      absent = absent_link (max h.number top + 1) h.number own name (decimal h.number) answer.Done (number_kind h.number pair.1) (omega arith) (absent_more (top + 1) (max h.number top + 1) own (omega arith) absent);
      tried = λ z k e t. at_number z h.number k (did (step.Link p name (decimal h.number)) answer.Done ∷ own) e (same k (or_case (is_between (max h.number top + 1) h.number k) (is_between h.number h.number k) t)) (linked refl lock);
      small = let high = pair.1.1 in omega (arith, high, low);
    }
      where
        same : (k : ℕ) → (is_between (max h.number top + 1) h.number k ≡ true) ⊎ (is_between h.number h.number k ≡ true) → k ≡ h.number
        same k (inl t) = let q = between_parts (max h.number top + 1) h.number k t in let a = q.0 in let b = q.1 in absurd (omega (arith, a, b))
        same k (inr t) = let q = between_parts h.number h.number k t in let a = q.0 in let b = q.1 in omega (arith, a, b)

    home_met : (own : List Deed) (top : ℕ) → top ≤ 999999 → HasLock p own → (later : List Deed) (end : Option ℕ) → Up (did (step.Link p name (decimal h.number)) answer.Exists ∷ own) (max h.number top + 1) later end → Home own top later end
    home_met own top low lock later end u = record {
      grows = grows_then own met_ later (grows_link own name (decimal h.number) answer.Exists numbered lock (met refl lock)) u.grows;
      absent = absent_more (bound end) (top_after end top + 1) later (reaches end) u.absent;
      tried = λ z k e t. tried z k e (or_case (is_between (max h.number top + 1) (unwrap_or end 999999) k) (is_between h.number h.number k) t);
      small = small_by end u.small;
    }
      where
        met_ : List Deed
        met_ = did (step.Link p name (decimal h.number)) answer.Exists ∷ own

        numbered : is_number (kind_of (decimal h.number)) ≡ true
        numbered = kind_numbered (decimal h.number) h.number (number_kind h.number pair.1)

        reaches : (end : Option ℕ) → bound end ≤ top_after end top + 1
        reaches None = omega arith
        reaches (Some m) = omega arith

        small_by : (end : Option ℕ) → unwrap_or end 999999 ≤ 999999 → top_after end top ≤ 999999
        small_by None f = omega arith
        small_by (Some m) f = omega (arith, f, low)

        tried : (z : List ℕ) (k : ℕ) → kind_of z ≡ Number k → (is_between (max h.number top + 1) (unwrap_or end 999999) k ≡ true) ⊎ (is_between h.number h.number k ≡ true) → Sees p z true later
        tried z k e (inl t) = let q = between_parts (max h.number top + 1) (unwrap_or end 999999) k t in u.tried z k e q.0 q.1
        tried z k e (inr t) =
            let q = between_parts h.number h.number k t in let a = q.0 in let b = q.1 in
            at_number z h.number k later e (omega (arith, a, b)) (u.grows.there (decimal h.number) numbered (met refl lock))

    homed_meets : (own : List Deed) (i : Hand) (top : ℕ) → top ≤ 999999 → HasLock p own → AbsentFrom (top + 1) own → M own i (homed p h top) (okay (Homes_ own top))
    unfolding homed
    homed_meets own i top low lock absent =
        meets_link (MayAsk w) (MindsAll Of w.run) own i of_stop (okay (Homes_ own top)) p name (decimal h.number) (λ e. given_at p name h.number e (given_from p name (max h.number top + 1)))
        (λ may. (
          back_minds Of w.run own p name (decimal h.number) h.run h.number (held_kind h pair) (number_kind h.number pair.1),
          meets_return (MayAsk w) (MindsAll Of w.run) (did (step.Link p name (decimal h.number)) answer.Done ∷ own) i (Some h.number) (okay (Homes_ own top)) (back_done own top low lock absent),
          meets_okay (MayAsk w) (MindsAll Of w.run) (did (step.Link p name (decimal h.number)) answer.Exists ∷ own) i (given_from p name (max h.number top + 1))
              (Ups (did (step.Link p name (decimal h.number)) answer.Exists ∷ own) (max h.number top + 1)) (Homes_ own top) (λ later j end u. home_met own top low lock later end u)
              (given_up_meets (1000000 - (max h.number top + 1)) (max h.number top + 1) (did (step.Link p name (decimal h.number)) answer.Exists ∷ own) i (omega arith) (omega arith, (let high = pair.1.1 in omega (arith, high, low))) (still (λ e. cc (e)) lock)
              (absent_link (max h.number top + 1) h.number own name (decimal h.number) answer.Exists (number_kind h.number pair.1) (omega arith) (absent_more (top + 1) (max h.number top + 1) own (omega arith) absent))),
          meets_end (MayAsk w) (MindsAll Of w.run) (did (step.Link p name (decimal h.number)) answer.Gone ∷ own) i (fault.Meddled p name) (Homes_ own top),
        ))

    -- a held name goes
    drop_meets : (own : List Deed) (i : Hand) → HasLock p own → M own i (removed p name) (okay (λ later j u. Grows own later))
    unfolding removed
    drop_meets own i lock =
        meets_unlink (MayAsk w) (MindsAll Of w.run) own i of_stop (okay (λ later j u. Grows own later)) p name (held_to p name)
        (λ may. (
          drop_minds Of w.run own p name (held_is h pair),
          meets_return (MayAsk w) (MindsAll Of w.run) (did (step.Unlink p name) answer.Done ∷ own) i tt (okay (λ later j u. Grows own later)) gone_,
          meets_end (MayAsk w) (MindsAll Of w.run) (did (step.Unlink p name) answer.Gone ∷ own) i (fault.Meddled p name) (λ later j u. Grows own later),
        ))
      where
        let_go : (names : List (List ℕ)) → LetGo p names own → LetGo p names (did (step.Unlink p name) answer.Done ∷ own)
        let_go names f x is gone = go (bytes_eq name x) refl
          where
            go : (b : Bool) → bytes_eq name x ≡ b → Sees p x false (did (step.Unlink p name) answer.Done ∷ own)
            go true e = subst (λ y. Sees p y false (did (step.Unlink p name) answer.Done ∷ own)) (bytes_true name x e) (unlinked refl lock)
            go false e = minding.on (λ u. cc (u)) (λ t. differs t.1) (f x is (λ listed. before (gone listed)))
              where
                differs : name ≡ x → ⊥
                differs same = not_both (bytes_eq name x) (subst (λ y. bytes_eq name y ≡ true) same (bytes_self name)) e

                before : WasDone (step.Unlink p x) (did (step.Unlink p name) answer.Done ∷ own) → WasDone (step.Unlink p x) own
                before (now f) = absurd (differs (unlinked_one p name x (did_step f)))
                before (on f) = f

        gone_ : Grows own (did (step.Unlink p name) answer.Done ∷ own)
        gone_ = record {
          lock = still (λ e. cc (e)) lock;
          there = λ z number f. minding.on (λ u. cc (u)) (λ t. not_both (is_held (kind_of z)) (subst (λ (y : List ℕ). is_held (kind_of y) ≡ true) t.1 (held_is h pair)) (is_number_unheld z number)) f;
          held = let_go;
          listed = λ names f. on f;
          synced = λ k f. apart.on (λ e. cc (e)) (λ temp e. cc (e)) f;
        }

  -- one after another, behind those before
  pub record AllHome (own : List Deed) (hs : List HeldPair) (top : ℕ) (before : List (Option ℕ)) (later : List Deed) (all : List (Option ℕ)) : Type 0 where
    pub ends : List (Option ℕ)
    pub all_so : all ≡ before ++ ends
    pub grows : Grows own later
    pub tried : (z : List ℕ) (k : ℕ) → kind_of z ≡ Number k → are_tried hs ends top k ≡ true → Sees p z true later

  abbrev AllHomes : List Deed → List HeldPair → ℕ → List (Option ℕ) → Outcome (List (Option ℕ))
  AllHomes own hs top before later j all = AllHome own hs top before later all

  none_tried : (ends : List (Option ℕ)) (top k : ℕ) → are_tried [] ends top k ≡ false
  unfolding are_tried
  none_tried ends top k = refl

  tried_more : (h : HeldPair) (hs : List HeldPair) (end : Option ℕ) (ends : List (Option ℕ)) (top k : ℕ) → are_tried (h ∷ hs) (end ∷ ends) top k ≡ are_tried hs ends (top_after end top) k || is_tried h top end k
  unfolding are_tried
  tried_more h hs end ends top k = refl

  all_homed_meets : (hs : List HeldPair) → ArePairs hs → (top : ℕ) → top ≤ 999999 → (before : List (Option ℕ)) (own : List Deed) (i : Hand) → HasLock p own → AbsentFrom (top + 1) own → M own i (all_homed p hs top before) (okay (AllHomes own hs top before))
  unfolding all_homed
  all_homed_meets [] pairs top low before own i lock absent =
      meets_return (MayAsk w) (MindsAll Of w.run) own i before (okay (AllHomes own [] top before)) (record {
        ends = [];
        all_so = sym (append-nil before);
        grows = grows_same own lock;
        tried = λ z k e t. absurd (not_both (are_tried [] [] top k) t (none_tried [] top k));
      })
  all_homed_meets (h ∷ hs) pairs top low before own i lock absent =
      meets_then (MayAsk w) (MindsAll Of w.run) own i (homed p h top) (λ end. all_homed p hs (top_after end top) (before ++ end ∷ [])) (Homes_ h pairs.0 own top) (AllHomes own (h ∷ hs) top before) (homed_meets h pairs.0 own i top low lock absent)
      (λ later j end f.
      meets_okay (MayAsk w) (MindsAll Of w.run) later j (all_homed p hs (top_after end top) (before ++ end ∷ [])) (AllHomes later hs (top_after end top) (before ++ end ∷ [])) (AllHomes own (h ∷ hs) top before)
      (λ last k all q. record {
        ends = end ∷ q.ends;
        all_so = q.all_so ∙ append_assoc before (end ∷ []) q.ends;
        grows = grows_then own later last f.grows q.grows;
        tried = λ z n e t. tried_by later last end f q z n e (or_case (are_tried hs q.ends (top_after end top) n) (is_tried h top end n) (sym (tried_more h hs end q.ends top n) ∙ t));
      })
      (all_homed_meets hs pairs.1 (top_after end top) f.small (before ++ end ∷ []) later j f.grows.lock f.absent))
    where
      tried_by : (later last : List Deed) (end : Option ℕ) → Home h pairs.0 own top later end → {all : List (Option ℕ)} → (q : AllHome later hs (top_after end top) (before ++ end ∷ []) last all) → (z : List ℕ) (n : ℕ) → kind_of z ≡ Number n
          → (are_tried hs q.ends (top_after end top) n ≡ true) ⊎ (is_tried h top end n ≡ true) → Sees p z true last
      tried_by later last end f q z n e (inl t) = q.tried z n e t
      tried_by later last end f q z n e (inr t) = q.grows.there z (kind_numbered z n e) (f.tried z n e t)

  dropped_meets : (hs : List HeldPair) → ArePairs hs → (ends : List (Option ℕ)) (own : List Deed) (i : Hand) → HasLock p own → M own i (dropped p hs ends) (okay (λ later j u. Grows own later))
  unfolding dropped
  dropped_meets [] pairs ends own i lock = meets_return (MayAsk w) (MindsAll Of w.run) own i tt (okay (λ later j u. Grows own later)) (grows_same own lock)
  dropped_meets (h ∷ hs) pairs [] own i lock = meets_return (MayAsk w) (MindsAll Of w.run) own i tt (okay (λ later j u. Grows own later)) (grows_same own lock)
  dropped_meets (h ∷ hs) pairs (None ∷ ends) own i lock = meets_on (MayAsk w) (MindsAll Of w.run) own i tt (λ u. dropped p hs ends) (okay (λ later j u. Grows own later)) (dropped_meets hs pairs.1 ends own i lock)
  dropped_meets (h ∷ hs) pairs (Some m ∷ ends) own i lock =
      meets_then (MayAsk w) (MindsAll Of w.run) own i (removed p (held_name h)) (λ u. dropped p hs ends) (λ later j u. Grows own later) (λ later j u. Grows own later) (drop_meets h pairs.0 own i lock)
      (λ later j u f. meets_okay (MayAsk w) (MindsAll Of w.run) later j (dropped p hs ends) (λ last k v. Grows later last) (λ last k v. Grows own last) (λ last k v g. grows_then own later last f g) (dropped_meets hs pairs.1 ends later j f.lock))

  -- the folder is made safe
  pub synced_grows : (own : List Deed) (i : Hand) (n : List ℕ) → HasLock p own → M own i (synced p n) (okay (λ later j u. Grows own later))
  unfolding synced
  synced_grows own i n lock =
      meets_sync_folder (MayAsk w) (MindsAll Of w.run) own i of_stop (okay (λ later j u. Grows own later)) p (held_to p n)
      (λ may. (
        look_minds Of w.run own (step.SyncFolder p) tt,
        meets_return (MayAsk w) (MindsAll Of w.run) (did (step.SyncFolder p) answer.Done ∷ own) i tt (okay (λ later j u. Grows own later)) (grows_synced own may lock),
        meets_end (MayAsk w) (MindsAll Of w.run) (did (step.SyncFolder p) answer.Gone ∷ own) i (fault.Meddled p n) (λ later j u. Grows own later),
      ))

  for_good_meets : (hs : List HeldPair) → ArePairs hs → (ends : List (Option ℕ)) (m : ℕ) (own : List Deed) (i : Hand) → HasLock p own → M own i (dropped_for_good p hs ends m) (okay (λ later j u. Grows own later))
  unfolding dropped_for_good
  for_good_meets hs pairs ends m own i lock =
      meets_then (MayAsk w) (MindsAll Of w.run) own i (dropped p hs ends) (λ u. synced_at p m) (λ later j u. Grows own later) (λ later j u. Grows own later) (dropped_meets hs pairs ends own i lock)
      (λ later j u f. meets_okay (MayAsk w) (MindsAll Of w.run) later j (synced_at p m) (λ last k v. Grows later last) (λ last k v. Grows own last) (λ last k v g. grows_then own later last f g) (synced_grows later j (decimal m) f.lock))

  safely_meets : (hs : List HeldPair) → ArePairs hs → (ends : List (Option ℕ)) (m : ℕ) (own : List Deed) (i : Hand) → HasLock p own → M own i (dropped_safely p hs ends m) (okay (λ later j all. Grows own later × (all ≡ ends)))
  unfolding dropped_safely
  safely_meets hs pairs ends m own i lock =
      meets_then (MayAsk w) (MindsAll Of w.run) own i (synced_at p m) (λ u. dropped_for_good p hs ends m >>= (λ u. Return (Ok ends))) (λ later j u. Grows own later) (λ later j all. Grows own later × (all ≡ ends)) (synced_grows own i (decimal m) lock)
      (λ later j u f.
      meets_then (MayAsk w) (MindsAll Of w.run) later j (dropped_for_good p hs ends m) (λ u. Return (Ok ends)) (λ last k v. Grows later last) (λ last k all. Grows own last × (all ≡ ends)) (for_good_meets hs pairs ends m later j f.lock)
      (λ last k v g. meets_return (MayAsk w) (MindsAll Of w.run) last k ends (okay (λ last k all. Grows own last × (all ≡ ends))) (grows_then own later last f g, refl)))

  settled_by_meets : (hs : List HeldPair) → ArePairs hs → (ends : List (Option ℕ)) (o : Option ℕ) (own : List Deed) (i : Hand) → HasLock p own → M own i (settled_by p hs ends o) (okay (λ later j all. Grows own later × (all ≡ ends)))
  settled_by_meets hs pairs ends None own i lock = meets_return (MayAsk w) (MindsAll Of w.run) own i ends (okay (λ later j all. Grows own later × (all ≡ ends))) (grows_same own lock, refl)
  settled_by_meets hs pairs ends (Some m) own i lock = safely_meets hs pairs ends m own i lock

  -- after settling
  pub record HasSettled (own : List Deed) (hs : List HeldPair) (top : ℕ) (later : List Deed) (ends : List (Option ℕ)) : Type 0 where
    pub grows : Grows own later
    pub tried : (z : List ℕ) (k : ℕ) → kind_of z ≡ Number k → are_tried hs ends top k ≡ true → Sees p z true later

  pub settle_meets : (hs : List HeldPair) → ArePairs hs → (top : ℕ) → top ≤ 999999 → (own : List Deed) (i : Hand) → HasLock p own → AbsentFrom (top + 1) own → M own i (settle p hs top) (okay (λ later j ends. HasSettled own hs top later ends))
  unfolding settle
  settle_meets hs pairs top low own i lock absent =
      meets_then (MayAsk w) (MindsAll Of w.run) own i (all_homed p hs top []) (λ ends. settled_by p hs ends (last_put ends None)) (AllHomes own hs top []) (λ later j ends. HasSettled own hs top later ends) (all_homed_meets hs pairs top low [] own i lock absent)
      (λ later j all f.
      meets_okay (MayAsk w) (MindsAll Of w.run) later j (settled_by p hs all (last_put all None)) (λ last k ends. Grows later last × (ends ≡ all)) (λ last k ends. HasSettled own hs top last ends)
      (λ last k ends g. record {
        grows = grows_then own later last f.grows g.0;
        tried = λ z n e t. g.0.there z (kind_numbered z n e) (f.tried z n e (subst (λ y. are_tried hs y top n ≡ true) (g.1 ∙ f.all_so) t));
      })
      (settled_by_meets hs pairs all (last_put all None) later j f.grows.lock))
