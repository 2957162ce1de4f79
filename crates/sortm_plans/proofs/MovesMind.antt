-- Messages that change places mind the marks of all sequences.
use Rattle.std.proofs.Common.{◌≡◌, ◌⊎◌, inl, inr, ◌<◌, ◌≤◌, ◌-◌, ◌^◌, ◌==◌, ◌&&◌, ◌||◌, ◌∷◌, [], ℕ, Bool, true, false, List, Option, Some, None, Ok, length, refl, sym, ◌∙◌, subst, arith}
use Rattle.std.specs.Prelude.{IfSome, if◌then◌else◌, not}
use Rattle.std.specs.List.{list_any}
use Rattle.mh_base.specs.Entries.{kind_of}
use Rattle.mh_base.specs.Numbers.{IsMsgNum}
use Rattle.mh_base.specs.declared.entry.Entry.TheVariants.{Number}
use Rattle.mh_sequences.specs.Marks.{moved_cur, moved_to}
use Rattle.mh_sequences.specs.Runs.{AreRuns, has, set_of, last_in}
use Rattle.mh_sequences.specs.Sequences.{AreSequences, Marked, member}
use Rattle.mh_sequences.specs.declared.mark.Mark.TheVariants.{Move as Moves, Withdraw}
use Rattle.mh_sequences.specs.declared.run.Run.{Run}
use Rattle.folder_files.specs.Deeds.{Deed}
use Rattle.folder_files.specs.declared.place.Place.{Place}
use Rattle.folder_files.specs.declared.place.Place.TheVariants.{Folder, Mail}
use Rattle.folder_files.specs.declared.step.Step.{Step}
use Rattle.folder_files.proofs.Names.{both, not_both, num_same, or_case}
use Rattle.file_plans.specs.Plan.{Hand, Plan, Return, ◌>>=◌}
use Rattle.step_plans.specs.Pledges.{MayAsk, Pledge}
use Rattle.step_plans.proofs.Going.{Outcome, okay}
use Rattle.marks_law.specs.Minding.{Sees}
use Rattle.message_places.specs.Arranging.{arranged}
use Rattle.message_places.specs.Places.{AreMsgNums, froms, is_in, slots}
use Rattle.message_places.specs.declared.moves.Move.{Move}
use Rattle.message_places.proofs.NumberLists.{in_good, in_head, in_tail, num_turned}
use Rattle.message_places.proofs.PlacesMind.{HaveMoved, aside_begun, arranged_meets}
use Rattle.message_places.proofs.WithdrawnMarks.{AreWithdrawn, LetsMove, known_withdrawn, withdrawn_lets}
use Rattle.sequence_commits.specs.Committing.{changed_sequences}
use Rattle.sequence_commits.specs.RunsOfAll.{set_among}
use Rattle.sequence_commits.proofs.MarkedOnce.{marked_valid}
use Rattle.sequence_marks.proofs.OtherEntries.{by_bool}
use Rattle.opening_plans.specs.FolderPledge.{told_within}
use Rattle.opening_plans.specs.Opening.{opened_of}
use Rattle.step_plans.specs.declared.fault.PlanFault.{PlanFault}
use Rattle.opening_plans.proofs.AllMarks.{MindsAll}
use Rattle.opening_plans.proofs.ChosenListed.{marked_cur_is, marked_member, tested_has}
use Rattle.opening_plans.proofs.CommitMinds.{Facts, IsTold, Within, changed_meets}
use Rattle.opening_plans.proofs.Meeting.{Meets, meets_okay, meets_return, meets_then}
use Rattle.opening_plans.proofs.ToldMarks.{InListing, told_cur, told_listed, told_valid}
use Rattle.refile_plans.proofs.Meetings.{AnyAsk, meets_okay_both}
use Rattle.sortm_plans.specs.Marking.{gone_along, pairs_of}
use Rattle.sortm_plans.specs.Moving.{marked_moved, moved_if}
use Rattle.sortm_plans.proofs.MarksKnown.{KnowsMarks, changed_known}
use Rattle.refile_plans.proofs.Lasts.{last_small, none_above}
use Rattle.refile_plans.specs.Rmm.{withdrawn}

-- a mark that went along with a message stands where this ended
came_there : (ms : List Move) (ends : List ℕ) (old : ℕ → Bool) (n : ℕ) → list_any (λ p. n == p.to && old p.from) (pairs_of ms ends) ≡ true → is_in n ends ≡ true
came_there [] ends old n e = cc (e)
came_there (m ∷ ms) [] old n e = cc (e)
came_there (m ∷ ms) (k ∷ ends) old n e = elim (or_case (n == k && old m.from) (list_any (λ p. n == p.to && old p.from) (pairs_of ms ends)) e) [
  | inl f ↦ subst (λ z. is_in z (k ∷ ends) ≡ true) (sym (num_same n k (both (n == k) (old m.from) f).0)) (in_head k ends)
  | inr f ↦ in_tail k n ends (came_there ms ends old n f)
]

neither : (a b : Bool) → not (a || b) ≡ true → (a ≡ false) × (not b ≡ true)
neither true b e = cc (e)
neither false b e = (refl, e)

-- one that did not is none of those that moved
stayed_there : (ms : List Move) (ends : List ℕ) (n : ℕ) → length ms ≤ length ends → not (list_any (λ p. n == p.from) (pairs_of ms ends)) ≡ true → is_in n (froms ms) ≡ false
stayed_there [] ends n le e = refl
stayed_there (m ∷ ms) [] n le e = absurd (omega (arith, le))
stayed_there (m ∷ ms) (k ∷ ends) n le e =
    let f = neither (n == m.from) (list_any (λ p. n == p.from) (pairs_of ms ends)) e in rw (num_turned n m.from f.0) (stayed_there ms ends n (omega (arith, le)) f.1)

-- the current message is a message where it was one
moved_good : (ms : List Move) (ends : List ℕ) → ((e : ℕ) → is_in e ends ≡ true → IsMsgNum e) → (n : ℕ) → IsMsgNum n → IsMsgNum (moved_to (pairs_of ms ends) n)
moved_good [] ends good n one = one
moved_good (m ∷ ms) [] good n one = one
moved_good (m ∷ ms) (k ∷ ends) good n one = go (n == m.from) (moved_good ms ends (λ e i. good e (in_tail k e ends i)) n one)
  where
    go : (b : Bool) → IsMsgNum (moved_to (pairs_of ms ends) n) → IsMsgNum (if b then k else moved_to (pairs_of ms ends) n)
    go true rest = good k (in_head k ends)
    go false rest = rest

moved_cur_good : (ms : List Move) (ends : List ℕ) → ((e : ℕ) → is_in e ends ≡ true → IsMsgNum e) → (cur : Option ℕ) → IfSome cur IsMsgNum → IfSome (moved_cur (pairs_of ms ends) cur) IsMsgNum
moved_cur_good ms ends good None one = tt
moved_cur_good ms ends good (Some n) one = moved_good ms ends good n one

module _ (w : Pledge) (few : w.run < 2 ^ 128) (path : List ℕ) (folder : List ℕ) where
  abbrev Of : List ℕ → Type 0
  Of other = IsTold folder other

  abbrev p : Place
  p = Folder path folder

  abbrev mail : Place
  mail = Mail path

  abbrev A : List Deed → Step → Type 0
  A own s = MindsAll Of w.run own s

  abbrev M : {R : Type 0} → List Deed → Hand → Plan R → Outcome R → Type 0
  M own h plan Q = Meets (MayAsk w) A own h plan Q

  -- the work on a folder that was begun
  module _ (names : List (List ℕ)) (listing : List Run) (runs : AreRuns listing) (text context : List ℕ) where
    abbrev told : Marked
    told = told_within listing text context folder

    valid : AreSequences told.users
    valid = told_valid listing text context folder

    cur : IfSome told.cur IsMsgNum
    cur = told_cur listing text context folder

    -- each listed number is there, and no other is marked
    abbrev pub Known : List Deed → Hand → Type 0
    Known own h = Facts w path folder names (InListing listing) own × KnowsMarks w path folder told own h

    abbrev pub None_ : List ℕ → Type 0
    None_ z = ⊥

    -- what is left once messages may have changed places
    abbrev pub Ready : Outcome Unit
    Ready later j u = Facts w path folder names None_ later

    abbrev pub ReadyAt : Outcome (List ℕ)
    ReadyAt later j ends = Facts w path folder names None_ later

    pub ready : (There : List ℕ → Type 0) (own : List Deed) → Facts w path folder names There own → Facts w path folder names None_ own
    ready There own f = (record { lock = f.0.lock; there = λ z so number. absurd so; held = f.0.held; listed = f.0.listed }, f.1)

    -- these messages change places, which take these numbers from all sequences
    module _ (ms : List Move) (takes : List ℕ) (ts : AreMsgNums takes) (fs : AreMsgNums (froms ms)) (ss : AreMsgNums (slots ms)) (same : (k : ℕ) → is_in k (froms ms) ≡ is_in k takes)
        (free_slot : (k : ℕ) → is_in k (slots ms) ≡ true → (is_in k takes ≡ true) ⊎ (has listing k ≡ false)) where
      abbrev Free : ℕ → Type 0
      Free n = (is_in n takes ≡ true) ⊎ (has listing n ≡ false)

      abbrev Stays : ℕ → Type 0
      Stays n = (has listing n ≡ true) × (is_in n takes ≡ false)

      pub no_free : (n : ℕ) → Stays n → Free n → ⊥
      no_free n stays (inl e) = not_both (is_in n takes) e stays.1
      no_free n stays (inr e) = not_both (has listing n) stays.0 e

      abbrev pub Staying : List ℕ → Type 0
      Staying z = (n : ℕ) × (kind_of z ≡ Number n) × Stays n

      staying : (own : List Deed) → Facts w path folder names (InListing listing) own → Facts w path folder names Staying own
      staying own f = (record { lock = f.0.lock; there = λ z so number. f.0.there z (so.0, so.1, so.2.0) number; held = f.0.held; listed = f.0.listed }, f.1)

      -- the sequences without them
      abbrev pub less : Marked
      less = withdrawn takes told

      less_member : (sequence : List ℕ) (n : ℕ) → member less.users sequence n ≡ true → Stays n
      less_member sequence n e =
          let parts = both (member told.users sequence n) (not (has (set_among takes) n)) (marked_member (Withdraw (set_of (set_among takes) 0)) told sequence n e) in
          (told_listed listing text context folder sequence n parts.0, by_bool (is_in n takes) (λ i. absurd (negated (has (set_among takes) n) (tested_has (λ k. list_any (λ m. m == k) takes) n (in_good takes ts n i) i) parts.1)) (λ i. i))
        where
          negated : (b : Bool) → b ≡ true → not b ≡ true → ⊥
          negated true i off = cc (off)
          negated false i off = cc (i)

      less_valid : AreSequences less.users
      less_valid = marked_valid (Withdraw (set_of (set_among takes) 0)) told

      less_cur : IfSome less.cur IsMsgNum
      less_cur = subst (λ z. IfSome z IsMsgNum) (sym (marked_cur_is (Withdraw (set_of (set_among takes) 0)) told)) cur

      less_within : Within Staying less
      less_within z n sequence kind e = (n, kind, less_member sequence n e)

      -- they leave all sequences
      abbrev pub Withdrawn : Outcome Unit
      Withdrawn later j u = Facts w path folder names Staying later × KnowsMarks w path folder less later j

      pub withdrawn_meets : (own : List Deed) (h : Hand) → Known own h → M own h (changed_sequences w.run p mail folder told less) (okay Withdrawn)
      withdrawn_meets own h f =
          meets_okay_both (MayAsk w) A AnyAsk own h (changed_sequences w.run p mail folder told less) (λ later j u. Facts w path folder names Staying later) (λ later j u. KnowsMarks w path folder less later j)
          (changed_meets w path folder names Staying less less_valid less_cur less_within own h told (staying own f.0)) (changed_known w path folder told less valid less_valid cur less_cur own h f.1)

      abbrev Unmarked : List Deed → Type 0
      Unmarked own = AreWithdrawn w.run path folder Free own

      -- then the run knows of each number that no sequence marks it, or it is there
      pub are_withdrawn : (own : List Deed) (h : Hand) → Facts w path folder names Staying own → KnowsMarks w path folder less own h → Unmarked own
      are_withdrawn own h f k = record {
        public = λ sequence. known_withdrawn w.run path folder sequence Free own k.text k.base (λ n free. by_bool _ (λ t. absurd (no_free n (less_member sequence n (k.marks sequence n t)) free)) (λ e. e)) (λ z n kind t. there z n kind (less_member sequence n (k.marks sequence n t)));
        private = λ sequence. record {
          free = λ n free. (k.frees sequence n (by_bool (member less.users sequence n) (λ t. absurd (no_free n (less_member sequence n t) free)) (λ e. e)), f.1 sequence);
          there = λ z n kind. by_bool (member less.users sequence n) (λ t. inr (there z n kind (less_member sequence n t))) (λ e. inl (k.frees sequence n e, f.1 sequence));
        };
      }
        where
          there : (z : List ℕ) (n : ℕ) → kind_of z ≡ Number n → Stays n → Sees p z true own
          there z n kind stays = f.0.there z (n, kind, stays) (rw kind refl)

      abbrev lets : LetsMove Of w.run path folder takes Free Unmarked
      lets = withdrawn_lets w.run few path folder takes Free Of

      abbrev pub Moved : Outcome (List ℕ)
      Moved later j ends = HaveMoved Of w few path folder names takes ts Free Stays no_free Unmarked lets ms later ends

      pub moving_meets : (own : List Deed) (h : Hand) → Facts w path folder names Staying own → Unmarked own → M own h (arranged w.run p takes ms (last_in listing)) (okay Moved)
      moving_meets own h f k =
          arranged_meets Of w few path folder names takes ts Free Stays no_free Unmarked lets ms fs ss same (λ n e. inl e) free_slot (last_in listing) (last_small listing runs) (λ n lt. inr (none_above listing runs n lt)) own h
          (aside_begun Of w few path folder names takes ts Free Stays no_free Unmarked lets own f k)

      -- their marks come back where they ended
      module _ (ends : List ℕ) (own : List Deed) (h : Hand) (f : HaveMoved Of w few path folder names takes ts Free Stays no_free Unmarked lets ms own ends) where
        abbrev again : Marked
        again = gone_along ms ends told

        abbrev There : List ℕ → Type 0
        There z = (n : ℕ) × (kind_of z ≡ Number n) × (Stays n ⊎ (is_in n ends ≡ true))

        again_within : Within There again
        again_within z n sequence kind e = (
          n,
          kind,
          elim (or_case (list_any (λ q. n == q.to && member told.users sequence q.from) (pairs_of ms ends)) (member told.users sequence n && not (list_any (λ q. n == q.from) (pairs_of ms ends))) (marked_member (Moves (pairs_of ms ends)) told sequence n e)) [
            | inl came ↦ inr (came_there ms ends (member told.users sequence) n came)
            | inr was ↦ (let parts = both (member told.users sequence n) (not (list_any (λ q. n == q.from) (pairs_of ms ends))) was in
                inl (told_listed listing text context folder sequence n parts.0, sym (same n) ∙ stayed_there ms ends n f.each parts.1))
          ],
        )

        again_cur : IfSome again.cur IsMsgNum
        again_cur = subst (λ z. IfSome z IsMsgNum) (sym (marked_cur_is (Moves (pairs_of ms ends)) told)) (moved_cur_good ms ends f.numbers told.cur cur)

        pub restored_meets : M own h (changed_sequences w.run p mail folder less again) (okay Ready)
        restored_meets =
            meets_okay (MayAsk w) A own h (changed_sequences w.run p mail folder less again) (λ later j u. Facts w path folder names There later) Ready (λ later j u g. ready There later g)
            (changed_meets w path folder names There again (marked_valid (Moves (pairs_of ms ends)) told) again_cur again_within own h less f.facts)

      -- the whole stage
      pub marked_meets : (ends_ : List (Option ℕ)) (own : List Deed) (h : Hand) → Known own h → M own h (marked_moved w.run mail (opened_of p folder listing told ends_) takes ms) (okay ReadyAt)
      unfolding marked_moved
      marked_meets ends_ own h f =
          meets_then (MayAsk w) A own h (changed_sequences w.run p mail folder told less) (λ free. arranged w.run p takes ms (last_in listing) >>= (λ ends. changed_sequences w.run p mail folder less (gone_along ms ends told) >>= (λ back. Return (Ok ends)))) Withdrawn ReadyAt (withdrawn_meets own h f)
          (λ later j u g.
          meets_then (MayAsk w) A later j (arranged w.run p takes ms (last_in listing)) (λ ends. changed_sequences w.run p mail folder less (gone_along ms ends told) >>= (λ back. Return (Ok ends))) Moved ReadyAt (moving_meets later j g.0 (are_withdrawn later j g.0 g.1))
          (λ last i ends k.
          meets_then (MayAsk w) A last i (changed_sequences w.run p mail folder less (gone_along ms ends told)) (λ back. Return (Ok ends)) Ready ReadyAt (restored_meets ends last i k) (λ end l u q. meets_return (MayAsk w) A end l ends (okay ReadyAt) q)))

    -- also where none moves
    pub moved_meets : (ms : List Move) (takes : List ℕ) → AreMsgNums takes → AreMsgNums (froms ms) → AreMsgNums (slots ms) → ((k : ℕ) → is_in k (froms ms) ≡ is_in k takes)
        → ((k : ℕ) → is_in k (slots ms) ≡ true → (is_in k takes ≡ true) ⊎ (has listing k ≡ false)) → (ends_ : List (Option ℕ)) (own : List Deed) (h : Hand) → Known own h
        → M own h (moved_if w.run mail (opened_of p folder listing told ends_) takes ms) (okay ReadyAt)
    moved_meets [] takes ts fs ss same free_slot ends_ own h f = meets_return (MayAsk w) A {E = PlanFault} own h [] (okay ReadyAt) (ready (InListing listing) own f.0)
    moved_meets (m ∷ ms) takes ts fs ss same free_slot ends_ own h f = marked_meets (m ∷ ms) takes ts fs ss same free_slot ends_ own h f
