-- Messages of a folder change places: each step minds all marks, and each message stands where it ended then.
use Rattle.std.proofs.Common.{◌≡◌, ◌⊎◌, inl, inr, ◌+◌, ◌-◌, ◌<◌, ◌≤◌, ◌^◌, ◌++◌, ◌==◌, ◌∷◌, [], max, ℕ, zero, suc, Bool, true, false, List, Option, Some, None, Ok, refl, sym, ◌∙◌, ap, subst, arith, bytes_eq, length}
use Rattle.std.specs.Prelude.{decimal}
use Rattle.std.specs.List.{last_or}
use Rattle.std.proofs.lemmas.List.{length_push}
use Rattle.mh_base.specs.Entries.{kind_of}
use Rattle.mh_base.specs.Numbers.{IsMsgNum}
use Rattle.mh_base.specs.declared.entry.Entry.TheVariants.{Number}
use Rattle.folder_files.specs.Careful.{HasLock}
use Rattle.folder_files.specs.Deeds.{Deed, WasDone, did, now, on, still}
use Rattle.folder_files.specs.Named.{is_held}
use Rattle.folder_files.specs.Steps.{has_text}
use Rattle.folder_files.specs.declared.place.Place.{Place}
use Rattle.folder_files.specs.declared.place.Place.TheVariants.{Folder}
use Rattle.folder_files.specs.declared.step.Answer.{Answer}
use Rattle.folder_files.specs.declared.step.Answer.TheVariants as answer
use Rattle.folder_files.specs.declared.step.Step.{Step}
use Rattle.folder_files.specs.declared.step.Step.TheVariants as step
use Rattle.folder_files.proofs.Names.{bytes_self, bytes_true, num_apart, num_same, number_text, or_case, or_left, or_last}
use Rattle.file_plans.specs.Framing.{AsksOnly}
use Rattle.file_plans.specs.Plan.{Hand, Plan, Return, ◌>>=◌}
use Rattle.file_plans.proofs.Framing.{asks_none, asks_then}
use Rattle.file_plans.proofs.Showing.{number_kind}
use Rattle.step_plans.specs.ContextCommit.{context_name}
use Rattle.step_plans.specs.Locking.{removed}
use Rattle.step_plans.specs.PlanFaults.{of_stop}
use Rattle.step_plans.specs.Pledges.{MayAsk, Pledge}
use Rattle.step_plans.specs.Replacing.{held_to, synced}
use Rattle.step_plans.specs.declared.fault.PlanFault.TheVariants as fault
use Rattle.step_plans.proofs.Going.{Outcome, okay}
use Rattle.step_plans.proofs.Past.{did_step}
use Rattle.marks_law.specs.Apart as apart
use Rattle.marks_law.specs.Minding.{Sees, linked, met, unlinked}
use Rattle.marks_law.specs.Minding as minding
use Rattle.held_messages.specs.Settle.{given_at, given_from, given_up, homed_name, synced_at}
use Rattle.message_puts.specs.Putting.{number_got}
use Rattle.message_moves.specs.Moving.{number_taken}
use Rattle.message_moves.proofs.MoveAsks.{asks_taken}
use Rattle.opening_plans.proofs.AllMarks.{MindsAll}
use Rattle.opening_plans.proofs.CommitMinds.{Facts, Steady}
use Rattle.opening_plans.proofs.CommitSeen.{Synced}
use Rattle.opening_plans.proofs.FolderSeen.{WasListed}
use Rattle.opening_plans.proofs.Meeting.{Meets, meets_end, meets_link, meets_okay, meets_quietly, meets_return, meets_sync_folder, meets_then, meets_unlink}
use Rattle.message_places.specs.Arranging.{all_dropped, all_given, all_taken, arranged, aside_name, dropped_for_good, dropped_safely, given, let_go_after, let_go_by}
use Rattle.message_places.specs.Places.{AreMsgNums, froms, is_in, slots}
use Rattle.message_places.specs.declared.moves.Move.{Move}
use Rattle.message_places.proofs.ArrangedGiven.{last_none}
use Rattle.message_places.proofs.ArrangedPledged.{dropping, giving}
use Rattle.message_places.proofs.AsideNames.{name_found, names_one}
use Rattle.message_places.proofs.NumberLists.{in_head, in_tail}
use Rattle.message_places.proofs.WithdrawnMarks.{LetsMove, MovesSo, aside_apart, by_drop, by_give, by_sync, by_take, moves_stay, no_context, others_stay, others_untouched, untouched}

in_push : (e k : ℕ) (ns : List ℕ) → is_in e (ns ++ k ∷ []) ≡ true → (is_in e ns ≡ true) ⊎ (k ≡ e)
in_push e k [] i = elim (or_case (k == e) false i) [ inl f ↦ inr (num_same k e f) | inr f ↦ cc (f) ]
in_push e k (n ∷ ns) i = elim (or_case (n == e) (is_in e (ns ++ k ∷ [])) i) [
  | inl f ↦ inl (or_left (n == e) (is_in e ns) f)
  | inr f ↦ elim (in_push e k ns f) [ inl g ↦ inl (or_last (n == e) (is_in e ns) g) | inr g ↦ inr g ]
]

-- The folders whose private marks are minded; the pledge; the folder and its listed names; the messages that move; the numbers that are free for
-- them; the numbers that stay, none of which is free; and what is known of the marks.
module _ (Of : List ℕ → Type 0) (w : Pledge) (few : w.run < 2 ^ 128) (path name : List ℕ) (names : List (List ℕ)) (takes : List ℕ) (ok : AreMsgNums takes) (Free : ℕ → Type 0) (Stays : ℕ → Type 0) (apart_ : (j : ℕ) → Stays j → Free j → ⊥) (Known : List Deed → Type 0) (lets : LetsMove Of w.run path name takes Free Known) where
  abbrev p : Place
  p = Folder path name

  abbrev aside : ℕ → List ℕ
  aside n = aside_name w.run n

  abbrev A : List Deed → Step → Type 0
  A own s = MindsAll Of w.run own s

  abbrev M : {R : Type 0} → List Deed → Hand → Plan R → Outcome R → Type 0
  M own h plan Q = Meets (MayAsk w) A own h plan Q

  abbrev Moves : Step → Type 0
  Moves s = MovesSo w.run p takes Free s

  -- the name is of such a number
  abbrev pub IsOf : (ℕ → Type 0) → List ℕ → Type 0
  IsOf There z = (j : ℕ) × (kind_of z ≡ Number j) × There j

  -- what is known of the folder all along: the messages that stay are there; of the held names only those of the moves may be
  pub record Aside (own : List Deed) : Type 0 where
    pub lock : HasLock p own
    pub there : (z : List ℕ) → IsOf Stays z → Sees p z true own
    pub others : (x : List ℕ) → is_held (kind_of x) ≡ true → names_one w.run takes x ≡ false → (has_text x names ≡ true → WasDone (step.Unlink p x) own) → Sees p x false own
    pub listed : WasListed p names own
    pub synced : Synced path name own
    pub marks : Known own

  -- so it is in a folder that was begun
  pub aside_begun : (own : List Deed) → Facts w path name names (IsOf Stays) own → Known own → Aside own
  aside_begun own f marks = record {
    lock = f.0.lock;
    there = λ z so. f.0.there z so (rw so.1 refl);
    others = λ x held off gone. f.0.held x held gone;
    listed = f.0.listed;
    synced = f.1;
    marks = marks;
  }

  aside_kept : (own : List Deed) (s : Step) (a : Answer) → MayAsk w own s → Moves s → Aside own → Aside (did s a ∷ own)
  aside_kept own s a may m f = record {
    lock = still (moves_stay w.run few path name takes Free s m) f.lock;
    there = λ z so. minding.on (moves_stay w.run few path name takes Free s m) (untouched w.run few path name takes Free z so.0 so.1 (apart_ so.0 so.2) s m) (f.there z so);
    others = λ x held off gone. minding.on (moves_stay w.run few path name takes Free s m) (others_untouched w.run few path name takes Free x held off s m) (f.others x held off (λ listed. before x off (gone listed)));
    listed = on f.listed;
    synced = λ sequence. apart.on (moves_stay w.run few path name takes Free s m) (λ temp. no_context w.run few path name takes Free s m temp context_name) (f.synced sequence);
    marks = lets.kept own s a m f.marks;
  }
    where
      before : (x : List ℕ) → names_one w.run takes x ≡ false → WasDone (step.Unlink p x) (did s a ∷ own) → WasDone (step.Unlink p x) own
      before x off (now e) = absurd (others_stay w.run few path name takes Free x off s m (did_step e))
      before x off (on g) = g

  minds_so : (own : List Deed) (s : Step) → MayAsk w own s → Moves s → Aside own → A own s
  minds_so own s may m f = lets.minds own s m f.marks

  -- these numbers are there
  abbrev AllSeen : List ℕ → List Deed → Type 0
  AllSeen ends own = (e : ℕ) → is_in e ends ≡ true → IsMsgNum e × Sees p (decimal e) true own

  abbrev Know : List ℕ → List Deed → Type 0
  Know ends own = Aside own × AllSeen ends own

  -- a number that was given, or met, is there
  module _ (n k : ℕ) (one : IsMsgNum n) (is : is_in n takes ≡ true) (good : IsMsgNum k) (free : Free k) where
    abbrev gave : Answer → List Deed → List Deed
    gave a own = did (giving w.run p n k) a ∷ own

    abbrev Enters : Answer → Type 0
    Enters a = (own : List Deed) → HasLock p own → Sees p (decimal k) true (gave a own)

    done_enters : Enters answer.Done
    done_enters own lock = linked refl lock

    met_enters : Enters answer.Exists
    met_enters own lock = met refl lock

    seen_on : (ends : List ℕ) (a : Answer) (own : List Deed) → Enters a → HasLock p own → AllSeen ends own → AllSeen ends (gave a own)
    seen_on ends a own enters lock f e i = ((f e i).0, go (k == e) refl)
      where
        other : (k == e) ≡ false → decimal k ≡ decimal e → ⊥
        other off same = num_apart k e off (let kinds : Number k ≡ Number e = sym (number_kind k good) ∙ (ap kind_of same ∙ number_kind e (f e i).0) in cc (kinds))

        go : (b : Bool) → (k == e) ≡ b → Sees p (decimal e) true (gave a own)
        go true q = subst (λ z. Sees p (decimal z) true (gave a own)) (num_same k e q) (enters own lock)
        go false q = minding.on (λ u. cc (u)) (λ t. other q t.1) (f e i).1

    seen_more : (ends : List ℕ) (own : List Deed) → HasLock p own → AllSeen ends own → AllSeen (ends ++ k ∷ []) (gave answer.Done own)
    seen_more ends own lock f e i = elim (in_push e k ends i) [
      | inl g ↦ seen_on ends answer.Done own done_enters lock f e g
      | inr g ↦ (subst IsMsgNum g good, subst (λ z. Sees p (decimal z) true (gave answer.Done own)) g (done_enters own lock))
    ]

    gave_aside : (own : List Deed) (a : Answer) → MayAsk w own (giving w.run p n k) → Aside own → Aside (gave a own)
    gave_aside own a may f = aside_kept own (giving w.run p n k) a may (by_give one is good free) f

  -- all are held aside
  asks_takes : (ns : List ℕ) → AreMsgNums ns → ((k : ℕ) → is_in k ns ≡ true → is_in k takes ≡ true) → ((k : ℕ) → is_in k takes ≡ true → Free k) → AsksOnly Moves (all_taken w.run p ns)
  unfolding all_taken
  asks_takes [] good sub frees = asks_none Moves (Ok tt)
  asks_takes (n ∷ ns) good sub frees =
      asks_then Moves (number_taken w.run p n) (λ held. all_taken w.run p ns) (asks_taken Moves w.run p n (by_take good.0 (sub n (in_head n ns)) (frees n (sub n (in_head n ns)))))
      (λ held. asks_takes ns good.1 (λ k e. sub k (in_tail n k ns e)) frees)

  -- one is given a number
  module _ (n : ℕ) (one : IsMsgNum n) (is : is_in n takes ≡ true) (ends : List ℕ) where
    abbrev Some_ : Outcome (Option ℕ)
    Some_ later j None = Know ends later
    Some_ later j (Some k) = IsMsgNum k × Know (ends ++ k ∷ []) later

    up_meets : (left k : ℕ) (own : List Deed) (h : Hand) → (1 ≤ k) × (k + left ≤ 1000000) → ((e : ℕ) → k ≤ e → Free e) → Know ends own → M own h (given_up p (aside n) k left) (okay Some_)
    unfolding given_up
    up_meets zero k own h low frees f = meets_return (MayAsk w) A own h None (okay Some_) f
    up_meets (suc left) k own h low frees f =
        meets_link (MayAsk w) A own h of_stop (okay Some_) p (aside n) (decimal k) (λ e. given_at p (aside n) k e (given_up p (aside n) (k + 1) left))
        (λ may. (
          minds_so own (giving w.run p n k) may (by_give one is good free) f.0,
          meets_return (MayAsk w) A (did (giving w.run p n k) answer.Done ∷ own) h (Some k) (okay Some_) (good, (gave_aside n k one is good free own answer.Done may f.0, seen_more n k one is good free ends own f.0.lock f.1)),
          up_meets left (k + 1) (did (giving w.run p n k) answer.Exists ∷ own) h (omega arith, (let l = low.1 in omega (arith, l))) (λ e le. frees e (omega (arith, le)))
              (gave_aside n k one is good free own answer.Exists may f.0, seen_on n k one is good free ends answer.Exists own (met_enters n k one is good free) f.0.lock f.1),
          meets_end (MayAsk w) A (did (giving w.run p n k) answer.Gone ∷ own) h (fault.Meddled p (aside n)) Some_,
        ))
      where
        good : IsMsgNum k
        good = (low.0, (let l = low.1 in omega (arith, l)))

        free : Free k
        free = frees k (omega arith)

    slot_meets : (slot top : ℕ) → IsMsgNum slot → Free slot → top ≤ 999999 → ((e : ℕ) → top < e → Free e) → (own : List Deed) (h : Hand) → Know ends own → M own h (homed_name p (aside n) slot top) (okay Some_)
    slot_meets slot top good free small frees own h f =
        meets_link (MayAsk w) A own h of_stop (okay Some_) p (aside n) (decimal slot) (λ e. given_at p (aside n) slot e (given_from p (aside n) (max slot top + 1)))
        (λ may. (
          minds_so own (giving w.run p n slot) may (by_give one is good free) f.0,
          meets_return (MayAsk w) A (did (giving w.run p n slot) answer.Done ∷ own) h (Some slot) (okay Some_) (good, (gave_aside n slot one is good free own answer.Done may f.0, seen_more n slot one is good free ends own f.0.lock f.1)),
          up_meets (1000000 - (max slot top + 1)) (max slot top + 1) (did (giving w.run p n slot) answer.Exists ∷ own) h (omega arith, (let l = good.1 in omega (arith, l, small))) (λ e le. frees e (omega (arith, le)))
              (gave_aside n slot one is good free own answer.Exists may f.0, seen_on n slot one is good free ends answer.Exists own (met_enters n slot one is good free) f.0.lock f.1),
          meets_end (MayAsk w) A (did (giving w.run p n slot) answer.Gone ∷ own) h (fault.Meddled p (aside n)) Some_,
        ))

    abbrev One_ : Outcome ℕ
    One_ later j k = IsMsgNum k × Know (ends ++ k ∷ []) later

    given_meets : (slot top : ℕ) → IsMsgNum slot → Free slot → top ≤ 999999 → ((e : ℕ) → top < e → Free e) → (own : List Deed) (h : Hand) → Know ends own → M own h (given w.run p (record { from = n; slot = slot }) top) (okay One_)
    unfolding given
    given_meets slot top good free small frees own h f =
        meets_then (MayAsk w) A own h (homed_name p (aside n) slot top) number_got Some_ One_ (slot_meets slot top good free small frees own h f) got
      where
        got : (later : List Deed) (j : Hand) (end : Option ℕ) → Some_ later j end → M later j (number_got end) (okay One_)
        got later j None g = meets_end (MayAsk w) A later j fault.Full One_
        got later j (Some k) g = meets_return (MayAsk w) A later j k (okay One_) g

  -- each is, behind those before
  abbrev Ends : ℕ → Outcome (List ℕ)
  Ends least later j all = Know all later × (least ≤ length all)

  slots_meet : (ms : List Move) → AreMsgNums (froms ms) → AreMsgNums (slots ms) → ((k : ℕ) → is_in k (froms ms) ≡ true → is_in k takes ≡ true) → ((k : ℕ) → is_in k (slots ms) ≡ true → Free k) → (top : ℕ) → top ≤ 999999 → ((e : ℕ) → top < e → Free e)
      → (before : List ℕ) (own : List Deed) (h : Hand) → Know before own → M own h (all_given w.run p ms top before) (okay (Ends (length before + length ms)))
  unfolding all_given
  slots_meet [] fs ss sub frees top small above before own h f = meets_return (MayAsk w) A own h before (okay (Ends (length before + 0))) (f, omega arith)
  slots_meet (m ∷ ms) fs ss sub frees top small above before own h f =
      meets_then (MayAsk w) A own h (given w.run p m top) (λ end. all_given w.run p ms (max end top) (before ++ end ∷ [])) (One_ m.from fs.0 is before) (Ends (length before + suc (length ms)))
      (given_meets m.from fs.0 is before m.slot top ss.0 (frees m.slot (in_head m.slot (slots ms))) small above own h f)
      (λ later j k g.
      meets_okay (MayAsk w) A later j (all_given w.run p ms (max k top) (before ++ k ∷ [])) (Ends (length (before ++ k ∷ []) + length ms)) (Ends (length before + suc (length ms)))
      (λ last i all q. (q.0, (let more = length_push before k in let l = q.1 in omega (arith, more, l))))
      (slots_meet ms fs.1 ss.1 (λ e i. sub e (in_tail m.from e (froms ms) i)) (λ e i. frees e (in_tail m.slot e (slots ms) i)) (max k top) (let l = g.0.1 in omega (arith, l, small)) (λ e lt. above e (omega (arith, lt))) (before ++ k ∷ []) later j g.1))
    where
      is : is_in m.from takes ≡ true
      is = sub m.from (in_head m.from (froms ms))

  -- these held names are gone
  abbrev Gone : List ℕ → List Deed → Type 0
  Gone gs own = (n : ℕ) → is_in n gs ≡ true → IsMsgNum n × Sees p (aside n) false own

  gone_more : (m : ℕ) → IsMsgNum m → (gs : List ℕ) (own : List Deed) → HasLock p own → Gone gs own → Gone (m ∷ gs) (did (dropping w.run p m) answer.Done ∷ own)
  gone_more m one gs own lock f n i = go (bytes_eq (aside m) (aside n)) refl (or_case (m == n) (is_in n gs) i)
    where
      good : (m == n ≡ true) ⊎ (is_in n gs ≡ true) → IsMsgNum n
      good (inl e) = subst IsMsgNum (num_same m n e) one
      good (inr e) = (f n e).0

      later_ : List Deed
      later_ = did (dropping w.run p m) answer.Done ∷ own

      differ : bytes_eq (aside m) (aside n) ≡ false → aside m ≡ aside n → ⊥
      differ off e = not_self (subst (λ z. bytes_eq (aside m) z ≡ false) (sym e) off)
        where
          not_self : bytes_eq (aside m) (aside m) ≡ false → ⊥
          not_self q = cc (sym (bytes_self (aside m)) ∙ q)

      go : (b : Bool) → bytes_eq (aside m) (aside n) ≡ b → (m == n ≡ true) ⊎ (is_in n gs ≡ true) → IsMsgNum n × Sees p (aside n) false later_
      go true e c = (good c, subst (λ z. Sees p z false later_) (bytes_true (aside m) (aside n) e) (unlinked refl lock))
      go false e (inl q) = absurd (differ e (ap aside (num_same m n q)))
      go false e (inr q) = ((f n q).0, minding.on (λ u. cc (u)) (λ t. differ e t.1) (f n q).1)

  seen_still : (ends : List ℕ) (own : List Deed) (m : ℕ) → IsMsgNum m → (a : Answer) → AllSeen ends own → AllSeen ends (did (dropping w.run p m) a ∷ own)
  seen_still ends own m one a f e i = let g = f e i in (g.0, minding.on (λ u. cc (u)) (λ t. aside_apart w.run few path name takes Free m one (decimal e) e (number_kind e g.0) t.1) g.1)

  abbrev Dropped : List ℕ → List ℕ → List ℕ → Outcome Unit
  Dropped ends ks gs later j u = Know ends later × ((n : ℕ) → (is_in n ks ≡ true) ⊎ (is_in n gs ≡ true) → IsMsgNum n × Sees p (aside n) false later)

  drops_meet : (ends : List ℕ) (ms : List Move) → AreMsgNums (froms ms) → ((k : ℕ) → is_in k (froms ms) ≡ true → is_in k takes ≡ true) → (gs : List ℕ) (own : List Deed) (h : Hand) → Know ends own → Gone gs own
      → M own h (all_dropped w.run p ms) (okay (Dropped ends (froms ms) gs))
  unfolding all_dropped removed
  drops_meet ends [] fs sub gs own h f gone = meets_return (MayAsk w) A own h tt (okay (Dropped ends [] gs)) (f, λ n c. elim c [ inl e ↦ cc (e) | inr e ↦ gone n e ])
  drops_meet ends (m ∷ ms) fs sub gs own h f gone =
      meets_then (MayAsk w) A own h (removed p (aside m.from)) (λ u. all_dropped w.run p ms) (λ later j u. Know ends later × Gone (m.from ∷ gs) later) (Dropped ends (froms (m ∷ ms)) gs)
      (meets_unlink (MayAsk w) A own h of_stop (okay (λ later j u. Know ends later × Gone (m.from ∷ gs) later)) p (aside m.from) (held_to p (aside m.from))
      (λ may. (
        minds_so own (dropping w.run p m.from) may (by_drop fs.0 is) f.0,
        meets_return (MayAsk w) A (did (dropping w.run p m.from) answer.Done ∷ own) h tt (okay (λ later j u. Know ends later × Gone (m.from ∷ gs) later))
            ((aside_kept own (dropping w.run p m.from) answer.Done may (by_drop fs.0 is) f.0, seen_still ends own m.from fs.0 answer.Done f.1), gone_more m.from fs.0 gs own f.0.lock gone),
        meets_end (MayAsk w) A (did (dropping w.run p m.from) answer.Gone ∷ own) h (fault.Meddled p (aside m.from)) (λ later j u. Know ends later × Gone (m.from ∷ gs) later),
      )))
      (λ later j u g.
      meets_okay (MayAsk w) A later j (all_dropped w.run p ms) (Dropped ends (froms ms) (m.from ∷ gs)) (Dropped ends (froms (m ∷ ms)) gs) (λ last i v q. (q.0, λ n c. q.1 n (turned n c)))
      (drops_meet ends ms fs.1 (λ k e. sub k (in_tail m.from k (froms ms) e)) (m.from ∷ gs) later j g.0 g.1))
    where
      is : is_in m.from takes ≡ true
      is = sub m.from (in_head m.from (froms ms))

      turned : (n : ℕ) → (is_in n (froms (m ∷ ms)) ≡ true) ⊎ (is_in n gs ≡ true) → (is_in n (froms ms) ≡ true) ⊎ (is_in n (m.from ∷ gs) ≡ true)
      turned n (inl e) = elim (or_case (m.from == n) (is_in n (froms ms)) e) [ inl q ↦ inr (or_left (m.from == n) (is_in n gs) q) | inr q ↦ inl q ]
      turned n (inr e) = inr (in_tail m.from n gs e)

  -- the place is made safe
  synced_meets : (F G : List Deed → Type 0) → ((own : List Deed) → MayAsk w own (step.SyncFolder p) → F own → G (did (step.SyncFolder p) answer.Done ∷ own)) → ((own : List Deed) → F own → Aside own) → (k : ℕ) (own : List Deed) (h : Hand) → F own → M own h (synced_at p k) (okay (λ later j u. G later))
  unfolding synced
  synced_meets F G more knows k own h f =
      meets_sync_folder (MayAsk w) A own h of_stop (okay (λ later j u. G later)) p (held_to p (decimal k))
      (λ may. (
        minds_so own (step.SyncFolder p) may by_sync (knows own f),
        meets_return (MayAsk w) A (did (step.SyncFolder p) answer.Done ∷ own) h tt (okay (λ later j u. G later)) (more own may f),
        meets_end (MayAsk w) A (did (step.SyncFolder p) answer.Gone ∷ own) h (fault.Meddled p (decimal k)) (λ later j u. G later),
      ))

  know_synced : (ends : List ℕ) (own : List Deed) → MayAsk w own (step.SyncFolder p) → Know ends own → Know ends (did (step.SyncFolder p) answer.Done ∷ own)
  know_synced ends own may f = (aside_kept own (step.SyncFolder p) answer.Done may by_sync f.0, λ e i. ((f.1 e i).0, minding.on (λ u. cc (u)) (λ t. t) (f.1 e i).1))

  -- the number is there: of a message that stays, or of a move's end
  abbrev pub There : List ℕ → ℕ → Type 0
  There ends j = Stays j ⊎ (is_in j ends ≡ true)

  -- What is known once the messages changed places: those that stay are there, and each number where a move ended, of which there are no fewer than
  -- moves; no message is held aside; and where one moved the folder is steady.
  pub record HaveMoved (ms : List Move) (own : List Deed) (ends : List ℕ) : Type 0 where
    pub facts : Facts w path name names (IsOf (There ends)) own
    pub marks : Known own
    pub steady : (ms ≡ [] → ⊥) → Steady path name own
    pub numbers : (e : ℕ) → is_in e ends ≡ true → IsMsgNum e
    pub each : length ms ≤ length ends

  -- The moves are of just the messages that are taken; these numbers, their slots, and those above the highest are free for them.
  module _ (ms : List Move) (fs : AreMsgNums (froms ms)) (ss : AreMsgNums (slots ms)) (same : (k : ℕ) → is_in k (froms ms) ≡ is_in k takes) (frees_old : (k : ℕ) → is_in k takes ≡ true → Free k) (frees_slot : (k : ℕ) → is_in k (slots ms) ≡ true → Free k) where
    among : (k : ℕ) → is_in k (froms ms) ≡ true → is_in k takes ≡ true
    among k e = sym (same k) ∙ e

    all_gone : List Deed → Type 0
    all_gone own = (n : ℕ) → is_in n takes ≡ true → Sees p (aside n) false own

    facts_of : (ends : List ℕ) (own : List Deed) → Know ends own → all_gone own → Facts w path name names (IsOf (There ends)) own
    unfolding all_gone
    facts_of ends own f gone = (record { lock = f.0.lock; there = λ z so number. there z so.0 so.1 so.2; held = λ x held let_go. held_not x held let_go (names_one w.run takes x) refl; listed = f.0.listed }, f.0.synced)
      where
        there : (z : List ℕ) (j : ℕ) → kind_of z ≡ Number j → There ends j → Sees p z true own
        there z j kind (inl s) = f.0.there z (j, kind, s)
        there z j kind (inr i) = subst (λ y. Sees p y true own) (sym (number_text z j kind)) (f.1 j i).1

        held_not : (x : List ℕ) → is_held (kind_of x) ≡ true → (has_text x names ≡ true → WasDone (step.Unlink p x) own) → (b : Bool) → names_one w.run takes x ≡ b → Sees p x false own
        held_not x held let_go true e = let y = name_found w.run takes x e in subst (λ z. Sees p z false own) y.2 (gone y.0 y.1)
        held_not x held let_go false e = f.0.others x held e let_go

    module _ (ends : List ℕ) (enough : length ms ≤ length ends) where
      abbrev Left : Outcome Unit
      Left later j u = HaveMoved ms later ends

      no_moves : ends ≡ [] → ms ≡ []
      no_moves e = by ms (let l : length ends ≡ 0 = ap length e in omega (arith, l, enough))
        where
          by : (ks : List Move) → length ks ≤ 0 → ks ≡ []
          by [] l = refl
          by (m ∷ ks) l = absurd (omega (arith, l))

      -- what is known once the held names went
      abbrev Ready : List Deed → Type 0
      Ready own = Know ends own × all_gone own

      last_safe : (own : List Deed) → MayAsk w own (step.SyncFolder p) → Ready own → HaveMoved ms (did (step.SyncFolder p) answer.Done ∷ own) ends
      unfolding all_gone
      last_safe own may f = let k = know_synced ends own may f.0 in record {
        facts = facts_of ends (did (step.SyncFolder p) answer.Done ∷ own) k (λ n i. minding.on (λ u. cc (u)) (λ t. t) (f.1 n i));
        marks = k.0.marks;
        steady = λ some sequence. apart.synced refl f.0.0.lock;
        numbers = λ e i. (k.1 e i).0;
        each = enough;
      }

      for_good_meets : (k : ℕ) (own : List Deed) (h : Hand) → Know ends own → M own h (dropped_for_good w.run p ms k) (okay Left)
      unfolding dropped_for_good all_gone
      for_good_meets k own h f =
          meets_then (MayAsk w) A own h (all_dropped w.run p ms) (λ u. synced_at p k) (Dropped ends (froms ms) []) Left (drops_meet ends ms fs among [] own h f (λ n e. cc (e)))
          (λ later j u g. synced_meets Ready (λ o. HaveMoved ms o ends) last_safe (λ o r. r.0.0) k later j (g.0, λ n i. (g.1 n (inl (same n ∙ i))).1))

      safely_meets : (k : ℕ) (own : List Deed) (h : Hand) → Know ends own → M own h (dropped_safely w.run p ms k) (okay Left)
      unfolding dropped_safely
      safely_meets k own h f =
          meets_then (MayAsk w) A own h (synced_at p k) (λ u. dropped_for_good w.run p ms k) (λ later j u. Know ends later) Left (synced_meets (Know ends) (Know ends) (know_synced ends) (λ o r. r.0) k own h f)
          (λ later j u g. for_good_meets k later j g)

      let_go_meets : (o : Option ℕ) → last_or None ends ≡ o → (own : List Deed) (h : Hand) → Know ends own → M own h (let_go_by w.run p ms o) (okay Left)
      unfolding all_gone
      let_go_meets (Some k) e own h f = safely_meets k own h f
      let_go_meets None e own h f =
          meets_return (MayAsk w) A own h tt (okay Left) (record {
            facts = facts_of ends own f (λ n i. absurd (none_taken n (no_moves (last_none ends e)) i));
            marks = f.0.marks;
            steady = λ some. absurd (some (no_moves (last_none ends e)));
            numbers = λ k i. (f.1 k i).0;
            each = enough;
          })
        where
          none_taken : (n : ℕ) → ms ≡ [] → is_in n takes ≡ true → ⊥
          none_taken n none i = let e : is_in n (froms ms) ≡ false = ap (λ ks. is_in n (froms ks)) none in cc (sym (same n ∙ i) ∙ e)

    -- each step of the moves minds the marks of all sequences
    pub arranged_meets : (top : ℕ) → top ≤ 999999 → ((e : ℕ) → top < e → Free e) → (own : List Deed) (h : Hand) → Aside own → M own h (arranged w.run p takes ms top) (okay (λ later j ends. HaveMoved ms later ends))
    unfolding arranged
    arranged_meets top small above own h f =
        meets_then (MayAsk w) A own h (all_taken w.run p takes) (λ u. all_given w.run p ms top [] >>= (λ ends. let_go_after w.run p ms ends >>= (λ u. Return (Ok ends)))) (λ later j u. Aside later) (λ later j ends. HaveMoved ms later ends)
        (meets_quietly (MayAsk w) A Moves Aside aside_kept minds_so own h (all_taken w.run p takes) (asks_takes takes ok (λ k e. e) frees_old) f)
        (λ first i u g.
        meets_then (MayAsk w) A first i (all_given w.run p ms top []) (λ ends. let_go_after w.run p ms ends >>= (λ u. Return (Ok ends))) (Ends (0 + length ms)) (λ later j ends. HaveMoved ms later ends)
        (slots_meet ms fs ss among frees_slot top small above [] first i (g, λ e j. cc (j)))
        (λ second j ends k.
        meets_then (MayAsk w) A second j (let_go_after w.run p ms ends) (λ u. Return (Ok ends)) (λ later l u. HaveMoved ms later ends) (λ later l es. HaveMoved ms later es)
        (let_go_meets ends (let l = k.1 in omega (arith, l)) (last_or None ends) refl second j k.0)
        (λ last l u q. meets_return (MayAsk w) A last l ends (okay (λ later l es. HaveMoved ms later es)) q)))
