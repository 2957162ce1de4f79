-- Messages of a folder change places as their command pledges: the folder is made safe once each was given a number, and only then do the held names go.
use Rattle.std.proofs.Common.{◌≡◌, ◌+◌, ◌-◌, ◌<◌, ◌≤◌, ◌^◌, ◌++◌, ◌==◌, ◌∷◌, [], max, ℕ, zero, suc, true, false, List, Option, Some, None, Ok, refl, sym, ◌∙◌, ap, subst, arith, append-nil, append_assoc}
use Rattle.std.specs.Prelude.{decimal}
use Rattle.std.specs.List.{last_or}
use Rattle.mh_base.specs.Entries.{entry_text, kind_of}
use Rattle.mh_base.specs.Numbers.{IsMsgNum}
use Rattle.mh_base.specs.declared.entry.Entry.TheVariants.{Held, Number}
use Rattle.mh_base.proofs.EntryKinds.{kind_of-entry_text}
use Rattle.folder_files.specs.Careful.{Drops, Gives, HasLock, WasGivenAway, WasTaken, drops, gives}
use Rattle.folder_files.specs.Commands.{MakesStep}
use Rattle.folder_files.specs.Deeds.{Deed, Once, WasDone, did, now, on, still}
use Rattle.folder_files.specs.Named.{is_held, is_number}
use Rattle.folder_files.specs.Places.{is_folder}
use Rattle.folder_files.specs.declared.place.Place.{Place}
use Rattle.folder_files.specs.declared.step.Answer.{Answer}
use Rattle.folder_files.specs.declared.step.Answer.TheVariants as answer
use Rattle.folder_files.specs.declared.step.Step.{Step}
use Rattle.folder_files.specs.declared.step.Step.TheVariants as step
use Rattle.folder_files.proofs.Names.{is_held_any, num_apart, or_false}
use Rattle.file_plans.specs.Plan.{Hand, Return, ◌>>=◌}
use Rattle.file_plans.specs.StaysCareful.{careful}
use Rattle.file_plans.proofs.Framing.{AnyStep}
use Rattle.file_plans.proofs.Showing.{number_kind}
use Rattle.step_plans.specs.Locking.{removed}
use Rattle.step_plans.specs.PlanFaults.{of_stop}
use Rattle.step_plans.specs.Pledges.{MayAsk, Pledge}
use Rattle.step_plans.specs.Replacing.{held_to}
use Rattle.step_plans.specs.Settled.{AreSettled}
use Rattle.step_plans.specs.declared.fault.PlanFault.TheVariants as fault
use Rattle.step_plans.proofs.Facts.{settled_kept}
use Rattle.step_plans.proofs.Going.{Goes, Outcome, Sound, goes_more, goes_then, okay, okay_more}
use Rattle.step_plans.proofs.Lasting.{KeptBy, goes_lasting, lasting}
use Rattle.step_plans.proofs.Past.{did_step, once_map}
use Rattle.step_plans.proofs.Pledged.{Of, synced_goes}
use Rattle.step_plans.proofs.Stepping.{goes_end, goes_link, goes_return, goes_unlink}
use Rattle.step_plans.proofs.Written.{Adds, goes_at, lock_held}
use Rattle.held_messages.specs.Settle.{given_at, given_from, given_up, homed_name, synced_at}
use Rattle.message_puts.specs.Putting.{number_got}
use Rattle.message_moves.specs.Moving.{number_taken}
use Rattle.message_moves.proofs.MoveCopied.{never_taken}
use Rattle.message_moves.proofs.RefilePledged.{AllSpared}
use Rattle.held_messages.proofs.GivingBack.{Settles}
use Rattle.message_moves.proofs.MovePledged.{HasTaken, LetsTake, after_take, held_uncommitted, is_held_so, is_taken_so, take_goes, taking}
use Rattle.message_places.specs.Arranging.{all_dropped, all_given, all_taken, arranged, aside_name, dropped_for_good, dropped_safely, given, let_go_after, let_go_by}
use Rattle.message_places.specs.Moved.{AllMoved, HasMoved, IsGivenTo}
use Rattle.message_places.specs.Places.{AreDistinct, AreMsgNums, froms, is_in, slots}
use Rattle.message_places.specs.declared.moves.Move.{Move}
use Rattle.message_places.proofs.ArrangedGiven.{last_none}
use Rattle.message_places.proofs.NumberLists.{in_cases, in_good, in_head, in_tail, num_turned}

-- the steps by which the message of this number is given that one, and its held name is dropped
abbrev pub giving : ℕ → Place → ℕ → ℕ → Step
giving run p n k = step.Link p (aside_name run n) (decimal k)

abbrev pub dropping : ℕ → Place → ℕ → Step
dropping run p n = step.Unlink p (aside_name run n)

-- The pledge lets messages of this place change places, while this fact of the deeds holds: those of these numbers are taken, those of the moves are
-- given numbers, and each is dropped once it was given one and the folder was made safe.
pub record LetsArrange (w : Pledge) (p : Place) (takes : List ℕ) (ms : List Move) (F : List Deed → Type 0) : Type 0 where
  pub take : (own : List Deed) (n : ℕ) → is_in n takes ≡ true → F own → LetsTake w p n own
  pub gives : (own : List Deed) (n k : ℕ) → is_in n (froms ms) ≡ true → IsMsgNum k → F own → MakesStep w.manner own Gives (giving w.run p n k) × w.may_step own (giving w.run p n k)
  pub drops : (own : List Deed) (n : ℕ) → is_in n (froms ms) ≡ true → F own → WasGivenAway p (aside_name w.run n) own → MakesStep w.manner own Drops (dropping w.run p n) × w.may_step own (dropping w.run p n)

-- each step of the moves keeps this fact
pub record PlacesKeep (run : ℕ) (p : Place) (takes : List ℕ) (ms : List Move) (P : Step → Type 0) (F : List Deed → Type 0) : Type 0 where
  pub kept : KeptBy P F
  pub take : (n : ℕ) → is_in n takes ≡ true → P (taking run p n)
  pub give : (n k : ℕ) → is_in n (froms ms) ≡ true → IsMsgNum k → P (giving run p n k)
  pub drop : (n : ℕ) → is_in n (froms ms) ≡ true → P (dropping run p n)
  pub safe : P (step.SyncFolder p)

-- the run took none of these
abbrev pub AreUntaken : ℕ → Place → List ℕ → List Deed → Type 0
AreUntaken run p [] own = Unit {0}
AreUntaken run p (n ∷ ns) own = (WasDone (taking run p n) own → ⊥) × AreUntaken run p ns own

-- where the held names of these were used for nothing, none was taken
pub spared_untaken : (run : ℕ) (p : Place) (ns : List ℕ) (own : List Deed) → AllSpared run p ns own → AreUntaken run p ns own
spared_untaken run p [] own f = tt
spared_untaken run p (n ∷ ns) own f = (never_taken run p n own f.0, spared_untaken run p ns own f.1)

-- a pledge that lets what is held aside be put back lets the moves give and drop; what is left is that it lets the messages be taken
pub lets_places : (w : Pledge) → w.run < 2 ^ 128 → (p : Place) (takes : List ℕ) (ms : List Move) (F : List Deed → Type 0) → AreMsgNums (froms ms) → Settles w p → ((own : List Deed) (n : ℕ) → is_in n takes ≡ true → F own → LetsTake w p n own)
    → LetsArrange w p takes ms F
lets_places w few p takes ms F fs settles take = record {
  take = take;
  gives = λ own n k is ok fact. (settles.gives own (aside_name w.run n) (decimal k), settles.link own (aside_name w.run n) (decimal k) (held_so n is) (rw (number_kind k ok) refl));
  drops = λ own n is fact away. (settles.drops own (aside_name w.run n), settles.unlink own (aside_name w.run n) (held_so n is) away);
}
  where
    held_so : (n : ℕ) → is_in n (froms ms) ≡ true → is_held (kind_of (aside_name w.run n)) ≡ true
    held_so n is = is_held_any w.run (aside_name w.run n) (is_held_so w.run few n (in_good (froms ms) fs n is))

taken_name : (p : Place) (a b x y : List ℕ) → step.Rename p a b ≡ step.Rename p x y → b ≡ y
taken_name p a b x y e = cc

held_number : (run n m : ℕ) → Held run n ≡ Held run m → n ≡ m
held_number run n m e = cc

module _ (run : ℕ) (few : run < 2 ^ 128) (p : Place) where
  untaken_on : (n m : ℕ) → IsMsgNum n → IsMsgNum m → (n == m) ≡ false → (own : List Deed) → (WasDone (taking run p m) own → ⊥) → WasDone (taking run p m) (did (taking run p n) answer.Done ∷ own) → ⊥
  untaken_on n m one other off own f (now e) =
      let same : aside_name run n ≡ aside_name run m = taken_name p (entry_text (Number n)) (aside_name run n) (entry_text (Number m)) (aside_name run m) (did_step e) in
      num_apart n m off (held_number run n m (sym (kind_of-entry_text (Held run n) (few, one)) ∙ (ap kind_of same ∙ kind_of-entry_text (Held run m) (few, other))))
  untaken_on n m one other off own f (on z) = f z

  still_untaken : (n : ℕ) → IsMsgNum n → (ns : List ℕ) → AreMsgNums ns → is_in n ns ≡ false → (own : List Deed) → AreUntaken run p ns own → AreUntaken run p ns (did (taking run p n) answer.Done ∷ own)
  still_untaken n one [] ok off own f = tt
  still_untaken n one (m ∷ ns) ok off own f = let o = or_false (m == n) (is_in n ns) off in (untaken_on n m one ok.0 (num_turned m n o.0) own f.0, still_untaken n one ns ok.1 o.1 own f.1)

  -- each was taken, and was given the number beside it
  abbrev WereTaken : List ℕ → List Deed → Type 0
  WereTaken ns own = (k : ℕ) → is_in k ns ≡ true → WasTaken run p (aside_name run k) own

  abbrev AllGivenTo : List Move → List ℕ → List Deed → Type 0
  AllGivenTo [] [] own = Unit {0}
  AllGivenTo [] (n ∷ ends) own = ⊥
  AllGivenTo (m ∷ ms) [] own = ⊥
  AllGivenTo (m ∷ ms) (n ∷ ends) own = Once (IsGivenTo run p m.from n) own × AllGivenTo ms ends own

  all_moved : (ms : List Move) (ends : List ℕ) (own : List Deed) → AllGivenTo ms ends own → AllMoved run p ms ends (did (step.SyncFolder p) answer.Done ∷ own)
  all_moved [] [] own f = tt
  all_moved [] (n ∷ ends) own f = absurd f
  all_moved (m ∷ ms) [] own f = absurd f
  all_moved (m ∷ ms) (n ∷ ends) own f = (now (refl, f.0), all_moved ms ends own f.1)

  -- where none was given a number there is none
  none_moved : (ms : List Move) (ends : List ℕ) (own : List Deed) → ends ≡ [] → AllGivenTo ms ends own → AllMoved run p ms ends own
  none_moved [] [] own e f = tt
  none_moved [] (n ∷ ends) own e f = absurd f
  none_moved (m ∷ ms) [] own e f = absurd f
  none_moved (m ∷ ms) (n ∷ ends) own e f = cc

  pub moved_kept : (ms : List Move) (ends : List ℕ) → KeptBy AnyStep (AllMoved run p ms ends)
  moved_kept [] [] own s a any f = tt
  moved_kept [] (n ∷ ends) own s a any f = absurd f
  moved_kept (m ∷ ms) [] own s a any f = absurd f
  moved_kept (m ∷ ms) (n ∷ ends) own s a any f = (on f.0, moved_kept ms ends own s a any f.1)

  -- what moved was given away
  pub given_away : (from end : ℕ) → IsMsgNum end → (own : List Deed) → HasMoved run p from end own → WasGivenAway p (aside_name run from) own
  given_away from end ok own f = once_map (λ d older g. (g.0, once_map (λ e before i. (decimal end, i.given, rw (number_kind end ok) refl)) g.1)) f

module _ (w : Pledge) (few : w.run < 2 ^ 128) (p : Place) (folder : is_folder p ≡ true) (takes : List ℕ) (ms : List Move) (P : Step → Type 0) (F : List Deed → Type 0) (lets : LetsArrange w p takes ms F) (keeps : PlacesKeep w.run p takes ms P F) where
  abbrev aside : ℕ → List ℕ
  aside n = aside_name w.run n

  -- what is settled of commits stays so, the lock is had, and the fact holds
  pub record Stays (own later : List Deed) : Type 0 where
    pub settled : AreSettled own → AreSettled later
    pub lock : HasLock p later
    pub fact : F later

  stay : (own : List Deed) → HasLock p own → F own → Stays own own
  stay own lock fact = record { settled = λ s. s; lock = lock; fact = fact }

  both_stay : (own mid later : List Deed) → Stays own mid → Stays mid later → Stays own later
  both_stay own mid later a b = record { settled = λ s. b.settled (a.settled s); lock = b.lock; fact = b.fact }

  after_taking : (own : List Deed) (n : ℕ) → IsMsgNum n → is_in n takes ≡ true → HasLock p own → F own → Stays own (after_take w.run p n own)
  after_taking own n one is lock fact = record {
    settled = λ s. settled_kept own (taking w.run p n) answer.Done (held_uncommitted w.run few n one p) s;
    lock = still (λ e. cc (e)) lock;
    fact = keeps.kept own (taking w.run p n) answer.Done (keeps.take n is) fact;
  }

  after_giving : (own : List Deed) (n k : ℕ) (a : Answer) → is_in n (froms ms) ≡ true → IsMsgNum k → HasLock p own → F own → Stays own (did (giving w.run p n k) a ∷ own)
  after_giving own n k a is ok lock fact = record {
    settled = λ s. settled_kept own (giving w.run p n k) a tt s;
    lock = still (λ e. cc (e)) lock;
    fact = keeps.kept own (giving w.run p n k) a (keeps.give n k is ok) fact;
  }

  after_dropping : (own : List Deed) (n : ℕ) → is_in n (froms ms) ≡ true → HasLock p own → F own → Stays own (did (dropping w.run p n) answer.Done ∷ own)
  after_dropping own n is lock fact = record {
    settled = λ s. settled_kept own (dropping w.run p n) answer.Done tt s;
    lock = still (λ e. cc (e)) lock;
    fact = keeps.kept own (dropping w.run p n) answer.Done (keeps.drop n is) fact;
  }

  after_safe : (own : List Deed) → HasLock p own → F own → Stays own (did (step.SyncFolder p) answer.Done ∷ own)
  after_safe own lock fact = record {
    settled = λ s. settled_kept own (step.SyncFolder p) answer.Done tt s;
    lock = still (λ e. cc (e)) lock;
    fact = keeps.kept own (step.SyncFolder p) answer.Done keeps.safe fact;
  }

  -- all are held aside
  abbrev Took : List Deed → List ℕ → Outcome Unit
  Took own ns later j u = Stays own later × WereTaken w.run few p ns later

  takes_go : (ns : List ℕ) → AreMsgNums ns → AreDistinct ns → ((k : ℕ) → is_in k ns ≡ true → is_in k takes ≡ true) → (own : List Deed) (h : Hand) → AreUntaken w.run p ns own → HasLock p own → F own → Goes w own h (all_taken w.run p ns) (okay (Took own ns))
  unfolding all_taken
  takes_go [] ok d sub own h fresh lock fact = goes_return w own h tt (okay (Took own [])) (stay own lock fact, λ k e. absurd (cc (e)))
  takes_go (n ∷ ns) ok d sub own h fresh lock fact =
      goes_then w own h (number_taken w.run p n) (λ held. all_taken w.run p ns) (HasTaken w.run p n own) (Took own (n ∷ ns))
      (take_goes w few p folder n ok.0 own h (lets.take own n (sub n (in_head n ns)) fact) fresh.0 lock)
      (λ later j name q. goes_at w later (after_take w.run p n own) j (all_taken w.run p ns) (okay (Took own (n ∷ ns))) q.0
      (goes_more w (after_take w.run p n own) j (all_taken w.run p ns) (okay (λ last i u. WasTaken w.run p (aside n) last × Took (after_take w.run p n own) ns last i u)) (okay (Took own (n ∷ ns)))
      (okay_more (λ last i u. WasTaken w.run p (aside n) last × Took (after_take w.run p n own) ns last i u) (Took own (n ∷ ns))
      (λ last i u g. (both_stay own (after_take w.run p n own) last first g.1.0, λ k e. in_cases (λ z. WasTaken w.run p (aside z) last) n k ns e g.0 (g.1.1 k))))
      (lasting w (WasTaken w.run p (aside n)) (λ o s a any f. on f) (after_take w.run p n own) j (all_taken w.run p ns) (Took (after_take w.run p n own) ns) (now (entry_text (Number n), refl, is_taken_so w.run few n ok.0))
      (takes_go ns ok.1 d.1 (λ k e. sub k (in_tail n k ns e)) (after_take w.run p n own) j (still_untaken w.run few p n ok.0 ns ok.1 d.0 own fresh.1) first.lock first.fact))))
    where
      first : Stays own (after_take w.run p n own)
      first = after_taking own n ok.0 (sub n (in_head n ns)) lock fact

  -- one is given a number
  module _ (n : ℕ) (one : IsMsgNum n) (is : is_in n (froms ms) ≡ true) where
    held_so : is_held (kind_of (aside n)) ≡ true
    held_so = is_held_any w.run (aside n) (is_held_so w.run few n one)

    at_number : (k : ℕ) → IsMsgNum k → is_number (kind_of (decimal k)) ≡ true
    at_number k ok = rw (number_kind k ok) refl

    may_give : (own : List Deed) (i : Hand) (k : ℕ) → IsMsgNum k → HasLock p own → F own → Sound w own i → MayAsk w own (giving w.run p n k)
    may_give own i k ok lock fact s = record {
      is_own = careful s.unfailed Gives (gives p (aside n) (decimal k) (folder, held_so, at_number k ok)) (lets.gives own n k is ok fact).0 (lock_held p own lock);
      marks = tt;
      steps = λ no. (lets.gives own n k is ok fact).1;
    }

    abbrev GaveSome : List Deed → Outcome (Option ℕ)
    GaveSome own later j None = Stays own later
    GaveSome own later j (Some k) = Stays own later × (IsMsgNum k × Once (IsGivenTo w.run p n k) later)

    gave_there : (own : List Deed) (k : ℕ) (j : Hand) → IsMsgNum k → HasLock p own → F own → WasTaken w.run p (aside n) own → GaveSome own (did (giving w.run p n k) answer.Done ∷ own) j (Some k)
    gave_there own k j ok lock fact taken = (after_giving own n k answer.Done is ok lock fact, (ok, now (record { given = refl; taken = taken })))

    gave_later : (own : List Deed) (k : ℕ) → IsMsgNum k → HasLock p own → F own → (later : List Deed) (j : Hand) (end : Option ℕ) → GaveSome (did (giving w.run p n k) answer.Exists ∷ own) later j end → GaveSome own later j end
    gave_later own k ok lock fact later j None g = both_stay own (did (giving w.run p n k) answer.Exists ∷ own) later (after_giving own n k answer.Exists is ok lock fact) g
    gave_later own k ok lock fact later j (Some m) g = (both_stay own (did (giving w.run p n k) answer.Exists ∷ own) later (after_giving own n k answer.Exists is ok lock fact) g.0, g.1)

    up_goes : (left k : ℕ) (own : List Deed) (i : Hand) → (1 ≤ k) × (k + left ≤ 1000000) → HasLock p own → F own → WasTaken w.run p (aside n) own → Goes w own i (given_up p (aside n) k left) (okay (GaveSome own))
    unfolding given_up
    up_goes zero k own i low lock fact taken = goes_return w own i None (okay (GaveSome own)) (stay own lock fact)
    up_goes (suc left) k own i low lock fact taken =
        goes_link w own i of_stop (okay (GaveSome own)) p (aside n) (decimal k) (λ e. given_at p (aside n) k e (given_up p (aside n) (k + 1) left))
        (λ s. (may_give own i k ok lock fact s, tt))
        (goes_return w _ i (Some k) (okay (GaveSome own)) (gave_there own k i ok lock fact taken))
        (goes_more w _ i (given_up p (aside n) (k + 1) left) (okay (GaveSome (did (giving w.run p n k) answer.Exists ∷ own))) (okay (GaveSome own)) (okay_more (GaveSome (did (giving w.run p n k) answer.Exists ∷ own)) (GaveSome own) (gave_later own k ok lock fact))
        (up_goes left (k + 1) (did (giving w.run p n k) answer.Exists ∷ own) i (omega arith, (let l = low.1 in omega (arith, l))) met.lock met.fact (on taken)))
        (goes_end w _ i (fault.Meddled p (aside n)) (GaveSome own))
      where
        ok : IsMsgNum k
        ok = (low.0, (let l = low.1 in omega (arith, l)))

        met : Stays own (did (giving w.run p n k) answer.Exists ∷ own)
        met = after_giving own n k answer.Exists is ok lock fact

    slot_goes : (slot top : ℕ) → IsMsgNum slot → top ≤ 999999 → (own : List Deed) (i : Hand) → HasLock p own → F own → WasTaken w.run p (aside n) own → Goes w own i (homed_name p (aside n) slot top) (okay (GaveSome own))
    slot_goes slot top ok small own i lock fact taken =
        goes_link w own i of_stop (okay (GaveSome own)) p (aside n) (decimal slot) (λ e. given_at p (aside n) slot e (given_from p (aside n) (max slot top + 1)))
        (λ s. (may_give own i slot ok lock fact s, tt))
        (goes_return w _ i (Some slot) (okay (GaveSome own)) (gave_there own slot i ok lock fact taken))
        (goes_more w _ i (given_from p (aside n) (max slot top + 1)) (okay (GaveSome (did (giving w.run p n slot) answer.Exists ∷ own))) (okay (GaveSome own)) (okay_more (GaveSome (did (giving w.run p n slot) answer.Exists ∷ own)) (GaveSome own) (gave_later own slot ok lock fact))
        (up_goes (1000000 - (max slot top + 1)) (max slot top + 1) (did (giving w.run p n slot) answer.Exists ∷ own) i (omega arith, (let l = ok.1 in omega (arith, l, small))) met.lock met.fact (on taken)))
        (goes_end w _ i (fault.Meddled p (aside n)) (GaveSome own))
      where
        met : Stays own (did (giving w.run p n slot) answer.Exists ∷ own)
        met = after_giving own n slot answer.Exists is ok lock fact

    abbrev Gave : List Deed → Outcome ℕ
    Gave own later j k = Stays own later × (IsMsgNum k × Once (IsGivenTo w.run p n k) later)

    given_goes : (slot top : ℕ) → IsMsgNum slot → top ≤ 999999 → (own : List Deed) (i : Hand) → HasLock p own → F own → WasTaken w.run p (aside n) own → Goes w own i (given w.run p (record { from = n; slot = slot }) top) (okay (Gave own))
    unfolding given
    given_goes slot top ok small own i lock fact taken =
        goes_then w own i (homed_name p (aside n) slot top) number_got (GaveSome own) (Gave own) (slot_goes slot top ok small own i lock fact taken) got
      where
        got : (later : List Deed) (j : Hand) (end : Option ℕ) → GaveSome own later j end → Goes w later j (number_got end) (okay (Gave own))
        got later j None g = goes_end w later j fault.Full (Gave own)
        got later j (Some k) g = goes_return w later j k (okay (Gave own)) g

    dropped_goes : (own : List Deed) (i : Hand) → HasLock p own → F own → WasGivenAway p (aside n) own → Goes w own i (removed p (aside n)) (okay (Of (Stays own)))
    unfolding removed
    dropped_goes own i lock fact away =
        goes_unlink w own i of_stop (okay (Of (Stays own))) p (aside n) (held_to p (aside n))
        (λ s. (
          record {
            is_own = careful s.unfailed Drops (drops p (aside n) (folder, held_so, away)) (lets.drops own n is fact away).0 (lock_held p own lock);
            marks = tt;
            steps = λ no. (lets.drops own n is fact away).1;
          },
          tt,
        ))
        (goes_return w _ i tt (okay (Of (Stays own))) (after_dropping own n is lock fact))
        (goes_end w _ i (fault.Meddled p (aside n)) (Of (Stays own)))

  -- each is, behind those before
  pub record GaveAll (own : List Deed) (ks : List Move) (before : List ℕ) (later : List Deed) (all : List ℕ) : Type 0 where
    pub ends : List ℕ
    pub all_so : all ≡ before ++ ends
    pub are : AreMsgNums ends
    pub stays : Stays own later
    pub given : AllGivenTo w.run few p ks ends later

  abbrev Given : List Deed → List Move → List ℕ → Outcome (List ℕ)
  Given own ks before later j all = GaveAll own ks before later all

  slots_go : (ks : List Move) → AreMsgNums (froms ks) → AreMsgNums (slots ks) → ((k : ℕ) → is_in k (froms ks) ≡ true → is_in k (froms ms) ≡ true) → (top : ℕ) → top ≤ 999999 → (before : List ℕ) (own : List Deed) (h : Hand) → HasLock p own → F own → WereTaken w.run few p (froms ks) own
      → Goes w own h (all_given w.run p ks top before) (okay (Given own ks before))
  unfolding all_given
  slots_go [] fs ss sub top small before own h lock fact taken = goes_return w own h before (okay (Given own [] before)) (record { ends = []; all_so = sym (append-nil before); are = tt; stays = stay own lock fact; given = tt })
  slots_go (m ∷ ks) fs ss sub top small before own h lock fact taken =
      goes_lasting w (WereTaken w.run few p (froms ks)) (λ o s a any f k e. on (f k e)) own h (given w.run p m top) (λ end. all_given w.run p ks (max end top) (before ++ end ∷ [])) (Gave m.from fs.0 is own) (Given own (m ∷ ks) before) (λ k e. taken k (in_tail m.from k (froms ks) e))
      (given_goes m.from fs.0 is m.slot top ss.0 small own h lock fact (taken m.from (in_head m.from (froms ks))))
      (λ later j n were g.
      goes_more w later j (all_given w.run p ks (max n top) (before ++ n ∷ [])) (okay (λ last i all. Once (IsGivenTo w.run p m.from n) last × Given later ks (before ++ n ∷ []) last i all)) (okay (Given own (m ∷ ks) before))
      (okay_more (λ last i all. Once (IsGivenTo w.run p m.from n) last × Given later ks (before ++ n ∷ []) last i all) (Given own (m ∷ ks) before)
      (λ last i all q. record { ends = n ∷ q.1.ends; all_so = q.1.all_so ∙ append_assoc before (n ∷ []) q.1.ends; are = (g.1.0, q.1.are); stays = both_stay own later last g.0 q.1.stays; given = (q.0, q.1.given) }))
      (lasting w (Once (IsGivenTo w.run p m.from n)) (λ o s a any f. on f) later j (all_given w.run p ks (max n top) (before ++ n ∷ [])) (Given later ks (before ++ n ∷ [])) g.1.1
      (slots_go ks fs.1 ss.1 (λ k e. sub k (in_tail m.from k (froms ks) e)) (max n top) (let l = g.1.0.1 in omega (arith, l, small)) (before ++ n ∷ []) later j g.0.lock g.0.fact were)))
    where
      is : is_in m.from (froms ms) ≡ true
      is = sub m.from (in_head m.from (froms ks))

  -- the held names go
  drops_go : (ks : List Move) (ends : List ℕ) → AreMsgNums (froms ks) → AreMsgNums ends → ((k : ℕ) → is_in k (froms ks) ≡ true → is_in k (froms ms) ≡ true) → (own : List Deed) (h : Hand) → HasLock p own → F own → AllMoved w.run p ks ends own → Goes w own h (all_dropped w.run p ks) (okay (Of (Stays own)))
  unfolding all_dropped
  drops_go [] ends fs are sub own h lock fact moved = goes_return w own h tt (okay (Of (Stays own))) (stay own lock fact)
  drops_go (m ∷ ks) [] fs are sub own h lock fact moved = absurd moved
  drops_go (m ∷ ks) (n ∷ ends) fs are sub own h lock fact moved =
      goes_lasting w (AllMoved w.run p ks ends) (moved_kept w.run few p ks ends) own h (removed p (aside m.from)) (λ u. all_dropped w.run p ks) (Of (Stays own)) (Of (Stays own)) moved.1
      (dropped_goes m.from fs.0 (sub m.from (in_head m.from (froms ks))) own h lock fact (given_away w.run few p m.from n are.0 own moved.0))
      (λ later j u rest g. goes_more w later j (all_dropped w.run p ks) (okay (Of (Stays later))) (okay (Of (Stays own))) (okay_more (Of (Stays later)) (Of (Stays own)) (λ last i v q. both_stay own later last g q))
      (drops_go ks ends fs.1 are.1 (λ k e. sub k (in_tail m.from k (froms ks) e)) later j g.lock g.fact rest))

  same_numbers : (k : ℕ) → is_in k (froms ms) ≡ true → is_in k (froms ms) ≡ true
  same_numbers k e = e

  -- what the run did: each move's message went to the number beside it, and each held name of a move is gone
  pub record HasArranged (own : List Deed) (later : List Deed) (ends : List ℕ) : Type 0 where
    pub stays : Stays own later
    pub are : AreMsgNums ends
    pub moved : AllMoved w.run p ms ends later

  abbrev pub Arranged : List Deed → Outcome (List ℕ)
  Arranged own later j ends = HasArranged own later ends

  module _ (fs : AreMsgNums (froms ms)) (ss : AreMsgNums (slots ms)) where
    -- once all were given a number
    module _ (ends : List ℕ) (are : AreMsgNums ends) where
      abbrev Ended : List Deed → Outcome Unit
      Ended own later j u = HasArranged own later ends

      safe_goes : (n : ℕ) (own : List Deed) (h : Hand) → HasLock p own → F own → AllMoved w.run p ms ends own → Goes w own h (synced_at p n) (okay (Ended own))
      safe_goes n own h lock fact moved =
          goes_more w own h (synced_at p n) (okay (Adds own (did (step.SyncFolder p) answer.Done))) (okay (Ended own))
          (okay_more (Adds own (did (step.SyncFolder p) answer.Done)) (Ended own) (λ last i u e. subst (λ z. HasArranged own z ends) (sym e) (record { stays = after_safe own lock fact; are = are; moved = moved_kept w.run few p ms ends own (step.SyncFolder p) answer.Done tt moved })))
          (synced_goes w own h p (decimal n))

      ended_more : (own mid : List Deed) → Stays own mid → (later : List Deed) (j : Hand) (u : Unit {0}) → Ended mid later j u → Ended own later j u
      ended_more own mid a later j u f = record { stays = both_stay own mid later a f.stays; are = f.are; moved = f.moved }

      for_good_goes : (n : ℕ) (own : List Deed) (h : Hand) → HasLock p own → F own → AllMoved w.run p ms ends own → Goes w own h (dropped_for_good w.run p ms n) (okay (Ended own))
      unfolding dropped_for_good
      for_good_goes n own h lock fact moved =
          goes_lasting w (AllMoved w.run p ms ends) (moved_kept w.run few p ms ends) own h (all_dropped w.run p ms) (λ u. synced_at p n) (Of (Stays own)) (Ended own) moved
          (drops_go ms ends fs are same_numbers own h lock fact moved)
          (λ later j u rest g. goes_more w later j (synced_at p n) (okay (Ended later)) (okay (Ended own)) (okay_more (Ended later) (Ended own) (ended_more own later g)) (safe_goes n later j g.lock g.fact rest))

      safely_goes : (n : ℕ) (own : List Deed) (h : Hand) → HasLock p own → F own → AllGivenTo w.run few p ms ends own → Goes w own h (dropped_safely w.run p ms n) (okay (Ended own))
      unfolding dropped_safely
      safely_goes n own h lock fact given =
          goes_then w own h (synced_at p n) (λ u. dropped_for_good w.run p ms n) (Adds own (did (step.SyncFolder p) answer.Done)) (Ended own) (synced_goes w own h p (decimal n))
          (λ later j u e. goes_at w later safe j (dropped_for_good w.run p ms n) (okay (Ended own)) e
          (goes_more w safe j (dropped_for_good w.run p ms n) (okay (Ended safe)) (okay (Ended own)) (okay_more (Ended safe) (Ended own) (ended_more own safe (after_safe own lock fact)))
          (for_good_goes n safe j (after_safe own lock fact).lock (after_safe own lock fact).fact (all_moved w.run few p ms ends own given))))
        where
          safe : List Deed
          safe = did (step.SyncFolder p) answer.Done ∷ own

      let_go_goes : (o : Option ℕ) → last_or None ends ≡ o → (own : List Deed) (h : Hand) → HasLock p own → F own → AllGivenTo w.run few p ms ends own → Goes w own h (let_go_by w.run p ms o) (okay (Ended own))
      let_go_goes (Some n) e own h lock fact given = safely_goes n own h lock fact given
      let_go_goes None e own h lock fact given = goes_return w own h tt (okay (Ended own)) (record { stays = stay own lock fact; are = are; moved = none_moved w.run few p ms ends own (last_none ends e) given })

    -- Messages change places under the folder's lock, where the run took none of these before: each step is as pledged, each move's message goes to
    -- a number, and what was settled of commits stays so.
    pub arranged_goes : AreMsgNums takes → AreDistinct takes → ((k : ℕ) → is_in k (froms ms) ≡ true → is_in k takes ≡ true) → (top : ℕ) → top ≤ 999999 → (own : List Deed) (h : Hand) → AreUntaken w.run p takes own → HasLock p own → F own
        → Goes w own h (arranged w.run p takes ms top) (okay (Arranged own))
    unfolding arranged
    arranged_goes ok distinct among top small own h fresh lock fact =
        goes_then w own h (all_taken w.run p takes) (λ u. all_given w.run p ms top [] >>= (λ ends. let_go_after w.run p ms ends >>= (λ u. Return (Ok ends)))) (Took own takes) (Arranged own)
        (takes_go takes ok distinct (λ k e. e) own h fresh lock fact)
        (λ first i u t.
        goes_then w first i (all_given w.run p ms top []) (λ ends. let_go_after w.run p ms ends >>= (λ u. Return (Ok ends))) (Given first ms []) (Arranged own)
        (slots_go ms fs ss same_numbers top small [] first i t.0.lock t.0.fact (λ k e. t.1 k (among k e)))
        (λ second j all g.
        subst (λ es. Goes w second j (let_go_after w.run p ms es >>= (λ u. Return (Ok es))) (okay (Arranged own))) (sym g.all_so)
        (goes_then w second j (let_go_after w.run p ms g.ends) (λ u. Return (Ok g.ends)) (Ended g.ends g.are second) (Arranged own) (let_go_goes g.ends g.are (last_or None g.ends) refl second j g.stays.lock g.stays.fact g.given)
        (λ last k v f. goes_return w last k g.ends (okay (Arranged own)) (record { stays = both_stay own first last t.0 (both_stay first second last g.stays f.stays); are = f.are; moved = f.moved })))))
