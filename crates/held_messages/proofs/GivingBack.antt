-- Settling goes as its command pledges: each held name is given a number, the folder is made safe, and only then does
-- the held name go.
use Rattle.std.proofs.Common.{◌≡◌, ◌+◌, ◌-◌, ◌≤◌, ◌∷◌, ◌++◌, [], ℕ, zero, suc, max, true, List, Option, Some, None, Ok, refl, sym, ◌∙◌, subst, arith, append-nil, append_assoc}
use Rattle.std.specs.Prelude.{decimal}
use Rattle.mh_base.specs.Entries.{kind_of}
use Rattle.mh_base.specs.Numbers.{IsMsgNum}
use Rattle.folder_files.specs.Careful.{IsLook, Gives, Drops, gives, drops, HasLock, WasGiven, WasGivenAway}
use Rattle.folder_files.specs.Commands.{MakesStep}
use Rattle.folder_files.specs.Deeds.{Deed, did, now, on, still}
use Rattle.folder_files.specs.Named.{is_held, is_number}
use Rattle.folder_files.specs.Places.{is_folder}
use Rattle.folder_files.specs.declared.place.Place.{Place}
use Rattle.folder_files.specs.declared.step.Step.TheVariants as step
use Rattle.folder_files.specs.declared.step.Answer.TheVariants as answer
use Rattle.file_plans.specs.Plan.{Hand, Return, ◌>>=◌}
use Rattle.file_plans.specs.StaysCareful.{careful}
use Rattle.file_plans.proofs.Showing.{number_kind}
use Rattle.step_plans.specs.Locking.{removed}
use Rattle.step_plans.specs.Pledges.{Pledge, MayAsk}
use Rattle.step_plans.specs.PlanFaults.{of_stop}
use Rattle.step_plans.specs.Replacing.{held_to}
use Rattle.step_plans.specs.Settled.{AreSettled}
use Rattle.step_plans.specs.declared.fault.PlanFault.TheVariants as fault
use Rattle.step_plans.proofs.Facts.{once_kept, settled_kept}
use Rattle.step_plans.proofs.Going.{Sound, Outcome, okay, okay_more, Goes, goes_then, goes_more}
use Rattle.step_plans.proofs.Lasting.{KeptBy, goes_lasting, lasting}
use Rattle.file_plans.proofs.Framing.{AnyStep}
use Rattle.step_plans.proofs.Pledged.{Held, Of, synced_goes}
use Rattle.step_plans.proofs.Stepping.{goes_link, goes_unlink, goes_on, goes_end, goes_return}
use Rattle.step_plans.proofs.Written.{Adds, goes_at, lock_held}
use Rattle.held_messages.specs.declared.held.HeldPair.{HeldPair}
use Rattle.held_messages.specs.HeldPairs.{held_name, top_after}
use Rattle.held_messages.specs.Settle.{given_at, given_up, given_from, homed, all_homed, dropped_one, dropped, last_put, synced_at, dropped_for_good, dropped_safely, settled_by, settle}
use Rattle.held_messages.proofs.ListedPairs.{IsPair, ArePairs}
use Rattle.held_messages.proofs.Linking.{IsEnd, held_is}

-- the pledge lets what is held aside in this place be put back, and go there once it was made safe under its number
pub record Settles (w : Pledge) (p : Place) : Type 0 where
  pub gives : (own : List Deed) (held number : List ℕ) → MakesStep w.manner own Gives (step.Link p held number)
  pub drops : (own : List Deed) (held : List ℕ) → MakesStep w.manner own Drops (step.Unlink p held)
  pub link : (own : List Deed) (held number : List ℕ) → is_held (kind_of held) ≡ true → is_number (kind_of number) ≡ true → w.may_step own (step.Link p held number)
  pub unlink : (own : List Deed) (held : List ℕ) → is_held (kind_of held) ≡ true → WasGivenAway p held own → w.may_step own (step.Unlink p held)

-- where a held name was put somewhere
abbrev pub Where : (Place → List ℕ → List Deed → Type 0) → Place → HeldPair → Option ℕ → List Deed → Type 0
Where F p h None own = Unit {0}
Where F p h (Some m) own = F p (held_name h) own

abbrev pub Each : (Place → List ℕ → List Deed → Type 0) → Place → List HeldPair → List (Option ℕ) → List Deed → Type 0
Each F p [] ends own = Unit {0}
Each F p (h ∷ hs) [] own = Unit {0}
Each F p (h ∷ hs) (end ∷ ends) own = Where F p h end own × Each F p hs ends own

where_kept : (p : Place) (h : HeldPair) (end : Option ℕ) → KeptBy AnyStep (Where WasGiven p h end)
where_kept p h None own s a leaves f = tt
where_kept p h (Some m) own s a leaves f = on f

away_kept : (p : Place) (hs : List HeldPair) (ends : List (Option ℕ)) → KeptBy AnyStep (Each WasGivenAway p hs ends)
away_kept p [] ends own s a leaves f = tt
away_kept p (h ∷ hs) [] own s a leaves f = tt
away_kept p (h ∷ hs) (None ∷ ends) own s a leaves f = (tt, away_kept p hs ends own s a leaves f.1)
away_kept p (h ∷ hs) (Some m ∷ ends) own s a leaves f = (on f.0, away_kept p hs ends own s a leaves f.1)

-- a sync of the folder makes them so
given_away : (p : Place) (hs : List HeldPair) (ends : List (Option ℕ)) (own : List Deed) → Each WasGiven p hs ends own → Each WasGivenAway p hs ends (did (step.SyncFolder p) answer.Done ∷ own)
given_away p [] ends own f = tt
given_away p (h ∷ hs) [] own f = tt
given_away p (h ∷ hs) (None ∷ ends) own f = (tt, given_away p hs ends own f.1)
given_away p (h ∷ hs) (Some m ∷ ends) own f = (now (refl, f.0), given_away p hs ends own f.1)

module _ (p : Place) where
  -- with one deed more before
  further : (own : List Deed) (d : Deed) (later : List Deed) → (AreSettled own → AreSettled (d ∷ own)) → Held (d ∷ own) p later → Held own p later
  further own d later f c = record { settled = λ s. c.settled (f s); lock = c.lock }

  both_held : (own mid later : List Deed) → Held own p mid → Held mid p later → Held own p later
  both_held own mid later a b = record { settled = λ s. b.settled (a.settled s); lock = b.lock }

end_small : (end : Option ℕ) (top : ℕ) → IsEnd end → top ≤ 999999 → top_after end top ≤ 999999
end_small None top ok small = omega arith
end_small (Some m) top ok small = let l : m ≤ 999999 = ok.1 in omega (arith, l, small)

module _ (w : Pledge) (p : Place) (lets : Settles w p) (folder : is_folder p ≡ true) where
  abbrev Given : List Deed → HeldPair → Outcome (Option ℕ)
  Given own h later j end = Held own p later × IsEnd end × Where WasGiven p h end later

  numbered : (n : ℕ) → IsMsgNum n → is_number (kind_of (decimal n)) ≡ true
  numbered n ok = rw (number_kind n ok) refl

  module _ (h : HeldPair) (pair : IsPair h) where
    abbrev held : List ℕ
    held = held_name h

    may_link : (own : List Deed) (i : Hand) (n : ℕ) → IsMsgNum n → HasLock p own → Sound w own i → MayAsk w own (step.Link p held (decimal n))
    may_link own i n ok lock s = record {
      is_own = careful s.unfailed Gives (gives p held (decimal n) (folder, held_is h pair, numbered n ok)) (lets.gives own held (decimal n)) (lock_held p own lock);
      marks = tt;
      steps = λ no. lets.link own held (decimal n) (held_is h pair) (numbered n ok);
    }

    put_there : (own : List Deed) (n : ℕ) → IsMsgNum n → HasLock p own → Given own h (did (step.Link p held (decimal n)) answer.Done ∷ own) (record { next = 0; context = None }) (Some n)
    put_there own n ok lock = (record { settled = λ f. settled_kept own (step.Link p held (decimal n)) answer.Done tt f; lock = still (λ e. cc (e)) lock }, ok, now (decimal n, refl, numbered n ok))

    met_there : (own : List Deed) (n : ℕ) (later : List Deed) (j : Hand) (end : Option ℕ) → Given (did (step.Link p held (decimal n)) answer.Exists ∷ own) h later j end → Given own h later j end
    met_there own n later j end g = (further p own (did (step.Link p held (decimal n)) answer.Exists) later (λ f. settled_kept own (step.Link p held (decimal n)) answer.Exists tt f) g.0, g.1, g.2)

    given_up_goes : (left n : ℕ) (own : List Deed) (i : Hand) → (1 ≤ n) × (n + left ≤ 1000000) → HasLock p own → Goes w own i (given_up p held n left) (okay (Given own h))
    unfolding given_up
    given_up_goes zero n own i few lock = goes_return w own i None (okay (Given own h)) (record { settled = λ f. f; lock = lock }, tt, tt)
    given_up_goes (suc left) n own i few lock =
        goes_link w own i of_stop (okay (Given own h)) p held (decimal n) (λ e. given_at p held n e (given_up p held (n + 1) left))
        (λ s. (may_link own i n ok lock s, tt))
        (goes_return w _ i (Some n) (okay (Given own h)) (put_there own n ok lock))
        (goes_more w _ i (given_up p held (n + 1) left) (okay (Given (did (step.Link p held (decimal n)) answer.Exists ∷ own) h)) (okay (Given own h)) (okay_more (Given (did (step.Link p held (decimal n)) answer.Exists ∷ own) h) (Given own h) (met_there own n))
        (given_up_goes left (n + 1) (did (step.Link p held (decimal n)) answer.Exists ∷ own) i (omega arith, (let l = few.1 in omega (arith, l))) (still (λ e. cc (e)) lock)))
        (goes_end w _ i (fault.Meddled p held) (Given own h))
      where
        ok : IsMsgNum n
        ok = (few.0, (let l = few.1 in omega (arith, l)))

    homed_goes : (own : List Deed) (i : Hand) (top : ℕ) → top ≤ 999999 → HasLock p own → Goes w own i (homed p h top) (okay (Given own h))
    unfolding homed
    homed_goes own i top small lock =
        goes_link w own i of_stop (okay (Given own h)) p held (decimal h.number) (λ e. given_at p held h.number e (given_from p held (max h.number top + 1)))
        (λ s. (may_link own i h.number pair.1 lock s, tt))
        (goes_return w _ i (Some h.number) (okay (Given own h)) (put_there own h.number pair.1 lock))
        (goes_more w _ i (given_from p held (max h.number top + 1)) (okay (Given (did (step.Link p held (decimal h.number)) answer.Exists ∷ own) h)) (okay (Given own h)) (okay_more (Given (did (step.Link p held (decimal h.number)) answer.Exists ∷ own) h) (Given own h) (met_there own h.number))
        (given_up_goes (1000000 - (max h.number top + 1)) (max h.number top + 1) (did (step.Link p held (decimal h.number)) answer.Exists ∷ own) i (omega arith, (let l = pair.1.1 in omega (arith, l, small))) (still (λ e. cc (e)) lock)))
        (goes_end w _ i (fault.Meddled p held) (Given own h))

    dropped_one_goes : (own : List Deed) (i : Hand) → HasLock p own → WasGivenAway p held own → Goes w own i (removed p held) (okay (Of (Held own p)))
    unfolding removed
    dropped_one_goes own i lock away =
        goes_unlink w own i of_stop (okay (Of (Held own p))) p held (held_to p held)
        (λ s. (record { is_own = careful s.unfailed Drops (drops p held (folder, held_is h pair, away)) (lets.drops own held) (lock_held p own lock); marks = tt; steps = λ no. lets.unlink own held (held_is h pair) away }, tt))
        (goes_return w _ i tt (okay (Of (Held own p))) (record { settled = λ f. settled_kept own (step.Unlink p held) answer.Done tt f; lock = still (λ e. cc (e)) lock }))
        (goes_end w _ i (fault.Meddled p held) (Of (Held own p)))

  -- one after another, behind those before
  pub record AllGiven (own : List Deed) (hs : List HeldPair) (before : List (Option ℕ)) (later : List Deed) (all : List (Option ℕ)) : Type 0 where
    pub ends : List (Option ℕ)
    pub all_so : all ≡ before ++ ends
    pub held : Held own p later
    pub given : Each WasGiven p hs ends later

  abbrev Gave : List Deed → List HeldPair → List (Option ℕ) → Outcome (List (Option ℕ))
  Gave own hs before later j all = AllGiven own hs before later all

  all_homed_goes : (hs : List HeldPair) → ArePairs hs → (top : ℕ) → top ≤ 999999 → (before : List (Option ℕ)) (own : List Deed) (i : Hand) → HasLock p own → Goes w own i (all_homed p hs top before) (okay (Gave own hs before))
  unfolding all_homed
  all_homed_goes [] pairs top small before own i lock =
      goes_return w own i before (okay (Gave own [] before)) (record { ends = []; all_so = sym (append-nil before); held = record { settled = λ f. f; lock = lock }; given = tt })
  all_homed_goes (h ∷ hs) pairs top small before own i lock =
      goes_then w own i (homed p h top) (λ end. all_homed p hs (top_after end top) (before ++ end ∷ [])) (Given own h) (Gave own (h ∷ hs) before) (homed_goes h pairs.0 own i top small lock)
      (λ later j end g. goes_more w later j (all_homed p hs (top_after end top) (before ++ end ∷ [])) (okay (λ last k all. Where WasGiven p h end last × Gave later hs (before ++ end ∷ []) last k all)) (okay (Gave own (h ∷ hs) before))
      (okay_more (λ last k all. Where WasGiven p h end last × Gave later hs (before ++ end ∷ []) last k all) (Gave own (h ∷ hs) before)
      (λ last k all q. record { ends = end ∷ q.1.ends; all_so = q.1.all_so ∙ append_assoc before (end ∷ []) q.1.ends; held = both_held p own later last g.0 q.1.held; given = (q.0, q.1.given) }))
      (lasting w (Where WasGiven p h end) (where_kept p h end) later j (all_homed p hs (top_after end top) (before ++ end ∷ [])) (Gave later hs (before ++ end ∷ [])) g.2
      (all_homed_goes hs pairs.1 (top_after end top) (end_small end top g.1 small) (before ++ end ∷ []) later j g.0.lock)))

  dropped_goes : (hs : List HeldPair) → ArePairs hs → (ends : List (Option ℕ)) (own : List Deed) (i : Hand) → HasLock p own → Each WasGivenAway p hs ends own → Goes w own i (dropped p hs ends) (okay (Of (Held own p)))
  unfolding dropped
  dropped_goes [] pairs ends own i lock away = goes_return w own i tt (okay (Of (Held own p))) (record { settled = λ f. f; lock = lock })
  dropped_goes (h ∷ hs) pairs [] own i lock away = goes_return w own i tt (okay (Of (Held own p))) (record { settled = λ f. f; lock = lock })
  dropped_goes (h ∷ hs) pairs (None ∷ ends) own i lock away = goes_on w own i tt (λ u. dropped p hs ends) (okay (Of (Held own p))) (dropped_goes hs pairs.1 ends own i lock away.1)
  dropped_goes (h ∷ hs) pairs (Some m ∷ ends) own i lock away =
      goes_lasting w (Each WasGivenAway p hs ends) (away_kept p hs ends) own i (removed p (held_name h)) (λ u. dropped p hs ends) (Of (Held own p)) (Of (Held own p)) away.1 (dropped_one_goes h pairs.0 own i lock away.0)
      (λ later j u rest g. goes_more w later j (dropped p hs ends) (okay (Of (Held later p))) (okay (Of (Held own p))) (okay_more (Of (Held later p)) (Of (Held own p)) (λ last k v q. both_held p own later last g q)) (dropped_goes hs pairs.1 ends later j g.lock rest))

  abbrev pub Kept : List Deed → Outcome (List (Option ℕ))
  Kept own later j ends = Held own p later

  synced_held : (own : List Deed) → HasLock p own → Held own p (did (step.SyncFolder p) answer.Done ∷ own)
  synced_held own lock = record { settled = λ f. settled_kept own (step.SyncFolder p) answer.Done tt f; lock = still (λ e. cc (e)) lock }

  for_good_goes : (hs : List HeldPair) → ArePairs hs → (ends : List (Option ℕ)) (m : ℕ) (own : List Deed) (i : Hand) → HasLock p own → Each WasGivenAway p hs ends own → Goes w own i (dropped_for_good p hs ends m) (okay (Of (Held own p)))
  unfolding dropped_for_good
  for_good_goes hs pairs ends m own i lock away =
      goes_then w own i (dropped p hs ends) (λ u. synced_at p m) (Of (Held own p)) (Of (Held own p)) (dropped_goes hs pairs ends own i lock away)
      (λ gone k v g. goes_more w gone k (synced_at p m) (okay (Adds gone (did (step.SyncFolder p) answer.Done))) (okay (Of (Held own p)))
      (okay_more (Adds gone (did (step.SyncFolder p) answer.Done)) (Of (Held own p)) (λ last l x f. subst (λ z. Held own p z) (sym f) (both_held p own gone (did (step.SyncFolder p) answer.Done ∷ gone) g (synced_held gone g.lock)))) (synced_goes w gone k p (decimal m)))

  safely_goes : (hs : List HeldPair) → ArePairs hs → (ends : List (Option ℕ)) (m : ℕ) (own : List Deed) (i : Hand) → HasLock p own → Each WasGiven p hs ends own → Goes w own i (dropped_safely p hs ends m) (okay (Kept own))
  unfolding dropped_safely
  safely_goes hs pairs ends m own i lock given =
      goes_then w own i (synced_at p m) (λ u. dropped_for_good p hs ends m >>= (λ u. Return (Ok ends))) (Adds own (did (step.SyncFolder p) answer.Done)) (Kept own) (synced_goes w own i p (decimal m))
      (λ safe j u e. goes_at w safe (did (step.SyncFolder p) answer.Done ∷ own) j (dropped_for_good p hs ends m >>= (λ u. Return (Ok ends))) (okay (Kept own)) e
      (goes_then w (did (step.SyncFolder p) answer.Done ∷ own) j (dropped_for_good p hs ends m) (λ u. Return (Ok ends)) (Of (Held (did (step.SyncFolder p) answer.Done ∷ own) p)) (Kept own)
      (for_good_goes hs pairs ends m (did (step.SyncFolder p) answer.Done ∷ own) j (synced_held own lock).lock (given_away p hs ends own given))
      (λ gone k v g. goes_return w gone k ends (okay (Kept own)) (both_held p own (did (step.SyncFolder p) answer.Done ∷ own) gone (synced_held own lock) g))))

  settled_by_goes : (hs : List HeldPair) → ArePairs hs → (ends : List (Option ℕ)) (o : Option ℕ) (own : List Deed) (i : Hand) → HasLock p own → Each WasGiven p hs ends own → Goes w own i (settled_by p hs ends o) (okay (Kept own))
  settled_by_goes hs pairs ends None own i lock given = goes_return w own i ends (okay (Kept own)) (record { settled = λ f. f; lock = lock })
  settled_by_goes hs pairs ends (Some m) own i lock given = safely_goes hs pairs ends m own i lock given

  -- what was settled of commits stays so, and the lock is had
  pub settle_goes : (hs : List HeldPair) → ArePairs hs → (top : ℕ) → top ≤ 999999 → (own : List Deed) (i : Hand) → HasLock p own → Goes w own i (settle p hs top) (okay (Kept own))
  unfolding settle
  settle_goes hs pairs top small own i lock =
      goes_then w own i (all_homed p hs top []) (λ ends. settled_by p hs ends (last_put ends None)) (Gave own hs []) (Kept own) (all_homed_goes hs pairs top small [] own i lock)
      (λ later j all g. goes_more w later j (settled_by p hs all (last_put all None)) (okay (Kept later)) (okay (Kept own)) (okay_more (Kept later) (Kept own) (λ last k ends q. both_held p own later last g.held q))
      (settled_by_goes hs pairs all (last_put all None) later j g.held.lock (subst (λ ends. Each WasGiven p hs ends later) (sym g.all_so) g.given)))
