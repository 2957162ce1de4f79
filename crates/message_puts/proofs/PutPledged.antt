-- A put goes as its command pledges: a file is made safe under a temporary name before a number leads to it.
use Rattle.std.proofs.Common.{◌≡◌, ◌⊎◌, inl, inr, Bool, false, nat_le, ◌<◌, ◌≤◌, ◌^◌, ◌+◌, ◌-◌, ◌∷◌, ℕ, zero, suc, max, true, List, Option, Some, None, Ok, refl, sym, subst, arith}
use Rattle.std.specs.Prelude.{decimal}
use Rattle.std.proofs.lemmas.Bool.Decides.{nat_tests}
use Rattle.mh_base.specs.Entries.{kind_of}
use Rattle.mh_base.specs.Numbers.{IsMsgNum}
use Rattle.mh_base.specs.declared.entry.Entry.{Entry}
use Rattle.mh_base.specs.declared.entry.Entry.TheVariants as entry
use Rattle.folder_files.specs.Careful.{HasLock, Puts, WasReady, WasSynced, puts}
use Rattle.folder_files.specs.Commands.{MakesStep}
use Rattle.folder_files.specs.Deeds.{Deed, did, now, on, still}
use Rattle.folder_files.specs.Named.{is_number, is_temp, is_temp_of}
use Rattle.folder_files.specs.Places.{is_folder}
use Rattle.folder_files.specs.declared.place.Place.{Place}
use Rattle.folder_files.specs.declared.step.Step.{Step}
use Rattle.folder_files.specs.declared.step.Step.TheVariants as step
use Rattle.folder_files.specs.declared.step.Answer.TheVariants as answer
use Rattle.file_plans.specs.Plan.{Hand, Return, ◌>>=◌}
use Rattle.file_plans.specs.StaysCareful.{careful}
use Rattle.file_plans.proofs.Showing.{number_kind}
use Rattle.file_plans.proofs.Framing.{AnyStep}
use Rattle.held_messages.specs.Settle.{given_at, given_from, given_up}
use Rattle.held_messages.proofs.Linking.{IsEnd}
use Rattle.step_plans.specs.Locking.{removed}
use Rattle.step_plans.specs.Pledges.{MayAsk, Pledge}
use Rattle.step_plans.specs.PlanFaults.{of_stop}
use Rattle.step_plans.specs.Replacing.{written}
use Rattle.step_plans.specs.Settled.{AreSettled}
use Rattle.step_plans.specs.declared.fault.PlanFault.TheVariants as fault
use Rattle.step_plans.proofs.Facts.{settled_kept}
use Rattle.step_plans.proofs.Going.{Goes, Outcome, Sound, goes_more, goes_then, okay, okay_more}
use Rattle.step_plans.proofs.Lasting.{KeptBy}
use Rattle.step_plans.proofs.Past.{once_map}
use Rattle.step_plans.proofs.Pledged.{Held, removed_goes}
use Rattle.step_plans.proofs.Stepping.{goes_end, goes_link, goes_return}
use Rattle.step_plans.proofs.Written.{Adds, Serves, Written, goes_at, lock_held, written_goes}
use Rattle.message_puts.specs.Putting.{linked_first, message_put, number_got, numbered}
use Rattle.message_puts.specs.Stored.{HasPutAt}

-- a file with these bytes was made and made safe
abbrev pub made_ready : Place → List ℕ → List ℕ → List Deed → List Deed
made_ready p temp bytes own = did (step.SyncFile p temp) answer.Done ∷ (did (step.Create p temp bytes) answer.Done ∷ own)

-- the number is one above a known one at most
abbrev pub IsNear : (ℕ → List Deed → Type 0) → ℕ → List Deed → Type 0
IsNear Known n own = (m : ℕ) × (n ≤ m + 1) × Known m own

-- it is the one that is wished for, or so
abbrev pub MayReach : (ℕ → List Deed → Type 0) → Option ℕ → ℕ → List Deed → Type 0
MayReach Known wish n own = (wish ≡ Some n) ⊎ IsNear Known n own

-- the pledge lets messages be put into this folder, at numbers near to known ones, while this is so; what was linked, or met by a link, is known
pub record PutsMessages (w : Pledge) (p : Place) (bytes : List ℕ) (Known : ℕ → List Deed → Type 0) (wish : Option ℕ) (Now : List Deed → Type 0) : Type 0 where
  pub serves : Serves w p
  pub puts : (own : List Deed) (temp number : List ℕ) → WasReady p temp bytes own → Now own → MakesStep w.manner own Puts (step.Link p temp number)
  pub link : (own : List Deed) (temp : List ℕ) (n : ℕ) → is_temp_of w.run (kind_of temp) ≡ true → is_number (kind_of (decimal n)) ≡ true → MayReach Known wish n own → WasReady p temp bytes own → Now own → w.may_step own (step.Link p temp (decimal n))
  pub kept : (n : ℕ) → KeptBy AnyStep (Known n)
  pub linked : (own : List Deed) (temp : List ℕ) (n : ℕ) → Known n (did (step.Link p temp (decimal n)) answer.Done ∷ own)
  pub met : (own : List Deed) (temp : List ℕ) (n : ℕ) → Known n (did (step.Link p temp (decimal n)) answer.Exists ∷ own)
  pub made_now : (own : List Deed) (temp : List ℕ) → Now own → Now (made_ready p temp bytes own)
  pub met_now : (own : List Deed) (temp : List ℕ) (n : ℕ) → Now own → Now (did (step.Link p temp (decimal n)) answer.Exists ∷ own)

was_synced : (p : Place) (temp bytes : List ℕ) (own : List Deed) → WasReady p temp bytes own → WasSynced p temp own
was_synced p temp bytes own w = once_map (λ d older f. (f.0, once_map (λ x old e. (bytes, e)) f.1)) w

pub is_temp_any : (run : ℕ) (k : Entry) → is_temp_of run k ≡ true → is_temp k ≡ true
is_temp_any run (entry.Temp r n) e = refl
is_temp_any run (entry.Number n) e = cc (e)
is_temp_any run (entry.Backup n) e = cc (e)
is_temp_any run (entry.Held r n) e = cc (e)
is_temp_any run entry.Sequences e = cc (e)
is_temp_any run entry.LockFile e = cc (e)
is_temp_any run entry.Other e = cc (e)

le_or : (a b : ℕ) → (nat_le a b ≡ true → a ≤ b) × (nat_le a b ≡ false → b ≤ a)
le_or a b = ((λ e. grind (arith, nat_tests, e)), (λ e. grind (arith, nat_tests, e)))

-- after these deeds the file of this name was linked to numbers that were taken
pub data Tries (p : Place) (temp : List ℕ) (base : List Deed) : List Deed → Type 0 where
  untried : Tries p temp base base
  tried : {own : List Deed} (n : ℕ) → Tries p temp base own → Tries p temp base (did (step.Link p temp (decimal n)) answer.Exists ∷ own)

-- and then to this number
pub record IsLinked (p : Place) (temp : List ℕ) (base : List Deed) (m : ℕ) (later : List Deed) : Type 0 where
  pub older : List Deed
  pub tries : Tries p temp base older
  pub deeds : later ≡ did (step.Link p temp (decimal m)) answer.Done ∷ older

-- the deeds of a put: a file of the run was made, linked to this number, and lost its temporary name
pub record IsPutBy (run : ℕ) (p : Place) (bytes : List ℕ) (own : List Deed) (m : ℕ) (later : List Deed) : Type 0 where
  pub temp : List ℕ
  pub is_own : is_temp_of run (kind_of temp) ≡ true
  pub linked : List Deed
  pub link : IsLinked p temp (made_ready p temp bytes own) m linked
  pub deeds : later ≡ did (step.Unlink p temp) answer.Done ∷ linked

module _ (w : Pledge) (few : w.run < 2 ^ 128) (p : Place) (bytes : List ℕ) (Known : ℕ → List Deed → Type 0) (wish : Option ℕ) (Now : List Deed → Type 0) (lets : PutsMessages w p bytes Known wish Now) (folder : is_folder p ≡ true) where
  further : (own : List Deed) (d : Deed) (later : List Deed) → (AreSettled own → AreSettled (d ∷ own)) → Held (d ∷ own) p later → Held own p later
  further own d later f c = record { settled = λ s. c.settled (f s); lock = c.lock }

  is_numbered : (n : ℕ) → IsMsgNum n → is_number (kind_of (decimal n)) ≡ true
  is_numbered n ok = rw (number_kind n ok) refl

  -- the file of this name is ready, after these deeds
  module _ (temp : List ℕ) (is_own : is_temp_of w.run (kind_of temp) ≡ true) (base : List Deed) where
    -- the number at which it was put, if at any
    abbrev PutThere : Option ℕ → List Deed → Type 0
    PutThere None own = Unit {0}
    PutThere (Some m) own = HasPutAt w.run p m bytes own × IsLinked p temp base m own × Known m own

    abbrev Linked : List Deed → Outcome (Option ℕ)
    Linked own later j end = Held own p later × IsEnd end × PutThere end later

    -- the lock is had, and the file is ready
    pub record MayLink (own : List Deed) : Type 0 where
      pub lock : HasLock p own
      pub ready : WasReady p temp bytes own
      pub tries : Tries p temp base own
      pub current : Now own

    may_link : (own : List Deed) (i : Hand) (n : ℕ) → IsMsgNum n → MayReach Known wish n own → MayLink own → Sound w own i → MayAsk w own (step.Link p temp (decimal n))
    may_link own i n ok near l s = record {
      is_own = careful s.unfailed Puts (puts p temp (decimal n) (folder, is_numbered n ok, (is_own, was_synced p temp bytes own l.ready))) (lets.puts own temp (decimal n) l.ready l.current) (lock_held p own l.lock);
      marks = tt;
      steps = λ no. lets.link own temp n is_own (is_numbered n ok) near l.ready l.current;
    }

    put_there : (own : List Deed) (n : ℕ) → IsMsgNum n → MayLink own → Linked own (did (step.Link p temp (decimal n)) answer.Done ∷ own) (record { next = 0; context = None }) (Some n)
    put_there own n ok l = (
      record { settled = λ f. settled_kept own (step.Link p temp (decimal n)) answer.Done tt f; lock = still (λ e. cc (e)) l.lock },
      ok,
      (now (record { temp = temp; linked = refl; is_own = is_own; at_number = is_numbered n ok; ready = l.ready }), record { older = own; tries = l.tries; deeds = refl }, lets.linked own temp n),
    )

    met_there : (own : List Deed) (n : ℕ) (later : List Deed) (j : Hand) (end : Option ℕ) → Linked (did (step.Link p temp (decimal n)) answer.Exists ∷ own) later j end → Linked own later j end
    met_there own n later j end g = (further own (did (step.Link p temp (decimal n)) answer.Exists) later (λ f. settled_kept own (step.Link p temp (decimal n)) answer.Exists tt f) g.0, g.1, g.2)

    link_on : (own : List Deed) (n : ℕ) → MayLink own → MayLink (did (step.Link p temp (decimal n)) answer.Exists ∷ own)
    link_on own n l = record { lock = still (λ e. cc (e)) l.lock; ready = on l.ready; tries = tried n l.tries; current = lets.met_now own temp n l.current }

    up_goes : (left n : ℕ) (own : List Deed) (i : Hand) → (1 ≤ n) × (n + left ≤ 1000000) → IsNear Known n own → MayLink own → Goes w own i (given_up p temp n left) (okay (Linked own))
    unfolding given_up
    up_goes zero n own i range near l = goes_return w own i None (okay (Linked own)) (record { settled = λ f. f; lock = l.lock }, tt, tt)
    up_goes (suc left) n own i range near l =
        goes_link w own i of_stop (okay (Linked own)) p temp (decimal n) (λ e. given_at p temp n e (given_up p temp (n + 1) left))
        (λ s. (may_link own i n ok (inr near) l s, tt))
        (goes_return w _ i (Some n) (okay (Linked own)) (put_there own n ok l))
        (goes_more w _ i (given_up p temp (n + 1) left) (okay (Linked (did (step.Link p temp (decimal n)) answer.Exists ∷ own))) (okay (Linked own)) (okay_more (Linked (did (step.Link p temp (decimal n)) answer.Exists ∷ own)) (Linked own) (met_there own n))
        (up_goes left (n + 1) (did (step.Link p temp (decimal n)) answer.Exists ∷ own) i (omega arith, (let r = range.1 in omega (arith, r))) (n, omega arith, lets.met own temp n) (link_on own n l)))
        (goes_end w _ i (fault.Meddled p temp) (Linked own))
      where
        ok : IsMsgNum n
        ok = (range.0, (let r = range.1 in omega (arith, r)))

    from_goes : (n : ℕ) (own : List Deed) (i : Hand) → 1 ≤ n → n ≤ 1000000 → IsNear Known n own → MayLink own → Goes w own i (given_from p temp n) (okay (Linked own))
    from_goes n own i low high near l = up_goes (1000000 - n) n own i (low, omega (arith, high)) near l

    -- one above the higher of two known numbers
    higher : (n top : ℕ) (later : List Deed) → Known n later → Known top later → IsNear Known (max n top + 1) later
    higher n top later a b = go (nat_le n top) (le_or n top)
      where
        go : (v : Bool) → (v ≡ true → n ≤ top) × (v ≡ false → top ≤ n) → IsNear Known (max n top + 1) later
        go true f = (top, (let l = f.0 refl in omega (arith, l)), b)
        go false f = (n, (let l = f.1 refl in omega (arith, l)), a)

    -- the wish, if any, is a number of messages
    first_goes : (v : Option ℕ) → wish ≡ v → IsEnd v → (top : ℕ) → top ≤ 999999 → (own : List Deed) (i : Hand) → Known top own → MayLink own → Goes w own i (linked_first p temp v top) (okay (Linked own))
    unfolding linked_first
    first_goes None is ok top small own i known l = from_goes (top + 1) own i (omega arith) (omega (arith, small)) (top, omega arith, known) l
    first_goes (Some n) is ok top small own i known l =
        goes_link w own i of_stop (okay (Linked own)) p temp (decimal n) (λ e. given_at p temp n e (given_from p temp (max n top + 1)))
        (λ s. (may_link own i n ok (inl is) l s, tt))
        (goes_return w _ i (Some n) (okay (Linked own)) (put_there own n ok l))
        (goes_more w _ i (given_from p temp (max n top + 1)) (okay (Linked (did (step.Link p temp (decimal n)) answer.Exists ∷ own))) (okay (Linked own)) (okay_more (Linked (did (step.Link p temp (decimal n)) answer.Exists ∷ own)) (Linked own) (met_there own n))
        (from_goes (max n top + 1) (did (step.Link p temp (decimal n)) answer.Exists ∷ own) i (omega arith) (let r = ok.1 in omega (arith, r, small)) (higher n top (did (step.Link p temp (decimal n)) answer.Exists ∷ own) (lets.met own temp n) (lets.kept top own (step.Link p temp (decimal n)) answer.Exists tt known)) (link_on own n l)))
        (goes_end w _ i (fault.Meddled p temp) (Linked own))

    -- at this number it was put
    abbrev Numbered : List Deed → Outcome ℕ
    Numbered own later j m = Held own p later × IsMsgNum m × PutThere (Some m) later

    numbered_goes : IsEnd wish → (top : ℕ) → top ≤ 999999 → (own : List Deed) (i : Hand) → Known top own → MayLink own → Goes w own i (numbered p temp wish top) (okay (Numbered own))
    unfolding numbered
    numbered_goes ok top small own i known l = goes_then w own i (linked_first p temp wish top) number_got (Linked own) (Numbered own) (first_goes wish refl ok top small own i known l) got
      where
        got : (later : List Deed) (j : Hand) (end : Option ℕ) → Linked own later j end → Goes w later j (number_got end) (okay (Numbered own))
        got later j None f = goes_end w later j fault.Full (Numbered own)
        got later j (Some m) f = goes_return w later j m (okay (Numbered own)) f

  -- a message with these bytes was put at this number by such deeds, and the lock is had
  abbrev pub HasPut : List Deed → Outcome ℕ
  HasPut own later j m = Held own p later × IsMsgNum m × HasPutAt w.run p m bytes later × IsPutBy w.run p bytes own m later × Known m later

  -- under the folder's lock
  pub put_goes : IsEnd wish → (top : ℕ) → top ≤ 999999 → (own : List Deed) (h : Hand) → Known top own → Now own → HasLock p own → Goes w own h (message_put w.run p bytes wish top) (okay (HasPut own))
  unfolding message_put
  put_goes ok top small own h known current lock =
      goes_then w own h (written w.run p bytes) _ (Written w few p lets.serves own bytes) (HasPut own) (written_goes w few p lets.serves own h bytes (λ l. lock))
      (λ later j temp q. goes_at w later (made_ready p temp bytes own) j _ (okay (HasPut own)) q.0 (then_numbered temp q.1 j))
    where
      known_ready : (temp : List ℕ) → Known top (made_ready p temp bytes own)
      known_ready temp = lets.kept top (did (step.Create p temp bytes) answer.Done ∷ own) (step.SyncFile p temp) answer.Done tt (lets.kept top own (step.Create p temp bytes) answer.Done tt known)

      settled_ready : (temp : List ℕ) → AreSettled own → AreSettled (made_ready p temp bytes own)
      settled_ready temp f =
          settled_kept (did (step.Create p temp bytes) answer.Done ∷ own) (step.SyncFile p temp) answer.Done tt (settled_kept own (step.Create p temp bytes) answer.Done tt f)

      unlinked : (temp : List ℕ) (is_own : is_temp_of w.run (kind_of temp) ≡ true) (later : List Deed) (k : Hand) (m : ℕ) → Numbered temp is_own (made_ready p temp bytes own) (made_ready p temp bytes own) later k m → HasPut own (did (step.Unlink p temp) answer.Done ∷ later) k m
      unlinked temp is_own later k m f = (
        record { settled = λ s. settled_kept later (step.Unlink p temp) answer.Done tt (f.0.settled (settled_ready temp s)); lock = still (λ e. cc (e)) f.0.lock },
        f.1,
        on f.2.0,
        record { temp = temp; is_own = is_own; linked = later; link = f.2.1; deeds = refl },
        lets.kept m later (step.Unlink p temp) answer.Done tt f.2.2,
      )

      then_numbered : (temp : List ℕ) → is_temp_of w.run (kind_of temp) ≡ true → (j : Hand) → Goes w (made_ready p temp bytes own) j (numbered p temp wish top >>= (λ number. removed p temp >>= (λ gone. Return (Ok number)))) (okay (HasPut own))
      then_numbered temp is_own j =
          goes_then w (made_ready p temp bytes own) j (numbered p temp wish top) _ (Numbered temp is_own (made_ready p temp bytes own) (made_ready p temp bytes own)) (HasPut own)
          (numbered_goes temp is_own (made_ready p temp bytes own) ok top small (made_ready p temp bytes own) j (known_ready temp) (record { lock = still (λ e. cc (e)) (still (λ e. cc (e)) lock); ready = now (refl, now refl); tries = untried; current = lets.made_now own temp current }))
          (λ later k m f.
          goes_then w later k (removed p temp) _ (Adds later (did (step.Unlink p temp) answer.Done)) (HasPut own) (removed_goes w p lets.serves later k temp (is_temp_any w.run (kind_of temp) is_own) (λ l. f.0.lock))
          (λ last i u e. goes_at w last (did (step.Unlink p temp) answer.Done ∷ later) i _ (okay (HasPut own)) e (goes_return w _ i m (okay (HasPut own)) (unlinked temp is_own later i m f))))

-- what the steps of a put keep, lasts until the file is linked, and until its temporary name is gone
pub record AsksPut (P : Step → Type 0) (p : Place) : Type 0 where
  pub create : (temp bytes : List ℕ) → P (step.Create p temp bytes)
  pub sync : (temp : List ℕ) → P (step.SyncFile p temp)
  pub link : (temp number : List ℕ) → P (step.Link p temp number)
  pub unlink : (temp : List ℕ) → P (step.Unlink p temp)

tries_kept : (P : Step → Type 0) (F : List Deed → Type 0) → KeptBy P F → (p : Place) → AsksPut P p → (temp : List ℕ) (base older : List Deed) → Tries p temp base older → F base → F older
tries_kept P F keeps p asks temp base _ untried f = f
tries_kept P F keeps p asks temp base _ (tried {own = older} n t) f = keeps older (step.Link p temp (decimal n)) answer.Exists (asks.link temp (decimal n)) (tries_kept P F keeps p asks temp base older t f)

pub linking_kept : (P : Step → Type 0) (F : List Deed → Type 0) → KeptBy P F → (run : ℕ) (p : Place) → AsksPut P p → (bytes : List ℕ) (own : List Deed) (m : ℕ) (later : List Deed) (b : IsPutBy run p bytes own m later) → F own → F b.link.older
linking_kept P F keeps run p asks bytes own m later b f =
    tries_kept P F keeps p asks b.temp (made_ready p b.temp bytes own) b.link.older b.link.tries
    (keeps (did (step.Create p b.temp bytes) answer.Done ∷ own) (step.SyncFile p b.temp) answer.Done (asks.sync b.temp) (keeps own (step.Create p b.temp bytes) answer.Done (asks.create b.temp bytes) f))

pub put_kept : (P : Step → Type 0) (F : List Deed → Type 0) → KeptBy P F → (run : ℕ) (p : Place) → AsksPut P p → (bytes : List ℕ) (own : List Deed) (m : ℕ) (later : List Deed) → IsPutBy run p bytes own m later → F own → F later
put_kept P F keeps run p asks bytes own m later b f =
    subst F (sym b.deeds)
    (keeps b.linked (step.Unlink p b.temp) answer.Done (asks.unlink b.temp)
    (subst F (sym b.link.deeds) (keeps b.link.older (step.Link p b.temp (decimal m)) answer.Done (asks.link b.temp (decimal m)) (linking_kept P F keeps run p asks bytes own m later b f))))

tries_ready : (p : Place) (temp bytes : List ℕ) (base older : List Deed) → Tries p temp base older → WasReady p temp bytes base → WasReady p temp bytes older
tries_ready p temp bytes base _ untried w = w
tries_ready p temp bytes base _ (tried {own = older} n t) w = on (tries_ready p temp bytes base older t w)

pub put_ready : (run : ℕ) (p : Place) (bytes : List ℕ) (own : List Deed) (m : ℕ) (later : List Deed) (b : IsPutBy run p bytes own m later) → WasReady p b.temp bytes b.link.older
put_ready run p bytes own m later b = tries_ready p b.temp bytes (made_ready p b.temp bytes own) b.link.older b.link.tries (now (refl, now refl))
