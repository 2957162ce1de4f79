-- A message is put and made safe as its command pledges, and these are the deeds.
use Rattle.std.proofs.Common.{◌≡◌, ◌<◌, ◌≤◌, ◌^◌, ◌∷◌, ℕ, true, List, None, refl, sym, subst}
use Rattle.std.specs.Prelude.{decimal}
use Rattle.mh_base.specs.Numbers.{IsMsgNum}
use Rattle.folder_files.specs.Careful.{HasLock}
use Rattle.folder_files.specs.Deeds.{Deed, did, now, on, still}
use Rattle.folder_files.specs.Places.{is_folder}
use Rattle.folder_files.specs.declared.place.Place.{Place}
use Rattle.folder_files.specs.declared.step.Step.{Step}
use Rattle.folder_files.specs.declared.step.Step.TheVariants as step
use Rattle.folder_files.specs.declared.step.Answer.TheVariants as answer
use Rattle.file_plans.specs.Plan.{Hand}
use Rattle.file_plans.proofs.Showing.{number_kind}
use Rattle.step_plans.specs.Pledges.{Pledge}
use Rattle.step_plans.specs.Replacing.{synced}
use Rattle.step_plans.proofs.Facts.{settled_kept}
use Rattle.step_plans.proofs.Going.{Goes, Outcome, goes_then, okay}
use Rattle.step_plans.proofs.Lasting.{KeptBy}
use Rattle.step_plans.proofs.Pledged.{Held, synced_goes}
use Rattle.step_plans.proofs.Stepping.{goes_return}
use Rattle.step_plans.proofs.Written.{Adds, goes_at}
use Rattle.message_puts.specs.Putting.{message_put, message_stored}
use Rattle.message_puts.specs.Stored.{HasPutAt, HasStoredAt}
use Rattle.message_puts.proofs.PutPledged.{AsksPut, HasPut, IsPutBy, PutsMessages, put_goes, put_kept, put_ready}

-- the deeds by which a message was stored at this number: it was put there, and the folder was made safe
pub record IsStoredBy (run : ℕ) (p : Place) (bytes : List ℕ) (own : List Deed) (m : ℕ) (later : List Deed) : Type 0 where
  pub before : List Deed
  pub put : IsPutBy run p bytes own m before
  pub deeds : later ≡ did (step.SyncFolder p) answer.Done ∷ before

-- what each of these steps keeps, lasts until the message is stored
pub stored_keeps : (P : Step → Type 0) (F : List Deed → Type 0) → KeptBy P F → (run : ℕ) (p : Place) → AsksPut P p → P (step.SyncFolder p) → (bytes : List ℕ) (own : List Deed) (m : ℕ) (later : List Deed) → IsStoredBy run p bytes own m later → F own → F later
stored_keeps P F keeps run p asks sync bytes own m later t g =
    subst F (sym t.deeds) (keeps t.before (step.SyncFolder p) answer.Done sync (put_kept P F keeps run p asks bytes own m t.before t.put g))

-- and it is stored
pub was_stored : (run : ℕ) (p : Place) (bytes : List ℕ) (own : List Deed) (m : ℕ) (later : List Deed) → IsMsgNum m → IsStoredBy run p bytes own m later → HasStoredAt run p m bytes later
was_stored run p bytes own m later ok t = subst (HasStoredAt run p m bytes) (sym t.deeds) (now (refl, subst (HasPutAt run p m bytes) (sym t.put.deeds) (on (subst (HasPutAt run p m bytes) (sym t.put.link.deeds) put_there))))
  where
    put_there : HasPutAt run p m bytes (did (step.Link p t.put.temp (decimal m)) answer.Done ∷ t.put.link.older)
    put_there = now (record { temp = t.put.temp; linked = refl; is_own = t.put.is_own; at_number = rw (number_kind m ok) refl; ready = put_ready run p bytes own m t.before t.put })

module _ (w : Pledge) (few : w.run < 2 ^ 128) (p : Place) (bytes : List ℕ) (Known : ℕ → List Deed → Type 0) (Now : List Deed → Type 0) (lets : PutsMessages w p bytes Known None Now) (is_there : is_folder p ≡ true) where
  -- the message is stored at this number, and the lock is had
  abbrev pub HasStored : List Deed → Outcome ℕ
  HasStored own later j m = Held own p later × IsMsgNum m × HasStoredAt w.run p m bytes later × IsStoredBy w.run p bytes own m later × Known m later

  pub stored_goes : (top : ℕ) → top ≤ 999999 → (own : List Deed) (h : Hand) → Known top own → Now own → HasLock p own → Goes w own h (message_stored w.run p top bytes) (okay (HasStored own))
  unfolding message_stored
  stored_goes top small own h known current lock =
      goes_then w own h (message_put w.run p bytes None top) _ (HasPut w few p bytes Known None Now lets is_there own) (HasStored own) (put_goes w few p bytes Known None Now lets is_there tt top small own h known current lock)
      (λ later j m f.
      goes_then w later j (synced p (decimal m)) _ (Adds later (did (step.SyncFolder p) answer.Done)) (HasStored own) (synced_goes w later j p (decimal m))
      (λ last i u e. goes_at w last (did (step.SyncFolder p) answer.Done ∷ later) i _ (okay (HasStored own)) e (goes_return w _ i m (okay (HasStored own)) (safe later m f.0 f.1 f.2 f.3 f.4))))
    where
      safe : (later : List Deed) (m : ℕ) → Held own p later → IsMsgNum m → HasPutAt w.run p m bytes later → IsPutBy w.run p bytes own m later → Known m later → HasStored own (did (step.SyncFolder p) answer.Done ∷ later) (record { next = 0; context = None }) m
      safe later m held ok put by known_ = (
        record { settled = λ s. settled_kept later (step.SyncFolder p) answer.Done tt (held.settled s); lock = still (λ e. cc (e)) held.lock },
        ok,
        now (refl, put),
        record { before = later; put = by; deeds = refl },
        lets.kept m later (step.SyncFolder p) answer.Done tt known_,
      )
