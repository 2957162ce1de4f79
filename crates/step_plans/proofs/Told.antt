-- What a run put and synced by its own account is durable.
use Rattle.std.proofs.Common.{◌≡◌, ℕ, false, ◌==◌, ◌||◌, inl, inr, List, ◌∷◌, sym, subst}
use Rattle.folder_files.specs.Careful.{IsPutLink, WasReady}
use Rattle.folder_files.specs.Deeds.{Deed, did, Once, WasDone, now, on}
use Rattle.folder_files.specs.Directory.{now_in}
use Rattle.folder_files.specs.Histories.{world_after, own, has_acted, IsLive, IsLegal, begins, answers, fails, is_dead, delivers, crashes, crashes_within, stops, AreCareful}
use Rattle.folder_files.specs.Steps.{made, Fits}
use Rattle.folder_files.specs.Worlds.{WorldMap, shown, IsStart}
use Rattle.folder_files.specs.declared.event.After.{After}
use Rattle.folder_files.specs.declared.event.After.TheVariants.{Before, Made}
use Rattle.folder_files.specs.declared.event.Event.{Event}
use Rattle.folder_files.specs.declared.event.Event.TheVariants.{Act, Deliver, Crash, End}
use Rattle.folder_files.specs.declared.place.Place.{Place}
use Rattle.folder_files.specs.declared.step.Answer.{Answer}
use Rattle.folder_files.specs.declared.step.Answer.TheVariants.{Done, Failed}
use Rattle.folder_files.specs.declared.step.Step.{Step}
use Rattle.folder_files.specs.declared.step.Step.TheVariants as step
use Rattle.folder_files.specs.declared.world.World.{World}
use Rattle.step_plans.specs.Durable.{WasPut, IsDurable, HasPut, HasPutAndSynced, now, on}
use Rattle.step_plans.specs.Moments.{HasLed, now, on}
use Rattle.step_plans.specs.Starts.{HasNoneOfTheirs}
use Rattle.folder_files.proofs.Names.{not_both, or_left, or_false, is_temp_any}
use Rattle.folder_files.proofs.Effects.{IsNext, answered, failed, refused, link_done, fits_as, world_deliver, world_crash, world_end, world_next}
use Rattle.step_plans.proofs.Past.{did_step, did_answer, once_none, once_case, acted, folder_lock}
use Rattle.step_plans.proofs.Inv.{Inv}
use Rattle.step_plans.proofs.Crashes.{ended_by}
use Rattle.step_plans.proofs.Law.{inv, none_before, within_ended}

-- by its own deeds the run put the file that it had made under this name, and then it synced the folder
abbrev pub HasPutAs : ℕ → Place → List ℕ → List ℕ → List Deed → Type 0
HasPutAs r p t b deeds = Once (λ d older. IsPutLink r p t d × WasReady p t b older) deeds

abbrev pub HasSyncedAs : ℕ → Place → List ℕ → List ℕ → List Deed → Type 0
HasSyncedAs r p t b deeds = Once (λ d older. (d ≡ did (step.SyncFolder p) Done) × HasPutAs r p t b older) deeds

put_as : (r : ℕ) (p : Place) (b : List ℕ) {deeds : List Deed} → HasPut r p b deeds → (t : List ℕ) × HasPutAs r p t b deeds
put_as r p b (now z) = (z.0, now (z.1, z.2))
put_as r p b (on w) = let k = put_as r p b w in (k.0, on k.1)

synced_as : (r : ℕ) (p : Place) (b : List ℕ) {deeds : List Deed} → HasPutAndSynced r p b deeds → (t : List ℕ) × HasSyncedAs r p t b deeds
synced_as r p b (now z) = let k = put_as r p b z.1 in (k.0, now (z.0, k.1))
synced_as r p b (on w) = let k = synced_as r p b w in (k.0, on k.1)

-- the name led to a file that was put
abbrev PutHere : World → Place → List ℕ → List ℕ → List Event → Type 0
PutHere start p t b past = (g : ℕ) × WasPut start p g b past × HasLed start p t g past

abbrev pub DurableHere : World → Place → List ℕ → List ℕ → List Event → Type 0
DurableHere start p t b past = (g : ℕ) × IsDurable start p g b past × HasLed start p t g past

was_created : {p : Place} {t b : List ℕ} {deeds : List Deed} → WasReady p t b deeds → WasDone (step.Create p t b) deeds
was_created (now z) = on z.1
was_created (on w) = on (was_created w)

put_act : (start : World) (past : List Event) (r : ℕ) (p : Place) (o : ℕ) (t b : List ℕ) (s : Step) (a : Answer) (m : After) → (a ≡ Done → Fits (world_after start past) o s a) → Inv start past → IsLive r (world_after start past)
    → (HasPutAs r p t b (own r past) → PutHere start p t b past) → HasPutAs r p t b (own r (Act o s a m ∷ past)) → PutHere start p t b (Act o s a m ∷ past)
put_act start past r p o t b s a m fits i lv rest w = elim (once_case r o s a m past w) [
  | inl y ↦ just y.1.0 y.1.1
  | inr y ↦ (let x = rest y in (x.0, on tt x.1, on x.2))
]
  where
    just : IsPutLink r p t (did s a) → WasReady p t b (own r past) → PutHere start p t b (Act o s a m ∷ past)
    just l ready =
        let es = did_step l.1 in let ea = did_answer l.1 in
        let z = link_done (now_in ((world_after start past).directories p) t) (now_in ((world_after start past).directories p) l.0) (fits_as (world_after start past) o s (step.Link p t l.0) a Done es ea (fits ea)) in (
          z.0.0,
          subst (λ (k : Step). WasPut start p z.0.0 b (Act o k a m ∷ past)) (sym es) (subst (λ (k : Answer). WasPut start p z.0.0 b (Act o (step.Link p t l.0) k m ∷ past)) (sym ea)
              (now l.4 (is_temp_any r t l.2) l.3 z.0.1 (i.temps r p t z.0.0 b (folder_lock p l.4) l.2 lv (was_created ready) z.0.1))),
          on (now z.0.1),
        )

durable_act : (start : World) (past : List Event) (r : ℕ) (p : Place) (o : ℕ) (t b : List ℕ) (s : Step) (a : Answer) (m : After) → (o ≡ r → a ≡ Done → HasPutAs r p t b (own r past) → PutHere start p t b past)
    → (HasSyncedAs r p t b (own r past) → DurableHere start p t b past) → HasSyncedAs r p t b (own r (Act o s a m ∷ past)) → DurableHere start p t b (Act o s a m ∷ past)
durable_act start past r p o t b s a m put rest w = elim (once_case r o s a m past w) [
  | inl y ↦ just y.0 y.1.0 y.1.1
  | inr y ↦ (let x = rest y in (x.0, on x.1, on x.2))
]
  where
    just : o ≡ r → did s a ≡ did (step.SyncFolder p) Done → HasPutAs r p t b (own r past) → DurableHere start p t b (Act o s a m ∷ past)
    just er e h =
        let es = did_step e in let ea = did_answer e in let x = put er ea h in
        (x.0, subst (λ (k : Step). IsDurable start p x.0 b (Act o k a m ∷ past)) (sym es) (subst (λ (k : Answer). IsDurable start p x.0 b (Act o (step.SyncFolder p) k m ∷ past)) (sym ea) (now x.1)), on x.2)

pub lives_before : (start : World) (r o : ℕ) (s : Step) (a : Answer) (m : After) (past : List Event) → IsNext (world_after start past) o s a m → IsLive r (world_after start (Act o s a m ∷ past)) → IsLive r (world_after start past)
lives_before start r o s a m past nx lv = subst (λ (z : WorldMap). z.ended r ≡ false) (world_next start o s a m past nx) lv

put_told : (start : World) (r : ℕ) (p : Place) (t b : List ℕ) {past : List Event} → IsStart start → IsLegal start past → AreCareful past → HasNoneOfTheirs start past → IsLive r (world_after start past) → HasPutAs r p t b (own r past) → PutHere start p t b past
unfolding own
put_told start r p t b st begins careful none lv w = absurd (once_none w)
put_told start r p t b st (answers o s a {past = past} l alive fits) careful none lv w = let none_b = none_before start o s a Made past none in let lv_b = lives_before start r o s a Made past (answered a alive fits) lv in
    put_act start past r p o t b s a Made (λ e. fits) (inv start st l careful.1 none_b) lv_b (λ z. put_told start r p t b st l careful.1 none_b lv_b z) w
put_told start r p t b st (fails o s m {past = past} l alive may) careful none lv w = let none_b = none_before start o s Failed m past none in let lv_b = lives_before start r o s Failed m past (failed m alive may) lv in
    put_act start past r p o t b s Failed m (λ e. absurd (cc (e))) (inv start st l careful.1 none_b) lv_b (λ z. put_told start r p t b st l careful.1 none_b lv_b z) w
put_told start r p t b st (is_dead o s {past = past} l d) careful none lv w = let none_b = none_before start o s Failed Before past none in let lv_b = lives_before start r o s Failed Before past (refused d) lv in
    put_act start past r p o t b s Failed Before (λ e. absurd (cc (e))) (inv start st l careful.1 none_b) lv_b (λ z. put_told start r p t b st l careful.1 none_b lv_b z) w
put_told start r p t b st (delivers path piece {past = past} l) careful none lv w = let x = put_told start r p t b st l careful none (delivered lv) w in (x.0, on tt x.1, on x.2)
  where
    delivered : IsLive r (world_after start (Deliver path piece ∷ past)) → IsLive r (world_after start past)
    delivered lv = subst (λ (z : WorldMap). z.ended r ≡ false) (world_deliver start path piece past) lv
put_told start r p t b st (crashes v {past = past} l image) careful none lv w =
    absurd (not_both ((world_after start (Crash v ∷ past)).ended r) (ended_by start v past r (image.ended r (or_left (has_acted past r) ((world_after start past).ended r) (acted r past w)))) lv)
put_told start r p t b st (crashes_within v o s {past = past} l alive image) careful none lv w =
    absurd (not_both ((shown v).ended r) (image.ended r (or_left ((o == r) || has_acted past r) ((made (world_after start past) o s).ended r) (acted r (Act o s Failed Before ∷ (Crash v ∷ past)) w))) after)
  where
    after : (shown v).ended r ≡ false
    after = subst (λ (z : WorldMap). z.ended r ≡ false) (world_crash start v past) (lives_before start r o s Failed Before (Crash v ∷ past) (refused (ended_by start v past o (within_ended o v past (made (world_after start past) o s).ended image.ended))) lv)
put_told start r p t b st (stops o {past = past} l) careful none lv w = let x = put_told start r p t b st l careful none (ended lv) w in (x.0, on tt x.1, on x.2)
  where
    ended : IsLive r (world_after start (End o ∷ past)) → IsLive r (world_after start past)
    ended lv = (or_false (o == r) ((world_after start past).ended r) (subst (λ (z : WorldMap). z.ended r ≡ false) (world_end start o past) lv)).1

-- it stays so whatever comes, also once the run has ended
pub durable_as : (start : World) (r : ℕ) (p : Place) (t b : List ℕ) {past : List Event} → IsStart start → IsLegal start past → AreCareful past → HasNoneOfTheirs start past → HasSyncedAs r p t b (own r past) → DurableHere start p t b past
unfolding own
durable_as start r p t b st begins careful none w = absurd (once_none w)
durable_as start r p t b st (answers o s a {past = past} l alive fits) careful none w = let none_b = none_before start o s a Made past none in durable_act start past r p o t b s a Made
    (λ er ea z. put_told start r p t b st l careful.1 none_b (subst (λ (x : ℕ). IsLive x (world_after start past)) er alive) z)
    (λ z. durable_as start r p t b st l careful.1 none_b z) w
durable_as start r p t b st (fails o s m {past = past} l alive may) careful none w = let none_b = none_before start o s Failed m past none in
    durable_act start past r p o t b s Failed m (λ er ea z. absurd (cc (ea))) (λ z. durable_as start r p t b st l careful.1 none_b z) w
durable_as start r p t b st (is_dead o s {past = past} l d) careful none w = let none_b = none_before start o s Failed Before past none in
    durable_act start past r p o t b s Failed Before (λ er ea z. absurd (cc (ea))) (λ z. durable_as start r p t b st l careful.1 none_b z) w
durable_as start r p t b st (delivers path piece l) careful none w = let x = durable_as start r p t b st l careful none w in (x.0, on x.1, on x.2)
durable_as start r p t b st (crashes v {past = past} l image) careful none w = let x = durable_as start r p t b st l careful none w in (x.0, on x.1, on x.2)
durable_as start r p t b st (crashes_within v o s {past = past} l alive image) careful none w = let none_b = none_before start o s Failed Before (Crash v ∷ past) none in
    durable_act start (Crash v ∷ past) r p o t b s Failed Before (λ er ea z. absurd (cc (ea))) (λ z. (let x = durable_as start r p t b st l careful.1 none_b z in (x.0, on x.1, on x.2))) w
durable_as start r p t b st (stops o {past = past} l) careful none w = let x = durable_as start r p t b st l careful none w in (x.0, on x.1, on x.2)

pub durable_told : (start : World) (r : ℕ) (p : Place) (b : List ℕ) {past : List Event} → IsStart start → IsLegal start past → AreCareful past → HasNoneOfTheirs start past → HasPutAndSynced r p b (own r past) → (g : ℕ) × IsDurable start p g b past
durable_told start r p b st l careful none w = let k = synced_as r p b w in let x = durable_as start r p k.0 b st l careful none k.1 in (x.0, x.1)
