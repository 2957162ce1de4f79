-- Under honest locks one live run at a time has a directory's lock by its own account.
use Rattle.std.proofs.Common.{◌≡◌, ◌≢◌, ℕ, Bool, true, false, not, ◌==◌, ◌&&◌, ◌||◌, ◌⊎◌, inl, inr, List, ◌∷◌, refl, sym, ◌∙◌, ap, subst, if◌then◌else◌}
use Rattle.folder_files.specs.Careful.{HasLock}
use Rattle.folder_files.specs.Deeds.{Deed, did, Once, last, still, now, on}
use Rattle.folder_files.specs.Histories.{world_after, own, has_acted, IsLive, IsLegal, begins, answers, fails, is_dead, delivers, crashes, crashes_within, stops, AreHonest, HeldByNoOther}
use Rattle.folder_files.specs.Places.{same_place}
use Rattle.folder_files.specs.Steps.{made, made_by, left_by, torn}
use Rattle.folder_files.specs.Worlds.{WorldMap, shown}
use Rattle.folder_files.specs.declared.event.After.{After}
use Rattle.folder_files.specs.declared.event.After.TheVariants.{Before, Made, Torn}
use Rattle.folder_files.specs.declared.event.Event.{Event}
use Rattle.folder_files.specs.declared.event.Event.TheVariants.{Act, Deliver, Crash, End}
use Rattle.folder_files.specs.declared.place.Place.{Place}
use Rattle.folder_files.specs.declared.step.Answer.{Answer}
use Rattle.folder_files.specs.declared.step.Answer.TheVariants.{Done, Busy, Failed}
use Rattle.folder_files.specs.declared.step.Step.{Step}
use Rattle.folder_files.specs.declared.step.Step.TheVariants as step
use Rattle.folder_files.specs.declared.world.World.{World}
use Rattle.folder_files.proofs.Sameness.{place_same, place_is}
use Rattle.folder_files.proofs.Names.{num_same, num_apart, num_itself, not_both, both, or_left, or_last, or_false}
use Rattle.folder_files.proofs.Effects.{IsNext, answered, failed, refused, next_fits, fits_as, world_act, world_crash, world_deliver, world_end}
use Rattle.step_plans.proofs.Past.{did_step, did_answer, once_none, acted}
use Rattle.step_plans.proofs.Crashes.{ended_by}
use Rattle.step_plans.proofs.Law.{within_ended}
use Rattle.step_plans.proofs.Drops.{own_split}
use Rattle.step_plans.proofs.Told.{lives_before}

-- a lock stays where its run doesn't let it go
made_holds : (w : WorldMap) (o : ℕ) (s : Step) (p : Place) (r : ℕ) → (o ≡ r → s ≡ step.Unlock p → ⊥) → w.holds p r ≡ true → (made w o s).holds p r ≡ true
unfolding made
made_holds w o (step.Lock q) p r never h = or_last ((w.directories q).there && same_place q p && o == r) (w.holds p r) h
made_holds w o (step.Unlock q) p r never h = go (same_place q p && o == r) refl
  where
    go : (v : Bool) → (same_place q p && o == r) ≡ v → (not v && w.holds p r) ≡ true
    go true e = let z = both (same_place q p) (o == r) e in absurd (never (num_same o r z.1) (ap step.Unlock (place_same q p z.0)))
    go false e = h
made_holds w o _ p r never h = h

left_holds : (w : WorldMap) (o : ℕ) (s : Step) (a : Answer) (m : After) (p : Place) (r : ℕ) → (o ≡ r → s ≡ step.Unlock p → ⊥) → w.holds p r ≡ true → (left_by w o s a m).holds p r ≡ true
left_holds w o s a Made p r never h = by a
  where
    by : (a : Answer) → (made_by w o s a).holds p r ≡ true
    by Busy = h
    by _ = made_holds w o s p r never h
left_holds w o s a (Torn b) p r never h = by s never
  where
    by : (s : Step) → (o ≡ r → s ≡ step.Unlock p → ⊥) → (made w o (torn s b)).holds p r ≡ true
    by (step.Create q n c) never = made_holds w o (step.Create q n b) p r (λ e k. cc (k)) h
    by s never = made_holds w o s p r never h
left_holds w o (step.Unlock q) a Before p r never h = made_holds w o (step.Unlock q) p r never h
left_holds w o _ a Before p r never h = h

lock_taken : (w : WorldMap) (r : ℕ) (p : Place) → (w.directories p).there ≡ true → (made w r (step.Lock p)).holds p r ≡ true
unfolding made
lock_taken w r p there = rw (there, place_is p, num_itself r) refl

-- what the last deed does to a lock
pub lock_head : {p : Place} {d : Deed} {older : List Deed} → HasLock p (d ∷ older) → (d ≡ did (step.Lock p) Done) ⊎ ((d.step ≢ step.Unlock p) × HasLock p older)
lock_head (last e) = inl e
lock_head (still n h) = inr (n, h)

pub lock_once : {p : Place} {deeds : List Deed} → HasLock p deeds → Once (λ d older. Unit {0}) deeds
lock_once (last e) = now tt
lock_once (still n h) = on (lock_once h)

-- who acted before a crash is no more live after it
pub gone_crash : (start : World) (r : ℕ) (v : World) (past : List Event) → ((q : ℕ) → (has_acted past q || (world_after start past).ended q) ≡ true → (shown v).ended q ≡ true)
    → {P : Deed → List Deed → Type 0} → Once P (own r past) → IsLive r (world_after start (Crash v ∷ past)) → ⊥
gone_crash start r v past ended w lv =
    not_both ((world_after start (Crash v ∷ past)).ended r) (ended_by start v past r (ended r (or_left (has_acted past r) ((world_after start past).ended r) (acted r past w)))) lv

pub gone_within : (start : World) (r o : ℕ) (s : Step) (v : World) (past : List Event) → ((q : ℕ) → (((o == q) || has_acted past q) || (made (world_after start past) o s).ended q) ≡ true → (shown v).ended q ≡ true)
    → {P : Deed → List Deed → Type 0} → Once P (own r (Act o s Failed Before ∷ (Crash v ∷ past))) → IsLive r (world_after start (Act o s Failed Before ∷ (Crash v ∷ past))) → ⊥
gone_within start r o s v past ended w lv =
    not_both ((shown v).ended r) (ended r (or_left ((o == r) || has_acted past r) ((made (world_after start past) o s).ended r) (acted r (Act o s Failed Before ∷ (Crash v ∷ past)) w)))
    (subst (λ (z : WorldMap). z.ended r ≡ false) (world_crash start v past) (lives_before start r o s Failed Before (Crash v ∷ past) (refused (ended_by start v past o (within_ended o v past (made (world_after start past) o s).ended ended))) lv))

pub live_end : (start : World) (r o : ℕ) (past : List Event) → IsLive r (world_after start (End o ∷ past)) → (o == r ≡ false) × IsLive r (world_after start past)
live_end start r o past lv = or_false (o == r) ((world_after start past).ended r) (subst (λ (z : WorldMap). z.ended r ≡ false) (world_end start o past) lv)

act_locked : (start : World) (past : List Event) (r o : ℕ) (s : Step) (a : Answer) (m : After) (p : Place) → IsNext (world_after start past) o s a m
    → (HasLock p (own r past) → (world_after start past).holds p r ≡ true) → HasLock p (own r (Act o s a m ∷ past)) → (world_after start (Act o s a m ∷ past)).holds p r ≡ true
act_locked start past r o s a m p nx rest h = subst (λ (z : WorldMap). z.holds p r ≡ true) (sym (world_act start o s a m past)) (elim (own_split r o s a m past) [
  | inl e ↦ mine e.0 (lock_head (subst (λ (ds : List Deed). HasLock p ds) e.1 h))
  | inr e ↦ left_holds (world_after start past) o s a m p r (λ k z. e.0 k) (rest (subst (λ (ds : List Deed). HasLock p ds) e.1 h))
])
  where
    taken : o ≡ r → s ≡ step.Lock p → a ≡ Done → m ≡ Made → ((world_after start past).directories p).there ≡ true → (left_by (world_after start past) o s a m).holds p r ≡ true
    taken er es ea em there = subst (λ (k : ℕ). (left_by (world_after start past) k s a m).holds p r ≡ true) (sym er)
        (subst (λ (k : Step). (left_by (world_after start past) r k a m).holds p r ≡ true) (sym es) (subst (λ (k : Answer). (left_by (world_after start past) r (step.Lock p) k m).holds p r ≡ true) (sym ea)
        (subst (λ (k : After). (left_by (world_after start past) r (step.Lock p) Done k).holds p r ≡ true) (sym em) (lock_taken (world_after start past) r p there))))

    mine : o ≡ r → (did s a ≡ did (step.Lock p) Done) ⊎ ((s ≢ step.Unlock p) × HasLock p (own r past)) → (left_by (world_after start past) o s a m).holds p r ≡ true
    mine er (inl e) = let es = did_step e in let ea = did_answer e in let f3 = next_fits (world_after start past) o s a m nx (λ k. cc (k, ea)) in
        taken er es ea f3.2 (fits_as (world_after start past) o s (step.Lock p) a Done es ea f3.1)
    mine er (inr z) = left_holds (world_after start past) o s a m p r (λ k e. z.0 e) (rest z.1)

-- a live run that has a lock by its own account has it in the world
pub locked : (start : World) (r : ℕ) (p : Place) {past : List Event} → IsLegal start past → IsLive r (world_after start past) → HasLock p (own r past) → (world_after start past).holds p r ≡ true
unfolding own
locked start r p begins lv h = absurd (once_none (lock_once h))
locked start r p (answers o s a {past = past} l alive fits) lv h = let nx : IsNext (world_after start past) o s a Made = answered a alive fits in
    act_locked start past r o s a Made p nx (λ k. locked start r p l (lives_before start r o s a Made past nx lv) k) h
locked start r p (fails o s m {past = past} l alive may) lv h = let nx : IsNext (world_after start past) o s Failed m = failed m alive may in
    act_locked start past r o s Failed m p nx (λ k. locked start r p l (lives_before start r o s Failed m past nx lv) k) h
locked start r p (is_dead o s {past = past} l d) lv h = let nx : IsNext (world_after start past) o s Failed Before = refused d in
    act_locked start past r o s Failed Before p nx (λ k. locked start r p l (lives_before start r o s Failed Before past nx lv) k) h
locked start r p (delivers path piece {past = past} l) lv h =
    subst (λ (z : WorldMap). z.holds p r ≡ true) (sym (world_deliver start path piece past)) (locked start r p l (subst (λ (y : WorldMap). y.ended r ≡ false) (world_deliver start path piece past) lv) h)
locked start r p (crashes v {past = past} l image) lv h = absurd (gone_crash start r v past image.ended (lock_once h) lv)
locked start r p (crashes_within v o s {past = past} l alive image) lv h = absurd (gone_within start r o s v past image.ended (lock_once h) lv)
locked start r p (stops o {past = past} l) lv h = let z = live_end start r o past lv in
    subst (λ (y : WorldMap). y.holds p r ≡ true) (sym (world_end start o past)) (kept (o == r) z.0 (locked start r p l z.1 h))
  where
    kept : (v : Bool) → v ≡ false → (world_after start past).holds p r ≡ true → (if v then false else (world_after start past).holds p r) ≡ true
    kept true e k = absurd (cc (e))
    kept false e k = k

honest_act : (start : World) (o : ℕ) (s : Step) (a : Answer) (m : After) (past : List Event) → AreHonest start (Act o s a m ∷ past) → AreHonest start past
honest_act start o (step.Lock p) Done m past h = h.1
honest_act start o (step.Lock p) _ m past h = h
honest_act start o _ a m past h = h

pub honest_before : (start : World) (e : Event) (past : List Event) → AreHonest start (e ∷ past) → AreHonest start past
honest_before start (Act o s a m) past h = honest_act start o s a m past h
honest_before start (Deliver path piece) past h = h
honest_before start (Crash v) past h = h
honest_before start (End o) past h = h

honest_lock : (start : World) (o : ℕ) (s : Step) (a : Answer) (m : After) (past : List Event) (p : Place) → s ≡ step.Lock p → a ≡ Done → AreHonest start (Act o s a m ∷ past) → HeldByNoOther (world_after start past) p o
honest_lock start o s a m past p es ea h =
    (subst (λ (z : Answer). AreHonest start (Act o (step.Lock p) z m ∷ past)) ea (subst (λ (z : Step). AreHonest start (Act o z a m ∷ past)) es h)).0

act_exclusive : (start : World) (past : List Event) (q r : ℕ) (s : Step) (a : Answer) (m : After) (p : Place) → AreHonest start (Act q s a m ∷ past)
    → ((o : ℕ) → IsLive o (world_after start past) → HasLock p (own o past) → (world_after start past).holds p o ≡ true)
    → (o : ℕ) → IsLive r (world_after start past) → IsLive o (world_after start past) → r ≢ o
    → (HasLock p (own r past) → HasLock p (own o past) → ⊥) → HasLock p (own r (Act q s a m ∷ past)) → HasLock p (own o (Act q s a m ∷ past)) → ⊥
act_exclusive start past q r s a m p honest holds o lv_r lv_o other rest hr ho = elim (own_split r q s a m past) [
  | inl e ↦ elim (own_split o q s a m past) [
    | inl k ↦ other (sym e.0 ∙ k.0)
    | inr k ↦ one r o e.0 other lv_o (lock_head (subst (λ (ds : List Deed). HasLock p ds) e.1 hr)) (subst (λ (ds : List Deed). HasLock p ds) k.1 ho) rest
  ]
  | inr e ↦ elim (own_split o q s a m past) [
    | inl k ↦ one o r k.0 (λ z. other (sym z)) lv_r (lock_head (subst (λ (ds : List Deed). HasLock p ds) k.1 ho)) (subst (λ (ds : List Deed). HasLock p ds) e.1 hr) (λ x y. rest y x)
    | inr k ↦ rest (subst (λ (ds : List Deed). HasLock p ds) e.1 hr) (subst (λ (ds : List Deed). HasLock p ds) k.1 ho)
  ]
]
  where
    -- x made the step, y did not
    one : (x y : ℕ) → q ≡ x → x ≢ y → IsLive y (world_after start past) → (did s a ≡ did (step.Lock p) Done) ⊎ ((s ≢ step.Unlock p) × HasLock p (own x past)) → HasLock p (own y past)
        → (HasLock p (own x past) → HasLock p (own y past) → ⊥) → ⊥
    one x y e apart lv (inl z) hy before = not_both ((world_after start past).holds p y) (holds y lv hy) (honest_lock start q s a m past p (did_step z) (did_answer z) honest y (λ k. apart (sym e ∙ sym k)))
    one x y e apart lv (inr z) hy before = before z.1 hy

-- no two live runs have one lock by their own accounts
exclusive : (start : World) (r o : ℕ) (p : Place) {past : List Event} → IsLegal start past → AreHonest start past → IsLive r (world_after start past) → IsLive o (world_after start past) → r ≢ o → HasLock p (own r past) → HasLock p (own o past) → ⊥
unfolding own
exclusive start r o p begins honest lr lo other hr ho = once_none (lock_once hr)
exclusive start r o p (answers q s a {past = past} l alive fits) honest lr lo other hr ho = let nx : IsNext (world_after start past) q s a Made = answered a alive fits in
    let kr = lives_before start r q s a Made past nx lr in let ko = lives_before start o q s a Made past nx lo in
    act_exclusive start past q r s a Made p honest (λ x lv h. locked start x p l lv h) o kr ko other (λ x y. exclusive start r o p l (honest_act start q s a Made past honest) kr ko other x y) hr ho
exclusive start r o p (fails q s m {past = past} l alive may) honest lr lo other hr ho = let nx : IsNext (world_after start past) q s Failed m = failed m alive may in
    let kr = lives_before start r q s Failed m past nx lr in let ko = lives_before start o q s Failed m past nx lo in
    act_exclusive start past q r s Failed m p honest (λ x lv h. locked start x p l lv h) o kr ko other (λ x y. exclusive start r o p l (honest_act start q s Failed m past honest) kr ko other x y) hr ho
exclusive start r o p (is_dead q s {past = past} l d) honest lr lo other hr ho = let nx : IsNext (world_after start past) q s Failed Before = refused d in
    let kr = lives_before start r q s Failed Before past nx lr in let ko = lives_before start o q s Failed Before past nx lo in
    act_exclusive start past q r s Failed Before p honest (λ x lv h. locked start x p l lv h) o kr ko other (λ x y. exclusive start r o p l (honest_act start q s Failed Before past honest) kr ko other x y) hr ho
exclusive start r o p (delivers path piece {past = past} l) honest lr lo other hr ho =
    exclusive start r o p l honest (subst (λ (y : WorldMap). y.ended r ≡ false) (world_deliver start path piece past) lr) (subst (λ (y : WorldMap). y.ended o ≡ false) (world_deliver start path piece past) lo) other hr ho
exclusive start r o p (crashes v {past = past} l image) honest lr lo other hr ho = gone_crash start r v past image.ended (lock_once hr) lr
exclusive start r o p (crashes_within v q s {past = past} l alive image) honest lr lo other hr ho = gone_within start r q s v past image.ended (lock_once hr) lr
exclusive start r o p (stops q {past = past} l) honest lr lo other hr ho = exclusive start r o p l honest (live_end start r q past lr).1 (live_end start o q past lo).1 other hr ho

pub one_holder : (start : World) (r o : ℕ) (p : Place) {past : List Event} → IsLegal start past → AreHonest start past → IsLive r (world_after start past) → IsLive o (world_after start past) → HasLock p (own r past) → HasLock p (own o past) → r ≡ o
one_holder start r o p l honest lr lo hr ho = go (r == o) refl
  where
    go : (v : Bool) → (r == o) ≡ v → r ≡ o
    go true e = num_same r o e
    go false e = absurd (exclusive start r o p l honest lr lo (num_apart r o e) hr ho)
