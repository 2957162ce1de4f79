-- What the definitions on histories say of one more event.
use Rattle.std.proofs.Common.{◌≡◌, ℕ, Bool, true, false, ◌==◌, ◌⊎◌, inl, inr, List, [], ◌∷◌, ◌++◌, None, refl, sym, ap, subst, if◌then◌else◌}
use Rattle.mh_base.specs.Entries.{kind_of}
use Rattle.folder_files.specs.Annotations.{Annotates}
use Rattle.folder_files.specs.Careful.{WasGivenAway}
use Rattle.folder_files.specs.Deeds.{Deed, did, Once, WasDone, now, on}
use Rattle.folder_files.specs.Directory.{now_in}
use Rattle.folder_files.specs.Histories.{IsLockable, own, has_acted, world_after}
use Rattle.folder_files.specs.Named.{is_number, is_held, is_held_of, is_temp, is_temp_of}
use Rattle.folder_files.specs.Places.{is_folder}
use Rattle.folder_files.specs.declared.event.After.{After}
use Rattle.folder_files.specs.declared.event.After.TheVariants.{Made}
use Rattle.folder_files.specs.declared.event.Event.{Event}
use Rattle.folder_files.specs.declared.event.Event.TheVariants.{Act, Deliver, Crash, End}
use Rattle.folder_files.specs.declared.place.Place.{Place}
use Rattle.folder_files.specs.declared.place.Place.TheVariants.{Home, Work, Mail, Folder}
use Rattle.folder_files.specs.declared.place.FilePath.{FilePath}
use Rattle.folder_files.specs.declared.step.Answer.{Answer}
use Rattle.folder_files.specs.declared.step.Answer.TheVariants.{Done}
use Rattle.folder_files.specs.declared.step.Step.{Step}
use Rattle.folder_files.specs.declared.step.Step.TheVariants.{Create, Link, SyncFolder, Unlink}
use Rattle.folder_files.specs.declared.world.World.{World}
use Rattle.step_plans.specs.Durable.{WasPut, HasBeenPut, IsDurable, stood, now, on}
use Rattle.step_plans.specs.Leaving.{IsDiscarded, now, on}
use Rattle.step_plans.specs.MailInvariant.{IsLetGo}
use Rattle.step_plans.specs.Moments.{Leads, Tries}
use Rattle.step_plans.specs.Spending.{IsSpent, IsClear, now, on}
use Rattle.step_plans.specs.Successors.{HasReadHeld, HasMadeSince, WasPutSince, IsSuccessor, now, on}
use Rattle.folder_files.proofs.Names.{num_same, num_itself, or_left, or_last}

-- one more event, and the run's own deeds
pub own_case : (r q : ℕ) (s : Step) (a : Answer) (m : After) (past : List Event)
    → ((q ≡ r) × (own r (Act q s a m ∷ past) ≡ did s a ∷ own r past)) ⊎ (own r (Act q s a m ∷ past) ≡ own r past)
unfolding own
own_case r q s a m past = go (q == r) refl
  where
    go : (v : Bool) → (q == r) ≡ v → ((q ≡ r) × ((if v then did s a ∷ [] else []) ++ own r past ≡ did s a ∷ own r past)) ⊎ ((if v then did s a ∷ [] else []) ++ own r past ≡ own r past)
    go true e = inl (num_same q r e, refl)
    go false e = inr refl

pub own_mine : (r : ℕ) (s : Step) (a : Answer) (m : After) (past : List Event) → own r (Act r s a m ∷ past) ≡ did s a ∷ own r past
unfolding own
own_mine r s a m past = rw (num_itself r) refl

pub own_deliver : (r : ℕ) (path : FilePath) (piece : List ℕ) (past : List Event) → own r (Deliver path piece ∷ past) ≡ own r past
unfolding own
own_deliver r path piece past = refl

pub own_crash : (r : ℕ) (v : World) (past : List Event) → own r (Crash v ∷ past) ≡ own r past
unfolding own
own_crash r v past = refl

pub own_end : (r o : ℕ) (past : List Event) → own r (End o ∷ past) ≡ own r past
unfolding own
own_end r o past = refl

pub own_start : (r : ℕ) → own r [] ≡ []
unfolding own
own_start r = refl

pub did_step : {s t : Step} {a b : Answer} → did s a ≡ did t b → s ≡ t
did_step e = ap (λ d. d.step) e

pub did_answer : {s t : Step} {a b : Answer} → did s a ≡ did t b → a ≡ b
did_answer e = ap (λ d. d.answer) e

pub did_both : {s t : Step} {a b : Answer} → s ≡ t → a ≡ b → did s a ≡ did t b
did_both es ea = λ i. did (es i) (ea i)

-- facts that held once
pub once_head : {P : Deed → List Deed → Type 0} {d : Deed} {older : List Deed} → Once P (d ∷ older) → P d older ⊎ Once P older
once_head (now p) = inl p
once_head (on w) = inr w

pub once_none : {P : Deed → List Deed → Type 0} → Once P [] → ⊥
once_none w = elim w [ ]

pub once_map : {P Q : Deed → List Deed → Type 0} {deeds : List Deed} → ((d : Deed) (older : List Deed) → P d older → Q d older) → Once P deeds → Once Q deeds
once_map f (now p) = now (f _ _ p)
once_map f (on w) = on (once_map f w)

pub once_more : (r : ℕ) (e : Event) (past : List Event) {P : Deed → List Deed → Type 0} → Once P (own r past) → Once P (own r (e ∷ past))
once_more r (Act q s a m) past w = elim (own_case r q s a m past) [ inl e ↦ rw e.1 (on w) | inr e ↦ rw e w ]
once_more r (Deliver path piece) past w = rw (own_deliver r path piece past) w
once_more r (Crash v) past w = rw (own_crash r v past) w
once_more r (End o) past w = rw (own_end r o past) w

-- the deed was just done, or before
pub once_case : (r q : ℕ) (s : Step) (a : Answer) (m : After) (past : List Event) {P : Deed → List Deed → Type 0} → Once P (own r (Act q s a m ∷ past))
    → ((q ≡ r) × P (did s a) (own r past)) ⊎ Once P (own r past)
once_case r q s a m past w = elim (own_case r q s a m past) [
  | inl e ↦ elim (once_head (rw e.1 at w)) [ inl z ↦ inl (e.0, z) | inr z ↦ inr z ]
  | inr e ↦ inr (rw e at w)
]

pub once_mine : (r q : ℕ) (s : Step) (a : Answer) (m : After) (past : List Event) {P : Deed → List Deed → Type 0} → q ≡ r → P (did s a) (own r past) → Once P (own r (Act q s a m ∷ past))
once_mine r q s a m past {P = P} e p = subst (λ (z : ℕ). Once P (own r (Act z s a m ∷ past))) (sym e) (rw (own_mine r s a m past) (now p))

pub acted : (r : ℕ) (past : List Event) {P : Deed → List Deed → Type 0} → Once P (own r past) → has_acted past r ≡ true
acted r [] w = absurd (once_none (rw (own_start r) at w))
acted r (Act q s a m ∷ past) w = elim (once_case r q s a m past w) [
  | inl e ↦ or_left (q == r) (has_acted past r) (rw e.0 (num_itself r))
  | inr z ↦ or_last (q == r) (has_acted past r) (acted r past z)
]
acted r (Deliver path piece ∷ past) w = acted r past (rw (own_deliver r path piece past) at w)
acted r (Crash v ∷ past) w = acted r past (rw (own_crash r v past) at w)
acted r (End o ∷ past) w = acted r past (rw (own_end r o past) at w)

-- names and files, by the last event
pub spent_case : {start : World} {p : Place} {h : List ℕ} {r : ℕ} {s : Step} {a : Answer} {m : After} {past : List Event} → IsSpent start p h (Act r s a m ∷ past)
    → ((n : List ℕ) × (f : ℕ) × (s ≡ Link p h n) × (m ≡ Made) × (is_held (kind_of h) ≡ true) × (is_number (kind_of n) ≡ true) × Leads start past p h f
    × (now_in ((world_after start past).directories p) n ≡ None)) ⊎ IsSpent start p h past
spent_case (now {f = f} {number = n} held number here none) = inl (n, f, refl, refl, held, number, here, none)
spent_case (on nc w) = inr w

pub clear_case : {start : World} {p : Place} {h : List ℕ} {r : ℕ} {s : Step} {a : Answer} {m : After} {past : List Event} → IsClear start p h (Act r s a m ∷ past)
    → ((s ≡ SyncFolder p) × (m ≡ Made) × IsSpent start p h past) ⊎ IsClear start p h past
clear_case (now w) = inl (refl, refl, w)
clear_case (on nc w) = inr w

pub put_case : {start : World} {p : Place} {f : ℕ} {b : List ℕ} {r : ℕ} {s : Step} {a : Answer} {m : After} {past : List Event} → WasPut start p f b (Act r s a m ∷ past)
    → ((t : List ℕ) × (n : List ℕ) × (s ≡ Link p t n) × (a ≡ Done) × (is_temp (kind_of t) ≡ true) × (is_number (kind_of n) ≡ true) × Leads start past p t f
    × (((world_after start past).files f).bytes ≡ b) × (is_folder p ≡ true)) ⊎ WasPut start p f b past
put_case (now {temp = t} {number = n} folder temp number here bytes) = inl (t, n, refl, refl, temp, number, here, bytes, folder)
put_case (on nc w) = inr w

pub ever_case : {start : World} {p : Place} {f : ℕ} {b : List ℕ} {r : ℕ} {s : Step} {a : Answer} {m : After} {past : List Event} → HasBeenPut start p f b (Act r s a m ∷ past)
    → ((t : List ℕ) × (n : List ℕ) × (s ≡ Link p t n) × (a ≡ Done) × (is_temp_of r (kind_of t) ≡ true) × (is_number (kind_of n) ≡ true) × Leads start past p t f
    × WasDone (Create p t b) (own r past) × (is_folder p ≡ true)) ⊎ HasBeenPut start p f b past
ever_case (now {temp = t} {number = n} folder temp number made here) = inl (t, n, refl, refl, temp, number, here, made, folder)
ever_case (on w) = inr w

pub durable_case : {start : World} {p : Place} {f : ℕ} {b : List ℕ} {r : ℕ} {s : Step} {a : Answer} {m : After} {past : List Event} → IsDurable start p f b (Act r s a m ∷ past)
    → ((s ≡ SyncFolder p) × (a ≡ Done) × WasPut start p f b past) ⊎ IsDurable start p f b past
durable_case (now w) = inl (refl, refl, w)
durable_case (on w) = inr w

pub clear_spent : {start : World} {p : Place} {h : List ℕ} {past : List Event} → IsClear start p h past → IsSpent start p h past
clear_spent (now w) = on tt w
clear_spent (on nc w) = on nc (clear_spent w)

pub spent_held : {start : World} {p : Place} {h : List ℕ} {past : List Event} → IsSpent start p h past → is_held (kind_of h) ≡ true
spent_held (now held number here none) = held
spent_held (on nc w) = spent_held w

pub since_case : {start : World} {r : ℕ} {p : Place} {h b : List ℕ} {q : Place} {g : ℕ} {c : List ℕ} {u : ℕ} {s : Step} {a : Answer} {m : After} {past : List Event} → WasPutSince start r p h b q g c (Act u s a m ∷ past)
    → ((t : List ℕ) × (n : List ℕ) × (u ≡ r) × (s ≡ Link q t n) × (a ≡ Done) × (is_temp_of r (kind_of t) ≡ true) × (is_number (kind_of n) ≡ true) × HasMadeSince p h b q t c (own r past) × Leads start past q t g × (is_folder q ≡ true))
    ⊎ WasPutSince start r p h b q g c past
since_case (now {temp = t} {number = n} folder temp number w here) = inl (t, n, refl, refl, refl, temp, number, w, here, folder)
since_case (on w) = inr w

pub made_created : {p : Place} {h b : List ℕ} {q : Place} {t c : List ℕ} {deeds : List Deed} → HasMadeSince p h b q t c deeds → WasDone (Create q t c) deeds
made_created w = once_map (λ d older z. z.0) w

pub made_read : {p : Place} {h b : List ℕ} {q : Place} {t c : List ℕ} {deeds : List Deed} → HasMadeSince p h b q t c deeds → HasReadHeld p h b deeds
made_read (now z) = on z.1
made_read (on w) = on (made_read w)

pub since_read : {start : World} (r : ℕ) {p : Place} {h b : List ℕ} {q : Place} {g : ℕ} {c : List ℕ} (past : List Event) → WasPutSince start r p h b q g c past → HasReadHeld p h b (own r past)
since_read r [] w = elim w [ ]
since_read r (Act u s a m ∷ past) w = once_more r (Act u s a m) past (elim (since_case w) [ inl z ↦ made_read z.7 | inr z ↦ since_read r past z ])
since_read r (Deliver path piece ∷ past) (on w) = once_more r (Deliver path piece) past (since_read r past w)
since_read r (Crash v ∷ past) (on w) = once_more r (Crash v) past (since_read r past w)
since_read r (End o ∷ past) (on w) = once_more r (End o) past (since_read r past w)

pub discard_case : {start : World} {p : Place} {f r : ℕ} {s : Step} {a : Answer} {m : After} {past : List Event} → IsDiscarded start p f (Act r s a m ∷ past)
    → ((h : List ℕ) × (s ≡ Unlink p h) × (is_held_of r (kind_of h) ≡ true) × Tries start r p h f past × (WasGivenAway p h (own r past) → ⊥)) ⊎ IsDiscarded start p f past
discard_case (now {held = h} is t nd) = inl (h, refl, is, t, nd)
discard_case (on w) = inr w

pub successor_case : {start : World} {p : Place} {f : ℕ} {q : Place} {g : ℕ} {b c : List ℕ} {r : ℕ} {s : Step} {a : Answer} {m : After} {past : List Event} → IsSuccessor start p f q g b c (Act r s a m ∷ past)
    → ((h : List ℕ) × (s ≡ Unlink p h) × (is_held_of r (kind_of h) ≡ true) × Tries start r p h f past × (WasGivenAway p h (own r past) → ⊥) × Annotates b c × WasPutSince start r p h b q g c past)
    ⊎ IsSuccessor start p f q g b c past
successor_case (now {held = h} is t nd lines w) = inl (h, refl, is, t, nd, lines, w)
successor_case (on w) = inr w

-- what was let go stays so
pub let_go_on : {start : World} {p : Place} {f : ℕ} {e : Event} {past : List Event} → IsLetGo start p f past → IsLetGo start p f (e ∷ past)
let_go_on (inl z) = inl (on z)
let_go_on (inr z) = inr (on z)

pub folder_lock : (p : Place) → is_folder p ≡ true → IsLockable p
folder_lock Home h = absurd (cc (h))
folder_lock Work h = absurd (cc (h))
folder_lock (Mail path) h = tt
folder_lock (Folder path name) h = tt

-- messages are put into folders, and stood there or in the mail directory
pub put_lock : {start : World} {p : Place} {f : ℕ} {b : List ℕ} {past : List Event} → WasPut start p f b past → IsLockable p
put_lock {p = p} (now folder temp number here bytes) = folder_lock p folder
put_lock (on nc w) = put_lock w

pub durable_lock : {start : World} {p : Place} {f : ℕ} {b : List ℕ} {past : List Event} → IsDurable start p f b past → IsLockable p
durable_lock (stood x lock s e bytes) = lock
durable_lock (now w) = put_lock w
durable_lock (on w) = durable_lock w
