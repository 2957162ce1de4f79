-- Two temporary names never lead to one file.
use Rattle.std.proofs.Common.{◌≡◌, ℕ, ◌<◌, Bool, true, false, ◌⊎◌, inl, inr, List, [], ◌∷◌, Some, sym, ◌∙◌, subst, arith, if◌then◌else◌}
use Rattle.mh_base.specs.Entries.{kind_of}
use Rattle.folder_files.specs.Directory.{DirectoryMap, now_in}
use Rattle.folder_files.specs.Histories.{world_after, own, IsLockable, IsLegal, begins, answers, fails, is_dead, delivers, crashes, crashes_within, stops, AreCareful}
use Rattle.folder_files.specs.Named.{is_held, is_temp_of}
use Rattle.folder_files.specs.Steps.{made, changed, is_created, with_created, directory_after}
use Rattle.folder_files.specs.Worlds.{WorldMap, shown, IsStart}
use Rattle.folder_files.specs.declared.event.After.{After}
use Rattle.folder_files.specs.declared.event.After.TheVariants.{Before, Made, Torn}
use Rattle.folder_files.specs.declared.event.Event.{Event}
use Rattle.folder_files.specs.declared.event.Event.TheVariants.{Act, Deliver, Crash, End}
use Rattle.folder_files.specs.declared.place.Place.{Place}
use Rattle.folder_files.specs.declared.step.Answer.{Answer}
use Rattle.folder_files.specs.declared.step.Answer.TheVariants.{Failed}
use Rattle.folder_files.specs.declared.step.Step.{Step}
use Rattle.folder_files.specs.declared.step.Step.TheVariants as step
use Rattle.folder_files.specs.declared.world.Change.TheVariants.{Set}
use Rattle.folder_files.specs.declared.world.World.{World}
use Rattle.step_plans.specs.Moments.{Leads, HasLed, now, on}
use Rattle.folder_files.specs.Standing.{is_own}
use Rattle.step_plans.specs.Starts.{HasNoneOf, HasNoneOfTheirs}
use Rattle.folder_files.proofs.Sameness.{place_is}
use Rattle.folder_files.proofs.Names.{is_temp_any, bytes_self, temp_owned, or_left}
use Rattle.folder_files.proofs.Changes.{arrives, now_below}
use Rattle.folder_files.proofs.Effects.{IsNext, answered, failed, refused, left_directory, left_next, left_grows, made_left, ComesTo, next_goes, world_start, world_crash, world_deliver, world_end, world_next}
use Rattle.step_plans.proofs.Discipline.{Cares, temp_target}
use Rattle.folder_files.proofs.Beginning.{nothing_pending}
use Rattle.step_plans.proofs.Crashes.{ended_by}
use Rattle.step_plans.proofs.Law.{inv, none_before, may_made, careful_back, image_within, within_ended}
use Rattle.step_plans.proofs.Once.{once, led_case, led_start, crash_led}

temp_own : (r : ℕ) (x : List ℕ) → is_temp_of r (kind_of x) ≡ true → is_own x ≡ true
temp_own r x h = or_left _ (is_held (kind_of x)) (is_temp_any r x h)

-- where a Create leads its name
created_case : (d : DirectoryMap) (n : List ℕ) (k f : ℕ) → now_in (with_created d n k) n ≡ Some f → (now_in d n ≡ Some f) ⊎ (f ≡ k)
created_case d n k f e = go (is_created d n) e
  where
    go : (v : Bool) → now_in (if v then changed d (Set n k) else d) n ≡ Some f → (now_in d n ≡ Some f) ⊎ (f ≡ k)
    go true e = inr (same (rw (bytes_self n) at e))
      where
        same : Some k ≡ Some f → f ≡ k
        same e = sym (cc (e))
    go false e = inl e

-- the act made the file, under this name
abbrev pub IsNew : World → List Event → Step → Place → List ℕ → ℕ → Type 0
IsNew start past s p x f = (f ≡ (world_after start past).next_file) × ((b : List ℕ) × (s ≡ step.Create p x b))

-- a file to which the name leads after an act: it led to it before, or the act made it
pub act_leads : (start : World) (past : List Event) (o : ℕ) (s : Step) (a : Answer) (m : After) (r : ℕ) (p : Place) (x : List ℕ) (f : ℕ) → IsLockable p → is_temp_of r (kind_of x) ≡ true → Cares o (own o past) s
    → IsNext (world_after start past) o s a m → Leads start (Act o s a m ∷ past) p x f → Leads start past p x f ⊎ IsNew start past s p x f
act_leads start past o s a m r p x f lock temp careful nx h = by (subst (λ (k : WorldMap). now_in (k.directories p) x ≡ Some f) (world_next start o s a m past nx) h)
  where
    made_by : (b : List ℕ) → now_in (directory_after (world_after start past) (step.Create p x b) p) x ≡ Some f → (now_in ((world_after start past).directories p) x ≡ Some f) ⊎ (f ≡ (world_after start past).next_file)
    made_by b h = created_case ((world_after start past).directories p) x (world_after start past).next_file f (rw (place_is p) at h)

    left_by : (m : After) (b : List ℕ) → now_in (left_directory (world_after start past) (step.Create p x b) m p) x ≡ Some f → (now_in ((world_after start past).directories p) x ≡ Some f) ⊎ (f ≡ (world_after start past).next_file)
    left_by Before b h = inl h
    left_by Made b h = made_by b h
    left_by (Torn c) b h = made_by c h

    by : now_in (left_directory (world_after start past) s m p) x ≡ Some f → Leads start past p x f ⊎ IsNew start past s p x f
    by h = elim (arrives (world_after start past).next_file (left_next (world_after start past) s m) (ComesTo s a p) ((world_after start past).directories p) x f (next_goes (world_after start past) o s a m p nx) h) [
      | inl old ↦ inl old
      | inr new ↦ (let k = temp_target o (own o past) s p x lock careful (is_temp_any r x temp) new.0 in
          elim (left_by m k.bytes (subst (λ (t : Step). now_in (left_directory (world_after start past) t m p) x ≡ Some f) k.is h)) [ inl old ↦ inl old | inr e ↦ inr (e, (k.bytes, k.is)) ])
    ]

-- the same of a file to which it has led
abbrev OldOrNew : World → List Event → Step → Place → List ℕ → ℕ → Type 0
OldOrNew start past s p x f = HasLed start p x f past ⊎ IsNew start past s p x f

act_led : (start : World) (past : List Event) (o : ℕ) (s : Step) (a : Answer) (m : After) (r : ℕ) (p : Place) (x : List ℕ) (f : ℕ) → IsLockable p → is_temp_of r (kind_of x) ≡ true → Cares o (own o past) s
    → IsNext (world_after start past) o s a m → HasLed start p x f (Act o s a m ∷ past) → OldOrNew start past s p x f
act_led start past o s a m r p x f lock temp careful nx z = elim (led_case z) [
  | inl h ↦ elim (act_leads start past o s a m r p x f lock temp careful nx h) [ inl old ↦ inl (now old) | inr new ↦ inr new ]
  | inr y ↦ inl y
]

-- each file to which a name led is below the next
led_now : (start : World) (p : Place) (x : List ℕ) (f : ℕ) {past : List Event} → IsStart start → IsLegal start past → AreCareful past → HasNoneOfTheirs start past → Leads start past p x f → f < (world_after start past).next_file
led_now start p x f {past = past} st l careful none h = now_below (world_after start past).next_file ((world_after start past).directories p) ((inv start st l careful none).below p) x f h

led_act : (start : World) (past : List Event) (o : ℕ) (s : Step) (a : Answer) (m : After) (f : ℕ) → IsNext (world_after start past) o s a m → f < (world_after start past).next_file → f < (world_after start (Act o s a m ∷ past)).next_file
led_act start past o s a m f nx h = subst (λ (z : WorldMap). f < z.next_file) (sym (world_next start o s a m past nx)) (let l = left_grows (world_after start past) s m in omega arith)

pub led_below : (start : World) (p : Place) (x : List ℕ) (f : ℕ) {past : List Event} → IsStart start → IsLegal start past → AreCareful past → HasNoneOfTheirs start past → HasLed start p x f past → f < (world_after start past).next_file
led_below start p x f st begins careful none z = led_now start p x f st begins careful none (led_start z)
led_below start p x f st (answers o s a {past = past} l lv fits) careful none z = elim (led_case z) [
  | inl h ↦ led_now start p x f st (answers o s a l lv fits) careful none h
  | inr y ↦ led_act start past o s a Made f (answered a lv fits) (led_below start p x f st l careful.1 (none_before start o s a Made past none) y)
]
led_below start p x f st (fails o s m {past = past} l lv may) careful none z = elim (led_case z) [
  | inl h ↦ led_now start p x f st (fails o s m l lv may) careful none h
  | inr y ↦ led_act start past o s Failed m f (failed m lv may) (led_below start p x f st l careful.1 (none_before start o s Failed m past none) y)
]
led_below start p x f st (is_dead o s {past = past} l over) careful none z = elim (led_case z) [
  | inl h ↦ led_now start p x f st (is_dead o s l over) careful none h
  | inr y ↦ led_act start past o s Failed Before f (refused over) (led_below start p x f st l careful.1 (none_before start o s Failed Before past none) y)
]
led_below start p x f st (delivers path b {past = past} l) careful none z = elim (led_case z) [
  | inl h ↦ led_now start p x f st (delivers path b l) careful none h
  | inr y ↦ subst (λ (k : WorldMap). f < k.next_file) (sym (world_deliver start path b past)) (led_below start p x f st l careful none y)
]
led_below start p x f st (crashes v {past = past} l image) careful none z = elim (led_case z) [
  | inl h ↦ led_now start p x f st (crashes v l image) careful none h
  | inr y ↦ subst (λ (k : WorldMap). f < k.next_file) (sym (world_crash start v past)) (rw image.next_file (led_below start p x f st l careful none y))
]
led_below start p x f st (crashes_within v o s {past = past} l lv image) careful none z = elim (led_case z) [
  | inl h ↦ led_now start p x f st (crashes_within v o s l lv image) careful none h
  | inr y ↦ led_act start (Crash v ∷ past) o s Failed Before f (refused (ended_by start v past o (within_ended o v past (made (world_after start past) o s).ended image.ended)))
      (elim (led_case y) [ inl h ↦ crashed h | inr k ↦ subst (λ (k : WorldMap). f < k.next_file) (sym (world_crash start v past)) (grown (led_below start p x f st l careful.1 none_b k)) ])
]
  where
    none_b : HasNoneOfTheirs start past
    none_b = none_before start o s Failed Before (Crash v ∷ past) none

    same_next : (shown v).next_file ≡ (made (world_after start past) o s).next_file
    same_next = image.next_file

    grown : f < (world_after start past).next_file → f < (shown v).next_file
    grown h = rw same_next (subst (λ (k : WorldMap). f < k.next_file) (sym (made_left (world_after start past) o s)) (let l = left_grows (world_after start past) s Made in omega arith))

    crashed : Leads start (Crash v ∷ past) p x f → f < (world_after start (Crash v ∷ past)).next_file
    crashed h = subst (λ (k : WorldMap). f < k.next_file) (world_next start o s Failed Before (Crash v ∷ past) dead)
        (led_now start p x f st (crashes_within v o s l lv image) careful none (subst (λ (k : WorldMap). now_in (k.directories p) x ≡ Some f) (sym (world_next start o s Failed Before (Crash v ∷ past) dead)) h))
      where
        dead : IsNext (world_after start (Crash v ∷ past)) o s Failed Before
        dead = refused (ended_by start v past o (within_ended o v past (made (world_after start past) o s).ended image.ended))
led_below start p x f st (stops o {past = past} l) careful none z = elim (led_case z) [
  | inl h ↦ led_now start p x f st (stops o l) careful none h
  | inr y ↦ subst (λ (k : WorldMap). f < k.next_file) (sym (world_end start o past)) (led_below start p x f st l careful none y)
]

-- the two names are one
abbrev IsOneName : Place → List ℕ → Place → List ℕ → Type 0
IsOneName p x q y = (p ≡ q) × (x ≡ y)

-- temporary names of two runs, or of one, in folders or the mail directory
module _ (start : World) (r other : ℕ) (p q : Place) (x y : List ℕ) (f : ℕ) (st : IsStart start) (fresh : HasNoneOf start r) (lock_p : IsLockable p) (lock_q : IsLockable q) (temp_x : is_temp_of r (kind_of x) ≡ true)
    (temp_y : is_temp_of other (kind_of y) ≡ true) where
  apart_act : (past : List Event) (o : ℕ) (s : Step) (a : Answer) (m : After) → IsLegal start past → AreCareful past → HasNoneOfTheirs start past → Cares o (own o past) s → IsNext (world_after start past) o s a m
      → (HasLed start p x f past → HasLed start q y f past → IsOneName p x q y) → HasLed start p x f (Act o s a m ∷ past) → HasLed start q y f (Act o s a m ∷ past) → IsOneName p x q y
  apart_act past o s a m l careful none cares nx rest u z = go (act_led start past o s a m r p x f lock_p temp_x cares nx u) (act_led start past o s a m other q y f lock_q temp_y cares nx z)
    where
      never : {A : Type 0} → (g : Place) (n : List ℕ) → HasLed start g n f past → f ≡ (world_after start past).next_file → A
      never g n h e = absurd (let k = led_below start g n f st l careful none h in omega (arith, e))

      go : OldOrNew start past s p x f → OldOrNew start past s q y f → IsOneName p x q y
      go (inl u) (inl z) = rest u z
      go (inl u) (inr z) = never p x u z.0
      go (inr u) (inl z) = never q y z u.0
      go (inr u) (inr z) = one (sym u.1.1 ∙ z.1.1)
        where
          one : {b c : List ℕ} → step.Create p x b ≡ step.Create q y c → IsOneName p x q y
          one e = (cc (e), cc (e))

  at_start : (g : Place) (n : List ℕ) → is_temp_of r (kind_of n) ≡ true → HasLed start g n f [] → ⊥
  at_start g n temp z = let e = fresh g n (temp_owned r n temp) in let h = subst (λ (k : WorldMap). now_in (k.directories g) n ≡ Some f) (world_start start) (led_start z) in
      (let k = rw (nothing_pending start st g) at h in cc (e, k))

  pub apart : {past : List Event} → IsLegal start past → AreCareful past → HasNoneOfTheirs start past → HasLed start p x f past → HasLed start q y f past → IsOneName p x q y
  apart begins careful none u z = absurd (at_start p x temp_x u)
  apart (answers o s a {past = past} l lv fits) careful none u z = let none_b = none_before start o s a Made past none in
      apart_act past o s a Made l careful.1 none_b careful.0 (answered a lv fits) (λ h k. apart l careful.1 none_b h k) u z
  apart (fails o s m {past = past} l lv may) careful none u z = let none_b = none_before start o s Failed m past none in
      apart_act past o s Failed m l careful.1 none_b careful.0 (failed m lv may) (λ h k. apart l careful.1 none_b h k) u z
  apart (is_dead o s {past = past} l over) careful none u z = let none_b = none_before start o s Failed Before past none in
      apart_act past o s Failed Before l careful.1 none_b careful.0 (refused over) (λ h k. apart l careful.1 none_b h k) u z
  apart (delivers path b {past = past} l) careful none u z = apart l careful none (back p x u) (back q y z)
    where
      back : (g : Place) (n : List ℕ) → HasLed start g n f (Deliver path b ∷ past) → HasLed start g n f past
      back g n k = elim (led_case k) [ inl h ↦ now (subst (λ (w : WorldMap). now_in (w.directories g) n ≡ Some f) (world_deliver start path b past) h) | inr h ↦ h ]
  apart (crashes v {past = past} l image) careful none u z =
      apart l careful none (crash_led start past v _ p x image (once start p x lock_p (temp_own r x temp_x) st l careful none) f u) (crash_led start past v _ q y image (once start q y lock_q (temp_own other y temp_y) st l careful none) f z)
  apart (crashes_within v o s {past = past} l lv image) careful none u z = let none_b = none_before start o s Failed Before (Crash v ∷ past) none in let cares = careful_back o s v past careful.0 in
      apart_act past o s Failed Made l careful.1 none_b cares (failed Made lv (may_made s)) (λ h k. apart l careful.1 none_b h k) (back r p x lock_p temp_x cares u) (back other q y lock_q temp_y cares z)
    where
      dead : IsNext (world_after start (Crash v ∷ past)) o s Failed Before
      dead = refused (ended_by start v past o (within_ended o v past (made (world_after start past) o s).ended image.ended))

      as_made : (g : Place) (n : List ℕ) → HasLed start g n f (Act o s Failed Before ∷ (Crash v ∷ past)) → HasLed start g n f (Crash v ∷ (Act o s Failed Made ∷ past))
      as_made g n k = elim (led_case k) [
        | inl h ↦ now (shown_leads (subst (λ (w : WorldMap). now_in (w.directories g) n ≡ Some f) (world_next start o s Failed Before (Crash v ∷ past) dead) h))
        | inr h ↦ elim (led_case h) [ inl h ↦ now (shown_leads h) | inr h ↦ on (on h) ]
      ]
        where
          shown_leads : now_in ((world_after start (Crash v ∷ past)).directories g) n ≡ Some f → Leads start (Crash v ∷ (Act o s Failed Made ∷ past)) g n f
          shown_leads h = subst (λ (w : WorldMap). now_in (w.directories g) n ≡ Some f) (world_crash start v past ∙ sym (world_crash start v (Act o s Failed Made ∷ past))) h

      back : (run : ℕ) (g : Place) (n : List ℕ) → IsLockable g → is_temp_of run (kind_of n) ≡ true → Cares o (own o past) s → HasLed start g n f (Act o s Failed Before ∷ (Crash v ∷ past)) → HasLed start g n f (Act o s Failed Made ∷ past)
      back run g n lock temp cares k = crash_led start (Act o s Failed Made ∷ past) v _ g n (image_within start past v o s _ image)
          (once start g n lock (temp_own run n temp) st (fails o s Made l lv (may_made s)) (cares, careful.1) none) f (as_made g n k)
  apart (stops o {past = past} l) careful none u z = apart l careful none (back p x u) (back q y z)
    where
      back : (g : Place) (n : List ℕ) → HasLed start g n f (End o ∷ past) → HasLed start g n f past
      back g n k = elim (led_case k) [ inl h ↦ now (subst (λ (w : WorldMap). now_in (w.directories g) n ≡ Some f) (world_end start o past) h) | inr h ↦ h ]
