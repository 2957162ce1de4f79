-- A temporary or held name leads to one file only, also through crashes.
use Rattle.std.proofs.Common.{◌≡◌, ℕ, Bool, true, ◌⊎◌, inl, inr, List, [], ◌∷◌, Option, Some, None, refl, sym, ◌∙◌, ap, subst}
use Rattle.mh_base.specs.Entries.{kind_of}
use Rattle.step_plans.proofs.Tried.{tried, careful_then, none_then}
use Rattle.folder_files.specs.Careful.{WasMade}
use Rattle.folder_files.specs.CrashImage.{IsCrashImage}
use Rattle.folder_files.specs.Deeds.{WasDone, Deed}
use Rattle.folder_files.specs.Directory.{Slots, DirectoryMap, lead, now_in, IsUntouched}
use Rattle.folder_files.specs.Histories.{world_after, own, IsLegal, begins, answers, fails, is_dead, delivers, crashes, crashes_within, stops, AreCareful, IsLockable}
use Rattle.folder_files.specs.Named.{is_temp, is_temp_of, is_held, is_taking}
use Rattle.folder_files.specs.Steps.{made, next_after, directory_after}
use Rattle.folder_files.specs.Worlds.{WorldMap, shown, IsStart}
use Rattle.folder_files.specs.declared.event.After.{After}
use Rattle.folder_files.specs.declared.event.After.TheVariants.{Before, Made}
use Rattle.folder_files.specs.declared.event.Event.{Event}
use Rattle.folder_files.specs.declared.event.Event.TheVariants.{Act, Deliver, Crash, End}
use Rattle.folder_files.specs.declared.place.Place.{Place}
use Rattle.folder_files.specs.declared.step.Answer.{Answer}
use Rattle.folder_files.specs.declared.step.Answer.TheVariants.{Failed}
use Rattle.folder_files.specs.declared.step.Step.{Step}
use Rattle.folder_files.specs.declared.step.Step.TheVariants as step
use Rattle.folder_files.specs.declared.world.Change.{Change}
use Rattle.folder_files.specs.declared.world.World.{World}
use Rattle.step_plans.specs.MailInvariant.{MailInvariant}
use Rattle.step_plans.specs.Moments.{Leads, HasLed, now, on, IsTriedAt, WouldMake, IsMadeOnce}
use Rattle.folder_files.specs.Standing.{is_own}
use Rattle.step_plans.specs.Starts.{HasNoneOf, HasNoneOfTheirs}
use Rattle.folder_files.proofs.Names.{own_cases, temp_owned, held_owned, is_taking_held}
use Rattle.step_plans.proofs.Closing.{AtEach, kept_moment, end_stands}
use Rattle.folder_files.proofs.Changes.{IsTarget, IsUnseen, unseen_leads, Goes, stays, opens, takes_on, settles, arrives, step_goes}
use Rattle.folder_files.proofs.Effects.{IsNext, answered, failed, refused, left_next, ComesTo, next_goes, world_start, world_crash, world_deliver, world_end, world_next, made_left}
use Rattle.step_plans.proofs.Past.{once_map, once_more, put_lock, durable_lock}
use Rattle.step_plans.proofs.Holds.{directory_in, Stood}
use Rattle.step_plans.proofs.Inv.{Inv, WasFailed, WasMakingFailed}
use Rattle.step_plans.proofs.Discipline.{held_target, temp_target, Cares}
use Rattle.folder_files.proofs.Beginning.{nothing_pending}
use Rattle.step_plans.proofs.Crashes.{ended_by}
use Rattle.step_plans.proofs.Law.{inv, none_now, none_before, may_made, careful_back, image_within, within_ended, heir, heirs}

pub at_more : (P Q : Option ℕ → Type 0) (s : Slots) (cs : List Change) (x : List ℕ) → ((v : Option ℕ) → P v → Q v) → AtEach P s cs x → AtEach Q s cs x
at_more P Q s [] x m h = m (s x) h
at_more P Q s (c ∷ cs) x m h = (m (lead s (c ∷ cs) x) h.0, at_more P Q s cs x m h.1)

at_unseen : (P : Option ℕ → Type 0) (s : Slots) (cs : List Change) (x : List ℕ) → P None → s x ≡ None → IsUntouched x cs → AtEach P s cs x
at_unseen P s [] x none e u = subst P (sym e) none
at_unseen P s (c ∷ cs) x none e u = (subst P (sym (unseen_leads (record { there = true; safe = s; pending = c ∷ cs }) x (e, u))) none, at_unseen P s cs x none e u.1)

-- after a step: the new moment, and the old ones
pub at_goes : (P : Option ℕ → Type 0) (k j : ℕ) (t : List ℕ → Type 0) (d : DirectoryMap) {e : DirectoryMap} (x : List ℕ) → Goes k j t d e → AtEach P d.safe d.pending x → P (now_in e x) → AtEach P e.safe e.pending x
at_goes P k j t d x stays h new = h
at_goes P k j t d x opens h new = h
at_goes P k j t d x (takes_on c l n b) h new = (new, h)
at_goes P k j t d x settles h new = new

-- each moment since the last sync was led
abbrev WasLed : World → Place → List ℕ → List Event → Option ℕ → Type 0
WasLed start p x past v = (g : ℕ) → v ≡ Some g → HasLed start p x g past

abbrev IsAt : ℕ → Option ℕ → Type 0
IsAt f v = (v ≡ None) ⊎ (v ≡ Some f)

pub record LedOnce (start : World) (past : List Event) (p : Place) (x : List ℕ) : Type 0 where
  pub led : AtEach (WasLed start p x past) (directory_in start past p).safe (directory_in start past p).pending x
  pub unique : (f g : ℕ) → HasLed start p x f past → HasLed start p x g past → f ≡ g
  pub states : (f : ℕ) → HasLed start p x f past → AtEach (IsAt f) (directory_in start past p).safe (directory_in start past p).pending x

-- the name was never led to anything
abbrev NeverLed : World → List Event → Place → List ℕ → Type 0
NeverLed start past p x = IsUnseen (directory_in start past p) x × ((f : ℕ) → HasLed start p x f past → ⊥)

pub led_case : {start : World} {p : Place} {x : List ℕ} {f : ℕ} {e : Event} {past : List Event} → HasLed start p x f (e ∷ past) → Leads start (e ∷ past) p x f ⊎ HasLed start p x f past
led_case (now h) = inl h
led_case (on z) = inr z

pub led_start : {start : World} {p : Place} {x : List ℕ} {f : ℕ} → HasLed start p x f [] → Leads start [] p x f
led_start (now h) = h

-- an event by which what comes to x comes to a name never led
once_event : (start : World) (past : List Event) (e : Event) (p : Place) (x : List ℕ) (k j : ℕ) (t : List ℕ → Type 0) → Goes k j t (directory_in start past p) (directory_in start (e ∷ past) p) → (t x → NeverLed start past p x)
    → LedOnce start past p x → LedOnce start (e ∷ past) p x
once_event start past e p x k j t goes fresh o = record {
  led = at_goes (WasLed start p x (e ∷ past)) k j t (directory_in start past p) x goes (at_more (WasLed start p x past) (WasLed start p x (e ∷ past)) (directory_in start past p).safe (directory_in start past p).pending x (λ v h g q. on (h g q)) o.led) (λ g q. now q);
  unique = unique;
  states = λ f z. at_goes (IsAt f) k j t (directory_in start past p) x goes (older f z) (newest (now_in (directory_in start (e ∷ past) p) x) refl f z);
}
  where
    -- what is led to now, or was
    case : (f : ℕ) → HasLed start p x f (e ∷ past) → HasLed start p x f past ⊎ (Leads start (e ∷ past) p x f × NeverLed start past p x)
    case f z = elim (led_case z) [
      | inl h ↦ elim (arrives k j t (directory_in start past p) x f goes h) [ inl old ↦ inl (now old) | inr new ↦ inr (h, fresh new) ]
      | inr y ↦ inl y
    ]

    unique : (f g : ℕ) → HasLed start p x f (e ∷ past) → HasLed start p x g (e ∷ past) → f ≡ g
    unique f g y z = elim (case f y) [
      | inl a ↦ elim (case g z) [ inl b ↦ o.unique f g a b | inr b ↦ absurd (b.1.1 f a) ]
      | inr a ↦ elim (case g z) [ inl b ↦ absurd (a.1.1 g b) | inr b ↦ (let h = a.0 in let i = b.0 in cc (h, i)) ]
    ]

    older : (f : ℕ) → HasLed start p x f (e ∷ past) → AtEach (IsAt f) (directory_in start past p).safe (directory_in start past p).pending x
    older f z = elim (case f z) [
      | inl a ↦ o.states f a
      | inr a ↦ at_unseen (IsAt f) (directory_in start past p).safe (directory_in start past p).pending x (inl refl) a.1.0.0 a.1.0.1
    ]

    newest : (v : Option ℕ) → now_in (directory_in start (e ∷ past) p) x ≡ v → (f : ℕ) → HasLed start p x f (e ∷ past) → IsAt f (now_in (directory_in start (e ∷ past) p) x)
    newest None q f z = inl q
    newest (Some g) q f z = inr (q ∙ ap Some (unique g f (now q) z))

-- what it led to after a crash it had led to before
pub crash_led : (start : World) (past : List Event) (v : World) (over : ℕ → Bool) (p : Place) (x : List ℕ) → IsCrashImage (world_after start past) (shown v) over → LedOnce start past p x
    → (f : ℕ) → HasLed start p x f (Crash v ∷ past) → HasLed start p x f past
crash_led start past v over p x image o f z = elim (led_case z) [
  | inl h ↦ kept_moment (WasLed start p x past) (directory_in start past p).safe (directory_in start past p).pending (image.directories p).keep x (image.directories p).closed o.led f
      (sym ((image.directories p).slots x) ∙ rw (image.directories p).nothing_pending at (from h))
  | inr y ↦ y
]
  where
    from : Leads start (Crash v ∷ past) p x f → now_in ((shown v).directories p) x ≡ Some f
    from h = subst (λ (z : WorldMap). now_in (z.directories p) x ≡ Some f) (world_crash start v past) h

-- a crash
once_crash : (start : World) (past : List Event) (v : World) (over : ℕ → Bool) (p : Place) (x : List ℕ) → IsCrashImage (world_after start past) (shown v) over → LedOnce start past p x → LedOnce start (Crash v ∷ past) p x
once_crash start past v over p x image o = record {
  led = subst (λ (z : WorldMap). AtEach (WasLed start p x (Crash v ∷ past)) (z.directories p).safe (z.directories p).pending x) (sym (world_crash start v past))
      (rw (image.directories p).nothing_pending (λ g q. now (to g (rw (image.directories p).nothing_pending q))));
  unique = λ f g y z. o.unique f g (back f y) (back g z);
  states = λ f z. subst (λ (z : WorldMap). AtEach (IsAt f) (z.directories p).safe (z.directories p).pending x) (sym (world_crash start v past))
      (rw (image.directories p).nothing_pending (subst (IsAt f) (sym ((image.directories p).slots x)) (kept_moment (IsAt f) (directory_in start past p).safe (directory_in start past p).pending (image.directories p).keep x (image.directories p).closed (o.states f (back f z)))));
}
  where
    to : (g : ℕ) → now_in ((shown v).directories p) x ≡ Some g → Leads start (Crash v ∷ past) p x g
    to g h = subst (λ (z : WorldMap). now_in (z.directories p) x ≡ Some g) (sym (world_crash start v past)) h

    back : (f : ℕ) → HasLed start p x f (Crash v ∷ past) → HasLed start p x f past
    back f z = crash_led start past v over p x image o f z

-- no step so far can have made it
record IsHeldUnmade (start : World) (past : List Event) (p : Place) (x : List ℕ) : Type 0 where
  pub run : ℕ
  pub number : List ℕ
  pub taking : is_taking run (kind_of number) (kind_of x) ≡ true
  pub none : ((shown start).directories p).safe x ≡ None
  pub not_done : WasDone (step.Rename p number x) (own run past) → ⊥
  pub not_failed : WasFailed (step.Rename p number x) (own run past) → ⊥

record IsTempUnmade (start : World) (past : List Event) (p : Place) (x : List ℕ) : Type 0 where
  pub run : ℕ
  pub temp : is_temp_of run (kind_of x) ≡ true
  pub none : ((shown start).directories p).safe x ≡ None
  pub not_done : WasMade p x (own run past) → ⊥
  pub not_failed : WasMakingFailed p x (own run past) → ⊥

abbrev IsUnmade : World → List Event → Place → List ℕ → Type 0
IsUnmade start past p x = IsLockable p × (IsHeldUnmade start past p x ⊎ IsTempUnmade start past p x)

not_seen : (start : World) (past : List Event) (p : Place) (x : List ℕ) → Inv start past → IsUnmade start past p x → IsUnseen (directory_in start past p) x
not_seen start past p x i (lock, inl h) = (i.fresh p h.run h.number x lock h.taking h.none h.not_done h.not_failed).unseen
not_seen start past p x i (lock, inr h) = i.fresh_temp p h.run x lock h.temp h.none h.not_done h.not_failed

unmade_before : (start : World) (past : List Event) (p : Place) (x : List ℕ) (e : Event) → IsUnmade start (e ∷ past) p x → IsUnmade start past p x
unmade_before start past p x e (lock, inl h) = (lock, inl (record { run = h.run; number = h.number; taking = h.taking; none = h.none; not_done = λ w. h.not_done (once_more h.run e past w); not_failed = λ w. h.not_failed (once_more h.run e past w) }))
unmade_before start past p x e (lock, inr h) = (lock, inr (record { run = h.run; temp = h.temp; none = h.none; not_done = λ w. h.not_done (once_more h.run e past w); not_failed = λ w. h.not_failed (once_more h.run e past w) }))

unseen_not : (start : World) (past : List Event) (p : Place) (f : ℕ) (x : List ℕ) → IsUnseen (directory_in start past p) x → Leads start past p x f → ⊥
unseen_not start past p f x u h = let n = unseen_leads (directory_in start past p) x u in cc (n, h)

-- such a name was never led to anything
never : (start : World) (p : Place) (f : ℕ) (x : List ℕ) {past : List Event} → IsStart start → IsLegal start past → AreCareful past → HasNoneOfTheirs start past → IsUnmade start past p x → HasLed start p x f past → ⊥
never start p f x st begins careful none n z = unseen_not start [] p f x (not_seen start [] p x (inv start st begins careful none) n) (led_start z)
never start p f x st (answers r s a {past = past} l lv fits) careful none n z = elim (led_case z) [
  | inl h ↦ unseen_not start (Act r s a Made ∷ past) p f x (not_seen start (Act r s a Made ∷ past) p x (inv start st (answers r s a l lv fits) careful none) n) h
  | inr y ↦ never start p f x st l careful.1 (none_before start r s a Made past none) (unmade_before start past p x (Act r s a Made) n) y
]
never start p f x st (fails r s m {past = past} l lv may) careful none n z = elim (led_case z) [
  | inl h ↦ unseen_not start (Act r s Failed m ∷ past) p f x (not_seen start (Act r s Failed m ∷ past) p x (inv start st (fails r s m l lv may) careful none) n) h
  | inr y ↦ never start p f x st l careful.1 (none_before start r s Failed m past none) (unmade_before start past p x (Act r s Failed m) n) y
]
never start p f x st (is_dead r s {past = past} l over) careful none n z = elim (led_case z) [
  | inl h ↦ unseen_not start (Act r s Failed Before ∷ past) p f x (not_seen start (Act r s Failed Before ∷ past) p x (inv start st (is_dead r s l over) careful none) n) h
  | inr y ↦ never start p f x st l careful.1 (none_before start r s Failed Before past none) (unmade_before start past p x (Act r s Failed Before) n) y
]
never start p f x st (delivers path b {past = past} l) careful none n z = elim (led_case z) [
  | inl h ↦ unseen_not start (Deliver path b ∷ past) p f x (not_seen start (Deliver path b ∷ past) p x (inv start st (delivers path b l) careful none) n) h
  | inr y ↦ never start p f x st l careful none (unmade_before start past p x (Deliver path b) n) y
]
never start p f x st (crashes v {past = past} l image) careful none n z = elim (led_case z) [
  | inl h ↦ unseen_not start (Crash v ∷ past) p f x (not_seen start (Crash v ∷ past) p x (inv start st (crashes v l image) careful none) n) h
  | inr y ↦ never start p f x st l careful none (unmade_before start past p x (Crash v) n) y
]
never start p f x st (crashes_within v r s {past = past} l lv image) careful none n z = elim (led_case z) [
  | inl h ↦ at_end h
  | inr y ↦ elim (led_case y) [
    | inl h ↦ at_end (same h)
    | inr y ↦ never start p f x st l careful.1 (none_before start r s Failed Before (Crash v ∷ past) none) (unmade_before start past p x (Crash v) (unmade_before start (Crash v ∷ past) p x (Act r s Failed Before) n)) y
  ]
]
  where
    at_end : Leads start (Act r s Failed Before ∷ (Crash v ∷ past)) p x f → ⊥
    at_end h = unseen_not start (Act r s Failed Before ∷ (Crash v ∷ past)) p f x (not_seen start (Act r s Failed Before ∷ (Crash v ∷ past)) p x (inv start st (crashes_within v r s l lv image) careful none) n) h

    same : Leads start (Crash v ∷ past) p x f → Leads start (Act r s Failed Before ∷ (Crash v ∷ past)) p x f
    same h = subst (λ (z : WorldMap). now_in (z.directories p) x ≡ Some f) (sym (world_next start r s Failed Before (Crash v ∷ past) (refused (ended_by start v past r (within_ended r v past (made (world_after start past) r s).ended image.ended))))) h
never start p f x st (stops r {past = past} l) careful none n z = elim (led_case z) [
  | inl h ↦ unseen_not start (End r ∷ past) p f x (not_seen start (End r ∷ past) p x (inv start st (stops r l) careful none) n) h
  | inr y ↦ never start p f x st l careful none (unmade_before start past p x (End r) n) y
]

target_fresh : (start : World) (past : List Event) (r : ℕ) (s : Step) (p : Place) (x : List ℕ) → IsLockable p → is_own x ≡ true → Cares r (own r past) s → HasNoneOf start r → IsTarget s p x → IsUnmade start past p x
target_fresh start past r s p x lock is careful none t = (lock, elim (own_cases x is) [ inl temp ↦ inr (made_so temp) | inr held ↦ inl (took held) ])
  where
    made_so : is_temp (kind_of x) ≡ true → IsTempUnmade start past p x
    made_so temp = let h = temp_target r (own r past) s p x lock careful temp t in
        record { run = r; temp = h.temp; none = none p x (temp_owned r x h.temp); not_done = h.fresh; not_failed = λ w. h.unfailed (once_map (λ d older e. ap (λ k. k.answer) e.1) w) }

    took : is_held (kind_of x) ≡ true → IsHeldUnmade start past p x
    took held = let h = held_target r (own r past) s p x lock careful held t in
        record { run = r; number = h.number; taking = h.taking; none = none p x (held_owned r x (is_taking_held r h.number x h.taking)); not_done = h.fresh; not_failed = λ w. h.unfailed (once_map (λ d older e. ap (λ k. k.answer) e) w) }

once_act : (start : World) (past : List Event) (r : ℕ) (s : Step) (a : Answer) (m : After) (p : Place) (x : List ℕ) → IsLockable p → is_own x ≡ true → IsStart start → IsLegal start past → AreCareful past → HasNoneOfTheirs start past → HasNoneOf start r
    → Cares r (own r past) s → IsNext (world_after start past) r s a m → LedOnce start past p x → LedOnce start (Act r s a m ∷ past) p x
once_act start past r s a m p x lock is st l all theirs none careful nx o =
    once_event start past (Act r s a m) p x (world_after start past).next_file (left_next (world_after start past) s m) (ComesTo s a p)
    (subst (λ (z : WorldMap). Goes (world_after start past).next_file (left_next (world_after start past) s m) (ComesTo s a p) (directory_in start past p) (z.directories p)) (sym (world_next start r s a m past nx)) (next_goes (world_after start past) r s a m p nx))
    (λ t. let n = target_fresh start past r s p x lock is careful none t.0 in (not_seen start past p x (inv start st l all theirs) n, λ f z. never start p f x st l all theirs n z)) o

-- an event that leaves the directories
once_calm : (start : World) (past : List Event) (e : Event) (p : Place) (x : List ℕ) → directory_in start (e ∷ past) p ≡ directory_in start past p → LedOnce start past p x → LedOnce start (e ∷ past) p x
once_calm start past e p x same o = once_event start past e p x 0 0 (λ x. ⊥) (subst (λ (z : DirectoryMap). Goes 0 0 (λ x. ⊥) (directory_in start past p) z) (sym same) stays) (λ t. absurd t) o

-- as if the step had been made, and then the crash
once_within : (start : World) (past : List Event) (v : World) (r : ℕ) (s : Step) (p : Place) (x : List ℕ) → LedOnce start (Crash v ∷ (Act r s Failed Made ∷ past)) p x
    → (shown v).ended r ≡ true → ((shown v).directories p).pending ≡ [] → LedOnce start (Act r s Failed Before ∷ (Crash v ∷ past)) p x
once_within start past v r s p x o over empty = record {
  led = subst (λ (z : DirectoryMap). AtEach (WasLed start p x (Act r s Failed Before ∷ (Crash v ∷ past))) z.safe z.pending x) (sym here) (rw empty (λ g q. now (back g (rw empty q))));
  unique = λ f g y z. o.unique f g (to f y) (to g z);
  states = λ f z. subst (λ (z : DirectoryMap). AtEach (IsAt f) z.safe z.pending x) (there ∙ sym here) (o.states f (to f z));
}
  where
    after_crash : directory_in start (Crash v ∷ past) p ≡ (shown v).directories p
    after_crash = ap (λ w. w.directories p) (world_crash start v past)

    here : directory_in start (Act r s Failed Before ∷ (Crash v ∷ past)) p ≡ (shown v).directories p
    here = ap (λ w. w.directories p) (world_next start r s Failed Before (Crash v ∷ past) (refused (ended_by start v past r over))) ∙ after_crash

    there : directory_in start (Crash v ∷ (Act r s Failed Made ∷ past)) p ≡ (shown v).directories p
    there = ap (λ w. w.directories p) (world_crash start v (Act r s Failed Made ∷ past))

    back : (f : ℕ) → now_in ((shown v).directories p) x ≡ Some f → Leads start (Act r s Failed Before ∷ (Crash v ∷ past)) p x f
    back f h = subst (λ (z : DirectoryMap). now_in z x ≡ Some f) (sym here) h

    as_there : (f : ℕ) → now_in ((shown v).directories p) x ≡ Some f → Leads start (Crash v ∷ (Act r s Failed Made ∷ past)) p x f
    as_there f h = subst (λ (z : DirectoryMap). now_in z x ≡ Some f) (sym there) h

    to : (f : ℕ) → HasLed start p x f (Act r s Failed Before ∷ (Crash v ∷ past)) → HasLed start p x f (Crash v ∷ (Act r s Failed Made ∷ past))
    to f z = elim (led_case z) [
      | inl h ↦ now (as_there f (subst (λ (z : DirectoryMap). now_in z x ≡ Some f) here h))
      | inr y ↦ elim (led_case y) [ inl h ↦ now (as_there f (subst (λ (z : DirectoryMap). now_in z x ≡ Some f) after_crash h)) | inr y ↦ on (on y) ]
    ]

pub once : (start : World) (p : Place) (x : List ℕ) {past : List Event} → IsLockable p → is_own x ≡ true → IsStart start → IsLegal start past → AreCareful past → HasNoneOfTheirs start past → LedOnce start past p x
once start p x lock is st begins careful none = record {
  led = subst (λ (z : WorldMap). AtEach (WasLed start p x []) (z.directories p).safe (z.directories p).pending x) (sym (world_start start)) (rw (nothing_pending start st p) (λ g q. now (back g (rw (nothing_pending start st p) q))));
  unique = λ f g y z. (let a = led_start y in let b = led_start z in cc (a, b));
  states = λ f z. subst (λ (z : WorldMap). AtEach (IsAt f) (z.directories p).safe (z.directories p).pending x) (sym (world_start start))
      (rw (nothing_pending start st p) (inr (rw (nothing_pending start st p) at (subst (λ (z : WorldMap). now_in (z.directories p) x ≡ Some f) (world_start start) (led_start z)))));
}
  where
    back : (g : ℕ) → now_in ((shown start).directories p) x ≡ Some g → Leads start [] p x g
    back g h = subst (λ (z : WorldMap). now_in (z.directories p) x ≡ Some g) (sym (world_start start)) h
once start p x lock is st (answers r s a {past = past} l lv fits) careful none = let none_b = none_before start r s a Made past none in
    once_act start past r s a Made p x lock is st l careful.1 none_b (none_now start r s a Made past none) careful.0 (answered a lv fits) (once start p x lock is st l careful.1 none_b)
once start p x lock is st (fails r s m {past = past} l lv may) careful none = let none_b = none_before start r s Failed m past none in
    once_act start past r s Failed m p x lock is st l careful.1 none_b (none_now start r s Failed m past none) careful.0 (failed m lv may) (once start p x lock is st l careful.1 none_b)
once start p x lock is st (is_dead r s {past = past} l over) careful none = let none_b = none_before start r s Failed Before past none in
    once_act start past r s Failed Before p x lock is st l careful.1 none_b (none_now start r s Failed Before past none) careful.0 (refused over) (once start p x lock is st l careful.1 none_b)
once start p x lock is st (delivers path b {past = past} l) careful none = once_calm start past _ p x (ap (λ w. w.directories p) (world_deliver start path b past)) (once start p x lock is st l careful none)
once start p x lock is st (crashes v {past = past} l image) careful none = once_crash start past v _ p x image (once start p x lock is st l careful none)
once start p x lock is st (crashes_within v r s {past = past} l lv image) careful none = let none_b = none_before start r s Failed Before (Crash v ∷ past) none in
    once_within start past v r s p x
    (once_crash start (Act r s Failed Made ∷ past) v _ p x (image_within start past v r s _ image)
    (once_act start past r s Failed Made p x lock is st l careful.1 none_b (none_now start r s Failed Before (Crash v ∷ past) none) (careful_back r s v past careful.0) (failed Made lv (may_made s))
    (once start p x lock is st l careful.1 none_b)))
    (within_ended r v past (made (world_after start past) r s).ended image.ended) (image.directories p).nothing_pending
once start p x lock is st (stops r {past = past} l) careful none = once_calm start past _ p x (ap (λ w. w.directories p) (world_end start r past)) (once start p x lock is st l careful none)

-- a step that would make the name comes to a name that led to nothing before
making_fresh : (start : World) (past : List Event) (r : ℕ) (s : Step) (p : Place) (x : List ℕ) → IsLockable p → is_own x ≡ true → IsStart start → IsLegal start past → AreCareful past → HasNoneOfTheirs start past → HasNoneOf start r
    → Cares r (own r past) s → WouldMake (world_after start past) r s p x → (f : ℕ) → HasLed start p x f past → ⊥
making_fresh start past r s p x lock is st l all theirs none careful would f led =
    elim (arrives (world_after start past).next_file (next_after (world_after start past) s) (λ y. IsTarget s p y) (directory_in start past p) x would.1.0 (step_goes (world_after start past) s p) leads) [
      | inl old ↦ (let n = would.0 in cc (old, n))
      | inr new ↦ never start p f x st l all theirs (target_fresh start past r s p x lock is careful none new) led
    ]
  where
    leads : now_in (directory_after (world_after start past) s p) x ≡ Some would.1.0
    leads = subst (λ (z : WorldMap). now_in (z.directories p) x ≡ Some would.1.0) (made_left (world_after start past) r s) would.1.1

made_act : (start : World) (past : List Event) (r : ℕ) (s : Step) {a : Answer} {m : After} (p : Place) (x : List ℕ) → IsLockable p → is_own x ≡ true → IsStart start → IsLegal start (Act r s a m ∷ past) → AreCareful past → HasNoneOfTheirs start past → HasNoneOf start r
    → Cares r (own r past) s → (moment : List Event) → IsTriedAt start r moment past → WouldMake (world_after start moment) r s p x → (f : ℕ) → HasLed start p x f moment → ⊥
made_act start past r s p x lock is st l all theirs none careful moment t would f led = let k = tried start r s l t in
    making_fresh start moment r s p x lock is st k.legal (careful_then t all) (none_then t theirs) none (subst (λ (ds : List Deed). Cares r ds s) k.deeds careful) would f led

made_once : (start : World) (p : Place) (x : List ℕ) {past : List Event} → IsStart start → IsLockable p → is_own x ≡ true → IsLegal start past → AreCareful past → HasNoneOfTheirs start past → IsMadeOnce start p x past
made_once start p x st lock is begins careful none = tt
made_once start p x st lock is (answers r s a {past = past} l lv fits) careful none = let none_b = none_before start r s a Made past none in
    (made_act start past r s p x lock is st (answers r s a l lv fits) careful.1 none_b (none_now start r s a Made past none) careful.0, made_once start p x st lock is l careful.1 none_b)
made_once start p x st lock is (fails r s m {past = past} l lv may) careful none = let none_b = none_before start r s Failed m past none in
    (made_act start past r s p x lock is st (fails r s m l lv may) careful.1 none_b (none_now start r s Failed m past none) careful.0, made_once start p x st lock is l careful.1 none_b)
made_once start p x st lock is (is_dead r s {past = past} l over) careful none = let none_b = none_before start r s Failed Before past none in
    (made_act start past r s p x lock is st (is_dead r s l over) careful.1 none_b (none_now start r s Failed Before past none) careful.0, made_once start p x st lock is l careful.1 none_b)
made_once start p x st lock is (delivers path b l) careful none = made_once start p x st lock is l careful none
made_once start p x st lock is (crashes v l image) careful none = made_once start p x st lock is l careful none
made_once start p x st lock is (crashes_within v r s {past = past} l lv image) careful none = let none_b = none_before start r s Failed Before (Crash v ∷ past) none in
    (made_act start (Crash v ∷ past) r s p x lock is st (crashes_within v r s l lv image) careful.1 none_b (none_now start r s Failed Before (Crash v ∷ past) none) careful.0, made_once start p x st lock is l careful.1 none_b)
made_once start p x st lock is (stops r l) careful none = made_once start p x st lock is l careful none

stood_lock : {start : World} {p : Place} {f : ℕ} {b : List ℕ} {past : List Event} → Stood start p past f b → IsLockable p
stood_lock (inl z) = put_lock z
stood_lock (inr z) = durable_lock z

pub mail_invariant : (start : World) (past : List Event) → IsStart start → IsLegal start past → AreCareful past → HasNoneOfTheirs start past → MailInvariant start past
mail_invariant start past st l careful none = record {
  one_file = λ p x f g lock is y z. (once start p x lock is st l careful none).unique f g y z;
  safe = λ p f b ps. (let i = inv start st l careful none in elim ps [ inl z ↦ ((i.put p f b z).safe, (i.put p f b z).bytes) | inr z ↦ ((i.durable p f b z).safe, (i.durable p f b z).bytes) ]);
  solid = λ p f b ps. elim (((inv start st l careful none).holds p (stood_lock ps)).solid f b ps) [ inl k ↦ inl (record { name = k.name; standing = k.standing; unspent = k.unspent; leads = k.leads }) | inr z ↦ inr z ];
  anchored = λ p f b s. elim (((inv start st l careful none).holds p (durable_lock s)).anchored f b s) [
    | inl k ↦ inl (record { root = k.root; end = k.end; anchor = k.anchor; standing = end_stands (directory_in start past p).safe (directory_in start past p).pending f k.root k.end k.anchor; unclear = k.unclear })
    | inr z ↦ inr z
  ];
  succeeded = λ p f lock d. heir start p f lock l careful d;
  made_once = λ p x lock is. made_once start p x st lock is l careful none;
  safe_ever = λ p f b w. (let z = (inv start st l careful none).ever p f b w in (z.safe, z.bytes));
  successors = λ p f q g b c lock w. heirs start p f q g b c lock st l careful none w;
}
