-- A text file is committed once, so a mark of it has one bearer.
use Rattle.std.proofs.Common.{◌≡◌, ℕ, true, false, ◌⊎◌, inl, inr, List, [], ◌∷◌, Option, Some, None, refl, sym, ◌∙◌, ap, subst, arith, bytes_eq}
use Rattle.mh_base.specs.Entries.{kind_of}
use Rattle.folder_files.specs.Deeds.{Deed, Once, HasFailed}
use Rattle.folder_files.specs.Directory.{DirectoryMap, now_in}
use Rattle.folder_files.specs.Histories.{world_after, own, IsLive, IsLockable, IsLegal, begins, answers, fails, is_dead, delivers, crashes, crashes_within, stops, AreCareful}
use Rattle.folder_files.specs.Named.{is_committed, is_temp_of}
use Rattle.folder_files.specs.Steps.{directory_after, with_renamed}
use Rattle.folder_files.specs.Worlds.{WorldMap, IsStart}
use Rattle.folder_files.specs.declared.event.After.{After}
use Rattle.folder_files.specs.declared.event.After.TheVariants.{Before, Made}
use Rattle.folder_files.specs.declared.event.Event.{Event}
use Rattle.folder_files.specs.declared.event.Event.TheVariants.{Act, Deliver, Crash, End}
use Rattle.folder_files.specs.declared.place.Place.{Place}
use Rattle.folder_files.specs.declared.step.Answer.{Answer}
use Rattle.folder_files.specs.declared.step.Answer.TheVariants.{Failed}
use Rattle.folder_files.specs.declared.step.Step.{Step}
use Rattle.folder_files.specs.declared.step.Step.TheVariants as step
use Rattle.folder_files.specs.declared.world.World.{World}
use Rattle.step_plans.specs.Moments.{Leads, HasLed, now, on, IsTriedAt, live, cut}
use Rattle.step_plans.specs.Starts.{HasNoneOf, HasNoneOfTheirs}
use Rattle.folder_files.proofs.Sameness.{place_is}
use Rattle.folder_files.proofs.Names.{not_both, bytes_self, bytes_false, temp_owned, is_temp_run, number_text}
use Rattle.folder_files.proofs.Changes.{unseen_leads}
use Rattle.folder_files.proofs.Effects.{IsNext, answered, failed, refused, world_start, world_deliver, world_end, world_next}
use Rattle.step_plans.proofs.Past.{once_more, once_mine}
use Rattle.step_plans.proofs.Discipline.{Cares, careful_rename, committed_lock}
use Rattle.step_plans.proofs.Committing.{commit_of, apart_own, temp_own}
use Rattle.folder_files.proofs.Beginning.{nothing_pending}
use Rattle.step_plans.proofs.Crashes.{ended_by}
use Rattle.step_plans.proofs.Law.{inv, none_now, none_before}
use Rattle.step_plans.proofs.Told.{lives_before}
use Rattle.step_plans.proofs.Locks.{gone_crash, gone_within, live_end}
use Rattle.step_plans.proofs.Tried.{tried, careful_then, none_then}
use Rattle.step_plans.proofs.Apart.{act_leads, led_below, apart}
use Rattle.marks_law.proofs.Sounding.{absent}
use Rattle.marks_law.specs.Bearers.{Marking, marks, Numbers, Bears, stood, set, kept, on}

-- the name led to the file at the start, or a run tried to commit the file
data WasText (start : World) (p : Place) (x : List ℕ) (f : ℕ) : List Event → Type 0 where
  began : Leads start [] p x f → WasText start p x f []
  tries : {run : ℕ} {temp : List ℕ} {a : Answer} {m : After} {past : List Event} (moment : List Event) → IsTriedAt start run moment past → Leads start moment p temp f
      → WasText start p x f (Act run (step.Rename p temp x) a m ∷ past)
  later : {e : Event} {past : List Event} → WasText start p x f past → WasText start p x f (e ∷ past)

-- the step, tried here, was a commit of the file
abbrev TriesText : World → Place → List ℕ → ℕ → ℕ → Step → List Event → Type 0
TriesText start p x f r s past = (t : List ℕ) × (moment : List Event) × (s ≡ step.Rename p t x) × IsTriedAt start r moment past × Leads start moment p t f

text_act : {start : World} {p : Place} {x : List ℕ} {f r : ℕ} {s : Step} {a : Answer} {m : After} {past : List Event} → WasText start p x f (Act r s a m ∷ past) → TriesText start p x f r s past ⊎ WasText start p x f past
text_act (tries {temp = t} moment tr lt) = inl (t, moment, refl, tr, lt)
text_act (later z) = inr z

text_crash : {start v : World} {p : Place} {x : List ℕ} {f : ℕ} {past : List Event} → WasText start p x f (Crash v ∷ past) → WasText start p x f past
text_crash (later z) = z

text_deliver : {start : World} {p : Place} {x : List ℕ} {f : ℕ} {path : _} {piece : List ℕ} {past : List Event} → WasText start p x f (Deliver path piece ∷ past) → WasText start p x f past
text_deliver (later z) = z

text_end : {start : World} {p : Place} {x : List ℕ} {f o : ℕ} {past : List Event} → WasText start p x f (End o ∷ past) → WasText start p x f past
text_end (later z) = z

text_then : {start : World} {p : Place} {x : List ℕ} {f r : ℕ} {moment past : List Event} → IsTriedAt start r moment past → WasText start p x f past → WasText start p x f moment
text_then (live lv) z = z
text_then (cut over lv) z = text_crash z

-- a name led to it
led_then : {start : World} {p : Place} {t : List ℕ} {f r : ℕ} {moment past : List Event} → IsTriedAt start r moment past → Leads start moment p t f → HasLed start p t f past
led_then (live lv) lt = now lt
led_then (cut over lv) lt = on (now lt)

text_led : {start : World} {p : Place} {x : List ℕ} {f : ℕ} {past : List Event} → WasText start p x f past → (y : List ℕ) × HasLed start p y f past
text_led {x = x} (began h) = (x, now h)
text_led (tries {temp = t} moment tr lt) = (t, on (led_then tr lt))
text_led (later z) = let y = text_led z in (y.0, on y.1)

-- a name that was renamed is gone
gone_name : (d : DirectoryMap) (t x : List ℕ) (f : ℕ) → bytes_eq t x ≡ false → bytes_eq x t ≡ false → now_in d t ≡ Some f → now_in (with_renamed d t x) t ≡ None
gone_name d t x f e g l = rw (e, l) (rw (g, bytes_self t) refl)

-- no temporary name of a live run that has not failed leads to it any more
module _ (start : World) (p : Place) (x : List ℕ) (f : ℕ) (st : IsStart start) (c : is_committed p x ≡ true) (r : ℕ) (t : List ℕ) (temp : is_temp_of r (kind_of t) ≡ true) (fresh : HasNoneOf start r) where
  lock : IsLockable p
  lock = committed_lock p x c

  below : {past : List Event} → IsLegal start past → AreCareful past → HasNoneOfTheirs start past → (y : List ℕ) → HasLed start p y f past → f ≡ (world_after start past).next_file → ⊥
  below l careful none y h e = let k = led_below start p y f st l careful none h in omega (arith, e)

  -- the name is gone once it was renamed
  renamed : (past : List Event) (o : ℕ) (s : Step) (a : Answer) (m : After) → IsNext (world_after start past) o s a m → (a ≡ Failed → ⊥) → s ≡ step.Rename p t x → Leads start past p t f → Leads start (Act o s a m ∷ past) p t f → ⊥
  renamed past o s _ _ (answered a lv fits) no_fail es old h = absurd (absent (rw (place_is p) (gone_name ((world_after start past).directories p) t x f apart_tx apart_xt old))
      (subst (λ (z : Step). now_in (directory_after (world_after start past) z p) t ≡ Some f) es
      (subst (λ (z : WorldMap). now_in (z.directories p) t ≡ Some f) (world_next start o s a Made past (answered a lv fits)) h)))
    where
      apart_tx : bytes_eq t x ≡ false
      apart_tx = apart_own p x t c (temp_own r t temp)

      apart_xt : bytes_eq x t ≡ false
      apart_xt = bytes_false x t (λ e. not_both (bytes_eq t x) (subst (λ z. bytes_eq t z ≡ true) (sym e) (bytes_self t)) apart_tx)
  renamed past o s _ _ (failed m lv may) no_fail es old h = no_fail refl
  renamed past o s _ _ (refused over) no_fail es old h = no_fail refl

  -- an act
  never_act : (past : List Event) (o : ℕ) (s : Step) (a : Answer) (m : After) → IsLegal start past → AreCareful past → HasNoneOfTheirs start past → HasNoneOf start o → Cares o (own o past) s → IsNext (world_after start past) o s a m
      → ((HasFailed (own r past) → ⊥) → WasText start p x f past → Leads start past p t f → ⊥) → (HasFailed (own r (Act o s a m ∷ past)) → ⊥) → WasText start p x f (Act o s a m ∷ past) → Leads start (Act o s a m ∷ past) p t f → ⊥
  never_act past o s a m l careful none fresh_o cares nx rest unfailed z h = elim (text_act z) [
    | inl y ↦ elim (act_leads start past o s a m r p t f lock temp cares nx h) [
      | inl old ↦ commit y.0 y.1 y.2 y.3 y.4 old
      | inr new ↦ below l careful none y.0 (led_then y.3 y.4) new.0
    ]
    | inr y ↦ elim (act_leads start past o s a m r p t f lock temp cares nx h) [
      | inl old ↦ rest (λ w. unfailed (once_more r (Act o s a m) past w)) y old
      | inr new ↦ (let k = text_led y in below l careful none k.0 k.1 new.0)
    ]
  ]
    where
      commit : (u : List ℕ) (moment : List Event) → s ≡ step.Rename p u x → IsTriedAt start o moment past → Leads start moment p u f → Leads start past p t f → ⊥
      commit u moment es tr lt old = renamed past o s a m nx no_fail (es ∙ ap (λ y. step.Rename p y x) same) old h
        where
          temp_u : is_temp_of o (kind_of u) ≡ true
          temp_u = (commit_of o (own o past) p u x c (careful_rename o (own o past) p u x (subst (λ (y : Step). Cares o (own o past) y) es cares lock)).1).1.0

          same : u ≡ t
          same = (apart start o r p p u t f st fresh_o lock lock temp_u temp l careful none (led_then tr lt) (now old)).1

          no_fail : a ≡ Failed → ⊥
          no_fail e = unfailed (once_mine r o s a m past (is_temp_run o r t (subst (λ y. is_temp_of o (kind_of y) ≡ true) same temp_u) temp) e)

  -- a crash ended all runs that acted
  never_fresh : {past : List Event} → IsLegal start past → AreCareful past → HasNoneOfTheirs start past → ((P : Deed → List Deed → Type 0) → Once P (own r past) → ⊥) → Leads start past p t f → ⊥
  never_fresh {past = past} l careful none gone h =
      absent (unseen_leads ((world_after start past).directories p) t ((inv start st l careful none).fresh_temp p r t lock temp (fresh p t (temp_owned r t temp)) (λ w. gone _ w) (λ w. gone _ w))) h

  never_again : {past : List Event} → IsLegal start past → AreCareful past → HasNoneOfTheirs start past → IsLive r (world_after start past) → (HasFailed (own r past) → ⊥) → WasText start p x f past → Leads start past p t f → ⊥
  unfolding own
  never_again begins careful none lv unfailed z h = absent (fresh p t (temp_owned r t temp)) (rw (nothing_pending start st p) at (subst (λ (k : WorldMap). now_in (k.directories p) t ≡ Some f) (world_start start) h))
  never_again (answers o s a {past = past} l alive fits) careful none lv unfailed z h = let nx : IsNext (world_after start past) o s a Made = answered a alive fits in let none_b = none_before start o s a Made past none in
      never_act past o s a Made l careful.1 none_b (none_now start o s a Made past none) careful.0 nx (λ u y k. never_again l careful.1 none_b (lives_before start r o s a Made past nx lv) u y k) unfailed z h
  never_again (fails o s m {past = past} l alive may) careful none lv unfailed z h = let nx : IsNext (world_after start past) o s Failed m = failed m alive may in let none_b = none_before start o s Failed m past none in
      never_act past o s Failed m l careful.1 none_b (none_now start o s Failed m past none) careful.0 nx (λ u y k. never_again l careful.1 none_b (lives_before start r o s Failed m past nx lv) u y k) unfailed z h
  never_again (is_dead o s {past = past} l over) careful none lv unfailed z h = let nx : IsNext (world_after start past) o s Failed Before = refused over in let none_b = none_before start o s Failed Before past none in
      never_act past o s Failed Before l careful.1 none_b (none_now start o s Failed Before past none) careful.0 nx (λ u y k. never_again l careful.1 none_b (lives_before start r o s Failed Before past nx lv) u y k) unfailed z h
  never_again (delivers path piece {past = past} l) careful none lv unfailed z h = never_again l careful none (subst (λ (y : WorldMap). y.ended r ≡ false) (world_deliver start path piece past) lv) unfailed (text_deliver z)
      (subst (λ (y : WorldMap). now_in (y.directories p) t ≡ Some f) (world_deliver start path piece past) h)
  never_again (crashes v {past = past} l image) careful none lv unfailed z h = never_fresh (crashes v l image) careful none (λ P w. gone_crash start r v past image.ended w lv) h
  never_again (crashes_within v o s {past = past} l alive image) careful none lv unfailed z h = never_fresh (crashes_within v o s l alive image) careful none (λ P w. gone_within start r o s v past image.ended w lv) h
  never_again (stops o {past = past} l) careful none lv unfailed z h = never_again l careful none (live_end start r o past lv).1 unfailed (text_end z)
      (subst (λ (y : WorldMap). now_in (y.directories p) t ≡ Some f) (world_end start o past) h)

-- so no run tries to commit it again
no_second : (start : World) (p : Place) (x : List ℕ) (f r : ℕ) (s : Step) (t : List ℕ) (a : Answer) (m : After) {moment past : List Event} → s ≡ step.Rename p t x → IsStart start → is_committed p x ≡ true → IsLegal start (Act r s a m ∷ past)
    → AreCareful (Act r s a m ∷ past) → HasNoneOfTheirs start (Act r s a m ∷ past) → IsTriedAt start r moment past → Leads start moment p t f → WasText start p x f past → ⊥
no_second start p x f r s t a m {past = past} es st c l careful none tr lt z = let q = tried start r s l tr in
    let may = careful_rename r (own r past) p t x (subst (λ (y : Step). Cares r (own r past) y) es careful.0 (committed_lock p x c)) in
    never_again start p x f st c r t (commit_of r (own r past) p t x c may.1).1.0 (none_now start r s a m past none) q.legal (careful_then tr careful.1) (none_then tr (none_before start r s a m past none)) q.lives
    (λ w. may.0 (subst (λ (ds : List Deed). HasFailed ds) (sym q.deeds) w)) (text_then tr z) lt

-- a step is tried at one moment
moment_same : {start : World} {r : ℕ} {one other past : List Event} → IsTriedAt start r one past → IsTriedAt start r other past → one ≡ other
moment_same (live lv) (live kv) = refl
moment_same {start = start} {r = r} (live lv) (cut {v = v} {past = past} over kv) = absurd (not_both ((world_after start (Crash v ∷ past)).ended r) (ended_by start v past r over) lv)
moment_same {start = start} {r = r} (cut {v = v} {past = past} over lv) (live kv) = absurd (not_both ((world_after start (Crash v ∷ past)).ended r) (ended_by start v past r over) kv)
moment_same (cut over lv) (cut over_ kv) = refl

led_one : {u : Option ℕ} {f g : ℕ} → u ≡ Some f → u ≡ Some g → f ≡ g
led_one e h = cc (e, h)

-- the file at a number
number_one : (start : World) (k : Marking) (past : List Event) (n : ℕ) {f g : ℕ} → Numbers start k past n f → Numbers start k past n g → f ≡ g
number_one start k past n y z = let same : y.0 ≡ z.0 = number_text y.0 n y.1 ∙ sym (number_text z.0 n z.1) in
    led_one (ap (λ u. now_in ((world_after start past).directories k.folder) u) (sym same) ∙ y.2) z.2

bears_text : {start : World} {k : Marking} {n f c : ℕ} {past : List Event} → Bears start k n f c past → WasText start k.place k.name c past
bears_text (stood lx at) = began lx
bears_text (set moment tr lt no_mark at) = tries moment tr lt
bears_text (kept moment b tr lt lx old z) = tries moment tr lt
bears_text (on z) = later (bears_text z)

-- the text before did not mark the number; or it did, and this is the bearer of that
abbrev Came : World → Marking → ℕ → ℕ → List Event → Type 0
Came start k n f moment = ((marks k (world_after start moment) (now_in ((world_after start moment).directories k.place) k.name) n ≡ false) × Numbers start k moment n f)
    ⊎ ((b : ℕ) × Leads start moment k.place k.name b × (k.says ((world_after start moment).files b).bytes n ≡ true) × Bears start k n f b moment)

bears_step : {start : World} {k : Marking} {n f c r : ℕ} {s : Step} {a : Answer} {m : After} {past : List Event} → Bears start k n f c (Act r s a m ∷ past)
    → ((t : List ℕ) × (moment : List Event) × (s ≡ step.Rename k.place t k.name) × IsTriedAt start r moment past × Leads start moment k.place t c × Came start k n f moment) ⊎ Bears start k n f c past
bears_step (set {temp = t} moment tr lt no_mark at) = inl (t, moment, refl, tr, lt, inl (no_mark, at))
bears_step (kept {temp = t} moment b tr lt lx old z) = inl (t, moment, refl, tr, lt, inr (b, lx, old, z))
bears_step (on z) = inr z

bears_crash : {start v : World} {k : Marking} {n f c : ℕ} {past : List Event} → Bears start k n f c (Crash v ∷ past) → Bears start k n f c past
bears_crash (on z) = z

bears_deliver : {start : World} {k : Marking} {n f c : ℕ} {path : _} {piece : List ℕ} {past : List Event} → Bears start k n f c (Deliver path piece ∷ past) → Bears start k n f c past
bears_deliver (on z) = z

bears_end : {start : World} {k : Marking} {n f c o : ℕ} {past : List Event} → Bears start k n f c (End o ∷ past) → Bears start k n f c past
bears_end (on z) = z

bears_start : {start : World} {k : Marking} {n f c : ℕ} → Bears start k n f c [] → Numbers start k [] n f
bears_start (stood lx at) = at

-- a legal history, or the part of one up to a crash within a step
pub data IsPart (start : World) : List Event → Type 0 where
  whole : {past : List Event} → IsLegal start past → IsPart start past
  within : {v : World} {past : List Event} → IsLegal start past → IsPart start (Crash v ∷ past)

part_legal : {start : World} {r : ℕ} {s : Step} {a : Answer} {m : After} {past : List Event} → IsPart start (Act r s a m ∷ past) → IsLegal start (Act r s a m ∷ past)
part_legal (whole l) = l

part_before : {start : World} {e : Event} {past : List Event} → IsPart start (e ∷ past) → IsPart start past
part_before (whole (answers r s a l lv fits)) = whole l
part_before (whole (fails r s m l lv may)) = whole l
part_before (whole (is_dead r s l over)) = whole l
part_before (whole (delivers path piece l)) = whole l
part_before (whole (crashes v l image)) = whole l
part_before (whole (crashes_within v r s l lv image)) = within l
part_before (whole (stops r l)) = whole l
part_before (within l) = whole l

-- a mark of a text file has one bearer
pub one_bearer : (start : World) (k : Marking) (n f g c : ℕ) {past : List Event} → IsStart start → is_committed k.place k.name ≡ true → IsPart start past → AreCareful past → HasNoneOfTheirs start past
    → Bears start k n f c past → Bears start k n g c past → f ≡ g
one_bearer start k n f g c st committed part careful none (stood lx at) y = number_one start k [] n at (bears_start y)
one_bearer start k n f g c st committed part careful none (set {run = r} {temp = t} {a = a} {m = m} {past = past} moment tr lt no_mark at) y = elim (bears_step y) [
  | inl i ↦ came (subst (λ (z : List Event). Came start k n g z) (sym (moment_same tr i.3)) i.5)
  | inr i ↦ absurd (no_second start k.place k.name c r (step.Rename k.place t k.name) t a m refl st committed (part_legal part) careful none tr lt (bears_text i))
]
  where
    came : Came start k n g moment → f ≡ g
    came (inl z) = number_one start k moment n at z.1
    came (inr z) = absurd (not_both (k.says ((world_after start moment).files z.0).bytes n) z.2 (subst (λ (o : Option ℕ). marks k (world_after start moment) o n ≡ false) z.1 no_mark))
one_bearer start k n f g c st committed part careful none (kept {run = r} {temp = t} {a = a} {m = m} {past = past} moment b tr lt lx old z) y = elim (bears_step y) [
  | inl i ↦ elim (subst (λ (z : List Event). Came start k n g z) (sym (moment_same tr i.3)) i.5) [
    | inl h ↦ absurd (not_both (k.says ((world_after start moment).files b).bytes n) old (subst (λ (o : Option ℕ). marks k (world_after start moment) o n ≡ false) lx h.0))
    | inr h ↦ one_bearer start k n f g b st committed (whole (tried start r (step.Rename k.place t k.name) (part_legal part) tr).legal) (careful_then tr careful.1)
        (none_then tr (none_before start r (step.Rename k.place t k.name) a m past none)) z (subst (λ (e : ℕ). Bears start k n g e moment) (led_one h.1 lx) h.3)
  ]
  | inr i ↦ absurd (no_second start k.place k.name c r (step.Rename k.place t k.name) t a m refl st committed (part_legal part) careful none tr lt (bears_text i))
]
one_bearer start k n f g c st committed part careful none (on {e = Act r s a m} {past = past} z) y = elim (bears_step y) [
  | inl i ↦ absurd (no_second start k.place k.name c r s i.0 a m i.2 st committed (part_legal part) careful none i.3 i.4 (bears_text z))
  | inr i ↦ one_bearer start k n f g c st committed (part_before part) careful.1 (none_before start r s a m past none) z i
]
one_bearer start k n f g c st committed part careful none (on {e = Deliver path piece} z) y = one_bearer start k n f g c st committed (part_before part) careful none z (bears_deliver y)
one_bearer start k n f g c st committed part careful none (on {e = Crash v} z) y = one_bearer start k n f g c st committed (part_before part) careful none z (bears_crash y)
one_bearer start k n f g c st committed part careful none (on {e = End o} z) y = one_bearer start k n f g c st committed (part_before part) careful none z (bears_end y)
