-- While one run has a folder's lock and minds the marks whose text stands in another directory, they stay sound.
use Rattle.std.proofs.Common.{◌≡◌, ℕ, ◌<◌, ◌≤◌, Bool, true, false, ◌==◌, ◌||◌, ◌⊎◌, inl, inr, List, [], ◌∷◌, ◌++◌, Option, Some, None, refl, sym, ◌∙◌, ap, subst, arith}
use Rattle.mh_base.specs.Entries.{kind_of}
use Rattle.mh_base.specs.declared.entry.Entry.TheVariants.{Number}
use Rattle.step_plans.proofs.Discipline.{Cares, committed_lock}
use Rattle.folder_files.specs.Careful.{HasLock}
use Rattle.folder_files.specs.Deeds.{HasFailed, WasDone}
use Rattle.folder_files.specs.Directory.{Slots, DirectoryMap, lead, now_in}
use Rattle.folder_files.specs.Histories.{world_after, own, has_acted, IsLive, IsLegal, answers, fails, is_dead, delivers, crashes, crashes_within, stops, AreCareful, AreHonest, AreOrderly, IsLockable, Changes, after_delivery, after_end}
use Rattle.folder_files.specs.Named.{is_committed, is_temp_of, is_number}
use Rattle.folder_files.specs.Places.{is_folder}
use Rattle.folder_files.specs.Steps.{made}
use Rattle.folder_files.specs.Worlds.{WorldMap, IsStart}
use Rattle.folder_files.specs.declared.event.After.{After}
use Rattle.folder_files.specs.declared.event.After.TheVariants.{Before, Made, Torn}
use Rattle.folder_files.specs.declared.event.Event.{Event}
use Rattle.folder_files.specs.declared.event.Event.TheVariants.{Act, Deliver, Crash, End}
use Rattle.folder_files.specs.declared.place.Place.{Place}
use Rattle.folder_files.specs.declared.step.Answer.{Answer}
use Rattle.folder_files.specs.declared.step.Answer.TheVariants.{Failed}
use Rattle.folder_files.specs.declared.step.Step.{Step}
use Rattle.folder_files.specs.declared.step.Step.TheVariants as step
use Rattle.folder_files.specs.declared.world.Change.{Change}
use Rattle.folder_files.specs.declared.world.World.{World}
use Rattle.step_plans.specs.Commits.{text_of}
use Rattle.folder_files.specs.Standing.{is_standing}
use Rattle.step_plans.specs.Starts.{HasNoneOfTheirs}
use Rattle.folder_files.proofs.Names.{num_same, num_apart, not_both, or_left, or_last, number_stands}
use Rattle.step_plans.proofs.Closing.{AtEach}
use Rattle.folder_files.proofs.Changes.{Goes, AllBelow, lead_below, now_below, goes_below}
use Rattle.step_plans.proofs.Once.{at_more, at_goes}
use Rattle.step_plans.proofs.Crashing.{at_now}
use Rattle.folder_files.proofs.Effects.{IsNext, answered, failed, refused, left, left_keeps, left_grows, ComesTo, next_goes, world_deliver, world_end, world_next}
use Rattle.step_plans.proofs.Past.{acted}
use Rattle.step_plans.proofs.Inv.{Inv}
use Rattle.step_plans.proofs.Crashes.{ended_by}
use Rattle.step_plans.proofs.Law.{inv, none_before}
use Rattle.step_plans.proofs.Locks.{lock_once, honest_before}
use Rattle.step_plans.proofs.Committing.{left_spares, spares_now}
use Rattle.marks_law.specs.Bearers.{Marking, marks}
use Rattle.marks_law.specs.Sound.{IsSound, IsOwn}
use Rattle.marks_law.specs.Minding.{Minds, KeepsMarks, Sees}
use Rattle.marks_law.specs.Apart.{IsFree, IsText, IsSynced, IsSteady, by_text, AreConsiderate, AreSoundApart, IsMindfulApart, HasMindedApart, since, on}
use Rattle.marks_law.proofs.Sounding.{sound_marked}
use Rattle.marks_law.proofs.Views.{EachView, each_more, each_now, each_goes, each_part, part_each}
use Rattle.marks_law.proofs.Seeing.{left_untouched, touch_changes, others_leave, alone_in, sees_told}
use Rattle.marks_law.proofs.Stepping.{own_on, made_names, commit_sound, commit_minds, commit_quiet, torn_names, torn_text, some_of}
use Rattle.marks_law.proofs.Law.{changes_case, folder_lockable, unfailed}
use Rattle.marks_law.proofs.Knowing.{commit_now, free_told, text_told, others_keep, bases}
use Rattle.marks_law.proofs.Windows.{IsLike, AreAsNow, like_told, steady_told}

-- windows side by side
each_zip : (A B : Slots → Type 0) (s : Slots) (cs : List Change) → EachView A s cs → EachView B s cs → EachView (λ t. A t × B t) s cs
each_zip A B s [] a b = (a, b)
each_zip A B s (c ∷ cs) a b = ((a.0, b.0), each_zip A B s cs a.1 b.1)

at_zip : (A B : Option ℕ → Type 0) (s : Slots) (cs : List Change) (x : List ℕ) → AtEach A s cs x → AtEach B s cs x → AtEach (λ o. A o × B o) s cs x
at_zip A B s [] x a b = (a, b)
at_zip A B s (c ∷ cs) x a b = ((a.0, b.0), at_zip A B s cs x a.1 b.1)

each_true : (s : Slots) (cs : List Change) → EachView (λ t. Unit {0}) s cs
each_true s [] = tt
each_true s (c ∷ cs) = (tt, each_true s cs)

at_true : (s : Slots) (cs : List Change) (x : List ℕ) → AtEach (λ o. Unit {0}) s cs x
at_true s [] x = tt
at_true s (c ∷ cs) x = (tt, at_true s cs x)

-- what holds of each where this holds
each_given : (G : Type 0) (P : Slots → Type 0) (s : Slots) (cs : List Change) → (G → EachView P s cs) → EachView (λ t. G → P t) s cs
each_given G P s [] h = h
each_given G P s (c ∷ cs) h = ((λ g. (h g).0), each_given G P s cs (λ g. (h g).1))

-- what holds of each for all such things, holds for all of them of each
at_all : {T : Type 0} (G : T → Type 0) (P : T → Option ℕ → Type 0) (s : Slots) (cs : List Change) (x : List ℕ) → ((t : T) → G t → AtEach (P t) s cs x) → AtEach (λ o. (t : T) → G t → P t o) s cs x
at_all G P s [] x h = h
at_all G P s (c ∷ cs) x h = ((λ t g. (h t g).0), at_all G P s cs x (λ t g. (h t g).1))

-- with each front part of one directory and each of another
abbrev pub Both : (Slots → Option ℕ → Type 0) → DirectoryMap → DirectoryMap → List ℕ → Type 0
Both P f t x = EachView (λ s. AtEach (P s) t.safe t.pending x) f.safe f.pending

both_goes : (P Q : Slots → Option ℕ → Type 0) (A : Slots → Type 0) (B : Option ℕ → Type 0) (kf jf : ℕ) (tf tt_ : List ℕ → Type 0) (f t : DirectoryMap) {f_ t_ : DirectoryMap} (x : List ℕ) → Goes kf jf tf f f_ → Goes kf jf tt_ t t_
    → ((s : Slots) (o : Option ℕ) → P s o → Q s o) → ((o : Option ℕ) → B o → P (λ y. now_in f y) o → Q (λ y. now_in f_ y) o) → ((s : Slots) → A s → P s (now_in t x) → Q s (now_in t_ x))
    → (P (λ y. now_in f y) (now_in t x) → Q (λ y. now_in f_ y) (now_in t_ x)) → EachView A f.safe f.pending → AtEach B t.safe t.pending x → Both P f t x → Both Q f_ t_ x
both_goes P Q A B kf jf tf tt_ f t {f_ = f_} {t_ = t_} x gf gt more names text both a b h =
    each_goes (λ s. AtEach (Q s) t_.safe t_.pending x) kf jf tf f gf
    (each_more (λ s. A s × AtEach (P s) t.safe t.pending x) (λ s. AtEach (Q s) t_.safe t_.pending x) f.safe f.pending
    (λ s z. at_goes (Q s) kf jf tt_ t x gt (at_more (P s) (Q s) t.safe t.pending x (λ o y. more s o y) z.1) (text s z.0 (at_now (P s) t.safe t.pending x z.1)))
    (each_zip A (λ s. AtEach (P s) t.safe t.pending x) f.safe f.pending a h))
    (at_goes (Q (λ y. now_in f_ y)) kf jf tt_ t x gt
    (at_more (λ o. B o × P (λ y. now_in f y) o) (Q (λ y. now_in f_ y)) t.safe t.pending x (λ o z. names o z.0 z.1) (at_zip B (P (λ y. now_in f y)) t.safe t.pending x b newest))
    (both (at_now (P (λ y. now_in f y)) t.safe t.pending x newest)))
  where
    newest : AtEach (P (λ y. now_in f y)) t.safe t.pending x
    newest = each_now (λ s. AtEach (P s) t.safe t.pending x) f.safe f.pending h

-- the marks of a text file that is there, with these names
pub record SoundPair (start : World) (k : Marking) (past : List Event) (w : WorldMap) (s : Slots) (o : Option ℕ) : Type 0 where
  pub below : (b : ℕ) → o ≡ Some b → b < w.next_file
  pub sound : IsSound s (marks k w o) (IsOwn start k past o)

abbrev pub BothSound : World → Marking → List Event → WorldMap → Type 0
BothSound start k past w = Both (SoundPair start k past w) (w.directories k.folder) (w.directories k.place) k.name

pair_more : (start : World) (k : Marking) (past : List Event) (e : Event) (w v : WorldMap) → w.next_file ≤ v.next_file → ((b : ℕ) → b < w.next_file → (v.files b).bytes ≡ (w.files b).bytes) → (s u : Slots) (o : Option ℕ)
    → ((z : List ℕ) → is_standing z ≡ true → u z ≡ s z) → SoundPair start k past w s o → SoundPair start k (e ∷ past) v u o
pair_more start k past e w v le same s u o names h = record {
  below = λ b q. (let l = h.below b q in omega arith);
  sound = sound_marked s u (marks k w o) (marks k v o) (IsOwn start k past o) (IsOwn start k (e ∷ past) o) names (λ y n ey q. inl (sym (stay o h.below n) ∙ q, λ g z. own_on start k e past o n g z)) h.sound;
}
  where
    stay : (t : Option ℕ) → ((b : ℕ) → t ≡ Some b → b < w.next_file) → (n : ℕ) → marks k v t n ≡ marks k w t n
    stay None b n = refl
    stay (Some c) b n = ap (λ t. k.says t n) (same c (b c refl))

module _ (start : World) (past : List Event) (o : ℕ) (s : Step) (a : Answer) (m : After) (k : Marking) (folder : is_folder k.folder ≡ true) (c : is_committed k.place k.name ≡ true) (i : Inv start past) (nx : IsNext (world_after start past) o s a m) where
  abbrev w : WorldMap
  w = world_after start past

  abbrev v : WorldMap
  v = left w o s a m

  abbrev Pair : Slots → Option ℕ → Type 0
  Pair = SoundPair start k (Act o s a m ∷ past) v

  same_pair : (t u : Slots) (x : Option ℕ) → ((z : List ℕ) → is_standing z ≡ true → u z ≡ t z) → SoundPair start k past w t x → Pair u x
  same_pair t u x names h = pair_more start k past (Act o s a m) w v (left_grows w s m) (λ b l. (left_keeps w s m b l).0) t u x names h

  text_below : (b : ℕ) → now_in (v.directories k.place) k.name ≡ Some b → b < v.next_file
  text_below b e = now_below v.next_file (v.directories k.place) (goes_below w.next_file v.next_file (ComesTo s a k.place) (w.directories k.place) (left_grows w s m) (next_goes w o s a m k.place nx) (i.below k.place)) k.name b e

  -- the text stays
  text_stays : (B : Option ℕ → Type 0) → AtEach B (w.directories k.place).safe (w.directories k.place).pending k.name → now_in (v.directories k.place) k.name ≡ now_in (w.directories k.place) k.name
      → ((x : Option ℕ) → B x → SoundPair start k past w (λ y. now_in (w.directories k.folder) y) x → Pair (λ y. now_in (v.directories k.folder) y) x) → BothSound start k past w → BothSound start k (Act o s a m ∷ past) v
  text_stays B b same names h = both_goes (SoundPair start k past w) Pair (λ t. Unit {0}) B w.next_file v.next_file (ComesTo s a k.folder) (ComesTo s a k.place) (w.directories k.folder) (w.directories k.place) k.name
      (next_goes w o s a m k.folder nx) (next_goes w o s a m k.place nx) (λ t x z. same_pair t t x (λ y st. refl) z) names
      (λ t y z. subst (Pair t) (sym same) (same_pair t t (now_in (w.directories k.place) k.name) (λ y st. refl) z))
      (λ z. subst (Pair (λ y. now_in (v.directories k.folder) y)) (sym same) (names (now_in (w.directories k.place) k.name) (at_now B (w.directories k.place).safe (w.directories k.place).pending k.name b) z))
      (each_true (w.directories k.folder).safe (w.directories k.folder).pending) b h

  -- the names stay
  names_stay : (A : Slots → Type 0) → EachView A (w.directories k.folder).safe (w.directories k.folder).pending → ((z : List ℕ) → is_standing z ≡ true → now_in (v.directories k.folder) z ≡ now_in (w.directories k.folder) z)
      → ((t u : Slots) → A t → ((z : List ℕ) → is_standing z ≡ true → u z ≡ t z) → SoundPair start k past w t (now_in (w.directories k.place) k.name) → Pair u (now_in (v.directories k.place) k.name)) → BothSound start k past w → BothSound start k (Act o s a m ∷ past) v
  names_stay A a_ same text h = both_goes (SoundPair start k past w) Pair A (λ x. Unit {0}) w.next_file v.next_file (ComesTo s a k.folder) (ComesTo s a k.place) (w.directories k.folder) (w.directories k.place) k.name
      (next_goes w o s a m k.folder nx) (next_goes w o s a m k.place nx) (λ t x z. same_pair t t x (λ y st. refl) z)
      (λ x y z. same_pair (λ y. now_in (w.directories k.folder) y) (λ y. now_in (v.directories k.folder) y) x same z) (λ t y z. text t t y (λ q st. refl) z)
      (λ z. text (λ y. now_in (w.directories k.folder) y) (λ y. now_in (v.directories k.folder) y) (each_now A (w.directories k.folder).safe (w.directories k.folder).pending a_) same z)
      a_ (at_true (w.directories k.place).safe (w.directories k.place).pending k.name) h

  -- both stay
  pub both_stay : ((z : List ℕ) → is_standing z ≡ true → now_in (v.directories k.folder) z ≡ now_in (w.directories k.folder) z) → now_in (v.directories k.place) k.name ≡ now_in (w.directories k.place) k.name
      → BothSound start k past w → BothSound start k (Act o s a m ∷ past) v
  both_stay names text h = text_stays (λ x. Unit {0}) (at_true (w.directories k.place).safe (w.directories k.place).pending k.name) text
      (λ x y z. same_pair (λ y. now_in (w.directories k.folder) y) (λ y. now_in (v.directories k.folder) y) x names z) h

marks_says : (k : Marking) (w : WorldMap) → ((n : ℕ) → k.says [] n ≡ false) → (t : Option ℕ) (n : ℕ) → marks k w t n ≡ k.says (text_of w t) n
marks_says k w silent None n = sym (silent n)
marks_says k w silent (Some b) n = refl

module _ (start : World) (k : Marking) (st : IsStart start) (c : is_committed k.place k.name ≡ true) (folder : is_folder k.folder ≡ true) (silent : (n : ℕ) → k.says [] n ≡ false)
    (past : List Event) (l : IsLegal start past) (careful : AreCareful past) (none : HasNoneOfTheirs start past) (honest : AreHonest start past) (orderly : AreOrderly past) (considerate : AreConsiderate k past) where
  abbrev w0 : WorldMap
  w0 = world_after start past

  i0 : Inv start past
  i0 = inv start st l careful none

  -- a commit that keeps the marks, of any run
  keeps_commit : (o : ℕ) (s : Step) (a : Answer) (t : List ℕ) → IsNext w0 o s a Made → IsLive o w0 → Cares o (own o past) s → s ≡ step.Rename k.place t k.name → is_temp_of o (kind_of t) ≡ true → (b : ℕ) → now_in (w0.directories k.place) t ≡ Some b
      → KeepsMarks o k t (own o past) → BothSound start k past w0 → BothSound start k (Act o s a Made ∷ past) (left w0 o s a Made)
  keeps_commit o s a t nx lv careful_now es temp b leads y h = names_stay start past o s a Made k folder c i0 nx (λ u. Unit {0}) (each_true (w0.directories k.folder).safe (w0.directories k.folder).pending)
      (λ z sz. left_untouched w0 s Made k.folder z (commit_quiet o k (own o past) t s c careful_now es z sz))
      (λ u e tu names z. record {
        below = text_below start past o s a Made k folder c i0 nx;
        sound = subst (λ (x : Option ℕ). IsSound e (marks k (left w0 o s a Made) x) (IsOwn start k (Act o s a Made ∷ past) x)) (sym (commit_now w0 o k.place t k.name s c temp es b leads))
            (commit_sound start past o s a Made k c i0 lv careful_now t y.1 es y.3 b leads u e names
            (λ q n eq new. inl (marks_says k w0 silent (now_in (w0.directories k.place) k.name) n ∙ (ap (λ x. k.says x n) (bases start k st c folder silent o s l careful careful_now none honest orderly t y.0 es lv y.2) ∙ (sym (y.4 n) ∙ new)))) z.sound);
      }) h

  -- one that marks more
  more_commit : (r : ℕ) (s : Step) (a : Answer) (t base new : List ℕ) → IsNext w0 r s a Made → IsLive r w0 → Cares r (own r past) s → s ≡ step.Rename k.place t k.name → is_temp_of r (kind_of t) ≡ true → (b : ℕ) → now_in (w0.directories k.place) t ≡ Some b
      → IsText r k base (own r past) → WasDone (step.Create k.place t new) (own r past)
      → ((y : List ℕ) (n : ℕ) → kind_of y ≡ Number n → k.says new n ≡ true → (k.says base n ≡ true) ⊎ (Sees k.folder y true (own r past) × IsSteady k (own r past)))
      → BothSound start k past w0 → BothSound start k (Act r s a Made ∷ past) (left w0 r s a Made)
  more_commit r s a t base new nx lv careful_now es temp b leads text wrote adds h = names_stay start past r s a Made k folder c i0 nx (λ u. IsSteady k (own r past) → AreAsNow k w0 u)
      (each_given (IsSteady k (own r past)) (AreAsNow k w0) (w0.directories k.folder).safe (w0.directories k.folder).pending (λ steady. steady_told start k st c folder silent r l careful none honest orderly lv clean steady))
      (λ z sz. left_untouched w0 s Made k.folder z (commit_quiet r k (own r past) t s c careful_now es z sz))
      (λ u e as_now names z. record {
        below = text_below start past r s a Made k folder c i0 nx;
        sound = subst (λ (x : Option ℕ). IsSound e (marks k (left w0 r s a Made) x) (IsOwn start k (Act r s a Made ∷ past) x)) (sym (commit_now w0 r k.place t k.name s c temp es b leads))
            (commit_sound start past r s a Made k c i0 lv careful_now t new es wrote b leads u e names
            (λ q n eq is_new. elim (adds q n eq is_new) [
              | inl old ↦ inl (text_told start k st c folder silent r l careful none honest orderly considerate lv clean base text n ∙ old)
              | inr seen ↦ (let g = some_of (now_in (w0.directories k.folder) q) (sees_told start r k.folder q true l honest orderly (folder_lockable k.folder folder) lv seen.0) in inr (g.0, as_now seen.1 q (number_stands q (ap is_number eq)) ∙ g.1, g.1))
            ]) z.sound);
      }) h
    where
      clean : HasFailed (own r past) → ⊥
      clean f = unfailed r (own r past) k.place s (committed_lock k.place k.name c) careful_now (subst (λ (z : Step). Changes k.place z) (sym es) refl) f

  -- an act of the run that has the lock
  run_made : (r : ℕ) (s : Step) (a : Answer) → IsNext w0 r s a Made → IsLive r w0 → Cares r (own r past) s → (Changes k.folder s ⊎ ((t : List ℕ) × (s ≡ step.Rename k.place t k.name)) → Minds r k (by_text r k) (own r past) s)
      → BothSound start k past w0 → BothSound start k (Act r s a Made ∷ past) (left w0 r s a Made)
  run_made r s a nx lv careful_now minds h = elim (left_spares w0 r (own r past) s a Made k.place k.name c careful_now nx) [
    | inr z ↦ elim (commit_minds r k (by_text r k) (own r past) z.0.0 folder c (minds (inr (z.0.0, z.0.1))) z.0.1) [
      | inl y ↦ more_commit r s a z.0.0 y.0 y.1 nx lv careful_now z.0.1 z.0.2 z.0.3.0 z.0.3.1 y.2.0 y.3 y.4 h
      | inr y ↦ keeps_commit r s a z.0.0 nx lv careful_now z.0.1 z.0.2 z.0.3.0 z.0.3.1 y h
    ]
    | inl z ↦ elim (changes_case k.folder s) [
      | inr never ↦ both_stay start past r s a Made k folder c i0 nx (λ y sy. left_untouched w0 s Made k.folder y (λ t. never (touch_changes k.folder y s t))) (spares_now k.name (w0.directories k.place) z) h
      | inl ch ↦ text_stays start past r s a Made k folder c i0 nx (IsKnownAs ch) (known ch) (spares_now k.name (w0.directories k.place) z) (names ch) h
    ]
  ]
    where
      IsKnownAs : Changes k.folder s → Option ℕ → Type 0
      IsKnownAs ch x =
          ((t : List ℕ) → IsText r k t (own r past) × IsSynced k (own r past) → (n : ℕ) → marks k w0 x n ≡ k.says t n)
          × ((n : ℕ) → IsFree r k n (own r past) × IsSynced k (own r past) → marks k w0 x n ≡ false)

      clean : Changes k.folder s → HasFailed (own r past) → ⊥
      clean ch f = unfailed r (own r past) k.folder s (folder_lockable k.folder folder) careful_now ch f

      known : (ch : Changes k.folder s) → AtEach (IsKnownAs ch) (w0.directories k.place).safe (w0.directories k.place).pending k.name
      known ch = at_zip (λ x. (t : List ℕ) → IsText r k t (own r past) × IsSynced k (own r past) → (n : ℕ) → marks k w0 x n ≡ k.says t n) (λ x. (n : ℕ) → IsFree r k n (own r past) × IsSynced k (own r past) → marks k w0 x n ≡ false)
          (w0.directories k.place).safe (w0.directories k.place).pending k.name
          (at_all (λ t. IsText r k t (own r past) × IsSynced k (own r past)) (λ t x. (n : ℕ) → marks k w0 x n ≡ k.says t n) (w0.directories k.place).safe (w0.directories k.place).pending k.name
          (λ t q. at_more (IsLike k w0) (λ x. (n : ℕ) → marks k w0 x n ≡ k.says t n) (w0.directories k.place).safe (w0.directories k.place).pending k.name
          (λ x z n. z.same n ∙ text_told start k st c folder silent r l careful none honest orderly considerate lv (clean ch) t q.0 n)
          (like_told start k st c folder silent r l careful none honest orderly considerate lv (clean ch) q.1)))
          (at_all (λ n. IsFree r k n (own r past) × IsSynced k (own r past)) (λ n x. marks k w0 x n ≡ false) (w0.directories k.place).safe (w0.directories k.place).pending k.name
          (λ n q. at_more (IsLike k w0) (λ x. marks k w0 x n ≡ false) (w0.directories k.place).safe (w0.directories k.place).pending k.name
          (λ x z. z.same n ∙ free_told start k st c folder silent r l careful none honest orderly considerate lv (clean ch) n q.0)
          (like_told start k st c folder silent r l careful none honest orderly considerate lv (clean ch) q.1)))

      names : (ch : Changes k.folder s) (x : Option ℕ) → IsKnownAs ch x → SoundPair start k past w0 (λ y. now_in (w0.directories k.folder) y) x → SoundPair start k (Act r s a Made ∷ past) (left w0 r s a Made) (λ y. now_in ((left w0 r s a Made).directories k.folder) y) x
      names ch x kn z = record {
        below = λ b e. (let le = left_grows w0 s Made in let q = z.below b e in omega arith);
        sound = made_names start past r s a Made k folder c i0 x z.below (by_text r k) lv careful_now (λ y b q. sees_told start r k.folder y b l honest orderly (folder_lockable k.folder folder) lv q) (λ t q n. kn.0 t q n) (λ n q. kn.1 n q) (minds (inl ch)) z.sound;
      }

  pub run_act : (r : ℕ) (s : Step) (a : Answer) (m : After) → IsNext w0 r s a m → IsLive r w0 → Cares r (own r past) s → (Changes k.folder s ⊎ ((t : List ℕ) × (s ≡ step.Rename k.place t k.name)) → Minds r k (by_text r k) (own r past) s)
      → BothSound start k past w0 → BothSound start k (Act r s a m ∷ past) (left w0 r s a m)
  run_act r s _ _ (answered a lv fits) alive careful_now minds h = run_made r s a (answered a lv fits) alive careful_now minds h
  run_act r s _ _ (failed Before lv may) alive careful_now minds h = both_stay start past r s Failed Before k folder c i0 (failed Before lv may) (λ z st. refl) refl h
  run_act r s _ _ (failed Made lv may) alive careful_now minds h = run_made r s Failed (failed Made lv may) alive careful_now minds h
  run_act r s _ _ (failed (Torn b) lv may) alive careful_now minds h = both_stay start past r s Failed (Torn b) k folder c i0 (failed (Torn b) lv may)
      (torn_names w0 r (own r past) s b k.folder (folder_lockable k.folder folder) may careful_now) (torn_text w0 r (own r past) s b k.place k.name c may careful_now) h
  run_act r s _ _ (refused over) alive careful_now minds h = both_stay start past r s Failed Before k folder c i0 (refused over) (λ z st. refl) refl h

  -- an act of another run
  other_made : (r o : ℕ) (s : Step) (a : Answer) → IsNext w0 o s a Made → IsLive o w0 → IsLive r w0 → HasLock k.folder (own r past) → (o ≡ r → ⊥) → Cares o (own o past) s
      → ((q : Place) → IsLockable q → Changes q s → HasLock q (own o past)) → AreConsiderate k (Act o s a Made ∷ past) → BothSound start k past w0 → BothSound start k (Act o s a Made ∷ past) (left w0 o s a Made)
  other_made r o s a nx lo lr lock apart careful_now orderly_now considerate_now h = elim (left_spares w0 o (own o past) s a Made k.place k.name c careful_now nx) [
    | inr z ↦ keeps_commit o s a z.0.0 nx lo careful_now z.0.1 z.0.2 z.0.3.0 z.0.3.1 (others_keep start k st c folder silent r o s a Made l honest lr considerate_now apart lock z.0.0 lo z.0.1) h
    | inl z ↦ both_stay start past o s a Made k folder c i0 nx (λ y sy. others_leave w0 o s a Made k.folder y nx (λ lv ch. alone_in start past r o s k.folder l honest (folder_lockable k.folder folder) orderly_now lr apart lock lv ch))
        (spares_now k.name (w0.directories k.place) z) h
  ]

  other_act : (r o : ℕ) (s : Step) (a : Answer) (m : After) → IsNext w0 o s a m → IsLive r w0 → HasLock k.folder (own r past) → (o ≡ r → ⊥) → Cares o (own o past) s
      → ((q : Place) → IsLockable q → Changes q s → HasLock q (own o past)) → AreConsiderate k (Act o s a m ∷ past) → BothSound start k past w0 → BothSound start k (Act o s a m ∷ past) (left w0 o s a m)
  other_act r o s _ _ (answered a lv fits) alive lock apart careful_now orderly_now considerate_now h = other_made r o s a (answered a lv fits) lv alive lock apart careful_now orderly_now considerate_now h
  other_act r o s _ _ (failed Before lv may) alive lock apart careful_now orderly_now considerate_now h = both_stay start past o s Failed Before k folder c i0 (failed Before lv may) (λ z st. refl) refl h
  other_act r o s _ _ (failed Made lv may) alive lock apart careful_now orderly_now considerate_now h = other_made r o s Failed (failed Made lv may) lv alive lock apart careful_now orderly_now considerate_now h
  other_act r o s _ _ (failed (Torn b) lv may) alive lock apart careful_now orderly_now considerate_now h = both_stay start past o s Failed (Torn b) k folder c i0 (failed (Torn b) lv may)
      (torn_names w0 o (own o past) s b k.folder (folder_lockable k.folder folder) may careful_now) (torn_text w0 o (own o past) s b k.place k.name c may careful_now) h
  other_act r o s _ _ (refused over) alive lock apart careful_now orderly_now considerate_now h = both_stay start past o s Failed Before k folder c i0 (refused over) (λ z st. refl) refl h

-- the same in the world after the act
act_both : (start : World) (k : Marking) → IsStart start → is_committed k.place k.name ≡ true → is_folder k.folder ≡ true → ((n : ℕ) → k.says [] n ≡ false)
    → (past : List Event) (r o : ℕ) (s : Step) (a : Answer) (m : After) → IsLegal start past → AreCareful (Act o s a m ∷ past) → HasNoneOfTheirs start past → AreHonest start past → AreOrderly (Act o s a m ∷ past) → AreConsiderate k (Act o s a m ∷ past)
    → IsNext (world_after start past) o s a m → IsLive r (world_after start past) → HasLock k.folder (own r past) → IsMindfulApart r k (Act o s a m) past
    → BothSound start k past (world_after start past) → BothSound start k (Act o s a m ∷ past) (world_after start (Act o s a m ∷ past))
act_both start k st c folder silent past r o s a m l careful none honest orderly considerate nx alive lock minds h =
    subst (λ (z : WorldMap). BothSound start k (Act o s a m ∷ past) z) (sym (world_next start o s a m past nx)) (go (o == r) refl)
  where
    go : (t : Bool) → (o == r) ≡ t → BothSound start k (Act o s a m ∷ past) (left (world_after start past) o s a m)
    go true e = let es = num_same o r e in subst (λ (z : ℕ). BothSound start k (Act z s a m ∷ past) (left (world_after start past) z s a m)) (sym es)
        (run_act start k st c folder silent past l careful.1 none honest orderly.1 considerate.1 r s a m (subst (λ (z : ℕ). IsNext (world_after start past) z s a m) es nx) alive (subst (λ (z : ℕ). Cares z (own z past) s) es careful.0) (minds es) h)
    go false e = other_act start k st c folder silent past l careful.1 none honest orderly.1 considerate.1 r o s a m nx alive lock (num_apart o r e) careful.0 orderly.0 considerate h

-- an event that changes neither directories nor files
pub calm_both : (start : World) (k : Marking) (past : List Event) (e : Event) (v : WorldMap) → world_after start (e ∷ past) ≡ v → v.next_file ≡ (world_after start past).next_file → v.directories ≡ (world_after start past).directories
    → ((f : ℕ) → (v.files f).bytes ≡ ((world_after start past).files f).bytes) → BothSound start k past (world_after start past) → BothSound start k (e ∷ past) (world_after start (e ∷ past))
calm_both start k past e v same next dirs bytes h = subst (λ (z : WorldMap). BothSound start k (e ∷ past) z) (sym same)
    (subst (λ (d : Place → DirectoryMap). Both (SoundPair start k (e ∷ past) v) (d k.folder) (d k.place) k.name) (sym dirs)
    (each_more (λ s. AtEach (SoundPair start k past w s) (w.directories k.place).safe (w.directories k.place).pending k.name) (λ s. AtEach (SoundPair start k (e ∷ past) v s) (w.directories k.place).safe (w.directories k.place).pending k.name)
    (w.directories k.folder).safe (w.directories k.folder).pending
    (λ s z. at_more (SoundPair start k past w s) (SoundPair start k (e ∷ past) v s) (w.directories k.place).safe (w.directories k.place).pending k.name
    (λ o y. pair_more start k past e w v (let q = next in omega arith) (λ b l. bytes b) s s o (λ x sx. refl) y) z) h))
  where
    w : WorldMap
    w = world_after start past

-- said of the parts, and of each front part
pub at_part : (P : Option ℕ → Type 0) (s : Slots) (newer older : List Change) (x : List ℕ) → AtEach P s (newer ++ older) x → P (lead s older x)
at_part P s [] [] x h = h
at_part P s [] (c ∷ older) x h = h.0
at_part P s (c ∷ newer) older x h = at_part P s newer older x h.1

part_at : (P : Option ℕ → Type 0) (s : Slots) (cs : List Change) (x : List ℕ) → ((newer older : List Change) → cs ≡ newer ++ older → P (lead s older x)) → AtEach P s cs x
part_at P s [] x h = h [] [] refl
part_at P s (c ∷ cs) x h = (h [] (c ∷ cs) refl, part_at P s cs x (λ newer older e. h (c ∷ newer) older (λ i. c ∷ e i)))

pub both_of : (start : World) (k : Marking) {past : List Event} → Inv start past → AreSoundApart start k past → BothSound start k past (world_after start past)
both_of start k {past = past} i h = part_each (λ s. AtEach (SoundPair start k past w s) (w.directories k.place).safe (w.directories k.place).pending k.name) (w.directories k.folder).safe (w.directories k.folder).pending
    (λ newer older e. part_at (SoundPair start k past w (λ y. lead (w.directories k.folder).safe older y)) (w.directories k.place).safe (w.directories k.place).pending k.name (λ newer_text older_text et. record {
      below = λ b q. lead_below w.next_file (w.directories k.place).safe older_text (i.below k.place).safe (all_older newer_text older_text (subst (λ (cs : List Change). AllBelow w.next_file cs) et (i.below k.place).pending)) k.name b q;
      sound = h newer older newer_text older_text e et;
    }))
  where
    w : WorldMap
    w = world_after start past

    all_older : (newer older : List Change) → AllBelow (world_after start past).next_file (newer ++ older) → AllBelow (world_after start past).next_file older
    all_older [] older z = z
    all_older (d ∷ newer) older z = all_older newer older z.1

module _ (start : World) (r : ℕ) (k : Marking) (st : IsStart start) (c : is_committed k.place k.name ≡ true) (folder : is_folder k.folder ≡ true) (silent : (n : ℕ) → k.says [] n ≡ false) where
  both_sound : {moment past : List Event} → IsLegal start past → AreCareful past → HasNoneOfTheirs start past → AreHonest start past → AreOrderly past → AreConsiderate k past → HasMindedApart start r k moment past → AreSoundApart start k moment
      → BothSound start k past (world_after start past)
  both_sound l careful none honest orderly considerate since h = both_of start k (inv start st l careful none) h
  both_sound (answers o s a {past = past} l alive fits) careful none honest orderly considerate (on nc lv lock minds w) h = let none_b = none_before start o s a Made past none in let honest_b = honest_before start (Act o s a Made) past honest in
      act_both start k st c folder silent past r o s a Made l careful none_b honest_b orderly considerate (answered a alive fits) lv lock minds (both_sound l careful.1 none_b honest_b orderly.1 considerate.1 w h)
  both_sound (fails o s m {past = past} l alive may) careful none honest orderly considerate (on nc lv lock minds w) h = let none_b = none_before start o s Failed m past none in let honest_b = honest_before start (Act o s Failed m) past honest in
      act_both start k st c folder silent past r o s Failed m l careful none_b honest_b orderly considerate (failed m alive may) lv lock minds (both_sound l careful.1 none_b honest_b orderly.1 considerate.1 w h)
  both_sound (is_dead o s {past = past} l d) careful none honest orderly considerate (on nc lv lock minds w) h = let none_b = none_before start o s Failed Before past none in let honest_b = honest_before start (Act o s Failed Before) past honest in
      act_both start k st c folder silent past r o s Failed Before l careful none_b honest_b orderly considerate (refused d) lv lock minds (both_sound l careful.1 none_b honest_b orderly.1 considerate.1 w h)
  both_sound (delivers path piece {past = past} l) careful none honest orderly considerate (on nc lv lock minds w) h =
      calm_both start k past (Deliver path piece) (after_delivery (world_after start past) path piece) (world_deliver start path piece past) refl refl (λ f. refl) (both_sound l careful none honest orderly considerate w h)
  both_sound (crashes v {past = past} l image) careful none honest orderly considerate (on nc lv lock minds w) h = absurd nc
  both_sound (crashes_within v o s {past = past} l alive image) careful none honest orderly considerate (on nc lv lock minds w) h =
      absurd (not_both ((world_after start (Crash v ∷ past)).ended r) (ended_by start v past r (image.ended r (or_left ((o == r) || has_acted past r) ((made (world_after start past) o s).ended r)
      (or_last (o == r) (has_acted past r) (acted r (Crash v ∷ past) (lock_once lock)))))) lv)
  both_sound (stops o {past = past} l) careful none honest orderly considerate (on nc lv lock minds w) h =
      calm_both start k past (End o) (after_end (world_after start past) o) (world_end start o past) refl refl (λ f. refl) (both_sound l careful none honest orderly considerate w h)

  -- the law
  pub marks_stay_sound_apart : {moment past : List Event} → IsLegal start past → AreCareful past → HasNoneOfTheirs start past → AreHonest start past → AreOrderly past → AreConsiderate k past → HasMindedApart start r k moment past
      → AreSoundApart start k moment → AreSoundApart start k past
  marks_stay_sound_apart {past = past} l careful none honest orderly considerate w h newer older newer_text older_text e et =
      (at_part (SoundPair start k past (world_after start past) (λ y. lead ((world_after start past).directories k.folder).safe older y)) ((world_after start past).directories k.place).safe newer_text older_text k.name
      (subst (λ (cs : List Change). AtEach (SoundPair start k past (world_after start past) (λ y. lead ((world_after start past).directories k.folder).safe older y)) ((world_after start past).directories k.place).safe cs k.name) et
      (each_part (λ s. AtEach (SoundPair start k past (world_after start past) s) ((world_after start past).directories k.place).safe ((world_after start past).directories k.place).pending k.name) ((world_after start past).directories k.folder).safe newer older
      (subst (λ (cs : List Change). EachView (λ s. AtEach (SoundPair start k past (world_after start past) s) ((world_after start past).directories k.place).safe ((world_after start past).directories k.place).pending k.name) ((world_after start past).directories k.folder).safe cs) e
      (both_sound l careful none honest orderly considerate w h))))).sound
