-- Locks, one after another.
use Rattle.std.proofs.Common.{◌≡◌, ◌≢◌, ◌++◌, ◌&&◌, ◌||◌, ◌==◌, not, ℕ, Bool, true, false, List, [], ◌∷◌, ◌+◌, ◌<◌, length, get_or, take, refl, sym, ◌∙◌, ap, subst, add-one}
use Rattle.std.proofs.Math.Seq.{take-suc}
use Rattle.std.proofs.lemmas.Bool.Decides.{Decides-eqb}
use Rattle.std.specs.Prelude.{if◌then◌else◌, MatchBool}
use Rattle.folder_files.specs.Histories.{after_end}
use Rattle.folder_files.specs.Places.{same_place}
use Rattle.folder_files.specs.Steps.{made}
use Rattle.folder_files.specs.Worlds.{shown, holds_of, has_run}
use Rattle.folder_files.specs.declared.place.Place.{Place}
use Rattle.folder_files.specs.declared.step.Step.TheVariants as step
use Rattle.folder_files.specs.declared.world.Held.{Held}
use Rattle.folder_files.specs.declared.world.World.{World}
use Rattle.folder_files.proofs.Sameness.{both, place_same, place_is}

abbrev pub is_lock : Held → Place → ℕ → Bool
is_lock h p r = same_place h.place p && h.run == r

holds_last : (hs : List Held) (h : Held) (p : Place) (r : ℕ) → holds_of (hs ++ h ∷ []) p r ≡ (holds_of hs p r || is_lock h p r)
holds_last [] h p r = either (is_lock h p r)
  where
    either : (b : Bool) → (b || false) ≡ b
    either true = refl
    either false = refl
holds_last (g ∷ hs) h p r = go (is_lock g p r) (holds_last hs h p r)
  where
    go : (b : Bool) → holds_of (hs ++ h ∷ []) p r ≡ (holds_of hs p r || is_lock h p r) → (b || holds_of (hs ++ h ∷ []) p r) ≡ ((b || holds_of hs p r) || is_lock h p r)
    go true e = refl
    go false e = e

-- the kept locks are those that pass
abbrev pub Keeps : (Place → ℕ → Bool) → List Held → List Held → Type 0
Keeps t kept locks = (p : Place) (r : ℕ) → holds_of kept p r ≡ (t p r && holds_of locks p r)

-- a lock that passes wherever it is
pub keeps_more : (t : Place → ℕ → Bool) (kept locks : List Held) (h : Held) → Keeps t kept locks → ((p : Place) (r : ℕ) → is_lock h p r ≡ true → t p r ≡ true) → Keeps t (kept ++ h ∷ []) (locks ++ h ∷ [])
keeps_more t kept locks h k a p r = holds_last kept h p r ∙ ap (λ b. b || is_lock h p r) (k p r) ∙ go (t p r) (is_lock h p r) (a p r) ∙ ap (λ b. t p r && b) (sym (holds_last locks h p r))
  where
    go : (v u : Bool) → (u ≡ true → v ≡ true) → ((v && holds_of locks p r) || u) ≡ (v && (holds_of locks p r || u))
    go true u f = refl
    go false true f = absurd (cc (f refl))
    go false false f = refl

-- and one that doesn't
pub keeps_same : (t : Place → ℕ → Bool) (kept locks : List Held) (h : Held) → Keeps t kept locks → ((p : Place) (r : ℕ) → is_lock h p r ≡ true → t p r ≡ false) → Keeps t kept (locks ++ h ∷ [])
keeps_same t kept locks h k a p r = k p r ∙ go (t p r) (is_lock h p r) (a p r) ∙ ap (λ b. t p r && b) (sym (holds_last locks h p r))
  where
    none_or : (b : Bool) → (b || false) ≡ b
    none_or true = refl
    none_or false = refl

    go : (v u : Bool) → (u ≡ true → v ≡ false) → (v && holds_of locks p r) ≡ (v && (holds_of locks p r || u))
    go true true f = absurd (cc (f refl))
    go true false f = sym (none_or (holds_of locks p r))
    go false u f = refl

pub keeps_none : (t : Place → ℕ → Bool) → Keeps t [] []
keeps_none t p r = go (t p r)
  where
    go : (b : Bool) → false ≡ (b && false)
    go true = refl
    go false = refl

-- the locks but one run's of one directory
abbrev pub no_lock_of : Place → ℕ → Place → ℕ → Bool
no_lock_of q run p r = not (same_place q p && run == r)

pub lock_passes : (q : Place) (run : ℕ) (h : Held) → ((h.run ≡ run) → (h.place ≡ q) → ⊥) → (p : Place) (r : ℕ) → is_lock h p r ≡ true → no_lock_of q run p r ≡ true
lock_passes q run h n p r e = go (same_place q p && run == r) refl
  where
    go : (b : Bool) → (same_place q p && run == r) ≡ b → not b ≡ true
    go false t = refl
    go true t =
        let mine = both (same_place h.place p) (h.run == r) e in
        let theirs = both (same_place q p) (run == r) t in
        absurd (n ((Decides-eqb h.run r).0 mine.1 ∙ sym ((Decides-eqb run r).0 theirs.1)) (place_same h.place p mine.0 ∙ sym (place_same q p theirs.0)))

pub lock_falls : (q : Place) (run : ℕ) (h : Held) → h.run ≡ run → h.place ≡ q → (p : Place) (r : ℕ) → is_lock h p r ≡ true → no_lock_of q run p r ≡ false
lock_falls q run h a b p r e = (λ i. not (same_place (sym b i) p && (sym a i) == r)) ∙ ap not e

-- the locks but one run's
abbrev pub no_lock_by : ℕ → Place → ℕ → Bool
no_lock_by run p r = not (run == r)

pub run_passes : (run : ℕ) (h : Held) → (h.run ≡ run → ⊥) → (p : Place) (r : ℕ) → is_lock h p r ≡ true → no_lock_by run p r ≡ true
run_passes run h n p r e = go (run == r) ((Decides-eqb run r).0)
  where
    go : (b : Bool) → (b ≡ true → run ≡ r) → not b ≡ true
    go false t = refl
    go true t = absurd (n ((Decides-eqb h.run r).0 ((both (same_place h.place p) (h.run == r) e).1) ∙ sym (t refl)))

pub run_falls : (run : ℕ) (h : Held) → h.run ≡ run → (p : Place) (r : ℕ) → is_lock h p r ≡ true → no_lock_by run p r ≡ false
run_falls run h a p r e = (λ i. not ((sym a i) == r)) ∙ ap not ((both (same_place h.place p) (h.run == r) e).1)

pub not_by : (kept locks : List Held) (run : ℕ) → Keeps (no_lock_by run) kept locks → (p : Place) (r : ℕ) → holds_of kept p r ≡ (if run == r then false else holds_of locks p r)
not_by kept locks run k p r = k p r ∙ go (run == r)
  where
    go : (b : Bool) → (not b && holds_of locks p r) ≡ (if b then false else holds_of locks p r)
    go true = refl
    go false = refl

or_swapped : (a b : Bool) → (a || b) ≡ (b || a)
or_swapped true true = refl
or_swapped true false = refl
or_swapped false true = refl
or_swapped false false = refl

pub lock_made : (w : World) (run : ℕ) (q : Place) (locks : List Held) (place : Place) → ((shown w).directories q).there ≡ true → place ≡ q → locks ≡ w.locks ++ record { place = place; run = run } ∷ []
    → shown (record w { locks = locks }) ≡ made (shown w) run (step.Lock q)
unfolding made shown
lock_made w run q locks place t e l = λ i. record {
  directories = (shown w).directories;
  files = (shown w).files;
  next_file = (shown w).next_file;
  outside = (shown w).outside;
  holds = λ p r. (each p r) i;
  ended = (shown w).ended;
}
  where
    each : (p : Place) (r : ℕ) → holds_of locks p r ≡ ((((shown w).directories q).there && same_place q p && run == r) || holds_of w.locks p r)
    each p r =
        (λ i. holds_of (l i) p r) ∙ holds_last w.locks (record { place = place; run = run }) p r ∙ (λ i. holds_of w.locks p r || (same_place (e i) p && run == r))
        ∙ or_swapped (holds_of w.locks p r) (same_place q p && run == r) ∙ (λ i. ((sym t i) && same_place q p && run == r) || holds_of w.locks p r)

pub lock_gone : (w : World) (run : ℕ) (q : Place) → ((shown w).directories q).there ≡ false → shown w ≡ made (shown w) run (step.Lock q)
unfolding made
lock_gone w run q t = λ i. record {
  directories = (shown w).directories;
  files = (shown w).files;
  next_file = (shown w).next_file;
  outside = (shown w).outside;
  holds = λ p r. ((sym t i) && same_place q p && run == r) || (shown w).holds p r;
  ended = (shown w).ended;
}

pub unlock_made : (w : World) (run : ℕ) (q : Place) (kept : List Held) → Keeps (no_lock_of q run) kept w.locks → shown (record w { locks = kept }) ≡ made (shown w) run (step.Unlock q)
unfolding made shown
unlock_made w run q kept k = λ i. record {
  directories = (shown w).directories;
  files = (shown w).files;
  next_file = (shown w).next_file;
  outside = (shown w).outside;
  holds = λ p r. k p r i;
  ended = (shown w).ended;
}

run_last : (rs : List ℕ) (run r : ℕ) → has_run (rs ++ run ∷ []) r ≡ ((run == r) || has_run rs r)
run_last [] run r = refl
run_last (q ∷ rs) run r = ap (λ b. (q == r) || b) (run_last rs run r) ∙ go (q == r) (run == r)
  where
    go : (a b : Bool) → (a || (b || has_run rs r)) ≡ (b || (a || has_run rs r))
    go true true = refl
    go true false = refl
    go false true = refl
    go false false = refl

pub end_made : (w : World) (run : ℕ) (kept : List Held) (ended : List ℕ) → ((p : Place) (r : ℕ) → holds_of kept p r ≡ (if run == r then false else holds_of w.locks p r)) → ended ≡ w.ended ++ run ∷ []
    → shown (record w { locks = kept; ended = ended }) ≡ after_end (shown w) run
unfolding shown
end_made w run kept ended k e = λ i. record {
  directories = (shown w).directories;
  files = (shown w).files;
  next_file = (shown w).next_file;
  outside = (shown w).outside;
  holds = λ p r. k p r i;
  ended = λ r. (ap (λ l. has_run l r) e ∙ run_last w.ended run r) i;
}

next_taken : (locks : List Held) (i : ℕ) (h : Held) → i < length locks → h ≡ get_or locks i h → take (i + 1) locks ≡ take i locks ++ h ∷ []
next_taken locks i h l e = ap (λ n. take n locks) (add-one i) ∙ take-suc locks i h l ∙ ap (λ x. take i locks ++ x ∷ []) (sym e)

pub keeps_on : (t : Place → ℕ → Bool) (kept new locks : List Held) (i : ℕ) (h copy : Held) → i < length locks → h ≡ get_or locks i h → new ≡ kept ++ copy ∷ [] → copy ≡ h → Keeps t kept (take i locks)
    → ((p : Place) (r : ℕ) → is_lock h p r ≡ true → t p r ≡ true) → Keeps t new (take (i + 1) locks)
keeps_on t kept new locks i h copy l e n c k a =
    let more : Keeps t (kept ++ h ∷ []) (take i locks ++ h ∷ []) = keeps_more t kept (take i locks) h k a in
    subst (λ x. Keeps t x (take (i + 1) locks)) (sym (n ∙ ap (λ x. kept ++ x ∷ []) c)) (subst (λ x. Keeps t (kept ++ h ∷ []) x) (sym (next_taken locks i h l e)) more)

pub keeps_off : (t : Place → ℕ → Bool) (kept locks : List Held) (i : ℕ) (h : Held) → i < length locks → h ≡ get_or locks i h → Keeps t kept (take i locks)
    → ((p : Place) (r : ℕ) → is_lock h p r ≡ true → t p r ≡ false) → Keeps t kept (take (i + 1) locks)
keeps_off t kept locks i h l e k a = subst (λ x. Keeps t kept x) (sym (next_taken locks i h l e)) (keeps_same t kept (take i locks) h k a)

-- another run has the lock, or none has
abbrev pub Others : Bool → List Held → Place → ℕ → Type 0
Others b locks p run = MatchBool b ((other : ℕ) × (other ≢ run) × (holds_of locks p other ≡ true)) ((other : ℕ) → other ≢ run → holds_of locks p other ≡ false)

or_left : (a b : Bool) → a ≡ true → (a || b) ≡ true
or_left true b e = refl
or_left false b e = absurd (cc (e))

or_right : (a b : Bool) → b ≡ true → (a || b) ≡ true
or_right true b e = refl
or_right false b e = e

pub busy_here : (b : Bool) (locks rest : List Held) (h : Held) (p : Place) (run : ℕ) → b ≡ true → locks ≡ h ∷ rest → h.run ≢ run → h.place ≡ p → Others b locks p run
busy_here false locks rest h p run t e n s = absurd (cc (t))
busy_here true locks rest h p run t e n s =
    (h.run, n, ap (λ l. holds_of l p h.run) e ∙ or_left (is_lock h p h.run) (holds_of rest p h.run) ((λ i. same_place (s i) p && h.run == h.run) ∙ (λ i. place_is p i && h.run == h.run) ∙ (Decides-eqb h.run h.run).1 refl))

pub busy_there : (b : Bool) (locks rest : List Held) (h : Held) (p : Place) (run : ℕ) → locks ≡ h ∷ rest → ((h.run ≢ run) → (h.place ≡ p) → ⊥) → Others b rest p run → Others b locks p run
busy_there true locks rest h p run e n o = (o.0, o.1, ap (λ l. holds_of l p o.0) e ∙ or_right (is_lock h p o.0) (holds_of rest p o.0) o.2)
busy_there false locks rest h p run e n o = λ other d. ap (λ l. holds_of l p other) e ∙ go (is_lock h p other) other d (both (same_place h.place p) (h.run == other)) ∙ o other d
  where
    go : (v : Bool) (other : ℕ) → other ≢ run → (is_lock h p other ≡ true → (same_place h.place p ≡ true) × (h.run == other ≡ true)) → (is_lock h p other || holds_of rest p other) ≡ holds_of rest p other
    go v other d f = by (is_lock h p other) (λ t. n (λ q. d (sym ((Decides-eqb h.run other).0 ((f t).1)) ∙ q)) (place_same h.place p ((f t).0)))
      where
        by : (u : Bool) → (u ≡ true → ⊥) → (u || holds_of rest p other) ≡ holds_of rest p other
        by true g = absurd (g refl)
        by false g = refl

pub busy_none : (b : Bool) (locks : List Held) (p : Place) (run : ℕ) → b ≡ false → locks ≡ [] → Others b locks p run
busy_none true locks p run f e = absurd (cc (f))
busy_none false locks p run f e = λ other d. ap (λ l. holds_of l p other) e
