-- What a run with the folder's lock knows of a text in another directory is so.
use Rattle.std.proofs.Common.{◌≡◌, ℕ, ◌<◌, Bool, true, false, inl, inr, List, [], ◌∷◌, Option, Some, None, refl, sym, ◌∙◌, ap, subst}
use Rattle.mh_base.specs.Entries.{kind_of}
use Rattle.step_plans.proofs.Discipline.{Cares, committed_lock}
use Rattle.folder_files.specs.Careful.{HasLock}
use Rattle.folder_files.specs.Deeds.{Deed, did, Once, HasFailed, WasDone, still, now, on}
use Rattle.folder_files.specs.Directory.{now_in}
use Rattle.folder_files.specs.Histories.{world_after, own, IsLive, IsLegal, begins, answers, fails, is_dead, delivers, crashes, crashes_within, stops, AreCareful, AreHonest, AreOrderly, Changes, after_delivery, after_end}
use Rattle.folder_files.specs.Named.{is_committed, is_temp_of}
use Rattle.folder_files.specs.Places.{is_folder}
use Rattle.folder_files.specs.Steps.{name_answer, directory_after, MayLeave}
use Rattle.folder_files.specs.Worlds.{WorldMap, IsStart}
use Rattle.folder_files.specs.declared.event.After.{After}
use Rattle.folder_files.specs.declared.event.After.TheVariants.{Before, Made, Torn}
use Rattle.folder_files.specs.declared.event.Event.{Event}
use Rattle.folder_files.specs.declared.event.Event.TheVariants.{Act, Crash}
use Rattle.folder_files.specs.declared.place.Place.{Place}
use Rattle.folder_files.specs.declared.step.Answer.{Answer}
use Rattle.folder_files.specs.declared.step.Answer.TheVariants.{Done, Failed}
use Rattle.folder_files.specs.declared.step.Step.{Step}
use Rattle.folder_files.specs.declared.step.Step.TheVariants as step
use Rattle.folder_files.specs.declared.world.World.{World}
use Rattle.step_plans.specs.Commits.{IsBase, text_of, text_at}
use Rattle.step_plans.specs.Starts.{HasNoneOfTheirs}
use Rattle.folder_files.proofs.Sameness.{place_is}
use Rattle.folder_files.proofs.Names.{bytes_self, not_both}
use Rattle.folder_files.proofs.Changes.{now_below}
use Rattle.folder_files.proofs.Effects.{IsNext, answered, failed, refused, left, left_directory, left_keeps, next_fits, fits_as, world_deliver, world_end, world_next}
use Rattle.step_plans.proofs.Past.{did_both, did_step, once_none}
use Rattle.step_plans.proofs.Inv.{Inv}
use Rattle.step_plans.proofs.Told.{lives_before}
use Rattle.step_plans.proofs.Drops.{own_split}
use Rattle.step_plans.proofs.Law.{inv, none_before}
use Rattle.step_plans.proofs.Bases.{after_commit, after_missing, after_read, base_is}
use Rattle.step_plans.proofs.Locks.{gone_crash, gone_within, live_end, honest_before, one_holder}
use Rattle.step_plans.proofs.Committing.{Spares, spares_now, left_spares, apart_own, temp_own}
use Rattle.marks_law.specs.Bearers.{Marking, marks}
use Rattle.marks_law.specs.Minding.{KeepsMarks}
use Rattle.marks_law.specs.Apart.{IsFree, IsText, found, missing, committed, on, AreConsiderate}
use Rattle.marks_law.specs.Apart as apart
use Rattle.marks_law.proofs.Stepping.{commit_bytes}
use Rattle.marks_law.proofs.Law.{unfailed}

-- files below keep what they mark
pub marks_left : (w : WorldMap) (o : ℕ) (s : Step) (a : Answer) (m : After) (k : Marking) (t : Option ℕ) → ((b : ℕ) → t ≡ Some b → b < w.next_file) → (n : ℕ) → marks k (left w o s a m) t n ≡ marks k w t n
marks_left w o s a m k None below n = refl
marks_left w o s a m k (Some b) below n = ap (λ t. k.says t n) (left_keeps w s m b (below b refl)).0

-- a commit makes the name lead to its file
pub commit_now : (w : WorldMap) (o : ℕ) (q : Place) (t x : List ℕ) (s : Step) → is_committed q x ≡ true → is_temp_of o (kind_of t) ≡ true → s ≡ step.Rename q t x → (b : ℕ) → now_in (w.directories q) t ≡ Some b → now_in (directory_after w s q) x ≡ Some b
commit_now w o q t x s c temp es b leads = subst (λ (z : Step). now_in (directory_after w z q) x ≡ Some b) (sym es) (rw (place_is q, apart_own q x t c (temp_own o t temp), leads) (rw (bytes_self x) leads))

module _ (start : World) (past : List Event) (o : ℕ) (s : Step) (a : Answer) (m : After) (k : Marking) (c : is_committed k.place k.name ≡ true) (careful : Cares o (own o past) s) (i : Inv start past) where
  abbrev w : WorldMap
  w = world_after start past

  abbrev text : Option ℕ
  text = now_in (w.directories k.place) k.name

  text_below : (b : ℕ) → text ≡ Some b → b < w.next_file
  text_below b e = now_below w.next_file (w.directories k.place) (i.below k.place) k.name b e

  -- the text that the name has after the step
  abbrev after : Option ℕ
  after = now_in (left_directory w s m k.place) k.name

  abbrev pub SameMarks : Type 0
  SameMarks = (n : ℕ) → marks k (left w o s a m) after n ≡ marks k w text n

  pub marks_spared : Spares k.name (w.directories k.place) (left_directory w s m k.place) → SameMarks
  marks_spared z n = ap (λ t. marks k (left w o s a m) t n) (spares_now k.name (w.directories k.place) z) ∙ marks_left w o s a m k text text_below n

-- a commit that keeps the marks
pub marks_kept : (start : World) (past : List Event) (o : ℕ) (s : Step) (a : Answer) (m : After) (k : Marking) → is_committed k.place k.name ≡ true → Cares o (own o past) s → Inv start past → IsNext (world_after start past) o s a m
    → ((n : ℕ) → k.says [] n ≡ false) → ((t : List ℕ) → IsLive o (world_after start past) → s ≡ step.Rename k.place t k.name → KeepsMarks o k t (own o past))
    → ((t text : List ℕ) → s ≡ step.Rename k.place t k.name → IsLive o (world_after start past) → IsBase o k.place k.name text (own o past) → text_at (world_after start past) k.place k.name ≡ text)
    → (n : ℕ) → marks k (left (world_after start past) o s a m) (now_in (left_directory (world_after start past) s m k.place) k.name) n ≡ marks k (world_after start past) (now_in ((world_after start past).directories k.place) k.name) n
marks_kept start past o s a m k c careful i nx silent keeps base = by nx
  where
    marks_text : (t : Option ℕ) (n : ℕ) → marks k (world_after start past) t n ≡ k.says (text_of (world_after start past) t) n
    marks_text None n = sym (silent n)
    marks_text (Some b) n = refl

    made_so : IsLive o (world_after start past) → (b : Answer) → IsNext (world_after start past) o s b Made
        → (n : ℕ) → marks k (left (world_after start past) o s b Made) (now_in (directory_after (world_after start past) s k.place) k.name) n ≡ marks k (world_after start past) (now_in ((world_after start past).directories k.place) k.name) n
    made_so lv b nb n = elim (left_spares (world_after start past) o (own o past) s b Made k.place k.name c careful nb) [
      | inl z ↦ marks_spared start past o s b Made k c careful i z n
      | inr z ↦ (let t = z.0.0 in let es = z.0.1 in let y = keeps t z.1 es in
          ap (λ t. marks k (left (world_after start past) o s b Made) t n) (commit_now (world_after start past) o k.place t k.name s c z.0.2 es z.0.3.0 z.0.3.1)
          ∙ (ap (λ u. k.says u n) (commit_bytes start past o s b Made k c i lv careful t y.1 es y.3 z.0.3.0 z.0.3.1)
          ∙ (y.4 n ∙ (ap (λ u. k.says u n) (sym (base t y.0 es lv y.2)) ∙ sym (marks_text (now_in ((world_after start past).directories k.place) k.name) n)))))
    ]

    by : {b : Answer} {j : After} → IsNext (world_after start past) o s b j
        → (n : ℕ) → marks k (left (world_after start past) o s b j) (now_in (left_directory (world_after start past) s j k.place) k.name) n ≡ marks k (world_after start past) (now_in ((world_after start past).directories k.place) k.name) n
    by (answered b lv fits) = made_so lv b (answered b lv fits)
    by (failed Before lv may) = λ n. marks_left (world_after start past) o s Failed Before k (now_in ((world_after start past).directories k.place) k.name) (λ b e. now_below (world_after start past).next_file ((world_after start past).directories k.place) (i.below k.place) k.name b e) n
    by (failed Made lv may) = made_so lv Failed (failed Made lv may)
    by (failed (Torn b) lv may) = λ n. elim (left_spares (world_after start past) o (own o past) s Failed (Torn b) k.place k.name c careful (failed (Torn b) lv may)) [
      | inl z ↦ marks_spared start past o s Failed (Torn b) k c careful i z n
      | inr z ↦ absurd (torn_rename s z.0.1 b may)
    ]
      where
        torn_rename : (s : Step) {q : Place} {t x : List ℕ} → s ≡ step.Rename q t x → (b : List ℕ) → MayLeave s (Torn b) → ⊥
        torn_rename (step.Create q n g) e b may = cc (e)
        torn_rename s e b may = may
    by (refused over) = λ n. marks_left (world_after start past) o s Failed Before k (now_in ((world_after start past).directories k.place) k.name) (λ b e. now_below (world_after start past).next_file ((world_after start past).directories k.place) (i.below k.place) k.name b e) n

text_lock : {r : ℕ} {k : Marking} {text : List ℕ} {deeds : List Deed} → IsText r k text deeds → HasLock k.folder deeds
text_lock (found e l) = still (λ z. let y = sym (ap (λ d. d.step) e.1) ∙ z in cc (y)) l
text_lock (missing e l) = still (λ z. let y = sym (ap (λ d. d.step) e) ∙ z in cc (y)) l
text_lock (committed e t w l) = still (λ z. let y = sym (ap (λ d. d.step) e) ∙ z in cc (y)) l
text_lock (on n u h) = still n (text_lock h)

text_once : {r : ℕ} {k : Marking} {text : List ℕ} {deeds : List Deed} → IsText r k text deeds → Once (λ d older. Unit {0}) deeds
text_once (found e l) = now tt
text_once (missing e l) = now tt
text_once (committed e t w l) = now tt
text_once (on n u h) = on (text_once h)

-- an own step that neither commits the text nor fails
module _ (start : World) (past : List Event) (o : ℕ) (s : Step) (a : Answer) (m : After) (k : Marking) (c : is_committed k.place k.name ≡ true) (careful : Cares o (own o past) s) (i : Inv start past) (nx : IsNext (world_after start past) o s a m) where
  pub own_spares : (a ≡ Failed → ⊥) → ((t : List ℕ) → did s a ≡ did (step.Rename k.place t k.name) Done → is_temp_of o (kind_of t) ≡ true → ⊥) → Spares k.name ((world_after start past).directories k.place) (left_directory (world_after start past) s m k.place)
  own_spares clean never = elim (left_spares (world_after start past) o (own o past) s a m k.place k.name c careful nx) [
    | inl z ↦ z
    | inr z ↦ (let f3 = next_fits (world_after start past) o s a m nx clean in
        absurd (never z.0.0 (did_both z.0.1 (done (fits_as (world_after start past) o s (step.Rename k.place z.0.0 k.name) a a z.0.1 refl f3.1) z.0.3.1)) z.0.2))
  ]
    where
      done : {u : Option ℕ} {b : ℕ} → a ≡ name_answer u → u ≡ Some b → a ≡ Done
      done e l = e ∙ ap name_answer l

  text_marks : (silent : (n : ℕ) → k.says [] n ≡ false) (told : List ℕ) → text_at (left (world_after start past) o s a m) k.place k.name ≡ told → (n : ℕ) → marks k (left (world_after start past) o s a m) (now_in (left_directory (world_after start past) s m k.place) k.name) n ≡ k.says told n
  text_marks silent told e n = says_of (now_in (left_directory (world_after start past) s m k.place) k.name) ∙ ap (λ t. k.says t n) e
    where
      says_of : (t : Option ℕ) → marks k (left (world_after start past) o s a m) t n ≡ k.says (text_of (left (world_after start past) o s a m) t) n
      says_of None = sym (silent n)
      says_of (Some b) = refl

  -- what the run reads, finds missing or commits; and else what it knew
  text_mine : (silent : (n : ℕ) → k.says [] n ≡ false) → (a ≡ Failed → ⊥) → (told : List ℕ) (n : ℕ)
      → (IsText o k told (own o past) → marks k (world_after start past) (now_in ((world_after start past).directories k.place) k.name) n ≡ k.says told n)
      → IsText o k told (did s a ∷ own o past) → marks k (left (world_after start past) o s a m) (now_in (left_directory (world_after start past) s m k.place) k.name) n ≡ k.says told n
  text_mine silent clean _ n rest (found {text = b} e l) = text_marks silent b (after_read start past o s a m k.place k.name c careful nx i e.0 b e.1) n
  text_mine silent clean _ n rest (missing {limit = limit} e l) = text_marks silent [] (after_missing start past o s a m k.place k.name c careful nx i limit e) n
  text_mine silent clean _ n rest (committed {temp = t} {text = b} e temp wrote l) = text_marks silent b (after_commit start past o s a m k.place k.name c careful nx i t b e temp wrote) n
  text_mine silent clean told n rest (on off unknown h) = marks_spared start past o s a m k c careful i (own_spares clean (λ t e temp. unknown (inr (inr (t, e, temp))))) n ∙ rest h

-- a number that is free
free_lock : {r : ℕ} {k : Marking} {n : ℕ} {deeds : List Deed} → IsFree r k n deeds → HasLock k.folder deeds
free_lock (apart.found e l f) = still (λ z. let y = sym (ap (λ d. d.step) e.1) ∙ z in cc (y)) l
free_lock (apart.missing e l) = still (λ z. let y = sym (ap (λ d. d.step) e) ∙ z in cc (y)) l
free_lock (apart.committed e t w l f) = still (λ z. let y = sym (ap (λ d. d.step) e) ∙ z in cc (y)) l
free_lock (apart.carried e t w b more h) = still (λ z. let y = sym (ap (λ d. d.step) e) ∙ z in cc (y)) (free_lock h)
free_lock (apart.on u o h) = still u (free_lock h)

free_once : {r : ℕ} {k : Marking} {n : ℕ} {deeds : List Deed} → IsFree r k n deeds → Once (λ d older. Unit {0}) deeds
free_once (apart.found e l f) = now tt
free_once (apart.missing e l) = now tt
free_once (apart.committed e t w l f) = now tt
free_once (apart.carried e t w b more h) = now tt
free_once (apart.on u o h) = on (free_once h)

-- the base of a commit is the text
abbrev Bases : World → List Event → ℕ → Step → Marking → Type 0
Bases start past o s k = (t text : List ℕ) → s ≡ step.Rename k.place t k.name → IsLive o (world_after start past) → IsBase o k.place k.name text (own o past) → text_at (world_after start past) k.place k.name ≡ text

-- whether the name's text marks the number
abbrev marks_now : World → List Event → Marking → ℕ → Bool
marks_now start past k n = marks k (world_after start past) (now_in ((world_after start past).directories k.place) k.name) n

abbrev marks_then : World → List Event → ℕ → Step → Answer → After → Marking → ℕ → Bool
marks_then start past o s a m k n = marks k (left (world_after start past) o s a m) (now_in (left_directory (world_after start past) s m k.place) k.name) n

-- what an own step leaves of it
module _ (start : World) (past : List Event) (o : ℕ) (s : Step) (a : Answer) (m : After) (k : Marking) (c : is_committed k.place k.name ≡ true) (careful : Cares o (own o past) s) (i : Inv start past) (nx : IsNext (world_after start past) o s a m)
    (silent : (n : ℕ) → k.says [] n ≡ false) (clean : a ≡ Failed → ⊥) (base : Bases start past o s k) (n : ℕ) (rest : IsFree o k n (own o past) → marks_now start past k n ≡ false) where
  carries : (t text old : List ℕ) → did s a ≡ did (step.Rename k.place t k.name) Done → is_temp_of o (kind_of t) ≡ true → WasDone (step.Create k.place t text) (own o past) → IsBase o k.place k.name old (own o past)
      → (k.says text n ≡ true → k.says old n ≡ true) → marks_now start past k n ≡ false → marks_then start past o s a m k n ≡ false
  carries t text old e temp wrote b more free = text_marks start past o s a m k c careful i nx silent text (after_commit start past o s a m k.place k.name c careful nx i t text e temp wrote) n ∙ go (k.says text n) refl
    where
      was : marks_now start past k n ≡ k.says old n
      was = marks_text (now_in ((world_after start past).directories k.place) k.name) ∙ ap (λ y. k.says y n) (base t old (did_step e) (next_fits (world_after start past) o s a m nx clean).0 b)
        where
          marks_text : (t : Option ℕ) → marks k (world_after start past) t n ≡ k.says (text_of (world_after start past) t) n
          marks_text None = sym (silent n)
          marks_text (Some b) = refl

      go : (v : Bool) → k.says text n ≡ v → v ≡ false
      go true e = absurd (not_both (k.says old n) (more e) (sym was ∙ free))
      go false e = refl

  free_mine : IsFree o k n (did s a ∷ own o past) → marks_then start past o s a m k n ≡ false
  free_mine (apart.found {text = b} e l f) = text_marks start past o s a m k c careful i nx silent b (after_read start past o s a m k.place k.name c careful nx i e.0 b e.1) n ∙ f
  free_mine (apart.missing {limit = limit} e l) = text_marks start past o s a m k c careful i nx silent [] (after_missing start past o s a m k.place k.name c careful nx i limit e) n ∙ silent n
  free_mine (apart.committed {temp = t} {text = b} e temp wrote l f) = text_marks start past o s a m k c careful i nx silent b (after_commit start past o s a m k.place k.name c careful nx i t b e temp wrote) n ∙ f
  free_mine (apart.carried {temp = t} {text = b} {base = old} e temp wrote is more h) = carries t b old e temp wrote is more (rest h)
  free_mine (apart.on off never h) = marks_spared start past o s a m k c careful i (own_spares start past o s a m k c careful i nx clean (λ t e temp. never t (did_step e))) n ∙ rest h

-- what a run's deeds tell of whether the text marks the number
pub record Telling (r : ℕ) (k : Marking) (n : ℕ) (start : World) : Type 1 where
  pub Fact : List Deed → Type 0
  pub marked : Bool
  pub locks : (deeds : List Deed) → Fact deeds → HasLock k.folder deeds
  pub some : (deeds : List Deed) → Fact deeds → Once (λ d older. Unit {0}) deeds
  pub mine : (past : List Event) (s : Step) (a : Answer) (m : After) → Cares r (own r past) s → Inv start past → IsNext (world_after start past) r s a m → (a ≡ Failed → ⊥) → Bases start past r s k
      → (Fact (own r past) → marks_now start past k n ≡ marked) → Fact (did s a ∷ own r past) → marks_then start past r s a m k n ≡ marked

-- an act, by whatever run
act_told : (start : World) (past : List Event) (r o : ℕ) (s : Step) (a : Answer) (m : After) (k : Marking) (n : ℕ) (t : Telling r k n start) → is_committed k.place k.name ≡ true → Cares o (own o past) s → Inv start past → IsNext (world_after start past) o s a m
    → ((n : ℕ) → k.says [] n ≡ false)
    → ((o ≡ r → ⊥) → HasLock k.folder (own r past) → (temp : List ℕ) → IsLive o (world_after start past) → s ≡ step.Rename k.place temp k.name → KeepsMarks o k temp (own o past))
    → Bases start past o s k
    → ((HasFailed (own r past) → ⊥) → t.Fact (own r past) → marks_now start past k n ≡ t.marked)
    → (HasFailed (own r (Act o s a m ∷ past)) → ⊥) → t.Fact (own r (Act o s a m ∷ past)) → marks_now start (Act o s a m ∷ past) k n ≡ t.marked
act_told start past r o s a m k n t c careful i nx silent keeps base rest clean h =
    subst (λ (z : WorldMap). marks k z (now_in (z.directories k.place) k.name) n ≡ t.marked) (sym (world_next start o s a m past nx)) (elim (own_split r o s a m past) [
      | inl e ↦ mine e.0 (subst (λ (ds : List Deed). HasFailed ds → ⊥) e.1 clean) (subst (λ (ds : List Deed). t.Fact ds) e.1 h)
      | inr e ↦ (let y : t.Fact (own r past) = subst (λ (ds : List Deed). t.Fact ds) e.1 h in
          marks_kept start past o s a m k c careful i nx silent (λ temp lv es. keeps e.0 (t.locks (own r past) y) temp lv es) base n ∙ rest (subst (λ (ds : List Deed). HasFailed ds → ⊥) e.1 clean) y)
    ])
  where
    by_run : (q : ℕ) → q ≡ r → Cares q (own q past) s → IsNext (world_after start past) q s a m → Bases start past q s k → (HasFailed (did s a ∷ own r past) → ⊥) → t.Fact (did s a ∷ own r past) → marks_then start past q s a m k n ≡ t.marked
    by_run q e careful_q next_q base_q unf z =
        let careful_r : Cares r (own r past) s = subst (λ (y : ℕ). Cares y (own y past) s) e careful_q in
        let next_r : IsNext (world_after start past) r s a m = subst (λ (y : ℕ). IsNext (world_after start past) y s a m) e next_q in
        let base_r : Bases start past r s k = subst (λ (y : ℕ). Bases start past y s k) e base_q in
        subst (λ (y : ℕ). marks_then start past y s a m k n ≡ t.marked) (sym e) (t.mine past s a m careful_r i next_r (λ f. unf (now f)) base_r (λ y. rest (λ f. unf (on f)) y) z)

    mine : o ≡ r → (HasFailed (did s a ∷ own r past) → ⊥) → t.Fact (did s a ∷ own r past) → marks_then start past o s a m k n ≡ t.marked
    mine e unf z = by_run o e careful nx base unf z

module _ (start : World) (k : Marking) (st : IsStart start) (c : is_committed k.place k.name ≡ true) (folder : is_folder k.folder ≡ true) (silent : (n : ℕ) → k.says [] n ≡ false) where
  -- others' commits keep the marks of a folder whose lock this run has
  pub others_keep : {past : List Event} (r o : ℕ) (s : Step) (a : Answer) (m : After) → IsLegal start past → AreHonest start past → IsLive r (world_after start past) → AreConsiderate k (Act o s a m ∷ past)
      → (o ≡ r → ⊥) → HasLock k.folder (own r past) → (t : List ℕ) → IsLive o (world_after start past) → s ≡ step.Rename k.place t k.name → KeepsMarks o k t (own o past)
  others_keep r o s a m l honest alive considerate other lock t lv es = elim (considerate.0 t es) [ inl h ↦ absurd (other (sym (one_holder start r o k.folder l honest alive lv lock h))) | inr h ↦ h ]

  -- the base of a commit is the text
  pub bases : {past : List Event} (o : ℕ) (s : Step) → IsLegal start past → AreCareful past → Cares o (own o past) s → HasNoneOfTheirs start past → AreHonest start past → AreOrderly past
      → (t text : List ℕ) → s ≡ step.Rename k.place t k.name → IsLive o (world_after start past) → IsBase o k.place k.name text (own o past) → text_at (world_after start past) k.place k.name ≡ text
  bases {past = past} o s l careful careful_now none honest orderly t text es lv b = base_is start o k.place k.name st l careful none honest orderly c lv
      (λ f. unfailed o (own o past) k.place s (committed_lock k.place k.name c) careful_now (subst (λ (z : Step). Changes k.place z) (sym es) refl) f) text b

  pub told : (r n : ℕ) (t : Telling r k n start) {past : List Event} → IsLegal start past → AreCareful past → HasNoneOfTheirs start past → AreHonest start past → AreOrderly past → AreConsiderate k past → IsLive r (world_after start past)
      → (HasFailed (own r past) → ⊥) → t.Fact (own r past) → marks_now start past k n ≡ t.marked
  unfolding own
  told r n t begins careful none honest orderly considerate lv clean h = absurd (once_none (t.some [] h))
  told r n t (answers o s a {past = past} l alive fits) careful none honest orderly considerate lv clean h = let nx : IsNext (world_after start past) o s a Made = answered a alive fits in let none_b = none_before start o s a Made past none in
      let honest_b = honest_before start (Act o s a Made) past honest in let lv_b = lives_before start r o s a Made past nx lv in
      act_told start past r o s a Made k n t c careful.0 (inv start st l careful.1 none_b) nx silent (others_keep r o s a Made l honest_b lv_b considerate) (bases o s l careful.1 careful.0 none_b honest_b orderly.1)
      (λ u z. told r n t l careful.1 none_b honest_b orderly.1 considerate.1 lv_b u z) clean h
  told r n t (fails o s m {past = past} l alive may) careful none honest orderly considerate lv clean h = let nx : IsNext (world_after start past) o s Failed m = failed m alive may in let none_b = none_before start o s Failed m past none in
      let honest_b = honest_before start (Act o s Failed m) past honest in let lv_b = lives_before start r o s Failed m past nx lv in
      act_told start past r o s Failed m k n t c careful.0 (inv start st l careful.1 none_b) nx silent (others_keep r o s Failed m l honest_b lv_b considerate) (bases o s l careful.1 careful.0 none_b honest_b orderly.1)
      (λ u z. told r n t l careful.1 none_b honest_b orderly.1 considerate.1 lv_b u z) clean h
  told r n t (is_dead o s {past = past} l d) careful none honest orderly considerate lv clean h = let nx : IsNext (world_after start past) o s Failed Before = refused d in let none_b = none_before start o s Failed Before past none in
      let honest_b = honest_before start (Act o s Failed Before) past honest in let lv_b = lives_before start r o s Failed Before past nx lv in
      act_told start past r o s Failed Before k n t c careful.0 (inv start st l careful.1 none_b) nx silent (others_keep r o s Failed Before l honest_b lv_b considerate) (bases o s l careful.1 careful.0 none_b honest_b orderly.1)
      (λ u z. told r n t l careful.1 none_b honest_b orderly.1 considerate.1 lv_b u z) clean h
  told r n t (delivers path piece {past = past} l) careful none honest orderly considerate lv clean h =
      subst (λ (z : WorldMap). marks k z (now_in (z.directories k.place) k.name) n ≡ t.marked) (sym (world_deliver start path piece past))
      (go (now_in ((world_after start past).directories k.place) k.name) (told r n t l careful none honest orderly considerate (subst (λ (y : WorldMap). y.ended r ≡ false) (world_deliver start path piece past) lv) clean h))
    where
      go : (x : Option ℕ) → marks k (world_after start past) x n ≡ t.marked → marks k (after_delivery (world_after start past) path piece) x n ≡ t.marked
      go None z = z
      go (Some b) z = z
  told r n t (crashes v {past = past} l image) careful none honest orderly considerate lv clean h = absurd (gone_crash start r v past image.ended (t.some (own r (Crash v ∷ past)) h) lv)
  told r n t (crashes_within v o s {past = past} l alive image) careful none honest orderly considerate lv clean h = absurd (gone_within start r o s v past image.ended (t.some (own r (Act o s Failed Before ∷ (Crash v ∷ past))) h) lv)
  told r n t (stops o {past = past} l) careful none honest orderly considerate lv clean h =
      subst (λ (z : WorldMap). marks k z (now_in (z.directories k.place) k.name) n ≡ t.marked) (sym (world_end start o past))
      (go (now_in ((world_after start past).directories k.place) k.name) (told r n t l careful none honest orderly considerate (live_end start r o past lv).1 clean h))
    where
      go : (x : Option ℕ) → marks k (world_after start past) x n ≡ t.marked → marks k (after_end (world_after start past) o) x n ≡ t.marked
      go None z = z
      go (Some b) z = z

  -- the text that it knows
  abbrev text_telling : (r n : ℕ) (text : List ℕ) → Telling r k n start
  text_telling r n text = record {
    Fact = IsText r k text;
    marked = k.says text n;
    locks = λ deeds h. text_lock h;
    some = λ deeds h. text_once h;
    mine = λ past s a m careful i nx clean base rest h. text_mine start past r s a m k c careful i nx silent clean text n rest h;
  }

  pub text_told : (r : ℕ) {past : List Event} → IsLegal start past → AreCareful past → HasNoneOfTheirs start past → AreHonest start past → AreOrderly past → AreConsiderate k past → IsLive r (world_after start past)
      → (HasFailed (own r past) → ⊥) → (t : List ℕ) → IsText r k t (own r past) → (n : ℕ) → marks_now start past k n ≡ k.says t n
  text_told r l careful none honest orderly considerate lv clean found_ h n = told r n (text_telling r n found_) l careful none honest orderly considerate lv clean h

  -- and a number that it doesn't mark
  abbrev free_telling : (r n : ℕ) → Telling r k n start
  free_telling r n = record {
    Fact = IsFree r k n;
    marked = false;
    locks = λ deeds h. free_lock h;
    some = λ deeds h. free_once h;
    mine = λ past s a m careful i nx clean base rest h. free_mine start past r s a m k c careful i nx silent clean base n rest h;
  }

  pub free_told : (r : ℕ) {past : List Event} → IsLegal start past → AreCareful past → HasNoneOfTheirs start past → AreHonest start past → AreOrderly past → AreConsiderate k past → IsLive r (world_after start past)
      → (HasFailed (own r past) → ⊥) → (n : ℕ) → IsFree r k n (own r past) → marks_now start past k n ≡ false
  free_told r l careful none honest orderly considerate lv clean n h = told r n (free_telling r n) l careful none honest orderly considerate lv clean h
