-- Since a directory was synced, all that a crash may leave of it says the same.
use Rattle.std.proofs.Common.{◌≡◌, ℕ, ◌<◌, true, false, inl, inr, List, [], ◌∷◌, Option, Some, None, refl, sym, ◌∙◌, ap, subst, arith}
use Rattle.step_plans.proofs.Discipline.{Cares}
use Rattle.folder_files.specs.Careful.{HasLock}
use Rattle.folder_files.specs.Deeds.{Deed, did, Once, HasFailed, still, now, on}
use Rattle.folder_files.specs.Directory.{Slots, DirectoryMap, now_in}
use Rattle.folder_files.specs.Histories.{world_after, own, IsLive, IsLegal, begins, answers, fails, is_dead, delivers, crashes, crashes_within, stops, AreCareful, AreHonest, AreOrderly, Changes, after_delivery, after_end}
use Rattle.folder_files.specs.Named.{is_committed}
use Rattle.folder_files.specs.Places.{is_folder}
use Rattle.folder_files.specs.Steps as steps
use Rattle.folder_files.specs.Worlds.{WorldMap, IsStart}
use Rattle.folder_files.specs.declared.event.After.{After}
use Rattle.folder_files.specs.declared.event.After.TheVariants.{Before, Made}
use Rattle.folder_files.specs.declared.event.Event.{Event}
use Rattle.folder_files.specs.declared.event.Event.TheVariants.{Act}
use Rattle.folder_files.specs.declared.place.Place.{Place}
use Rattle.folder_files.specs.declared.step.Answer.{Answer}
use Rattle.folder_files.specs.declared.step.Answer.TheVariants.{Failed}
use Rattle.folder_files.specs.declared.step.Step.{Step}
use Rattle.folder_files.specs.declared.step.Step.TheVariants as step
use Rattle.folder_files.specs.declared.world.World.{World}
use Rattle.step_plans.specs.Commits.{IsBase, text_at}
use Rattle.folder_files.specs.Standing.{is_standing}
use Rattle.step_plans.specs.Starts.{HasNoneOfTheirs}
use Rattle.folder_files.proofs.Sameness.{place_is}
use Rattle.step_plans.proofs.Closing.{AtEach}
use Rattle.folder_files.proofs.Changes.{now_below, goes_below}
use Rattle.step_plans.proofs.Once.{at_more, at_goes}
use Rattle.folder_files.proofs.Effects.{IsNext, answered, failed, refused, left, left_directory, left_grows, ComesTo, next_goes, next_fits, world_deliver, world_end, world_next}
use Rattle.step_plans.proofs.Past.{did_step, did_answer, once_none}
use Rattle.step_plans.proofs.Inv.{Inv}
use Rattle.step_plans.proofs.Told.{lives_before}
use Rattle.step_plans.proofs.Drops.{own_split}
use Rattle.step_plans.proofs.Law.{inv, none_before}
use Rattle.step_plans.proofs.Locks.{gone_crash, gone_within, live_end, honest_before}
use Rattle.marks_law.specs.Bearers.{Marking, marks}
use Rattle.marks_law.specs.Minding.{KeepsMarks}
use Rattle.marks_law.specs.Apart.{IsSynced, IsSteady, synced, on, AreConsiderate}
use Rattle.marks_law.proofs.Views.{EachView, each_more, each_goes}
use Rattle.marks_law.proofs.Seeing.{left_untouched, others_leave, alone_in}
use Rattle.marks_law.proofs.Knowing.{marks_left, marks_spared, marks_kept, own_spares, others_keep, bases}
use Rattle.marks_law.proofs.Law.{folder_lockable}

-- a text file that is there and marks the same as the present one
pub record IsLike (k : Marking) (w : WorldMap) (o : Option ℕ) : Type 0 where
  pub below : (b : ℕ) → o ≡ Some b → b < w.next_file
  pub same : (n : ℕ) → marks k w o n ≡ marks k w (now_in (w.directories k.place) k.name) n

abbrev pub AreLike : Marking → WorldMap → Type 0
AreLike k w = AtEach (IsLike k w) (w.directories k.place).safe (w.directories k.place).pending k.name

-- names that lead as they do now
abbrev pub AreAsNow : Marking → WorldMap → Slots → Type 0
AreAsNow k w s = (z : List ℕ) → is_standing z ≡ true → s z ≡ now_in (w.directories k.folder) z

abbrev pub StaySteady : Marking → WorldMap → Type 0
StaySteady k w = EachView (AreAsNow k w) (w.directories k.folder).safe (w.directories k.folder).pending

synced_lock : {k : Marking} {deeds : List Deed} → IsSynced k deeds → HasLock k.folder deeds
synced_lock (synced e l) = still (λ z. let y = sym (ap (λ d. d.step) e) ∙ z in cc (y)) l
synced_lock (on n u h) = still n (synced_lock h)

synced_once : {k : Marking} {deeds : List Deed} → IsSynced k deeds → Once (λ d older. Unit {0}) deeds
synced_once (synced e l) = now tt
synced_once (on n u h) = on (synced_once h)

steady_lock : {k : Marking} {deeds : List Deed} → IsSteady k deeds → HasLock k.folder deeds
steady_lock (synced e l) = still (λ z. let y = sym (ap (λ d. d.step) e) ∙ z in cc (y)) l
steady_lock (on n u h) = still n (steady_lock h)

steady_once : {k : Marking} {deeds : List Deed} → IsSteady k deeds → Once (λ d older. Unit {0}) deeds
steady_once (synced e l) = now tt
steady_once (on n u h) = on (steady_once h)

module _ (start : World) (past : List Event) (o : ℕ) (s : Step) (a : Answer) (m : After) (k : Marking) (c : is_committed k.place k.name ≡ true) (careful : Cares o (own o past) s) (i : Inv start past) (nx : IsNext (world_after start past) o s a m) where
  abbrev w : WorldMap
  w = world_after start past

  abbrev v : WorldMap
  v = left w o s a m

  newest_like : IsLike k v (now_in (v.directories k.place) k.name)
  newest_like = record {
    below = λ b e. now_below v.next_file (v.directories k.place) (goes_below w.next_file v.next_file (ComesTo s a k.place) (w.directories k.place) (left_grows w s m) (next_goes w o s a m k.place nx) (i.below k.place)) k.name b e;
    same = λ n. refl;
  }

  -- where the present text marks the same after the act
  like_goes : ((n : ℕ) → marks k v (now_in (v.directories k.place) k.name) n ≡ marks k w (now_in (w.directories k.place) k.name) n) → AreLike k w → AreLike k v
  like_goes same h = at_goes (IsLike k v) w.next_file v.next_file (ComesTo s a k.place) (w.directories k.place) k.name (next_goes w o s a m k.place nx)
      (at_more (IsLike k w) (IsLike k v) (w.directories k.place).safe (w.directories k.place).pending k.name (λ t z. record {
        below = λ b e. (let l = left_grows w s m in let y = z.below b e in omega arith);
        same = λ n. marks_left w o s a m k t z.below n ∙ (z.same n ∙ sym (same n));
      }) h) newest_like

  -- where all standing names lead as before the act
  steady_goes : ((z : List ℕ) → is_standing z ≡ true → now_in (v.directories k.folder) z ≡ now_in (w.directories k.folder) z) → StaySteady k w → StaySteady k v
  steady_goes same h = each_goes (AreAsNow k v) w.next_file v.next_file (ComesTo s a k.folder) (w.directories k.folder) (next_goes w o s a m k.folder nx)
      (each_more (AreAsNow k w) (AreAsNow k v) (w.directories k.folder).safe (w.directories k.folder).pending (λ t z x st. z x st ∙ sym (same x st)) h) (λ z st. refl)

  like_mine : (a ≡ Failed → ⊥) → (IsSynced k (own o past) → AreLike k w) → IsSynced k (did s a ∷ own o past) → AreLike k v
  like_mine clean rest (synced e l) = let es = did_step e in let ea = did_answer e in let f3 = next_fits w o s a m nx (λ q. cc (q, ea)) in
      subst (λ (z : DirectoryMap). AtEach (IsLike k v) z.safe z.pending k.name) (sym (dir es f3.2)) (subst (λ (z : DirectoryMap). IsLike k v (now_in z k.name)) (dir es f3.2) newest_like)
    where
      dir : s ≡ step.SyncFolder k.place → m ≡ Made → left_directory w s m k.place ≡ steps.synced (w.directories k.place)
      dir es em = (λ j. left_directory w (es j) (em j) k.place) ∙ rw (place_is k.place) refl
  like_mine clean rest (on n never h) = like_goes (marks_spared start past o s a m k c careful i (own_spares start past o s a m k c careful i nx clean (λ t e temp. never t (did_step e)))) (rest h)

  steady_mine : (a ≡ Failed → ⊥) → (IsSteady k (own o past) → StaySteady k w) → IsSteady k (did s a ∷ own o past) → StaySteady k v
  steady_mine clean rest (synced e l) = let es = did_step e in let ea = did_answer e in let f3 = next_fits w o s a m nx (λ q. cc (q, ea)) in
      subst (λ (z : DirectoryMap). EachView (AreAsNow k v) z.safe z.pending) (sym (dir es f3.2)) (subst (λ (z : DirectoryMap). AreAsNow k v (λ y. now_in z y)) (dir es f3.2) (λ z st. refl))
    where
      dir : s ≡ step.SyncFolder k.folder → m ≡ Made → left_directory w s m k.folder ≡ steps.synced (w.directories k.folder)
      dir es em = (λ j. left_directory w (es j) (em j) k.folder) ∙ rw (place_is k.folder) refl
  steady_mine clean rest (on n never h) = steady_goes (λ z st. left_untouched w s m k.folder z (never z st)) (rest h)

act_like : (start : World) (past : List Event) (r o : ℕ) (s : Step) (a : Answer) (m : After) (k : Marking) → is_committed k.place k.name ≡ true → Cares o (own o past) s → Inv start past → IsNext (world_after start past) o s a m
    → ((n : ℕ) → k.says [] n ≡ false)
    → ((o ≡ r → ⊥) → HasLock k.folder (own r past) → (t : List ℕ) → IsLive o (world_after start past) → s ≡ step.Rename k.place t k.name → KeepsMarks o k t (own o past))
    → ((t text : List ℕ) → s ≡ step.Rename k.place t k.name → IsLive o (world_after start past) → IsBase o k.place k.name text (own o past) → text_at (world_after start past) k.place k.name ≡ text)
    → ((HasFailed (own r past) → ⊥) → IsSynced k (own r past) → AreLike k (world_after start past))
    → (HasFailed (own r (Act o s a m ∷ past)) → ⊥) → IsSynced k (own r (Act o s a m ∷ past)) → AreLike k (world_after start (Act o s a m ∷ past))
act_like start past r o s a m k c careful i nx silent keeps base rest clean h =
    subst (λ (z : WorldMap). AreLike k z) (sym (world_next start o s a m past nx)) (elim (own_split r o s a m past) [
      | inl e ↦ mine e.0 (subst (λ (ds : List Deed). HasFailed ds → ⊥) e.1 clean) (subst (λ (ds : List Deed). IsSynced k ds) e.1 h)
      | inr e ↦ (let y : IsSynced k (own r past) = subst (λ (ds : List Deed). IsSynced k ds) e.1 h in
          like_goes start past o s a m k c careful i nx (marks_kept start past o s a m k c careful i nx silent (λ t lv es. keeps e.0 (synced_lock y) t lv es) base) (rest (subst (λ (ds : List Deed). HasFailed ds → ⊥) e.1 clean) y))
    ])
  where
    mine : o ≡ r → (HasFailed (did s a ∷ own r past) → ⊥) → IsSynced k (did s a ∷ own r past) → AreLike k (left (world_after start past) o s a m)
    mine e unf z = like_mine start past o s a m k c careful i nx (λ f. unf (now f)) (λ y. rest (λ f. unf (on f)) (subst (λ (q : ℕ). IsSynced k (own q past)) e y)) (subst (λ (q : ℕ). IsSynced k (did s a ∷ own q past)) (sym e) z)

act_steady : (start : World) (past : List Event) (r o : ℕ) (s : Step) (a : Answer) (m : After) (k : Marking) → is_committed k.place k.name ≡ true → Cares o (own o past) s → Inv start past → IsNext (world_after start past) o s a m
    → ((o ≡ r → ⊥) → HasLock k.folder (own r past) → IsLive o (world_after start past) → Changes k.folder s → ⊥)
    → ((HasFailed (own r past) → ⊥) → IsSteady k (own r past) → StaySteady k (world_after start past))
    → (HasFailed (own r (Act o s a m ∷ past)) → ⊥) → IsSteady k (own r (Act o s a m ∷ past)) → StaySteady k (world_after start (Act o s a m ∷ past))
act_steady start past r o s a m k c careful i nx alone rest clean h =
    subst (λ (z : WorldMap). StaySteady k z) (sym (world_next start o s a m past nx)) (elim (own_split r o s a m past) [
      | inl e ↦ mine e.0 (subst (λ (ds : List Deed). HasFailed ds → ⊥) e.1 clean) (subst (λ (ds : List Deed). IsSteady k ds) e.1 h)
      | inr e ↦ (let y : IsSteady k (own r past) = subst (λ (ds : List Deed). IsSteady k ds) e.1 h in
          steady_goes start past o s a m k c careful i nx (λ z st. others_leave (world_after start past) o s a m k.folder z nx (λ lv ch. alone e.0 (steady_lock y) lv ch)) (rest (subst (λ (ds : List Deed). HasFailed ds → ⊥) e.1 clean) y))
    ])
  where
    mine : o ≡ r → (HasFailed (did s a ∷ own r past) → ⊥) → IsSteady k (did s a ∷ own r past) → StaySteady k (left (world_after start past) o s a m)
    mine e unf z = steady_mine start past o s a m k c careful i nx (λ f. unf (now f)) (λ y. rest (λ f. unf (on f)) (subst (λ (q : ℕ). IsSteady k (own q past)) e y)) (subst (λ (q : ℕ). IsSteady k (did s a ∷ own q past)) (sym e) z)

-- files, names and pending changes are as before
like_same : (k : Marking) (w v : WorldMap) → v.next_file ≡ w.next_file → v.directories ≡ w.directories → v.files ≡ w.files → AreLike k w → AreLike k v
like_same k w v en ed ef h = subst (λ (dirs : Place → DirectoryMap). AtEach (IsLike k v) (dirs k.place).safe (dirs k.place).pending k.name) (sym ed)
    (at_more (IsLike k w) (IsLike k v) (w.directories k.place).safe (w.directories k.place).pending k.name (λ t z. record {
      below = λ b e. (let y = z.below b e in omega arith);
      same = λ n. bytes t n ∙ (z.same n ∙ (sym (bytes (now_in (w.directories k.place) k.name) n) ∙ ap (λ (dirs : Place → DirectoryMap). marks k v (now_in (dirs k.place) k.name) n) (sym ed)));
    }) h)
  where
    bytes : (t : Option ℕ) (n : ℕ) → marks k v t n ≡ marks k w t n
    bytes None n = refl
    bytes (Some b) n = ap (λ files. k.says (files b).bytes n) ef

module _ (start : World) (k : Marking) (st : IsStart start) (c : is_committed k.place k.name ≡ true) (folder : is_folder k.folder ≡ true) (silent : (n : ℕ) → k.says [] n ≡ false) where
  pub like_told : (r : ℕ) {past : List Event} → IsLegal start past → AreCareful past → HasNoneOfTheirs start past → AreHonest start past → AreOrderly past → AreConsiderate k past → IsLive r (world_after start past)
      → (HasFailed (own r past) → ⊥) → IsSynced k (own r past) → AreLike k (world_after start past)
  unfolding own
  like_told r begins careful none honest orderly considerate lv clean h = absurd (once_none (synced_once h))
  like_told r (answers o s a {past = past} l alive fits) careful none honest orderly considerate lv clean h = let nx : IsNext (world_after start past) o s a Made = answered a alive fits in let none_b = none_before start o s a Made past none in
      let honest_b = honest_before start (Act o s a Made) past honest in let lv_b = lives_before start r o s a Made past nx lv in
      act_like start past r o s a Made k c careful.0 (inv start st l careful.1 none_b) nx silent (others_keep start k st c folder silent r o s a Made l honest_b lv_b considerate) (bases start k st c folder silent o s l careful.1 careful.0 none_b honest_b orderly.1)
      (λ u z. like_told r l careful.1 none_b honest_b orderly.1 considerate.1 lv_b u z) clean h
  like_told r (fails o s m {past = past} l alive may) careful none honest orderly considerate lv clean h = let nx : IsNext (world_after start past) o s Failed m = failed m alive may in let none_b = none_before start o s Failed m past none in
      let honest_b = honest_before start (Act o s Failed m) past honest in let lv_b = lives_before start r o s Failed m past nx lv in
      act_like start past r o s Failed m k c careful.0 (inv start st l careful.1 none_b) nx silent (others_keep start k st c folder silent r o s Failed m l honest_b lv_b considerate) (bases start k st c folder silent o s l careful.1 careful.0 none_b honest_b orderly.1)
      (λ u z. like_told r l careful.1 none_b honest_b orderly.1 considerate.1 lv_b u z) clean h
  like_told r (is_dead o s {past = past} l d) careful none honest orderly considerate lv clean h = let nx : IsNext (world_after start past) o s Failed Before = refused d in let none_b = none_before start o s Failed Before past none in
      let honest_b = honest_before start (Act o s Failed Before) past honest in let lv_b = lives_before start r o s Failed Before past nx lv in
      act_like start past r o s Failed Before k c careful.0 (inv start st l careful.1 none_b) nx silent (others_keep start k st c folder silent r o s Failed Before l honest_b lv_b considerate) (bases start k st c folder silent o s l careful.1 careful.0 none_b honest_b orderly.1)
      (λ u z. like_told r l careful.1 none_b honest_b orderly.1 considerate.1 lv_b u z) clean h
  like_told r (delivers path piece {past = past} l) careful none honest orderly considerate lv clean h = subst (λ (z : WorldMap). AreLike k z) (sym (world_deliver start path piece past))
      (like_same k (world_after start past) (after_delivery (world_after start past) path piece) refl refl refl (like_told r l careful none honest orderly considerate (subst (λ (y : WorldMap). y.ended r ≡ false) (world_deliver start path piece past) lv) clean h))
  like_told r (crashes v {past = past} l image) careful none honest orderly considerate lv clean h = absurd (gone_crash start r v past image.ended (synced_once h) lv)
  like_told r (crashes_within v o s {past = past} l alive image) careful none honest orderly considerate lv clean h = absurd (gone_within start r o s v past image.ended (synced_once h) lv)
  like_told r (stops o {past = past} l) careful none honest orderly considerate lv clean h = subst (λ (z : WorldMap). AreLike k z) (sym (world_end start o past))
      (like_same k (world_after start past) (after_end (world_after start past) o) refl refl refl (like_told r l careful none honest orderly considerate (live_end start r o past lv).1 clean h))

  pub steady_told : (r : ℕ) {past : List Event} → IsLegal start past → AreCareful past → HasNoneOfTheirs start past → AreHonest start past → AreOrderly past → IsLive r (world_after start past)
      → (HasFailed (own r past) → ⊥) → IsSteady k (own r past) → StaySteady k (world_after start past)
  unfolding own
  steady_told r begins careful none honest orderly lv clean h = absurd (once_none (steady_once h))
  steady_told r (answers o s a {past = past} l alive fits) careful none honest orderly lv clean h = let nx : IsNext (world_after start past) o s a Made = answered a alive fits in let none_b = none_before start o s a Made past none in
      let honest_b = honest_before start (Act o s a Made) past honest in let lv_b = lives_before start r o s a Made past nx lv in
      act_steady start past r o s a Made k c careful.0 (inv start st l careful.1 none_b) nx (alone_in start past r o s k.folder l honest_b (folder_lockable k.folder folder) orderly.0 lv_b)
      (λ u z. steady_told r l careful.1 none_b honest_b orderly.1 lv_b u z) clean h
  steady_told r (fails o s m {past = past} l alive may) careful none honest orderly lv clean h = let nx : IsNext (world_after start past) o s Failed m = failed m alive may in let none_b = none_before start o s Failed m past none in
      let honest_b = honest_before start (Act o s Failed m) past honest in let lv_b = lives_before start r o s Failed m past nx lv in
      act_steady start past r o s Failed m k c careful.0 (inv start st l careful.1 none_b) nx (alone_in start past r o s k.folder l honest_b (folder_lockable k.folder folder) orderly.0 lv_b)
      (λ u z. steady_told r l careful.1 none_b honest_b orderly.1 lv_b u z) clean h
  steady_told r (is_dead o s {past = past} l d) careful none honest orderly lv clean h = let nx : IsNext (world_after start past) o s Failed Before = refused d in let none_b = none_before start o s Failed Before past none in
      let honest_b = honest_before start (Act o s Failed Before) past honest in let lv_b = lives_before start r o s Failed Before past nx lv in
      act_steady start past r o s Failed Before k c careful.0 (inv start st l careful.1 none_b) nx (alone_in start past r o s k.folder l honest_b (folder_lockable k.folder folder) orderly.0 lv_b)
      (λ u z. steady_told r l careful.1 none_b honest_b orderly.1 lv_b u z) clean h
  steady_told r (delivers path piece {past = past} l) careful none honest orderly lv clean h = subst (λ (z : WorldMap). StaySteady k z) (sym (world_deliver start path piece past))
      (steady_told r l careful none honest orderly (subst (λ (y : WorldMap). y.ended r ≡ false) (world_deliver start path piece past) lv) clean h)
  steady_told r (crashes v {past = past} l image) careful none honest orderly lv clean h = absurd (gone_crash start r v past image.ended (steady_once h) lv)
  steady_told r (crashes_within v o s {past = past} l alive image) careful none honest orderly lv clean h = absurd (gone_within start r o s v past image.ended (steady_once h) lv)
  steady_told r (stops o {past = past} l) careful none honest orderly lv clean h = subst (λ (z : WorldMap). StaySteady k z) (sym (world_end start o past))
      (steady_told r l careful none honest orderly (live_end start r o past lv).1 clean h)
