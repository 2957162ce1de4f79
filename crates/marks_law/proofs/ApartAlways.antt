-- The law over whole histories for marks whose text stands in another directory.
use Rattle.std.proofs.Common.{◌≡◌, ℕ, ◌<◌, Bool, true, false, ◌==◌, ◌||◌, ◌⊎◌, inl, List, [], ◌∷◌, Option, Some, None, refl, sym, ◌∙◌, ap, subst}
use Rattle.step_plans.proofs.Discipline.{Cares}
use Rattle.folder_files.specs.CrashImage.{IsCrashImage}
use Rattle.folder_files.specs.Deeds.{Deed}
use Rattle.folder_files.specs.Directory.{Slots, DirectoryMap, lead, now_in}
use Rattle.folder_files.specs.Histories.{world_after, own, has_acted, IsLive, IsLegal, begins, answers, fails, is_dead, delivers, crashes, crashes_within, stops, AreCareful, AreHonest, AreOrderly, Changes, after_delivery, after_end}
use Rattle.folder_files.specs.Named.{is_committed}
use Rattle.folder_files.specs.Places.{is_folder}
use Rattle.folder_files.specs.Steps.{made}
use Rattle.folder_files.specs.Worlds.{WorldMap, shown, IsStart}
use Rattle.folder_files.specs.declared.event.After.{After}
use Rattle.folder_files.specs.declared.event.After.TheVariants.{Before, Made}
use Rattle.folder_files.specs.declared.event.Event.{Event}
use Rattle.folder_files.specs.declared.event.Event.TheVariants.{Act, Deliver, Crash, End}
use Rattle.folder_files.specs.declared.place.Place.{Place}
use Rattle.folder_files.specs.declared.step.Answer.{Answer}
use Rattle.folder_files.specs.declared.step.Answer.TheVariants.{Failed}
use Rattle.folder_files.specs.declared.step.Step.{Step}
use Rattle.folder_files.specs.declared.step.Step.TheVariants as step
use Rattle.folder_files.specs.declared.world.Change.{Change}
use Rattle.folder_files.specs.declared.world.World.{World}
use Rattle.step_plans.specs.Commits.{text_of, HadText}
use Rattle.step_plans.specs.Starts.{HasNoneOfTheirs}
use Rattle.step_plans.proofs.Closing.{AtEach}
use Rattle.step_plans.proofs.Crashing.{IsFirm, HadAll, had_all}
use Rattle.folder_files.proofs.Effects.{IsNext, answered, failed, refused, left, world_deliver, world_end, world_crash, world_next, world_failed}
use Rattle.step_plans.proofs.Past.{own_crash}
use Rattle.step_plans.proofs.Crashes.{ended_by}
use Rattle.step_plans.proofs.Law.{inv, none_before, may_made, careful_back, image_within, within_ended}
use Rattle.step_plans.proofs.Locks.{honest_before}
use Rattle.marks_law.specs.Bearers.{Marking, marks}
use Rattle.marks_law.specs.Sound.{IsSound, IsOwn, IsOrdered}
use Rattle.marks_law.specs.Minding.{Minds}
use Rattle.marks_law.specs.Always.{AreOrderedCrashes}
use Rattle.marks_law.specs.Apart.{by_text, AreConsiderate, AreSoundApart, AreMindfulApart}
use Rattle.marks_law.proofs.Sounding.{sound_marked}
use Rattle.marks_law.proofs.Views.{EachView, each_part}
use Rattle.marks_law.proofs.Stepping.{own_on}
use Rattle.marks_law.proofs.Apart.{Both, SoundPair, BothSound, both_of, calm_both, both_stay, run_act, at_part}
use Rattle.marks_law.proofs.Always.{own_within}

-- nothing is pending
both_nothing : (P : Slots → Option ℕ → Type 0) (f t : DirectoryMap) (x : List ℕ) → f.pending ≡ [] → t.pending ≡ [] → P (λ y. now_in f y) (now_in t x) → Both P f t x
both_nothing P f t x ef et h = subst (λ (cs : List Change). EachView (λ s. AtEach (P s) t.safe t.pending x) f.safe cs) (sym ef)
    (subst (λ (cs : List Change). AtEach (P (λ y. lead f.safe [] y)) t.safe cs x) (sym et)
    (subst (λ (cs : List Change). P (λ y. lead f.safe [] y) (lead t.safe cs x)) et (subst (λ (cs : List Change). P (λ y. lead f.safe cs y) (lead t.safe t.pending x)) ef h)))

-- in an image that is ordered in both directories
pair_image : (start : World) (k : Marking) (past : List Event) (w v : WorldMap) (over : ℕ → Bool) → IsCrashImage w v over → IsOrdered (w.directories k.folder) (v.directories k.folder) → IsOrdered (w.directories k.place) (v.directories k.place)
    → HadAll start past k.place k.name w → BothSound start k past w → SoundPair start k past v (λ y. now_in (v.directories k.folder) y) (now_in (v.directories k.place) k.name)
pair_image start k past w v over image f t had h = record {
  below = λ b e. subst (λ j. b < j) (sym image.next_file) (part.below b (sym text ∙ e));
  sound = subst (λ (o : Option ℕ). IsSound (λ y. now_in (v.directories k.folder) y) (marks k v o) (IsOwn start k past o)) (sym text)
      (sound_marked (λ y. lead (w.directories k.folder).safe f.older y) (λ y. now_in (v.directories k.folder) y) (marks k w o) (marks k v o) (IsOwn start k past o) (IsOwn start k past o)
      (λ z sz. now_safe k.folder z ∙ f.slots z) (λ y n e q. inl (sym (bytes o firm n) ∙ q, λ g z. z)) part.sound);
}
  where
    o : Option ℕ
    o = lead (w.directories k.place).safe t.older k.name

    part : SoundPair start k past w (λ y. lead (w.directories k.folder).safe f.older y) o
    part = at_part (SoundPair start k past w (λ y. lead (w.directories k.folder).safe f.older y)) (w.directories k.place).safe t.newer t.older k.name
        (subst (λ (cs : List Change). AtEach (SoundPair start k past w (λ y. lead (w.directories k.folder).safe f.older y)) (w.directories k.place).safe cs k.name) t.parts
        (each_part (λ s. AtEach (SoundPair start k past w s) (w.directories k.place).safe (w.directories k.place).pending k.name) (w.directories k.folder).safe f.newer f.older
        (subst (λ (cs : List Change). EachView (λ s. AtEach (SoundPair start k past w s) (w.directories k.place).safe (w.directories k.place).pending k.name) (w.directories k.folder).safe cs) f.parts h)))

    now_safe : (p : Place) (y : List ℕ) → now_in (v.directories p) y ≡ (v.directories p).safe y
    now_safe p y = subst (λ (cs : List Change). lead (v.directories p).safe cs y ≡ (v.directories p).safe y) (sym (image.directories p).nothing_pending) refl

    text : now_in (v.directories k.place) k.name ≡ o
    text = now_safe k.place k.name ∙ t.slots k.name

    firm : IsFirm w o
    firm = (at_part (λ x. HadText start k.place k.name (text_of w x) past × IsFirm w x) (w.directories k.place).safe t.newer t.older k.name
        (subst (λ (cs : List Change). AtEach (λ x. HadText start k.place k.name (text_of w x) past × IsFirm w x) (w.directories k.place).safe cs k.name) t.parts had)).1

    bytes : (x : Option ℕ) → IsFirm w x → (n : ℕ) → marks k v x n ≡ marks k w x n
    bytes None y n = refl
    bytes (Some b) y n = ap (λ z. k.says z n) (image.kept_bytes b y.1)

pair_own : (start : World) (k : Marking) (past later : List Event) (w : WorldMap) (s : Slots) (o : Option ℕ) → ((n g : ℕ) → IsOwn start k past o n g → IsOwn start k later o n g) → SoundPair start k past w s o → SoundPair start k later w s o
pair_own start k past later w s o m h = record { below = h.below; sound = sound_marked s s (marks k w o) (marks k w o) (IsOwn start k past o) (IsOwn start k later o) (λ z st. refl) (λ y n e q. inl (q, λ g z. m n g z)) h.sound }

module _ (start : World) (k : Marking) (st : IsStart start) (c : is_committed k.place k.name ≡ true) (folder : is_folder k.folder ≡ true) (silent : (n : ℕ) → k.says [] n ≡ false) where
  act_by : (past : List Event) (o : ℕ) (s : Step) (a : Answer) (m : After) → IsLegal start past → Cares o (own o past) s → AreCareful past → HasNoneOfTheirs start past → AreHonest start past → AreOrderly past → AreConsiderate k past
      → IsNext (world_after start past) o s a m → (Changes k.folder s ⊎ ((t : List ℕ) × (s ≡ step.Rename k.place t k.name)) → Minds o k (by_text o k) (own o past) s)
      → BothSound start k past (world_after start past) → BothSound start k (Act o s a m ∷ past) (world_after start (Act o s a m ∷ past))
  act_by past o s a m l careful_now careful none honest orderly considerate nx minds h = subst (λ (z : WorldMap). BothSound start k (Act o s a m ∷ past) z) (sym (world_next start o s a m past nx)) (by nx)
    where
      by : {b : Answer} {j : After} → IsNext (world_after start past) o s b j → BothSound start k (Act o s b j ∷ past) (left (world_after start past) o s b j)
      by (answered b lv fits) = run_act start k st c folder silent past l careful none honest orderly considerate o s b Made (answered b lv fits) lv careful_now minds h
      by (failed j lv may) = run_act start k st c folder silent past l careful none honest orderly considerate o s Failed j (failed j lv may) lv careful_now minds h
      by (refused over) = both_stay start past o s Failed Before k folder c (inv start st l careful none) (refused over) (λ z sz. refl) refl h

  within : (v : World) (o : ℕ) (s : Step) (past : List Event) (l : IsLegal start past) (alive : IsLive o (world_after start past)) (image : IsCrashImage (made (world_after start past) o s) (shown v) (λ q. (o == q) || has_acted past q))
      → AreCareful (Act o s Failed Before ∷ (Crash v ∷ past)) → HasNoneOfTheirs start (Act o s Failed Before ∷ (Crash v ∷ past)) → AreHonest start past → AreOrderly past → AreConsiderate k past
      → (Changes k.folder s ⊎ ((t : List ℕ) × (s ≡ step.Rename k.place t k.name)) → Minds o k (by_text o k) (own o (Crash v ∷ past)) s)
      → IsOrdered ((made (world_after start past) o s).directories k.folder) ((shown v).directories k.folder) → IsOrdered ((made (world_after start past) o s).directories k.place) ((shown v).directories k.place)
      → BothSound start k past (world_after start past) → BothSound start k (Act o s Failed Before ∷ (Crash v ∷ past)) (world_after start (Act o s Failed Before ∷ (Crash v ∷ past)))
  within v o s past l alive image careful none honest orderly considerate minds of_folder of_place before =
      subst (λ (z : WorldMap). BothSound start k later z) (sym same)
      (both_nothing (SoundPair start k later w_) (w_.directories k.folder) (w_.directories k.place) k.name (empty k.folder) (empty k.place) (unlive crashed))
    where
      later : List Event
      later = Act o s Failed Before ∷ (Crash v ∷ past)

      over : (shown v).ended o ≡ true
      over = within_ended o v past (made (world_after start past) o s).ended image.ended

      w_ : WorldMap
      w_ = left (world_after start (Crash v ∷ past)) o s Failed Before

      same : world_after start later ≡ w_
      same = world_next start o s Failed Before (Crash v ∷ past) (refused (ended_by start v past o over))

      empty : (p : Place) → (w_.directories p).pending ≡ []
      empty p = ap (λ (z : WorldMap). (z.directories p).pending) (world_crash start v past) ∙ (image.directories p).nothing_pending

      none_p : HasNoneOfTheirs start past
      none_p = none_before start o s Failed Before (Crash v ∷ past) none

      careful_now : Cares o (own o past) s
      careful_now = careful_back o s v past careful.0

      made_past : List Event
      made_past = Act o s Failed Made ∷ past

      made_both : BothSound start k made_past (world_after start made_past)
      made_both = act_by past o s Failed Made l careful_now careful.1 none_p honest orderly considerate (failed Made alive (may_made s))
          (λ ch. subst (λ (ds : List Deed). Minds o k (by_text o k) ds s) (own_crash o v past) (minds ch)) before

      ordered : (p : Place) → IsOrdered ((made (world_after start past) o s).directories p) ((shown v).directories p) → IsOrdered ((world_after start made_past).directories p) ((shown v).directories p)
      ordered p q = subst (λ (z : WorldMap). IsOrdered (z.directories p) ((shown v).directories p)) (sym (world_failed start o s past)) q

      sound_v : SoundPair start k later (shown v) (λ y. now_in ((shown v).directories k.folder) y) (now_in ((shown v).directories k.place) k.name)
      sound_v = pair_own start k made_past later (shown v) (λ y. now_in ((shown v).directories k.folder) y) (now_in ((shown v).directories k.place) k.name)
          (λ n g z. own_within start o s v past alive over k (now_in ((shown v).directories k.place) k.name) n g z)
          (pair_image start k made_past (world_after start made_past) (shown v) _ (image_within start past v o s _ image) (ordered k.folder of_folder) (ordered k.place of_place)
          (had_all start k.place k.name st (fails o s Made l alive (may_made s)) (careful_now, careful.1) none c) made_both)

      crashed : SoundPair start k later (world_after start (Crash v ∷ past)) (λ y. now_in ((world_after start (Crash v ∷ past)).directories k.folder) y) (now_in ((world_after start (Crash v ∷ past)).directories k.place) k.name)
      crashed = subst (λ (z : WorldMap). SoundPair start k later z (λ y. now_in (z.directories k.folder) y) (now_in (z.directories k.place) k.name)) (sym (world_crash start v past)) sound_v

      unlive : {u : Slots} {o_ : Option ℕ} → SoundPair start k later (world_after start (Crash v ∷ past)) u o_ → SoundPair start k later w_ u o_
      unlive {u = u} {o_ = o_} z = record { below = z.below; sound = sound_marked u u (marks k (world_after start (Crash v ∷ past)) o_) (marks k w_ o_) (IsOwn start k later o_) (IsOwn start k later o_) (λ y q. refl) (λ y n e q. inl (sym (bytes o_ n) ∙ q, λ g z. z)) z.sound }
        where
          bytes : (t : Option ℕ) (n : ℕ) → marks k w_ t n ≡ marks k (world_after start (Crash v ∷ past)) t n
          bytes None n = refl
          bytes (Some b) n = refl

  always : {past : List Event} → (l : IsLegal start past) → AreCareful past → HasNoneOfTheirs start past → AreHonest start past → AreOrderly past → AreConsiderate k past → AreMindfulApart k past
      → AreOrderedCrashes start k.folder l → AreOrderedCrashes start k.place l → AreSoundApart start k [] → BothSound start k past (world_after start past)
  always begins careful none honest orderly considerate minds f t h = both_of start k (inv start st begins careful none) h
  always (answers o s a {past = past} l alive fits) careful none honest orderly considerate minds f t h = let none_b = none_before start o s a Made past none in let honest_b = honest_before start (Act o s a Made) past honest in
      act_by past o s a Made l careful.0 careful.1 none_b honest_b orderly.1 considerate.1 (answered a alive fits) minds.0 (always l careful.1 none_b honest_b orderly.1 considerate.1 minds.1 f t h)
  always (fails o s m {past = past} l alive may) careful none honest orderly considerate minds f t h = let none_b = none_before start o s Failed m past none in let honest_b = honest_before start (Act o s Failed m) past honest in
      act_by past o s Failed m l careful.0 careful.1 none_b honest_b orderly.1 considerate.1 (failed m alive may) minds.0 (always l careful.1 none_b honest_b orderly.1 considerate.1 minds.1 f t h)
  always (is_dead o s {past = past} l d) careful none honest orderly considerate minds f t h = let none_b = none_before start o s Failed Before past none in let honest_b = honest_before start (Act o s Failed Before) past honest in
      act_by past o s Failed Before l careful.0 careful.1 none_b honest_b orderly.1 considerate.1 (refused d) minds.0 (always l careful.1 none_b honest_b orderly.1 considerate.1 minds.1 f t h)
  always (delivers path piece {past = past} l) careful none honest orderly considerate minds f t h =
      calm_both start k past (Deliver path piece) (after_delivery (world_after start past) path piece) (world_deliver start path piece past) refl refl (λ b. refl) (always l careful none honest orderly considerate minds f t h)
  always (stops o {past = past} l) careful none honest orderly considerate minds f t h =
      calm_both start k past (End o) (after_end (world_after start past) o) (world_end start o past) refl refl (λ b. refl) (always l careful none honest orderly considerate minds f t h)
  always (crashes v {past = past} l image) careful none honest orderly considerate minds f t h = subst (λ (z : WorldMap). BothSound start k (Crash v ∷ past) z) (sym (world_crash start v past))
      (both_nothing (SoundPair start k (Crash v ∷ past) (shown v)) ((shown v).directories k.folder) ((shown v).directories k.place) k.name (image.directories k.folder).nothing_pending (image.directories k.place).nothing_pending
      (pair_own start k past (Crash v ∷ past) (shown v) (λ y. now_in ((shown v).directories k.folder) y) (now_in ((shown v).directories k.place) k.name)
      (λ n g z. own_on start k (Crash v) past (now_in ((shown v).directories k.place) k.name) n g z)
      (pair_image start k past (world_after start past) (shown v) _ image f.0 t.0 (had_all start k.place k.name st l careful none c) (always l careful none honest orderly considerate minds f.1 t.1 h))))
  always (crashes_within v o s {past = past} l alive image) careful none honest orderly considerate minds f t h =
      let honest_p : AreHonest start past = honest_before start (Act o s Failed Before) (Crash v ∷ past) honest in
      within v o s past l alive image careful none honest_p orderly.1 considerate.1 minds.0 f.0 t.0
      (always l careful.1 (none_before start o s Failed Before (Crash v ∷ past) none) honest_p orderly.1 considerate.1 minds.1 f.1 t.1 h)

  -- the law
  pub marks_always_sound_apart : {past : List Event} → (l : IsLegal start past) → AreCareful past → HasNoneOfTheirs start past → AreHonest start past → AreOrderly past → AreConsiderate k past → AreMindfulApart k past
      → AreOrderedCrashes start k.folder l → AreOrderedCrashes start k.place l → AreSoundApart start k [] → AreSoundApart start k past
  marks_always_sound_apart {past = past} l careful none honest orderly considerate minds f t h newer older newer_text older_text e et =
      (at_part (SoundPair start k past (world_after start past) (λ y. lead ((world_after start past).directories k.folder).safe older y)) ((world_after start past).directories k.place).safe newer_text older_text k.name
      (subst (λ (cs : List Change). AtEach (SoundPair start k past (world_after start past) (λ y. lead ((world_after start past).directories k.folder).safe older y)) ((world_after start past).directories k.place).safe cs k.name) et
      (each_part (λ s. AtEach (SoundPair start k past (world_after start past) s) ((world_after start past).directories k.place).safe ((world_after start past).directories k.place).pending k.name) ((world_after start past).directories k.folder).safe newer older
      (subst (λ (cs : List Change). EachView (λ s. AtEach (SoundPair start k past (world_after start past) s) ((world_after start past).directories k.place).safe ((world_after start past).directories k.place).pending k.name) ((world_after start past).directories k.folder).safe cs) e
      (always l careful none honest orderly considerate minds f t h))))).sound
