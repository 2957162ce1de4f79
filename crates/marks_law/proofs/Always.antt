-- Where all steps mind the marks and all crashes are ordered, marks that are sound at the start are sound always.
use Rattle.std.proofs.Common.{◌≡◌, ℕ, Bool, true, false, ◌==◌, ◌||◌, inl, inr, List, [], ◌∷◌, Option, Some, None, refl, sym, ◌∙◌, ap, subst}
use Rattle.step_plans.proofs.Discipline.{Cares}
use Rattle.folder_files.specs.Careful.{WasCopiedFrom}
use Rattle.folder_files.specs.CrashImage.{IsCrashImage}
use Rattle.folder_files.specs.Deeds.{Deed}
use Rattle.folder_files.specs.Directory.{Slots, now_in}
use Rattle.folder_files.specs.Histories.{world_after, own, has_acted, IsLive, IsLegal, begins, answers, fails, is_dead, delivers, crashes, crashes_within, stops, AreCareful, AreHonest, AreOrderly, Changes, after_delivery, after_end}
use Rattle.folder_files.specs.Named.{is_committed}
use Rattle.folder_files.specs.Places.{is_folder}
use Rattle.folder_files.specs.Steps.{made}
use Rattle.folder_files.specs.Worlds.{WorldMap, shown, IsStart}
use Rattle.folder_files.specs.declared.event.After.{After}
use Rattle.folder_files.specs.declared.event.After.TheVariants.{Before, Made}
use Rattle.folder_files.specs.declared.event.Event.{Event}
use Rattle.folder_files.specs.declared.event.Event.TheVariants.{Act, Deliver, Crash, End}
use Rattle.folder_files.specs.declared.place.Place.{Place}
use Rattle.folder_files.specs.declared.step.Answer.{Answer}
use Rattle.folder_files.specs.declared.step.Answer.TheVariants.{Failed}
use Rattle.folder_files.specs.declared.step.Step.{Step}
use Rattle.folder_files.specs.declared.world.Change.{Change}
use Rattle.folder_files.specs.declared.world.World.{World}
use Rattle.step_plans.specs.Moments.{IsTriedAt, live, cut}
use Rattle.step_plans.specs.Starts.{HasNoneOfTheirs}
use Rattle.folder_files.proofs.Names.{not_both}
use Rattle.folder_files.proofs.Effects.{IsNext, answered, failed, refused, left, world_deliver, world_end, world_crash, world_next, world_failed}
use Rattle.step_plans.proofs.Past.{own_crash}
use Rattle.step_plans.proofs.Inv.{Inv}
use Rattle.step_plans.proofs.Crashes.{ended_by}
use Rattle.step_plans.proofs.Law.{inv, none_before, may_made, careful_back, image_within, within_ended}
use Rattle.step_plans.proofs.Bases.{base_is}
use Rattle.step_plans.proofs.Locks.{honest_before}
use Rattle.step_plans.proofs.Crashing.{had_all}
use Rattle.marks_law.specs.Heirs.{IsHeir, Descends, now, on, itself, further}
use Rattle.marks_law.specs.Bearers.{Marking, in_folder, marks, Bears, set, kept, on}
use Rattle.marks_law.specs.Sound.{IsOwn, IsOrdered, AreSound, AreSoundIn}
use Rattle.marks_law.specs.Minding.{Minds, by_base}
use Rattle.marks_law.specs.Always.{AreMindful, AreOrderedCrashes}
use Rattle.marks_law.proofs.Sounding.{sound_marked}
use Rattle.marks_law.proofs.Views.{EachView, each_part}
use Rattle.marks_law.proofs.Seeing.{left_untouched, touch_changes, sees_told}
use Rattle.marks_law.proofs.Stepping.{own_on, SoundNow, same_sound, act_own}
use Rattle.marks_law.proofs.Law.{SoundWith, EachSound, act_each, changes_case, calm, each_of, unfailed, folder_lockable}
use Rattle.marks_law.proofs.Imaging.{each_nothing, sound_image}

-- an act within which the machine stopped was tried before the crash
tries : (start : World) (o : ℕ) (v : World) (past moment : List Event) → IsLive o (world_after start past) → (shown v).ended o ≡ true → IsTriedAt start o moment past → IsTriedAt start o moment (Crash v ∷ past)
tries start o v past moment alive over (live lv) = cut over alive
tries start o v past moment alive over (cut {v = u} {past = older} gone lv) = absurd (not_both ((world_after start (Crash u ∷ older)).ended o) (ended_by start u older o gone) alive)

heir_within : (start : World) (o : ℕ) (s : Step) (v : World) (past : List Event) → IsLive o (world_after start past) → (shown v).ended o ≡ true → {p q : Place} {f g : ℕ}
    → IsHeir start p f q g (Act o s Failed Made ∷ past) → IsHeir start p f q g (Act o s Failed Before ∷ (Crash v ∷ past))
heir_within start o _ v past alive over {p = p} {q = q} (now {held = h} {temp = t} moment held number copied tried lh lt free) =
    now moment held number (subst (λ (ds : List Deed). WasCopiedFrom p h q t ds) (sym (own_crash o v past)) copied) (tries start o v past moment alive over tried) lh lt free
heir_within start o s v past alive over (on z) = on (on z)

bears_within : (start : World) (o : ℕ) (s : Step) (v : World) (past : List Event) → IsLive o (world_after start past) → (shown v).ended o ≡ true → (k : Marking) (n f c : ℕ)
    → Bears start k n f c (Act o s Failed Made ∷ past) → Bears start k n f c (Act o s Failed Before ∷ (Crash v ∷ past))
bears_within start o _ v past alive over k n f c (set moment tried lt no_mark at) = set moment (tries start o v past moment alive over tried) lt no_mark at
bears_within start o _ v past alive over k n f c (kept moment b tried lt lx old z) = kept moment b (tries start o v past moment alive over tried) lt lx old z
bears_within start o s v past alive over k n f c (on z) = on (on z)

descends_within : (start : World) (o : ℕ) (s : Step) (v : World) (past : List Event) → IsLive o (world_after start past) → (shown v).ended o ≡ true → (p : Place) (f : ℕ) {q : Place} {g : ℕ}
    → Descends start p f (Act o s Failed Made ∷ past) q g → Descends start p f (Act o s Failed Before ∷ (Crash v ∷ past)) q g
descends_within start o s v past alive over p f itself = itself
descends_within start o s v past alive over p f (further z h) = further (descends_within start o s v past alive over p f z) (heir_within start o s v past alive over h)

pub own_within : (start : World) (o : ℕ) (s : Step) (v : World) (past : List Event) → IsLive o (world_after start past) → (shown v).ended o ≡ true → (k : Marking) (t : Option ℕ) (n g : ℕ)
    → IsOwn start k (Act o s Failed Made ∷ past) t n g → IsOwn start k (Act o s Failed Before ∷ (Crash v ∷ past)) t n g
own_within start o s v past alive over k t n g z = (z.0, z.1, z.2, bears_within start o s v past alive over k n z.1 z.0 z.3, descends_within start o s v past alive over k.folder z.1 z.4)

-- sound marks by another account of whose they are
with_own : (start : World) (k : Marking) (past later : List Event) (w : WorldMap) (s : Slots) → ((n g : ℕ) → IsOwn start k past (s k.name) n g → IsOwn start k later (s k.name) n g) → SoundWith start k past w s → SoundWith start k later w s
with_own start k past later w s m h = record {
  below = h.below;
  sound = sound_marked s s (marks k w (s k.name)) (marks k w (s k.name)) (IsOwn start k past (s k.name)) (IsOwn start k later (s k.name)) (λ z st. refl) (λ y n e q. inl (q, λ g z. m n g z)) h.sound;
}

module _ (start : World) (p : Place) (x : List ℕ) (says : List ℕ → ℕ → Bool) (st : IsStart start) (c : is_committed p x ≡ true) (folder : is_folder p ≡ true) (silent : (n : ℕ) → says [] n ≡ false) where
  abbrev k : Marking
  k = in_folder p x says

  act_always : (past : List Event) (o : ℕ) (s : Step) (a : Answer) (m : After) → IsLegal start past → Cares o (own o past) s → AreCareful past → HasNoneOfTheirs start past → AreHonest start past → AreOrderly past
      → IsNext (world_after start past) o s a m → (Changes p s → Minds o k (by_base o k) (own o past) s)
      → EachSound start k past (world_after start past) → EachSound start k (Act o s a m ∷ past) (world_after start (Act o s a m ∷ past))
  act_always past o s a m l careful_now careful none honest orderly nx minds h = act_each start past o s a m p x says nx i (λ q. now_sound nx q) h
    where
      i : Inv start past
      i = inv start st l careful none

      now_sound : {a : Answer} {m : After} → IsNext (world_after start past) o s a m → SoundNow start k past (world_after start past) → SoundNow start k (Act o s a m ∷ past) (left (world_after start past) o s a m)
      now_sound {a = a} {m = m} nx q = elim (changes_case p s) [
        | inr never ↦ same_sound start past o s a m k folder c i (λ z sz. left_untouched (world_after start past) s m p z (λ t. never (touch_changes p z s t)))
            (left_untouched (world_after start past) s m p x (λ t. never (touch_changes p x s t))) q
        | inl ch ↦ by ch nx
      ]
        where
          lively : Changes p s → IsLive o (world_after start past) → {b : Answer} {n : After} → IsNext (world_after start past) o s b n → SoundNow start k (Act o s b n ∷ past) (left (world_after start past) o s b n)
          lively ch alive {b = b} {n = n} nx = act_own start past o s b n p x says c folder i alive careful_now silent (λ y e z. sees_told start o p y e l honest orderly (folder_lockable p folder) alive z)
              (λ t z. base_is start o p x st l careful none honest orderly c alive (λ f. unfailed o (own o past) p s (folder_lockable p folder) careful_now ch f) t z) (minds ch) nx q

          by : Changes p s → {b : Answer} {n : After} → IsNext (world_after start past) o s b n → SoundNow start k (Act o s b n ∷ past) (left (world_after start past) o s b n)
          by ch (answered b lv fits) = lively ch lv (answered b lv fits)
          by ch (failed n lv may) = lively ch lv (failed n lv may)
          by ch (refused over) = same_sound start past o s Failed Before k folder c i (λ z sz. refl) refl q

  always_within : (v : World) (o : ℕ) (s : Step) (past : List Event) (l : IsLegal start past) (alive : IsLive o (world_after start past)) (image : IsCrashImage (made (world_after start past) o s) (shown v) (λ q. (o == q) || has_acted past q))
      → AreCareful (Act o s Failed Before ∷ (Crash v ∷ past)) → HasNoneOfTheirs start (Act o s Failed Before ∷ (Crash v ∷ past)) → AreHonest start past → AreOrderly past → (Changes p s → Minds o k (by_base o k) (own o (Crash v ∷ past)) s)
      → IsOrdered ((made (world_after start past) o s).directories p) ((shown v).directories p) → EachSound start k past (world_after start past)
      → EachSound start k (Act o s Failed Before ∷ (Crash v ∷ past)) (world_after start (Act o s Failed Before ∷ (Crash v ∷ past)))
  always_within v o s past l alive image careful none honest_p orderly_p minds ordered before =
      subst (λ (z : WorldMap). EachSound start k (Act o s Failed Before ∷ (Crash v ∷ past)) z) (sym same)
      (each_nothing (SoundWith start k (Act o s Failed Before ∷ (Crash v ∷ past)) w_) (w_.directories p) (ap (λ (z : WorldMap). (z.directories p).pending) (world_crash start v past) ∙ (image.directories p).nothing_pending)
      (unlive (subst (λ (z : WorldMap). SoundWith start k (Act o s Failed Before ∷ (Crash v ∷ past)) z (λ y. now_in (z.directories p) y)) (sym (world_crash start v past)) sound_v)))
    where
      over : (shown v).ended o ≡ true
      over = within_ended o v past (made (world_after start past) o s).ended image.ended

      w_ : WorldMap
      w_ = left (world_after start (Crash v ∷ past)) o s Failed Before

      same : world_after start (Act o s Failed Before ∷ (Crash v ∷ past)) ≡ w_
      same = world_next start o s Failed Before (Crash v ∷ past) (refused (ended_by start v past o over))

      unlive : SoundWith start k (Act o s Failed Before ∷ (Crash v ∷ past)) (world_after start (Crash v ∷ past)) (λ y. now_in ((world_after start (Crash v ∷ past)).directories p) y)
          → SoundWith start k (Act o s Failed Before ∷ (Crash v ∷ past)) w_ (λ y. now_in (w_.directories p) y)
      unlive z = record { below = z.below; sound = sound_marked _ _ (marks k (world_after start (Crash v ∷ past)) text) (marks k w_ text) (IsOwn start k later text) (IsOwn start k later text) (λ y q. refl) (λ y n e q. inl (sym (bytes text n) ∙ q, λ g z. z)) z.sound }
        where
          later : List Event
          later = Act o s Failed Before ∷ (Crash v ∷ past)

          text : Option ℕ
          text = now_in ((world_after start (Crash v ∷ past)).directories p) x

          bytes : (t : Option ℕ) (n : ℕ) → marks k w_ t n ≡ marks k (world_after start (Crash v ∷ past)) t n
          bytes None n = refl
          bytes (Some b) n = refl

      none_p : HasNoneOfTheirs start past
      none_p = none_before start o s Failed Before (Crash v ∷ past) none

      careful_now : Cares o (own o past) s
      careful_now = careful_back o s v past careful.0

      made_legal : IsLegal start (Act o s Failed Made ∷ past)
      made_legal = fails o s Made l alive (may_made s)

      made_each : EachSound start k (Act o s Failed Made ∷ past) (world_after start (Act o s Failed Made ∷ past))
      made_each = act_always past o s Failed Made l careful_now careful.1 none_p honest_p orderly_p (failed Made alive (may_made s))
          (λ ch. subst (λ (ds : List Deed). Minds o k (by_base o k) ds s) (own_crash o v past) (minds ch)) before

      made_ordered : IsOrdered ((world_after start (Act o s Failed Made ∷ past)).directories p) ((shown v).directories p)
      made_ordered = subst (λ (z : WorldMap). IsOrdered (z.directories p) ((shown v).directories p)) (sym (world_failed start o s past)) ordered

      sound_v : SoundWith start k (Act o s Failed Before ∷ (Crash v ∷ past)) (shown v) (λ y. now_in ((shown v).directories p) y)
      sound_v = with_own start k (Act o s Failed Made ∷ past) (Act o s Failed Before ∷ (Crash v ∷ past)) (shown v) (λ y. now_in ((shown v).directories p) y)
          (λ n g z. own_within start o s v past alive over k (now_in ((shown v).directories p) x) n g z)
          (sound_image start p x says (Act o s Failed Made ∷ past) (world_after start (Act o s Failed Made ∷ past)) (shown v) _ (image_within start past v o s _ image) made_ordered
          (had_all start p x st made_legal (careful_now, careful.1) none c) made_each)

  always : {past : List Event} → (l : IsLegal start past) → AreCareful past → HasNoneOfTheirs start past → AreHonest start past → AreOrderly past → AreMindful k past → AreOrderedCrashes start p l → AreSound start k []
      → EachSound start k past (world_after start past)
  always begins careful none honest orderly minds ordered h = each_of start k (inv start st begins careful none) h
  always (answers o s a {past = past} l alive fits) careful none honest orderly minds ordered h = let none_b = none_before start o s a Made past none in let honest_b = honest_before start (Act o s a Made) past honest in
      act_always past o s a Made l careful.0 careful.1 none_b honest_b orderly.1 (answered a alive fits) minds.0 (always l careful.1 none_b honest_b orderly.1 minds.1 ordered h)
  always (fails o s m {past = past} l alive may) careful none honest orderly minds ordered h = let none_b = none_before start o s Failed m past none in let honest_b = honest_before start (Act o s Failed m) past honest in
      act_always past o s Failed m l careful.0 careful.1 none_b honest_b orderly.1 (failed m alive may) minds.0 (always l careful.1 none_b honest_b orderly.1 minds.1 ordered h)
  always (is_dead o s {past = past} l d) careful none honest orderly minds ordered h = let none_b = none_before start o s Failed Before past none in let honest_b = honest_before start (Act o s Failed Before) past honest in
      act_always past o s Failed Before l careful.0 careful.1 none_b honest_b orderly.1 (refused d) minds.0 (always l careful.1 none_b honest_b orderly.1 minds.1 ordered h)
  always (delivers path piece {past = past} l) careful none honest orderly minds ordered h =
      calm start 0 p x says st c folder silent past (Deliver path piece) (after_delivery (world_after start past) path piece) (world_deliver start path piece past) refl refl (λ f. refl) (always l careful none honest orderly minds ordered h)
  always (stops o {past = past} l) careful none honest orderly minds ordered h =
      calm start 0 p x says st c folder silent past (End o) (after_end (world_after start past) o) (world_end start o past) refl refl (λ f. refl) (always l careful none honest orderly minds ordered h)
  always (crashes v {past = past} l image) careful none honest orderly minds ordered h = subst (λ (z : WorldMap). EachSound start k (Crash v ∷ past) z) (sym (world_crash start v past))
      (each_nothing (SoundWith start k (Crash v ∷ past) (shown v)) ((shown v).directories p) (image.directories p).nothing_pending
      (with_own start k past (Crash v ∷ past) (shown v) (λ y. now_in ((shown v).directories p) y) (λ n g z. own_on start k (Crash v) past (now_in ((shown v).directories p) x) n g z)
      (sound_image start p x says past (world_after start past) (shown v) _ image ordered.0 (had_all start p x st l careful none c) (always l careful none honest orderly minds ordered.1 h))))
  always (crashes_within v o s {past = past} l alive image) careful none honest orderly minds ordered h =
      let honest_p : AreHonest start past = honest_before start (Act o s Failed Before) (Crash v ∷ past) honest in
      always_within v o s past l alive image careful none honest_p orderly.1 minds.0 ordered.0 (always l careful.1 (none_before start o s Failed Before (Crash v ∷ past) none) honest_p orderly.1 minds.1 ordered.1 h)

  -- the law
  pub marks_always_sound : {past : List Event} → (l : IsLegal start past) → AreCareful past → HasNoneOfTheirs start past → AreHonest start past → AreOrderly past → AreMindful k past → AreOrderedCrashes start p l → AreSound start k [] → AreSound start k past
  marks_always_sound {past = past} l careful none honest orderly minds ordered h newer older e =
      (each_part (SoundWith start k past (world_after start past)) ((world_after start past).directories p).safe newer older
      (subst (λ (cs : List Change). EachView (SoundWith start k past (world_after start past)) ((world_after start past).directories p).safe cs) e (always l careful none honest orderly minds ordered h))).sound

pub image_law : (start : World) (p : Place) (x : List ℕ) (says : List ℕ → ℕ → Bool) → IsStart start → is_committed p x ≡ true → (past : List Event) → IsLegal start past → AreCareful past → HasNoneOfTheirs start past
    → AreSound start (in_folder p x says) past → (v : WorldMap) (acted : ℕ → Bool) → IsCrashImage (world_after start past) v acted → IsOrdered ((world_after start past).directories p) (v.directories p) → AreSoundIn start (in_folder p x says) past v
image_law start p x says st c past l careful none h v acted image ordered =
    (sound_image start p x says past (world_after start past) v acted image ordered (had_all start p x st l careful none c) (as_each_ h)).sound
  where
    as_each_ : AreSound start (in_folder p x says) past → EachSound start (in_folder p x says) past (world_after start past)
    as_each_ z = each_of start (in_folder p x says) (inv start st l careful none) z
