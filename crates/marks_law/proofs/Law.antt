-- While one run has a folder's lock and minds the marks, they stay sound.
use Rattle.std.proofs.Common.{◌≡◌, ℕ, ◌<◌, ◌≤◌, Bool, true, false, ◌==◌, ◌||◌, ◌⊎◌, inl, inr, List, [], ◌∷◌, ◌++◌, Option, Some, None, refl, sym, ◌∙◌, ap, subst, arith}
use Rattle.step_plans.proofs.Discipline.{Cares, place_lock}
use Rattle.folder_files.specs.Careful.{IsCareful, HasLock, looks, changes}
use Rattle.folder_files.specs.Deeds.{Deed, HasFailed}
use Rattle.folder_files.specs.Directory.{Slots, DirectoryMap, now_in}
use Rattle.folder_files.specs.Histories.{world_after, own, has_acted, IsLive, IsLegal, answers, fails, is_dead, delivers, crashes, crashes_within, stops, AreCareful, AreHonest, AreOrderly, IsLockable, Changes, after_delivery, after_end, IsOnMail}
use Rattle.folder_files.specs.Named.{is_committed}
use Rattle.folder_files.specs.Places.{same_place, is_folder}
use Rattle.folder_files.specs.Steps.{made}
use Rattle.folder_files.specs.Worlds.{WorldMap, IsStart}
use Rattle.folder_files.specs.declared.event.After.{After}
use Rattle.folder_files.specs.declared.event.After.TheVariants.{Before, Made}
use Rattle.folder_files.specs.declared.event.Event.{Event}
use Rattle.folder_files.specs.declared.event.Event.TheVariants.{Act, Deliver, Crash, End}
use Rattle.folder_files.specs.declared.place.Place.{Place}
use Rattle.folder_files.specs.declared.place.Place.TheVariants.{Home, Work, Mail, Folder}
use Rattle.folder_files.specs.declared.step.Answer.{Answer}
use Rattle.folder_files.specs.declared.step.Answer.TheVariants.{Failed}
use Rattle.folder_files.specs.declared.step.Step.{Step}
use Rattle.folder_files.specs.declared.step.Step.TheVariants as step
use Rattle.folder_files.specs.declared.world.Change.{Change}
use Rattle.folder_files.specs.declared.world.World.{World}
use Rattle.step_plans.specs.Starts.{HasNoneOfTheirs}
use Rattle.folder_files.proofs.Sameness.{place_same, place_is}
use Rattle.folder_files.proofs.Names.{num_same, num_apart, not_both, or_left, or_last}
use Rattle.folder_files.proofs.Changes.{Goes, lead_below, AllBelow, now_below, goes_below}
use Rattle.folder_files.proofs.Effects.{IsNext, answered, failed, refused, left, left_directory, left_keeps, left_grows, ComesTo, next_goes, world_deliver, world_end, world_next}
use Rattle.step_plans.proofs.Past.{acted}
use Rattle.step_plans.proofs.Inv.{Inv}
use Rattle.step_plans.proofs.Crashes.{ended_by}
use Rattle.step_plans.proofs.Law.{inv, none_before}
use Rattle.step_plans.proofs.Bases.{base_is}
use Rattle.step_plans.proofs.Locks.{lock_once, honest_before}
use Rattle.marks_law.specs.Bearers.{Marking, in_folder, marks, on}
use Rattle.marks_law.specs.Sound.{IsSound, IsOwn, AreSound}
use Rattle.marks_law.specs.Minding.{IsMindful, HasMinded, since, on}
use Rattle.marks_law.proofs.Sounding.{sound_marked}
use Rattle.marks_law.proofs.Views.{EachView, each_more, each_now, each_goes, each_part, part_each}
use Rattle.marks_law.proofs.Seeing.{left_untouched, touch_changes, others_leave, alone_in, sees_told}
use Rattle.marks_law.proofs.Stepping.{own_on, SoundNow, same_sound, act_own}

-- the marks with these names, and a text file that is there
pub record SoundWith (start : World) (k : Marking) (past : List Event) (w : WorldMap) (s : Slots) : Type 0 where
  pub below : (c : ℕ) → s k.name ≡ Some c → c < w.next_file
  pub sound : IsSound s (marks k w (s k.name)) (IsOwn start k past (s k.name))

abbrev pub EachSound : World → Marking → List Event → WorldMap → Type 0
EachSound start k past w = EachView (SoundWith start k past w) (w.directories k.folder).safe (w.directories k.folder).pending

-- one more event that leaves files as they are
with_more : (start : World) (k : Marking) (past : List Event) (e : Event) (w v : WorldMap) → w.next_file ≤ v.next_file → ((c : ℕ) → c < w.next_file → (v.files c).bytes ≡ (w.files c).bytes)
    → (s : Slots) → SoundWith start k past w s → SoundWith start k (e ∷ past) v s
with_more start k past e w v le same s h = record {
  below = λ c q. (let l = h.below c q in omega arith);
  sound = sound_marked s s (marks k w (s k.name)) (marks k v (s k.name)) (IsOwn start k past (s k.name)) (IsOwn start k (e ∷ past) (s k.name)) (λ z st. refl)
      (λ y n ey q. inl (sym (stay (s k.name) h.below n) ∙ q, λ g z. own_on start k e past (s k.name) n g z)) h.sound;
}
  where
    stay : (o : Option ℕ) → ((c : ℕ) → o ≡ Some c → c < w.next_file) → (n : ℕ) → marks k v o n ≡ marks k w o n
    stay None b n = refl
    stay (Some c) b n = ap (λ t. k.says t n) (same c (b c refl))

-- an act keeps them so, where it keeps the marks of the world sound
pub act_each : (start : World) (past : List Event) (o : ℕ) (s : Step) (a : Answer) (m : After) (p : Place) (x : List ℕ) (says : List ℕ → ℕ → Bool) → IsNext (world_after start past) o s a m → Inv start past
    → (SoundNow start (in_folder p x says) past (world_after start past) → SoundNow start (in_folder p x says) (Act o s a m ∷ past) (left (world_after start past) o s a m))
    → EachSound start (in_folder p x says) past (world_after start past) → EachSound start (in_folder p x says) (Act o s a m ∷ past) (world_after start (Act o s a m ∷ past))
act_each start past o s a m p x says nx i step_ h = subst (λ (z : WorldMap). EachSound start (in_folder p x says) (Act o s a m ∷ past) z) (sym (world_next start o s a m past nx))
    (each_goes (SoundWith start (in_folder p x says) (Act o s a m ∷ past) v) w.next_file v.next_file (ComesTo s a p) (w.directories p) goes
    (each_more (SoundWith start (in_folder p x says) past w) (SoundWith start (in_folder p x says) (Act o s a m ∷ past) v) (w.directories p).safe (w.directories p).pending
    (λ t z. with_more start (in_folder p x says) past (Act o s a m) w v (left_grows w s m) (λ c l. (left_keeps w s m c l).0) t z) h)
    newest)
  where
    w : WorldMap
    w = world_after start past

    v : WorldMap
    v = left (world_after start past) o s a m

    goes : Goes w.next_file v.next_file (ComesTo s a p) (w.directories p) (v.directories p)
    goes = next_goes w o s a m p nx

    newest : SoundWith start (in_folder p x says) (Act o s a m ∷ past) v (λ y. now_in (v.directories p) y)
    newest = record {
      below = λ c q. now_below v.next_file (v.directories p) (goes_below w.next_file v.next_file (ComesTo s a p) (w.directories p) (left_grows w s m) goes (i.below p)) x c q;
      sound = step_ (each_now (SoundWith start (in_folder p x says) past w) (w.directories p).safe (w.directories p).pending h).sound;
    }

-- whether a step changes a folder
pub changes_case : (p : Place) (s : Step) → Changes p s ⊎ (Changes p s → ⊥)
changes_case p s = by s
  where
    at : (q : Place) → (p ≡ q) ⊎ (p ≡ q → ⊥)
    at q = go (same_place p q) refl
      where
        go : (v : Bool) → same_place p q ≡ v → (p ≡ q) ⊎ (p ≡ q → ⊥)
        go true e = inl (place_same p q e)
        go false e = inr (λ z. not_both (same_place p p) (place_is p) (subst (λ (y : Place). same_place p y ≡ false) (sym z) e))

    by : (s : Step) → Changes p s ⊎ (Changes p s → ⊥)
    by (step.Create q n b) = at q
    by (step.Link q a b) = at q
    by (step.Rename q a b) = at q
    by (step.Unlink q a) = at q
    by s = inr (λ z. z)

pub folder_lockable : (p : Place) → is_folder p ≡ true → IsLockable p
folder_lockable Home f = absurd (cc (f))
folder_lockable Work f = absurd (cc (f))
folder_lockable (Mail path) f = absurd (cc (f))
folder_lockable (Folder path name) f = tt

-- a step that changes something comes after no failure
failed_not : (r : ℕ) (deeds : List Deed) (p : Place) (s : Step) → IsCareful r deeds s → Changes p s → HasFailed deeds → ⊥
failed_not r deeds p (step.Create q n b) (looks l) ch f = absurd l
failed_not r deeds p (step.Link q a b) (looks l) ch f = absurd l
failed_not r deeds p (step.Rename q a b) (looks l) ch f = absurd l
failed_not r deeds p (step.Unlink q a) (looks l) ch f = absurd l
failed_not r deeds p s (changes n kind h) ch f = n f
failed_not r deeds p s (looks l) ch f = absurd ch

pub changes_mail : (p : Place) (s : Step) → IsLockable p → Changes p s → IsOnMail s
changes_mail p (step.Create q n b) lock e = place_lock (sym e) lock
changes_mail p (step.Link q a b) lock e = place_lock (sym e) lock
changes_mail p (step.Rename q a b) lock e = place_lock (sym e) lock
changes_mail p (step.Unlink q a) lock e = place_lock (sym e) lock
changes_mail p s lock e = absurd e

pub unfailed : (r : ℕ) (deeds : List Deed) (p : Place) (s : Step) → IsLockable p → Cares r deeds s → Changes p s → HasFailed deeds → ⊥
unfailed r deeds p s lock cares ch f = failed_not r deeds p s (cares (changes_mail p s lock ch)) ch f

-- said of the parts, and of each front part
pub each_of : (start : World) (k : Marking) {past : List Event} → Inv start past → AreSound start k past → EachSound start k past (world_after start past)
each_of start k {past = past} i h = part_each (SoundWith start k past (world_after start past)) ((world_after start past).directories k.folder).safe ((world_after start past).directories k.folder).pending (λ newer older e. record {
  below = λ b q. lead_below (world_after start past).next_file ((world_after start past).directories k.folder).safe older (i.below k.folder).safe (all_older newer older (subst (λ (cs : List Change). AllBelow (world_after start past).next_file cs) e (i.below k.folder).pending)) k.name b q;
  sound = h newer older e;
})
  where
    all_older : (newer older : List Change) → AllBelow (world_after start past).next_file (newer ++ older) → AllBelow (world_after start past).next_file older
    all_older [] older z = z
    all_older (d ∷ newer) older z = all_older newer older z.1

module _ (start : World) (r : ℕ) (p : Place) (x : List ℕ) (says : List ℕ → ℕ → Bool) (st : IsStart start) (c : is_committed p x ≡ true) (folder : is_folder p ≡ true) (silent : (n : ℕ) → says [] n ≡ false) where
  abbrev k : Marking
  k = in_folder p x says

  -- one act, by whatever run
  pub act_sound : (past : List Event) (o : ℕ) (s : Step) (a : Answer) (m : After) → IsLegal start past → AreCareful (Act o s a m ∷ past) → HasNoneOfTheirs start past → AreHonest start past → AreOrderly (Act o s a m ∷ past)
      → IsNext (world_after start past) o s a m → IsLive r (world_after start past) → HasLock p (own r past) → IsMindful r k (Act o s a m) past
      → EachSound start k past (world_after start past) → EachSound start k (Act o s a m ∷ past) (world_after start (Act o s a m ∷ past))
  act_sound past o s a m l careful none honest orderly nx alive lock mindful h = act_each start past o s a m p x says nx i now_sound h
    where
      i : Inv start past
      i = inv start st l careful.1 none

      lockable : IsLockable p
      lockable = folder_lockable p folder

      spared : ((z : List ℕ) → now_in (left_directory (world_after start past) s m p) z ≡ now_in ((world_after start past).directories p) z)
          → SoundNow start k past (world_after start past) → SoundNow start k (Act o s a m ∷ past) (left (world_after start past) o s a m)
      spared same q = same_sound start past o s a m k folder c i (λ z sz. same z) (same x) q

      own_ : o ≡ r → Changes p s → SoundNow start k past (world_after start past) → SoundNow start k (Act o s a m ∷ past) (left (world_after start past) o s a m)
      own_ e ch q = subst (λ (z : ℕ). SoundNow start k (Act z s a m ∷ past) (left (world_after start past) z s a m)) (sym e)
          (act_own start past r s a m p x says c folder i alive by_r silent (λ y b z. sees_told start r p y b l honest orderly.1 lockable alive z)
          (λ t z. base_is start r p x st l careful.1 none honest orderly.1 c alive (λ f. unfailed r (own r past) p s (folder_lockable p folder) by_r ch f) t z) (mindful e ch)
          (subst (λ (z : ℕ). IsNext (world_after start past) z s a m) e nx) q)
        where
          by_r : Cares r (own r past) s
          by_r = subst (λ (z : ℕ). Cares z (own z past) s) e careful.0

      now_sound : SoundNow start k past (world_after start past) → SoundNow start k (Act o s a m ∷ past) (left (world_after start past) o s a m)
      now_sound q = go (o == r) refl
        where
          go : (v : Bool) → (o == r) ≡ v → SoundNow start k (Act o s a m ∷ past) (left (world_after start past) o s a m)
          go true e = elim (changes_case p s) [
            | inr never ↦ spared (λ z. left_untouched (world_after start past) s m p z (λ t. never (touch_changes p z s t))) q
            | inl ch ↦ own_ (num_same o r e) ch q
          ]
          go false e = spared (λ z. others_leave (world_after start past) o s a m p z nx (λ lv ch. alone_in start past r o s p l honest lockable orderly.0 alive (num_apart o r e) lock lv ch)) q

  pub calm : (past : List Event) (e : Event) (v : WorldMap) → (world_after start (e ∷ past)) ≡ v → v.next_file ≡ (world_after start past).next_file → v.directories p ≡ (world_after start past).directories p
      → ((f : ℕ) → (v.files f).bytes ≡ ((world_after start past).files f).bytes)
      → EachSound start k past (world_after start past) → EachSound start k (e ∷ past) (world_after start (e ∷ past))
  calm past e v same next dirs bytes h = subst (λ (z : WorldMap). EachSound start k (e ∷ past) z) (sym same)
      (subst (λ (d : DirectoryMap). EachView (SoundWith start k (e ∷ past) v) d.safe d.pending) (sym dirs)
      (each_more (SoundWith start k past (world_after start past)) (SoundWith start k (e ∷ past) v) ((world_after start past).directories p).safe ((world_after start past).directories p).pending
      (λ t z. with_more start k past e (world_after start past) v (let q = next in omega arith) (λ f l. bytes f) t z) h))

  pub each_sound : {moment past : List Event} → IsLegal start past → AreCareful past → HasNoneOfTheirs start past → AreHonest start past → AreOrderly past → HasMinded start r k moment past → AreSound start k moment
      → EachSound start k past (world_after start past)
  each_sound l careful none honest orderly since h = each_of start k (inv start st l careful none) h
  each_sound (answers o s a {past = past} l alive fits) careful none honest orderly (on nc lv lock minds w) h = let none_b = none_before start o s a Made past none in let honest_b = honest_before start (Act o s a Made) past honest in
      act_sound past o s a Made l careful none_b honest_b orderly (answered a alive fits) lv lock minds (each_sound l careful.1 none_b honest_b orderly.1 w h)
  each_sound (fails o s m {past = past} l alive may) careful none honest orderly (on nc lv lock minds w) h = let none_b = none_before start o s Failed m past none in let honest_b = honest_before start (Act o s Failed m) past honest in
      act_sound past o s Failed m l careful none_b honest_b orderly (failed m alive may) lv lock minds (each_sound l careful.1 none_b honest_b orderly.1 w h)
  each_sound (is_dead o s {past = past} l d) careful none honest orderly (on nc lv lock minds w) h = let none_b = none_before start o s Failed Before past none in let honest_b = honest_before start (Act o s Failed Before) past honest in
      act_sound past o s Failed Before l careful none_b honest_b orderly (refused d) lv lock minds (each_sound l careful.1 none_b honest_b orderly.1 w h)
  each_sound (delivers path piece {past = past} l) careful none honest orderly (on nc lv lock minds w) h =
      calm past (Deliver path piece) (after_delivery (world_after start past) path piece) (world_deliver start path piece past) refl refl (λ f. refl) (each_sound l careful none honest orderly w h)
  each_sound (crashes v {past = past} l image) careful none honest orderly (on nc lv lock minds w) h = absurd nc
  each_sound (crashes_within v o s {past = past} l alive image) careful none honest orderly (on nc lv lock minds w) h =
      absurd (not_both ((world_after start (Crash v ∷ past)).ended r) (ended_by start v past r (image.ended r (or_left ((o == r) || has_acted past r) ((made (world_after start past) o s).ended r)
      (or_last (o == r) (has_acted past r) (acted r (Crash v ∷ past) (lock_once lock)))))) lv)
  each_sound (stops o {past = past} l) careful none honest orderly (on nc lv lock minds w) h =
      calm past (End o) (after_end (world_after start past) o) (world_end start o past) refl refl (λ f. refl) (each_sound l careful none honest orderly w h)

  -- the law
  pub marks_stay_sound : {moment past : List Event} → IsLegal start past → AreCareful past → HasNoneOfTheirs start past → AreHonest start past → AreOrderly past → HasMinded start r k moment past → AreSound start k moment → AreSound start k past
  marks_stay_sound {past = past} l careful none honest orderly w h newer older e =
      (each_part (SoundWith start k past (world_after start past)) ((world_after start past).directories p).safe newer older
      (subst (λ (cs : List Change). EachView (SoundWith start k past (world_after start past)) ((world_after start past).directories p).safe cs) e (each_sound l careful none honest orderly w h))).sound

-- no other run changes a directory whose lock this one has
pub no_other_changes : (start : World) (r : ℕ) (p : Place) (x : List ℕ) → IsLockable p → (past : List Event) (o : ℕ) (s : Step) (a : Answer) (m : After) → IsLegal start (Act o s a m ∷ past) → AreHonest start past → AreOrderly (Act o s a m ∷ past)
    → IsLive r (world_after start past) → HasLock p (own r past) → (o ≡ r → ⊥) → now_in ((world_after start (Act o s a m ∷ past)).directories p) x ≡ now_in ((world_after start past).directories p) x
no_other_changes start r p x lockable past _ _ _ _ (answers o s a l alive fits) honest orderly lv lock apart = let nx : IsNext (world_after start past) o s a Made = answered a alive fits in
    ap (λ (z : WorldMap). now_in (z.directories p) x) (world_next start o s a Made past nx) ∙ others_leave (world_after start past) o s a Made p x nx (λ lo ch. alone_in start past r o s p l honest lockable orderly.0 lv apart lock lo ch)
no_other_changes start r p x lockable past _ _ _ _ (fails o s m l alive may) honest orderly lv lock apart = let nx : IsNext (world_after start past) o s Failed m = failed m alive may in
    ap (λ (z : WorldMap). now_in (z.directories p) x) (world_next start o s Failed m past nx) ∙ others_leave (world_after start past) o s Failed m p x nx (λ lo ch. alone_in start past r o s p l honest lockable orderly.0 lv apart lock lo ch)
no_other_changes start r p x lockable past _ _ _ _ (is_dead o s l d) honest orderly lv lock apart = let nx : IsNext (world_after start past) o s Failed Before = refused d in
    ap (λ (z : WorldMap). now_in (z.directories p) x) (world_next start o s Failed Before past nx) ∙ others_leave (world_after start past) o s Failed Before p x nx (λ lo ch. alone_in start past r o s p l honest lockable orderly.0 lv apart lock lo ch)
no_other_changes start r p x lockable _ _ _ _ _ (crashes_within v o s {past = past} l alive image) honest orderly lv lock apart =
    absurd (not_both ((world_after start (Crash v ∷ past)).ended r) (ended_by start v past r (image.ended r (or_left ((o == r) || has_acted past r) ((made (world_after start past) o s).ended r)
    (or_last (o == r) (has_acted past r) (acted r (Crash v ∷ past) (lock_once lock)))))) lv)
