-- The invariant of the proof, and that each act keeps it.
use Rattle.std.proofs.Common.{◌≡◌, ℕ, ◌<◌, Bool, true, false, ◌⊎◌, inl, inr, List, ◌∷◌, Option, Some, None, is_none, length, nat_lt, refl, sym, ◌∙◌, ap, subst, arith, if◌then◌else◌}
use Rattle.mh_base.specs.Entries.{kind_of}
use Rattle.folder_files.specs.Annotations.{Annotates}
use Rattle.folder_files.specs.Careful.{WasMade, WasSynced, WasGiven, WasGivenAway, WasCopiedFrom, IsSuccessorPut}
use Rattle.folder_files.specs.Deeds.{Deed, did, Once, Since, last, still, WasDone, now, on}
use Rattle.folder_files.specs.Directory.{DirectoryMap, now_in}
use Rattle.folder_files.specs.Histories.{world_after, own, IsLive, IsLockable}
use Rattle.folder_files.specs.Named.{is_number, is_held, is_held_of, is_temp, is_temp_of, is_taking}
use Rattle.folder_files.specs.Places.{same_place, is_folder}
use Rattle.folder_files.specs.Steps.{with_created, read_answer, name_answer, directory_after, file_after, torn, Fits, MayLeave}
use Rattle.folder_files.specs.Worlds.{FileState, WorldMap, shown}
use Rattle.folder_files.specs.declared.event.After.{After}
use Rattle.folder_files.specs.declared.event.After.TheVariants.{Before, Made, Torn}
use Rattle.folder_files.specs.declared.event.Event.{Event}
use Rattle.folder_files.specs.declared.event.Event.TheVariants.{Act}
use Rattle.folder_files.specs.declared.place.Place.{Place}
use Rattle.folder_files.specs.declared.step.Answer.{Answer}
use Rattle.folder_files.specs.declared.step.Answer.TheVariants.{Done, Content, Long, Gone, Exists, Failed}
use Rattle.folder_files.specs.declared.step.Step.{Step}
use Rattle.folder_files.specs.declared.step.Step.TheVariants as step
use Rattle.folder_files.specs.declared.world.World.{World}
use Rattle.folder_files.proofs.Sameness.{place_same, place_is}
use Rattle.step_plans.specs.Durable.{WasPut, HasBeenPut, IsDurable, now, on}
use Rattle.step_plans.specs.Spending.{IsSpent, IsClear, now, on}
use Rattle.step_plans.specs.Starts.{HasNoneOf}
use Rattle.step_plans.specs.Successors.{HasReadHeld, HasMadeSince, WasPutSince, now, on}
use Rattle.folder_files.proofs.Names.{not_both, num_itself, is_temp_any, is_temp_quiet, is_temp_run, is_held_any, is_held_run, is_taking_held, taking_same, held_owned}
use Rattle.folder_files.proofs.Changes.{IsTarget, IsUnseen, unseen_leads, Goes, arrives, unseen_stays, IsBelow, now_below, goes_below}
use Rattle.folder_files.proofs.Effects.{IsNext, answered, failed, refused, left, left_directory, left_file, left_grows, left_keeps, link_done, ComesTo, next_goes, next_fits, fits_as, created_leads, created_bytes, world_next}
use Rattle.step_plans.proofs.Past.{own_case, own_mine, did_step, did_answer, did_both, once_map, once_more, once_case, once_mine, spent_case, put_case, ever_case, durable_case, folder_lock, since_case, made_created, made_read, since_read}
use Rattle.step_plans.proofs.Holds.{Holds, calm_same, calm_holds, plain_news, idle_news}
use Rattle.step_plans.proofs.Discipline.{Cares, place_lock, careful_create, IsTake, held_target, IsMaking, temp_target, put_ready}
use Rattle.step_plans.proofs.StepHolds.{Given, step_holds, calm_create}

-- the name leads to the file in this world
abbrev pub In : WorldMap → Place → List ℕ → ℕ → Type 0
In w p x f = now_in (w.directories p) x ≡ Some f

-- the step was answered Failed
abbrev pub WasFailed : Step → List Deed → Type 0
WasFailed s deeds = Once (λ d older. d ≡ did s Failed) deeds

abbrev pub WasMakingFailed : Place → List ℕ → List Deed → Type 0
WasMakingFailed p x deeds = Once (λ d older. (bytes : List ℕ) × (d ≡ did (step.Create p x bytes) Failed)) deeds

-- the name was never made
pub record IsFresh (start : World) (p : Place) (r : ℕ) (x : List ℕ) (past : List Event) (w : WorldMap) : Type 0 where
  pub unseen : IsUnseen (w.directories p) x
  pub unspent : IsSpent start p x past → ⊥
  pub unread : (b : List ℕ) → HasReadHeld p x b (own r past) → ⊥

-- the file is safe, with these bytes
pub record IsSafeAs (w : WorldMap) (f : ℕ) (b : List ℕ) : Type 0 where
  pub there : f < w.next_file
  pub safe : (w.files f).safe ≡ true
  pub bytes : (w.files f).bytes ≡ b

-- a successor was put, and its folder was not synced since
abbrev pub IsUnsynced : ℕ → Place → List ℕ → Place → List Deed → Type 0
IsUnsynced r p h q deeds = Since (IsSuccessorPut r p h q) (λ d. d ≡ did (step.SyncFolder q) Done) deeds

pub record InvAt (start : World) (past : List Event) (w : WorldMap) : Type 0 where
  pub below : (p : Place) → IsBelow w.next_file (w.directories p)
  pub fresh : (p : Place) (r : ℕ) (n x : List ℕ) → IsLockable p → is_taking r (kind_of n) (kind_of x) ≡ true → ((shown start).directories p).safe x ≡ None
      → (WasDone (step.Rename p n x) (own r past) → ⊥) → (WasFailed (step.Rename p n x) (own r past) → ⊥) → IsFresh start p r x past w
  pub fresh_temp : (p : Place) (r : ℕ) (x : List ℕ) → IsLockable p → is_temp_of r (kind_of x) ≡ true → ((shown start).directories p).safe x ≡ None
      → (WasMade p x (own r past) → ⊥) → (WasMakingFailed p x (own r past) → ⊥) → IsUnseen (w.directories p) x
  pub temps : (r : ℕ) (p : Place) (x : List ℕ) (f : ℕ) (c : List ℕ) → IsLockable p → is_temp_of r (kind_of x) ≡ true → IsLive r w → WasDone (step.Create p x c) (own r past) → In w p x f → (w.files f).bytes ≡ c
  pub ready : (r : ℕ) (p : Place) (x : List ℕ) (f : ℕ) → IsLockable p → is_temp_of r (kind_of x) ≡ true → IsLive r w → WasSynced p x (own r past) → In w p x f → (w.files f).safe ≡ true
  pub read : (r : ℕ) (p : Place) (x : List ℕ) (f : ℕ) (b : List ℕ) → IsLockable p → is_held_of r (kind_of x) ≡ true → IsLive r w → HasNoneOf start r → HasReadHeld p x b (own r past) → In w p x f → (w.files f).bytes ≡ b
  pub gave : (r : ℕ) (p : Place) (h : List ℕ) → is_held (kind_of h) ≡ true → IsLive r w → WasGiven p h (own r past) → IsSpent start p h past
  pub cleared : (r : ℕ) (p : Place) (h : List ℕ) → is_held (kind_of h) ≡ true → IsLive r w → WasGivenAway p h (own r past) → IsClear start p h past
  pub put : (p : Place) (f : ℕ) (b : List ℕ) → WasPut start p f b past → IsSafeAs w f b
  pub durable : (p : Place) (f : ℕ) (b : List ℕ) → IsDurable start p f b past → IsSafeAs w f b
  pub ever : (p : Place) (f : ℕ) (b : List ℕ) → HasBeenPut start p f b past → IsSafeAs w f b
  pub since : (r : ℕ) (p : Place) (h b : List ℕ) (q : Place) (g : ℕ) (c : List ℕ) → IsLive r w → Annotates b c → WasPutSince start r p h b q g c past
      → IsDurable start q g c past ⊎ (IsUnsynced r p h q (own r past) × WasPut start q g c past)
  pub older_temp : (r : ℕ) (p : Place) (x : List ℕ) (q : Place) (t : List ℕ) (f g : ℕ) (b c : List ℕ) → IsLockable p → IsLockable q → is_held_of r (kind_of x) ≡ true → is_temp_of r (kind_of t) ≡ true → IsLive r w → HasNoneOf start r
      → HasMadeSince p x b q t c (own r past) → In w q t g → In w p x f → f < g
  pub older_put : (r : ℕ) (p : Place) (x : List ℕ) (q : Place) (f g : ℕ) (b c : List ℕ) → IsLockable p → is_held_of r (kind_of x) ≡ true → IsLive r w → HasNoneOf start r
      → WasPutSince start r p x b q g c past → In w p x f → f < g
  pub holds : (p : Place) → IsLockable p → Holds start p (w.directories p) past

abbrev pub Inv : World → List Event → Type 0
Inv start past = InvAt start past (world_after start past)

rename_answers : (u : Option ℕ) (a : Answer) → a ≡ name_answer u → (a ≡ Done) ⊎ (a ≡ Gone)
rename_answers (Some f) a h = inl h
rename_answers None a h = inr h

create_answers : (t : Bool) (u : Option ℕ) (a : Answer) → u ≡ None → a ≡ (if t then (if is_none u then Done else Exists) else Gone) → (a ≡ Done) ⊎ (a ≡ Gone)
create_answers true None a n h = inl h
create_answers true (Some f) a n h = absurd (cc (n))
create_answers false u a n h = inr h

pub read_gives : (w : WorldMap) (p : Place) (x : List ℕ) (limit : ℕ) (b : List ℕ) → Content b ≡ read_answer w limit (now_in (w.directories p) x) → (f : ℕ) × In w p x f × ((w.files f).bytes ≡ b)
read_gives w p x limit b fits = go (now_in (w.directories p) x) refl fits
  where
    content : (v : Bool) (n : ℕ) (bytes : List ℕ) → Content b ≡ (if v then Long n else Content bytes) → bytes ≡ b
    content true n bytes e = absurd (cc (e))
    content false n bytes e = cc (e)

    go : (u : Option ℕ) → now_in (w.directories p) x ≡ u → Content b ≡ read_answer w limit u → (f : ℕ) × In w p x f × ((w.files f).bytes ≡ b)
    go (Some f) e h = (f, e, content (nat_lt limit (length (w.files f).bytes)) (length (w.files f).bytes) (w.files f).bytes h)
    go None e h = absurd (cc (h))

same_sync : (q : Place) (s : Step) (a : Answer) → ((s ≡ step.SyncFolder q) × (a ≡ Done)) ⊎ (did s a ≡ did (step.SyncFolder q) Done → ⊥)
same_sync q s a = go s a refl refl
  where
    place : {p : Place} → did (step.SyncFolder p) Done ≡ did (step.SyncFolder q) Done → p ≡ q
    place e = let z = did_step e in cc (z)

    test : (p : Place) (v : Bool) → same_place p q ≡ v → ((step.SyncFolder p ≡ step.SyncFolder q) × (Done ≡ Done)) ⊎ (did (step.SyncFolder p) Done ≡ did (step.SyncFolder q) Done → ⊥)
    test p true e = inl (ap step.SyncFolder (place_same p q e), refl)
    test p false e = inr (λ z. not_both (same_place q q) (place_is q) (subst (λ (y : Place). same_place y q ≡ false) (place z) e))

    go : (t : Step) (b : Answer) → s ≡ t → a ≡ b → ((t ≡ step.SyncFolder q) × (b ≡ Done)) ⊎ (did t b ≡ did (step.SyncFolder q) Done → ⊥)
    go (step.SyncFolder p) Done es ea = test p (same_place p q) refl
    go (step.SyncFolder p) b es ea = inr (λ z. let y = did_answer z in cc (y))
    go t b es ea = inr (λ z. let y = did_step z in cc (y))

module _ (start : World) (past : List Event) (r : ℕ) (s : Step) (a : Answer) (m : After) (careful : Cares r (own r past) s) (nx : IsNext (world_after start past) r s a m) (i : Inv start past) where
  abbrev w : WorldMap
  w = world_after start past

  abbrev v : WorldMap
  v = left (world_after start past) r s a m

  goes : (p : Place) → Goes w.next_file v.next_file (ComesTo s a p) (w.directories p) (v.directories p)
  goes p = next_goes w r s a m p nx

  -- where the answer is not Failed, the step was made
  as_made : (P : (Place → DirectoryMap) → (ℕ → FileState) → Type 0) {t : Step} → s ≡ t → m ≡ Made → P (directory_after w t) (file_after w t) → P (left_directory w s m) (left_file w s m)
  as_made P es em h = subst (λ (z : After). P (left_directory w s z) (left_file w s z)) (sym em) (subst (λ (z : Step). P (directory_after w z) (file_after w z)) (sym es) h)

  act_below : (p : Place) → IsBelow v.next_file (v.directories p)
  act_below p = goes_below w.next_file v.next_file (ComesTo s a p) (w.directories p) (left_grows w s m) (goes p) (i.below p)

  -- a take that comes to x, where the run took it before or fails
  act_fresh : (p : Place) (o : ℕ) (n x : List ℕ) → IsLockable p → is_taking o (kind_of n) (kind_of x) ≡ true → ((shown start).directories p).safe x ≡ None
      → (WasDone (step.Rename p n x) (own o (Act r s a m ∷ past)) → ⊥) → (WasFailed (step.Rename p n x) (own o (Act r s a m ∷ past)) → ⊥) → IsFresh start p o x (Act r s a m ∷ past) v
  act_fresh p o n x lock taking none nd nf = record { unseen = unseen; unspent = unspent; unread = unread }
    where
      held : is_held (kind_of x) ≡ true
      held = is_held_any o x (is_taking_held o n x taking)

      fr : IsFresh start p o x past w
      fr = i.fresh p o n x lock taking none (λ z. nd (once_more o (Act r s a m) past z)) (λ z. nf (once_more o (Act r s a m) past z))

      never : ComesTo s a p x → ⊥
      never t = elim (rename_answers (now_in (w.directories p) n) a (fits_as w r s (step.Rename p n x) a a is refl f.1)) [
        | inl e ↦ nd (once_mine o r s a m past ro (did_both is e))
        | inr e ↦ t.1 e
      ]
        where
          h : IsTake r (own r past) s p x
          h = held_target r (own r past) s p x lock careful held t.0

          ro : r ≡ o
          ro = is_held_run r o x (is_taking_held r h.number x h.taking) (is_taking_held o n x taking)

          is : s ≡ step.Rename p n x
          is = h.is ∙ ap (λ y. step.Rename p y x) (taking_same o h.number n x (subst (λ (y : ℕ). is_taking y (kind_of h.number) (kind_of x) ≡ true) ro h.taking) taking)

          f : IsLive r w × Fits w r s a × (m ≡ Made)
          f = next_fits w r s a m nx (λ e. nf (once_mine o r s a m past ro (did_both is e)))

      unseen : IsUnseen (v.directories p) x
      unseen = unseen_stays w.next_file v.next_file (ComesTo s a p) (w.directories p) x (goes p) never fr.unseen

      unspent : IsSpent start p x (Act r s a m ∷ past) → ⊥
      unspent z = elim (spent_case z) [
        | inl y ↦ (let e = y.6 in cc (e, unseen_leads (w.directories p) x fr.unseen))
        | inr y ↦ fr.unspent y
      ]

      unread : (b : List ℕ) → HasReadHeld p x b (own o (Act r s a m ∷ past)) → ⊥
      unread b z = elim (once_case o r s a m past z) [
        | inl y ↦ (let es = did_step y.1.1 in let ea = did_answer y.1.1 in
            let f = next_fits w r s a m nx (λ e. cc (e, ea)) in
            let g = read_gives w p x y.1.0 b (fits_as w r s (step.Read p x y.1.0) a (Content b) es ea f.1) in
            cc (g.1, unseen_leads (w.directories p) x fr.unseen))
        | inr y ↦ fr.unread b y
      ]

  act_fresh_temp : (p : Place) (o : ℕ) (x : List ℕ) → IsLockable p → is_temp_of o (kind_of x) ≡ true → ((shown start).directories p).safe x ≡ None
      → (WasMade p x (own o (Act r s a m ∷ past)) → ⊥) → (WasMakingFailed p x (own o (Act r s a m ∷ past)) → ⊥) → IsUnseen (v.directories p) x
  act_fresh_temp p o x lock temp none nd nf = unseen_stays w.next_file v.next_file (ComesTo s a p) (w.directories p) x (goes p) never old
    where
      old : IsUnseen (w.directories p) x
      old = i.fresh_temp p o x lock temp none (λ z. nd (once_more o (Act r s a m) past z)) (λ z. nf (once_more o (Act r s a m) past z))

      never : ComesTo s a p x → ⊥
      never t = elim (create_answers (w.directories p).there (now_in (w.directories p) x) a (unseen_leads (w.directories p) x old) (fits_as w r s (step.Create p x h.bytes) a a h.is refl f.1)) [
        | inl e ↦ nd (once_mine o r s a m past ro (h.bytes, did_both h.is e))
        | inr e ↦ t.1 e
      ]
        where
          h : IsMaking r (own r past) s p x
          h = temp_target r (own r past) s p x lock careful (is_temp_any o x temp) t.0

          ro : r ≡ o
          ro = is_temp_run r o x h.temp temp

          f : IsLive r w × Fits w r s a × (m ≡ Made)
          f = next_fits w r s a m nx (λ e. nf (once_mine o r s a m past ro (h.bytes, did_both h.is e)))

  keeps : (f : ℕ) → f < w.next_file → ((v.files f).bytes ≡ (w.files f).bytes) × ((w.files f).safe ≡ true → (v.files f).safe ≡ true)
  keeps f l = left_keeps w s m f l

  under : (p : Place) (x : List ℕ) (f : ℕ) → In w p x f → f < w.next_file
  under p x f e = now_below w.next_file (w.directories p) (i.below p) x f e

  old_temp : (o : ℕ) (p : Place) (x : List ℕ) (f : ℕ) → IsLockable p → is_temp_of o (kind_of x) ≡ true → WasMade p x (own o past) → In v p x f → In w p x f
  old_temp o p x f lock temp z leads = elim (arrives w.next_file v.next_file (ComesTo s a p) (w.directories p) x f (goes p) leads) [
    | inl y ↦ y
    | inr y ↦ (let h = temp_target r (own r past) s p x lock careful (is_temp_any o x temp) y.0 in absurd (h.fresh (subst (λ (k : ℕ). WasMade p x (own k past)) (is_temp_run o r x temp h.temp) z)))
  ]

  old_created : (o : ℕ) (p : Place) (x : List ℕ) (f : ℕ) (c : List ℕ) → IsLockable p → is_temp_of o (kind_of x) ≡ true → WasDone (step.Create p x c) (own o past) → In v p x f → In w p x f
  old_created o p x f c lock temp z leads = old_temp o p x f lock temp (once_map (λ d older e. (c, e)) z) leads

  act_temps : (o : ℕ) (p : Place) (x : List ℕ) (f : ℕ) (c : List ℕ) → IsLockable p → is_temp_of o (kind_of x) ≡ true → IsLive o w → WasDone (step.Create p x c) (own o (Act r s a m ∷ past)) → In v p x f → (v.files f).bytes ≡ c
  act_temps o p x f c lock temp lv z leads = elim (once_case o r s a m past z) [
    | inl y ↦ created (did_step y.1) (did_answer y.1) leads
    | inr y ↦ (let old = old_created o p x f c lock temp y leads in (keeps f (under p x f old)).0 ∙ i.temps o p x f c lock temp lv y old)
  ]
    where
      at_once : Fits w r (step.Create p x c) Done → now_in (directory_after w (step.Create p x c) p) x ≡ Some f → (file_after w (step.Create p x c) f).bytes ≡ c
      at_once fits leads = let e : w.next_file ≡ f = cc (created_leads w r p x c fits, leads) in
          subst (λ (k : ℕ). (file_after w (step.Create p x c) k).bytes ≡ c) e (created_bytes w r p x c fits)

      created : s ≡ step.Create p x c → a ≡ Done → In v p x f → (v.files f).bytes ≡ c
      created es ea = let f3 = next_fits w r s a m nx (λ e. cc (e, ea)) in
          as_made (λ ds fs. now_in (ds p) x ≡ Some f → (fs f).bytes ≡ c) es f3.2 (at_once (fits_as w r s (step.Create p x c) a Done es ea f3.1))

  act_ready : (o : ℕ) (p : Place) (x : List ℕ) (f : ℕ) → IsLockable p → is_temp_of o (kind_of x) ≡ true → IsLive o w → WasSynced p x (own o (Act r s a m ∷ past)) → In v p x f → (v.files f).safe ≡ true
  act_ready o p x f lock temp lv z leads = elim (once_case o r s a m past z) [
    | inl y ↦ synced (did_step y.1.0) (did_answer y.1.0) leads
    | inr y ↦ (let old = old_temp o p x f lock temp (was_made y) leads in (keeps f (under p x f old)).1 (i.ready o p x f lock temp lv y old))
  ]
    where
      was_made : {deeds : List Deed} → WasSynced p x deeds → WasMade p x deeds
      was_made (now y) = on y.1
      was_made (on y) = on (was_made y)

      at_once : In w p x f → (file_after w (step.SyncFile p x) f).safe ≡ true
      at_once e = rw (e, num_itself f) refl

      synced : s ≡ step.SyncFile p x → a ≡ Done → In v p x f → (v.files f).safe ≡ true
      synced es ea = let f3 = next_fits w r s a m nx (λ e. cc (e, ea)) in
          as_made (λ ds fs. now_in (ds p) x ≡ Some f → (fs f).safe ≡ true) es f3.2 at_once

  old_held : (o : ℕ) (p : Place) (x : List ℕ) (f : ℕ) (b : List ℕ) → IsLockable p → is_held_of o (kind_of x) ≡ true → HasNoneOf start o → HasReadHeld p x b (own o past) → In v p x f → In w p x f
  old_held o p x f b lock held none z leads = elim (arrives w.next_file v.next_file (ComesTo s a p) (w.directories p) x f (goes p) leads) [
    | inl y ↦ y
    | inr y ↦ (let h = held_target r (own r past) s p x lock careful (is_held_any o x held) y.0 in
        let ro : r ≡ o = is_held_run r o x (is_taking_held r h.number x h.taking) held in
        let fr = i.fresh p r h.number x lock h.taking (subst (λ (k : ℕ). HasNoneOf start k) (sym ro) none p x (held_owned r x (is_taking_held r h.number x h.taking))) h.fresh
        (λ u. h.unfailed (once_map (λ d older e. ap (λ k. k.answer) e) u)) in
        absurd (fr.unread b (subst (λ (k : ℕ). HasReadHeld p x b (own k past)) (sym ro) z)))
  ]

  act_read : (o : ℕ) (p : Place) (x : List ℕ) (f : ℕ) (b : List ℕ) → IsLockable p → is_held_of o (kind_of x) ≡ true → IsLive o w → HasNoneOf start o → HasReadHeld p x b (own o (Act r s a m ∷ past)) → In v p x f → (v.files f).bytes ≡ b
  act_read o p x f b lock held lv none z leads = elim (once_case o r s a m past z) [
    | inl y ↦ just y.1.0 (did_step y.1.1) (did_answer y.1.1) leads
    | inr y ↦ (let old = old_held o p x f b lock held none y leads in (keeps f (under p x f old)).0 ∙ i.read o p x f b lock held lv none y old)
  ]
    where
      just : (limit : ℕ) → s ≡ step.Read p x limit → a ≡ Content b → In v p x f → (v.files f).bytes ≡ b
      just limit es ea = let f3 = next_fits w r s a m nx (λ e. cc (e, ea)) in
          let g = read_gives w p x limit b (fits_as w r s (step.Read p x limit) a (Content b) es ea f3.1) in
          as_made (λ ds fs. now_in (ds p) x ≡ Some f → (fs f).bytes ≡ b) es f3.2 (λ l. let e : g.0 ≡ f = cc (g.1, l) in rw e at g.2)

  act_gave : (o : ℕ) (p : Place) (h : List ℕ) → is_held (kind_of h) ≡ true → IsLive o w → WasGiven p h (own o (Act r s a m ∷ past)) → IsSpent start p h (Act r s a m ∷ past)
  act_gave o p h held lv z = elim (once_case o r s a m past z) [
    | inl y ↦ just y.1.0 (did_step y.1.1) (did_answer y.1.1) y.1.2
    | inr y ↦ on tt (i.gave o p h held lv y)
  ]
    where
      just : (n : List ℕ) → s ≡ step.Link p h n → a ≡ Done → is_number (kind_of n) ≡ true → IsSpent start p h (Act r s a m ∷ past)
      just n es ea number = let f3 = next_fits w r s a m nx (λ e. cc (e, ea)) in
          let z = link_done (now_in (w.directories p) h) (now_in (w.directories p) n) (fits_as w r s (step.Link p h n) a Done es ea f3.1) in
          subst (λ (t : After). IsSpent start p h (Act r s a t ∷ past)) (sym f3.2) (subst (λ (t : Step). IsSpent start p h (Act r t a Made ∷ past)) (sym es) (now held number z.0.1 z.1))

  act_cleared : (o : ℕ) (p : Place) (h : List ℕ) → is_held (kind_of h) ≡ true → IsLive o w → WasGivenAway p h (own o (Act r s a m ∷ past)) → IsClear start p h (Act r s a m ∷ past)
  act_cleared o p h held lv z = elim (once_case o r s a m past z) [
    | inl y ↦ just (did_step y.1.0) (did_answer y.1.0) (subst (λ (k : ℕ). WasGiven p h (own k past)) refl y.1.1)
    | inr y ↦ on tt (i.cleared o p h held lv y)
  ]
    where
      just : s ≡ step.SyncFolder p → a ≡ Done → WasGiven p h (own o past) → IsClear start p h (Act r s a m ∷ past)
      just es ea g = let f3 = next_fits w r s a m nx (λ e. cc (e, ea)) in
          subst (λ (t : After). IsClear start p h (Act r s a t ∷ past)) (sym f3.2) (subst (λ (t : Step). IsClear start p h (Act r t a Made ∷ past)) (sym es) (now (i.gave o p h held lv g)))

  safe_on : (f : ℕ) (b : List ℕ) → IsSafeAs w f b → IsSafeAs v f b
  safe_on f b z = record { there = (let l = left_grows w s m in let t = z.there in omega arith); safe = (keeps f z.there).1 z.safe; bytes = (keeps f z.there).0 ∙ z.bytes }

  act_put : (p : Place) (f : ℕ) (b : List ℕ) → WasPut start p f b (Act r s a m ∷ past) → IsSafeAs v f b
  act_put p f b z = safe_on f b (elim (put_case z) [
    | inl y ↦ (let f3 = next_fits w r s a m nx (λ e. cc (e, y.3)) in
        let k = put_ready r (own r past) p y.0 y.1 (subst (λ (t : Step). Cares r (own r past) t) y.2 careful (folder_lock p y.8)) y.4 y.5 in
        record { there = under p y.0 f y.6; safe = i.ready r p y.0 f (folder_lock p y.8) k.0 f3.0 k.1 y.6; bytes = y.7 })
    | inr y ↦ i.put p f b y
  ])

  act_ever : (p : Place) (f : ℕ) (b : List ℕ) → HasBeenPut start p f b (Act r s a m ∷ past) → IsSafeAs v f b
  act_ever p f b z = safe_on f b (elim (ever_case z) [
    | inl y ↦ (let f3 = next_fits w r s a m nx (λ e. cc (e, y.3)) in
        let k = put_ready r (own r past) p y.0 y.1 (subst (λ (t : Step). Cares r (own r past) t) y.2 careful (folder_lock p y.8)) (is_temp_any r y.0 y.4) y.5 in
        record { there = under p y.0 f y.6; safe = i.ready r p y.0 f (folder_lock p y.8) k.0 f3.0 k.1 y.6; bytes = i.temps r p y.0 f b (folder_lock p y.8) y.4 f3.0 y.7 y.6 })
    | inr y ↦ i.ever p f b y
  ])

  act_durable : (p : Place) (f : ℕ) (b : List ℕ) → IsDurable start p f b (Act r s a m ∷ past) → IsSafeAs v f b
  act_durable p f b z = safe_on f b (elim (durable_case z) [ inl y ↦ i.put p f b y.2 | inr y ↦ i.durable p f b y ])

  act_since : (o : ℕ) (p : Place) (h b : List ℕ) (q : Place) (g : ℕ) (c : List ℕ) → IsLive o w → Annotates b c → WasPutSince start o p h b q g c (Act r s a m ∷ past)
      → IsDurable start q g c (Act r s a m ∷ past) ⊎ (IsUnsynced o p h q (own o (Act r s a m ∷ past)) × WasPut start q g c (Act r s a m ∷ past))
  act_since o p h b q g c lv lines z = elim (since_case z) [
    | inl y ↦ inr (just y.0 y.1 y.2 y.3 y.4 y.5 y.6 y.7 y.9, put y.0 y.1 y.3 y.4 y.9 (is_temp_any o y.0 y.5) y.6 (i.temps o q y.0 g c (folder_lock q y.9) y.5 lv (made_created y.7) y.8) y.8)
    | inr y ↦ elim (i.since o p h b q g c lv lines y) [
      | inl k ↦ inl (on k)
      | inr k ↦ further k.0 k.1
    ]
  ]
    where
      copied : {t : List ℕ} {deeds : List Deed} → HasMadeSince p h b q t c deeds → WasCopiedFrom p h q t deeds
      copied k = once_map (λ d older e. (c, e.0, once_map (λ d older f. (b, f, lines)) e.1)) k

      just : (t n : List ℕ) → r ≡ o → s ≡ step.Link q t n → a ≡ Done → is_temp_of o (kind_of t) ≡ true → is_number (kind_of n) ≡ true → HasMadeSince p h b q t c (own o past) → is_folder q ≡ true → IsUnsynced o p h q (own o (Act r s a m ∷ past))
      just t n er es ea temp number k folder = subst (λ (z : ℕ). IsUnsynced o p h q (own o (Act z s a m ∷ past))) (sym er)
          (rw (own_mine o s a m past) (last (t, (n, did_both es ea, temp, number, folder), copied k)))

      put : (t n : List ℕ) → s ≡ step.Link q t n → a ≡ Done → is_folder q ≡ true → is_temp (kind_of t) ≡ true → is_number (kind_of n) ≡ true → (w.files g).bytes ≡ c → In w q t g → WasPut start q g c (Act r s a m ∷ past)
      put t n es ea folder temp number bytes leads =
          subst (λ (z : Step). WasPut start q g c (Act r z a m ∷ past)) (sym es) (subst (λ (z : Answer). WasPut start q g c (Act r (step.Link q t n) z m ∷ past)) (sym ea) (now folder temp number leads bytes))

      further : IsUnsynced o p h q (own o past) → WasPut start q g c past
          → IsDurable start q g c (Act r s a m ∷ past) ⊎ (IsUnsynced o p h q (own o (Act r s a m ∷ past)) × WasPut start q g c (Act r s a m ∷ past))
      further u pt = elim (same_sync q s a) [
        | inl e ↦ inl (subst (λ (t : Step). IsDurable start q g c (Act r t a m ∷ past)) (sym e.0) (subst (λ (t : Answer). IsDurable start q g c (Act r (step.SyncFolder q) t m ∷ past)) (sym e.1) (now pt)))
        | inr n ↦ inr (elim (own_case o r s a m past) [ inl e ↦ rw e.1 (still n u) | inr e ↦ rw e u ], on tt pt)
      ]

  act_older_temp : (o : ℕ) (p : Place) (x : List ℕ) (q : Place) (t : List ℕ) (f g : ℕ) (b c : List ℕ) → IsLockable p → IsLockable q → is_held_of o (kind_of x) ≡ true → is_temp_of o (kind_of t) ≡ true → IsLive o w → HasNoneOf start o
      → HasMadeSince p x b q t c (own o (Act r s a m ∷ past)) → In v q t g → In v p x f → f < g
  act_older_temp o p x q t f g b c lock lock_q held temp lv none z leads_t leads_x = elim (once_case o r s a m past z) [
    | inl y ↦ just (did_step y.1.0) (did_answer y.1.0) (old_held o p x f b lock held none y.1.1 leads_x)
    | inr y ↦ i.older_temp o p x q t f g b c lock lock_q held temp lv none y (old_created o q t g c lock_q temp (made_created y) leads_t) (old_held o p x f b lock held none (made_read y) leads_x)
  ]
    where
      just : s ≡ step.Create q t c → a ≡ Done → In w p x f → f < g
      just es ea old = let f3 = next_fits w r s a m nx (λ e. cc (e, ea)) in
          let there = subst (λ (z : Step). now_in (directory_after w z q) t ≡ Some g) es (subst (λ (z : After). now_in (left_directory w s z q) t ≡ Some g) f3.2 leads_t) in
          let e : w.next_file ≡ g = cc (created_leads w r q t c (fits_as w r s (step.Create q t c) a Done es ea f3.1), there) in
          let l : f < w.next_file = under p x f old in
          omega arith

  act_older_put : (o : ℕ) (p : Place) (x : List ℕ) (q : Place) (f g : ℕ) (b c : List ℕ) → IsLockable p → is_held_of o (kind_of x) ≡ true → IsLive o w → HasNoneOf start o
      → WasPutSince start o p x b q g c (Act r s a m ∷ past) → In v p x f → f < g
  act_older_put o p x q f g b c lock held lv none z leads = elim (since_case z) [
    | inl y ↦ i.older_temp o p x q y.0 f g b c lock (folder_lock q y.9) held y.5 lv none y.7 y.8 (old_held o p x f b lock held none (made_read y.7) leads)
    | inr y ↦ i.older_put o p x q f g b c lock held lv none y (old_held o p x f b lock held none (since_read o past y) leads)
  ]

given_now : (start : World) (past : List Event) (r : ℕ) (s : Step) (a : Answer) → Cares r (own r past) s → IsLive r (world_after start past) → (a ≡ Failed) ⊎ Fits (world_after start past) r s a
    → Inv start past → HasNoneOf start r → Given start past r s a
given_now start past r s a careful lv answer i none = record {
  lives = lv;
  answer = answer;
  cleared = λ p h held d. i.cleared r p h held lv d;
  unseen = λ p n h lock e taking. (let t = held_target r (own r past) s p h lock careful (is_held_any r h (is_taking_held r n h taking)) (subst (λ (z : Step). IsTarget z p h) (sym e) (refl, refl)) in
      let fr = i.fresh p r t.number h lock t.taking (none p h (held_owned r h (is_taking_held r n h taking))) t.fresh (λ u. t.unfailed (once_map (λ d older e. ap (λ k. k.answer) e) u)) in (fr.unseen, fr.unspent));
}

torn_holds : (start : World) (past : List Event) (r : ℕ) (s : Step) (b : List ℕ) → Cares r (own r past) s → MayLeave s (Torn b) → (p : Place) → IsLockable p → Holds start p ((world_after start past).directories p) past
    → Holds start p (directory_after (world_after start past) (torn s b) p) (Act r s Failed (Torn b) ∷ past)
torn_holds start past r (step.Create q n c) b careful may p lock h = go (same_place q p) refl
  where
    go : (v : Bool) → same_place q p ≡ v → Holds start p (if v then with_created ((world_after start past).directories p) n (world_after start past).next_file else (world_after start past).directories p) (Act r (step.Create q n c) Failed (Torn b) ∷ past)
    go true e = calm_holds start p ((world_after start past).directories p) _ (Act r (step.Create q n c) Failed (Torn b)) past (plain_news start p r (step.Create q n c) Failed (Torn b) past (λ y n is z. cc (z)) (λ z. cc (z)))
        (calm_create ((world_after start past).directories p) n (world_after start past).next_file (is_temp_quiet n (is_temp_any r n (careful_create r (own r past) q n c (careful (place_lock (place_same q p e) lock))).1.0))) h
    go false e = calm_holds start p ((world_after start past).directories p) _ (Act r (step.Create q n c) Failed (Torn b)) past (plain_news start p r (step.Create q n c) Failed (Torn b) past (λ y n is z. cc (z)) (λ z. cc (z))) (calm_same _) h
torn_holds start past r s b careful may p lock h = absurd may

holds_next : (start : World) (past : List Event) (r : ℕ) (s : Step) (a : Answer) (m : After) → Cares r (own r past) s → IsNext (world_after start past) r s a m → Inv start past → HasNoneOf start r
    → (p : Place) → IsLockable p → Holds start p (left_directory (world_after start past) s m p) (Act r s a m ∷ past)
holds_next start past r s a m careful (answered _ lv fits) i none p lock = step_holds start past r s a careful (given_now start past r s a careful lv (inr fits) i none) p lock (i.holds p lock)
holds_next start past r s a m careful (failed Before lv may) i none p lock = calm_holds start p ((world_after start past).directories p) _ (Act r s Failed Before) past (idle_news start p r s past) (calm_same _) (i.holds p lock)
holds_next start past r s a m careful (failed Made lv may) i none p lock = step_holds start past r s Failed careful (given_now start past r s Failed careful lv (inl refl) i none) p lock (i.holds p lock)
holds_next start past r s a m careful (failed (Torn b) lv may) i none p lock = torn_holds start past r s b careful may p lock (i.holds p lock)
holds_next start past r s a m careful (refused d) i none p lock = calm_holds start p ((world_after start past).directories p) _ (Act r s Failed Before) past (idle_news start p r s past) (calm_same _) (i.holds p lock)

inv_left : (start : World) (past : List Event) (r : ℕ) (s : Step) (a : Answer) (m : After) → Cares r (own r past) s → IsNext (world_after start past) r s a m → HasNoneOf start r → Inv start past
    → InvAt start (Act r s a m ∷ past) (left (world_after start past) r s a m)
inv_left start past r s a m careful nx none i = record {
  below = act_below start past r s a m careful nx i;
  fresh = act_fresh start past r s a m careful nx i;
  fresh_temp = act_fresh_temp start past r s a m careful nx i;
  temps = act_temps start past r s a m careful nx i;
  ready = act_ready start past r s a m careful nx i;
  read = act_read start past r s a m careful nx i;
  gave = act_gave start past r s a m careful nx i;
  cleared = act_cleared start past r s a m careful nx i;
  put = act_put start past r s a m careful nx i;
  durable = act_durable start past r s a m careful nx i;
  ever = act_ever start past r s a m careful nx i;
  since = act_since start past r s a m careful nx i;
  older_temp = act_older_temp start past r s a m careful nx i;
  older_put = act_older_put start past r s a m careful nx i;
  holds = holds_next start past r s a m careful nx i none;
}

-- each act keeps the invariant
pub inv_act : (start : World) (past : List Event) (r : ℕ) (s : Step) (a : Answer) (m : After) → Cares r (own r past) s → IsNext (world_after start past) r s a m → HasNoneOf start r → Inv start past
    → Inv start (Act r s a m ∷ past)
inv_act start past r s a m careful nx none i =
    subst (λ (z : WorldMap). InvAt start (Act r s a m ∷ past) z) (sym (world_next start r s a m past nx)) (inv_left start past r s a m careful nx none i)
