-- Each step that minds the marks keeps them sound.
use Rattle.std.proofs.Common.{◌≡◌, ℕ, ◌<◌, Bool, true, false, ◌==◌, ◌⊎◌, inl, inr, List, [], ◌∷◌, Option, Some, None, is_some, refl, sym, ◌∙◌, ap, subst, arith, bytes_eq, if◌then◌else◌}
use Rattle.mh_base.specs.Entries.{kind_of}
use Rattle.mh_base.specs.declared.entry.Entry.{Entry}
use Rattle.mh_base.specs.declared.entry.Entry.TheVariants.{Number, Held}
use Rattle.step_plans.proofs.Past.{folder_lock}
use Rattle.folder_files.specs.Careful.{WasCopiedFrom}
use Rattle.folder_files.specs.Deeds.{Deed, WasDone}
use Rattle.folder_files.specs.Directory.{Slots, DirectoryMap, after_change, now_in}
use Rattle.folder_files.specs.Histories.{world_after, own, IsLive, IsLockable}
use Rattle.folder_files.specs.Named.{is_committed, is_number, is_held, is_held_of, is_temp, is_temp_of, is_hold_of, is_taking, is_backing_up}
use Rattle.folder_files.specs.Places.{is_folder}
use Rattle.folder_files.specs.Steps.{linked, with_linked, with_renamed, with_unlinked, changed_if, directory_after, MayLeave}
use Rattle.folder_files.specs.Worlds.{WorldMap}
use Rattle.folder_files.specs.declared.event.After.{After}
use Rattle.folder_files.specs.declared.event.After.TheVariants.{Before, Made, Torn}
use Rattle.folder_files.specs.declared.event.Event.{Event}
use Rattle.folder_files.specs.declared.event.Event.TheVariants.{Act}
use Rattle.folder_files.specs.declared.place.Place.{Place}
use Rattle.folder_files.specs.declared.step.Answer.{Answer}
use Rattle.folder_files.specs.declared.step.Answer.TheVariants.{Failed}
use Rattle.folder_files.specs.declared.step.Step.{Step}
use Rattle.folder_files.specs.declared.step.Step.TheVariants as step
use Rattle.folder_files.specs.declared.world.Change.TheVariants.{Gone, Moved}
use Rattle.folder_files.specs.declared.world.World.{World}
use Rattle.step_plans.specs.Commits.{text_of, text_at, IsBase}
use Rattle.step_plans.specs.Moments.{live}
use Rattle.folder_files.specs.Standing.{is_standing, is_own}
use Rattle.folder_files.proofs.Kinding.{MayRename}
use Rattle.folder_files.proofs.Sameness.{place_is}
use Rattle.folder_files.proofs.Names.{num_same, num_itself, both, not_both, or_left, is_number_unheld, is_committed_unown, bytes_self, bytes_true, bytes_false, is_temp_any, is_held_any, is_temp_quiet, is_taking_held, is_backing_quiet, is_committed_quiet, held_stands}
use Rattle.folder_files.proofs.Changes.{now_below}
use Rattle.folder_files.proofs.Effects.{IsNext, answered, failed, refused, left, left_directory, left_keeps}
use Rattle.step_plans.proofs.Inv.{Inv}
use Rattle.step_plans.proofs.Discipline.{careful_create, careful_rename, Cares, place_lock, committed_lock}
use Rattle.step_plans.proofs.Committing.{commit_of, apart_own, temp_own, backup_uncommitted, left_spares, spares_now}
use Rattle.step_plans.proofs.Law.{may_made}
use Rattle.marks_law.specs.Heirs.{IsHeir, Descends, now, on, itself, further}
use Rattle.marks_law.specs.Bearers.{Marking, in_folder, marks, Bears, set, kept, on}
use Rattle.marks_law.specs.Sound.{IsSound, IsOwn}
use Rattle.marks_law.specs.Minding.{Touches, Sees, SeesNoneHeld, Knowing, by_base, KeepsMarks, AreAllThere, Minds, keeps, replaces, makes, clears, plain, copies, gives_back, gives_above, takes_plain, takes_unmarked, takes_alone, takes_free, backs_up, removes, backs_up_plain, removes_plain, lets_go, commits}
use Rattle.marks_law.proofs.Sounding.{number_name, number_held, absent, sound_marked, sound_set, sound_let_go, sound_removed, sound_removed_plain, sound_taken_plain, sound_taken_alone}
use Rattle.marks_law.proofs.Seeing.{left_untouched}

-- what descends goes on to descend
pub descends_on : (start : World) (p : Place) (f : ℕ) (e : Event) (past : List Event) {q : Place} {g : ℕ} → Descends start p f past q g → Descends start p f (e ∷ past) q g
descends_on start p f e past itself = itself
descends_on start p f e past (further d h) = further (descends_on start p f e past d) (on h)

pub own_on : (start : World) (k : Marking) (e : Event) (past : List Event) (o : Option ℕ) (n g : ℕ) → IsOwn start k past o n g → IsOwn start k (e ∷ past) o n g
own_on start k e past o n g z = (z.0, z.1, z.2, on z.3, descends_on start k.folder z.1 e past z.4)

pub some_of : (u : Option ℕ) → is_some u ≡ true → (f : ℕ) × (u ≡ Some f)
some_of (Some f) e = (f, refl)
some_of None e = absurd (cc (e))

none_of : (u : Option ℕ) → is_some u ≡ false → u ≡ None
none_of (Some f) e = absurd (cc (e))
none_of None e = refl

hold_is : (r n : ℕ) (h : Entry) → is_hold_of r n h ≡ true → h ≡ Held r n
hold_is r n (Held o m) t = let z = both (o == r) (m == n) t in λ i. Held (num_same o r z.0 i) (num_same m n z.1 i)
hold_is r n _ t = absurd (cc (t))

taking_is : (r : ℕ) (e h : Entry) → is_taking r e h ≡ true → (n : ℕ) × (e ≡ Number n) × (h ≡ Held r n)
taking_is r (Number n) h t = (n, refl, hold_is r n h t)
taking_is r _ h t = absurd (cc (t))

number_same : {n j : ℕ} → Number n ≡ Number j → n ≡ j
number_same e = cc (e)

committed_no_temp : (p : Place) (x : List ℕ) → is_committed p x ≡ true → is_temp (kind_of x) ≡ true → ⊥
committed_no_temp p x c t = not_both (is_own x) (or_left (is_temp (kind_of x)) (is_held (kind_of x)) t) (is_committed_unown p x c)

-- a name after an unlink
unlinked_one : (d : DirectoryMap) (y z : List ℕ) → (now_in (with_unlinked d y) z ≡ now_in d z) ⊎ (now_in (with_unlinked d y) z ≡ None)
unlinked_one d y z = go (now_in d y) (bytes_eq y z) refl
  where
    go : (u : Option ℕ) (v : Bool) → bytes_eq y z ≡ v → (now_in (changed_if d (Gone y) u) z ≡ now_in d z) ⊎ (now_in (changed_if d (Gone y) u) z ≡ None)
    go None v e = inl refl
    go (Some f) true e = inr (rw e refl)
    go (Some f) false e = inl (rw e refl)

-- and after a rename to another
renamed_one : (d : DirectoryMap) (y b z : List ℕ) → bytes_eq b z ≡ false → (now_in (with_renamed d y b) z ≡ now_in d z) ⊎ (now_in (with_renamed d y b) z ≡ None)
renamed_one d y b z apart = go (bytes_eq y b) (now_in d y) (bytes_eq y z) refl
  where
    go : (t : Bool) (u : Option ℕ) (v : Bool) → bytes_eq y z ≡ v → (now_in (if t then d else changed_if d (Moved y b) u) z ≡ now_in d z) ⊎ (now_in (if t then d else changed_if d (Moved y b) u) z ≡ None)
    go true u v e = inl refl
    go false None v e = inl refl
    go false (Some f) true e = inr (rw (apart, e) refl)
    go false (Some f) false e = inl (rw (apart, e) refl)

module _ (start : World) (past : List Event) (r : ℕ) (s : Step) (a : Answer) (m : After) (k : Marking) (folder : is_folder k.folder ≡ true) (c : is_committed k.place k.name ≡ true) (i : Inv start past)
    (text : Option ℕ) (text_below : (b : ℕ) → text ≡ Some b → b < (world_after start past).next_file) where
  abbrev w : WorldMap
  w = world_after start past

  abbrev d : DirectoryMap
  d = w.directories k.folder

  abbrev v : WorldMap
  v = left w r s a m

  -- the marks of this text were sound before the step
  abbrev Old : Slots → Type 0
  Old t = IsSound t (marks k w text) (IsOwn start k past text)

  -- they are sound after it with these names
  abbrev New : Slots → Type 0
  New t = IsSound t (marks k v text) (IsOwn start k (Act r s a m ∷ past) text)

  marks_stay : (o : Option ℕ) → ((b : ℕ) → o ≡ Some b → b < w.next_file) → (n : ℕ) → marks k v o n ≡ marks k w o n
  marks_stay None below n = refl
  marks_stay (Some b) below n = ap (λ t. k.says t n) (left_keeps w s m b (below b refl)).0

  -- with names that stand as before
  pub later : (t u : Slots) → ((z : List ℕ) → is_standing z ≡ true → u z ≡ t z) → Old t → New u
  later t u names h = sound_marked t u (marks k w text) (marks k v text) (IsOwn start k past text) (IsOwn start k (Act r s a m ∷ past) text) names
      (λ y n e q. inl (sym (marks_stay text text_below n) ∙ q, λ g z. own_on start k (Act r s a m) past text n g z)) h

  module _ (g : Knowing) (alive : IsLive r w) (careful : Cares r (own r past) s)
      (sees : (y : List ℕ) (b : Bool) → Sees k.folder y b (own r past) → is_some (now_in d y) ≡ b)
      (known : (t : List ℕ) → g.Knows t (own r past) → (n : ℕ) → marks k w text n ≡ k.says t n) (unmarked : (n : ℕ) → g.Unmarks n (own r past) → marks k w text n ≡ false) where
    there : (y : List ℕ) → Sees k.folder y true (own r past) → (f : ℕ) × (now_in d y ≡ Some f)
    there y h = some_of (now_in d y) (sees y true h)

    away : (y : List ℕ) → Sees k.folder y false (own r past) → now_in d y ≡ None
    away y h = none_of (now_in d y) (sees y false h)

    none_held : SeesNoneHeld k.folder (own r past) → (h : List ℕ) → is_held (kind_of h) ≡ true → now_in d h ≡ None
    none_held none h is = away h (none h is)

    same_names : Old (λ z. now_in d z) → New (λ z. now_in d z)
    same_names h = later (λ z. now_in d z) (λ z. now_in d z) (λ z st. refl) h

    -- a link to a number
    link_names : (f_ y : List ℕ) (n : ℕ) → kind_of y ≡ Number n → ((f : ℕ) → now_in d f_ ≡ Some f → now_in d y ≡ None → marks k v text n ≡ true → IsOwn start k (Act r s a m ∷ past) text n f)
        → Old (λ z. now_in d z) → New (λ z. now_in (with_linked d f_ y) z)
    link_names f_ y n e own_ h = go (now_in d f_) (now_in d y) refl refl
      where
        go : (u o : Option ℕ) → now_in d f_ ≡ u → now_in d y ≡ o → New (λ z. now_in (linked d y u o) z)
        go (Some f) None l free = sound_set (λ z. now_in d z) (marks k v text) (IsOwn start k (Act r s a m ∷ past) text) y n f e free (λ q. own_ f l free q) (same_names h)
        go (Some f) (Some g) l free = same_names h
        go None o l free = same_names h

    taken_names : (y x_ : List ℕ) (n : ℕ) → kind_of y ≡ Number n → kind_of x_ ≡ Held r n → ((f : ℕ) → now_in d y ≡ Some f → New (after_change (Moved y x_) (λ z. now_in d z))) → Old (λ z. now_in d z) → New (λ z. now_in (with_renamed d y x_) z)
    taken_names y x_ n e eh taken h = go (bytes_eq y x_) refl (now_in d y) refl
      where
        go : (t : Bool) → bytes_eq y x_ ≡ t → (u : Option ℕ) → now_in d y ≡ u → New (λ z. now_in (if t then d else changed_if d (Moved y x_) u) z)
        go true q u l = absurd (number_held y x_ n r n e eh (bytes_true y x_ q))
        go false q None l = same_names h
        go false q (Some f) l = taken f l

    -- the step was made: the names afterwards, with the text as it was
    pub made_names : Minds r k g (own r past) s → Old (λ z. now_in d z) → New (λ y. now_in (directory_after w s k.folder) y)
    made_names minds h = by minds refl
      where
        names_stay : {t : Step} → s ≡ t → (z : List ℕ) → (Touches k.folder z t → ⊥) → now_in (directory_after w t k.folder) z ≡ now_in d z
        names_stay es z never = subst (λ (q : Step). now_in (directory_after w q k.folder) z ≡ now_in d z) es (left_untouched w s Made k.folder z (λ q. never (subst (λ (y : Step). Touches k.folder z y) es q)))

        NamesAfter : Step → Type 0
        NamesAfter t = New (λ y. now_in (directory_after w t k.folder) y)

        link : (f_ y : List ℕ) (n : ℕ) → s ≡ step.Link k.folder f_ y → kind_of y ≡ Number n
            → ((f : ℕ) → now_in d f_ ≡ Some f → now_in d y ≡ None → marks k v text n ≡ true → IsOwn start k (Act r s a m ∷ past) text n f) → NamesAfter (step.Link k.folder f_ y)
        link f_ y n es e own_ = rw (place_is k.folder) (link_names f_ y n e own_ h)

        heir : (f_ y x_ : List ℕ) (n f g : ℕ) → s ≡ step.Link k.folder f_ y → kind_of y ≡ Number n → kind_of x_ ≡ Held r n → WasCopiedFrom k.folder x_ k.folder f_ (own r past) → now_in d x_ ≡ Some g → now_in d f_ ≡ Some f → now_in d y ≡ None
            → IsOwn start k (Act r s a m ∷ past) text n g → IsOwn start k (Act r s a m ∷ past) text n f
        heir f_ y x_ n f g es e eh copied lg lf free z = (
          z.0,
          z.1,
          z.2,
          z.3,
          further z.4 (subst (λ (q : Step). IsHeir start k.folder g k.folder f (Act r q a m ∷ past)) (sym es)
              (now past (ap (λ (q : Entry). is_held_of r q) eh ∙ num_itself r) (ap is_number e) copied (live alive) lg lf free)),
        )

        -- a step that touches a temporary name alone, or one and a committed one
        calm : {t : Step} → s ≡ t → ((z : List ℕ) → is_standing z ≡ true → Touches k.folder z t → ⊥) → NamesAfter t
        calm {t = t} es never = later (λ z. now_in d z) (λ y. now_in (directory_after w t k.folder) y) (λ z st. names_stay es z (never z st)) h

        temp_apart : (t z : List ℕ) → is_temp (kind_of t) ≡ true → is_standing z ≡ true → t ≡ z → ⊥
        temp_apart t z is st e = not_both (is_standing t) (subst (λ y. is_standing y ≡ true) (sym e) st) (is_temp_quiet t is)

        -- a commit to a committed name of the place q
        calm_commit : (q : Place) (t x : List ℕ) → s ≡ step.Rename q t x → (q ≡ k.folder → is_committed k.folder x ≡ true) → NamesAfter (step.Rename q t x)
        calm_commit q t x es com_ = calm es never
          where
            never : (z : List ℕ) → is_standing z ≡ true → Touches k.folder z (step.Rename q t x) → ⊥
            never z st (e, y) = let may = (commit_of r (own r past) k.folder t x (com_ e) (subst (λ (b : Place). MayRename r b t x (own r past)) e (careful_rename r (own r past) q t x (subst (λ (b : Step). Cares r (own r past) b) es careful (place_lock e (folder_lock k.folder folder)))).1)).1.0 in
                elim y [ inl b ↦ temp_apart t z (is_temp_any r t may) st b | inr b ↦ not_both (is_standing z) st (subst (λ u. is_standing u ≡ false) b (is_committed_quiet k.folder x (com_ e))) ]

        -- a number that is not marked goes, while each marked number is there
        removed_plain : {t : Step} → s ≡ t → (n : ℕ) → g.Unmarks n (own r past) → AreAllThere k g (own r past)
            → ((z : List ℕ) → is_standing z ≡ true → (now_in (directory_after w t k.folder) z ≡ now_in d z) ⊎ (now_in (directory_after w t k.folder) z ≡ None))
            → ((z : List ℕ) (j : ℕ) → kind_of z ≡ Number j → (n ≡ j → ⊥) → Touches k.folder z t → ⊥) → NamesAfter t
        removed_plain {t = t} es n u all fewer others = sound_removed_plain (λ z. now_in d z) (λ z. now_in (directory_after w t k.folder) z) (marks k v text) (IsOwn start k (Act r s a m ∷ past) text) n
            (marks_stay text text_below n ∙ unmarked n u) (λ b j ej q. there b (all.2 b j ej (sym (known all.0 all.1 j) ∙ (sym (marks_stay text text_below j) ∙ q)))) fewer
            (λ z j ej apart. names_stay es z (others z j ej apart)) (same_names h)

        by : {t : Step} → Minds r k g (own r past) t → s ≡ t → NamesAfter t
        by (makes {temp = t} {bytes = b}) es = calm es (λ z st q. temp_apart t z (is_temp_any r t (careful_create r (own r past) k.folder t b (subst (λ (q : Step). Cares r (own r past) q) es careful (folder_lock k.folder folder))).1.0) st q.1)
        by (clears {temp = t} is) es = calm es (λ z st q. temp_apart t z is st q.1)
        by (plain {a = f_} {number = y} {n = n} e u) es = link f_ y n es e (λ f l free q. absurd (not_both (marks k v text n) q (marks_stay text text_below n ∙ unmarked n u)))
        by (copies {temp = f_} {number = y} {held = x_} is held copied) es = let z = taking_is r (kind_of y) (kind_of x_) is in let g = there x_ held in
            link f_ y z.0 es z.1 (λ f l free q. heir f_ y x_ z.0 f g.0 es z.1 z.2 copied g.1 l free ((same_names h).held y x_ r z.0 g.0 z.1 free q z.2 g.1))
        by (gives_back {held = x_} {number = y} {o = o} {n = n} eh e) es = link x_ y n es e (λ f l free q. (same_names h).held y x_ o n f e free q eh l)
        by (gives_above {held = x_} {number = y} {o = o} {m = j} {n = n} eh e lt none) es = link x_ y n es e
            (λ f l free q. absurd (let z = (same_names h).above x_ y o j n f eh l e free q lt in absent (away z.0 (none z.0 z.1 z.3 (let b : n < z.1 = z.5 in omega arith))) z.4))
        by (takes_plain {number = y} {held = x_} {n = n} e is u all) es = let z = taking_is r (kind_of y) (kind_of x_) is in let same : z.0 ≡ n = number_same (sym z.1 ∙ e) in
            let eh : kind_of x_ ≡ Held r n = subst (λ j. kind_of x_ ≡ Held r j) same z.2 in
            (rw (place_is k.folder) (taken_names y x_ n e eh (λ f l. sound_taken_plain (λ q. now_in d q) (marks k v text) (IsOwn start k (Act r s a m ∷ past) text) y x_ n r f e eh l (same_names h)
            (marks_stay text text_below n ∙ unmarked n u) (λ b j ej q. there b (all.2 b j ej (sym (known all.0 all.1 j) ∙ (sym (marks_stay text text_below j) ∙ q))))) h))
        by (takes_unmarked {number = y} {held = x_} {n = n} e is u all) es = let z = taking_is r (kind_of y) (kind_of x_) is in let same : z.0 ≡ n = number_same (sym z.1 ∙ e) in
            let eh : kind_of x_ ≡ Held r n = subst (λ j. kind_of x_ ≡ Held r j) same z.2 in
            (rw (place_is k.folder) (taken_names y x_ n e eh (λ f l. sound_taken_plain (λ q. now_in d q) (marks k v text) (IsOwn start k (Act r s a m ∷ past) text) y x_ n r f e eh l (same_names h)
            (marks_stay text text_below n ∙ unmarked n u) (λ b j ej q. elim (all b j ej) [ inl o ↦ absurd (not_both (marks k v text j) q (marks_stay text text_below j ∙ unmarked j o)) | inr t ↦ there b t ])) h))
        by (takes_alone {number = y} {held = x_} {n = n} e is none above) es = let z = taking_is r (kind_of y) (kind_of x_) is in let same : z.0 ≡ n = number_same (sym z.1 ∙ e) in
            let eh : kind_of x_ ≡ Held r n = subst (λ j. kind_of x_ ≡ Held r j) same z.2 in
            (rw (place_is k.folder) (taken_names y x_ n e eh (λ f l. sound_taken_alone (λ q. now_in d q) (marks k v text) (IsOwn start k (Act r s a m ∷ past) text) y x_ n r f e eh l (same_names h)
            (none_held none) (λ b j ej q lt. there b (above.2 b j ej (sym (known above.0 above.1 j) ∙ (sym (marks_stay text text_below j) ∙ q)) lt))) h))
        by (takes_free {number = y} {held = x_} {n = n} e is none above) es = let z = taking_is r (kind_of y) (kind_of x_) is in let same : z.0 ≡ n = number_same (sym z.1 ∙ e) in
            let eh : kind_of x_ ≡ Held r n = subst (λ j. kind_of x_ ≡ Held r j) same z.2 in
            (rw (place_is k.folder) (taken_names y x_ n e eh (λ f l. sound_taken_alone (λ q. now_in d q) (marks k v text) (IsOwn start k (Act r s a m ∷ past) text) y x_ n r f e eh l (same_names h)
            (none_held none) (λ b j ej q lt. elim (above b j ej lt) [ inl u ↦ absurd (not_both (marks k v text j) q (marks_stay text text_below j ∙ unmarked j u)) | inr t ↦ there b t ])) h))
        by (backs_up {number = y} {backup = b} is none) es =
            (rw (place_is k.folder) (sound_removed (λ z. now_in d z) (λ z. now_in (with_renamed d y b) z) (marks k v text) (IsOwn start k (Act r s a m ∷ past) text) (none_held none)
            (λ z st. renamed_one d y b z (bytes_false b z (λ q. not_both (is_standing z) st (subst (λ g. is_standing g ≡ false) q (is_backing_quiet y b is))))) (same_names h)))
        by (removes {number = y} is none) es =
            (rw (place_is k.folder) (sound_removed (λ z. now_in d z) (λ z. now_in (with_unlinked d y) z) (marks k v text) (IsOwn start k (Act r s a m ∷ past) text) (none_held none) (λ z st. unlinked_one d y z) (same_names h)))
        by (backs_up_plain {number = y} {backup = b} {n = n} e is u all) es = removed_plain es n u all
            (λ z st. rw (place_is k.folder) (renamed_one d y b z (bytes_false b z (λ q. not_both (is_standing z) st (subst (λ g. is_standing g ≡ false) q (is_backing_quiet y b is))))))
            (λ z j ej apart q. elim q.1 [
              | inl i ↦ apart (number_same (sym e ∙ (ap kind_of i ∙ ej)))
              | inr i ↦ not_both (is_standing z) (number_name z j ej) (subst (λ g. is_standing g ≡ false) i (is_backing_quiet y b is))
            ])
        by (removes_plain {number = y} {n = n} e u all) es = removed_plain es n u all (λ z st. rw (place_is k.folder) (unlinked_one d y z)) (λ z j ej apart q. apart (number_same (sym e ∙ (ap kind_of q.1 ∙ ej))))
        by (lets_go {held = y} is) es =
            (rw (place_is k.folder) (sound_let_go (λ z. now_in d z) (λ z. now_in (with_unlinked d y) z) (marks k v text) (IsOwn start k (Act r s a m ∷ past) text) numbers (λ z st. unlinked_one d y z) (same_names h)))
          where
            numbers : (z : List ℕ) → is_number (kind_of z) ≡ true → now_in (with_unlinked d y) z ≡ now_in d z
            numbers z st = subst (λ (q : Bool). now_in (if q then with_unlinked d y else d) z ≡ now_in d z) (place_is k.folder)
                (names_stay es z (λ q. not_both (is_held (kind_of y)) is (subst (λ g. is_held (kind_of g) ≡ false) (sym q.1) (is_number_unheld z st))))
        by (commits {temp = t} is_base wrote adds) es = calm_commit k.place t k.name es (λ e. subst (λ (b : Place). is_committed b k.name ≡ true) e c)
        by (keeps {temp = t} kept_) es = calm_commit k.place t k.name es (λ e. subst (λ (b : Place). is_committed b k.name ≡ true) e c)
        by (replaces {temp = t} {name = x} cx other) es = calm_commit k.folder t x es (λ e. cx)

-- the marks after a commit of another text, with the same names
module _ (start : World) (past : List Event) (r : ℕ) (s : Step) (a : Answer) (m : After) (k : Marking) (c : is_committed k.place k.name ≡ true) (i : Inv start past) (alive : IsLive r (world_after start past)) (careful : Cares r (own r past) s)
    (t new : List ℕ) (es : s ≡ step.Rename k.place t k.name) (wrote : WasDone (step.Create k.place t new) (own r past)) (b : ℕ) (leads : now_in ((world_after start past).directories k.place) t ≡ Some b) where
  abbrev old : Option ℕ
  old = now_in ((world_after start past).directories k.place) k.name

  commit_temp : is_temp_of r (kind_of t) ≡ true
  commit_temp = (commit_of r (own r past) k.place t k.name c (careful_rename r (own r past) k.place t k.name (subst (λ (q : Step). Cares r (own r past) q) es careful (committed_lock k.place k.name c))).1).1.0

  pub commit_bytes : ((left (world_after start past) r s a m).files b).bytes ≡ new
  commit_bytes = (left_keeps (world_after start past) s m b (now_below (world_after start past).next_file ((world_after start past).directories k.place) (i.below k.place) t b leads)).0 ∙ i.temps r k.place t b new (committed_lock k.place k.name c) commit_temp alive wrote leads

  moved_on : (n g : ℕ) → marks k (world_after start past) old n ≡ true → IsOwn start k past old n g → IsOwn start k (Act r s a m ∷ past) (Some b) n g
  moved_on n g q z = (
    b,
    z.1,
    refl,
    subst (λ (y : Step). Bears start k n z.1 b (Act r y a m ∷ past)) (sym es)
        (kept past z.0 (live alive) leads z.2 (subst (λ (o : Option ℕ). marks k (world_after start past) o n ≡ true) z.2 q) z.3),
    descends_on start k.folder z.1 (Act r s a m) past z.4,
  )

  added : (y : List ℕ) (n g : ℕ) → kind_of y ≡ Number n → marks k (world_after start past) old n ≡ false → now_in ((world_after start past).directories k.folder) y ≡ Some g → IsOwn start k (Act r s a m ∷ past) (Some b) n g
  added y n g ey q l = (b, g, refl, subst (λ (z : Step). Bears start k n g b (Act r z a m ∷ past)) (sym es) (set past (live alive) leads q (y, ey, l)), itself)

  -- each mark of the new text is one of the old, or that of a number that is there
  pub commit_sound : (u e : Slots) → ((z : List ℕ) → is_standing z ≡ true → e z ≡ u z)
      → ((y : List ℕ) (n : ℕ) → kind_of y ≡ Number n → k.says new n ≡ true → (marks k (world_after start past) old n ≡ true) ⊎ ((g : ℕ) × (u y ≡ Some g) × (now_in ((world_after start past).directories k.folder) y ≡ Some g)))
      → IsSound u (marks k (world_after start past) old) (IsOwn start k past old) → IsSound e (marks k (left (world_after start past) r s a m) (Some b)) (IsOwn start k (Act r s a m ∷ past) (Some b))
  commit_sound u e names adds h =
      sound_marked u e (marks k (world_after start past) old) (marks k (left (world_after start past) r s a m) (Some b)) (IsOwn start k past old) (IsOwn start k (Act r s a m ∷ past) (Some b)) names olds h
    where
      Choice : List ℕ → ℕ → Type 0
      Choice y n = ((marks k (world_after start past) old n ≡ true) × ((g : ℕ) → IsOwn start k past old n g → IsOwn start k (Act r s a m ∷ past) (Some b) n g)) ⊎ ((g : ℕ) × (u y ≡ Some g) × IsOwn start k (Act r s a m ∷ past) (Some b) n g)

      olds : (y : List ℕ) (n : ℕ) → kind_of y ≡ Number n → marks k (left (world_after start past) r s a m) (Some b) n ≡ true → Choice y n
      olds y n ey q = go (marks k (world_after start past) old n) refl
        where
          go : (z : Bool) → marks k (world_after start past) old n ≡ z → Choice y n
          go true z = inl (z, λ g o. moved_on n g z o)
          go false z = elim (adds y n ey (subst (λ t. k.says t n ≡ true) commit_bytes q)) [
            | inl o ↦ absurd (not_both (marks k (world_after start past) old n) o z)
            | inr o ↦ inr (o.0, o.1, added y n o.0 ey z o.2)
          ]

-- a text that marks more, and what is known of it
abbrev pub MarksMore : Marking → Knowing → List ℕ → List Deed → Type 0
MarksMore k g t deeds = (base : List ℕ) × (text : List ℕ) × g.Knows base deeds × WasDone (step.Create k.place t text) deeds
    × ((y : List ℕ) (n : ℕ) → kind_of y ≡ Number n → k.says text n ≡ true → (k.says base n ≡ true) ⊎ (Sees k.folder y true deeds × g.Steady deeds))

rename_to : {q u : Place} {a b t x : List ℕ} → step.Rename q a b ≡ step.Rename u t x → (q ≡ u) × (a ≡ t) × (b ≡ x)
rename_to e = (cc (e), cc (e), cc (e))

-- which step of a run that minds the marks is a commit of them
pub commit_minds : (r : ℕ) (k : Marking) (g : Knowing) (deeds : List Deed) (t : List ℕ) → is_folder k.folder ≡ true → is_committed k.place k.name ≡ true → {s : Step} → Minds r k g deeds s → s ≡ step.Rename k.place t k.name
    → MarksMore k g t deeds ⊎ KeepsMarks r k t deeds
commit_minds r k g deeds t folder c (takes_plain {number = y} {held = h} e is u all) es = let z = rename_to es in
    absurd (not_both (is_standing h) (held_stands h (is_held_any r h (is_taking_held r y h is))) (subst (λ b. is_standing b ≡ false) (sym z.2) (is_committed_quiet k.place k.name c)))
commit_minds r k g deeds t folder c (takes_unmarked {number = y} {held = h} e is u all) es = let z = rename_to es in
    absurd (not_both (is_standing h) (held_stands h (is_held_any r h (is_taking_held r y h is))) (subst (λ b. is_standing b ≡ false) (sym z.2) (is_committed_quiet k.place k.name c)))
commit_minds r k g deeds t folder c (takes_alone {number = y} {held = h} e is none above) es = let z = rename_to es in
    absurd (not_both (is_standing h) (held_stands h (is_held_any r h (is_taking_held r y h is))) (subst (λ b. is_standing b ≡ false) (sym z.2) (is_committed_quiet k.place k.name c)))
commit_minds r k g deeds t folder c (takes_free {number = y} {held = h} e is none above) es = let z = rename_to es in
    absurd (not_both (is_standing h) (held_stands h (is_held_any r h (is_taking_held r y h is))) (subst (λ b. is_standing b ≡ false) (sym z.2) (is_committed_quiet k.place k.name c)))
commit_minds r k g deeds t folder c (backs_up {number = y} {backup = b} is none) es = let z = rename_to es in
    absurd (backup_uncommitted k.place y k.name (subst (λ q. is_folder q ≡ true) z.0 folder) c (subst (λ q. is_backing_up (kind_of y) (kind_of q) ≡ true) z.2 is))
commit_minds r k g deeds t folder c (backs_up_plain {number = y} {backup = b} e is u all) es = let z = rename_to es in
    absurd (backup_uncommitted k.place y k.name (subst (λ q. is_folder q ≡ true) z.0 folder) c (subst (λ q. is_backing_up (kind_of y) (kind_of q) ≡ true) z.2 is))
commit_minds r k g deeds t folder c (commits {temp = u} {base = b} {text = n} known wrote adds) es = let z = rename_to es in
    inl (b, n, known, subst (λ q. WasDone (step.Create k.place q n) deeds) z.1 wrote, adds)
commit_minds r k g deeds t folder c (keeps {temp = u} h) es = let z = rename_to es in inr (subst (λ q. KeepsMarks r k q deeds) z.1 h)
commit_minds r k g deeds t folder c (replaces {temp = u} {name = x} cx other) es = let z = rename_to es in absurd (other (sym z.0) (sym z.2))
commit_minds r k g deeds t folder c makes es = absurd (cc (es))
commit_minds r k g deeds t folder c (clears is) es = absurd (cc (es))
commit_minds r k g deeds t folder c (plain e u) es = absurd (cc (es))
commit_minds r k g deeds t folder c (copies is held copied) es = absurd (cc (es))
commit_minds r k g deeds t folder c (gives_back e f) es = absurd (cc (es))
commit_minds r k g deeds t folder c (gives_above e f l n) es = absurd (cc (es))
commit_minds r k g deeds t folder c (removes is n) es = absurd (cc (es))
commit_minds r k g deeds t folder c (removes_plain e u all) es = absurd (cc (es))
commit_minds r k g deeds t folder c (lets_go is) es = absurd (cc (es))

-- a commit touches no standing name of the folder
pub commit_quiet : (r : ℕ) (k : Marking) (deeds : List Deed) (t : List ℕ) (s : Step) → is_committed k.place k.name ≡ true → Cares r deeds s → s ≡ step.Rename k.place t k.name → (z : List ℕ) → is_standing z ≡ true → Touches k.folder z s → ⊥
commit_quiet r k deeds t s c careful es z st touch = go (subst (λ (b : Step). Touches k.folder z b) es touch)
  where
    go : Touches k.folder z (step.Rename k.place t k.name) → ⊥
    go (e, y) = let may = (commit_of r deeds k.place t k.name c (careful_rename r deeds k.place t k.name (subst (λ (b : Step). Cares r deeds b) es careful (committed_lock k.place k.name c))).1).1.0 in
        elim y [ inl b ↦ not_both (is_standing t) (subst (λ u. is_standing u ≡ true) (sym b) st) (is_temp_quiet t (is_temp_any r t may)) | inr b ↦ not_both (is_standing z) st (subst (λ u. is_standing u ≡ false) b (is_committed_quiet k.place k.name c)) ]

-- the marks after an act
abbrev pub SoundNow : World → Marking → List Event → WorldMap → Type 0
SoundNow start k past w = IsSound (λ y. now_in (w.directories k.folder) y) (marks k w (now_in (w.directories k.place) k.name)) (IsOwn start k past (now_in (w.directories k.place) k.name))

-- no standing name led elsewhere, and the text is the same
pub same_sound : (start : World) (past : List Event) (r : ℕ) (s : Step) (a : Answer) (m : After) (k : Marking) → is_folder k.folder ≡ true → is_committed k.place k.name ≡ true → Inv start past
    → ((z : List ℕ) → is_standing z ≡ true → now_in (left_directory (world_after start past) s m k.folder) z ≡ now_in ((world_after start past).directories k.folder) z)
    → now_in (left_directory (world_after start past) s m k.place) k.name ≡ now_in ((world_after start past).directories k.place) k.name
    → SoundNow start k past (world_after start past) → SoundNow start k (Act r s a m ∷ past) (left (world_after start past) r s a m)
same_sound start past r s a m k folder c i names txt h =
    subst (λ (o : Option ℕ). IsSound (λ y. now_in (left_directory (world_after start past) s m k.folder) y) (marks k (left (world_after start past) r s a m) o) (IsOwn start k (Act r s a m ∷ past) o)) (sym txt)
    (later start past r s a m k folder c i (now_in ((world_after start past).directories k.place) k.name) (λ b e. now_below (world_after start past).next_file ((world_after start past).directories k.place) (i.below k.place) k.name b e)
    (λ y. now_in ((world_after start past).directories k.folder) y) (λ y. now_in (left_directory (world_after start past) s m k.folder) y) names h)

torn_quiet : (r : ℕ) (deeds : List Deed) (s : Step) (b : List ℕ) (p : Place) (z : List ℕ) → IsLockable p → MayLeave s (Torn b) → Cares r deeds s → is_temp (kind_of z) ≡ false → Touches p z s → ⊥
torn_quiet r deeds (step.Create q n g) b p z lock may careful quiet t =
    not_both (is_temp (kind_of n)) (is_temp_any r n (careful_create r deeds q n g (careful (place_lock t.0 lock))).1.0) (subst (λ y. is_temp (kind_of y) ≡ false) (sym t.1) quiet)
torn_quiet r deeds s b p z lock may careful quiet t = absurd may

not_temp : (z : List ℕ) → (is_temp (kind_of z) ≡ true → ⊥) → is_temp (kind_of z) ≡ false
not_temp z n = go (is_temp (kind_of z)) refl
  where
    go : (u : Bool) → is_temp (kind_of z) ≡ u → is_temp (kind_of z) ≡ false
    go true e = absurd (n e)
    go false e = e

-- a torn file has a temporary name
pub torn_names : (w : WorldMap) (r : ℕ) (deeds : List Deed) (s : Step) (b : List ℕ) (p : Place) → IsLockable p → MayLeave s (Torn b) → Cares r deeds s → (z : List ℕ) → is_standing z ≡ true → now_in (left_directory w s (Torn b) p) z ≡ now_in (w.directories p) z
torn_names w r deeds s b p lock may careful z st = left_untouched w s (Torn b) p z (torn_quiet r deeds s b p z lock may careful (not_temp z (λ t. not_both (is_standing z) st (is_temp_quiet z t))))

pub torn_text : (w : WorldMap) (r : ℕ) (deeds : List Deed) (s : Step) (b : List ℕ) (q : Place) (x : List ℕ) → is_committed q x ≡ true → MayLeave s (Torn b) → Cares r deeds s → now_in (left_directory w s (Torn b) q) x ≡ now_in (w.directories q) x
torn_text w r deeds s b q x c may careful = left_untouched w s (Torn b) q x (torn_quiet r deeds s b q x (committed_lock q x c) may careful (not_temp x (λ t. committed_no_temp q x c t)))

-- an act of the run that has the lock, for a public sequence
module _ (start : World) (past : List Event) (r : ℕ) (s : Step) (a : Answer) (p : Place) (x : List ℕ) (says : List ℕ → ℕ → Bool) (c : is_committed p x ≡ true) (folder : is_folder p ≡ true) (i : Inv start past)
    (alive : IsLive r (world_after start past)) (careful : Cares r (own r past) s) (silent : (n : ℕ) → says [] n ≡ false)
    (sees : (y : List ℕ) (b : Bool) → Sees p y b (own r past) → is_some (now_in ((world_after start past).directories p) y) ≡ b)
    (base : (t : List ℕ) → IsBase r p x t (own r past) → text_at (world_after start past) p x ≡ t) where
  abbrev k : Marking
  k = in_folder p x says

  abbrev before : WorldMap
  before = world_after start past

  marks_text : (o : Option ℕ) (n : ℕ) → marks k before o n ≡ says (text_of before o) n
  marks_text None n = sym (silent n)
  marks_text (Some b) n = refl

  known : (t : List ℕ) → IsBase r p x t (own r past) → (n : ℕ) → marks k before (now_in (before.directories p) x) n ≡ says t n
  known t b n = marks_text (now_in (before.directories p) x) n ∙ ap (λ y. says y n) (base t b)

  after_commit : (t : List ℕ) → s ≡ step.Rename p t x → (b : ℕ) → now_in (before.directories p) t ≡ Some b → now_in (directory_after before s p) x ≡ Some b
  after_commit t es b leads = subst (λ (q : Step). now_in (directory_after before q p) x ≡ Some b) (sym es) (rw (place_is p, apart_own p x t c (temp_own r t temp), leads) (rw (bytes_self x) leads))
    where
      temp : is_temp_of r (kind_of t) ≡ true
      temp = (commit_of r (own r past) p t x c (careful_rename r (own r past) p t x (subst (λ (q : Step). Cares r (own r past) q) es careful (committed_lock p x c))).1).1.0

  made_own : Minds r k (by_base r k) (own r past) s → SoundNow start k past before → SoundNow start k (Act r s a Made ∷ past) (left before r s a Made)
  made_own minds h = elim (left_spares before r (own r past) s Failed Made p x c careful (failed Made alive (may_made s))) [
    | inl z ↦ subst (λ (o : Option ℕ). IsSound (λ y. now_in (directory_after before s p) y) (marks k (left before r s a Made) o) (IsOwn start k (Act r s a Made ∷ past) o)) (sym (spares_now x (before.directories p) z))
        (made_names start past r s a Made k folder c i (now_in (before.directories p) x) (λ b e. now_below before.next_file (before.directories p) (i.below p) x b e) (by_base r k) alive careful sees known (λ n u. known u.0 u.1 n ∙ u.2) minds h)
    | inr z ↦ commit z.0.0 z.0.1 z.0.3.0 z.0.3.1
  ]
    where
      commit : (t : List ℕ) → s ≡ step.Rename p t x → (b : ℕ) → now_in (before.directories p) t ≡ Some b → SoundNow start k (Act r s a Made ∷ past) (left before r s a Made)
      commit t es b leads = subst (λ (o : Option ℕ). IsSound (λ y. now_in (directory_after before s p) y) (marks k (left before r s a Made) o) (IsOwn start k (Act r s a Made ∷ past) o)) (sym (after_commit t es b leads))
          (elim (commit_minds r k (by_base r k) (own r past) t folder c minds es) [
            | inl y ↦ commit_sound start past r s a Made k c i alive careful t y.1 es y.3 b leads (λ z. now_in (before.directories p) z) (λ z. now_in (directory_after before s p) z) names
                (λ z n e q. elim (y.4 z n e q) [ inl o ↦ inl (known y.0 y.2 n ∙ o) | inr o ↦ (let f = some_of (now_in (before.directories p) z) (sees z true o.0) in inr (f.0, f.1, f.1)) ]) h
            | inr y ↦ commit_sound start past r s a Made k c i alive careful t y.1 es y.3 b leads (λ z. now_in (before.directories p) z) (λ z. now_in (directory_after before s p) z) names
                (λ z n e q. inl (known y.0 y.2 n ∙ (sym (y.4 n) ∙ q))) h
          ])
        where
          names : (z : List ℕ) → is_standing z ≡ true → now_in (directory_after before s p) z ≡ now_in (before.directories p) z
          names z st = left_untouched before s Made p z (commit_quiet r k (own r past) t s c careful es z st)

pub act_own : (start : World) (past : List Event) (r : ℕ) (s : Step) (a : Answer) (m : After) (p : Place) (x : List ℕ) (says : List ℕ → ℕ → Bool) → is_committed p x ≡ true → is_folder p ≡ true → Inv start past
    → IsLive r (world_after start past) → Cares r (own r past) s → ((n : ℕ) → says [] n ≡ false)
    → ((y : List ℕ) (b : Bool) → Sees p y b (own r past) → is_some (now_in ((world_after start past).directories p) y) ≡ b)
    → ((t : List ℕ) → IsBase r p x t (own r past) → text_at (world_after start past) p x ≡ t)
    → Minds r (in_folder p x says) (by_base r (in_folder p x says)) (own r past) s → IsNext (world_after start past) r s a m
    → SoundNow start (in_folder p x says) past (world_after start past) → SoundNow start (in_folder p x says) (Act r s a m ∷ past) (left (world_after start past) r s a m)
act_own start past r s _ _ p x says c folder i alive careful silent sees base minds (answered a lv fits) h = made_own start past r s a p x says c folder i alive careful silent sees base minds h
act_own start past r s _ _ p x says c folder i alive careful silent sees base minds (failed Before lv may) h = same_sound start past r s Failed Before (in_folder p x says) folder c i (λ z st. refl) refl h
act_own start past r s _ _ p x says c folder i alive careful silent sees base minds (failed Made lv may) h = made_own start past r s Failed p x says c folder i alive careful silent sees base minds h
act_own start past r s _ _ p x says c folder i alive careful silent sees base minds (failed (Torn b) lv may) h = same_sound start past r s Failed (Torn b) (in_folder p x says) folder c i
    (torn_names (world_after start past) r (own r past) s b p (folder_lock p folder) may careful) (torn_text (world_after start past) r (own r past) s b p x c may careful) h
act_own start past r s _ _ p x says c folder i alive careful silent sees base minds (refused over) h = same_sound start past r s Failed Before (in_folder p x says) folder c i (λ z st. refl) refl h
