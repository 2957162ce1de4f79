-- Which of a run's commits are among those that count.
use Rattle.std.proofs.Common.{◌≡◌, ◌≤◌, ◌++◌, ◌==◌, ◌&&◌, ◌⊎◌, inl, inr, ℕ, zero, suc, Bool, true, false, List, [], ◌∷◌, refl, sym, ◌∙◌, ap, subst, arith, if◌then◌else◌}
use Rattle.folder_files.specs.Deeds.{Deed, HasFailed, now, on}
use Rattle.folder_files.specs.declared.place.Place.{Place}
use Rattle.folder_files.specs.declared.step.Answer.{Answer}
use Rattle.folder_files.specs.declared.step.Answer.TheVariants.{Done, Failed}
use Rattle.folder_files.specs.declared.step.Step.{Step}
use Rattle.folder_files.specs.declared.step.Step.TheVariants as step
use Rattle.folder_files.proofs.Names.{not_both, num_same, num_apart, num_itself}
use Rattle.step_plans.proofs.Past.{once_none}
use Rattle.commit_fold.specs.Counting.{Commit, commit, is_done, commits, done_in, turns_of, below, AreSynced}
use Rattle.commit_fold.specs.Folding.{HasFront, HasWhole}

turns_append : (r : ℕ) (xs ys : List Commit) → turns_of r (xs ++ ys) ≡ turns_of r xs ++ turns_of r ys
turns_append r [] ys = refl
turns_append r (c ∷ xs) ys = go (c.run == r) (turns_append r xs ys)
  where
    go : (v : Bool) → turns_of r (xs ++ ys) ≡ turns_of r xs ++ turns_of r ys
        → (if v then c.turn ∷ turns_of r (xs ++ ys) else turns_of r (xs ++ ys)) ≡ (if v then c.turn ∷ turns_of r xs else turns_of r xs) ++ turns_of r ys
    go true e = ap (λ z. c.turn ∷ z) e
    go false e = e

turns_three : (r : ℕ) (xs ys zs : List Commit) → turns_of r ((xs ++ ys) ++ zs) ≡ turns_of r xs ++ turns_of r (ys ++ zs)
turns_three r [] ys zs = refl
turns_three r (c ∷ xs) ys zs = go (c.run == r) (turns_three r xs ys zs)
  where
    go : (v : Bool) → turns_of r ((xs ++ ys) ++ zs) ≡ turns_of r xs ++ turns_of r (ys ++ zs)
        → (if v then c.turn ∷ turns_of r ((xs ++ ys) ++ zs) else turns_of r ((xs ++ ys) ++ zs)) ≡ (if v then c.turn ∷ turns_of r xs else turns_of r xs) ++ turns_of r (ys ++ zs)
    go true e = ap (λ z. c.turn ∷ z) e
    go false e = e

suffix_below : (xs ys : List ℕ) (n : ℕ) → xs ++ ys ≡ below n → (i : ℕ) × (ys ≡ below i) × (i ≤ n)
suffix_below [] ys n e = (n, e, omega arith)
suffix_below (x ∷ xs) ys zero e = absurd (cc (e))
suffix_below (x ∷ xs) ys (suc n) e = let z = suffix_below xs ys n (cc (e)) in (z.0, z.1, (let l = z.2 in omega arith))

append_none : (xs ys : List ℕ) → xs ++ ys ≡ [] → ys ≡ []
append_none [] ys e = e
append_none (x ∷ xs) ys e = absurd (cc (e))

front_same : (p : Place) (x : List ℕ) (r : ℕ) (cs : List Commit) (ds es : List Deed) → done_in p x es ≡ done_in p x ds → (HasFailed ds → HasFailed es) → HasFront p x ds r cs → HasFront p x es r cs
front_same p x r cs ds es same fails z = (z.0, z.1, elim (z.2) [ inl l ↦ inl (rw same l) | inr l ↦ inr (rw same l.0, fails l.1) ])

front_none : (p : Place) (x : List ℕ) (r : ℕ) (cs : List Commit) → HasFront p x [] r cs → HasWhole p x [] r cs
front_none p x r cs z = go z.0 z.1 (elim (z.2) [ inl l ↦ l | inr l ↦ absurd (once_none l.1) ])
  where
    go : (n : ℕ) → turns_of r cs ≡ below n → n ≤ 0 → turns_of r cs ≡ below 0
    go zero e l = e
    go (suc n) e l = absurd (omega arith)

pub record Turns (p : Place) (x : List ℕ) (deeds : ℕ → List Deed) (lives : ℕ → Type 0) (loose firm : List Commit) : Type 0 where
  pub front : (r : ℕ) → HasFront p x (deeds r) r (loose ++ firm)
  pub exact : (r : ℕ) → lives r → (HasFailed (deeds r) → ⊥) → HasWhole p x (deeds r) r (loose ++ firm)
  pub whole : (r : ℕ) → (HasFailed (deeds r) → ⊥) → AreSynced p x (deeds r) → HasWhole p x (deeds r) r firm × (turns_of r loose ≡ [])

pub turns_start : (p : Place) (x : List ℕ) (deeds : ℕ → List Deed) (lives : ℕ → Type 0) → ((r : ℕ) → deeds r ≡ []) → Turns p x deeds lives [] []
turns_start p x deeds lives none = record {
  front = λ r. subst (λ (ds : List Deed). HasFront p x ds r []) (sym (none r)) (0, refl, inl (omega arith));
  exact = λ r lv f. subst (λ (ds : List Deed). HasWhole p x ds r []) (sym (none r)) refl;
  whole = λ r f s. (subst (λ (ds : List Deed). HasWhole p x ds r []) (sym (none r)) refl, refl);
}

-- the same deeds, and fewer live runs
pub turns_stay : (p : Place) (x : List ℕ) (deeds later : ℕ → List Deed) (lives live_later : ℕ → Type 0) (loose firm : List Commit) → ((r : ℕ) → later r ≡ deeds r) → ((r : ℕ) → live_later r → lives r)
    → Turns p x deeds lives loose firm → Turns p x later live_later loose firm
turns_stay p x deeds later lives live_later loose firm same back t = record {
  front = λ r. subst (λ (ds : List Deed). HasFront p x ds r (loose ++ firm)) (sym (same r)) (t.front r);
  exact = λ r lv f. subst (λ (ds : List Deed). HasWhole p x ds r (loose ++ firm)) (sym (same r)) (t.exact r (back r lv) (subst (λ (ds : List Deed). HasFailed ds → ⊥) (same r) f));
  whole = λ r f s. subst (λ (ds : List Deed). HasWhole p x ds r firm × (turns_of r loose ≡ [])) (sym (same r))
      (t.whole r (subst (λ (ds : List Deed). HasFailed ds → ⊥) (same r) f) (subst (λ (ds : List Deed). AreSynced p x ds) (same r) s));
}

-- a crash takes back some of the newest
pub turns_cut : (p : Place) (x : List ℕ) (deeds : ℕ → List Deed) (lives live_later : ℕ → Type 0) (loose firm newer older : List Commit) → loose ≡ newer ++ older → ((r : ℕ) → live_later r → deeds r ≡ [])
    → Turns p x deeds lives loose firm → Turns p x deeds live_later [] (older ++ firm)
turns_cut p x deeds lives live_later loose firm newer older e none t = record { front = fronts; exact = λ r lv f. exacts r (none r lv); whole = wholes }
  where
    fronts : (r : ℕ) → HasFront p x (deeds r) r (older ++ firm)
    fronts r = let z = t.front r in
        let k = suffix_below (turns_of r newer) (turns_of r (older ++ firm)) z.0 (sym (turns_three r newer older firm) ∙ (sym (ap (λ l. turns_of r (l ++ firm)) e) ∙ z.1)) in
        let lk = k.2 in (k.0, k.1, elim (z.2) [ inl l ↦ inl (omega arith) | inr l ↦ inr ((let u = l.0 in omega arith), l.1) ])

    exacts : (r : ℕ) → deeds r ≡ [] → HasWhole p x (deeds r) r (older ++ firm)
    exacts r n = subst (λ (ds : List Deed). HasWhole p x ds r (older ++ firm)) (sym n) (front_none p x r (older ++ firm) (subst (λ (ds : List Deed). HasFront p x ds r (older ++ firm)) n (fronts r)))

    wholes : (r : ℕ) → (HasFailed (deeds r) → ⊥) → AreSynced p x (deeds r) → HasWhole p x (deeds r) r (older ++ firm) × (turns_of r [] ≡ [])
    wholes r f s = let z = t.whole r f s in
        let n = append_none (turns_of r newer) (turns_of r older) (sym (turns_append r newer older) ∙ (sym (ap (turns_of r) e) ∙ z.1)) in
        (turns_append r older firm ∙ (ap (λ l. l ++ turns_of r firm) n ∙ z.0), refl)

module _ (p : Place) (x : List ℕ) (deeds later : ℕ → List Deed) (lives live_later : ℕ → Type 0) (loose firm : List Commit) (o : ℕ) (s : Step) (a : Answer)
    (mine : later o ≡ record { step = s; answer = a } ∷ deeds o) (others : (r : ℕ) → (o ≡ r → ⊥) → later r ≡ deeds r) (back : (r : ℕ) → live_later r → lives r) (t : Turns p x deeds lives loose firm) where
  abbrev d : Deed
  d = record { step = s; answer = a }

  abbrev c : Commit
  c = commit o (done_in p x (deeds o))

  each : (P : ℕ → List Deed → Type 0) → P o (d ∷ deeds o) → ((r : ℕ) → (o ≡ r → ⊥) → (o == r) ≡ false → P r (deeds r)) → (r : ℕ) → P r (later r)
  each P h k r = go (o == r) refl
    where
      go : (v : Bool) → (o == r) ≡ v → P r (later r)
      go true e = subst (λ (z : ℕ). P z (later z)) (num_same o r e) (subst (P o) (sym mine) h)
      go false e = subst (P r) (sym (others r (num_apart o r e))) (k r (num_apart o r e) e)

  same_count : (commits p x s && is_done a) ≡ false → done_in p x (d ∷ deeds o) ≡ done_in p x (deeds o)
  same_count e = rw e refl

  -- a step that is no commit of the name and no sync of its directory
  pub turns_plain : (commits p x s && is_done a) ≡ false → (s ≡ step.SyncFolder p → a ≡ Done → ⊥) → Turns p x later live_later loose firm
  turns_plain count sync = record {
    front = each (λ r ds. HasFront p x ds r (loose ++ firm)) (front_same p x o (loose ++ firm) (deeds o) (d ∷ deeds o) (same_count count) (λ f. on f) (t.front o)) (λ r n e. t.front r);
    exact = each (λ r ds. live_later r → (HasFailed ds → ⊥) → HasWhole p x ds r (loose ++ firm)) (λ lv f. t.exact o (back o lv) (λ k. f (on k)) ∙ ap below (sym (same_count count)))
        (λ r n e lv f. t.exact r (back r lv) f);
    whole = each (λ r ds. (HasFailed ds → ⊥) → AreSynced p x ds → HasWhole p x ds r firm × (turns_of r loose ≡ [])) own_whole (λ r n e f k. t.whole r f k);
  }
    where
      own_whole : (HasFailed (d ∷ deeds o) → ⊥) → AreSynced p x (d ∷ deeds o) → HasWhole p x (d ∷ deeds o) o firm × (turns_of o loose ≡ [])
      own_whole f (inl z) = absurd (sync z.0 z.1)
      own_whole f (inr z) = let k = t.whole o (λ u. f (on u)) z.1 in (k.0 ∙ ap below (sym (same_count count)), k.1)

  -- a sync of the directory
  pub turns_sync : (commits p x s && is_done a) ≡ false → lives o → Turns p x later live_later [] (loose ++ firm)
  turns_sync count alive = record {
    front = each (λ r ds. HasFront p x ds r (loose ++ firm)) (front_same p x o (loose ++ firm) (deeds o) (d ∷ deeds o) (same_count count) (λ f. on f) (t.front o)) (λ r n e. t.front r);
    exact = each (λ r ds. live_later r → (HasFailed ds → ⊥) → HasWhole p x ds r (loose ++ firm)) (λ lv f. t.exact o (back o lv) (λ k. f (on k)) ∙ ap below (sym (same_count count)))
        (λ r n e lv f. t.exact r (back r lv) f);
    whole = each (λ r ds. (HasFailed ds → ⊥) → AreSynced p x ds → HasWhole p x ds r (loose ++ firm) × (turns_of r [] ≡ []))
        (λ f k. (t.exact o alive (λ u. f (on u)) ∙ ap below (sym (same_count count)), refl))
        (λ r n e f k. (let z = t.whole r f k in turns_append r loose firm ∙ (ap (λ l. l ++ turns_of r firm) z.1 ∙ z.0), refl));
  }

  -- a commit of the name that took effect
  pub turns_commit : commits p x s ≡ true → lives o → (HasFailed (deeds o) → ⊥) → (a ≡ Done) ⊎ (a ≡ Failed) → Turns p x later live_later (commit o (done_in p x (deeds o)) ∷ loose) firm
  turns_commit is alive clean answer = record {
    front = each (λ r ds. HasFront p x ds r (c ∷ (loose ++ firm))) (suc (done_in p x (deeds o)), mine_more, bound answer) (λ r n e. (let z = t.front r in (z.0, theirs r (loose ++ firm) e ∙ z.1, z.2)));
    exact = each (λ r ds. live_later r → (HasFailed ds → ⊥) → HasWhole p x ds r (c ∷ (loose ++ firm))) (λ lv f. mine_more ∙ ap below (sym (counted f answer)))
        (λ r n e lv f. theirs r (loose ++ firm) e ∙ t.exact r (back r lv) f);
    whole = each (λ r ds. (HasFailed ds → ⊥) → AreSynced p x ds → HasWhole p x ds r firm × (turns_of r (c ∷ loose) ≡ [])) (λ f k. absurd (never k))
        (λ r n e f k. (let z = t.whole r f k in (z.0, theirs r loose e ∙ z.1)));
  }
    where
      mine_more : turns_of o (c ∷ (loose ++ firm)) ≡ below (suc (done_in p x (deeds o)))
      mine_more = rw (num_itself o) (ap (λ l. done_in p x (deeds o) ∷ l) (t.exact o alive clean))

      theirs : (r : ℕ) (cs : List Commit) → (o == r) ≡ false → turns_of r (c ∷ cs) ≡ turns_of r cs
      theirs r cs e = rw e refl

      counted_done : a ≡ Done → done_in p x (d ∷ deeds o) ≡ suc (done_in p x (deeds o))
      counted_done e = rw (is, e) refl

      counted : (HasFailed (d ∷ deeds o) → ⊥) → (a ≡ Done) ⊎ (a ≡ Failed) → done_in p x (d ∷ deeds o) ≡ suc (done_in p x (deeds o))
      counted f (inl e) = counted_done e
      counted f (inr e) = absurd (f (now e))

      counted_failed : a ≡ Failed → done_in p x (d ∷ deeds o) ≡ done_in p x (deeds o)
      counted_failed e = rw (is, e) refl

      bound : (a ≡ Done) ⊎ (a ≡ Failed) → (suc (done_in p x (deeds o)) ≤ done_in p x (d ∷ deeds o)) ⊎ ((suc (done_in p x (deeds o)) ≤ suc (done_in p x (d ∷ deeds o))) × HasFailed (d ∷ deeds o))
      bound (inl e) = inl (rw (counted_done e) (omega arith))
      bound (inr e) = inr (rw (counted_failed e) (omega arith), now e)

      never : AreSynced p x (d ∷ deeds o) → ⊥
      never (inl z) = not_both (commits p x s) is (rw z.0 refl)
      never (inr z) = not_both (commits p x s) is z.0
