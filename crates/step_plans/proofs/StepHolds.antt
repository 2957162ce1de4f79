-- Each careful step that was made keeps what should stand.
use Rattle.std.proofs.Common.{◌≡◌, ℕ, Bool, true, false, ◌||◌, ◌⊎◌, inl, inr, List, ◌∷◌, Option, Some, None, refl, sym, ap, subst, bytes_eq, if◌then◌else◌}
use Rattle.mh_base.specs.Entries.{kind_of}
use Rattle.folder_files.specs.Careful.{WasGivenAway}
use Rattle.folder_files.specs.Directory.{DirectoryMap, touches, now_in}
use Rattle.folder_files.specs.Histories.{world_after, own, IsLive, IsLockable}
use Rattle.folder_files.specs.Named.{is_number, is_held, is_taking, is_backing_up}
use Rattle.folder_files.specs.Places.{same_place, is_parent}
use Rattle.folder_files.specs.Steps.{changed, changed_if, is_created, with_created, linked, with_linked, with_renamed, with_unlinked, with_made, synced, directory_after, Fits}
use Rattle.folder_files.specs.declared.event.After.TheVariants.{Made}
use Rattle.folder_files.specs.declared.event.Event.{Event}
use Rattle.folder_files.specs.declared.event.Event.TheVariants.{Act}
use Rattle.folder_files.specs.declared.place.Place.{Place}
use Rattle.folder_files.specs.declared.step.Answer.{Answer}
use Rattle.folder_files.specs.declared.step.Answer.TheVariants.{Failed}
use Rattle.folder_files.specs.declared.step.Step.{Step}
use Rattle.folder_files.specs.declared.step.Step.TheVariants as step
use Rattle.folder_files.specs.declared.world.Change.{Change}
use Rattle.folder_files.specs.declared.world.Change.TheVariants.{Set, Gone, Moved}
use Rattle.folder_files.specs.declared.world.World.{World}
use Rattle.folder_files.proofs.Kinding.{MayLink, MayRename, MayUnlink}
use Rattle.folder_files.proofs.Sameness.{place_same, place_is}
use Rattle.step_plans.specs.Leaving.{backed_up, unlinked, now}
use Rattle.step_plans.specs.Moments.{live}
use Rattle.step_plans.specs.Spending.{IsSpent, IsClear}
use Rattle.folder_files.specs.Standing.{is_standing}
use Rattle.folder_files.proofs.Names.{not_both, or_case, bytes_true, bytes_false, number_stands, is_temp_any, is_temp_quiet, is_held_any, is_other_quiet, is_taking_number, is_taking_held, is_backing_quiet, is_committed_quiet, original_both}
use Rattle.folder_files.proofs.Changes.{IsUnseen}
use Rattle.step_plans.proofs.Holds.{Holds, Calm, calm_same, calm_change, NoNews, calm_holds, plain_news, directory_in, fill_holds, sync_holds, lose_holds, take_holds}
use Rattle.step_plans.proofs.Discipline.{Cares, place_lock, careful_create, careful_link, careful_rename, careful_unlink}

place_holds : (start : World) (p q : Place) (r : ℕ) (a : Answer) (past : List Event) (mk : Place → Step) (change : DirectoryMap → DirectoryMap)
    → (q ≡ p → Holds start p (change (directory_in start past p)) (Act r (mk p) a Made ∷ past))
    → ((q ≡ p → ⊥) → NoNews start p (Act r (mk q) a Made) past)
    → Holds start p (directory_in start past p) past
    → Holds start p (if same_place q p then change (directory_in start past p) else directory_in start past p) (Act r (mk q) a Made ∷ past)
place_holds start p q r a past mk change at_p news h = go (same_place q p) refl
  where
    go : (v : Bool) → same_place q p ≡ v → Holds start p (if v then change (directory_in start past p) else directory_in start past p) (Act r (mk q) a Made ∷ past)
    go true e = let z = place_same q p e in subst (λ (x : Place). Holds start p (change (directory_in start past p)) (Act r (mk x) a Made ∷ past)) (sym z) (at_p z)
    go false e = calm_holds start p (directory_in start past p) (directory_in start past p) (Act r (mk q) a Made) past (news (λ z. other e z)) (calm_same (directory_in start past p)) h
      where
        other : same_place q p ≡ false → q ≡ p → ⊥
        other e z = apart (subst (λ (x : Place). same_place q x ≡ false) (sym z) e)
          where
            apart : same_place q q ≡ false → ⊥
            apart e = not_both (same_place q q) (place_is q) e

-- names of other kinds are apart
quiet : (a x : List ℕ) → is_standing a ≡ false → is_standing x ≡ true → bytes_eq a x ≡ false
quiet a x n s = bytes_false a x (λ e. cc (ap (λ y. is_standing y) e, n, s))

quiet_two : (a b x : List ℕ) → is_standing a ≡ false → is_standing b ≡ false → is_standing x ≡ true → (bytes_eq a x || bytes_eq b x) ≡ false
quiet_two a b x n m s = rw (quiet a x n s, quiet b x m s) refl

only_first : (a b x : List ℕ) → is_standing b ≡ false → is_standing x ≡ true → (bytes_eq a x || bytes_eq b x) ≡ true → a ≡ x
only_first a b x n s t = elim (or_case (bytes_eq a x) (bytes_eq b x) t) [ inl e ↦ bytes_true a x e | inr e ↦ absurd (not_both (bytes_eq b x) e (quiet b x n s)) ]

pub calm_create : (d : DirectoryMap) (n : List ℕ) (f : ℕ) → is_standing n ≡ false → Calm d (with_created d n f)
calm_create d n f no_stand = go (is_created d n)
  where
    go : (v : Bool) → Calm d (if v then changed d (Set n f) else d)
    go true = calm_change d (Set n f) (λ x s. quiet n x no_stand s)
    go false = calm_same d

calm_if : (d : DirectoryMap) (c : Change) (u : Option ℕ) → ((x : List ℕ) → is_standing x ≡ true → touches c x ≡ false) → Calm d (changed_if d c u)
calm_if d c (Some f) q = calm_change d c q
calm_if d c None q = calm_same d

calm_linked : (d : DirectoryMap) (b : List ℕ) (u v : Option ℕ) → is_standing b ≡ false → Calm d (linked d b u v)
calm_linked d b (Some f) None n = calm_change d (Set b f) (λ x s. quiet b x n s)
calm_linked d b (Some f) (Some g) n = calm_same d
calm_linked d b None v n = calm_same d

calm_renamed : (d : DirectoryMap) (a b : List ℕ) → is_standing a ≡ false → is_standing b ≡ false → Calm d (with_renamed d a b)
calm_renamed d a b n m = go (bytes_eq a b)
  where
    go : (v : Bool) → Calm d (if v then d else changed_if d (Moved a b) (now_in d a))
    go true = calm_same d
    go false = calm_if d (Moved a b) (now_in d a) (λ x s. quiet_two a b x n m s)

calm_opens : (d : DirectoryMap) → Calm d (with_made d)
calm_opens d = record { leads = λ x f s h. h; anchors = λ f x y a. a }

-- what the proof needs beside the disk
pub record Given (start : World) (past : List Event) (r : ℕ) (s : Step) (a : Answer) : Type 0 where
  pub lives : IsLive r (world_after start past)
  pub answer : (a ≡ Failed) ⊎ Fits (world_after start past) r s a
  pub cleared : (p : Place) (h : List ℕ) → is_held (kind_of h) ≡ true → WasGivenAway p h (own r past) → IsClear start p h past
  pub unseen : (p : Place) (n h : List ℕ) → IsLockable p → s ≡ step.Rename p n h → is_taking r (kind_of n) (kind_of h) ≡ true → IsUnseen (directory_in start past p) h × (IsSpent start p h past → ⊥)

-- no news of an act of this kind
abbrev IsNoLink : Step → Type 0
IsNoLink (step.Link q a b) = ⊥
IsNoLink s = Unit {0}

abbrev IsNoSync : Step → Type 0
IsNoSync (step.SyncFolder q) = ⊥
IsNoSync s = Unit {0}

plain : (start : World) (p : Place) (r : ℕ) (s : Step) (a : Answer) (past : List Event) → IsNoLink s → IsNoSync s → NoNews start p (Act r s a Made) past
plain start p r s a past l y = plain_news start p r s a Made past (λ h n is e. subst (λ (z : Step). IsNoLink z) e l) (λ e. subst (λ (z : Step). IsNoSync z) e y)

link_holds : (start : World) (past : List Event) (r : ℕ) (a : Answer) (q : Place) (x y : List ℕ) (p : Place) → (q ≡ p → MayLink r q x y (own r past)) → Given start past r (step.Link q x y) a
    → Holds start p (directory_in start past p) past → Holds start p (directory_after (world_after start past) (step.Link q x y) p) (Act r (step.Link q x y) a Made ∷ past)
link_holds start past r a q x y p may g h =
    place_holds start p q r a past (λ z. step.Link z x y) (λ d. with_linked d x y)
    (λ e. at_p (may e) e)
    (λ never. plain_news start p r (step.Link q x y) a Made past (λ u v is e. never (place e)) (λ e. cc (e))) h
  where
    place : {u v : List ℕ} → step.Link q x y ≡ step.Link p u v → q ≡ p
    place e = cc (e)

    fills : is_number (kind_of y) ≡ true → q ≡ p → Holds start p (with_linked (directory_in start past p) x y) (Act r (step.Link p x y) a Made ∷ past)
    fills number e = fill_holds start p r x y a past number (elim g.answer [ inl z ↦ inl z | inr z ↦ inr (rw e at z) ]) h

    at_p : MayLink r q x y (own r past) → q ≡ p → Holds start p (with_linked (directory_in start past p) x y) (Act r (step.Link p x y) a Made ∷ past)
    at_p (inl m) e = fills m.1 e
    at_p (inr (inl m)) e = fills m.2 e
    at_p (inr (inr m)) e = calm_holds start p (directory_in start past p) _ (Act r (step.Link p x y) a Made) past (stores (is_other_quiet y m.1))
        (calm_linked (directory_in start past p) y (now_in (directory_in start past p) x) (now_in (directory_in start past p) y) (is_other_quiet y m.1)) h
      where
        stores : is_standing y ≡ false → NoNews start p (Act r (step.Link p x y) a Made) past
        stores st = plain_news start p r (step.Link p x y) a Made past (λ u v is e. not_both (is_standing y) (subst (λ (z : List ℕ). is_standing z ≡ true) (sym (second e)) (number_stands v is)) st) (λ e. cc (e))
          where
            second : {u v : List ℕ} → step.Link p x y ≡ step.Link p u v → y ≡ v
            second e = cc (e)

rename_holds : (start : World) (past : List Event) (r : ℕ) (a : Answer) (q : Place) (x y : List ℕ) (p : Place) → IsLockable p → (q ≡ p → MayRename r q x y (own r past)) → Given start past r (step.Rename q x y) a
    → Holds start p (directory_in start past p) past → Holds start p (directory_after (world_after start past) (step.Rename q x y) p) (Act r (step.Rename q x y) a Made ∷ past)
rename_holds start past r a q x y p lock may g h =
    place_holds start p q r a past (λ z. step.Rename z x y) (λ d. with_renamed d x y) (λ e. at_p (may e) e) (λ never. plain start p r (step.Rename q x y) a past tt tt) h
  where
    same : Holds start p (directory_in start past p) (Act r (step.Rename p x y) a Made ∷ past)
    same = calm_holds start p (directory_in start past p) _ (Act r (step.Rename p x y) a Made) past (plain start p r (step.Rename p x y) a past tt tt) (calm_same _) h

    calm : is_standing x ≡ false → is_standing y ≡ false → Holds start p (with_renamed (directory_in start past p) x y) (Act r (step.Rename p x y) a Made ∷ past)
    calm n m = calm_holds start p (directory_in start past p) _ (Act r (step.Rename p x y) a Made) past (plain start p r (step.Rename p x y) a past tt tt) (calm_renamed (directory_in start past p) x y n m) h

    takes : is_taking r (kind_of x) (kind_of y) ≡ true → q ≡ p → (v : Bool) (u : Option ℕ) → Holds start p (if v then directory_in start past p else changed_if (directory_in start past p) (Moved x y) u) (Act r (step.Rename p x y) a Made ∷ past)
    takes m e true u = same
    takes m e false None = same
    takes m e false (Some f) = let z = g.unseen p x y lock (λ i. step.Rename (e i) x y) m in
        take_holds start p r x y a Made past (is_taking_number r x y m) (is_held_any r y (is_taking_held r x y m)) z.0 z.1 h

    backs_up : is_backing_up (kind_of x) (kind_of y) ≡ true → (v : Bool) (u : Option ℕ) → Holds start p (if v then directory_in start past p else changed_if (directory_in start past p) (Moved x y) u) (Act r (step.Rename p x y) a Made ∷ past)
    backs_up m true u = same
    backs_up m false None = same
    backs_up m false (Some f) = lose_holds start p r (step.Rename p x y) a Made (Moved x y) x past (λ u v is e. cc (e)) (λ e. cc (e)) (λ z st t. only_first x y z (is_backing_quiet x y m) st t)
        (λ f leads. inr (inl (backed_up m (past, live g.lives, leads)))) h

    at_p : MayRename r q x y (own r past) → q ≡ p → Holds start p (with_renamed (directory_in start past p) x y) (Act r (step.Rename p x y) a Made ∷ past)
    at_p (inl (inl m)) e = takes m.1 e (bytes_eq x y) (now_in (directory_in start past p) x)
    at_p (inl (inr m)) e = backs_up m.1 (bytes_eq x y) (now_in (directory_in start past p) x)
    at_p (inr (inl m)) e = calm (is_temp_quiet x (is_temp_any r x m.1.0)) (is_committed_quiet q y m.0)
    at_p (inr (inr (inl m))) e = calm (is_temp_quiet x (is_temp_any r x m.2.0)) (is_other_quiet y m.1)
    at_p (inr (inr (inr m))) e = calm (is_other_quiet x m.1) (subst (λ (z : List ℕ). is_standing z ≡ false) (sym m.2) (original_both x).0)

unlink_holds : (start : World) (past : List Event) (r : ℕ) (a : Answer) (q : Place) (x : List ℕ) (p : Place) → (q ≡ p → MayUnlink r q x (own r past)) → Given start past r (step.Unlink q x) a
    → Holds start p (directory_in start past p) past → Holds start p (directory_after (world_after start past) (step.Unlink q x) p) (Act r (step.Unlink q x) a Made ∷ past)
unlink_holds start past r a q x p may g h =
    place_holds start p q r a past (λ z. step.Unlink z x) (λ d. with_unlinked d x) (λ e. at_p (may e) e (now_in (directory_in start past p) x)) (λ never. plain start p r (step.Unlink q x) a past tt tt) h
  where
    same : Holds start p (directory_in start past p) (Act r (step.Unlink p x) a Made ∷ past)
    same = calm_holds start p (directory_in start past p) _ (Act r (step.Unlink p x) a Made) past (plain start p r (step.Unlink p x) a past tt tt) (calm_same _) h

    at_p : MayUnlink r q x (own r past) → q ≡ p → (u : Option ℕ) → Holds start p (changed_if (directory_in start past p) (Gone x) u) (Act r (step.Unlink p x) a Made ∷ past)
    at_p m e None = same
    at_p (inl temp) e (Some f) = calm_holds start p (directory_in start past p) _ (Act r (step.Unlink p x) a Made) past (plain start p r (step.Unlink p x) a past tt tt)
        (calm_change (directory_in start past p) (Gone x) (λ z st. quiet x z (is_temp_quiet x temp) st)) h
    at_p (inr (inl m)) e (Some f) = lose_holds start p r (step.Unlink p x) a Made (Gone x) x past (λ u v is e. cc (e)) (λ e. cc (e)) (λ z st t. bytes_true x z t)
        (λ f leads. inr (inl (unlinked m.1 (past, live g.lives, leads)))) h
    at_p (inr (inr (inl m))) e (Some f) = lose_holds start p r (step.Unlink p x) a Made (Gone x) x past (λ u v is e. cc (e)) (λ e. cc (e)) (λ z st t. bytes_true x z t)
        (λ f leads. inl (g.cleared p x m.1 (subst (λ (z : Place). WasGivenAway z x (own r past)) e m.2))) h
    at_p (inr (inr (inr m))) e (Some f) = lose_holds start p r (step.Unlink p x) a Made (Gone x) x past (λ u v is e. cc (e)) (λ e. cc (e)) (λ z st t. bytes_true x z t)
        (λ f leads. inr (inr (now m.1 (past, live g.lives, leads) (subst (λ (z : Place). WasGivenAway z x (own r past) → ⊥) e m.2.not_given_away)))) h

pub step_holds : (start : World) (past : List Event) (r : ℕ) (s : Step) (a : Answer) → Cares r (own r past) s → Given start past r s a
    → (p : Place) → IsLockable p → Holds start p (directory_in start past p) past → Holds start p (directory_after (world_after start past) s p) (Act r s a Made ∷ past)
step_holds start past r (step.MakeFolder q) a careful g p lock h = go (same_place q p || is_parent p q)
  where
    go : (v : Bool) → Holds start p (if v then with_made (directory_in start past p) else directory_in start past p) (Act r (step.MakeFolder q) a Made ∷ past)
    go true = calm_holds start p (directory_in start past p) _ (Act r (step.MakeFolder q) a Made) past (plain start p r (step.MakeFolder q) a past tt tt) (calm_opens (directory_in start past p)) h
    go false = calm_holds start p (directory_in start past p) _ (Act r (step.MakeFolder q) a Made) past (plain start p r (step.MakeFolder q) a past tt tt) (calm_same _) h
step_holds start past r (step.SyncFolder q) a careful g p lock h =
    place_holds start p q r a past (λ x. step.SyncFolder x) synced
    (λ e. sync_holds start p r a past h)
    (λ never. plain_news start p r (step.SyncFolder q) a Made past (λ y n is z. cc (z)) (λ z. never (cc (z)))) h
step_holds start past r (step.Create q n b) a careful g p lock h =
    place_holds start p q r a past (λ x. step.Create x n b) (λ d. with_created d n (world_after start past).next_file)
    (λ e. calm_holds start p (directory_in start past p) _ (Act r (step.Create p n b) a Made) past (plain start p r (step.Create p n b) a past tt tt)
    (calm_create (directory_in start past p) n (world_after start past).next_file (is_temp_quiet n (is_temp_any r n (careful_create r (own r past) q n b (careful (place_lock e lock))).1.0))) h)
    (λ never. plain start p r (step.Create q n b) a past tt tt) h
step_holds start past r (step.Link q x y) a careful g p lock h = link_holds start past r a q x y p (λ e. (careful_link r (own r past) q x y (careful (place_lock e lock))).1) g h
step_holds start past r (step.Rename q x y) a careful g p lock h = rename_holds start past r a q x y p lock (λ e. (careful_rename r (own r past) q x y (careful (place_lock e lock))).1) g h
step_holds start past r (step.Unlink q x) a careful g p lock h = unlink_holds start past r a q x p (λ e. (careful_unlink r (own r past) q x (careful (place_lock e lock))).1) g h
step_holds start past r s a careful g p lock h = calm_holds start p (directory_in start past p) _ (Act r s a Made) past (plain start p r s a past tt tt) (calm_same _) h
