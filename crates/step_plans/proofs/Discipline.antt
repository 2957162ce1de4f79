-- What the discipline says of each step that changes something, and where own names come from.
use Rattle.std.proofs.Common.{◌≡◌, ℕ, true, false, inl, inr, List, refl, sym, subst}
use Rattle.mh_base.specs.Entries.{kind_of}
use Rattle.folder_files.specs.Careful.{MayCreate, MayCut, IsCareful, looks, changes, WasMade, WasSynced}
use Rattle.folder_files.specs.Deeds.{Deed, WasDone, HasFailed}
use Rattle.folder_files.specs.Histories.{IsLockable, IsOnMail}
use Rattle.folder_files.specs.Named.{is_temp, is_temp_of, is_number, is_held, is_taking, is_committed}
use Rattle.folder_files.specs.declared.place.Place.{Place}
use Rattle.folder_files.specs.declared.place.Place.TheVariants.{Home, Work, Mail, Folder}
use Rattle.folder_files.specs.declared.place.FilePath.{FilePath}
use Rattle.folder_files.specs.declared.step.Step.{Step}
use Rattle.folder_files.specs.declared.step.Step.TheVariants as step
use Rattle.folder_files.proofs.Kinding.{creates_kind, MayLink, links_kind, MayRename, renames_kind, MayUnlink, unlinks_kind, cuts_kind}
use Rattle.folder_files.specs.Standing.{is_standing, is_own}
use Rattle.folder_files.proofs.Names.{not_both, or_left, or_last, is_temp_any, is_held_any, is_temp_unheld, is_temp_unnumbered, is_number_unheld, is_number_unown, is_other_unown, is_taking_held, is_backing_unown, is_committed_unown, original_both, number_stands, is_backing_quiet, is_committed_quiet, is_other_quiet}
use Rattle.folder_files.proofs.Changes.{IsTarget}

pub careful_create : (r : ℕ) (own : List Deed) (p : Place) (t b : List ℕ) → IsCareful r own (step.Create p t b) → (HasFailed own → ⊥) × MayCreate r p t own
careful_create r own p t b (looks l) = absurd l
careful_create r own p t b (changes f k h) = (f, (creates_kind r own (step.Create p t b) p t b (MayCreate r p t own) refl (λ x. x, λ x. x)).1 (k, h))

pub careful_link : (r : ℕ) (own : List Deed) (p : Place) (a b : List ℕ) → IsCareful r own (step.Link p a b) → (HasFailed own → ⊥) × MayLink r p a b own
careful_link r own p a b (looks l) = absurd l
careful_link r own p a b (changes f k h) = (f, (links_kind r own (step.Link p a b) p a b (MayLink r p a b own) refl (λ x. x, λ x. x)).1 (k, h))

pub careful_rename : (r : ℕ) (own : List Deed) (p : Place) (a b : List ℕ) → IsCareful r own (step.Rename p a b) → (HasFailed own → ⊥) × MayRename r p a b own
careful_rename r own p a b (looks l) = absurd l
careful_rename r own p a b (changes f k h) = (f, (renames_kind r own (step.Rename p a b) p a b (MayRename r p a b own) refl (λ x. x, λ x. x)).1 (k, h))

pub careful_unlink : (r : ℕ) (own : List Deed) (p : Place) (a : List ℕ) → IsCareful r own (step.Unlink p a) → (HasFailed own → ⊥) × MayUnlink r p a own
careful_unlink r own p a (looks l) = absurd l
careful_unlink r own p a (changes f k h) = (f, (unlinks_kind r own (step.Unlink p a) p a (MayUnlink r p a own) refl (λ x. x, λ x. x)).1 (k, h))

pub careful_cut : (r : ℕ) (own : List Deed) (f : FilePath) (n : ℕ) → IsCareful r own (step.CutDrop f n) → (HasFailed own → ⊥) × MayCut r f n own
careful_cut r own f n (looks l) = absurd l
careful_cut r own f n (changes fl k h) = (fl, (cuts_kind r own (step.CutDrop f n) f n (MayCut r f n own) refl (λ x. x, λ x. x)).1 (k, h))

-- a step is careful where it is made in a folder or the mail directory
abbrev pub Cares : ℕ → List Deed → Step → Type 0
Cares r own s = IsOnMail s → IsCareful r own s

pub place_lock : {q p : Place} → q ≡ p → IsLockable p → IsLockable q
place_lock e lock = subst (λ (z : Place). IsLockable z) (sym e) lock

pub committed_lock : (p : Place) (x : List ℕ) → is_committed p x ≡ true → IsLockable p
committed_lock Home x h = absurd (cc (h))
committed_lock Work x h = absurd (cc (h))
committed_lock (Mail path) x h = tt
committed_lock (Folder path name) x h = tt

held_own : (x : List ℕ) → is_held (kind_of x) ≡ true → is_own x ≡ true
held_own x h = or_last (is_temp (kind_of x)) (is_held (kind_of x)) h

temp_own : (x : List ℕ) → is_temp (kind_of x) ≡ true → is_own x ≡ true
temp_own x h = or_left (is_temp (kind_of x)) (is_held (kind_of x)) h

-- no own name is where a link, or a rename that is no take, leads
link_unown : (r : ℕ) (own : List Deed) (p : Place) (a b : List ℕ) → MayLink r p a b own → is_own b ≡ true → ⊥
link_unown r own p a b (inl m) h = not_both (is_own b) h (is_number_unown b m.1)
link_unown r own p a b (inr (inl m)) h = not_both (is_own b) h (is_number_unown b m.2)
link_unown r own p a b (inr (inr m)) h = not_both (is_own b) h (is_other_unown b m.1)

rename_takes : (r : ℕ) (own : List Deed) (p : Place) (a b : List ℕ) → MayRename r p a b own → is_own b ≡ true → (is_taking r (kind_of a) (kind_of b) ≡ true) × (WasDone (step.Rename p a b) own → ⊥)
rename_takes r own p a b (inl (inl m)) h = (m.1, m.2)
rename_takes r own p a b (inl (inr m)) h = absurd (not_both (is_own b) h (is_backing_unown a b m.1))
rename_takes r own p a b (inr (inl m)) h = absurd (not_both (is_own b) h (is_committed_unown p b m.0))
rename_takes r own p a b (inr (inr (inl m))) h = absurd (not_both (is_own b) h (is_other_unown b m.1))
rename_takes r own p a b (inr (inr (inr m))) h = absurd (not_both (is_own b) h (subst (λ (z : List ℕ). is_own z ≡ false) (sym m.2) (original_both a).1))

-- where a held name comes from
pub record IsTake (r : ℕ) (own : List Deed) (s : Step) (p : Place) (x : List ℕ) : Type 0 where
  pub number : List ℕ
  pub is : s ≡ step.Rename p number x
  pub taking : is_taking r (kind_of number) (kind_of x) ≡ true
  pub unfailed : HasFailed own → ⊥
  pub fresh : WasDone (step.Rename p number x) own → ⊥

pub held_target : (r : ℕ) (own : List Deed) (s : Step) (p : Place) (x : List ℕ) → IsLockable p → Cares r own s → is_held (kind_of x) ≡ true → IsTarget s p x → IsTake r own s p x
held_target r own (step.Create q n b) p x lock careful held t = absurd (let m = careful_create r own q n b (careful (place_lock t.0 lock)) in
    not_both (is_held (kind_of n)) (subst (λ (z : List ℕ). is_held (kind_of z) ≡ true) (sym t.1) held) (is_temp_unheld n (is_temp_any r n m.1.0)))
held_target r own (step.Link q a b) p x lock careful held t = absurd (link_unown r own q a b (careful_link r own q a b (careful (place_lock t.0 lock))).1 (subst (λ (z : List ℕ). is_own z ≡ true) (sym t.1) (held_own x held)))
held_target r own (step.Rename q a b) p x lock careful held t = let m = careful_rename r own q a b (careful (place_lock t.0 lock)) in
    let z = rename_takes r own q a b m.1 (subst (λ (z : List ℕ). is_own z ≡ true) (sym t.1) (held_own x held)) in
    let e : step.Rename q a b ≡ step.Rename p a x = λ i. step.Rename (t.0 i) a (t.1 i) in
    record {
      number = a;
      is = e;
      taking = subst (λ (y : List ℕ). is_taking r (kind_of a) (kind_of y) ≡ true) t.1 z.0;
      unfailed = m.0;
      fresh = subst (λ (y : Step). WasDone y own → ⊥) e z.1;
    }
held_target r own s p x lock careful held t = absurd t

-- where a temporary name comes from
pub record IsMaking (r : ℕ) (own : List Deed) (s : Step) (p : Place) (x : List ℕ) : Type 0 where
  pub bytes : List ℕ
  pub is : s ≡ step.Create p x bytes
  pub temp : is_temp_of r (kind_of x) ≡ true
  pub unfailed : HasFailed own → ⊥
  pub fresh : WasMade p x own → ⊥

pub temp_target : (r : ℕ) (own : List Deed) (s : Step) (p : Place) (x : List ℕ) → IsLockable p → Cares r own s → is_temp (kind_of x) ≡ true → IsTarget s p x → IsMaking r own s p x
temp_target r own (step.Create q n b) p x lock careful temp t = let m = careful_create r own q n b (careful (place_lock t.0 lock)) in
    record {
      bytes = b;
      is = λ i. step.Create (t.0 i) (t.1 i) b;
      temp = subst (λ (z : List ℕ). is_temp_of r (kind_of z) ≡ true) t.1 m.1.0;
      unfailed = m.0;
      fresh = subst (λ (z : List ℕ). WasMade p z own → ⊥) t.1 (subst (λ (z : Place). WasMade z n own → ⊥) t.0 m.1.1);
    }
temp_target r own (step.Link q a b) p x lock careful temp t = absurd (link_unown r own q a b (careful_link r own q a b (careful (place_lock t.0 lock))).1 (subst (λ (z : List ℕ). is_own z ≡ true) (sym t.1) (temp_own x temp)))
temp_target r own (step.Rename q a b) p x lock careful temp t = absurd (let m = careful_rename r own q a b (careful (place_lock t.0 lock)) in
    let z = rename_takes r own q a b m.1 (subst (λ (z : List ℕ). is_own z ≡ true) (sym t.1) (temp_own x temp)) in
    not_both (is_held (kind_of b)) (is_held_any r b (is_taking_held r a b z.0)) (is_temp_unheld b (subst (λ (z : List ℕ). is_temp (kind_of z) ≡ true) (sym t.1) temp)))
temp_target r own s p x lock careful temp t = absurd t

-- no rename leads to a number
rename_unnumbered : (r : ℕ) (own : List Deed) (p : Place) (a b : List ℕ) → MayRename r p a b own → is_number (kind_of b) ≡ true → ⊥
rename_unnumbered r own p a b (inl (inl m)) h = not_both (is_held (kind_of b)) (is_held_any r b (is_taking_held r a b m.1)) (is_number_unheld b h)
rename_unnumbered r own p a b (inl (inr m)) h = not_both (is_standing b) (number_stands b h) (is_backing_quiet a b m.1)
rename_unnumbered r own p a b (inr (inl m)) h = not_both (is_standing b) (number_stands b h) (is_committed_quiet p b m.0)
rename_unnumbered r own p a b (inr (inr (inl m))) h = not_both (is_standing b) (number_stands b h) (is_other_quiet b m.1)
rename_unnumbered r own p a b (inr (inr (inr m))) h = not_both (is_standing b) (number_stands b h) (subst (λ (z : List ℕ). is_standing z ≡ false) (sym m.2) (original_both a).0)

-- where a number comes from
pub number_target : (r : ℕ) (own : List Deed) (s : Step) (p : Place) (x : List ℕ) → IsCareful r own s → is_number (kind_of x) ≡ true → IsTarget s p x → (a : List ℕ) × (s ≡ step.Link p a x)
number_target r own (step.Create q n b) p x careful number t = absurd (let m = careful_create r own q n b careful in
    not_both (is_number (kind_of n)) (subst (λ (z : List ℕ). is_number (kind_of z) ≡ true) (sym t.1) number) (is_temp_unnumbered n (is_temp_any r n m.1.0)))
number_target r own (step.Link q a b) p x careful number t = (a, λ i. step.Link (t.0 i) a (t.1 i))
number_target r own (step.Rename q a b) p x careful number t = absurd (rename_unnumbered r own q a b (careful_rename r own q a b careful).1 (subst (λ (z : List ℕ). is_number (kind_of z) ≡ true) (sym t.1) number))
number_target r own s p x careful number t = absurd t

-- a put is of a file that was ready
pub put_ready : (r : ℕ) (own : List Deed) (p : Place) (t n : List ℕ) → IsCareful r own (step.Link p t n) → is_temp (kind_of t) ≡ true → is_number (kind_of n) ≡ true → (is_temp_of r (kind_of t) ≡ true) × WasSynced p t own
put_ready r own p t n careful temp number = go (careful_link r own p t n careful).1
  where
    go : MayLink r p t n own → (is_temp_of r (kind_of t) ≡ true) × WasSynced p t own
    go (inl m) = m.2
    go (inr (inl m)) = absurd (not_both (is_held (kind_of t)) m.1 (is_temp_unheld t temp))
    go (inr (inr m)) = m.2
