-- What a closed set of changes leaves.
use Rattle.std.proofs.Common.{◌≡◌, ℕ, Bool, true, false, ◌⊎◌, inl, inr, List, [], ◌∷◌, length, Option, Some, refl, sym, ◌∙◌, ap, subst, bytes_eq, if◌then◌else◌}
use Rattle.mh_base.specs.Entries.{kind_of}
use Rattle.folder_files.specs.Directory.{touches, Slots, after_change, lead, kept_lead, AllKept, IsClosed, IsUntouched}
use Rattle.folder_files.specs.Named.{is_held}
use Rattle.folder_files.specs.declared.world.Change.{Change}
use Rattle.folder_files.specs.declared.world.Change.TheVariants.{Set, Gone, Moved}
use Rattle.step_plans.specs.Anchors.{IsMovedOn, here, on, IsAnchor}
use Rattle.folder_files.specs.Standing.{is_standing}
use Rattle.folder_files.proofs.Changes.{untouched_change, untouched_lead}
use Rattle.folder_files.proofs.Names.{or_right, not_both, bytes_self, held_stands}

moved_touches_from : (a b : List ℕ) → touches (Moved a b) a ≡ true
moved_touches_from a b = rw (bytes_self a) refl

moved_touches_to : (a b : List ℕ) → touches (Moved a b) b ≡ true
moved_touches_to a b = rw (bytes_self b) (or_right (bytes_eq a b))

moved_to : (a b : List ℕ) (s : Slots) → after_change (Moved a b) s b ≡ s a
moved_to a b s = rw (bytes_self b) refl

pub untouched_kept : (s : Slots) (cs : List Change) (keep : ℕ → Bool) (x : List ℕ) → IsUntouched x cs → kept_lead s cs keep x ≡ s x
untouched_kept s [] keep x u = refl
untouched_kept s (c ∷ cs) keep x u = go (keep (length cs)) (untouched_kept s cs keep x u.1)
  where
    go : (k : Bool) → kept_lead s cs keep x ≡ s x → (if k then after_change c (kept_lead s cs keep) x else kept_lead s cs keep x) ≡ s x
    go true rest = untouched_change c (kept_lead s cs keep) x u.0 ∙ rest
    go false rest = rest

-- no change that touches x is kept
abbrev NoneKept : List ℕ → List Change → (ℕ → Bool) → Type 0
NoneKept x [] keep = Unit {0}
NoneKept x (c ∷ cs) keep = (touches c x ≡ true → keep (length cs) ≡ false) × NoneKept x cs keep

none_kept : (s : Slots) (cs : List Change) (keep : ℕ → Bool) (x : List ℕ) → NoneKept x cs keep → kept_lead s cs keep x ≡ s x
none_kept s [] keep x u = refl
none_kept s (c ∷ cs) keep x u = go (keep (length cs)) (touches c x) refl refl (none_kept s cs keep x u.1)
  where
    go : (k t : Bool) → keep (length cs) ≡ k → touches c x ≡ t → kept_lead s cs keep x ≡ s x → (if k then after_change c (kept_lead s cs keep) x else kept_lead s cs keep x) ≡ s x
    go false t e h rest = rest
    go true false e h rest = untouched_change c (kept_lead s cs keep) x h ∙ rest
    go true true e h rest = absurd (cc (u.0 h))

untouched_none : (cs : List Change) (keep : ℕ → Bool) (x : List ℕ) → IsUntouched x cs → NoneKept x cs keep
untouched_none [] keep x u = tt
untouched_none (c ∷ cs) keep x u = (λ h. absurd (cc (u.0)), untouched_none cs keep x u.1)

-- not both
clash : (x y : List ℕ) {cs : List Change} (keep : ℕ → Bool) → IsMovedOn x y cs → AllKept x cs keep → NoneKept x cs keep → ⊥
clash x y keep (here {cs = cs} u) all none = cc (all.0 (moved_touches_from x y), none.0 (moved_touches_from x y))
clash x y keep (on {c = c} {cs = cs} apart m) all none = clash x y keep m all.1 none.1

-- a file that stands under x, and is moved on to y: after a closed set of changes it stands under one of them
pub moved_kept : (s : Slots) (x y : List ℕ) {cs : List Change} (keep : ℕ → Bool) → IsClosed cs keep → IsMovedOn x y cs
    → NoneKept x cs keep ⊎ (kept_lead s cs keep y ≡ s x)
moved_kept s x y keep closed (here {cs = cs} u) = go (keep (length cs)) refl
  where
    go : (k : Bool) → keep (length cs) ≡ k → NoneKept x (Moved x y ∷ cs) keep ⊎ ((if k then after_change (Moved x y) (kept_lead s cs keep) y else kept_lead s cs keep y) ≡ s x)
    go false e = inl (λ h. e, untouched_none cs keep x u)
    go true e = inr (moved_to x y (kept_lead s cs keep) ∙ untouched_kept s cs keep x u)
moved_kept s x y keep closed (on {c = c} {cs = cs} apart m) = elim (moved_kept s x y keep closed.1 m) [ inl none ↦ inl (first none, none) | inr there ↦ inr (stays (keep (length cs)) there) ]
  where
    stays : (k : Bool) → kept_lead s cs keep y ≡ s x → (if k then after_change c (kept_lead s cs keep) y else kept_lead s cs keep y) ≡ s x
    stays true h = untouched_change c (kept_lead s cs keep) y apart ∙ h
    stays false h = h

    first : NoneKept x cs keep → touches c x ≡ true → keep (length cs) ≡ false
    first none t = case (keep (length cs)) refl
      where
        case : (k : Bool) → keep (length cs) ≡ k → keep (length cs) ≡ false
        case true e = absurd (clash x y keep m (closed.0 e x t) none)
        case false e = e

-- and under x where the moves were not kept
pub anchor_kept : (s : Slots) (cs : List Change) (keep : ℕ → Bool) (f : ℕ) (x e : List ℕ) → IsClosed cs keep → IsAnchor s cs f x e
    → (kept_lead s cs keep x ≡ Some f) ⊎ ((is_held (kind_of e) ≡ true) × (kept_lead s cs keep e ≡ Some f))
anchor_kept s cs keep f x e closed a = elim a.way [
  | inl w ↦ inl (untouched_kept s cs keep x w.1 ∙ a.safe)
  | inr w ↦ elim (moved_kept s x e keep closed w.1) [
    | inl none ↦ inl (none_kept s cs keep x none ∙ a.safe)
    | inr there ↦ inr (w.0, there ∙ a.safe)
  ]
]

moved_lead : (s : Slots) (x y : List ℕ) {cs : List Change} → IsMovedOn x y cs → lead s cs y ≡ s x
moved_lead s x y (here {cs = cs} u) = moved_to x y (lead s cs) ∙ untouched_lead s cs x u
moved_lead s x y (on {c = c} {cs = cs} apart m) = untouched_change c (lead s cs) y apart ∙ moved_lead s x y m

-- the end of an anchor leads to the file
pub end_leads : (s : Slots) (cs : List Change) (f : ℕ) (x e : List ℕ) → IsAnchor s cs f x e → lead s cs e ≡ Some f
end_leads s cs f x e a = elim a.way [
  | inl w ↦ ap (λ n. lead s cs n) w.0 ∙ (untouched_lead s cs x w.1 ∙ a.safe)
  | inr w ↦ moved_lead s x e w.1 ∙ a.safe
]

pub end_stands : (s : Slots) (cs : List Change) (f : ℕ) (x e : List ℕ) → IsAnchor s cs f x e → is_standing e ≡ true
end_stands s cs f x e a = elim a.way [
  | inl w ↦ ap is_standing w.0 ∙ a.standing
  | inr w ↦ held_stands e w.0
]

-- a change that doesn't touch the end leaves the anchor
pub anchor_stays : (s : Slots) (c : Change) (cs : List Change) (f : ℕ) (x e : List ℕ) → touches c e ≡ false → IsAnchor s cs f x e → IsAnchor s (c ∷ cs) f x e
anchor_stays s c cs f x e apart a = record {
  standing = a.standing;
  safe = a.safe;
  way = elim a.way [
    | inl w ↦ inl (w.0, (ap (λ n. touches c n) (sym w.0) ∙ apart, w.1))
    | inr w ↦ inr (w.0, on apart w.1)
  ];
}

-- a take leads an anchor on
pub anchor_taken : (s : Slots) (cs : List Change) (f : ℕ) (n h x : List ℕ) → is_held (kind_of h) ≡ true → is_held (kind_of n) ≡ false → IsAnchor s cs f x n → IsAnchor s (Moved n h ∷ cs) f x h
anchor_taken s cs f n h x held number a = record {
  standing = a.standing;
  safe = a.safe;
  way = elim a.way [
    | inl w ↦ inr (held, taken w)
    | inr w ↦ absurd (not_both (is_held (kind_of n)) w.0 number)
  ];
}
  where
    taken : (n ≡ x) × IsUntouched x cs → IsMovedOn x h (Moved n h ∷ cs)
    taken w = rw w.0 (here w.1)

-- once all changes are safe, a standing name is an anchor
pub anchor_fresh : (s : Slots) (f : ℕ) (x : List ℕ) → is_standing x ≡ true → s x ≡ Some f → IsAnchor s [] f x x
anchor_fresh s f x standing leads = record { standing = standing; safe = leads; way = inl (refl, tt) }

-- K and L agree on the names of the change
change_agrees : (c : Change) (k l : Slots) (x : List ℕ) → ((y : List ℕ) → touches c y ≡ true → k y ≡ l y) → k x ≡ l x → after_change c k x ≡ after_change c l x
change_agrees (Set n f) k l x on_names e = rw e refl
change_agrees (Gone n) k l x on_names e = rw e refl
change_agrees (Moved a b) k l x on_names e = rw (e, on_names a (moved_touches_from a b)) refl

-- where each change that touches x is kept, x is as after all
pub all_kept_lead : (s : Slots) (cs : List Change) (keep : ℕ → Bool) (x : List ℕ) → IsClosed cs keep → AllKept x cs keep → kept_lead s cs keep x ≡ lead s cs x
all_kept_lead s [] keep x closed all = refl
all_kept_lead s (c ∷ cs) keep x closed all = go (touches c x) (keep (length cs)) refl refl (λ y a. all_kept_lead s cs keep y closed.1 a) (all_kept_lead s cs keep x closed.1 all.1)
  where
    go : (t k : Bool) → touches c x ≡ t → keep (length cs) ≡ k → ((y : List ℕ) → AllKept y cs keep → kept_lead s cs keep y ≡ lead s cs y) → kept_lead s cs keep x ≡ lead s cs x
        → (if k then after_change c (kept_lead s cs keep) x else kept_lead s cs keep x) ≡ after_change c (lead s cs) x
    go t true tx kx others at_x = change_agrees c (kept_lead s cs keep) (lead s cs) x (λ y ty. others y (closed.0 kx y ty)) at_x
    go true false tx kx others at_x = absurd (cc (all.0 tx, kx))
    go false false tx kx others at_x = at_x ∙ sym (untouched_change c (lead s cs) x tx)

-- P holds of what x led to at each moment since the last sync
abbrev pub AtEach : (Option ℕ → Type 0) → Slots → List Change → List ℕ → Type 0
AtEach P s [] x = P (s x)
AtEach P s (c ∷ cs) x = P (lead s (c ∷ cs) x) × AtEach P s cs x

-- in a closed image each name leads to what it led to at some moment
pub kept_moment : (P : Option ℕ → Type 0) (s : Slots) (cs : List Change) (keep : ℕ → Bool) (x : List ℕ) → IsClosed cs keep → AtEach P s cs x → P (kept_lead s cs keep x)
kept_moment P s [] keep x closed h = h
kept_moment P s (c ∷ cs) keep x closed h = go (keep (length cs)) (touches c x) refl refl (kept_moment P s cs keep x closed.1 h.1)
  where
    go : (k t : Bool) → keep (length cs) ≡ k → touches c x ≡ t → P (kept_lead s cs keep x) → P ((if k then after_change c (kept_lead s cs keep) x else kept_lead s cs keep x))
    go false t e tx rest = rest
    go true false e tx rest = subst P (sym (untouched_change c (kept_lead s cs keep) x tx)) rest
    go true true e tx rest = subst P (sym (change_agrees c (kept_lead s cs keep) (lead s cs) x (λ y ty. all_kept_lead s cs keep y closed.1 (closed.0 e y ty)) (all_kept_lead s cs keep x closed.1 (closed.0 e x tx)))) h.0
