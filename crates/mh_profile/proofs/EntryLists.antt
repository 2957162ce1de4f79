-- Lists of entries.
use Rattle.std.proofs.Common.{◌≡◌, ℕ, Bool, true, false, List, [], ◌∷◌, ◌++◌, filter, ⊎_elim, refl, sym, ◌∙◌, ap, append_assoc, append-nil}
use Rattle.std.specs.Prelude.{◌&&◌, ◌||◌, not, if◌then◌else◌}
use Rattle.std.proofs.lemmas.Bool.{cases_Bool}
use Rattle.mh_profile.specs.declared.named_value.NamedValue.{NamedValue}
use Rattle.mh_profile.specs.Names.{IsFieldName, same_entry}
use Rattle.mh_profile.specs.Values.{IsUnfolded}
use Rattle.mh_profile.specs.Validity.{AreEntries, IsEntry, has_name}
use Rattle.mh_profile.specs.Changes.{with_entry, without, noted}
use Rattle.mh_profile.specs.Reading.{first_of_each}
use Rattle.mh_profile.proofs.Keys.{same_sym, same_as}

-- neither
pub or_parts : (x y : Bool) → x || y ≡ false → (x ≡ false) × (y ≡ false)
or_parts false y e = (refl, e)
or_parts true y e = cc

module _ {X : Type 0} where
  both_true : (p q : X → Bool) (x : X) → q x ≡ true → p x ≡ true → q x && p x ≡ true
  both_true p q x e f = rw (e, f) refl

  second_false : (p q : X → Bool) (x : X) → q x ≡ true → p x ≡ false → q x && p x ≡ false
  second_false p q x e f = rw (e, f) refl

  first_false : (p q : X → Bool) (x : X) → q x ≡ false → q x && p x ≡ false
  first_false p q x e = rw e refl

  filter_step : (p q r : X → Bool) (x : X) (xs : List X) → r x ≡ q x && p x → filter p (filter q xs) ≡ filter r xs → filter p (filter q (x ∷ xs)) ≡ filter r (x ∷ xs)
  filter_step p q r x xs at rest = ⊎_elim
      (λ e. ⊎_elim
      (λ f. let g : r x ≡ true = at ∙ both_true p q x e f in rw (e, g) (rw f (ap (λ l. x ∷ l) rest)))
      (λ f. let g : r x ≡ false = at ∙ second_false p q x e f in rw (e, g) (rw f rest))
      (cases_Bool (p x)))
      (λ e. let g : r x ≡ false = at ∙ first_false p q x e in rw (e, g) rest)
      (cases_Bool (q x))

  -- a filter of a filter is one by both tests
  pub filter_both : (p q r : X → Bool) → ((x : X) → r x ≡ q x && p x) → (xs : List X) → filter p (filter q xs) ≡ filter r xs
  filter_both p q r all [] = refl
  filter_both p q r all (x ∷ xs) = filter_step p q r x xs (all x) (filter_both p q r all xs)

  -- a test that always holds keeps all
  pub filter_all : (p : X → Bool) → ((x : X) → p x ≡ true) → (xs : List X) → filter p xs ≡ xs
  filter_all p all [] = refl
  filter_all p all (x ∷ xs) = rw (all x) (ap (λ l. x ∷ l) (filter_all p all xs))

-- one more entry may have the name
pub has_more : (name : List ℕ) (e : NamedValue) (es : List NamedValue) → has_name name (es ++ e ∷ []) ≡ has_name name es || same_entry name e.name
has_more name e [] = or_nothing (same_entry name e.name)
  where
    or_nothing : (x : Bool) → x || false ≡ x
    or_nothing true = refl
    or_nothing false = refl
has_more name e (x ∷ xs) = ap (λ t. same_entry name x.name || t) (has_more name e xs) ∙ regroup (same_entry name x.name) (has_name name xs) (same_entry name e.name)
  where
    regroup : (x y z : Bool) → x || (y || z) ≡ (x || y) || z
    regroup true y z = refl
    regroup false y z = refl

-- the same name is there as well
pub has_as : (a b : List ℕ) (es : List NamedValue) → same_entry a b ≡ true → has_name a es ≡ has_name b es
has_as a b [] h = refl
has_as a b (x ∷ xs) h = λ i. same_as a b x.name h i || has_as a b xs h i

-- an entry whose name is not there
pub fresh : List NamedValue → NamedValue → Bool
fresh kept x = not (has_name x.name kept)

-- what is kept, and of the others those whose names are not there, the first of each
pub more_of : List NamedValue → List NamedValue → List NamedValue
more_of kept es = kept ++ filter (fresh kept) (first_of_each es)

pub more_of-none : (es : List NamedValue) → more_of [] es ≡ first_of_each es
unfolding more_of fresh
more_of-none es = filter_all (fresh []) (λ x. refl) (first_of_each es)

pub more_of-end : (kept : List NamedValue) → more_of kept [] ≡ kept
unfolding more_of
more_of-end kept = append-nil kept

drops : (kept : List NamedValue) (e x : NamedValue) → has_name e.name kept ≡ true → fresh kept x ≡ not (same_entry e.name x.name) && fresh kept x
unfolding fresh
drops kept e x h = ⊎_elim
    (λ s. let there : has_name x.name kept ≡ true = sym (has_as e.name x.name kept s) ∙ h in rw (s, there) refl)
    (λ s. rw s refl)
    (cases_Bool (same_entry e.name x.name))

adds : (kept : List NamedValue) (e x : NamedValue) → fresh (kept ++ e ∷ []) x ≡ not (same_entry e.name x.name) && fresh kept x
unfolding fresh
adds kept e x = ap not (has_more x.name e kept ∙ ap (λ t. has_name x.name kept || t) (same_sym x.name e.name)) ∙ not_or (has_name x.name kept) (same_entry e.name x.name)
  where
    not_or : (a b : Bool) → not (a || b) ≡ not b && not a
    not_or true true = refl
    not_or true false = refl
    not_or false true = refl
    not_or false false = refl

not_fresh : (kept : List NamedValue) (e : NamedValue) → has_name e.name kept ≡ true → fresh kept e ≡ false
unfolding fresh
not_fresh kept e h = ap not h

-- an entry is passed over where its name is there
pub more_of-passed : (kept : List NamedValue) (e : NamedValue) (es : List NamedValue) → has_name e.name kept ≡ true → more_of kept (e ∷ es) ≡ more_of kept es
unfolding more_of
more_of-passed kept e es h =
    let out : fresh kept e ≡ false = not_fresh kept e h in
    rw out (ap (λ l. kept ++ l) (filter_both (fresh kept) (λ x. not (same_entry e.name x.name)) (fresh kept) (λ x. drops kept e x h) (first_of_each es)))

is_fresh : (kept : List NamedValue) (e : NamedValue) → has_name e.name kept ≡ false → fresh kept e ≡ true
unfolding fresh
is_fresh kept e h = ap not h

-- and else kept
pub more_of-kept : (kept : List NamedValue) (e : NamedValue) (es : List NamedValue) → has_name e.name kept ≡ false → more_of kept (e ∷ es) ≡ more_of (kept ++ e ∷ []) es
unfolding more_of
more_of-kept kept e es h =
    rw (is_fresh kept e h)
    (ap (λ l. kept ++ e ∷ l) (filter_both (fresh kept) (λ x. not (same_entry e.name x.name)) (fresh (kept ++ e ∷ [])) (adds kept e) (first_of_each es))
    ∙ sym (append_assoc kept (e ∷ []) (filter (fresh (kept ++ e ∷ [])) (first_of_each es))))

pub more_of-noted : (kept : List NamedValue) (e : NamedValue) (es : List NamedValue) → more_of kept (e ∷ es) ≡ more_of (noted kept e) es
more_of-noted kept e es = ⊎_elim
    (λ h. more_of-passed kept e es h ∙ sym (ap (λ b. more_of (if b then kept else kept ++ e ∷ []) es) h))
    (λ h. more_of-kept kept e es h ∙ sym (ap (λ b. more_of (if b then kept else kept ++ e ∷ []) es) h))
    (cases_Bool (has_name e.name kept))

-- an entry is passed over where its name is there, and else stands last
pub noted_there : (es : List NamedValue) (e : NamedValue) → has_name e.name es ≡ true → es ≡ noted es e
noted_there es e h = sym (ap (λ b. if b then es else es ++ e ∷ []) h)

pub noted_new : (es : List NamedValue) (e : NamedValue) → has_name e.name es ≡ false → es ++ e ∷ [] ≡ noted es e
noted_new es e h = sym (ap (λ b. if b then es else es ++ e ∷ []) h)

-- entries with one more of a new name
pub entries_more : (es : List NamedValue) (e : NamedValue) → AreEntries es → IsEntry e → has_name e.name es ≡ false → AreEntries (es ++ e ∷ [])
entries_more [] e h one absent = (one, refl, tt)
entries_more (x ∷ xs) e h one absent =
    let parts = or_parts (same_entry e.name x.name) (has_name e.name xs) absent in
    (h.0, has_more x.name e xs ∙ rw (h.1, same_sym x.name e.name, parts.0) refl, entries_more xs e h.2 one parts.1)

-- a new name goes last
pub with_entry-absent : (name value : List ℕ) (es : List NamedValue) → has_name name es ≡ false → with_entry name value es ≡ es ++ record { name = name; value = value } ∷ []
with_entry-absent name value [] h = refl
with_entry-absent name value (e ∷ es) h =
    let parts = or_parts (same_entry name e.name) (has_name name es) h in
    rw parts.0 (ap (λ l. e ∷ l) (with_entry-absent name value es parts.1))

has_with : (n name value : List ℕ) (es : List NamedValue) → same_entry n name ≡ false → has_name n es ≡ false → has_name n (with_entry name value es) ≡ false
has_with n name value [] s h = rw s refl
has_with n name value (e ∷ es) s h =
    let parts = or_parts (same_entry n e.name) (has_name n es) h in
    ⊎_elim (λ t. rw t (rw parts.0 parts.1)) (λ t. rw t (rw parts.0 (has_with n name value es s parts.1))) (cases_Bool (same_entry name e.name))

-- entries in which one has another value, or one more stands
pub entries_with : (name value : List ℕ) (es : List NamedValue) → IsFieldName name → IsUnfolded value → AreEntries es → AreEntries (with_entry name value es)
entries_with name value [] n v h = (record { name = n; value = v }, refl, tt)
entries_with name value (e ∷ es) n v h = ⊎_elim
    (λ t. rw t (record { name = h.0.name; value = v }, h.1, h.2))
    (λ t. rw t (h.0, has_with e.name name value es (same_sym e.name name ∙ t) h.1, entries_with name value es n v h.2))
    (cases_Bool (same_entry name e.name))

has_filtered : (n : List ℕ) (p : NamedValue → Bool) (es : List NamedValue) → has_name n es ≡ false → has_name n (filter p es) ≡ false
has_filtered n p [] h = refl
has_filtered n p (e ∷ es) h =
    let parts = or_parts (same_entry n e.name) (has_name n es) h in
    ⊎_elim (λ t. rw t (rw parts.0 (has_filtered n p es parts.1))) (λ t. rw t (has_filtered n p es parts.1)) (cases_Bool (p e))

-- some of the entries
pub entries_filtered : (p : NamedValue → Bool) (es : List NamedValue) → AreEntries es → AreEntries (filter p es)
entries_filtered p [] h = tt
entries_filtered p (e ∷ es) h = ⊎_elim
    (λ t. rw t (h.0, has_filtered e.name p es h.1, entries_filtered p es h.2))
    (λ t. rw t (entries_filtered p es h.2))
    (cases_Bool (p e))

-- none has the name
pub without_none : (name : List ℕ) (es : List NamedValue) → has_name name es ≡ false → without name es ≡ es
without_none name [] h = refl
without_none name (e ∷ es) h =
    let parts = or_parts (same_entry name e.name) (has_name name es) h in
    rw parts.0 (ap (λ l. e ∷ l) (without_none name es parts.1))

-- of entries each is the first of its name
pub first_of_each-same : (es : List NamedValue) → AreEntries es → first_of_each es ≡ es
first_of_each-same [] h = refl
first_of_each-same (e ∷ es) h = ap (λ l. e ∷ filter (λ x. not (same_entry e.name x.name)) l) (first_of_each-same es h.2) ∙ ap (λ l. e ∷ l) (without_none e.name es h.1)
