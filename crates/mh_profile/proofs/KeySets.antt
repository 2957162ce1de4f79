-- Names in a set of keys, and entries without them.
use Rattle.std.proofs.Common.{◌≡◌, ℕ, Bool, true, false, List, [], ◌∷◌, ⊎_elim, refl, sym, ◌∙◌, ap}
use Rattle.std.specs.Prelude.{◌||◌, ◌&&◌, not, bytes_eq, filter}
use Rattle.std.specs.List.{list_any}
use Rattle.std.specs.Global.{Vec}
use Rattle.std.specs.Map.{values_of}
use Rattle.std.proofs.lemmas.Bool.{cases_Bool}
use Rattle.std.proofs.lemmas.List.Folds.{list_any-append}
use Rattle.std.proofs.lemmas.Slice.Eq.{bytes_eq-Decides}
use Rattle.indexmap.specs.IndexSet.{insert_key}
use Rattle.mh_profile.specs.declared.name_keys.NameKeys.{NameKeys}
use Rattle.mh_profile.specs.declared.named_value.NamedValue.{NamedValue}
use Rattle.mh_profile.specs.Changes.{without, without_all}
use Rattle.mh_profile.specs.Keys.{AreKeyed}
use Rattle.mh_profile.specs.NameKeys.{has_key, is_named}
use Rattle.mh_profile.specs.Names.{same_entry, key_of}
use Rattle.mh_profile.proofs.EntryLists.{filter_all, filter_both}
use Rattle.mh_profile.proofs.Keys.{same_by_key, same_sym}
use Rattle.mh_profile.proofs.KeyedEntries.{stands}

abbrev same_key : Vec ℕ → Vec ℕ → Bool
same_key a b = bytes_eq a.items b.items

or_swap : (a b : Bool) → a || (b || false) ≡ b || a
or_swap true true = refl
or_swap true false = refl
or_swap false true = refl
or_swap false false = refl

regroup : (a b c : Bool) → (a || b) || c ≡ b || (a || c)
regroup true true c = refl
regroup true false c = refl
regroup false b c = refl

-- a key is among those where one was put if it is that one, or was there
put_in : (key : List ℕ) (ks : List (Vec ℕ)) (k : Vec ℕ) → list_any (stands key) (insert_key same_key ks k) ≡ bytes_eq key k.items || list_any (stands key) ks
put_in key ks k = ⊎_elim there absent (cases_Bool (list_any (same_key k) ks))
  where
    found : list_any (same_key k) ks ≡ true → (b : Bool) → bytes_eq key k.items ≡ b → list_any (stands key) ks ≡ b || list_any (stands key) ks
    found e true s = ap (λ x. list_any (stands x) ks) ((bytes_eq-Decides key k.items).0 s) ∙ e
    found e false s = refl

    there : list_any (same_key k) ks ≡ true → list_any (stands key) (insert_key same_key ks k) ≡ bytes_eq key k.items || list_any (stands key) ks
    there e = rw e (found e (bytes_eq key k.items) refl)

    absent : list_any (same_key k) ks ≡ false → list_any (stands key) (insert_key same_key ks k) ≡ bytes_eq key k.items || list_any (stands key) ks
    absent e = rw e (list_any-append (stands key) ks (k ∷ []) ∙ or_swap (list_any (stands key) ks) (bytes_eq key k.items))

-- one more name has its key put
pub key_more : (name n : List ℕ) (old new : List (Vec ℕ)) (k : Vec ℕ) (left : Bool) → new ≡ insert_key same_key old k → k.items ≡ key_of n → list_any (stands (key_of name)) new || left ≡ list_any (stands (key_of name)) old || (same_entry n name || left)
key_more name n old new k left put is =
    ap (λ b. b || left) (ap (list_any (stands (key_of name))) put ∙ put_in (key_of name) old k)
    ∙ ap (λ b. (b || list_any (stands (key_of name)) old) || left) (ap (bytes_eq (key_of name)) is ∙ sym (same_by_key name n) ∙ same_sym name n)
    ∙ regroup (same_entry n name) (list_any (stands (key_of name)) old) left

-- the entries whose keys are not among these are those of other names
module _ (gone : NameKeys) (names : List (List ℕ)) (same : (name : List ℕ) → has_key gone (key_of name) ≡ is_named names name) where
  same_at : (p : Vec ℕ × NamedValue) → p.0.items ≡ key_of p.1.name → not (has_key gone p.0.items) ≡ not (is_named names p.1.name)
  same_at p keyed = ap (λ k. not (has_key gone k)) keyed ∙ ap not (same p.1.name)

  pub left_values : (ps : List (Vec ℕ × NamedValue)) → AreKeyed ps → values_of (filter (λ p. not (has_key gone p.0.items)) ps) ≡ filter (λ e. not (is_named names e.name)) (values_of ps)
  left_values [] h = refl
  left_values (p ∷ ps) h =
      let at = same_at p h.0 in
      ⊎_elim
      (λ e. let s : not (is_named names p.1.name) ≡ true = sym at ∙ e in rw (e, s) (ap (λ l. p.1 ∷ l) (left_values ps h.1)))
      (λ e. let s : not (is_named names p.1.name) ≡ false = sym at ∙ e in rw (e, s) (left_values ps h.1))
      (cases_Bool (not (has_key gone p.0.items)))

-- some of what stands under its key
pub left_keyed : (test : Vec ℕ × NamedValue → Bool) (ps : List (Vec ℕ × NamedValue)) → AreKeyed ps → AreKeyed (filter test ps)
left_keyed test [] h = tt
left_keyed test (p ∷ ps) h = ⊎_elim (λ e. rw e (h.0, left_keyed test ps h.1)) (λ e. rw e (left_keyed test ps h.1)) (cases_Bool (test p))

not_either : (a b : Bool) → not (a || b) ≡ not a && not b
not_either true b = refl
not_either false b = refl

-- taken away one name after another, or all at once
pub all_at_once : (names : List (List ℕ)) (es : List NamedValue) → without_all names es ≡ filter (λ e. not (is_named names e.name)) es
all_at_once [] es = sym (filter_all (λ e. not (is_named [] e.name)) (λ e. refl) es)
all_at_once (n ∷ ns) es =
    all_at_once ns (without n es)
    ∙ filter_both (λ e. not (is_named ns e.name)) (λ e. not (same_entry n e.name)) (λ e. not (is_named (n ∷ ns) e.name)) (λ e. not_either (same_entry n e.name) (is_named ns e.name)) es
