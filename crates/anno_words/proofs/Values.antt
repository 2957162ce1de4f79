-- Values of switches among items of which none is wrong.
use Rattle.std.proofs.Common.{◌≡◌, ◌++◌, ◌-◌, ℕ, zero, suc, Bool, true, false, List, [], ◌∷◌, Option, Some, None, length, refl, subst}
use Rattle.std.specs.Prelude.{◌==◌, slice_get, if◌then◌else◌}
use Rattle.std.proofs.lemmas.Bool.Decides.{Decides-eqb}
use Rattle.mh_words.specs.declared.item.Item.{Item}
use Rattle.mh_words.specs.declared.item.Item.TheVariants.{Component, Folder, Message, Switch}
use Rattle.command_words.specs.BadValues.{first_of}
use Rattle.command_words.specs.Switches.{last_of, value_in, values}
use Rattle.anno_words.specs.WrongValues.{is_wrong, wrong_in, wrong_values}

both_nil : (xs ys : List ℕ) → xs ++ ys ≡ [] → (xs ≡ []) × (ys ≡ [])
both_nil [] ys e = (refl, e)
both_nil (x ∷ xs) ys e = cc (e)

pub none_of : (places : List ℕ) → first_of places ≡ None → places ≡ []
none_of [] e = refl
none_of (place ∷ places) e = cc (e)

-- each value of the switch is so, where all are so that are not wrong
module _ (at : ℕ) (Good : List ℕ → Type 0) (so : (value : List ℕ) → is_wrong at value ≡ false → Good value) where
  abbrev AllSo : List (List ℕ) → Type 0
  AllSo [] = Unit {0}
  AllSo (value ∷ rest) = Good value × AllSo rest

  so_both : (xs ys : List (List ℕ)) → AllSo xs → AllSo ys → AllSo (xs ++ ys)
  so_both [] ys f g = g
  so_both (x ∷ xs) ys f g = (f.0, so_both xs ys f.1 g)

  value_so : (item : Item) → wrong_in item ≡ [] → AllSo (value_in at item)
  value_so (Folder text place) e = tt
  value_so (Message text place) e = tt
  value_so (Component name value place) e = tt
  value_so (Switch index None place) e = tt
  value_so (Switch index (Some value) place) e = go (index == at) refl (is_wrong index value) refl e
    where
      go : (b : Bool) → (index == at) ≡ b → (w : Bool) → is_wrong index value ≡ w → (if w then place ∷ [] else []) ≡ [] → AllSo (if b then value ∷ [] else [])
      go false other w wrong none = tt
      go true same true wrong none = cc (none)
      go true same false wrong none = (so value (subst (λ i. is_wrong i value ≡ false) ((Decides-eqb index at).0 same) wrong), tt)

  values_so : (items : List Item) → wrong_values items ≡ [] → AllSo (values at items)
  values_so [] e = tt
  values_so (item ∷ items) e = let parts = both_nil (wrong_in item) (wrong_values items) e in so_both (value_in at item) (values at items) (value_so item parts.0) (values_so items parts.1)

  got_so : (vs : List (List ℕ)) (i : ℕ) (v : List ℕ) → AllSo vs → slice_get vs i ≡ Some v → Good v
  got_so [] i v f e = cc (e)
  got_so (x ∷ xs) zero v f e = let same : x ≡ v = cc (e) in subst Good same f.0
  got_so (x ∷ xs) (suc i) v f e = got_so xs i v f.1 e

  -- so is the last
  pub last_so : (items : List Item) → wrong_values items ≡ [] → (v : List ℕ) → last_of (values at items) ≡ Some v → Good v
  last_so items none v e = got_so (values at items) (length (values at items) - 1) v (values_so items none) e
