-- Places among items, one after another.
use Rattle.std.proofs.Common.{◌≡◌, ◌++◌, ◌∷◌, [], ◌+◌, ◌<◌, ◌≤◌, ℕ, suc, List, Some, None, length, drop, get_or, add-one, sym, ◌∙◌, ap}
use Rattle.std.proofs.Math.Seq.{drop-cons}
use Rattle.std.proofs.lemmas.List.{drop_all}
use Rattle.mh_words.specs.declared.item.Item.{Item}
use Rattle.std.specs.List.{flat_map}
use Rattle.command_words.specs.BadValues.{first_of}

next : (l : List Item) (i : ℕ) (x : Item) → i < length l → x ≡ get_or l i x → drop i l ≡ x ∷ drop (i + 1) l
next l i x h is = rw (add-one, drop-cons l i x) (ap (λ y. y ∷ drop (suc i) l) (sym is))

none_first : (here rest all : List ℕ) → first_of here ≡ None → here ++ rest ≡ all → rest ≡ all
none_first [] rest all e left = left
none_first (p ∷ ps) rest all e left = cc (e)

some_first : (here rest all : List ℕ) (place : ℕ) → first_of here ≡ Some place → here ++ rest ≡ all → Some place ≡ first_of all
some_first [] rest all place e left = cc (e)
some_first (p ∷ ps) rest all place e left = sym e ∙ ap first_of left

-- an item that has no place is passed, one that has one is the first, or none was met
pub passed : (f : Item → List ℕ) (items : List Item) (i : ℕ) (item : Item) (all : List ℕ) → i < length items → item ≡ get_or items i item → first_of (f item) ≡ None → flat_map f (drop i items) ≡ all → flat_map f (drop (i + 1) items) ≡ all
passed f items i item all h is none left = none_first (f item) (flat_map f (drop (i + 1) items)) all none (ap (flat_map f) (sym (next items i item h is)) ∙ left)

pub met : (f : Item → List ℕ) (items : List Item) (i : ℕ) (item : Item) (place : ℕ) (all : List ℕ) → i < length items → item ≡ get_or items i item → first_of (f item) ≡ Some place → flat_map f (drop i items) ≡ all → Some place ≡ first_of all
met f items i item place all h is some left = some_first (f item) (flat_map f (drop (i + 1) items)) all place some (ap (flat_map f) (sym (next items i item h is)) ∙ left)

pub none_met : (f : Item → List ℕ) (items : List Item) (i : ℕ) (all : List ℕ) → length items ≤ i → flat_map f (drop i items) ≡ all → None ≡ first_of all
none_met f items i all h left = ap first_of (ap (flat_map f) (sym (drop_all i items h)) ∙ left)
