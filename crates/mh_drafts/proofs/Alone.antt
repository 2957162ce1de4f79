-- Items write one tree at most.
use Rattle.std.proofs.Common.{◌≡◌, List, [], ◌∷◌, ◌++◌, refl, sym, ◌∙◌, append_assoc, append-nil}
use Rattle.mh_drafts.specs.declared.item.Item.{Item}
use Rattle.mh_drafts.specs.declared.item.Item.TheVariants.{Leaf as leaf_item, Begin as begin_item, End as end_item}
use Rattle.mh_drafts.specs.Drafts.{Parts, none, leaf, multipart, written}

-- no part begins there
IsOver : List Item → Type 0
IsOver [] = Unit {0}
IsOver (leaf_item l ∷ items) = ⊥
IsOver (begin_item kind ∷ items) = ⊥
IsOver (end_item ∷ items) = Unit {0}

record Same (p q : Parts) (a b : List Item) : Type 0 where
  pub parts : p ≡ q
  pub rest : a ≡ b

over_leaf : (l : _) (a items : List Item) → IsOver a → a ≡ leaf_item l ∷ items → ⊥
unfolding IsOver
over_leaf l [] items o e = cc
over_leaf l (leaf_item m ∷ a) items o e = o
over_leaf l (begin_item kind ∷ a) items o e = o
over_leaf l (end_item ∷ a) items o e = cc

over_begin : (kind : _) (a items : List Item) → IsOver a → a ≡ begin_item kind ∷ items → ⊥
unfolding IsOver
over_begin kind [] items o e = cc
over_begin kind (leaf_item m ∷ a) items o e = o
over_begin kind (begin_item k ∷ a) items o e = o
over_begin kind (end_item ∷ a) items o e = cc

over_end : (items : List Item) → IsOver (end_item ∷ items)
unfolding IsOver
over_end items = tt

over_none : IsOver []
unfolding IsOver
over_none = tt

same : (p q : Parts) (a b : List Item) → IsOver a → IsOver b → written p ++ a ≡ written q ++ b → Same p q a b
unfolding written
same none none a b o u e = record { parts = refl; rest = e }
same none (leaf l q) a b o u e = absurd (over_leaf l a (written q ++ b) o e)
same none (multipart kind q r) a b o u e = absurd (over_begin kind a ((written q ++ end_item ∷ written r) ++ b) o e)
same (leaf l p) none a b o u e = absurd (over_leaf l b (written p ++ a) u (sym e))
same (leaf l p) (leaf m q) a b o u e =
    let first : l ≡ m = cc in
    let more : written p ++ a ≡ written q ++ b = cc in
    let s = same p q a b o u more in
    record { parts = λ i. leaf (first i) (s.parts i); rest = s.rest }
same (leaf l p) (multipart kind q r) a b o u e = cc
same (multipart kind p r) none a b o u e = absurd (over_begin kind b ((written p ++ end_item ∷ written r) ++ a) u (sym e))
same (multipart kind p r) (leaf l q) a b o u e = cc
same (multipart kind p r) (multipart other q t) a b o u e =
    let first : kind ≡ other = cc in
    let tails : (written p ++ end_item ∷ written r) ++ a ≡ (written q ++ end_item ∷ written t) ++ b = cc in
    let inner = same p q (end_item ∷ (written r ++ a)) (end_item ∷ (written t ++ b)) (over_end (written r ++ a)) (over_end (written t ++ b))
    (sym (append_assoc (written p) (end_item ∷ written r) a) ∙ tails ∙ append_assoc (written q) (end_item ∷ written t) b) in
    let ends = inner.rest in
    let behind : written r ++ a ≡ written t ++ b = cc in
    let outer = same r t a b o u behind in
    record { parts = λ i. multipart (first i) (inner.parts i) (outer.parts i); rest = outer.rest }

pub one_tree : (p q : Parts) → written p ≡ written q → p ≡ q
one_tree p q e = (same p q [] [] over_none over_none (append-nil (written p) ∙ e ∙ sym (append-nil (written q)))).parts
