-- One item after another.
use Rattle.std.proofs.Common.{◌≡◌, ℕ, ◌+◌, ◌<◌, ◌≤◌, false, List, [], ◌∷◌, ◌++◌, None, Option, drop, get_or, length, Result, Ok, Err, subst, sym, ap, ◌∙◌, codes, append-nil}
use Rattle.std.specs.Prelude.{IfOk, IfErr}
use Rattle.std.proofs.lemmas.List.{drop_more, drop_all}
use Rattle.mh_words.specs.declared.item.Item.{Item}
use Rattle.pick_expr.specs.declared.expr.Progress.{Progress}
use Rattle.pick_expr.specs.declared.fault.ExprFault.{ExprFault}
use Rattle.pick_expr.specs.declared.expr.Expr.{Expr}
use Rattle.pick_expr.specs.Progress.{Continues, ended, fault_in, IsFaultOf, words_in}
use Rattle.pick_expr.specs.Signs.{Day, signs_in}
use Rattle.pick_expr.specs.Spots.{spot_of}
use Rattle.pick_expr.specs.Steps.{at_start}

-- what is left to read comes to the same as all of it
pub record IsOn (day : Day) (items : List Item) (at : ℕ) (p : Progress) : Type 0 where
  pub fault : (end : ℕ) → fault_in end (signs_in day items (codes "date")) at_start false ≡ fault_in end (signs_in day (drop at items) p.field) (spot_of p.reader) p.is_begun
  pub words : words_in (signs_in day items (codes "date")) ≡ p.words ++ words_in (signs_in day (drop at items) p.field)

pub is_on_first : (day : Day) (items : List Item) (p : Progress) → spot_of p.reader ≡ at_start → p.words ≡ [] → p.field ≡ codes "date" → p.is_begun ≡ false → IsOn day items 0 p
is_on_first day items p is_spot is_words is_field is_none = record {
  fault = λ end. (λ i. fault_in end (signs_in day items (sym is_field i)) (sym is_spot i) (sym is_none i));
  words = (λ i. sym is_words i ++ words_in (signs_in day items (sym is_field i)));
}

split_items : (items : List Item) (at : ℕ) (item : Item) → at < length items → item ≡ get_or items at item → drop at items ≡ item ∷ drop (at + 1) items
split_items items at item within there = drop_more items at item within ∙ ap (λ z. z ∷ drop (at + 1) items) (sym there)

pub is_on_next : (day : Day) (items : List Item) (at : ℕ) (item : Item) (old new : Progress) → IsOn day items at old → at < length items → item ≡ get_or items at item
    → ((rest : List Item) → Continues old new (signs_in day (item ∷ rest) old.field) (signs_in day rest new.field)) → IsOn day items (at + 1) new
is_on_next day items at item old new now within there goes =
    let split = split_items items at item within there in
    let on = goes (drop (at + 1) items) in
    record {
      fault = λ end. now.fault end ∙ ap (λ z. fault_in end (signs_in day z old.field) (spot_of old.reader) old.is_begun) split ∙ on.fault end;
      words = now.words ∙ ap (λ z. old.words ++ words_in (signs_in day z old.field)) split ∙ on.words;
    }

same_fault : (x y : Option ExprFault) (e : ExprFault) → x ≡ y → IsFaultOf y e → IsFaultOf x e
same_fault x y e p h = subst (λ (z : Option ExprFault). IsFaultOf z e) (sym p) h

pub fault_next : (day : Day) (items : List Item) (at : ℕ) (item : Item) (old : Progress) (e : ExprFault) → IsOn day items at old → at < length items → item ≡ get_or items at item
    → ((rest : List Item) (end : ℕ) → IsFaultOf (fault_in end (signs_in day (item ∷ rest) old.field) (spot_of old.reader) old.is_begun) e)
    → (end : ℕ) → IsFaultOf (fault_in end (signs_in day items (codes "date")) at_start false) e
fault_next day items at item old e now within there h end =
    same_fault _ _ e (now.fault end ∙ ap (λ z. fault_in end (signs_in day z old.field) (spot_of old.reader) old.is_begun) (split_items items at item within there)) (h (drop (at + 1) items) end)

at_end : (day : Day) (items : List Item) (at : ℕ) (p : Progress) → IsOn day items at p → length items ≤ at → (end : ℕ) → fault_in end (signs_in day items (codes "date")) at_start false ≡ ended end (spot_of p.reader) p.is_begun
at_end day items at p now over end = now.fault end ∙ ap (λ z. fault_in end (signs_in day z p.field) (spot_of p.reader) p.is_begun) (drop_all at items over)

all_words : (day : Day) (items : List Item) (at : ℕ) (p : Progress) → IsOn day items at p → length items ≤ at → words_in (signs_in day items (codes "date")) ≡ p.words
all_words day items at p now over = now.words ∙ ap (λ z. p.words ++ words_in (signs_in day z p.field)) (drop_all at items over) ∙ append-nil p.words

pub end_ok : (day : Day) (items : List Item) (at : ℕ) (p : Progress) (end : ℕ) (r : Result Expr ExprFault) → IsOn day items at p → length items ≤ at
    → IfOk r (λ e. e.words ≡ p.words) → IfOk r (λ _. ended end (spot_of p.reader) p.is_begun ≡ None)
    → IfOk r (λ e. (fault_in end (signs_in day items (codes "date")) at_start false ≡ None) × (e.words ≡ words_in (signs_in day items (codes "date"))))
end_ok day items at p end (Ok e) now over is_words fine = (at_end day items at p now over end ∙ fine, is_words ∙ sym (all_words day items at p now over))
end_ok day items at p end (Err e) now over is_words fine = tt

pub end_err : (day : Day) (items : List Item) (at : ℕ) (p : Progress) (end : ℕ) (r : Result Expr ExprFault) → IsOn day items at p → length items ≤ at
    → IfErr r (λ e. IsFaultOf (ended end (spot_of p.reader) p.is_begun) e) → IfErr r (IsFaultOf (fault_in end (signs_in day items (codes "date")) at_start false))
end_err day items at p end (Ok e) now over h = tt
end_err day items at p end (Err e) now over h = same_fault _ _ e (at_end day items at p now over end) h
