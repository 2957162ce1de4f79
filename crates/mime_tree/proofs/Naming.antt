-- Parameters by name.
use Rattle.std.proofs.Common.{◌≡◌, ℕ, suc, ◌+◌, ◌<◌, ◌≤◌, true, false, Option, Some, None, List, ◌∷◌, length, get_or, drop, refl, sym, ◌∙◌, ap, add-one}
use Rattle.std.proofs.Math.Seq.{drop-cons}
use Rattle.std.proofs.lemmas.List.{drop_all}
use Rattle.mime_tree.specs.declared.param.Param.{Param}
use Rattle.mime_tree.specs.ContentTypes.{is_word, param_value}

cut_params : (ps : List Param) (i : ℕ) (p : Param) → i < length ps → p ≡ get_or ps i p → drop i ps ≡ p ∷ drop (i + 1) ps
cut_params ps i p lt is = rw (add-one, drop-cons ps i p) (ap (λ x. x ∷ drop (suc i) ps) (sym is))

value_here : (name : List ℕ) (p : Param) (ps : List Param) → is_word p.name name ≡ true → param_value name (p ∷ ps) ≡ Some p.value
unfolding param_value
value_here name p ps e = rw e refl

value_later : (name : List ℕ) (p : Param) (ps : List Param) → is_word p.name name ≡ false → param_value name (p ∷ ps) ≡ param_value name ps
unfolding param_value
value_later name p ps e = rw e refl

pub named_here : (name : List ℕ) (ps : List Param) (i : ℕ) (p : Param) (r : Option (List ℕ)) → i < length ps → p ≡ get_or ps i p → is_word p.name name ≡ true → param_value name (drop i ps) ≡ r → r ≡ Some p.value
named_here name ps i p r lt is e inv = sym inv ∙ ap (param_value name) (cut_params ps i p lt is) ∙ value_here name p (drop (i + 1) ps) e

pub named_later : (name : List ℕ) (ps : List Param) (i : ℕ) (p : Param) (r : Option (List ℕ)) → i < length ps → p ≡ get_or ps i p → is_word p.name name ≡ false → param_value name (drop i ps) ≡ r → param_value name (drop (i + 1) ps) ≡ r
named_later name ps i p r lt is e inv = sym (ap (param_value name) (cut_params ps i p lt is) ∙ value_later name p (drop (i + 1) ps) e) ∙ inv

pub named_none : (name : List ℕ) (ps : List Param) (i : ℕ) (r : Option (List ℕ)) → length ps ≤ i → param_value name (drop i ps) ≡ r → r ≡ None
unfolding param_value
named_none name ps i r le inv = sym inv ∙ rw (drop_all i ps le) refl
