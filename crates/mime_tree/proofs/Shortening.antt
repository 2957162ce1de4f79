-- What is read of a content type is some of it.
use Rattle.std.proofs.Common.{◌≡◌, ℕ, zero, suc, ◌+◌, ◌<◌, ◌≤◌, Bool, true, false, Option, Some, None, List, [], ◌∷◌, ◌++◌, length, drop, refl, sym, ◌∙◌, ap, arith, length-drop, append_assoc, append-nil}
use Rattle.std.specs.Prelude.{◌==◌, option_map, option_and_then, slice_index, if◌then◌else◌}
use Rattle.std.specs.List.{prefix_len}
use Rattle.mime_tree.specs.declared.gap.Nesting.{Nesting}
use Rattle.mime_tree.specs.declared.gap.Nesting.TheVariants.{Between, Inside, Protected}
use Rattle.mime_tree.specs.declared.param.Param.{Param}
use Rattle.mime_tree.specs.Gaps.{place_behind, at_end, begun, behind_gap_at, behind_gap}
use Rattle.mime_tree.specs.Tokens.{Taken, is_token, taken_at, token_in, closing, quoted_in, worth_in, with_gap, behind_sign, word_in}
use Rattle.mime_tree.specs.Params.{TakenParam, param_named, named_in, param_in, with_param, params_up_to, params_in}

pub then_is : {A B : Type 0} (f : A → Option B) (o : Option A) (y : B) → option_and_then f o ≡ Some y → (x : A) × (o ≡ Some x) × (f x ≡ Some y)
then_is f None y e = cc
then_is f (Some x) y e = (x, refl, e)

pub map_is : {A B : Type 0} (f : A → B) (o : Option A) (y : B) → option_map f o ≡ Some y → (x : A) × (o ≡ Some x) × (f x ≡ y)
map_is f None y e = cc
map_is f (Some x) y e = (x, refl, cc)

end_le : (place : Nesting) (r : List ℕ) → at_end place ≡ Some r → length r ≤ 0
end_le Between r e = let none : [] ≡ r = cc in rw (← none) (omega arith)
end_le (Inside depth) r e = cc
end_le (Protected depth) r e = cc

gap_at_le : (text : List ℕ) (place : Nesting) (r : List ℕ) → behind_gap_at place text ≡ Some r → length r ≤ length text
unfolding behind_gap_at
gap_at_le [] place r e = end_le place r e
gap_at_le (c ∷ rest) place r e = choose (place_behind place c) (λ next. gap_at_le rest next r) e
  where
    choose : (o : Option Nesting) → ((next : Nesting) → behind_gap_at next rest ≡ Some r → length r ≤ length rest) → begun (c ∷ rest) o (λ next. behind_gap_at next rest) ≡ Some r → length r ≤ length (c ∷ rest)
    choose None more e = let same : c ∷ rest ≡ r = cc in rw (← same) (omega arith)
    choose (Some next) more e = let h = more next e in omega arith

gap_le : (text r : List ℕ) → behind_gap text ≡ Some r → length r ≤ length text
gap_le text r e = gap_at_le text Between r e

with_gap_le : (t u : Taken) → with_gap t ≡ Some u → length u.rest ≤ length t.rest
with_gap_le t u e =
    let m = map_is (λ rest. record { value = t.value; rest = rest }) (behind_gap t.rest) u e in
    let h = gap_le t.rest m.0 m.1 in
    rw (← m.2) h

taken_le : (len behind : ℕ) (text : List ℕ) → length (taken_at len behind text).rest ≤ length text
taken_le len behind text = omega (arith, length-drop behind text)

pub token_le : (text : List ℕ) (t : Taken) → token_in text ≡ Some t → length t.rest ≤ length text
token_le text t e = choose (prefix_len is_token text == 0) e
  where
    choose : (b : Bool) → (if b then None else Some (taken_at (prefix_len is_token text) (prefix_len is_token text) text)) ≡ Some t → length t.rest ≤ length text
    choose true e = cc
    choose false e = let same : taken_at (prefix_len is_token text) (prefix_len is_token text) text ≡ t = cc in rw (← same) (taken_le (prefix_len is_token text) (prefix_len is_token text) text)

quoted_le : (text : List ℕ) (t : Taken) → quoted_in text ≡ Some t → length t.rest ≤ length text
quoted_le text t e =
    let m = map_is (λ n. taken_at n (n + 1) text) (closing false text) t e in
    rw (← m.2) (taken_le m.0 (m.0 + 1) text)

pub worth_le : (text : List ℕ) (t : Taken) → worth_in text ≡ Some t → length t.rest ≤ length text
worth_le text t e = choose (slice_index text 0 == 34) e
  where
    choose : (b : Bool) → (if b then quoted_in (drop 1 text) else token_in text) ≡ Some t → length t.rest ≤ length text
    choose true e = let h = quoted_le (drop 1 text) t e in omega (arith, length-drop 1 text)
    choose false e = token_le text t e

sign_lt : (sign : ℕ) (text r : List ℕ) → behind_sign sign text ≡ Some r → length r < length text
sign_lt sign [] r e = cc
sign_lt sign (c ∷ rest) r e = choose (c == sign) e
  where
    choose : (b : Bool) → (if b then behind_gap rest else None) ≡ Some r → length r < length (c ∷ rest)
    choose true e = let h = gap_le rest r e in omega arith
    choose false e = cc

word_le : (text : List ℕ) (t : Taken) → word_in text ≡ Some t → length t.rest ≤ length text
word_le text t e =
    let m = then_is with_gap (token_in text) t e in
    let a = token_le text m.0 m.1 in
    let b = with_gap_le m.0 t m.2 in
    omega arith

named_le : (name : Taken) (p : TakenParam) → named_in name ≡ Some p → length p.rest ≤ length name.rest
named_le name p e =
    let m = map_is (param_named name.value) (option_and_then (λ value. option_and_then with_gap (worth_in value)) (behind_sign 61 name.rest)) p e in
    let v = then_is (λ value. option_and_then with_gap (worth_in value)) (behind_sign 61 name.rest) m.0 m.1 in
    let w = then_is with_gap (worth_in v.0) m.0 v.2 in
    let a = sign_lt 61 name.rest v.0 v.1 in
    let b = worth_le v.0 w.0 w.1 in
    let d = with_gap_le w.0 m.0 w.2 in
    rw (← m.2) (omega arith)

-- a parameter is some bytes
pub param_lt : (text : List ℕ) (p : TakenParam) → param_in text ≡ Some p → length p.rest < length text
param_lt text p e =
    let m = then_is named_in (option_and_then word_in (behind_sign 59 text)) p e in
    let w = then_is word_in (behind_sign 59 text) m.0 m.1 in
    let a = sign_lt 59 text w.0 w.1 in
    let b = word_le w.0 m.0 w.2 in
    let d = named_le m.0 p m.2 in
    omega arith

-- more than enough parameters are no other parameters
enough : (n m : ℕ) (text : List ℕ) → length text ≤ n → length text ≤ m → params_up_to n text ≡ params_up_to m text
enough n m [] p q = refl
enough zero m (c ∷ text) p q = absurd (omega arith)
enough (suc n) zero (c ∷ text) p q = absurd (omega arith)
enough (suc n) (suc m) (c ∷ text) p q = choose (param_in (c ∷ text)) (enough n m) refl
  where
    choose : (o : Option TakenParam) → ((rest : List ℕ) → length rest ≤ n → length rest ≤ m → params_up_to n rest ≡ params_up_to m rest) → param_in (c ∷ text) ≡ o →
        with_param o (params_up_to n) ≡ with_param o (params_up_to m)
    choose None more e = refl
    choose (Some t) more e =
        let lt = param_lt (c ∷ text) t e in
        ap (option_map (λ params. t.param ∷ params)) (more t.rest (omega arith) (omega arith))

pub params_none : params_in [] ≡ Some []
unfolding params_in
params_none = refl

no_param : (c : ℕ) (text : List ℕ) → param_in (c ∷ text) ≡ None → params_in (c ∷ text) ≡ None
unfolding params_in
no_param c text e = rw e refl

one_param : (c : ℕ) (text : List ℕ) (t : TakenParam) → param_in (c ∷ text) ≡ Some t → params_in (c ∷ text) ≡ option_map (λ params. t.param ∷ params) (params_in t.rest)
unfolding params_in
one_param c text t e =
    let lt = param_lt (c ∷ text) t e in
    rw e (ap (option_map (λ params. t.param ∷ params)) (enough (length text) (length t.rest) t.rest (omega arith) (omega arith)))

pub params_fail : (rest : List ℕ) (params : List Param) (all : Option (List Param)) → 0 < length rest → param_in rest ≡ None → option_map (λ ps. params ++ ps) (params_in rest) ≡ all → None ≡ all
params_fail [] params all some e inv = absurd (omega arith)
params_fail (c ∷ text) params all some e inv = ap (option_map (λ ps. params ++ ps)) (sym (no_param c text e)) ∙ inv

regroup : (params : List Param) (p : Param) (o : Option (List Param)) → option_map (λ ps. (params ++ p ∷ []) ++ ps) o ≡ option_map (λ ps. params ++ ps) (option_map (λ ps. p ∷ ps) o)
regroup params p None = refl
regroup params p (Some ps) = ap Some (append_assoc params (p ∷ []) ps)

pub params_go : (rest : List ℕ) (params new : List Param) (t : TakenParam) (p : Param) (all : Option (List Param)) → 0 < length rest → param_in rest ≡ Some t → p ≡ t.param → new ≡ params ++ p ∷ [] →
    option_map (λ ps. params ++ ps) (params_in rest) ≡ all → option_map (λ ps. new ++ ps) (params_in t.rest) ≡ all
params_go [] params new t p all some e is pushed inv = absurd (omega arith)
params_go (c ∷ text) params new t p all some e is pushed inv =
    rw (pushed, is) (regroup params t.param (params_in t.rest)) ∙ ap (option_map (λ ps. params ++ ps)) (sym (one_param c text t e)) ∙ inv

pub params_done : (rest : List ℕ) (params : List Param) (all : Option (List Param)) → rest ≡ [] → option_map (λ ps. params ++ ps) (params_in rest) ≡ all → Some params ≡ all
params_done [] params all none inv = ap Some (sym (append-nil params)) ∙ ap (option_map (λ ps. params ++ ps)) (sym params_none) ∙ inv
params_done (c ∷ text) params all none inv = cc

pub no_front : (o : Option (List Param)) → option_map (λ ps. [] ++ ps) o ≡ o
no_front None = refl
no_front (Some ps) = refl

pub no_front_of : (params : List Param) (o : Option (List Param)) → params ≡ [] → option_map (λ ps. params ++ ps) o ≡ o
no_front_of params o e = rw e (no_front o)
