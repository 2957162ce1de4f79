-- The folders that words name, gathered one after another.
use Rattle.std.proofs.Common.{◌≡◌, ◌++◌, ◌∷◌, ◌||◌, ◌&&◌, [], ℕ, ◌+◌, ◌<◌, ◌≤◌, Bool, true, false, List, Ok, Err, refl, sym, ◌∙◌, ap, subst, drop, get_or, length, bytes_eq, append_assoc, append-nil, if◌then◌else◌}
use Rattle.std.specs.Prelude.{filter, not}
use Rattle.std.specs.List.{list_any}
use Rattle.std.proofs.lemmas.List.{drop_all}
use Rattle.std.proofs.lemmas.Slice.Eq.{bytes_eq-Decides}
use Rattle.folder_files.specs.declared.refusal.Refusal.TheVariants as refusal
use Rattle.file_plans.specs.Plan.{Return}
use Rattle.step_plans.specs.declared.command_fault.CommandFault.TheVariants as fault
use Rattle.step_plans.proofs.Rounds.{next}
use Rattle.refile_plans.specs.Refile.{each_once, names_without, unless_source}
use Rattle.refile_plans.specs.Targets.{is_named, with_name_unless, with_target}

-- a list that is filtered twice
filter_twice : (p q r : List ℕ → Bool) → ((y : List ℕ) → q y && p y ≡ r y) → (ys : List (List ℕ)) → filter p (filter q ys) ≡ filter r ys
filter_twice p q r agree [] = refl
filter_twice p q r agree (y ∷ ys) = go (q y) (p y) (r y) refl (agree y) (filter_twice p q r agree ys)
  where
    go : (a b c : Bool) → p y ≡ b → a && b ≡ c → filter p (filter q ys) ≡ filter r ys → filter p (if a then y ∷ filter q ys else filter q ys) ≡ (if c then y ∷ filter r ys else filter r ys)
    go true true c is e rest = rw (← e, is) (ap (λ zs. y ∷ zs) rest)
    go true false c is e rest = rw (← e, is) rest
    go false b c is e rest = rw (← e) rest

-- a name is the same as another one in either order
same_back : (a b : List ℕ) → bytes_eq a b ≡ true → bytes_eq b a ≡ true
same_back a b e = (bytes_eq-Decides b a).1 (sym ((bytes_eq-Decides a b).0 e))

swapped : (a b : List ℕ) → bytes_eq a b ≡ bytes_eq b a
swapped a b = go (bytes_eq a b) (bytes_eq b a) refl refl
  where
    go : (c d : Bool) → bytes_eq a b ≡ c → bytes_eq b a ≡ d → c ≡ d
    go true true e f = refl
    go true false e f = cc (sym (same_back a b e) ∙ f)
    go false true e f = cc (sym e ∙ same_back b a f)
    go false false e f = refl

any_last : (p : List ℕ → Bool) (xs : List (List ℕ)) (x : List ℕ) → list_any p (xs ++ x ∷ []) ≡ list_any p xs || p x
any_last p [] x = or_none (p x)
  where
    or_none : (b : Bool) → b || false ≡ b
    or_none true = refl
    or_none false = refl
any_last p (y ∷ xs) x = ap (λ b. p y || b) (any_last p xs x) ∙ joined (p y) (list_any p xs) (p x)
  where
    joined : (a b c : Bool) → a || (b || c) ≡ (a || b) || c
    joined true b c = refl
    joined false b c = refl

module _ (source : List ℕ) where
  -- the name is the source's, or there already
  abbrev is_had : List (List ℕ) → List ℕ → Bool
  is_had names y = bytes_eq y source || is_named y names

  -- these names but for those that are had
  abbrev others : List (List ℕ) → List (List ℕ) → List (List ℕ)
  others names ys = filter (λ y. not (is_had names y)) ys

  module _ (names : List (List ℕ)) (x : List ℕ) (ys : List (List ℕ)) where
    -- where the name is had, others of it fall out anyway
    falls_out : is_had names x ≡ true → (y : List ℕ) → not (bytes_eq y x) && not (is_had names y) ≡ not (is_had names y)
    falls_out had y = go (bytes_eq y x) refl
      where
        go : (b : Bool) → bytes_eq y x ≡ b → not b && not (is_had names y) ≡ not (is_had names y)
        go true e = let same : y ≡ x = (bytes_eq-Decides y x).0 e in let is : is_had names y ≡ true = ap (is_had names) same ∙ had in rw is refl
        go false e = refl

    -- else it is had from then on
    is_had_then : (y : List ℕ) → not (bytes_eq y x) && not (is_had names y) ≡ not (is_had (names ++ x ∷ []) y)
    is_had_then y = rw (any_last (λ other. bytes_eq other y) names x, swapped x y) (go (bytes_eq y x) (bytes_eq y source) (is_named y names))
      where
        go : (a b c : Bool) → not a && not (b || c) ≡ not (b || (c || a))
        go true true true = refl
        go true true false = refl
        go true false true = refl
        go true false false = refl
        go false true true = refl
        go false true false = refl
        go false false true = refl
        go false false false = refl

    -- one more name
    one_more : with_target source names x ++ others (with_target source names x) ys ≡ names ++ others names (x ∷ names_without x ys)
    one_more = go (is_had names x) refl
      where
        go : (b : Bool) → is_had names x ≡ b
            → with_name_unless b names x ++ others (with_name_unless b names x) ys ≡ names ++ (if not b then x ∷ others names (names_without x ys) else others names (names_without x ys))
        go true had = ap (λ zs. names ++ zs) (sym (filter_twice (λ y. not (is_had names y)) (λ y. not (bytes_eq y x)) (λ y. not (is_had names y)) (falls_out had) ys))
        go false new =
            append_assoc names (x ∷ []) (others (names ++ x ∷ []) ys)
            ∙ ap (λ zs. names ++ x ∷ zs) (sym (filter_twice (λ y. not (is_had names y)) (λ y. not (bytes_eq y x)) (λ y. not (is_had (names ++ x ∷ []) y)) is_had_then ys))

  -- what was gathered, and what is still to come
  abbrev pub IsOnWay : List (List ℕ) → List (List ℕ) → List (List ℕ) → Type 0
  IsOnWay all names left = names ++ others names (each_once left) ≡ names_without source (each_once all)

  -- at the begin nothing was gathered
  pub begins_empty : (all : List (List ℕ)) → IsOnWay all [] all
  begins_empty all = same (each_once all)
    where
      or_none : (b : Bool) → b || false ≡ b
      or_none true = refl
      or_none false = refl

      same : (ys : List (List ℕ)) → others [] ys ≡ names_without source ys
      same [] = refl
      same (y ∷ ys) = rw (or_none (bytes_eq y source), same ys) refl

  pub next_name : (all names : List (List ℕ)) (x : List ℕ) (left : List (List ℕ)) → IsOnWay all names (x ∷ left) → IsOnWay all (with_target source names x) left
  next_name all names x left way = one_more names x (each_once left) ∙ way

  pub next_at : (all names l : List (List ℕ)) (i : ℕ) (x : List ℕ) → i < length l → x ≡ get_or l i x → IsOnWay all names (drop i l) → IsOnWay all (with_target source names x) (drop (i + 1) l)
  next_at all names l i x lt is way = next_name all names x (drop (i + 1) l) (subst (λ z. IsOnWay all names z) (next l i x lt is) way)

  pub all_gathered : (all names l : List (List ℕ)) (i : ℕ) → length l ≤ i → IsOnWay all names (drop i l) → names ≡ names_without source (each_once all)
  all_gathered all names l i le way = sym (append-nil names) ∙ subst (λ z. IsOnWay all names z) (drop_all i l le) way

  -- one of the names is the source's, whether each counts once or not
  none_lost : (x : List ℕ) → bytes_eq x source ≡ false → (ys : List (List ℕ)) → list_any (λ name. bytes_eq name source) (names_without x ys) ≡ list_any (λ name. bytes_eq name source) ys
  none_lost x other [] = refl
  none_lost x other (y ∷ ys) = go (bytes_eq y x) refl (none_lost x other ys)
    where
      go : (b : Bool) → bytes_eq y x ≡ b → list_any (λ name. bytes_eq name source) (names_without x ys) ≡ list_any (λ name. bytes_eq name source) ys → list_any (λ name. bytes_eq name source) (if not b then y ∷ names_without x ys else names_without x ys) ≡ bytes_eq y source || list_any (λ name. bytes_eq name source) ys
      go true e rest = let same : y ≡ x = (bytes_eq-Decides y x).0 e in rw (same, other) rest
      go false e rest = ap (λ b. bytes_eq y source || b) rest

  pub any_once : (xs : List (List ℕ)) → list_any (λ name. bytes_eq name source) (each_once xs) ≡ list_any (λ name. bytes_eq name source) xs
  any_once [] = refl
  any_once (x ∷ xs) = go (bytes_eq x source) refl (any_once xs)
    where
      go : (b : Bool) → bytes_eq x source ≡ b → list_any (λ name. bytes_eq name source) (each_once xs) ≡ list_any (λ name. bytes_eq name source) xs → b || list_any (λ name. bytes_eq name source) (names_without x (each_once xs)) ≡ b || list_any (λ name. bytes_eq name source) xs
      go true e rest = refl
      go false e rest = none_lost x e (each_once xs) ∙ rest

  pub other_named : (target : List ℕ) (names : List (List ℕ)) (named : Bool) → bytes_eq target source ≡ false → named ≡ list_any (λ other. bytes_eq other source) names → named ≡ list_any (λ name. bytes_eq name source) (each_once (target ∷ names))
  other_named target names named other is = is ∙ (ap (λ b. b || list_any (λ other. bytes_eq other source) names) (sym other) ∙ sym (any_once (target ∷ names)))

-- what comes where the source is a destination, and where it is none
pub not_apart : (named : Bool) (source : List ℕ) → named ≡ true → unless_source named source ≡ Return (Err (fault.Refused (refusal.SameFolder source)))
not_apart named source is = rw is refl

pub apart_is : (named : Bool) (source : List ℕ) → named ≡ false → unless_source named source ≡ Return (Ok tt)
apart_is named source is = rw is refl
