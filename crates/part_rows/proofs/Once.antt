-- No two parts of a message have one path, so each part that is named is told of once.
use Rattle.std.proofs.Common.{◌≡◌, ◌≤◌, ◌+◌, ℕ, zero, suc, Bool, true, false, List, [], ◌∷◌, ◌++◌, length, refl, ap, sym, subst, ◌∙◌, arith, append_assoc, length-append}
use Rattle.std.specs.Prelude.{◌==◌}
use Rattle.std.specs.List.{filter}
use Rattle.std.proofs.lemmas.List.Elements.{filter-append}
use Rattle.std.proofs.lemmas.Slice.Eq.{bytes_eq-Decides}
use Rattle.mime_tree.specs.declared.span.Span.{Span}
use Rattle.mime_tree.specs.ContentTypes.{fallback_in}
use Rattle.mime_tree.specs.Spans.{whole}
use Rattle.mime_tree.specs.Trees.{kids_at, odd_at, type_at}
use Rattle.part_rows.specs.Choices.{has_path, is_listed, is_stored, listed, stored}
use Rattle.part_rows.specs.PartViews.{Fallback, PartView, parts_at, parts_of, plain_text, view_at, within}
use Rattle.part_rows.proofs.Naming.{AreBelow, filter_no, filter_yes, none_named, not_other, not_parent, parts_below}

-- at most one of these parts has this path
abbrev IsOnce : List ℕ → List PartView → Type 0
IsOnce path parts = length (filter (has_path path) parts) ≤ 1

-- a path that a part has begins with the path of a part that this one lies in
begins_by : (t : Bool) (base path : List ℕ) (part : PartView) (parts : List PartView) → has_path path part ≡ t → AreBelow base (part ∷ parts)
    → (1 ≤ length (filter (has_path path) parts) → (rest : List ℕ) × (path ≡ base ++ rest)) → 1 ≤ length (filter (has_path path) (part ∷ parts)) → (rest : List ℕ) × (path ≡ base ++ rest)
begins_by true base path part parts e below more some = (below.0.0, (bytes_eq-Decides path part.path).0 e ∙ below.0.1)
begins_by false base path part parts e below more some = more (omega (arith, some, ap length (filter_no (has_path path) part parts e)))

begins : (base path : List ℕ) (parts : List PartView) → AreBelow base parts → 1 ≤ length (filter (has_path path) parts) → (rest : List ℕ) × (path ≡ base ++ rest)
begins base path [] below some = absurd (omega (arith, some))
begins base path (part ∷ parts) below some = begins_by (has_path path part) base path part parts refl below (begins base path parts below.1) some

module _ (levels : ℕ) (bytes : List ℕ) (inner : Fallback) (base path : List ℕ) (each : (kid_path : List ℕ) (span : Span) → IsOnce path (parts_at levels bytes inner kid_path span)) where
  abbrev parts : List ℕ → Span → List PartView
  parts = parts_at levels bytes inner

  -- the path is among those of one kid's parts, and so of no other's
  here_by : (n m : ℕ) (span : Span) (spans : List Span) → n ≡ length (filter (has_path path) (parts (base ++ m ∷ []) span)) → IsOnce path (within parts base (m + 1) spans) → IsOnce path (within parts base m (span ∷ spans))
  here_by zero m span spans e rest =
      let both = ap length (filter-append (has_path path) (parts (base ++ m ∷ []) span) (within parts base (m + 1) spans)) in
      let sum = length-append (filter (has_path path) (parts (base ++ m ∷ []) span)) (filter (has_path path) (within parts base (m + 1) spans)) in
      omega (arith, both, sum, e, rest)
  here_by (suc n) m span spans e rest =
      let both = ap length (filter-append (has_path path) (parts (base ++ m ∷ []) span) (within parts base (m + 1) spans)) in
      let sum = length-append (filter (has_path path) (parts (base ++ m ∷ []) span)) (filter (has_path path) (within parts base (m + 1) spans)) in
      let found = begins (base ++ m ∷ []) path (parts (base ++ m ∷ []) span) (parts_below levels bytes inner (base ++ m ∷ []) span) (omega (arith, e)) in
      let none = none_named levels bytes inner base path (m + 1) spans
      (λ k le more s. not_other base found.0 more k m (λ q. omega (arith, le, q)) (s ∙ found.1 ∙ append_assoc base (m ∷ []) found.0)) in
      omega (arith, both, sum, each (base ++ m ∷ []) span, ap length none)

  within_once : (m : ℕ) (spans : List Span) → IsOnce path (within parts base m spans)
  within_once m [] = omega arith
  within_once m (span ∷ spans) = here_by (length (filter (has_path path) (parts (base ++ m ∷ []) span))) m span spans refl (within_once (m + 1) spans)

first_by : (t : Bool) (path : List ℕ) (part : PartView) (parts : List PartView) → has_path path part ≡ t → (path ≡ part.path → filter (has_path path) parts ≡ []) → IsOnce path parts → IsOnce path (part ∷ parts)
first_by true path part parts e none once =
    omega (arith, ap length (filter_yes (has_path path) part parts e), ap length (none ((bytes_eq-Decides path part.path).0 e)))
first_by false path part parts e none once = omega (arith, ap length (filter_no (has_path path) part parts e), once)

once_at : (levels : ℕ) (bytes : List ℕ) (fallback : Fallback) (base : List ℕ) (span : Span) (path : List ℕ) → IsOnce path (parts_at levels bytes fallback base span)
unfolding parts_at
once_at zero bytes fallback base span path =
    let part = view_at (odd_at zero (kids_at bytes fallback span)) true bytes fallback base span in
    first_by (has_path path part) path part [] refl (λ e. refl) (omega arith)
once_at (suc levels) bytes fallback base span path =
    let kids = kids_at bytes fallback span in
    let inner = fallback_in (type_at bytes fallback span) in
    let part = view_at (odd_at (suc levels) kids) (length kids.spans == 0) bytes fallback base span in
    first_by (has_path path part) path part (within (parts_at levels bytes inner) base 1 kids.spans) refl
    (λ e. none_named levels bytes inner base path 1 kids.spans (λ k le rest s. not_parent base rest k (s ∙ e)))
    (within_once levels bytes inner base path (λ kid_path kid_span. once_at levels bytes inner kid_path kid_span path) 1 kids.spans)

-- of parts that are chosen there are no more
both_by : (t : Bool) (path : List ℕ) (part : PartView) (a b : List PartView) → has_path path part ≡ t → length (filter (has_path path) a) ≤ length (filter (has_path path) b)
    → length (filter (has_path path) (part ∷ a)) ≤ length (filter (has_path path) (part ∷ b))
both_by true path part a b e more = omega (arith, more, ap length (filter_yes (has_path path) part a e), ap length (filter_yes (has_path path) part b e))
both_by false path part a b e more = omega (arith, more, ap length (filter_no (has_path path) part a e), ap length (filter_no (has_path path) part b e))

one_by : (t : Bool) (path : List ℕ) (part : PartView) (a b : List PartView) → has_path path part ≡ t → length (filter (has_path path) a) ≤ length (filter (has_path path) b) → length (filter (has_path path) a) ≤ length (filter (has_path path) (part ∷ b))
one_by true path part a b e more = omega (arith, more, ap length (filter_yes (has_path path) part b e))
one_by false path part a b e more = omega (arith, more, ap length (filter_no (has_path path) part b e))

fewer_by : (t : Bool) (ch : PartView → Bool) (path : List ℕ) (part : PartView) (parts : List PartView) → ch part ≡ t → length (filter (has_path path) (filter ch parts)) ≤ length (filter (has_path path) parts)
    → length (filter (has_path path) (filter ch (part ∷ parts))) ≤ length (filter (has_path path) (part ∷ parts))
fewer_by true ch path part parts e more =
    let same : filter ch (part ∷ parts) ≡ part ∷ filter ch parts = filter_yes ch part parts e in
    subst (λ l. length (filter (has_path path) l) ≤ length (filter (has_path path) (part ∷ parts))) (sym same) (both_by (has_path path part) path part (filter ch parts) parts refl more)
fewer_by false ch path part parts e more =
    let same : filter ch (part ∷ parts) ≡ filter ch parts = filter_no ch part parts e in
    subst (λ l. length (filter (has_path path) l) ≤ length (filter (has_path path) (part ∷ parts))) (sym same) (one_by (has_path path part) path part (filter ch parts) parts refl more)

fewer : (ch : PartView → Bool) (path : List ℕ) (parts : List PartView) → length (filter (has_path path) (filter ch parts)) ≤ length (filter (has_path path) parts)
fewer ch path [] = omega arith
fewer ch path (part ∷ parts) = fewer_by (ch part) ch path part parts refl (fewer ch path parts)

pub listed_once : (wanted : List (List ℕ)) (message path : List ℕ) → IsOnce path (listed wanted (parts_of message))
listed_once wanted message path = omega (arith, fewer (is_listed wanted) path (parts_of message), once_at 64 message plain_text [] (whole message) path)

pub stored_once : (wanted : List (List ℕ)) (message path : List ℕ) → IsOnce path (stored wanted (parts_of message))
stored_once wanted message path = omega (arith, fewer (is_stored wanted) path (parts_of message), once_at 64 message plain_text [] (whole message) path)
