-- A path names the part that the tree has at it, and no other.
use Rattle.std.proofs.Common.{◌≡◌, ◌≤◌, ◌+◌, ℕ, zero, suc, Bool, true, false, cond, Option, Some, None, List, [], ◌∷◌, ◌++◌, length, get_or, refl, ap, sym, subst, ◌∙◌, arith, append_assoc, append-nil, length-append}
use Rattle.std.specs.Prelude.{◌==◌, ◌||◌, bytes_eq, is_none, not, option_and_then, slice_get}
use Rattle.std.specs.List.{filter, list_any}
use Rattle.std.proofs.lemmas.List.{append_cancel_left}
use Rattle.std.proofs.lemmas.List.Elements.{filter-append}
use Rattle.std.proofs.lemmas.Slice.Eq.{bytes_eq-Decides}
use Rattle.mime_tree.specs.declared.part.Part.{Part, out-Part}
use Rattle.mime_tree.specs.declared.span.Span.{Span}
use Rattle.mime_tree.specs.ContentTypes.{fallback_in}
use Rattle.mime_tree.specs.Spans.{whole}
use Rattle.mime_tree.specs.Trees.{AreKids, IsPart, kid_of, kids_at, part_at, type_at}
use Rattle.part_rows.specs.Choices.{has_path, is_missing}
use Rattle.part_rows.specs.PartViews.{Fallback, PartView, parts_at, parts_of, plain_text, view_of, within}
use Rattle.part_rows.proofs.Walking.{kids_left, part_first}
use Rattle.mail_text.proofs.Emptiness.{not_zero}

-- what is told of a part, where there is one
abbrev views_of : List ℕ → Option Part → List PartView
views_of bytes None = []
views_of bytes (Some part) = view_of bytes part ∷ []

false_by : (t : Bool) → (t ≡ true → ⊥) → t ≡ false
false_by true never = absurd (never refl)
false_by false never = refl

pub has_not : (path : List ℕ) (part : PartView) → (part.path ≡ path → ⊥) → has_path path part ≡ false
has_not path part never = false_by (bytes_eq path part.path) (λ e. never (sym ((bytes_eq-Decides path part.path).0 e)))

pub filter_yes : (p : PartView → Bool) (part : PartView) (parts : List PartView) → p part ≡ true → filter p (part ∷ parts) ≡ part ∷ filter p parts
filter_yes p part parts e = ap (λ t. cond t (part ∷ filter p parts) (filter p parts)) e

pub filter_no : (p : PartView → Bool) (part : PartView) (parts : List PartView) → p part ≡ false → filter p (part ∷ parts) ≡ filter p parts
filter_no p part parts e = ap (λ t. cond t (part ∷ filter p parts) (filter p parts)) e

-- the paths of parts begin with the path of a part that they lie in
abbrev pub AreBelow : List ℕ → List PartView → Type 0
AreBelow base [] = Unit {0}
AreBelow base (part ∷ parts) = ((rest : List ℕ) × (part.path ≡ base ++ rest)) × AreBelow base parts

both_below : (base : List ℕ) (a b : List PartView) → AreBelow base a → AreBelow base b → AreBelow base (a ++ b)
both_below base [] b f g = g
both_below base (part ∷ a) b f g = (f.0, both_below base a b f.1 g)

below_more : (base more : List ℕ) (parts : List PartView) → AreBelow (base ++ more) parts → AreBelow base parts
below_more base more [] f = tt
below_more base more (part ∷ parts) f = ((more ++ f.0.0, f.0.1 ∙ append_assoc base more f.0.0), below_more base more parts f.1)

within_below : (parts : List ℕ → Span → List PartView) → ((path : List ℕ) (span : Span) → AreBelow path (parts path span)) → (base : List ℕ) (n : ℕ) (spans : List Span) → AreBelow base (within parts base n spans)
within_below parts each base n [] = tt
within_below parts each base n (span ∷ spans) =
    both_below base (parts (base ++ n ∷ []) span) (within parts base (n + 1) spans) (below_more base (n ∷ []) (parts (base ++ n ∷ []) span) (each (base ++ n ∷ []) span))
    (within_below parts each base (n + 1) spans)

pub parts_below : (levels : ℕ) (bytes : List ℕ) (fallback : Fallback) (base : List ℕ) (span : Span) → AreBelow base (parts_at levels bytes fallback base span)
unfolding parts_at
parts_below zero bytes fallback base span = (([], sym (append-nil base)), tt)
parts_below (suc levels) bytes fallback base span =
    let inner = fallback_in (type_at bytes fallback span) in
    (([], sym (append-nil base)), within_below (parts_at levels bytes inner) (parts_below levels bytes inner) base 1 (kids_at bytes fallback span).spans)

pub none_below : (base path : List ℕ) (parts : List PartView) → ((rest : List ℕ) → base ++ rest ≡ path → ⊥) → AreBelow base parts → filter (has_path path) parts ≡ []
none_below base path [] never f = refl
none_below base path (part ∷ parts) never f =
    filter_no (has_path path) part parts (has_not path part (λ e. never f.0.0 (sym f.0.1 ∙ e))) ∙ none_below base path parts never f.1

-- no kid has its parent's path, or that of another kid or of a part below that
pub not_parent : (base rest : List ℕ) (n : ℕ) → (base ++ n ∷ []) ++ rest ≡ base → ⊥
not_parent base rest n e = omega (arith, ap (λ (l : List ℕ). length l) e, length-append (base ++ n ∷ []) rest, length-append base (n ∷ []))

pub not_other : (base rest more : List ℕ) (m n : ℕ) → (m ≡ n → ⊥) → (base ++ m ∷ []) ++ more ≡ base ++ n ∷ rest → ⊥
not_other base rest more m n never e = never (ap (λ (l : List ℕ). get_or l 0 0) (append_cancel_left base (m ∷ more) (n ∷ rest) (sym (append_assoc base (m ∷ []) more) ∙ e)))

module _ (levels : ℕ) (bytes : List ℕ) (inner : Fallback) (base : List ℕ) where
  abbrev parts : List ℕ → Span → List PartView
  parts = parts_at levels bytes inner

  one_kid : (p : PartView → Bool) (m : ℕ) (span : Span) (spans : List Span) (these rest : List PartView) → filter p (parts (base ++ m ∷ []) span) ≡ these → filter p (within parts base (m + 1) spans) ≡ rest
      → filter p (within parts base m (span ∷ spans)) ≡ these ++ rest
  one_kid p m span spans these rest e f =
      filter-append p (parts (base ++ m ∷ []) span) (within parts base (m + 1) spans) ∙ ap (λ l. l ++ filter p (within parts base (m + 1) spans)) e ∙ ap (λ l. these ++ l) f

  pub none_named : (path : List ℕ) (m : ℕ) (spans : List Span) → ((k : ℕ) → m ≤ k → (rest : List ℕ) → (base ++ k ∷ []) ++ rest ≡ path → ⊥) → filter (has_path path) (within parts base m spans) ≡ []
  none_named path m [] never = refl
  none_named path m (span ∷ spans) never =
      one_kid (has_path path) m span spans [] [] (none_below (base ++ m ∷ []) path (parts (base ++ m ∷ []) span) (never m (omega arith)) (parts_below levels bytes inner (base ++ m ∷ []) span))
      (none_named path (m + 1) spans (λ k le. never k (omega (arith, le))))

  kid_named : (rest : List ℕ) → ((path : List ℕ) (span : Span) (kid : Part) → IsPart levels bytes inner path span kid → filter (has_path (path ++ rest)) (parts path span) ≡ views_of bytes (part_at rest kid))
      → (m i : ℕ) (spans : List Span) (kids : List Part) → AreKids (IsPart levels bytes inner) base m spans kids
      → filter (has_path (base ++ (i + m) ∷ rest)) (within parts base m spans) ≡ views_of bytes (option_and_then (part_at rest) (slice_get kids i))
  kid_named rest at m i [] [] are = refl
  kid_named rest at m i [] (kid ∷ kids) are = absurd are
  kid_named rest at m i (span ∷ spans) [] are = absurd are
  kid_named rest at m zero (span ∷ spans) (kid ∷ kids) are =
      let here : (base ++ m ∷ []) ++ rest ≡ base ++ (0 + m) ∷ rest = append_assoc base (m ∷ []) rest ∙ ap (λ n. base ++ n ∷ rest) (let e : m ≡ 0 + m = omega arith in e) in
      one_kid (has_path (base ++ (0 + m) ∷ rest)) m span spans (views_of bytes (part_at rest kid)) []
      (ap (λ l. filter (has_path l) (parts (base ++ m ∷ []) span)) (sym here) ∙ at (base ++ m ∷ []) span kid are.0)
      (none_named (base ++ (0 + m) ∷ rest) (m + 1) spans (λ k le more e. not_other base rest more k (0 + m) (λ s. omega (arith, le, s)) e))
      ∙ append-nil (views_of bytes (part_at rest kid))
  kid_named rest at m (suc i) (span ∷ spans) (kid ∷ kids) are =
      let next : i + (m + 1) ≡ suc i + m = omega arith in
      let path = base ++ (suc i + m) ∷ rest in
      one_kid (has_path path) m span spans [] (views_of bytes (option_and_then (part_at rest) (slice_get kids i)))
      (none_below (base ++ m ∷ []) path (parts (base ++ m ∷ []) span) (λ more e. not_other base rest more m (suc i + m) (λ s. omega (arith, s)) e) (parts_below levels bytes inner (base ++ m ∷ []) span))
      (subst (λ n. filter (has_path (base ++ n ∷ rest)) (within parts base (m + 1) spans) ≡ views_of bytes (option_and_then (part_at rest) (slice_get kids i))) next (kid_named rest at (m + 1) i spans kids are.1))

-- the path of a part, and that of none below it
path_is : (levels : ℕ) (bytes : List ℕ) (fallback : Fallback) (base : List ℕ) (span : Span) (part : Part) → IsPart levels bytes fallback base span part → (out-Part part).path ≡ base
unfolding IsPart
path_is zero bytes fallback base span part is = is.0.path_is
path_is (suc levels) bytes fallback base span part is = is.0.path_is

none_left_named : (levels : ℕ) (bytes : List ℕ) (fallback : Fallback) (base : List ℕ) (span : Span) → filter (has_path (base ++ [])) (kids_left levels 0 bytes fallback base span) ≡ []
unfolding kids_left
none_left_named zero bytes fallback base span = refl
none_left_named (suc levels) bytes fallback base span =
    none_named levels bytes (fallback_in (type_at bytes fallback span)) base (base ++ []) 1 (kids_at bytes fallback span).spans (λ k le rest e. not_parent base rest k (e ∙ append-nil base))

no_kid : (n : ℕ) (part : Part) → (out-Part part).kids.items ≡ [] → kid_of n part ≡ None
no_kid zero part e = refl
no_kid (suc n) part e = ap (λ (ks : List Part). slice_get ks n) e

kids_named : (levels : ℕ) (bytes : List ℕ) (fallback : Fallback) (base : List ℕ) (span : Span) (part : Part) (n : ℕ) (rest : List ℕ)
    → ((below : ℕ) (inner : Fallback) (path : List ℕ) (kid_span : Span) (kid : Part) → IsPart below bytes inner path kid_span kid → filter (has_path (path ++ rest)) (parts_at below bytes inner path kid_span) ≡ views_of bytes (part_at rest kid))
    → IsPart levels bytes fallback base span part → filter (has_path (base ++ n ∷ rest)) (kids_left levels 0 bytes fallback base span) ≡ views_of bytes (part_at (n ∷ rest) part)
unfolding IsPart kids_left
kids_named zero bytes fallback base span part n rest at is = ap (λ o. views_of bytes (option_and_then (part_at rest) o)) (sym (no_kid n part is.1))
kids_named (suc levels) bytes fallback base span part zero rest at is =
    none_named levels bytes (fallback_in (type_at bytes fallback span)) base (base ++ 0 ∷ rest) 1 (kids_at bytes fallback span).spans (λ k le more e. not_other base rest more k 0 (λ s. omega (arith, le, s)) e)
kids_named (suc levels) bytes fallback base span part (suc i) rest at is =
    let inner = fallback_in (type_at bytes fallback span) in
    let spans = (kids_at bytes fallback span).spans in
    let same : i + 1 ≡ suc i = omega arith in
    subst (λ n. filter (has_path (base ++ n ∷ rest)) (within (parts_at levels bytes inner) base 1 spans) ≡ views_of bytes (option_and_then (part_at rest) (slice_get (out-Part part).kids.items i))) same
    (kid_named levels bytes inner base rest (at levels inner) 1 i spans (out-Part part).kids.items is.1)

longer : (base rest : List ℕ) (n : ℕ) → base ≡ base ++ n ∷ rest → ⊥
longer base rest n e = omega (arith, ap (λ (l : List ℕ). length l) e, length-append base (n ∷ rest))

-- of the parts that are told of, just the one that the tree has at a path has this path
pub part_named : (levels : ℕ) (bytes : List ℕ) (fallback : Fallback) (base : List ℕ) (span : Span) (part : Part) → IsPart levels bytes fallback base span part → (path : List ℕ)
    → filter (has_path (base ++ path)) (parts_at levels bytes fallback base span) ≡ views_of bytes (part_at path part)
part_named levels bytes fallback base span part is [] =
    let kids = kids_left levels 0 bytes fallback base span in
    let here : (view_of bytes part).path ≡ base ++ [] = path_is levels bytes fallback base span part is ∙ sym (append-nil base) in
    ap (filter (has_path (base ++ []))) (part_first levels bytes fallback base span part is)
    ∙ filter_yes (has_path (base ++ [])) (view_of bytes part) kids ((bytes_eq-Decides (base ++ []) (view_of bytes part).path).1 (sym here))
    ∙ ap (λ l. view_of bytes part ∷ l) (none_left_named levels bytes fallback base span)
part_named levels bytes fallback base span part is (n ∷ rest) =
    let kids = kids_left levels 0 bytes fallback base span in
    ap (filter (has_path (base ++ n ∷ rest))) (part_first levels bytes fallback base span part is)
    ∙ filter_no (has_path (base ++ n ∷ rest)) (view_of bytes part) kids (has_not (base ++ n ∷ rest) (view_of bytes part) (λ e. longer base rest n (sym (path_is levels bytes fallback base span part is) ∙ e)))
    ∙ kids_named levels bytes fallback base span part n rest (λ below inner path kid_span kid kid_is. part_named below bytes inner path kid_span kid kid_is rest) is

any_by : (t : Bool) (p : PartView → Bool) (part : PartView) (parts : List PartView) → list_any p parts ≡ not (length (filter p parts) == 0) → (t || list_any p parts) ≡ not (length (cond t (part ∷ filter p parts) (filter p parts)) == 0)
any_by true p part parts e = ap not (sym (not_zero (length (part ∷ filter p parts)) (omega arith)))
any_by false p part parts e = e

any_filtered : (p : PartView → Bool) (parts : List PartView) → list_any p parts ≡ not (length (filter p parts) == 0)
any_filtered p [] = refl
any_filtered p (part ∷ parts) = any_by (p part) p part parts (any_filtered p parts)

missing_of : (bytes : List ℕ) (o : Option Part) → not (not (length (views_of bytes o) == 0)) ≡ is_none o
missing_of bytes None = refl
missing_of bytes (Some part) = refl

-- a path is missing where the tree has no part at it
pub missing_named : (bytes : List ℕ) (root : Part) (path : List ℕ) → IsPart 64 bytes plain_text [] (whole bytes) root → is_missing (parts_of bytes) path ≡ is_none (part_at path root)
missing_named bytes root path is =
    ap not (any_filtered (has_path path) (parts_of bytes)) ∙ ap (λ (l : List PartView). not (not (length l == 0))) (part_named 64 bytes plain_text [] (whole bytes) root is path) ∙ missing_of bytes (part_at path root)
