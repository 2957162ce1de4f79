-- The parts of a tree, one after another.
use Rattle.std.proofs.Common.{◌≡◌, ◌≤◌, ◌<◌, ◌+◌, ℕ, zero, suc, Bool, true, List, [], ◌∷◌, ◌++◌, length, drop, get_or, refl, ap, sym, subst, ◌∙◌, arith, append_assoc, append-nil}
use Rattle.std.specs.Prelude.{◌==◌}
use Rattle.std.specs.List.{filter}
use Rattle.std.proofs.lemmas.List.{drop_all}
use Rattle.std.proofs.lemmas.List.Elements.{filter-append}
use Rattle.mime_tree.specs.declared.odd.Odd.{Odd}
use Rattle.mime_tree.specs.declared.part.Part.{Part, out-Part}
use Rattle.mime_tree.specs.declared.span.Span.{Span}
use Rattle.mime_tree.specs.ContentTypes.{fallback_in}
use Rattle.mime_tree.specs.Spans.{text_at}
use Rattle.mime_tree.specs.Trees.{AreKids, IsMessagePart, IsPart, content_of, kids_at, odd_at, type_at}
use Rattle.part_rows.specs.PartViews.{Fallback, PartView, content_at, description_of, parts_at, span_of, view_at, view_of, within}

module _ (bytes : List ℕ) (fallback : Fallback) (path : List ℕ) (span : Span) (part : Part) where
  same_span : IsMessagePart bytes fallback path span part → span ≡ span_of part
  same_span is = λ k. record { from = sym (ap (λ (s : Span). s.from) is.head_is) k; to = sym (ap (λ (s : Span). s.to) is.body_is) k }

  same_content : (leaf : Bool) → IsMessagePart bytes fallback path span part → (length (out-Part part).kids.items == 0) ≡ leaf → content_at leaf bytes span ≡ content_of bytes part
  same_content leaf is e = rw (is.encoding_is, is.body_is, e) refl

  -- what is told of a part is what is told of the message at its span
  pub seen : (odd : Odd) (leaf : Bool) → IsMessagePart bytes fallback path span part → (out-Part part).odd ≡ odd → (length (out-Part part).kids.items == 0) ≡ leaf
      → view_at odd leaf bytes fallback path span ≡ view_of bytes part
  seen odd leaf is o e = λ k. record {
    path = sym is.path_is k;
    kind = sym is.kind_is k;
    subtype = sym is.subtype_is k;
    description = ap (λ s. description_of (text_at bytes s)) (same_span is) k;
    odd = sym o k;
    is_leaf = sym e k;
    content = same_content leaf is e k;
  }

-- there are as many kids as spans
as_many : (Is : List ℕ → Span → Part → Type 0) (path : List ℕ) (n : ℕ) (spans : List Span) (kids : List Part) → AreKids Is path n spans kids → length spans ≡ length kids
as_many Is path n [] [] are = refl
as_many Is path n [] (kid ∷ kids) are = absurd are
as_many Is path n (span ∷ spans) [] are = absurd are
as_many Is path n (span ∷ spans) (kid ∷ kids) are = let more = as_many Is path (n + 1) spans kids are.1 in omega (arith, more)

-- what the kids from this one on are and have below them
unfoldable pub kids_left : ℕ → ℕ → List ℕ → Fallback → List ℕ → Span → List PartView
kids_left zero i bytes fallback path span = []
kids_left (suc levels) i bytes fallback path span =
    within (parts_at levels bytes (fallback_in (type_at bytes fallback span))) path (i + 1) (drop i (kids_at bytes fallback span).spans)

-- a part comes first
pub part_first : (levels : ℕ) (bytes : List ℕ) (fallback : Fallback) (path : List ℕ) (span : Span) (part : Part) → IsPart levels bytes fallback path span part
    → parts_at levels bytes fallback path span ≡ view_of bytes part ∷ kids_left levels 0 bytes fallback path span
unfolding IsPart parts_at kids_left
part_first zero bytes fallback path span part is =
    ap (λ v. v ∷ []) (seen bytes fallback path span part (odd_at zero (kids_at bytes fallback span)) true is.0 is.2 (ap (λ (ks : List Part). length ks == 0) is.1))
part_first (suc levels) bytes fallback path span part is =
    let kids = kids_at bytes fallback span in
    let many = as_many (IsPart levels bytes (fallback_in (type_at bytes fallback span))) path 1 kids.spans (out-Part part).kids.items is.1 in
    ap (λ v. v ∷ within (parts_at levels bytes (fallback_in (type_at bytes fallback span))) path 1 kids.spans)
    (seen bytes fallback path span part (odd_at (suc levels) kids) (length kids.spans == 0) is.0 is.2 (ap (λ n. n == 0) (sym many)))

-- the kid at an index, and its span
record KidAt (Is : List ℕ → Span → Part → Type 0) (path : List ℕ) (n i : ℕ) (spans : List Span) (kid : Part) : Type 0 where
  span : Span
  is : Is (path ++ (i + n) ∷ []) span kid
  next : drop i spans ≡ span ∷ drop (i + 1) spans

kid_at : (Is : List ℕ → Span → Part → Type 0) (path : List ℕ) (n i : ℕ) (spans : List Span) (kids : List Part) (d kid : Part) → AreKids Is path n spans kids → i < length kids → kid ≡ get_or kids i d → KidAt Is path n i spans kid
kid_at Is path n i [] [] d kid are lt e = absurd (omega (arith, lt))
kid_at Is path n i [] (k ∷ ks) d kid are lt e = absurd are
kid_at Is path n i (s ∷ ss) [] d kid are lt e = absurd are
kid_at Is path n zero (s ∷ ss) (k ∷ ks) d kid are lt e =
    let same : n ≡ 0 + n = omega arith in
    record { span = s; is = subst (λ m. Is (path ++ m ∷ []) s kid) same (subst (Is (path ++ n ∷ []) s) (sym e) are.0); next = refl }
kid_at Is path n (suc i) (s ∷ ss) (k ∷ ks) d kid are lt e =
    let more = kid_at Is path (n + 1) i ss ks d kid are.1 (omega (arith, lt)) e in
    let same : i + (n + 1) ≡ suc i + n = omega arith in
    let step : suc (i + 1) ≡ suc i + 1 = omega arith in
    record { span = more.span; is = subst (λ m. Is (path ++ m ∷ []) more.span kid) same more.is; next = more.next ∙ ap (λ m. more.span ∷ drop m (s ∷ ss)) step }

-- a kid, and those behind it
pub record NextKid (levels i : ℕ) (bytes : List ℕ) (fallback : Fallback) (path : List ℕ) (span : Span) (kid : Part) : Type 0 where
  pub below : ℕ
  pub inner : Fallback
  pub kid_path : List ℕ
  pub kid_span : Span
  pub is : IsPart below bytes inner kid_path kid_span kid
  pub left : kids_left levels i bytes fallback path span ≡ parts_at below bytes inner kid_path kid_span ++ kids_left levels (i + 1) bytes fallback path span

pub next_kid : (levels i : ℕ) (bytes : List ℕ) (fallback : Fallback) (path : List ℕ) (span : Span) (part : Part) (d kid : Part) → IsPart levels bytes fallback path span part → i < length (out-Part part).kids.items
    → kid ≡ get_or (out-Part part).kids.items i d → NextKid levels i bytes fallback path span kid
unfolding IsPart kids_left
next_kid zero i bytes fallback path span part d kid is lt e = absurd (omega (arith, lt, ap (λ (ks : List Part). length ks) is.1))
next_kid (suc levels) i bytes fallback path span part d kid is lt e =
    let inner = fallback_in (type_at bytes fallback span) in
    let at = kid_at (IsPart levels bytes inner) path 1 i (kids_at bytes fallback span).spans (out-Part part).kids.items d kid is.1 lt e in
    record {
      below = levels;
      inner = inner;
      kid_path = path ++ (i + 1) ∷ [];
      kid_span = at.span;
      is = at.is;
      left = ap (within (parts_at levels bytes inner) path (i + 1)) at.next;
    }

pub none_left : (levels i : ℕ) (bytes : List ℕ) (fallback : Fallback) (path : List ℕ) (span : Span) (part : Part) → IsPart levels bytes fallback path span part → length (out-Part part).kids.items ≤ i
    → kids_left levels i bytes fallback path span ≡ []
unfolding IsPart kids_left
none_left zero i bytes fallback path span part is le = refl
none_left (suc levels) i bytes fallback path span part is le =
    let inner = fallback_in (type_at bytes fallback span) in
    let many = as_many (IsPart levels bytes inner) path 1 (kids_at bytes fallback span).spans (out-Part part).kids.items is.1 in
    ap (within (parts_at levels bytes inner) path (i + 1)) (drop_all i (kids_at bytes fallback span).spans (omega (arith, many, le)))

next_chosen : (ch : PartView → Bool) (old before now left these rest : List PartView) → now ≡ before ++ filter ch these → left ≡ these ++ rest → before ++ filter ch left ≡ old → now ++ filter ch rest ≡ old
next_chosen ch old before now left these rest put is was =
    ap (λ l. l ++ filter ch rest) put ∙ append_assoc before (filter ch these) (filter ch rest) ∙ ap (λ l. before ++ l) (sym (filter-append ch these rest)) ∙ ap (λ l. before ++ filter ch l) (sym is) ∙ was

-- those of the parts that are chosen, so far and still to come
module _ (ch : PartView → Bool) (levels : ℕ) (bytes : List ℕ) (fallback : Fallback) (path : List ℕ) (span : Span) (part : Part) (is : IsPart levels bytes fallback path span part) where
  pub first_chosen : (old now : List PartView) → now ≡ old ++ filter ch (view_of bytes part ∷ [])
      → now ++ filter ch (kids_left levels 0 bytes fallback path span) ≡ old ++ filter ch (parts_at levels bytes fallback path span)
  first_chosen old now put =
      let rest = kids_left levels 0 bytes fallback path span in
      ap (λ l. l ++ filter ch rest) put ∙ append_assoc old (filter ch (view_of bytes part ∷ [])) (filter ch rest)
      ∙ ap (λ l. old ++ l) (sym (filter-append ch (view_of bytes part ∷ []) rest)) ∙ ap (λ l. old ++ filter ch l) (sym (part_first levels bytes fallback path span part is))

  pub more_chosen : (kids : List Part) (i : ℕ) (d kid : Part) (old before now : List PartView) → kids ≡ (out-Part part).kids.items → i < length kids → kid ≡ get_or kids i d
      → ((below : ℕ) (inner : Fallback) (kid_path : List ℕ) (kid_span : Span) → IsPart below bytes inner kid_path kid_span kid → now ≡ before ++ filter ch (parts_at below bytes inner kid_path kid_span))
      → before ++ filter ch (kids_left levels i bytes fallback path span) ≡ old → now ++ filter ch (kids_left levels (i + 1) bytes fallback path span) ≡ old
  more_chosen kids i d kid old before now same lt e put was =
      let n = next_kid levels i bytes fallback path span part d kid is (omega (arith, lt, ap (λ (ks : List Part). length ks) same)) (e ∙ ap (λ (ks : List Part). get_or ks i d) same) in
      next_chosen ch old before now (kids_left levels i bytes fallback path span) (parts_at n.below bytes n.inner n.kid_path n.kid_span) (kids_left levels (i + 1) bytes fallback path span)
      (put n.below n.inner n.kid_path n.kid_span n.is) n.left was

  pub all_chosen : (kids : List Part) (i : ℕ) (old now : List PartView) → kids ≡ (out-Part part).kids.items → length kids ≤ i → now ++ filter ch (kids_left levels i bytes fallback path span) ≡ old → now ≡ old
  all_chosen kids i old now same le was =
      let none = none_left levels i bytes fallback path span part is (omega (arith, le, ap (λ (ks : List Part). length ks) same)) in
      sym (append-nil now) ∙ ap (λ l. now ++ filter ch l) (sym none) ∙ was
