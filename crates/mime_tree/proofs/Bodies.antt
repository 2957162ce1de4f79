-- A body is the back of its message, behind whole lines.
use Rattle.std.proofs.Common.{◌≡◌, ◌⊎◌, inl, inr, ℕ, zero, suc, ◌+◌, ◌-◌, ◌≤◌, Bool, true, false, List, [], ◌∷◌, ◌++◌, length, take, drop, refl, sym, ◌∙◌, ap, subst, arith, append_assoc, length-append}
use Rattle.std.specs.Prelude.{◌==◌, ◌&&◌, not}
use Rattle.std.proofs.lemmas.List.{take_at, drop_at}
use Rattle.std.proofs.Math.Seq.{drop-nil}
use Rattle.mail_headers.specs.Fields.{FieldText}
use Rattle.mail_headers.specs.Lines.{folded_len, continues}
use Rattle.mail_headers.specs.Whole.{IsFieldText, StandBefore, IsBehind, IsMessage}
use Rattle.mail_headers.proofs.Folding.{folded_len-some, at_end, inside}
use Rattle.mime_tree.specs.declared.span.Span.{Span}
use Rattle.mime_tree.specs.BoundaryLines.{lines}
use Rattle.mime_tree.specs.DashLines.{IsPlain, Marks, marks_from}
use Rattle.mime_tree.specs.FoundPieces.{IsInside}
use Rattle.mime_tree.specs.Spans.{text_at}
use Rattle.mime_tree.proofs.Marking.{ends, lines_append, lines_whole, marks_back}
use Rattle.mime_tree.proofs.Sections.{text_back}

ends_append : (X Y : List ℕ) → ends X ≡ true → ends Y ≡ true → ends (X ++ Y) ≡ true
ends_append [] Y e f = f
ends_append (b ∷ []) [] e f = e
ends_append (b ∷ []) (y ∷ Y) e f = f
ends_append (b ∷ c ∷ rest) Y e f = ends_append (c ∷ rest) Y e f

first_of_and : (a b : Bool) → (a && b) ≡ true → a ≡ true
first_of_and true b e = refl
first_of_and false b e = cc

past_one : (b k : ℕ) → drop (1 + k) (b ∷ []) ≡ []
past_one b k = let e : 1 + k ≡ suc k = omega arith in rw e (drop-nil k)

folded_ends : (bytes : List ℕ) → (ends (take (folded_len bytes) bytes) ≡ true) ⊎ (drop (folded_len bytes) bytes ≡ [])
folded_ends [] = inr (drop-nil (folded_len []))
folded_ends (b ∷ []) = choose (b == 10 && not (continues [])) refl
  where
    choose : (t : Bool) → (b == 10 && not (continues [])) ≡ t → (ends (take (folded_len (b ∷ [])) (b ∷ [])) ≡ true) ⊎ (drop (folded_len (b ∷ [])) (b ∷ []) ≡ [])
    choose true e = inr (ap (λ k. drop k (b ∷ [])) (at_end b [] e))
    choose false e = inr (ap (λ k. drop k (b ∷ [])) (inside b [] e) ∙ past_one b (folded_len []))
folded_ends (b ∷ c ∷ rest) = choose (b == 10 && not (continues (c ∷ rest))) refl (folded_ends (c ∷ rest))
  where
    step : (k : ℕ) → 1 ≤ k → ((ends (take k (c ∷ rest)) ≡ true) ⊎ (drop k (c ∷ rest) ≡ [])) → (ends (take (suc k) (b ∷ c ∷ rest)) ≡ true) ⊎ (drop (suc k) (b ∷ c ∷ rest) ≡ [])
    step zero some h = absurd (omega arith)
    step (suc k) some (inl e) = inl e
    step (suc k) some (inr e) = inr e

    choose : (t : Bool) → (b == 10 && not (continues (c ∷ rest))) ≡ t → ((ends (take (folded_len (c ∷ rest)) (c ∷ rest)) ≡ true) ⊎ (drop (folded_len (c ∷ rest)) (c ∷ rest) ≡ [])) →
        (ends (take (folded_len (b ∷ c ∷ rest)) (b ∷ c ∷ rest)) ≡ true) ⊎ (drop (folded_len (b ∷ c ∷ rest)) (b ∷ c ∷ rest) ≡ [])
    choose true e more = inl (ap (λ k. ends (take k (b ∷ c ∷ rest))) (at_end b (c ∷ rest) e) ∙ first_of_and (b == 10) (not (continues (c ∷ rest))) e)
    choose false e more =
        let len : folded_len (b ∷ c ∷ rest) ≡ suc (folded_len (c ∷ rest)) = omega (arith, inside b (c ∷ rest) e) in
        subst (λ k. (ends (take k (b ∷ c ∷ rest)) ≡ true) ⊎ (drop k (b ∷ c ∷ rest) ≡ [])) (sym len) (step (folded_len (c ∷ rest)) (folded_len-some (c ∷ rest) (omega arith)) more)

no_back : (X Y : List ℕ) → X ++ Y ≡ [] → Y ≡ []
no_back [] Y e = e
no_back (x ∷ X) Y e = cc

-- the front of a text behind whole lines
pub record Fronted (bytes back : List ℕ) : Type 0 where
  pub front : List ℕ
  pub is : bytes ≡ front ++ back
  pub whole : (ends front ≡ true) ⊎ (back ≡ [])

fields_front : (fs : List FieldText) (rest bytes : List ℕ) → StandBefore fs rest bytes → Fronted bytes rest
fields_front [] rest bytes is = record { front = []; is = is; whole = inl refl }
fields_front (f ∷ fs) rest bytes s =
    let text : List ℕ = s.0 in
    let after : List ℕ = s.1 in
    let is : bytes ≡ text ++ after = s.2 in
    let field : IsFieldText text after f = s.3 in
    let more = fields_front fs rest after s.4 in
    let cuts : (ends text ≡ true) ⊎ (after ≡ []) = cut_at text after field.0 (folded_ends (text ++ after)) in
    record { front = text ++ more.front; is = is ∙ ap (λ x. text ++ x) more.is ∙ sym (append_assoc text more.front rest); whole = both text more.front after rest more.is cuts more.whole }
  where
    cut_at : (text after : List ℕ) → folded_len (text ++ after) ≡ length text → ((ends (take (folded_len (text ++ after)) (text ++ after)) ≡ true) ⊎ (drop (folded_len (text ++ after)) (text ++ after) ≡ [])) → (ends text ≡ true) ⊎ (after ≡ [])
    cut_at text after len (inl e) = inl (ap ends (sym (ap (λ k. take k (text ++ after)) len ∙ take_at text after (length text) refl)) ∙ e)
    cut_at text after len (inr e) = inr (sym (ap (λ k. drop k (text ++ after)) len ∙ drop_at text after (length text) refl) ∙ e)

    both : (text front after rest : List ℕ) → after ≡ front ++ rest → ((ends text ≡ true) ⊎ (after ≡ [])) → ((ends front ≡ true) ⊎ (rest ≡ [])) → (ends (text ++ front) ≡ true) ⊎ (rest ≡ [])
    both text front after rest is (inl e) (inl d) = inl (ends_append text front e d)
    both text front after rest is (inl e) (inr d) = inr d
    both text front after rest is (inr e) d = inr (no_back front rest (sym is ∙ e))

behind_front_of : (body rest bytes : List ℕ) → Fronted bytes rest → IsBehind body rest → Fronted bytes body
behind_front_of body rest bytes f (inl e) = record { front = f.front; is = f.is ∙ ap (λ x. f.front ++ x) (e.0 ∙ sym e.1); whole = inr e.1 }
behind_front_of body rest bytes f (inr (inl e)) = record { front = f.front ++ 10 ∷ []; is = f.is ∙ ap (λ x. f.front ++ x) e ∙ sym (append_assoc f.front (10 ∷ []) body); whole = some f.whole }
  where
    some : ((ends f.front ≡ true) ⊎ (rest ≡ [])) → (ends (f.front ++ 10 ∷ []) ≡ true) ⊎ (body ≡ [])
    some (inl d) = inl (ends_append f.front (10 ∷ []) d refl)
    some (inr d) = let no : [] ≡ 10 ∷ body = sym d ∙ e in cc
behind_front_of body rest bytes f (inr (inr (inl e))) = record { front = f.front ++ 13 ∷ 10 ∷ []; is = f.is ∙ ap (λ x. f.front ++ x) e ∙ sym (append_assoc f.front (13 ∷ 10 ∷ []) body); whole = some f.whole }
  where
    some : ((ends f.front ≡ true) ⊎ (rest ≡ [])) → (ends (f.front ++ 13 ∷ 10 ∷ []) ≡ true) ⊎ (body ≡ [])
    some (inl d) = inl (ends_append f.front (13 ∷ 10 ∷ []) d refl)
    some (inr d) = let no : [] ≡ 13 ∷ 10 ∷ body = sym d ∙ e in cc
behind_front_of body rest bytes f (inr (inr (inr e))) = record { front = f.front; is = f.is ∙ ap (λ x. f.front ++ x) (sym e.1); whole = some f.whole }
  where
    some : ((ends f.front ≡ true) ⊎ (rest ≡ [])) → (ends f.front ≡ true) ⊎ (body ≡ [])
    some (inl d) = inl d
    some (inr d) = inr (e.1 ∙ d)

pub body_front : (fs : List FieldText) (body bytes : List ℕ) → IsMessage fs body bytes → Fronted bytes body
body_front fs body bytes is = behind_front_of body is.0 bytes (fields_front fs is.0 bytes is.1) is.3

pub body_short : (bytes body : List ℕ) → Fronted bytes body → length body ≤ length bytes
body_short bytes body f = let sum = ap length f.is ∙ length-append f.front body in omega arith

-- the body at its span
pub record BodyAt (bytes : List ℕ) (from to : ℕ) (body : List ℕ) (marks : List ℕ) : Type 0 where
  pub inside : IsInside bytes (record { from = to - length body; to = to })
  pub marked : Marks IsPlain (to - length body) (lines (text_at bytes (record { from = to - length body; to = to }))) (marks_from (to - length body) marks)

pub body_at_span : (bytes text body marks : List ℕ) (span : Span) → text ≡ text_at bytes span → IsInside bytes span → Marks IsPlain span.from (lines (text_at bytes span)) marks → Fronted text body → BodyAt bytes span.from span.to body marks
body_at_span bytes text body marks span is within marked f =
    let sum : length text ≡ length f.front + length body = ap length f.is ∙ length-append f.front body in
    let len : length text ≡ length (text_at bytes span) = ap length is in
    let place : span.from + length f.front ≡ span.to - length body = omega arith in
    let back : body ≡ text_at bytes (record { from = span.to - length body; to = span.to }) =
    sym (ap (drop (length f.front)) f.is ∙ drop_at f.front body (length f.front) refl) ∙ text_back bytes text span.from span.to (length f.front) is ∙ ap (λ p. text_at bytes (record { from = p; to = span.to })) place in
    let whole_lines : lines (f.front ++ body) ≡ lines f.front ++ lines body = choose f.whole in
    let own : Marks IsPlain span.from (lines (f.front ++ body)) marks = subst (λ t. Marks IsPlain span.from (lines t) marks) (sym is ∙ f.is) marked in
    let behind = marks_back f.front body span.from marks whole_lines own in
    record {
      inside = (let l : length (text_at bytes (record { from = span.to - length body; to = span.to })) ≡ length body = ap length (sym back) in omega arith);
      marked = subst (λ t. Marks IsPlain (span.to - length body) (lines t) (marks_from (span.to - length body) marks)) back (subst (λ p. Marks IsPlain p (lines body) (marks_from p marks)) place behind);
    }
  where
    choose : ((ends f.front ≡ true) ⊎ (body ≡ [])) → lines (f.front ++ body) ≡ lines f.front ++ lines body
    choose (inl e) = lines_append f.front body e
    choose (inr e) = lines_whole f.front body e

pub fronted_as : (bytes text back body : List ℕ) → bytes ≡ text → body ≡ back → Fronted bytes back → Fronted text body
fronted_as bytes text back body e d f = subst (λ t. Fronted t body) e (subst (λ b. Fronted bytes b) (sym d) f)
