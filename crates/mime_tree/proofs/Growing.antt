-- Kids, one after another, and the part that they make.
use Rattle.std.proofs.Common.{◌≡◌, ℕ, suc, ◌+◌, ◌-◌, ◌<◌, ◌≤◌, List, [], ◌∷◌, ◌++◌, length, get_or, take, sym, ◌∙◌, ap, subst, arith, add-one, map, zero}
use Rattle.std.proofs.Math.Seq.{take-suc}
use Rattle.std.proofs.lemmas.List.{length-take-le, take_all, map-append, length-map}
use Rattle.mime_tree.specs.declared.fallback.Fallback.{Fallback}
use Rattle.mime_tree.specs.declared.odd.Odd.{Odd}
use Rattle.mime_tree.specs.declared.part.Part.{Part}
use Rattle.mime_tree.specs.declared.pieces.Piece.{Piece}
use Rattle.mime_tree.specs.declared.reading.Opened.{Opened}
use Rattle.mime_tree.specs.declared.span.Span.{Span}
use Rattle.mime_tree.specs.ContentTypes.{fallback_in}
use Rattle.mime_tree.specs.FoundPieces.{found, IsReady, AreReady}
use Rattle.mime_tree.specs.Opening.{Opens, IsPartOf}
use Rattle.mime_tree.specs.Pieces.{Found}
use Rattle.mime_tree.specs.Trees.{IsMessagePart, AreKids, IsPart, odd_at, type_at, kids_at}

-- one kid more
kids_push : (Is : List ℕ → Span → Part → Type 0) (path : List ℕ) (n m : ℕ) (spans : List Span) (kids : List Part) (span : Span) (kid : Part) → m ≡ n + length spans → AreKids Is path n spans kids → Is (path ++ m ∷ []) span kid →
    AreKids Is path n (spans ++ span ∷ []) (kids ++ kid ∷ [])
kids_push Is path n m [] [] span kid e are is =
    let same : m ≡ n = omega arith in
    (subst (λ k. Is (path ++ k ∷ []) span kid) same is, tt)
kids_push Is path n m [] (k ∷ ks) span kid e are is = absurd are
kids_push Is path n m (s ∷ ss) [] span kid e are is = absurd are
kids_push Is path n m (s ∷ ss) (k ∷ ks) span kid e are is = (are.0, kids_push Is path (n + 1) m ss ks span kid (omega arith) are.1 is)

pub no_kids : (Is : List ℕ → Span → Part → Type 0) (path : List ℕ) (pieces : List Piece) (kids : List Part) → kids ≡ [] → AreKids Is path 1 (map (λ (q : Piece). q.span) (take 0 pieces)) kids
no_kids Is path pieces kids e = subst (λ ks. AreKids Is path 1 [] ks) (sym e) tt

pub kid_more : (Is : List ℕ → Span → Part → Type 0) (path kid_path : List ℕ) (i : ℕ) (pieces : List Piece) (kids more : List Part) (piece d : Piece) (kid : Part) → i < length pieces → piece ≡ get_or pieces i d → kid_path ≡ path ++ (i + 1) ∷ [] → more ≡ kids ++ kid ∷ [] →
    AreKids Is path 1 (map (λ (q : Piece). q.span) (take i pieces)) kids → Is kid_path piece.span kid → AreKids Is path 1 (map (λ (q : Piece). q.span) (take (i + 1) pieces)) more
kid_more Is path kid_path i pieces kids more piece d kid lt at_i path_is pushed are is =
    let spans = map (λ (q : Piece). q.span) (take i pieces) in
    let long : length (map (λ (q : Piece). q.span) (take i pieces)) ≡ i = length-map (take i pieces) (λ (q : Piece). q.span) ∙ length-take-le i pieces (omega arith) in
    let one : map (λ (q : Piece). q.span) (take (i + 1) pieces) ≡ spans ++ piece.span ∷ [] =
    ap (map (λ (q : Piece). q.span)) (rw (add-one, take-suc pieces i d lt) (ap (λ s. take i pieces ++ s ∷ []) (sym at_i))) ∙ map-append (λ (q : Piece). q.span) (take i pieces) (piece ∷ []) in
    let here : Is (path ++ (i + 1) ∷ []) piece.span kid = subst (λ p. Is p piece.span kid) path_is is in
    let grown = kids_push Is path 1 (i + 1) spans kids piece.span kid (omega arith) are here in
    subst (λ ks. AreKids Is path 1 (map (λ (q : Piece). q.span) (take (i + 1) pieces)) ks) (sym pushed) (subst (λ ss. AreKids Is path 1 ss (kids ++ kid ∷ [])) (sym one) grown)

pub ready_at : (bytes : List ℕ) (pieces : List Piece) (i : ℕ) (d : Piece) → i < length pieces → AreReady bytes pieces → IsReady bytes (get_or pieces i d)
ready_at bytes [] i d lt all = absurd (omega arith)
ready_at bytes (q ∷ qs) zero d lt all = all.0
ready_at bytes (q ∷ qs) (suc i) d lt all = ready_at bytes qs i d (omega arith) all.1

message_part : (bytes : List ℕ) (fallback : Fallback) (path : List ℕ) (span : Span) (opened : Opened) (odd : Odd) (kids : List Part) (part : Part) → Opens bytes fallback span opened → IsPartOf opened span path odd kids part →
    IsMessagePart bytes fallback path span part
message_part bytes fallback path span opened odd kids part o p = record {
  path_is = p.path_is;
  kind_is = p.kind_is ∙ ap (λ t. t.kind) o.type_is;
  subtype_is = p.subtype_is ∙ ap (λ t. t.subtype) o.type_is;
  params_are = p.params_are ∙ ap (λ t. t.params) o.type_is;
  encoding_is = p.encoding_is ∙ o.encoding_is;
  head_is = p.head_is ∙ ap (λ b. record { from = span.from; to = b.from }) o.body_is;
  body_is = p.body_is ∙ o.body_is;
}

-- a part with no levels below it
pub lowest : (levels : ℕ) (bytes : List ℕ) (fallback : Fallback) (path : List ℕ) (span : Span) (opened : Opened) (odd : Odd) (kids : List Part) (part : Part) → levels ≡ 0 → Opens bytes fallback span opened → odd ≡ odd_at levels (found opened.kids) → kids ≡ [] → IsPartOf opened span path odd kids part →
    IsPart levels bytes fallback path span part
unfolding IsPart
lowest levels bytes fallback path span opened odd kids part e o is_odd none p =
    subst (λ n. IsPart n bytes fallback path span part) (sym e)
    (message_part bytes fallback path span opened odd kids part o p, p.kids_are ∙ none, p.odd_is ∙ is_odd ∙ ap (λ n. odd_at n (found opened.kids)) e ∙ ap (odd_at 0) o.kids_are)

-- a part with its kids
pub with_kids : (levels : ℕ) (bytes : List ℕ) (fallback within : Fallback) (path : List ℕ) (span : Span) (opened : Opened) (odd : Odd) (i : ℕ) (pieces : List Piece) (kids : List Part) (part : Part) → (levels ≡ 0 → ⊥) → Opens bytes fallback span opened → odd ≡ odd_at levels (found opened.kids) →
    within ≡ fallback_in opened.content_type → pieces ≡ opened.kids.pieces.items → length pieces ≤ i → AreKids (IsPart (levels - 1) bytes within) path 1 (map (λ (q : Piece). q.span) (take i pieces)) kids → IsPartOf opened span path odd kids part →
    IsPart levels bytes fallback path span part
unfolding IsPart
with_kids levels bytes fallback within path span opened odd i pieces kids part ne o is_odd inner places le are p =
    let above : suc (levels - 1) ≡ levels = omega arith in
    let within_is : within ≡ fallback_in (type_at bytes fallback span) = inner ∙ ap fallback_in o.type_is in
    let all_spans : map (λ (q : Piece). q.span) (take i pieces) ≡ (kids_at bytes fallback span).spans = ap (map (λ (q : Piece). q.span)) (take_all i pieces le ∙ places) ∙ ap (λ (f : Found). f.spans) o.kids_are in
    let a = subst (λ ss. AreKids (IsPart (levels - 1) bytes within) path 1 ss kids) all_spans are in
    let b = subst (λ w. AreKids (IsPart (levels - 1) bytes w) path 1 (kids_at bytes fallback span).spans kids) within_is a in
    let d = subst (λ ks. AreKids (IsPart (levels - 1) bytes (fallback_in (type_at bytes fallback span))) path 1 (kids_at bytes fallback span).spans ks) (sym p.kids_are) b in
    subst (λ n. IsPart n bytes fallback path span part) above
    (message_part bytes fallback path span opened odd kids part o p, d, p.odd_is ∙ is_odd ∙ ap (λ n. odd_at n (found opened.kids)) (sym above) ∙ ap (odd_at (suc (levels - 1))) o.kids_are)
