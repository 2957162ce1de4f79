-- Pieces, mark by mark.
use Rattle.std.proofs.Common.{◌≡◌, inl, inr, ℕ, ◌+◌, ◌<◌, ◌≤◌, Bool, true, false, List, [], ◌∷◌, ◌++◌, length, get_or, take, drop, map, refl, sym, ◌∙◌, ap, subst, arith, append_assoc, append-nil, add-zero, length-drop, length-append}
use Rattle.std.proofs.Math.Seq.{take-add, take-nil}
use Rattle.std.specs.Prelude.{◌-◌, ◌==◌, nat_le, slice_index, Result, Ok, Err, IfOk, if◌then◌else◌}
use Rattle.std.specs.List.{concat}
use Rattle.std.proofs.lemmas.List.{map-append, length-take, length-take-le, drop_all, take_all, drop-drop, drop_at, take-take}
use Rattle.std.proofs.lemmas.Bool.{leb-true, leb-false}
use Rattle.mail_headers.specs.Lines.{without_end}
use Rattle.mail_headers.proofs.Folding.{cut_at}
use Rattle.mime_tree.specs.declared.mark.Mark.{Mark}
use Rattle.mime_tree.specs.declared.mark.Mark.TheVariants.{Boundary, Closing, Other}
use Rattle.mime_tree.specs.declared.odd.Odd.{Odd}
use Rattle.mime_tree.specs.declared.odd.Odd.TheVariants.{None as no_odd, Unclosed}
use Rattle.mime_tree.specs.declared.pieces.Piece.{Piece}
use Rattle.mime_tree.specs.declared.pieces.Pieces.{Pieces}
use Rattle.mime_tree.specs.declared.span.Span.{Span}
use Rattle.mime_tree.specs.BoundaryLines.{line_len, lines, mark_of}
use Rattle.mime_tree.specs.DashLines.{IsPlain, IsOther, Marks}
use Rattle.mime_tree.specs.FoundPieces.{found, IsInside, IsReady, AreReady}
use Rattle.mime_tree.specs.Pieces.{Section, Found, pieces_at, section_with, section, section_pieces}
use Rattle.mime_tree.specs.Spans.{text_at}
use Rattle.mime_tree.proofs.Lining.{lines_step, line_le}
use Rattle.mime_tree.proofs.Marking.{Frees, Beyond, marks_above, marks_at, unmark, all_free, lines_behind, concat_lines, marks_front, plain_front}

-- a section behind more of its first piece
abbrev pub prepend : List ℕ → Section → Section
prepend t s = record { text = t ++ s.text; bounded = s.bounded; more = s.more; odd = s.odd }

-- what is found in all, when these pieces were found before the section
abbrev pub found_all : List Span → ℕ → Section → Found
found_all spans from s = record { spans = spans ++ pieces_at from s; odd = s.odd }

section_step : (boundary line : List ℕ) (place : ℕ) (ls : List (List ℕ)) →
    section boundary place (line ∷ ls) ≡ section_with (mark_of boundary line) line (place + length line) (section boundary (place + length line) ls)
unfolding section
section_step boundary line place ls = refl

section_none : (boundary : List ℕ) (place : ℕ) → section boundary place [] ≡ record { text = []; bounded = false; more = []; odd = Unclosed }
unfolding section
section_none boundary place = refl

section_free : (b : List ℕ) (before ls : List (List ℕ)) (p : ℕ) → Frees (IsOther b) before → section b p (before ++ ls) ≡ prepend (concat before) (section b (p + length (concat before)) ls)
section_free b [] ls p free = ap (λ q. prepend [] (section b q ls)) (sym (add-zero p))
section_free b (l ∷ before) ls p free =
    let on : p + length l + length (concat before) ≡ p + length (l ++ concat before) = omega (arith, length-append l (concat before)) in
    section_step b l p (before ++ ls)
    ∙ ap (λ k. section_with k l (p + length l) (section b (p + length l) (before ++ ls))) free.0
    ∙ ap (prepend l) (section_free b before ls (p + length l) free.1)
    ∙ ap (λ t. record { text = t; bounded = (section b (p + length l + length (concat before)) ls).bounded; more = (section b (p + length l + length (concat before)) ls).more; odd = (section b (p + length l + length (concat before)) ls).odd })
    (sym (append_assoc l (concat before) (section b (p + length l + length (concat before)) ls).text))
    ∙ ap (λ q. prepend (l ++ concat before) (section b q ls)) on

-- the lines of a tail
record LineAt (R tail line behind : List ℕ) (len : ℕ) (before : List (List ℕ)) (l : List ℕ) (bh : List (List ℕ)) : Type 0 where
  pub line_is : l ≡ line
  pub behind_is : bh ≡ lines behind
  pub front_is : concat before ≡ take len R

line_at : (R tail line behind : List ℕ) (len n : ℕ) (before : List (List ℕ)) (l : List ℕ) (bh : List (List ℕ)) → lines R ≡ before ++ l ∷ bh → len ≡ length (concat before) → len < length R → tail ≡ drop len R → n ≡ line_len tail → line ≡ take n tail → behind ≡ drop n tail →
    LineAt R tail line behind len before l bh
line_at R tail line behind len n before l bh is len_is lt tail_is size front back =
    let a = lines_behind before (l ∷ bh) R is in
    let some : 0 < length tail = rw tail_is (omega (arith, length-drop len R)) in
    let first : lines tail ≡ line ∷ lines behind = lines_step tail some ∙ rw (← size, ← front, ← back) refl in
    let there : lines tail ≡ l ∷ bh = ap lines tail_is ∙ ap (λ k. lines (drop k R)) len_is ∙ a.rest in
    let both : line ∷ lines behind ≡ l ∷ bh = sym first ∙ there in
    record { line_is = cc; behind_is = cc; front_is = a.front ∙ ap (λ k. take k R) (sym len_is) }

-- the line at a mark of a section
pub record Here (b R text line behind more : List ℕ) (p s : ℕ) (m : Mark) : Type 0 where
  pub section_is : section b p (lines R) ≡ prepend text (section_with m line (s + length line) (section b (s + length line) (lines behind)))
  pub others : Marks (IsOther b) (s + length line) (lines behind) more
  pub plain : Marks IsPlain (s + length line) (lines behind) more
  pub skipped : m ≡ Other → Marks (IsOther b) p (lines R) more

pub here : (b R text tail line behind own front more : List ℕ) (p s len n : ℕ) (m : Mark) → own ≡ front ++ s ∷ more → s ≡ p + len → len < length R → text ≡ take len R → tail ≡ drop len R → n ≡ line_len tail → line ≡ take n tail → behind ≡ drop n tail → mark_of b line ≡ m →
    Marks (IsOther b) p (lines R) (s ∷ more) → Marks IsPlain p (lines R) own → Here b R text line behind more p s m
here b R text tail line behind own front more p s len n m own_is place lt text_is tail_is size line_is behind_is mark others plain =
    let whole : length (concat (lines R)) ≡ length R = ap length (concat_lines R) in
    let a = marks_at (IsOther b) (lines R) p (s ∷ more) [] s more refl (omega arith) others in
    let len_a : len ≡ length (concat a.before) = omega (arith, a.place) in
    let la = line_at R tail line behind len n a.before a.line a.behind a.is len_a lt tail_is size line_is behind_is in
    let o = marks_at IsPlain (lines R) p own front s more own_is (omega arith) plain in
    let len_o : len ≡ length (concat o.before) = omega (arith, o.place) in
    let lo = line_at R tail line behind len n o.before o.line o.behind o.is len_o lt tail_is size line_is behind_is in
    record {
      section_is =
          ap (section b p) a.is
          ∙ section_free b a.before (a.line ∷ a.behind) p (a.free refl)
          ∙ ap (λ q. prepend (concat a.before) (section b q (a.line ∷ a.behind))) (sym a.place)
          ∙ ap (λ t. prepend t (section b s (a.line ∷ a.behind))) (la.front_is ∙ sym text_is)
          ∙ ap (λ l. prepend text (section b s (l ∷ a.behind))) la.line_is
          ∙ ap (λ ls. prepend text (section b s (line ∷ ls))) la.behind_is
          ∙ ap (prepend text) (section_step b line s (lines behind))
          ∙ ap (λ k. prepend text (section_with k line (s + length line) (section b (s + length line) (lines behind)))) mark;
      others = subst (λ ls. Marks (IsOther b) (s + length line) ls more) la.behind_is (subst (λ l. Marks (IsOther b) (s + length l) a.behind more) la.line_is a.marks);
      plain = subst (λ ls. Marks IsPlain (s + length line) ls more) lo.behind_is (subst (λ l. Marks IsPlain (s + length l) o.behind more) lo.line_is o.marks);
      skipped = λ other.
          unmark (IsOther b) (lines R) p s more
          (λ before l bh is at_s. ap (mark_of b) (line_at R tail line behind len n before l bh is (omega (arith, at_s)) lt tail_is size line_is behind_is).line_is ∙ mark ∙ other) others;
    }

pub end_shorter : (text : List ℕ) → length (without_end text) ≤ length text
unfolding without_end
end_shorter text = choose (slice_index text (length text - 1) == 10) (slice_index (take (length text - 1) text) (length (take (length text - 1) text) - 1) == 13)
  where
    choose : (a b : Bool) → length (if a then (if b then take (length (take (length text - 1) text) - 1) (take (length text - 1) text) else take (length text - 1) text) else text) ≤ length text
    choose true true = omega (arith, length-take {A = ℕ})
    choose true false = omega (arith, length-take {A = ℕ})
    choose false b = omega arith

end_front : (text : List ℕ) → (j : ℕ) × (without_end text ≡ take j text)
unfolding without_end
end_front text = choose (slice_index text (length text - 1) == 10) (slice_index (take (length text - 1) text) (length (take (length text - 1) text) - 1) == 13)
  where
    choose : (a b : Bool) → (j : ℕ) × ((if a then (if b then take (length (take (length text - 1) text) - 1) (take (length text - 1) text) else take (length text - 1) text) else text) ≡ take j text)
    choose true true = (length (take (length text - 1) text) - 1, take-take (length (take (length text - 1) text) - 1) (length text - 1) text (omega (arith, length-take {A = ℕ})))
    choose true false = (length text - 1, refl)
    choose false b = (length text, sym (take_all (length text) text (omega arith)))

pub plain_other : (b line : List ℕ) → IsPlain line → IsOther b line
unfolding mark_of
plain_other b line e =
    let f = end_front line in
    let plain : IsPlain (without_end line) = subst IsPlain (sym f.1) (plain_front line f.0 e) in
    rw plain refl

marks_mono : (P Q : List ℕ → Type 0) → ((l : List ℕ) → P l → Q l) → (ls : List (List ℕ)) (p : ℕ) (ms : List ℕ) → Marks P p ls ms → Marks Q p ls ms
marks_mono P Q on [] p ms h = h
marks_mono P Q on (l ∷ ls) p ms (inl h) = inl (on l h.0, marks_mono P Q on ls (p + length l) ms h.1)
marks_mono P Q on (l ∷ ls) p ms (inr h) = inr (h.0, h.1, marks_mono P Q on ls (p + length l) h.0 h.2)

-- the texts within a text
pub text_back : (bytes R : List ℕ) (from to n : ℕ) → R ≡ text_at bytes (record { from = from; to = to }) → drop n R ≡ text_at bytes (record { from = from + n; to = to })
text_back bytes R from to n is = ap (drop n) is ∙ drop-drop n from (take to bytes)

take_drop : (n from : ℕ) (l : List ℕ) → from ≤ length l → take n (drop from l) ≡ drop from (take (from + n) l)
take_drop n from l le = sym (ap (drop from) (take-add from n l) ∙ drop_at (take from l) (take n (drop from l)) from (length-take-le from l le))

take_drop_all : (n from : ℕ) (l : List ℕ) → take n (drop from l) ≡ drop from (take (from + n) l)
take_drop_all n from l = choose (nat_le from (length l)) refl
  where
    choose : (t : Bool) → nat_le from (length l) ≡ t → take n (drop from l) ≡ drop from (take (from + n) l)
    choose true e = take_drop n from l (leb-true from (length l) e)
    choose false e =
        let short = leb-false from (length l) e in
        let none : length (take (from + n) l) ≤ from = omega (arith, length-take (from + n) l) in
        ap (take n) (drop_all from l (omega arith)) ∙ take-nil n ∙ sym (drop_all from (take (from + n) l) none)

pub text_front : (bytes R : List ℕ) (from to n : ℕ) → R ≡ text_at bytes (record { from = from; to = to }) → from + length R ≡ to → n ≤ length R → take n R ≡ text_at bytes (record { from = from; to = from + n })
text_front bytes R from to n is inside le =
    ap (take n) is ∙ take_drop_all n from (take to bytes) ∙ ap (drop from) (take-take (from + n) to bytes (omega arith))

-- where the cut of a body stands
pub record Stands (bytes : List ℕ) (to : ℕ) (b : List ℕ) (all : Found) (ms : List ℕ) (pieces : List Piece) (from : ℕ) (begun own : List ℕ) : Type 0 where
  pub inside : from + length begun ≡ to
  pub text : begun ≡ text_at bytes (record { from = from; to = to })
  pub all_is : found_all (map (λ (q : Piece). q.span) pieces) from (section b from (lines begun)) ≡ all
  pub others : Marks (IsOther b) from (lines begun) ms
  pub plain : Marks IsPlain from (lines begun) own
  pub seen : List ℕ
  pub own_is : own ≡ seen ++ ms
  pub ready : AreReady bytes pieces

pub stands : (bytes b ms : List ℕ) (body : Span) (pieces : List Piece) → pieces ≡ [] → IsInside bytes body → Marks IsPlain body.from (lines (text_at bytes body)) ms →
    Stands bytes body.to b (section_pieces body.from (section b body.from (lines (text_at bytes body)))) ms pieces body.from (text_at bytes body) ms
stands bytes b ms body pieces none inside plain =
    subst (λ ps. Stands bytes body.to b (section_pieces body.from (section b body.from (lines (text_at bytes body)))) ms ps body.from (text_at bytes body) ms) (sym none)
    (record { inside = inside; text = refl; all_is = refl; others = marks_mono IsPlain (IsOther b) (plain_other b) (lines (text_at bytes body)) body.from ms plain; plain = plain; seen = []; own_is = refl; ready = tt })

pub stand_above : (bytes : List ℕ) (to : ℕ) (b : List ℕ) (all : Found) (s : ℕ) (more : List ℕ) (pieces : List Piece) (from : ℕ) (begun own : List ℕ) → Stands bytes to b all (s ∷ more) pieces from begun own → from ≤ s
stand_above bytes to b all s more pieces from begun own st = (marks_above (IsOther b) (lines begun) from (s ∷ more) st.others).0

-- a mark at a line that bounds nothing here
pub passes : (bytes : List ℕ) (to : ℕ) (b : List ℕ) (all : Found) (s : ℕ) (more : List ℕ) (pieces : List Piece) (from : ℕ) (begun own text tail line behind : List ℕ) (len n : ℕ) → len ≡ s - from → len < length begun → text ≡ take len begun → tail ≡ drop len begun → n ≡ line_len tail → line ≡ take n tail → behind ≡ drop n tail → mark_of b line ≡ Other →
    Stands bytes to b all (s ∷ more) pieces from begun own → Stands bytes to b all more pieces from begun own
passes bytes to b all s more pieces from begun own text tail line behind len n len_is lt text_is tail_is size line_is behind_is mark st =
    let low = stand_above bytes to b all s more pieces from begun own st in
    let h = here b begun text tail line behind own st.seen more from s len n Other st.own_is (omega arith) lt text_is tail_is size line_is behind_is mark st.others st.plain in
    record { inside = st.inside; text = st.text; all_is = st.all_is; others = h.skipped refl; plain = st.plain; seen = st.seen ++ s ∷ []; own_is = st.own_is ∙ sym (append_assoc st.seen (s ∷ []) more); ready = st.ready }

ready_more : (bytes : List ℕ) (pieces : List Piece) (piece : Piece) → AreReady bytes pieces → IsReady bytes piece → AreReady bytes (pieces ++ piece ∷ [])
ready_more bytes [] piece all one = (one, tt)
ready_more bytes (q ∷ qs) piece all one = (all.0, ready_more bytes qs piece all.1 one)

-- the front of a section is a piece
piece_ready : (bytes R own : List ℕ) (piece : Piece) (from to n : ℕ) → R ≡ text_at bytes (record { from = from; to = to }) → from + length R ≡ to → n ≤ length R → piece.span ≡ record { from = from; to = from + n } → piece.marks.now ≡ own → Marks IsPlain from (lines R) own → IsReady bytes piece
piece_ready bytes R own piece from to n is inside le span_is marks_are plain =
    let front = text_front bytes R from to n is inside le in
    let long : length (text_at bytes (record { from = from; to = from + n })) ≡ n = ap length (sym front) ∙ length-take-le n R le in
    let within : IsInside bytes (record { from = from; to = from + n }) = ap (λ k. from + k) long in
    let marked : Marks IsPlain from (lines (text_at bytes (record { from = from; to = from + n }))) own = subst (λ t. Marks IsPlain from (lines t) own) front (marks_front (length R) R from n own (omega arith) plain) in
    record {
      inside = subst (IsInside bytes) (sym span_is) within;
      marked = subst (λ (s : Span). Marks IsPlain s.from (lines (text_at bytes s)) piece.marks.now) (sym span_is) (subst (λ ms. Marks IsPlain from (lines (text_at bytes (record { from = from; to = from + n }))) ms) (sym marks_are) marked);
    }

spans_more : (pieces : List Piece) (piece : Piece) (span : Span) → piece.span ≡ span → map (λ (q : Piece). q.span) (pieces ++ piece ∷ []) ≡ map (λ (q : Piece). q.span) pieces ++ span ∷ []
spans_more pieces piece span e = map-append (λ (q : Piece). q.span) pieces (piece ∷ []) ∙ ap (λ s. map (λ (q : Piece). q.span) pieces ++ s ∷ []) e

-- a boundary line ends a piece
pub bounds : (bytes : List ℕ) (to : ℕ) (b : List ℕ) (all : Found) (s : ℕ) (more : List ℕ) (pieces new : List Piece) (piece : Piece) (from from_new : ℕ) (begun own text tail line behind ended : List ℕ) (len n : ℕ) → len ≡ s - from → len < length begun → text ≡ take len begun → tail ≡ drop len begun → n ≡ line_len tail → line ≡ take n tail → behind ≡ drop n tail → mark_of b line ≡ Boundary →
    ended ≡ without_end text → piece.span ≡ record { from = from; to = from + length ended } → piece.marks.now ≡ own → new ≡ pieces ++ piece ∷ [] → from_new ≡ s + length line →
    Stands bytes to b all (s ∷ more) pieces from begun own → Stands bytes to b all more new from_new behind more
bounds bytes to b all s more pieces new piece from from_new begun own text tail line behind ended len n len_is lt text_is tail_is size line_is behind_is mark cut span_is marks_are pushed on st =
    let low = stand_above bytes to b all s more pieces from begun own st in
    let h = here b begun text tail line behind own st.seen more from s len n Boundary st.own_is (omega arith) lt text_is tail_is size line_is behind_is mark st.others st.plain in
    let next = section b (s + length line) (lines behind) in
    let short : length ended ≤ length text = rw cut (end_shorter text) in
    let text_len : length text ≤ length begun = rw text_is (omega (arith, length-take len begun)) in
    let tail_len : length tail ≡ length begun - len = ap length tail_is ∙ length-drop len begun in
    let n_le : n ≤ length tail = rw size (line_le tail) in
    let line_len_is : length line ≡ n = ap length line_is ∙ length-take-le n tail n_le in
    let behind_len : length behind ≡ length tail - n = ap length behind_is ∙ length-drop n tail in
    let first : record { from = from; to = from + length (without_end (text ++ [])) } ≡ piece.span = rw append-nil (sym (span_is ∙ ap (λ t. record { from = from; to = from + length t }) cut)) in
    let spans = map (λ (q : Piece). q.span) pieces in
    let regrouped : spans ++ (piece.span ∷ pieces_at (s + length line) next) ≡ map (λ (q : Piece). q.span) new ++ pieces_at (s + length line) next =
    sym (ap (λ ps. map (λ (q : Piece). q.span) ps ++ pieces_at (s + length line) next) pushed ∙ ap (λ x. x ++ pieces_at (s + length line) next) (spans_more pieces piece piece.span refl) ∙ append_assoc spans (piece.span ∷ []) (pieces_at (s + length line) next)) in
    let whole : found_all (map (λ (q : Piece). q.span) new) (s + length line) next ≡ all =
    sym (ap (λ p. record { spans = spans ++ (p ∷ pieces_at (s + length line) next); odd = next.odd }) first ∙ ap (λ l. record { spans = l; odd = next.odd }) regrouped)
    ∙ ap (found_all spans from) (sym h.section_is) ∙ st.all_is in
    let place : from + len + n ≡ s + length line = omega arith in
    subst (λ f. Stands bytes to b all more new f behind more) (sym on)
    (record {
      inside = omega (arith, st.inside);
      text = behind_is ∙ ap (drop n) tail_is ∙ text_back bytes (drop len begun) (from + len) to n (text_back bytes begun from to len st.text) ∙ ap (λ f. text_at bytes (record { from = f; to = to })) place;
      all_is = whole;
      others = h.others;
      plain = h.plain;
      seen = [];
      own_is = refl;
      ready = subst (AreReady bytes) (sym pushed) (ready_more bytes pieces piece st.ready (piece_ready bytes begun own piece from to (length ended) st.text st.inside (omega arith) span_is marks_are st.plain));
    })

-- the closing line ends the last piece
pub closes : (bytes : List ℕ) (to : ℕ) (b : List ℕ) (all : Found) (s : ℕ) (more : List ℕ) (pieces new : List Piece) (piece : Piece) (from : ℕ) (begun own text tail line behind ended : List ℕ) (len n : ℕ) → len ≡ s - from → len < length begun → text ≡ take len begun → tail ≡ drop len begun → n ≡ line_len tail → line ≡ take n tail → behind ≡ drop n tail → mark_of b line ≡ Closing →
    ended ≡ without_end text → piece.span ≡ record { from = from; to = from + length ended } → piece.marks.now ≡ own → new ≡ pieces ++ piece ∷ [] →
    Stands bytes to b all (s ∷ more) pieces from begun own → (record { spans = map (λ (q : Piece). q.span) new; odd = no_odd } ≡ all) × AreReady bytes new
closes bytes to b all s more pieces new piece from begun own text tail line behind ended len n len_is lt text_is tail_is size line_is behind_is mark cut span_is marks_are pushed st =
    let low = stand_above bytes to b all s more pieces from begun own st in
    let h = here b begun text tail line behind own st.seen more from s len n Closing st.own_is (omega arith) lt text_is tail_is size line_is behind_is mark st.others st.plain in
    let short : length ended ≤ length text = rw cut (end_shorter text) in
    let text_len : length text ≤ length begun = rw text_is (omega (arith, length-take len begun)) in
    let first : record { from = from; to = from + length (without_end (text ++ [])) } ≡ piece.span = rw append-nil (sym (span_is ∙ ap (λ t. record { from = from; to = from + length t }) cut)) in
    let spans = map (λ (q : Piece). q.span) pieces in (
      ap (λ ps. record { spans = map (λ (q : Piece). q.span) ps; odd = no_odd }) pushed ∙ ap (λ l. record { spans = l; odd = no_odd }) (spans_more pieces piece piece.span refl)
          ∙ ap (λ p. record { spans = spans ++ (p ∷ []); odd = no_odd }) (sym first)
          ∙ ap (found_all spans from) (sym h.section_is) ∙ st.all_is,
      subst (AreReady bytes) (sym pushed) (ready_more bytes pieces piece st.ready (piece_ready bytes begun own piece from to (length ended) st.text st.inside (omega arith) span_is marks_are st.plain)),
    )

all_concat : (ls : List (List ℕ)) → ls ++ [] ≡ ls
all_concat ls = append-nil ls

empty_other : (b : List ℕ) → IsOther b []
empty_other b = plain_other b [] refl

-- the text ends, and with it the last piece
pub ends_with : (bytes : List ℕ) (to : ℕ) (b : List ℕ) (all : Found) (ms : List ℕ) (pieces new : List Piece) (piece : Piece) (from : ℕ) (begun own : List ℕ) → Beyond (from + length begun) ms → piece.span ≡ record { from = from; to = from + length begun } → piece.marks.now ≡ own → new ≡ pieces ++ piece ∷ [] →
    Stands bytes to b all ms pieces from begun own → (record { spans = map (λ (q : Piece). q.span) new; odd = Unclosed } ≡ all) × AreReady bytes new
ends_with bytes to b all ms pieces new piece from begun own beyond span_is marks_are pushed st =
    let free = all_free (IsOther b) (lines begun) from ms (empty_other b) (subst (λ t. Beyond (from + length t) ms) (sym (concat_lines begun)) beyond) st.others in
    let section_is : section b from (lines begun) ≡ record { text = begun ++ []; bounded = false; more = []; odd = Unclosed } =
    ap (section b from) (sym (append-nil (lines begun))) ∙ section_free b (lines begun) [] from free
    ∙ ap (prepend (concat (lines begun))) (section_none b (from + length (concat (lines begun))))
    ∙ ap (λ t. record { text = t ++ []; bounded = false; more = []; odd = Unclosed }) (concat_lines begun) in
    let first : record { from = from; to = from + length (begun ++ []) } ≡ piece.span = rw append-nil (sym span_is) in
    let spans = map (λ (q : Piece). q.span) pieces in (
      ap (λ ps. record { spans = map (λ (q : Piece). q.span) ps; odd = Unclosed }) pushed ∙ ap (λ l. record { spans = l; odd = Unclosed }) (spans_more pieces piece piece.span refl)
          ∙ ap (λ p. record { spans = spans ++ (p ∷ []); odd = Unclosed }) (sym first)
          ∙ ap (found_all spans from) (sym section_is) ∙ st.all_is,
      subst (AreReady bytes) (sym pushed) (ready_more bytes pieces piece st.ready (piece_ready bytes begun own piece from to (length begun) st.text st.inside (omega arith) span_is marks_are st.plain)),
    )

pub ok_found : {E : Type 0} (r : Result Pieces E) (items : List Piece) (odd : Odd) (all : Found) → IfOk r (λ p. p.pieces.items ≡ items) → IfOk r (λ p. p.odd ≡ odd) → record { spans = map (λ (q : Piece). q.span) items; odd = odd } ≡ all → IfOk r (λ p. found p ≡ all)
ok_found (Ok p) items odd all a b e = ap (λ is. record { spans = map (λ (q : Piece). q.span) is; odd = p.odd }) a ∙ ap (λ o. record { spans = map (λ (q : Piece). q.span) items; odd = o }) b ∙ e
ok_found (Err x) items odd all a b e = tt

pub ok_ready : {E : Type 0} (bytes : List ℕ) (r : Result Pieces E) (items : List Piece) → IfOk r (λ p. p.pieces.items ≡ items) → AreReady bytes items → IfOk r (λ p. AreReady bytes p.pieces.items)
ok_ready bytes (Ok p) items a h = subst (AreReady bytes) (sym a) h
ok_ready bytes (Err x) items a h = tt

-- the next of the marks
pub at_next : {bytes b begun own : List ℕ} {to from : ℕ} {all : Found} {pieces : List Piece} (i : ℕ) (marks : List ℕ) → i < length marks → Stands bytes to b all (drop i marks) pieces from begun own → Stands bytes to b all (get_or marks i 0 ∷ drop (i + 1) marks) pieces from begun own
at_next {bytes} {b} {begun} {own} {to} {from} {all} {pieces} i marks lt st = subst (λ ms. Stands bytes to b all ms pieces from begun own) (cut_at marks i (get_or marks i 0) lt refl) st
