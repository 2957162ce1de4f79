-- Marked lines.
use Rattle.std.proofs.Common.{◌≡◌, inl, inr, ℕ, zero, suc, ◌+◌, ◌-◌, ◌<◌, ◌≤◌, Bool, true, false, List, [], ◌∷◌, ◌++◌, length, take, drop, refl, sym, ◌∙◌, ap, subst, arith, append_assoc, append-nil, add-zero, length-append, length-drop}
use Rattle.std.specs.Prelude.{◌==◌, ◌&&◌, nat_lt, nat_le, if◌then◌else◌}
use Rattle.std.specs.List.{concat, prefix_len}
use Rattle.std.proofs.lemmas.List.{length-take, length-take-le, drop-drop, take_all, take-take, drop_all, drop_at}
use Rattle.std.proofs.lemmas.Bool.{leb-true, leb-false}
use Rattle.std.proofs.lemmas.Bool.Decides.{Decides-ltb, nat_tests}
use Rattle.std.proofs.Math.Seq.{take-add, take-nil}
use Rattle.mime_tree.specs.BoundaryLines.{line_len, lines, led_by}
use Rattle.mime_tree.specs.DashLines.{is_dashed, IsPlain, AllFrom, Marks, marks_from}
use Rattle.mime_tree.proofs.Lining.{line_some, lines_step, no_lines, line_le}

pub from_le : (p q : ℕ) (ms : List ℕ) → p ≤ q → AllFrom q ms → AllFrom p ms
from_le p q [] le h = tt
from_le p q (m ∷ ms) le h = let first : q ≤ m = h.0 in (omega arith, from_le p q ms le h.1)

from_mid : (p s : ℕ) (front more : List ℕ) → AllFrom p (front ++ s ∷ more) → p ≤ s
from_mid p s [] more h = h.0
from_mid p s (f ∷ front) more h = from_mid p s front more h.1

-- marks of lines lie behind the first
pub marks_above : (Q : List ℕ → Type 0) (ls : List (List ℕ)) (p : ℕ) (ms : List ℕ) → Marks Q p ls ms → AllFrom p ms
marks_above Q [] p ms h = h
marks_above Q (l ∷ ls) p ms (inl h) = from_le p (p + length l) ms (omega arith) (marks_above Q ls (p + length l) ms h.1)
marks_above Q (l ∷ ls) p ms (inr h) =
    let above : AllFrom (p + length l) h.0 = marks_above Q ls (p + length l) h.0 h.2 in
    subst (λ x. AllFrom p x) (sym h.1) (omega arith, from_le p (p + length l) h.0 (omega arith) above)

abbrev pub Frees : (List ℕ → Type 0) → List (List ℕ) → Type 0
Frees Q [] = Unit {0}
Frees Q (l ∷ ls) = Q l × Frees Q ls

-- the line at a mark
pub record At (Q : List ℕ → Type 0) (p : ℕ) (ls : List (List ℕ)) (front : List ℕ) (s : ℕ) (more : List ℕ) : Type 0 where
  pub before : List (List ℕ)
  pub line : List ℕ
  pub behind : List (List ℕ)
  pub is : ls ≡ before ++ line ∷ behind
  pub place : s ≡ p + length (concat before)
  pub marks : Marks Q (s + length line) behind more
  pub free : front ≡ [] → Frees Q before

pub marks_at : (Q : List ℕ → Type 0) (ls : List (List ℕ)) (p : ℕ) (ms front : List ℕ) (s : ℕ) (more : List ℕ) → ms ≡ front ++ s ∷ more → s < p + length (concat ls) → Marks Q p ls ms → At Q p ls front s more
marks_at Q [] p ms front s more e lt h = let low = from_mid p s front more (subst (λ x. AllFrom p x) e h) in absurd (omega arith)
marks_at Q (l ∷ ls) p ms front s more e lt (inl h) =
    let a = marks_at Q ls (p + length l) ms front s more e (omega (arith, length-append l (concat ls))) h.1 in
    record {
      before = l ∷ a.before;
      line = a.line;
      behind = a.behind;
      is = ap (λ x. l ∷ x) a.is;
      place = (let e : s ≡ p + length l + length (concat a.before) = a.place in omega (arith, length-append l (concat a.before)));
      marks = a.marks;
      free = λ none. (h.0, a.free none);
    }
marks_at Q (l ∷ ls) p ms [] s more e lt (inr h) =
    let both : s ∷ more ≡ p ∷ h.0 = sym e ∙ h.1 in
    let s_is : s ≡ p = cc in
    let more_is : more ≡ h.0 = cc in
    record {
      before = [];
      line = l;
      behind = ls;
      is = refl;
      place = omega arith;
      marks = subst (λ x. Marks Q (x + length l) ls more) (sym s_is) (subst (λ x. Marks Q (p + length l) ls x) (sym more_is) h.2);
      free = λ none. tt;
    }
marks_at Q (l ∷ ls) p ms (f ∷ front) s more e lt (inr h) =
    let both : f ∷ (front ++ s ∷ more) ≡ p ∷ h.0 = sym e ∙ h.1 in
    let rest_is : h.0 ≡ front ++ s ∷ more = cc in
    let a = marks_at Q ls (p + length l) h.0 front s more rest_is (omega (arith, length-append l (concat ls))) h.2 in
    record {
      before = l ∷ a.before;
      line = a.line;
      behind = a.behind;
      is = ap (λ x. l ∷ x) a.is;
      place = (let e : s ≡ p + length l + length (concat a.before) = a.place in omega (arith, length-append l (concat a.before)));
      marks = a.marks;
      free = λ none. cc;
    }

-- a mark at a line that is free may go
pub unmark : (Q : List ℕ → Type 0) (ls : List (List ℕ)) (p s : ℕ) (more : List ℕ) → ((before : List (List ℕ)) (line : List ℕ) (behind : List (List ℕ)) → ls ≡ before ++ line ∷ behind → s ≡ p + length (concat before) → Q line) →
    Marks Q p ls (s ∷ more) → Marks Q p ls more
unmark Q [] p s more free h = h.1
unmark Q (l ∷ ls) p s more free (inl h) =
    inl (
      h.0,
      unmark Q ls (p + length l) s more
          (λ before line behind is place. free (l ∷ before) line behind (ap (λ x. l ∷ x) is) (omega (arith, length-append l (concat before), place))) h.1,
    )
unmark Q (l ∷ ls) p s more free (inr h) =
    let both : s ∷ more ≡ p ∷ h.0 = h.1 in
    let s_is : s ≡ p = cc in
    let more_is : more ≡ h.0 = cc in
    inl (free [] l ls refl (omega arith), subst (λ x. Marks Q (p + length l) ls x) (sym more_is) h.2)

-- no mark lies before this place
abbrev pub Beyond : ℕ → List ℕ → Type 0
Beyond q [] = Unit {0}
Beyond q (m ∷ ms) = q ≤ m

from_beyond : (q : ℕ) (ms : List ℕ) → AllFrom q ms → Beyond q ms
from_beyond q [] h = tt
from_beyond q (m ∷ ms) h = h.0

beyond_le : (p q : ℕ) (ms : List ℕ) → p ≤ q → Beyond q ms → Beyond p ms
beyond_le p q [] le h = tt
beyond_le p q (m ∷ ms) le h = let low : q ≤ m = h in omega arith

no_text : (l : List ℕ) → length l ≡ 0 → l ≡ []
no_text [] e = refl
no_text (b ∷ l) e = absurd (omega arith)

-- where no mark lies within the lines, all are free
pub all_free : (Q : List ℕ → Type 0) (ls : List (List ℕ)) (p : ℕ) (ms : List ℕ) → Q [] → Beyond (p + length (concat ls)) ms → Marks Q p ls ms → Frees Q ls
all_free Q [] p ms q beyond h = tt
all_free Q (l ∷ ls) p ms q beyond (inl h) =
    (h.0, all_free Q ls (p + length l) ms q (beyond_le (p + length l + length (concat ls)) (p + length (l ++ concat ls)) ms (omega (arith, length-append l (concat ls))) beyond) h.1)
all_free Q (l ∷ ls) p ms q beyond (inr h) =
    let low : p + length (l ++ concat ls) ≤ p = subst (λ x. Beyond (p + length (l ++ concat ls)) x) h.1 beyond in
    let parts = length-append l (concat ls) in
    let none : length l ≡ 0 = omega arith in
    let short : length (concat ls) ≡ 0 = omega arith in
    let above = marks_above Q ls (p + length l) h.0 h.2 in
    (subst Q (sym (no_text l none)) q, all_free Q ls (p + length l) h.0 q (beyond_le (p + length l + length (concat ls)) (p + length l) h.0 (omega arith) (from_beyond (p + length l) h.0 above)) h.2)

none_is_cons : (R l : List ℕ) (ls : List (List ℕ)) → lines R ≡ l ∷ ls → 0 < length R
none_is_cons [] l ls e = let no : [] ≡ l ∷ ls = sym no_lines ∙ e in cc
none_is_cons (b ∷ R) l ls e = omega arith

-- what stands behind some of the lines
pub record Behind (R : List ℕ) (before ls : List (List ℕ)) : Type 0 where
  pub rest : lines (drop (length (concat before)) R) ≡ ls
  pub front : concat before ≡ take (length (concat before)) R
  pub inside : length (concat before) ≤ length R

pub lines_behind : (before ls : List (List ℕ)) (R : List ℕ) → lines R ≡ before ++ ls → Behind R before ls
lines_behind [] ls R e = record { rest = e; front = refl; inside = omega arith }
lines_behind (l ∷ before) ls R e =
    let some = none_is_cons R l (before ++ ls) e in
    let k = line_len R in
    let both : take (line_len R) R ∷ lines (drop (line_len R) R) ≡ l ∷ (before ++ ls) = sym (lines_step R some) ∙ e in
    let l_is : l ≡ take (line_len R) R = cc in
    let more : lines (drop (line_len R) R) ≡ before ++ ls = cc in
    let a = lines_behind before ls (drop (line_len R) R) more in
    let k_le = line_le R in
    let long : length l ≡ line_len R = ap length l_is ∙ length-take-le (line_len R) R k_le in
    let sum : length (l ++ concat before) ≡ line_len R + length (concat before) = length-append l (concat before) ∙ ap (λ x. x + length (concat before)) long in
    record {
      rest = ap (λ n. lines (drop n R)) sum ∙ ap lines (sym (drop-drop (length (concat before)) (line_len R) R)) ∙ a.rest;
      front = ap (λ x. x ++ concat before) l_is ∙ ap (λ x. take (line_len R) R ++ x) a.front ∙ sym (take-add (line_len R) (length (concat before)) R) ∙ ap (λ n. take n R) (sym sum);
      inside = omega (arith, a.inside, length-drop (line_len R) R, sum);
    }

lines_none : (R : List ℕ) → lines R ≡ [] → R ≡ []
lines_none [] e = refl
lines_none (b ∷ R) e = let no = sym (lines_step (b ∷ R) (omega arith)) ∙ e in cc

pub concat_lines : (R : List ℕ) → concat (lines R) ≡ R
concat_lines R =
    let a = lines_behind (lines R) [] R (sym (append-nil (lines R))) in
    let none = lines_none (drop (length (concat (lines R))) R) a.rest in
    let all : length R ≤ length (concat (lines R)) = omega (arith, length-drop (length (concat (lines R))) R, ap length none) in
    a.front ∙ take_all (length (concat (lines R))) R all

-- the first line of the front of a text
long_front : (R : List ℕ) (n : ℕ) → line_len R ≤ n → line_len (take n R) ≡ line_len R
unfolding line_len
long_front [] n le = rw take-nil refl
long_front (b ∷ R) zero le = let some = line_some (b ∷ R) (omega arith) in absurd (omega arith)
long_front (b ∷ R) (suc n) le = choose (b == 10) (long_front R n) le
  where
    choose : (t : Bool) → (line_len R ≤ n → line_len (take n R) ≡ line_len R) → (if t then 1 else 1 + line_len R) ≤ suc n → (if t then 1 else 1 + line_len (take n R)) ≡ (if t then 1 else 1 + line_len R)
    choose true more le = refl
    choose false more le = ap (λ m. 1 + m) (more (omega arith))

short_front : (R : List ℕ) (n : ℕ) → n < line_len R → line_len (take n R) ≡ n
unfolding line_len
short_front [] n lt = absurd (omega arith)
short_front (b ∷ R) zero lt = refl
short_front (b ∷ R) (suc n) lt = choose (b == 10) (short_front R n) lt
  where
    choose : (t : Bool) → (n < line_len R → line_len (take n R) ≡ n) → suc n < (if t then 1 else 1 + line_len R) → (if t then 1 else 1 + line_len (take n R)) ≡ suc n
    choose true more lt = absurd (omega arith)
    choose false more lt = let h = more (omega arith) in omega arith

and_no : (t : Bool) → (t && false) ≡ false
and_no true = refl
and_no false = refl

pub plain_front : (l : List ℕ) (n : ℕ) → IsPlain l → IsPlain (take n l)
plain_front l zero e = refl
plain_front [] (suc n) e = refl
plain_front (a ∷ l) (suc zero) e = and_no (a == 45)
plain_front (a ∷ []) (suc (suc n)) e = and_no (a == 45)
plain_front (a ∷ b ∷ l) (suc (suc n)) e = e

some_front : (R : List ℕ) (n : ℕ) → 0 < length R → 0 < n → 0 < length (take n R)
some_front [] n some up = absurd (omega arith)
some_front (b ∷ R) zero some up = absurd (omega arith)
some_front (b ∷ R) (suc n) some up = omega arith

drop_front : (R : List ℕ) (k j : ℕ) → k ≤ length R → drop k (take (k + j) R) ≡ take j (drop k R)
drop_front R k j le = ap (drop k) (take-add k j R) ∙ drop_at (take k R) (take j (drop k R)) k (length-take-le k R le)

first_of_front : (R : List ℕ) (n : ℕ) → 0 < length R → line_len R ≤ n → lines (take n R) ≡ take (line_len R) R ∷ lines (take (n - line_len R) (drop (line_len R) R))
first_of_front R n some le =
    let k_some = line_some R some in
    let k_le = line_le R in
    let len = long_front R n le in
    let sum : line_len R + (n - line_len R) ≡ n = omega arith in
    lines_step (take n R) (some_front R n some (omega arith))
    ∙ ap (λ k. take k (take n R) ∷ lines (drop k (take n R))) len
    ∙ ap (λ x. x ∷ lines (drop (line_len R) (take n R))) (take-take (line_len R) n R le)
    ∙ ap (λ x. take (line_len R) R ∷ lines x) (ap (λ j. drop (line_len R) (take j R)) (sym sum) ∙ drop_front R (line_len R) (n - line_len R) k_le)

front_is_line : (R : List ℕ) (n : ℕ) → 0 < length R → 0 < n → n < line_len R → lines (take n R) ≡ take n R ∷ []
front_is_line R n some up lt =
    let len = short_front R n lt in
    let short : length (take n R) ≤ n = omega (arith, length-take n R) in
    lines_step (take n R) (some_front R n some up)
    ∙ ap (λ k. take k (take n R) ∷ lines (drop k (take n R))) len
    ∙ ap (λ x. x ∷ lines (drop n (take n R))) (take_all n (take n R) short)
    ∙ ap (λ x. take n R ∷ lines x) (drop_all n (take n R) short)
    ∙ ap (λ x. take n R ∷ x) no_lines

-- the marks of a text are those of its front
front_long : (R : List ℕ) (p n : ℕ) (ms : List ℕ) → 0 < length R → line_len R ≤ n → Marks IsPlain p (take (line_len R) R ∷ lines (drop (line_len R) R)) ms →
    ((q k : ℕ) (more : List ℕ) → Marks IsPlain q (lines (drop (line_len R) R)) more → Marks IsPlain q (lines (take k (drop (line_len R) R))) more) → Marks IsPlain p (lines (take n R)) ms
front_long R p n ms some le (inl g) on =
    subst (λ ls. Marks IsPlain p ls ms) (sym (first_of_front R n some le)) (inl (g.0, on (p + length (take (line_len R) R)) (n - line_len R) ms g.1))
front_long R p n ms some le (inr g) on =
    subst (λ ls. Marks IsPlain p ls ms) (sym (first_of_front R n some le)) (inr (g.0, g.1, on (p + length (take (line_len R) R)) (n - line_len R) g.0 g.2))

front_short : (R : List ℕ) (p n : ℕ) (ms : List ℕ) → 0 < length R → 0 < n → n < line_len R → Marks IsPlain p (take (line_len R) R ∷ lines (drop (line_len R) R)) ms → Marks IsPlain p (lines (take n R)) ms
front_short R p n ms some up lt (inl g) =
    let above = marks_above IsPlain (lines (drop (line_len R) R)) (p + length (take (line_len R) R)) ms g.1 in
    let k_le = line_le R in
    let long : length (take (line_len R) R) ≡ line_len R = length-take-le (line_len R) R k_le in
    let short : length (take n R) ≤ n = omega (arith, length-take n R) in
    let plain : IsPlain (take n R) = subst IsPlain (take-take n (line_len R) R (omega arith)) (plain_front (take (line_len R) R) n g.0) in
    subst (λ ls. Marks IsPlain p ls ms) (sym (front_is_line R n some up lt)) (inl (plain, from_le (p + length (take n R)) (p + length (take (line_len R) R)) ms (omega arith) above))
front_short R p n ms some up lt (inr g) =
    let above = marks_above IsPlain (lines (drop (line_len R) R)) (p + length (take (line_len R) R)) g.0 g.2 in
    let k_le = line_le R in
    let long : length (take (line_len R) R) ≡ line_len R = length-take-le (line_len R) R k_le in
    let short : length (take n R) ≤ n = omega (arith, length-take n R) in
    subst (λ ls. Marks IsPlain p ls ms) (sym (front_is_line R n some up lt)) (inr (g.0, g.1, from_le (p + length (take n R)) (p + length (take (line_len R) R)) g.0 (omega arith) above))

pub marks_front : (m : ℕ) (R : List ℕ) (p n : ℕ) (ms : List ℕ) → length R ≤ m → Marks IsPlain p (lines R) ms → Marks IsPlain p (lines (take n R)) ms
marks_front m R p zero ms le h = subst (λ ls. Marks IsPlain p ls ms) (sym no_lines) (marks_above IsPlain (lines R) p ms h)
marks_front m [] p (suc n) ms le h = h
marks_front zero (b ∷ R) p (suc n) ms le h = absurd (omega arith)
marks_front (suc m) (b ∷ R) p (suc n) ms le h =
    choose (nat_le (line_len (b ∷ R)) (suc n)) refl (subst (λ ls. Marks IsPlain p ls ms) (lines_step (b ∷ R) (omega arith)) h)
    (λ q k more g. marks_front m (drop (line_len (b ∷ R)) (b ∷ R)) q k more (let some = line_some (b ∷ R) (omega arith) in omega (arith, length-drop (line_len (b ∷ R)) (b ∷ R))) g)
  where
    choose : (t : Bool) → nat_le (line_len (b ∷ R)) (suc n) ≡ t → Marks IsPlain p (take (line_len (b ∷ R)) (b ∷ R) ∷ lines (drop (line_len (b ∷ R)) (b ∷ R))) ms →
        ((q k : ℕ) (more : List ℕ) → Marks IsPlain q (lines (drop (line_len (b ∷ R)) (b ∷ R))) more → Marks IsPlain q (lines (take k (drop (line_len (b ∷ R)) (b ∷ R)))) more) →
        Marks IsPlain p (lines (take (suc n) (b ∷ R))) ms
    choose true e g on = front_long (b ∷ R) p (suc n) ms (omega arith) (leb-true (line_len (b ∷ R)) (suc n) e) g on
    choose false e g on = front_short (b ∷ R) p (suc n) ms (omega arith) (omega arith) (leb-false (line_len (b ∷ R)) (suc n) e) g

-- a text that ends with a line feed, or has no bytes
abbrev pub ends : List ℕ → Bool
ends [] = true
ends (b ∷ []) = b == 10
ends (b ∷ c ∷ rest) = ends (c ∷ rest)

one_line : (b : ℕ) (rest : List ℕ) → b == 10 ≡ true → lines (b ∷ rest) ≡ (b ∷ []) ∷ lines rest
unfolding lines
one_line b rest e = rw e refl

led_line : (b : ℕ) (rest : List ℕ) → b == 10 ≡ false → lines (b ∷ rest) ≡ led_by b (lines rest)
unfolding lines
led_line b rest e = rw e refl

led_more : (b : ℕ) (ls more : List (List ℕ)) (l : List ℕ) (rest : List (List ℕ)) → ls ≡ l ∷ rest → led_by b (ls ++ more) ≡ led_by b ls ++ more
led_more b ls more l rest e = rw e refl

pub lines_append : (X Y : List ℕ) → ends X ≡ true → lines (X ++ Y) ≡ lines X ++ lines Y
lines_append [] Y e = ap (λ x. x ++ lines Y) (sym no_lines)
lines_append (b ∷ []) Y e = one_line b Y e ∙ sym (ap (λ x. x ++ lines Y) (one_line b [] e ∙ ap (λ x. (b ∷ []) ∷ x) no_lines))
lines_append (b ∷ c ∷ rest) Y e = choose (b == 10) refl (lines_append (c ∷ rest) Y e)
  where
    choose : (t : Bool) → b == 10 ≡ t → lines ((c ∷ rest) ++ Y) ≡ lines (c ∷ rest) ++ lines Y → lines (b ∷ ((c ∷ rest) ++ Y)) ≡ lines (b ∷ c ∷ rest) ++ lines Y
    choose true e more = one_line b ((c ∷ rest) ++ Y) e ∙ ap (λ x. (b ∷ []) ∷ x) more ∙ sym (ap (λ x. x ++ lines Y) (one_line b (c ∷ rest) e))
    choose false e more =
        led_line b ((c ∷ rest) ++ Y) e ∙ ap (led_by b) more ∙ led_more b (lines (c ∷ rest)) (lines Y) _ _ (lines_step (c ∷ rest) (omega arith)) ∙ sym (ap (λ x. x ++ lines Y) (led_line b (c ∷ rest) e))

abbrev AllSome : List (List ℕ) → Type 0
AllSome [] = Unit {0}
AllSome (l ∷ ls) = (0 < length l) × AllSome ls

led_some : (b : ℕ) (ls : List (List ℕ)) → AllSome ls → AllSome (led_by b ls)
led_some b [] h = (omega arith, tt)
led_some b (l ∷ ls) h = (omega arith, h.1)

all_some : (R : List ℕ) → AllSome (lines R)
all_some [] = subst AllSome (sym no_lines) tt
all_some (b ∷ R) = choose (b == 10) refl (all_some R)
  where
    choose : (t : Bool) → b == 10 ≡ t → AllSome (lines R) → AllSome (lines (b ∷ R))
    choose true e h = subst AllSome (sym (one_line b R e)) (omega arith, h)
    choose false e h = subst AllSome (sym (led_line b R e)) (led_some b (lines R) h)

not_lt : (a b : ℕ) → b ≤ a → nat_lt a b ≡ false
not_lt a b le = grind (arith, nat_tests)

past_all : (q : ℕ) (ms : List ℕ) → AllFrom q ms → marks_from q ms ≡ ms
past_all q [] h = refl
past_all q (m ∷ ms) h =
    let low : q ≤ m = h.0 in
    let no : nat_lt m q ≡ false = not_lt m q low in
    rw no refl

past_one : (q m : ℕ) (ms : List ℕ) → m < q → marks_from q (m ∷ ms) ≡ marks_from q ms
past_one q m ms lt =
    let yes : nat_lt m q ≡ true = (Decides-ltb m q).1 lt in
    let sum : 1 + prefix_len (λ x. nat_lt x q) ms ≡ suc (prefix_len (λ x. nat_lt x q) ms) = omega arith in
    rw (yes, sum) refl

marks_later : (Q : List ℕ → Type 0) (before ls : List (List ℕ)) (p : ℕ) (ms : List ℕ) → AllSome before → Marks Q p (before ++ ls) ms → Marks Q (p + length (concat before)) ls (marks_from (p + length (concat before)) ms)
marks_later Q [] ls p ms some h =
    let e : p + 0 ≡ p = add-zero p in
    subst (λ q. Marks Q q ls (marks_from q ms)) (sym e) (subst (λ x. Marks Q p ls x) (sym (past_all p ms (marks_above Q ls p ms h))) h)
marks_later Q (l ∷ before) ls p ms some (inl h) =
    let e : p + length l + length (concat before) ≡ p + length (l ++ concat before) = omega (arith, length-append l (concat before)) in
    subst (λ q. Marks Q q ls (marks_from q ms)) e (marks_later Q before ls (p + length l) ms some.1 h.1)
marks_later Q (l ∷ before) ls p ms some (inr h) =
    let up : 0 < length l = some.0 in
    let e : p + length l + length (concat before) ≡ p + length (l ++ concat before) = omega (arith, length-append l (concat before)) in
    let past : marks_from (p + length (l ++ concat before)) ms ≡ marks_from (p + length (l ++ concat before)) h.0 = ap (marks_from (p + length (l ++ concat before))) h.1 ∙ past_one (p + length (l ++ concat before)) p h.0 (omega (arith, length-append l (concat before))) in
    subst (λ x. Marks Q (p + length (l ++ concat before)) ls x) (sym past) (subst (λ q. Marks Q q ls (marks_from q h.0)) e (marks_later Q before ls (p + length l) h.0 some.1 h.2))

-- the marks of a text behind a front of whole lines
pub marks_back : (X Y : List ℕ) (p : ℕ) (ms : List ℕ) → lines (X ++ Y) ≡ lines X ++ lines Y → Marks IsPlain p (lines (X ++ Y)) ms → Marks IsPlain (p + length X) (lines Y) (marks_from (p + length X) ms)
marks_back X Y p ms e h =
    subst (λ t. Marks IsPlain (p + length t) (lines Y) (marks_from (p + length t) ms)) (concat_lines X)
    (marks_later IsPlain (lines X) (lines Y) p ms (all_some X) (subst (λ ls. Marks IsPlain p ls ms) e h))

pub lines_whole : (X Y : List ℕ) → Y ≡ [] → lines (X ++ Y) ≡ lines X ++ lines Y
lines_whole X Y e = rw e (ap lines (append-nil X) ∙ sym (append-nil (lines X)) ∙ ap (λ x. lines X ++ x) (sym no_lines))

-- one line more of a table of marks
pub mark_more : (rest line behind : List ℕ) (place n : ℕ) (marks new bytes : List ℕ) → 0 < length rest → n ≡ line_len rest → line ≡ take n rest → behind ≡ drop n rest → new ≡ (if is_dashed line then marks ++ place ∷ [] else marks) →
    ((more : List ℕ) → Marks IsPlain place (lines rest) more → Marks IsPlain 0 (lines bytes) (marks ++ more)) → (more : List ℕ) → Marks IsPlain (place + length line) (lines behind) more → Marks IsPlain 0 (lines bytes) (new ++ more)
mark_more rest line behind place n marks new bytes some size front back pushed on more h = choose (is_dashed line) refl pushed
  where
    first : lines rest ≡ line ∷ lines behind
    first = lines_step rest some ∙ rw (← size, ← front, ← back) refl

    choose : (t : Bool) → is_dashed line ≡ t → new ≡ (if t then marks ++ place ∷ [] else marks) → Marks IsPlain 0 (lines bytes) (new ++ more)
    choose true e is =
        subst (λ x. Marks IsPlain 0 (lines bytes) x) (sym (ap (λ x. x ++ more) is ∙ append_assoc marks (place ∷ []) more))
        (on (place ∷ more) (subst (λ ls. Marks IsPlain place ls (place ∷ more)) (sym first) (inr (more, refl, h))))
    choose false e is =
        subst (λ x. Marks IsPlain 0 (lines bytes) (x ++ more)) (sym is)
        (on more (subst (λ ls. Marks IsPlain place ls more) (sym first) (inl (e, h))))

pub marks_end : (rest : List ℕ) (place : ℕ) (marks bytes : List ℕ) → rest ≡ [] → ((more : List ℕ) → Marks IsPlain place (lines rest) more → Marks IsPlain 0 (lines bytes) (marks ++ more)) → Marks IsPlain 0 (lines bytes) marks
marks_end rest place marks bytes none on =
    subst (λ x. Marks IsPlain 0 (lines bytes) x) (append-nil marks) (on [] (subst (λ ls. Marks IsPlain place ls []) (sym (ap lines none ∙ no_lines)) tt))

pub marks_start : (bytes : List ℕ) (marks : List ℕ) → marks ≡ [] → (more : List ℕ) → Marks IsPlain 0 (lines bytes) more → Marks IsPlain 0 (lines bytes) (marks ++ more)
marks_start bytes marks none more h = subst (λ x. Marks IsPlain 0 (lines bytes) (x ++ more)) (sym none) h
