-- The lines of a body, one after another.
use Rattle.std.proofs.Common.{◌≡◌, ℕ, suc, ◌+◌, ◌-◌, ◌<◌, ◌≤◌, ◌==◌, ◌&&◌, ◌||◌, not, Bool, true, false, List, [], ◌∷◌, length, take, drop, refl, sym, ap, ◌∙◌, arith, length-drop}
use Rattle.std.specs.Prelude.{if◌then◌else◌, slice_index}
use Rattle.std.specs.List.{list_any, prefix_len}
use Rattle.std.proofs.lemmas.Bool.{and_parts}
use Rattle.std.proofs.lemmas.List.{drop_all, drop-drop}
use Rattle.pick_expr.specs.Lines.{without_return}
use Rattle.pick_expr.specs.Truth.{lines_of, with_byte}

-- how many bytes stand before the first line feed
abbrev pub feed_at : List ℕ → ℕ
feed_at bytes = prefix_len (λ b. not (b == 10)) bytes

none : lines_of [] ≡ []
unfolding lines_of
none = refl

at_feed : (b : ℕ) (bytes : List ℕ) → (b == 10) ≡ true → lines_of (b ∷ bytes) ≡ [] ∷ lines_of bytes
unfolding lines_of
at_feed b bytes e = rw e refl

at_return : (b : ℕ) (bytes : List ℕ) → (b == 10) ≡ false → (b == 13 && slice_index bytes 0 == 10) ≡ true → lines_of (b ∷ bytes) ≡ lines_of bytes
unfolding lines_of
at_return b bytes e f = rw (e, f) refl

at_byte : (b : ℕ) (bytes : List ℕ) → (b == 10) ≡ false → (b == 13 && slice_index bytes 0 == 10) ≡ false → lines_of (b ∷ bytes) ≡ with_byte b (lines_of bytes)
unfolding lines_of
at_byte b bytes e f = rw (e, f) refl

feed_here : (b : ℕ) (bytes : List ℕ) → (b == 10) ≡ true → feed_at (b ∷ bytes) ≡ 0
feed_here b bytes e = rw e refl

feed_later : (b : ℕ) (bytes : List ℕ) → (b == 10) ≡ false → feed_at (b ∷ bytes) ≡ suc (feed_at bytes)
feed_later b bytes e = rw e (omega arith)

-- without a carriage return at this place
abbrev pub cut : ℕ → List ℕ → List ℕ
cut n line = if slice_index line n == 13 then take n line else line

cut-suc : (b n : ℕ) (line : List ℕ) → cut (suc n) (b ∷ line) ≡ b ∷ cut n line
cut-suc b n line = elim (slice_index line n == 13) as (λ t. (if t then b ∷ take n line else b ∷ line) ≡ b ∷ (if t then take n line else line)) [ true ↦ refl | false ↦ refl ]

return_later : (b c : ℕ) (line : List ℕ) → without_return (b ∷ (c ∷ line)) ≡ b ∷ without_return (c ∷ line)
return_later b c line =
    let outer : length (b ∷ (c ∷ line)) - 1 ≡ suc (length line) = omega arith in
    let inner : length (c ∷ line) - 1 ≡ length line = omega arith in
    ap (λ n. cut n (b ∷ (c ∷ line))) outer ∙ cut-suc b (length line) (c ∷ line) ∙ ap (λ n. b ∷ cut n (c ∷ line)) (sym inner)

return_alone : (b : ℕ) → (b == 13) ≡ false → without_return (b ∷ []) ≡ b ∷ []
return_alone b e =
    let one : length (b ∷ []) - 1 ≡ 0 = omega arith in
    ap (λ n. cut n (b ∷ [])) one ∙ rw e refl

only_return : (b : ℕ) → (b == 13) ≡ true → without_return (b ∷ []) ≡ []
only_return b e =
    let one : length (b ∷ []) - 1 ≡ 0 = omega arith in
    ap (λ n. cut n (b ∷ [])) one ∙ rw e refl

-- a byte before a line: it is no carriage return before the line feed
longer : (b : ℕ) (bytes : List ℕ) → (b == 13 && slice_index bytes 0 == 10) ≡ false → feed_at bytes < length bytes → without_return (b ∷ take (feed_at bytes) bytes) ≡ b ∷ without_return (take (feed_at bytes) bytes)
longer b [] e lt = absurd (omega arith)
longer b (c ∷ bytes) e lt = choose (c == 10) refl
  where
    choose : (t : Bool) → (c == 10) ≡ t → without_return (b ∷ take (feed_at (c ∷ bytes)) (c ∷ bytes)) ≡ b ∷ without_return (take (feed_at (c ∷ bytes)) (c ∷ bytes))
    choose true f =
        let here : feed_at (c ∷ bytes) ≡ 0 = feed_here c bytes f in
        let no_return : (b == 13) ≡ false = no_return_here (b == 13) (ap (λ z. b == 13 && z) (sym f) ∙ e) in
        ap (λ n. without_return (b ∷ take n (c ∷ bytes))) here ∙ return_alone b no_return ∙ ap (λ n. b ∷ without_return (take n (c ∷ bytes))) (sym here)
      where
        no_return_here : (x : Bool) → (x && true) ≡ false → x ≡ false
        no_return_here true h = h
        no_return_here false h = refl
    choose false f =
        let later : feed_at (c ∷ bytes) ≡ suc (feed_at bytes) = feed_later c bytes f in
        ap (λ n. without_return (b ∷ take n (c ∷ bytes))) later ∙ return_later b c (take (feed_at bytes) bytes) ∙ ap (λ n. b ∷ without_return (take n (c ∷ bytes))) (sym later)

-- a line feed ends the first line
first_line : (bytes : List ℕ) → feed_at bytes < length bytes → lines_of bytes ≡ without_return (take (feed_at bytes) bytes) ∷ lines_of (drop (suc (feed_at bytes)) bytes)
first_line [] lt = absurd (omega arith)
first_line (b ∷ bytes) lt = choose (b == 10) refl (λ less. first_line bytes less)
  where
    choose : (t : Bool) → (b == 10) ≡ t → (feed_at bytes < length bytes → lines_of bytes ≡ without_return (take (feed_at bytes) bytes) ∷ lines_of (drop (suc (feed_at bytes)) bytes))
        → lines_of (b ∷ bytes) ≡ without_return (take (feed_at (b ∷ bytes)) (b ∷ bytes)) ∷ lines_of (drop (suc (feed_at (b ∷ bytes))) (b ∷ bytes))
    choose true e on =
        at_feed b bytes e ∙ ap (λ n. without_return (take n (b ∷ bytes)) ∷ lines_of (drop (suc n) (b ∷ bytes))) (sym (feed_here b bytes e))
    choose false e on =
        let later : feed_at (b ∷ bytes) ≡ suc (feed_at bytes) = feed_later b bytes e in
        let less : feed_at bytes < length bytes = omega (arith, later, lt) in
        byte (b == 13 && slice_index bytes 0 == 10) refl less (on less)
        ∙ ap (λ n. without_return (take n (b ∷ bytes)) ∷ lines_of (drop (suc n) (b ∷ bytes))) (sym later)
      where
        byte : (t : Bool) → (b == 13 && slice_index bytes 0 == 10) ≡ t → feed_at bytes < length bytes → lines_of bytes ≡ without_return (take (feed_at bytes) bytes) ∷ lines_of (drop (suc (feed_at bytes)) bytes)
            → lines_of (b ∷ bytes) ≡ without_return (b ∷ take (feed_at bytes) bytes) ∷ lines_of (drop (suc (feed_at bytes)) bytes)
        byte false f less is = at_byte b bytes e f ∙ ap (with_byte b) is ∙ ap (λ z. z ∷ lines_of (drop (suc (feed_at bytes)) bytes)) (sym (longer b bytes f less))
        byte true f less is =
            let parts = and_parts (b == 13) (slice_index bytes 0 == 10) f in
            let here : feed_at bytes ≡ 0 = feed_first bytes less parts.1 in
            at_return b bytes e f ∙ is
            ∙ ap (λ n. without_return (take n bytes) ∷ lines_of (drop (suc n) bytes)) here
            ∙ ap (λ z. z ∷ lines_of (drop 1 bytes)) (sym (only_return b parts.0))
            ∙ ap (λ n. without_return (b ∷ take n bytes) ∷ lines_of (drop (suc n) bytes)) (sym here)
          where
            feed_first : (bytes : List ℕ) → feed_at bytes < length bytes → (slice_index bytes 0 == 10) ≡ true → feed_at bytes ≡ 0
            feed_first [] less h = absurd (omega arith)
            feed_first (c ∷ bytes) less h = feed_here c bytes h

-- without a line feed all bytes are one line
last_line : (b : ℕ) (bytes : List ℕ) → feed_at (b ∷ bytes) ≡ length (b ∷ bytes) → lines_of (b ∷ bytes) ≡ (b ∷ bytes) ∷ []
last_line b [] all = choose (b == 10) refl
  where
    choose : (t : Bool) → (b == 10) ≡ t → lines_of (b ∷ []) ≡ (b ∷ []) ∷ []
    choose true e = absurd (omega (arith, feed_here b [] e, all))
    choose false e = at_byte b [] e (no_feed (b == 13)) ∙ ap (with_byte b) none
      where
        no_feed : (x : Bool) → (x && slice_index [] 0 == 10) ≡ false
        no_feed true = refl
        no_feed false = refl
last_line b (c ∷ bytes) all = choose (b == 10) refl (c == 10) refl (λ h. last_line c bytes h)
  where
    choose : (t : Bool) → (b == 10) ≡ t → (u : Bool) → (c == 10) ≡ u → (feed_at (c ∷ bytes) ≡ length (c ∷ bytes) → lines_of (c ∷ bytes) ≡ (c ∷ bytes) ∷ [])
        → lines_of (b ∷ (c ∷ bytes)) ≡ (b ∷ (c ∷ bytes)) ∷ []
    choose true e u f on = absurd (omega (arith, feed_here b (c ∷ bytes) e, all))
    choose false e true f on = absurd (omega (arith, feed_later b (c ∷ bytes) e, feed_here c bytes f, all))
    choose false e false f on =
        at_byte b (c ∷ bytes) e (ap (λ z. b == 13 && z) f ∙ no_feed (b == 13)) ∙ ap (with_byte b) (on (omega (arith, feed_later b (c ∷ bytes) e, all)))
      where
        no_feed : (x : Bool) → (x && false) ≡ false
        no_feed true = refl
        no_feed false = refl

-- what is left comes to the same
pub record IsOnLine (f : List ℕ → Bool) (body : List ℕ) (at : ℕ) : Type 0 where
  pub inside : at ≤ length body
  pub same : list_any f (lines_of body) ≡ list_any f (lines_of (drop at body))

pub on_first : (f : List ℕ → Bool) (body : List ℕ) → IsOnLine f body 0
on_first f body = record { inside = omega arith; same = refl }

pub no_line : (f : List ℕ → Bool) (body : List ℕ) (at : ℕ) → IsOnLine f body at → length body ≤ at → false ≡ list_any f (lines_of body)
no_line f body at now over = sym (now.same ∙ ap (λ z. list_any f (lines_of z)) (drop_all at body over) ∙ ap (list_any f) none)

or_false : (t : Bool) → t ≡ (t || false)
or_false true = refl
or_false false = refl

one_line : (f : List ℕ → Bool) (rest : List ℕ) → 0 < length rest → feed_at rest ≡ length rest → list_any f (lines_of rest) ≡ (f rest || false)
one_line f [] some all = absurd (omega arith)
one_line f (b ∷ rest) some all = ap (list_any f) (last_line b rest all)

pub end_line : (f : List ℕ → Bool) (body : List ℕ) (at : ℕ) (rest : List ℕ) (r : Bool) → IsOnLine f body at → at < length body → rest ≡ drop at body → feed_at rest ≡ length rest → r ≡ f rest → r ≡ list_any f (lines_of body)
end_line f body at rest r now within is_rest all is_r =
    let some : 0 < length rest = omega (arith, ap length is_rest, length-drop at body) in
    is_r ∙ or_false (f rest) ∙ sym (one_line f rest some all) ∙ ap (λ z. list_any f (lines_of z)) is_rest ∙ sym now.same

pub found_line : (f : List ℕ → Bool) (body : List ℕ) (at : ℕ) (rest : List ℕ) → IsOnLine f body at → rest ≡ drop at body → feed_at rest < length rest → f (without_return (take (feed_at rest) rest)) ≡ true → true ≡ list_any f (lines_of body)
found_line f body at rest now is_rest less h =
    let line : list_any f (lines_of rest) ≡ (f (without_return (take (feed_at rest) rest)) || list_any f (lines_of (drop (suc (feed_at rest)) rest))) = ap (list_any f) (first_line rest less) in
    sym (now.same ∙ ap (λ z. list_any f (lines_of z)) (sym is_rest) ∙ line ∙ ap (λ z. z || list_any f (lines_of (drop (suc (feed_at rest)) rest))) h)

pub more_lines : (f : List ℕ → Bool) (body : List ℕ) (at next : ℕ) (rest : List ℕ) → IsOnLine f body at → rest ≡ drop at body → feed_at rest < length rest → f (without_return (take (feed_at rest) rest)) ≡ false
    → next ≡ at + (feed_at rest + 1) → IsOnLine f body next
more_lines f body at next rest now is_rest less h is_next =
    let line : list_any f (lines_of rest) ≡ (f (without_return (take (feed_at rest) rest)) || list_any f (lines_of (drop (suc (feed_at rest)) rest))) = ap (list_any f) (first_line rest less) in
    let left : drop (suc (feed_at rest)) rest ≡ drop next body = ap (drop (suc (feed_at rest))) is_rest ∙ drop-drop (suc (feed_at rest)) at body ∙ ap (λ z. drop z body) (omega arith) in
    let inside = now.inside in
    record {
      inside = omega (arith, ap length is_rest, length-drop at body);
      same = now.same ∙ ap (λ z. list_any f (lines_of z)) (sym is_rest) ∙ line ∙ ap (λ z. z || list_any f (lines_of (drop (suc (feed_at rest)) rest))) h ∙ ap (λ z. list_any f (lines_of z)) left;
    }
