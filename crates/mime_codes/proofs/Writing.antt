-- Bytes written one behind the other at the front of a slice.
use Rattle.std.proofs.Common.{◌≡◌, ℕ, ◌+◌, ◌-◌, ◌<◌, ◌≤◌, List, [], ◌∷◌, ◌++◌, length, take, drop, sym, ◌∙◌, ap, arith, append_assoc, append-nil, length-append, length-drop}
use Rattle.std.proofs.lemmas.List.{take_more_set, drop-set-lt, drop-drop, take-append-drop, length-take-le}
use Rattle.std.proofs.lemmas.Slice.{take-put_mid, drop-put_mid}
use Rattle.std.proofs.Math.ListN.{set}
use borrow.Rule.Slice.PartMut.{put_mid}

-- what lies behind stays the same further on
pub further : (n m : ℕ) (into initial : List ℕ) → drop n into ≡ drop n initial → drop (n + m) into ≡ drop (n + m) initial
further n m into initial e = sym (drop-drop m n into) ∙ ap (drop m) e ∙ drop-drop m n initial

-- one byte more
pub one_front : (count v : ℕ) (into more rest all : List ℕ) → count < length into → take count into ++ more ≡ all → more ≡ v ∷ rest → take (count + 1) (set into count v) ++ rest ≡ all
one_front count v into more rest all lt e is = rw (take_more_set into count v lt, append_assoc) (ap (λ x. take count into ++ x) (sym is) ∙ e)

pub one_behind : (count v : ℕ) (into initial : List ℕ) → drop count into ≡ drop count initial → drop (count + 1) (set into count v) ≡ drop (count + 1) initial
one_behind count v into initial e = drop-set-lt (count + 1) into count v (omega arith) ∙ further count 1 into initial e

-- several more
pub some_front : (count len k : ℕ) (into some more rest all : List ℕ) → count ≤ length into → length some ≡ len → take count into ++ more ≡ all → more ≡ some ++ rest →
    take (count + len) (put_mid count k into some) ++ rest ≡ all
some_front count len k into some more rest all lt size e is =
    rw (take-put_mid count k into some (count + len) (omega (arith, size)) lt, append_assoc) (ap (λ x. take count into ++ x) (sym is) ∙ e)

pub some_behind : (count len : ℕ) (into initial some : List ℕ) → count ≤ length into → length some ≡ len → drop count into ≡ drop count initial →
    drop (count + len) (put_mid count (count + len - count) into some) ≡ drop (count + len) initial
some_behind count len into initial some lt size e =
    drop-put_mid count (count + len - count) into some (count + len) (omega arith) lt (omega (arith, size)) ∙ further count len into initial e

-- all are written
pub all_written : (count : ℕ) (into initial all : List ℕ) → take count into ++ [] ≡ all → drop count into ≡ drop count initial → into ≡ all ++ drop count initial
all_written count into initial all e behind =
    sym (take-append-drop count into) ∙ ap (λ x. x ++ drop count into) (sym (append-nil (take count into)) ∙ e) ∙ ap (λ x. all ++ x) behind

pub all_counted : (count : ℕ) (into all : List ℕ) → count ≤ length into → take count into ++ [] ≡ all → count ≡ length all
all_counted count into all le e = sym (length-take-le count into le) ∙ ap length (sym (append-nil (take count into)) ∙ e)

pub some_length : (count len : ℕ) (into some : List ℕ) → count + len ≤ length into → length some ≡ len → length (put_mid count (count + len - count) into some) ≡ length into
some_length count len into some fits size =
    let front : length (take count into) ≡ count = length-take-le count into (omega arith) in
    simp (length-append, length-drop) (omega (arith, front, size))
