-- Kinds and names are inverse.
use Rattle.std.proofs.Common.{◌≡◌, ℕ, ◌<◌, ◌^◌, Bool, true, false, Option, Some, None, List, [], ◌∷◌, ◌++◌, take, drop, get_or, refl, sym, ◌∙◌, ap, arith}
use Rattle.std.specs.Prelude.{bytes_eq, nat_lt, ◌&&◌, ◌==◌, decimal, codes, if◌then◌else◌}
use Rattle.std.proofs.lemmas.Slice.Eq.{bytes_eq-Decides}
use Rattle.std.proofs.lemmas.Bool.Decides.{nat_tests, Decides-ltb, Decides-eqb}
use Rattle.std.proofs.lemmas.List.{take-append-drop}
use Rattle.std.proofs.Math.Seq.{take-append_seam, drop-append_seam}
use Rattle.std.proofs.lemmas.Fmt.{first_decimal}
use Rattle.mh_base.specs.Numbers.{IsMsgNum, hex, decimal_of, run_of, number_of, in_range}
use Rattle.mh_base.specs.Entries.{IsRanged, IsEntry, IsKind, entry_text, kind_of, number_by, number_in, backup_in, held_after, held_by, held_in, temp_after, temp_by, temp_in, hidden_in}
use Rattle.mh_base.specs.declared.entry.Entry.{Entry}
use Rattle.mh_base.specs.declared.entry.Entry.TheVariants.{Number, Backup, Held, Temp, Sequences, LockFile, Other}
use Rattle.mh_base.proofs.Decimals.{decimal_of_some, decimal_of_is}
use Rattle.mh_base.proofs.RunDigits.{length-hex, run_of_some, run_of_is}

-- what is read from a number's text
number_of_text : (n : ℕ) → IsMsgNum n → number_of (decimal n) ≡ Some n
number_of_text n ok =
    let read : decimal_of (decimal n) ≡ Some n = decimal_of_some (decimal n) n (omega (arith, ok.0, ok.1)) refl in
    let low : nat_lt 0 n ≡ true = (Decides-ltb 0 n).1 (omega (arith, ok.0)) in
    let high : nat_lt n 1000000 ≡ true = (Decides-ltb n 1000000).1 (omega (arith, ok.1)) in
    rw read (rw (low, high) refl)

-- the first byte of a number's text is above the comma and the dot
plain : (bytes : List ℕ) → 48 < get_or bytes 0 0 → kind_of bytes ≡ number_in bytes
unfolding kind_of
plain [] lt = absurd (omega arith)
plain (c ∷ rest) lt =
    let comma : (c == 44) ≡ false = grind (arith, nat_tests) in
    let dot : (c == 46) ≡ false = grind (arith, nat_tests) in
    rw (comma, dot) refl

run_front : (run : ℕ) (rest : List ℕ) → run < 2 ^ 128 → run_of (take 32 (hex 32 run ++ rest)) ≡ Some run
run_front run rest lt =
    let front : take 32 (hex 32 run ++ rest) ≡ hex 32 run = rw (length-hex 32 run) at (take-append_seam (hex 32 run) rest) in
    rw front (run_of_some (hex 32 run) run lt refl)

run_back : (run : ℕ) (rest : List ℕ) → drop 32 (hex 32 run ++ rest) ≡ rest
run_back run rest = rw (length-hex 32 run) at (drop-append_seam (hex 32 run) rest)

held_text : (run n : ℕ) → run < 2 ^ 128 → IsMsgNum n → held_in (hex 32 run ++ 95 ∷ decimal n) ≡ Held run n
held_text run n lt ok = rw (run_front run (95 ∷ decimal n) lt, run_back run (95 ∷ decimal n)) (rw (number_of_text n ok) refl)

temp_text : (run k : ℕ) → run < 2 ^ 128 → k < 2 ^ 64 → temp_in (hex 32 run ++ 95 ∷ decimal k) ≡ Temp run k
temp_text run k lt ok = rw (run_front run (95 ∷ decimal k) lt, run_back run (95 ∷ decimal k)) (rw (decimal_of_some (decimal k) k ok refl) refl)

-- the kind of a kind's name is that kind
pub kind_of-entry_text : (e : Entry) → IsEntry e → kind_of (entry_text e) ≡ e
unfolding kind_of entry_text
kind_of-entry_text (Number n) ok = plain (decimal n) (first_decimal n (omega (arith, ok.0)) (omega (arith, ok.1))) ∙ rw (number_of_text n ok) refl
kind_of-entry_text (Backup n) ok = rw (number_of_text n ok) refl
kind_of-entry_text (Held run n) ok = held_text run n ok.0 ok.1
kind_of-entry_text (Temp run k) ok = temp_text run k ok.0 ok.1
kind_of-entry_text Sequences ok = refl
kind_of-entry_text LockFile ok = refl
kind_of-entry_text Other ok = absurd ok

-- of a kind whose parts are in their ranges, and which is not Other
pub kind_of_ranged : (e : Entry) (name : List ℕ) → (e ≡ Other → ⊥) → IsRanged e → name ≡ entry_text e → kind_of name ≡ e
kind_of_ranged Other name never ok is = absurd (never refl)
kind_of_ranged (Number n) name never ok is = ap kind_of is ∙ kind_of-entry_text (Number n) ok
kind_of_ranged (Backup n) name never ok is = ap kind_of is ∙ kind_of-entry_text (Backup n) ok
kind_of_ranged (Held run n) name never ok is = ap kind_of is ∙ kind_of-entry_text (Held run n) ok
kind_of_ranged (Temp run k) name never ok is = ap kind_of is ∙ kind_of-entry_text (Temp run k) ok
kind_of_ranged Sequences name never ok is = ap kind_of is ∙ kind_of-entry_text Sequences ok
kind_of_ranged LockFile name never ok is = ap kind_of is ∙ kind_of-entry_text LockFile ok

-- the name is that of the kind, unless this is Other
abbrev Fits : List ℕ → Entry → Type 0
Fits name Other = Unit {0}
Fits name (Number n) = IsMsgNum n × (name ≡ entry_text (Number n))
Fits name (Backup n) = IsMsgNum n × (name ≡ entry_text (Backup n))
Fits name (Held run n) = ((run < 2 ^ 128) × IsMsgNum n) × (name ≡ entry_text (Held run n))
Fits name (Temp run k) = ((run < 2 ^ 128) × (k < 2 ^ 64)) × (name ≡ entry_text (Temp run k))
Fits name Sequences = name ≡ entry_text Sequences
Fits name LockFile = name ≡ entry_text LockFile

fits_if : (test : Bool) (name : List ℕ) (d e : Entry) → (test ≡ true → Fits name d) → (test ≡ false → Fits name e) → Fits name (if test then d else e)
fits_if true name d e p q = p refl
fits_if false name d e p q = q refl

range_of : (n m : ℕ) (low high : Bool) → (low ≡ true → 0 < n) → (high ≡ true → n < 1000000) → (if low && high then Some n else None) ≡ Some m → (n ≡ m) × IsMsgNum m
range_of n m true true p q e = let same : n ≡ m = cc in let a : 0 < n = p refl in let b : n < 1000000 = q refl in (same, (omega arith, omega arith))
range_of n m true false p q e = cc
range_of n m false high p q e = cc

in_range_is : (o : Option ℕ) (m : ℕ) → in_range o ≡ Some m → (o ≡ Some m) × IsMsgNum m
in_range_is None m e = cc
in_range_is (Some n) m e =
    let r = range_of n m (nat_lt 0 n) (nat_lt n 1000000) ((Decides-ltb 0 n).0) ((Decides-ltb n 1000000).0) e in
    (ap Some r.0, r.1)

number_is : (bytes : List ℕ) (n : ℕ) → number_of bytes ≡ Some n → IsMsgNum n × (bytes ≡ decimal n)
number_is bytes n e = let r = in_range_is (decimal_of bytes) n e in (r.1, (decimal_of_is bytes n r.0).1)

fits_number : (o : Option ℕ) (bytes : List ℕ) → o ≡ number_of bytes → Fits bytes (number_by Number o)
unfolding entry_text
fits_number None bytes e = tt
fits_number (Some n) bytes e = number_is bytes n (sym e)

fits_backup : (o : Option ℕ) (rest : List ℕ) → o ≡ number_of rest → Fits (44 ∷ rest) (number_by Backup o)
unfolding entry_text
fits_backup None rest e = tt
fits_backup (Some n) rest e = let r = number_is rest n (sym e) in (r.0, ap (λ t. 44 ∷ t) r.1)

parts : (rest tail digits number : List ℕ) → take 32 rest ≡ digits → drop 32 rest ≡ 95 ∷ tail → tail ≡ number → rest ≡ digits ++ 95 ∷ number
parts rest tail digits number e f g = sym (take-append-drop 32 rest) ∙ rw (e, f, g) refl

fits_held_number : (o : Option ℕ) (rest number : List ℕ) (run : ℕ) → o ≡ number_of number → take 32 rest ≡ hex 32 run → run < 2 ^ 128 → drop 32 rest ≡ 95 ∷ number →
    Fits (codes ".mh_held_" ++ rest) (number_by (Held run) o)
unfolding entry_text
fits_held_number None rest number run e front lt back = tt
fits_held_number (Some n) rest number run e front lt back =
    let r = number_is number n (sym e) in
    ((lt, r.0), ap (λ t. codes ".mh_held_" ++ t) (parts rest number (hex 32 run) (decimal n) front back r.1))

fits_held_after : (rest tail : List ℕ) (run : ℕ) → take 32 rest ≡ hex 32 run → run < 2 ^ 128 → drop 32 rest ≡ tail → Fits (codes ".mh_held_" ++ rest) (held_after run tail)
fits_held_after rest [] run front lt back = tt
fits_held_after rest (c ∷ number) run front lt back =
    fits_if (c == 95) (codes ".mh_held_" ++ rest) (number_by (Held run) (number_of number)) Other
    (λ yes_. let same : c ≡ 95 = (Decides-eqb c 95).0 yes_ in fits_held_number (number_of number) rest number run refl front lt (rw same at back))
    (λ no_. tt)

fits_held_by : (o : Option ℕ) (rest : List ℕ) → o ≡ run_of (take 32 rest) → Fits (codes ".mh_held_" ++ rest) (held_by o (drop 32 rest))
fits_held_by None rest e = tt
fits_held_by (Some run) rest e = let r = run_of_is (take 32 rest) run (sym e) in fits_held_after rest (drop 32 rest) run r.1 r.0 refl

fits_temp_count : (o : Option ℕ) (rest count : List ℕ) (run : ℕ) → o ≡ decimal_of count → take 32 rest ≡ hex 32 run → run < 2 ^ 128 → drop 32 rest ≡ 95 ∷ count →
    Fits (codes ".mh_temp_" ++ rest) (number_by (Temp run) o)
unfolding entry_text
fits_temp_count None rest count run e front lt back = tt
fits_temp_count (Some k) rest count run e front lt back =
    let r = decimal_of_is count k (sym e) in
    ((lt, r.0), ap (λ t. codes ".mh_temp_" ++ t) (parts rest count (hex 32 run) (decimal k) front back r.1))

fits_temp_after : (rest tail : List ℕ) (run : ℕ) → take 32 rest ≡ hex 32 run → run < 2 ^ 128 → drop 32 rest ≡ tail → Fits (codes ".mh_temp_" ++ rest) (temp_after run tail)
fits_temp_after rest [] run front lt back = tt
fits_temp_after rest (c ∷ count) run front lt back =
    fits_if (c == 95) (codes ".mh_temp_" ++ rest) (number_by (Temp run) (decimal_of count)) Other
    (λ yes_. let same : c ≡ 95 = (Decides-eqb c 95).0 yes_ in fits_temp_count (decimal_of count) rest count run refl front lt (rw same at back))
    (λ no_. tt)

fits_temp_by : (o : Option ℕ) (rest : List ℕ) → o ≡ run_of (take 32 rest) → Fits (codes ".mh_temp_" ++ rest) (temp_by o (drop 32 rest))
fits_temp_by None rest e = tt
fits_temp_by (Some run) rest e = let r = run_of_is (take 32 rest) run (sym e) in fits_temp_after rest (drop 32 rest) run r.1 r.0 refl

prefixed : (n : ℕ) (rest front : List ℕ) → bytes_eq (take n rest) front ≡ true → 46 ∷ rest ≡ 46 ∷ (front ++ drop n rest)
prefixed n rest front e = ap (λ t. 46 ∷ t) (sym (take-append-drop n rest) ∙ ap (λ t. t ++ drop n rest) ((bytes_eq-Decides (take n rest) front).0 e))

same_fits : (a b : List ℕ) (e : Entry) → a ≡ b → Fits b e → Fits a e
same_fits a b e s f = rw s f

fits_hidden : (rest : List ℕ) → Fits (46 ∷ rest) (hidden_in rest)
unfolding entry_text
fits_hidden rest =
    fits_if (bytes_eq rest (codes "mh_sequences")) (46 ∷ rest) Sequences _ (λ t. ap (λ r. 46 ∷ r) ((bytes_eq-Decides rest (codes "mh_sequences")).0 t))
    (λ f. fits_if (bytes_eq rest (codes "mh_lock")) (46 ∷ rest) LockFile _ (λ t. ap (λ r. 46 ∷ r) ((bytes_eq-Decides rest (codes "mh_lock")).0 t))
    (λ g. fits_if (bytes_eq (take 8 rest) (codes "mh_held_")) (46 ∷ rest) (held_in (drop 8 rest)) _
    (λ t. same_fits (46 ∷ rest) (codes ".mh_held_" ++ drop 8 rest) (held_in (drop 8 rest)) (prefixed 8 rest (codes "mh_held_") t) (fits_held_by (run_of (take 32 (drop 8 rest))) (drop 8 rest) refl))
    (λ h. fits_if (bytes_eq (take 8 rest) (codes "mh_temp_")) (46 ∷ rest) (temp_in (drop 8 rest)) Other
    (λ t. same_fits (46 ∷ rest) (codes ".mh_temp_" ++ drop 8 rest) (temp_in (drop 8 rest)) (prefixed 8 rest (codes "mh_temp_") t) (fits_temp_by (run_of (take 32 (drop 8 rest))) (drop 8 rest) refl))
    (λ i. tt))))

fits : (name : List ℕ) → Fits name (kind_of name)
unfolding kind_of
fits [] = tt
fits (c ∷ rest) =
    fits_if (c == 44) (c ∷ rest) (backup_in rest) _
    (λ t. same_fits (c ∷ rest) (44 ∷ rest) (backup_in rest) (ap (λ d. d ∷ rest) ((Decides-eqb c 44).0 t)) (fits_backup (number_of rest) rest refl))
    (λ f. fits_if (c == 46) (c ∷ rest) (hidden_in rest) (number_in (c ∷ rest))
    (λ t. same_fits (c ∷ rest) (46 ∷ rest) (hidden_in rest) (ap (λ d. d ∷ rest) ((Decides-eqb c 46).0 t)) (fits_hidden rest))
    (λ g. fits_number (number_of (c ∷ rest)) (c ∷ rest) refl))

kind_by : (name : List ℕ) (k : Entry) → k ≡ kind_of name → Fits name k → IsKind name k
kind_by name (Number n) e f = f
kind_by name (Backup n) e f = f
kind_by name (Held run n) e f = f
kind_by name (Temp run k) e f = f
kind_by name Sequences e f = f
kind_by name LockFile e f = f
kind_by name Other e f = λ d ok is. let same : d ≡ Other = sym (kind_of-entry_text d ok) ∙ ap kind_of (sym is) ∙ sym e in absurd (rw same at ok)

-- each name has the kind that is read from it
pub kind_is : (name : List ℕ) → IsKind name (kind_of name)
kind_is name = kind_by name (kind_of name) refl (fits name)
