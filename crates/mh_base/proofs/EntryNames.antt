-- The names of kinds are names.
use Rattle.std.proofs.Common.{◌≡◌, ℕ, ◌<◌, ◌≤◌, ◌^◌, Bool, true, false, List, [], ◌∷◌, ◌++◌, length, refl, arith, rules, length-append}
use Rattle.std.specs.Prelude.{Option, Some, None, IsSome, MatchOption, ◌&&◌, not, nat_eq, decimal}
use Rattle.std.specs.Char.{digit_value}
use Rattle.std.specs.List.{list_all}
use Rattle.std.specs.Str.Parse.{AllDigits}
use Rattle.std.proofs.lemmas.Bool.Decides.{Decides-eqb}
use Rattle.std.proofs.lemmas.Fmt.{decimal_is_IsNumeral, length-decimal-le, decimal_nonempty}
use Rattle.mh_base.specs.Numbers.{hex}
use Rattle.mh_base.specs.Names.{IsName, is_name_byte}
use Rattle.mh_base.specs.Entries.{IsRanged, entry_text}
use Rattle.mh_base.specs.declared.entry.Entry.{Entry}
use Rattle.mh_base.specs.declared.entry.Entry.TheVariants.{Number, Backup, Held, Temp, Sequences, LockFile, Other}
use Rattle.mh_base.proofs.RunDigits.{hex_digits, length-hex}

pub differs : (b : Bool) (c d : ℕ) → (b ≡ true → c ≡ d) → (c ≡ d → ⊥) → not b ≡ true
differs true c d p q = absurd (q (p refl))
differs false c d p q = refl

digit_byte : (radix c : ℕ) → radix ≤ 36 → digit_value c < radix → is_name_byte c ≡ true
digit_byte radix c small lt =
    let zero_ : not (nat_eq c 0) ≡ true = differs (nat_eq c 0) c 0 ((Decides-eqb c 0).0) (λ e. let h : digit_value 0 < radix = rw e at lt in omega arith) in
    let slash : not (nat_eq c 47) ≡ true = differs (nat_eq c 47) c 47 ((Decides-eqb c 47).0) (λ e. let h : digit_value 47 < radix = rw e at lt in omega arith) in
    rw (zero_, slash) refl

digits_clean : (radix : ℕ) (ds : List ℕ) → radix ≤ 36 → AllDigits radix ds → list_all is_name_byte ds ≡ true
digits_clean radix [] small all = refl
digits_clean radix (c ∷ cs) small all =
    let here : is_name_byte c ≡ true = digit_byte radix c small all.0 in
    let rest : list_all is_name_byte cs ≡ true = digits_clean radix cs small all.1 in
    rw (here, rest) refl

both : (s t u : Bool) → s && t ≡ true → (t ≡ true → u ≡ true) → s && u ≡ true
both true t u e f = f e
both false t u e f = cc

clean-append : (a b : List ℕ) → list_all is_name_byte a ≡ true → list_all is_name_byte b ≡ true → list_all is_name_byte (a ++ b) ≡ true
clean-append [] b p q = q
clean-append (x ∷ a) b p q = both (is_name_byte x) (list_all is_name_byte a) (list_all is_name_byte (a ++ b)) p (λ r. clean-append a b r q)

pub clean_decimal : (n : ℕ) → n < 2 ^ 64 → list_all is_name_byte (decimal n) ≡ true
clean_decimal n lt = digits_clean 10 (decimal n) (omega arith) (decimal_is_IsNumeral n lt).0.1

clean_run : (run n : ℕ) → n < 2 ^ 64 → list_all is_name_byte (hex 32 run ++ 95 ∷ decimal n) ≡ true
clean_run run n lt = clean-append (hex 32 run) (95 ∷ decimal n) (digits_clean 16 (hex 32 run) (omega arith) (hex_digits 32 run)) (clean_decimal n lt)

short : (n : ℕ) → n < 2 ^ 64 → length (decimal n) ≤ 20
short n lt = length-decimal-le 20 n (omega arith) (omega arith) lt

long_run : (run n : ℕ) → n < 2 ^ 64 → length (hex 32 run ++ 95 ∷ decimal n) ≤ 53
long_run run n lt = let s = short n lt in omega (arith, length-append (hex 32 run) (95 ∷ decimal n), length-hex 32 run)

-- the name of a kind is a name
pub named : (e : Entry) → IsRanged e → (e ≡ Other → ⊥) → IsName (entry_text e)
unfolding entry_text
named (Number n) ok never =
    let lt : n < 2 ^ 64 = omega (arith, ok.1) in
    let some : 0 < length (decimal n) = decimal_nonempty n lt in
    let s = short n lt in
    record { some = omega arith; short = omega arith; clean = clean_decimal n lt }
named (Backup n) ok never = let lt : n < 2 ^ 64 = omega (arith, ok.1) in let s = short n lt in record { some = omega arith; short = omega arith; clean = clean_decimal n lt }
named (Held run n) ok never = let lt : n < 2 ^ 64 = omega (arith, ok.1.1) in let s = long_run run n lt in record { some = omega arith; short = omega arith; clean = clean_run run n lt }
named (Temp run k) ok never = let s = long_run run k ok.1 in record { some = omega arith; short = omega arith; clean = clean_run run k ok.1 }
named Sequences ok never = record { some = omega arith; short = omega arith; clean = refl }
named LockFile ok never = record { some = omega arith; short = omega arith; clean = refl }
named Other ok never = absurd (never refl)

pub is_made : (bytes : List ℕ) (o : Option (List ℕ)) → MatchOption o (IsName bytes → ⊥) (λ n. IsName bytes × (n ≡ bytes)) → IsName bytes → IsSome o
is_made bytes None m is = absurd (m is)
is_made bytes (Some n) m is = search rules
