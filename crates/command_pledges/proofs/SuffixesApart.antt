-- Names of characters are told apart by the entries of their sequences.
use Rattle.std.proofs.Common.{◌≡◌, inl, inr, ◌<◌, ◌≤◌, ◌+◌, ◌/◌, ◌%◌, ℕ, Bool, true, false, List, [], ◌∷◌, ◌++◌, nat_lt, refl, sym, ap, arith}
use Rattle.std.specs.Prelude.{if◌then◌else◌}
use Rattle.std.specs.Fmt.{digit_glyph}
use Rattle.std.specs.List.{flat_map}
use Rattle.std.specs.Str.{encode_utf8_all}
use Rattle.std.proofs.Math.Utf8.{encode, scalar, scalar_cases, scalars}
use Rattle.std.proofs.lemmas.Bool.{and_parts}
use Rattle.std.proofs.lemmas.Bool.Decides.{Decides-ltb}
use Rattle.std.proofs.lemmas.Str.{encodes_same}
use Rattle.mh_sequences.specs.Reading.{escape, is_plain, suffix}
use Rattle.folder_files.proofs.Names.{not_both}

abbrev AreBytes : List ℕ → Type 0
AreBytes [] = Unit {0}
AreBytes (b ∷ bs) = (b < 256) × AreBytes bs

both_bytes : (xs ys : List ℕ) → AreBytes xs → AreBytes ys → AreBytes (xs ++ ys)
both_bytes [] ys a b = b
both_bytes (x ∷ xs) ys a b = (a.0, both_bytes xs ys a.1 b)

low_char : (c : ℕ) → scalar c ≡ true → c < 1114112
low_char c e = elim (scalar_cases c e) [ inl h ↦ omega (arith, h) | inr h ↦ h.1 ]

one_bytes : (c : ℕ) → c < 1114112 → AreBytes (encode c)
unfolding encode
one_bytes c low = go (nat_lt c 128) (nat_lt c 2048) (nat_lt c 65536) refl refl refl
  where
    go : (a b d : Bool) → nat_lt c 128 ≡ a → nat_lt c 2048 ≡ b → nat_lt c 65536 ≡ d
        → AreBytes (if a then c ∷ [] else (if b then (192 + c / 64) ∷ (128 + c % 64) ∷ [] else (if d then (224 + c / 4096) ∷ (128 + c / 64 % 64) ∷ (128 + c % 64) ∷ [] else (240 + c / 262144) ∷ (128 + c / 4096 % 64) ∷ (128 + c / 64 % 64) ∷ (128 + c % 64) ∷ [])))
    go true b d e f g = let h : c < 128 = (Decides-ltb c 128).0 e in (omega (arith, h), tt)
    go false true d e f g = let h : c < 2048 = (Decides-ltb c 2048).0 f in (omega (arith, h), (omega arith, tt))
    go false false true e f g = let h : c < 65536 = (Decides-ltb c 65536).0 g in (omega (arith, h), (omega arith, (omega arith, tt)))
    go false false false e f g = (omega (arith, low), (omega arith, (omega arith, (omega arith, tt))))

name_bytes : (cs : List ℕ) → scalars cs ≡ true → AreBytes (encode_utf8_all cs)
name_bytes [] e = tt
name_bytes (c ∷ cs) e = let parts = and_parts (scalar c) (scalars cs) e in both_bytes (encode c) (encode_utf8_all cs) (one_bytes c (low_char c parts.0)) (name_bytes cs parts.1)

glyph_same : (d e : ℕ) → d < 16 → e < 16 → digit_glyph true d ≡ digit_glyph true e → d ≡ e
glyph_same d e low high same = go (nat_lt d 10) (nat_lt e 10) refl refl same
  where
    go : (a b : Bool) → nat_lt d 10 ≡ a → nat_lt e 10 ≡ b → (if a then 48 + d else 55 + d) ≡ (if b then 48 + e else 55 + e) → d ≡ e
    go true true f g s = omega (arith, s)
    go true false f g s = let h : d < 10 = (Decides-ltb d 10).0 f in let k : nat_lt e 10 ≡ false = g in absurd (omega (arith, h, s, not_low e k))
      where
        not_low : (n : ℕ) → nat_lt n 10 ≡ false → 10 ≤ n
        not_low n high = grind (arith, high)
    go false true f g s = let h : e < 10 = (Decides-ltb e 10).0 g in absurd (omega (arith, h, s, not_low d f))
      where
        not_low : (n : ℕ) → nat_lt n 10 ≡ false → 10 ≤ n
        not_low n high = grind (arith, high)
    go false false f g s = omega (arith, s)

no_percent : (x : ℕ) → is_plain x ≡ true → x ≡ 37 → ⊥
no_percent x plain e = not_both (is_plain x) plain (ap is_plain e)

one_escape : (x y : ℕ) (xs ys : List ℕ) → x < 256 → y < 256 → escape x ++ xs ≡ escape y ++ ys → (x ≡ y) × (xs ≡ ys)
one_escape x y xs ys low high e = go (is_plain x) (is_plain y) refl refl e
  where
    go : (a b : Bool) → is_plain x ≡ a → is_plain y ≡ b
        → (if a then x ∷ [] else 37 ∷ digit_glyph true (x / 16 % 16) ∷ digit_glyph true (x % 16) ∷ []) ++ xs ≡ (if b then y ∷ [] else 37 ∷ digit_glyph true (y / 16 % 16) ∷ digit_glyph true (y % 16) ∷ []) ++ ys → (x ≡ y) × (xs ≡ ys)
    go true true f g s = (cc (s), cc (s))
    go true false f g s = let same : x ≡ 37 = cc (s) in absurd (no_percent x f same)
    go false true f g s = let same : y ≡ 37 = cc (s) in absurd (no_percent y g same)
    go false false f g s =
        let first : digit_glyph true (x / 16 % 16) ≡ digit_glyph true (y / 16 % 16) = cc (s) in
        let second : digit_glyph true (x % 16) ≡ digit_glyph true (y % 16) = cc (s) in
        let a = glyph_same (x / 16 % 16) (y / 16 % 16) (omega arith) (omega arith) first in
        let b = glyph_same (x % 16) (y % 16) (omega arith) (omega arith) second in
        (omega (arith, a, b, low, high), cc (s))

some_escape : (y : ℕ) (ys : List ℕ) → [] ≡ escape y ++ ys → ⊥
some_escape y ys e = go (is_plain y) e
  where
    go : (b : Bool) → [] ≡ (if b then y ∷ [] else 37 ∷ digit_glyph true (y / 16 % 16) ∷ digit_glyph true (y % 16) ∷ []) ++ ys → ⊥
    go true s = cc (s)
    go false s = cc (s)

all_escape : (xs ys : List ℕ) → AreBytes xs → AreBytes ys → flat_map escape xs ≡ flat_map escape ys → xs ≡ ys
all_escape [] [] a b e = refl
all_escape [] (y ∷ ys) a b e = absurd (some_escape y (flat_map escape ys) e)
all_escape (x ∷ xs) [] a b e = absurd (some_escape x (flat_map escape xs) (sym e))
all_escape (x ∷ xs) (y ∷ ys) a b e =
    let parts = one_escape x y (flat_map escape xs) (flat_map escape ys) a.0 b.0 e in
    let rest = all_escape xs ys a.1 b.1 parts.1 in (λ i. parts.0 i ∷ rest i)

tail_same : (xs ys : List ℕ) → 45 ∷ xs ≡ 45 ∷ ys → xs ≡ ys
tail_same xs ys e = cc (e)

-- two names of characters whose entries end alike are the same
pub suffix_same : (a b : List ℕ) → scalars a ≡ true → scalars b ≡ true → suffix a ≡ suffix b → a ≡ b
unfolding suffix
suffix_same a b first second e =
    encodes_same a b (all_escape (encode_utf8_all a) (encode_utf8_all b) (name_bytes a first) (name_bytes b second) (tail_same (flat_map escape (encode_utf8_all a)) (flat_map escape (encode_utf8_all b)) e))
