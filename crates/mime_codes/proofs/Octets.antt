-- Bytes of sextets.
use Rattle.std.proofs.Common.{◌≡◌, ℕ, zero, suc, ◌+◌, ◌*◌, ◌/◌, ◌%◌, ◌<◌, List, [], ◌∷◌, ◌++◌, length, take, get_or, map, slice_index, refl, ap, ◌∙◌, arith}
use Rattle.base64.specs.Rfc4648.{encode_symbols}
use Rattle.mime_codes.specs.Base64.{octets}

abbrev pub AreSextets : List ℕ → Type 0
AreSextets xs = (i : ℕ) → get_or xs i 0 < 64

first_symbol : (a b : ℕ) → b < 64 → (a * 4 + b / 16) / 4 ≡ a
first_symbol a b lt = omega arith

second_symbol : (a b c : ℕ) → b < 64 → c < 64 → (a * 4 + b / 16) % 4 * 16 + (b % 16 * 16 + c / 4) / 16 ≡ b
second_symbol a b c lb lc = omega arith

third_symbol : (b c d : ℕ) → c < 64 → d < 64 → (b % 16 * 16 + c / 4) % 16 * 4 + (c % 4 * 64 + d) / 64 ≡ c
third_symbol b c d lc ld = omega arith

last_symbol : (c d : ℕ) → d < 64 → (c % 4 * 64 + d) % 64 ≡ d
last_symbol c d lt = omega arith

-- whole groups are the encoding of their bytes
pub groups_back : (t xs : List ℕ) → AreSextets xs → length xs % 4 ≡ 0 → encode_symbols t (octets xs) ≡ map (slice_index t) xs
unfolding octets encode_symbols
groups_back t [] low whole = refl
groups_back t (a ∷ []) low whole = absurd (omega arith)
groups_back t (a ∷ b ∷ []) low whole = absurd (omega arith)
groups_back t (a ∷ b ∷ c ∷ []) low whole = absurd (omega arith)
groups_back t (a ∷ b ∷ c ∷ d ∷ rest) low whole =
    let lb : b < 64 = low 1 in
    let lc : c < 64 = low 2 in
    let ld : d < 64 = low 3 in
    rw (first_symbol a b lb, second_symbol a b c lb lc, third_symbol b c d lc ld, last_symbol c d ld, groups_back t rest (λ i. low (suc (suc (suc (suc i))))) (omega (arith, whole))) refl

pub octets_low : (xs : List ℕ) → AreSextets xs → (i : ℕ) → get_or (octets xs) i 0 < 256
unfolding octets
octets_low [] low i = omega arith
octets_low (a ∷ []) low i = omega arith
octets_low (a ∷ b ∷ []) low zero = omega (arith, low 0, low 1)
octets_low (a ∷ b ∷ []) low (suc i) = omega arith
octets_low (a ∷ b ∷ c ∷ []) low zero = omega (arith, low 0, low 1)
octets_low (a ∷ b ∷ c ∷ []) low (suc zero) = omega (arith, low 1, low 2)
octets_low (a ∷ b ∷ c ∷ []) low (suc (suc i)) = omega arith
octets_low (a ∷ b ∷ c ∷ d ∷ rest) low zero = omega (arith, low 0, low 1)
octets_low (a ∷ b ∷ c ∷ d ∷ rest) low (suc zero) = omega (arith, low 1, low 2)
octets_low (a ∷ b ∷ c ∷ d ∷ rest) low (suc (suc zero)) = omega (arith, low 2, low 3)
octets_low (a ∷ b ∷ c ∷ d ∷ rest) low (suc (suc (suc i))) = octets_low rest (λ k. low (suc (suc (suc (suc k))))) i

pub length-octets : (xs : List ℕ) → length (octets xs) ≡ length xs * 3 / 4
unfolding octets
length-octets [] = refl
length-octets (a ∷ []) = refl
length-octets (a ∷ b ∷ []) = refl
length-octets (a ∷ b ∷ c ∷ []) = refl
length-octets (a ∷ b ∷ c ∷ d ∷ rest) = let more = length-octets rest in omega (arith, more)

pub octets-append : (xs ys : List ℕ) → length xs % 4 ≡ 0 → octets (xs ++ ys) ≡ octets xs ++ octets ys
unfolding octets
octets-append [] ys whole = refl
octets-append (a ∷ []) ys whole = absurd (omega arith)
octets-append (a ∷ b ∷ []) ys whole = absurd (omega arith)
octets-append (a ∷ b ∷ c ∷ []) ys whole = absurd (omega arith)
octets-append (a ∷ b ∷ c ∷ d ∷ rest) ys whole = rw (octets-append rest ys (omega (arith, whole))) refl

take_three : (n m x y z : ℕ) (rest : List ℕ) → n ≡ suc (suc (suc m)) → take n (x ∷ y ∷ z ∷ rest) ≡ x ∷ y ∷ z ∷ take m rest
take_three n m x y z rest e = rw e refl

-- a last group, filled up to four
pub octets_filled : (xs ys : List ℕ) → (length xs + length ys) % 4 ≡ 0 → length ys < 4 → take (length xs * 3 / 4) (octets (xs ++ ys)) ≡ octets xs
unfolding octets
octets_filled [] [] whole few = refl
octets_filled [] (y ∷ ys) whole few = refl
octets_filled (a ∷ []) ys whole few = refl
octets_filled (a ∷ b ∷ []) [] whole few = absurd (omega arith)
octets_filled (a ∷ b ∷ []) (c ∷ []) whole few = absurd (omega arith)
octets_filled (a ∷ b ∷ []) (c ∷ d ∷ ys) whole few = refl
octets_filled (a ∷ b ∷ c ∷ []) [] whole few = absurd (omega arith)
octets_filled (a ∷ b ∷ c ∷ []) (d ∷ ys) whole few = refl
octets_filled (a ∷ b ∷ c ∷ d ∷ rest) ys whole few =
    take_three (suc (suc (suc (suc (length rest)))) * 3 / 4) (length rest * 3 / 4) _ _ _ (octets (rest ++ ys)) (omega arith)
    ∙ ap (λ r. (a * 4 + b / 16) ∷ (b % 16 * 16 + c / 4) ∷ (c % 4 * 64 + d) ∷ r) (octets_filled rest ys (omega (arith, whole)) few)
