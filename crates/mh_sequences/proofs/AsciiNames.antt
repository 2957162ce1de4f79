-- Names are ASCII.
use Rattle.std.proofs.Common.{◌≡◌, ℕ, zero, suc, ◌<◌, ◌≤◌, true, List, [], ◌∷◌, ◌++◌, length, refl, sym, ◌∙◌, ap, arith}
use Rattle.std.specs.Prelude.{◌&&◌, not, nat_le}
use Rattle.std.specs.List.{list_all, All}
use Rattle.std.specs.Char.{is_ascii_alphanumeric}
use Rattle.std.specs.Str.{chars, encode_utf8_all, IsAscii, IsUtf8}
use Rattle.std.proofs.lemmas.Bool.{and_parts}
use Rattle.std.proofs.lemmas.Bool.Decides.{nat_tests}
use Rattle.std.proofs.lemmas.Str.{encode_ascii, chars-IsAscii, IsUtf8-from_ascii}
use Rattle.std.proofs.lemmas.Str.Ascii.{IsAscii-from_all}
use Rattle.mh_sequences.specs.Names.{is_seq_name, begins_with_letter, is_reserved}
use Rattle.mh_sequences.proofs.Bools.{same_test}

-- the parts of a name's test
pub name_bytes : (name : List ℕ) → is_seq_name name ≡ true → list_all is_ascii_alphanumeric name ≡ true
unfolding is_seq_name
name_bytes name h =
    let a = and_parts (begins_with_letter name && list_all is_ascii_alphanumeric name && nat_le (length name) 64) (not (is_reserved name)) h in
    let b = and_parts (begins_with_letter name && list_all is_ascii_alphanumeric name) (nat_le (length name) 64) a.0 in
    (and_parts (begins_with_letter name) (list_all is_ascii_alphanumeric name) b.0).1

pub name_free : (name : List ℕ) → is_seq_name name ≡ true → not (is_reserved name) ≡ true
unfolding is_seq_name
name_free name h = (and_parts (begins_with_letter name && list_all is_ascii_alphanumeric name && nat_le (length name) 64) (not (is_reserved name)) h).1

pub name_starts : (name : List ℕ) → is_seq_name name ≡ true → begins_with_letter name ≡ true
unfolding is_seq_name
name_starts name h =
    let a = and_parts (begins_with_letter name && list_all is_ascii_alphanumeric name && nat_le (length name) 64) (not (is_reserved name)) h in
    let b = and_parts (begins_with_letter name && list_all is_ascii_alphanumeric name) (nat_le (length name) 64) a.0 in
    (and_parts (begins_with_letter name) (list_all is_ascii_alphanumeric name) b.0).0

pub low : (c : ℕ) → is_ascii_alphanumeric c ≡ true → (48 ≤ c) × (c ≤ 122)
low c h = (grind (arith, nat_tests), grind (arith, nat_tests))

all_low : (xs : List ℕ) → list_all is_ascii_alphanumeric xs ≡ true → All (λ b. b < 128) xs
all_low [] h k d lt = absurd (omega arith)
all_low (x ∷ xs) h zero d lt = let parts = and_parts (is_ascii_alphanumeric x) (list_all is_ascii_alphanumeric xs) h in let top = low x parts.0 in omega arith
all_low (x ∷ xs) h (suc k) d lt = let parts = and_parts (is_ascii_alphanumeric x) (list_all is_ascii_alphanumeric xs) h in all_low xs parts.1 k d (omega arith)

pub ascii : (xs : List ℕ) → list_all is_ascii_alphanumeric xs ≡ true → IsAscii xs
ascii xs h = IsAscii-from_all xs (all_low xs h)

encoded : (xs : List ℕ) → list_all is_ascii_alphanumeric xs ≡ true → encode_utf8_all xs ≡ xs
encoded [] h = refl
encoded (x ∷ xs) h =
    let parts = and_parts (is_ascii_alphanumeric x) (list_all is_ascii_alphanumeric xs) h in
    let top = low x parts.0 in
    (λ i. encode_ascii x (omega arith) i ++ encoded xs parts.1 i)

-- a name is its own bytes
pub plain : (name : List ℕ) → is_seq_name name ≡ true → encode_utf8_all name ≡ name
plain name h = encoded name (name_bytes name h)

pub plain_chars : (bytes : List ℕ) → is_seq_name bytes ≡ true → chars bytes ≡ bytes
plain_chars bytes h = chars-IsAscii bytes (ascii bytes (name_bytes bytes h))

pub is_text : (bytes : List ℕ) → is_seq_name bytes ≡ true → IsUtf8 bytes
is_text bytes h = IsUtf8-from_ascii bytes (ascii bytes (name_bytes bytes h))

-- a text is a name where its bytes are
pub judged : (bytes text : List ℕ) → chars bytes ≡ text → bytes ≡ encode_utf8_all text → is_seq_name bytes ≡ is_seq_name text
judged bytes text shown spelled =
    same_test (is_seq_name bytes) (is_seq_name text)
    (λ h. ap is_seq_name (sym shown ∙ plain_chars bytes h) ∙ h)
    (λ h. ap is_seq_name (spelled ∙ plain text h) ∙ h)
