-- Symbols gathered from a text, and decoded as soon as there are enough of them.
use Rattle.std.proofs.Common.{◌≡◌, ℕ, ◌+◌, ◌*◌, ◌/◌, ◌%◌, ◌≤◌, List, [], ◌++◌, length, take, drop, map, filter, sym, ap, ◌∙◌, length-append, append-nil, append_assoc, arith}
use Rattle.std.proofs.lemmas.List.Elements.{filter-append}
use Rattle.std.proofs.lemmas.List.{length-map, map-append, length-take-le, take-append-drop, take_at, drop_at}
use Rattle.std.proofs.lemmas.List.Sums.{length-filter, count_by-le-length}
use Rattle.mime_codes.specs.Base64.{is_symbol, sextet, octets}
use Rattle.mime_codes.proofs.Octets.{length-octets, octets-append}
use Rattle.mime_codes.proofs.Writing.{further}

-- a front of what is left is looked at
pub more_taken : (symbols more text behind rest into all : List ℕ) (n count : ℕ) → text ≡ take n rest → behind ≡ drop n rest → more ≡ symbols ++ filter is_symbol text →
    take count into ++ octets (map sextet (symbols ++ filter is_symbol rest)) ≡ all → take count into ++ octets (map sextet (more ++ filter is_symbol behind)) ≡ all
more_taken symbols more text behind rest into all n count et eb is front =
    ap (λ s. take count into ++ octets (map sextet s))
    (ap (λ s. s ++ filter is_symbol behind) is ∙ append_assoc symbols (filter is_symbol text) (filter is_symbol behind)
    ∙ ap (λ s. symbols ++ s) (sym (filter-append is_symbol text behind) ∙ ap (filter is_symbol) (ap (λ t. t ++ behind) et ∙ ap (λ t. take n rest ++ t) eb ∙ take-append-drop n rest)))
    ∙ front

pub some_longer : (symbols more text : List ℕ) → more ≡ symbols ++ filter is_symbol text → length more ≤ length symbols + length text
some_longer symbols more text is =
    omega (arith, ap length is, length-append symbols (filter is_symbol text), length-filter is_symbol text, count_by-le-length is_symbol text)

pub bytes_of : (symbols : List ℕ) → length (octets (map sextet symbols)) ≡ length symbols * 3 / 4
bytes_of symbols = length-octets (map sextet symbols) ∙ ap (λ n. n * 3 / 4) (length-map symbols sextet)

whole_decoded : (symbols rest : List ℕ) → length symbols % 4 ≡ 0 → octets (map sextet (symbols ++ rest)) ≡ octets (map sextet symbols) ++ octets (map sextet rest)
whole_decoded symbols rest whole =
    ap octets (map-append sextet symbols rest) ∙ octets-append (map sextet symbols) (map sextet rest) (ap (λ n. n % 4) (length-map symbols sextet) ∙ whole)

taken : (into bytes behind : List ℕ) (count next : ℕ) → count ≤ length into → next ≡ count + length bytes → take next ((take count into ++ bytes) ++ behind) ≡ take count into ++ bytes
taken into bytes behind count next le is =
    take_at (take count into ++ bytes) behind next (sym (is ∙ ap (λ n. n + length bytes) (sym (length-take-le count into le)) ∙ sym (length-append (take count into) bytes)))

left : (into bytes behind : List ℕ) (count next : ℕ) → count ≤ length into → next ≡ count + length bytes → drop next ((take count into ++ bytes) ++ behind) ≡ behind
left into bytes behind count next le is =
    drop_at (take count into ++ bytes) behind next (sym (is ∙ ap (λ n. n + length bytes) (sym (length-take-le count into le)) ∙ sym (length-append (take count into) bytes)))

-- those that wait are decoded
pub flushed_front : (symbols rest into new all : List ℕ) (count next : ℕ) → count ≤ length into → length symbols % 4 ≡ 0 → next ≡ count + length (octets (map sextet symbols)) →
    new ≡ (take count into ++ octets (map sextet symbols)) ++ drop next into → take count into ++ octets (map sextet (symbols ++ rest)) ≡ all → take next new ++ octets (map sextet rest) ≡ all
flushed_front symbols rest into new all count next le whole is written front =
    ap (λ x. take next x ++ octets (map sextet rest)) written
    ∙ ap (λ x. x ++ octets (map sextet rest)) (taken into (octets (map sextet symbols)) (drop next into) count next le is)
    ∙ append_assoc (take count into) (octets (map sextet symbols)) (octets (map sextet rest))
    ∙ ap (λ x. take count into ++ x) (sym (whole_decoded symbols rest whole)) ∙ front

pub flushed_behind : (bytes into initial new : List ℕ) (count next : ℕ) → count ≤ length into → next ≡ count + length bytes → new ≡ (take count into ++ bytes) ++ drop next into →
    drop count into ≡ drop count initial → drop next new ≡ drop next initial
flushed_behind bytes into initial new count next le is written behind =
    ap (drop next) written ∙ left into bytes (drop next into) count next le is
    ∙ ap (λ n. drop n into) is ∙ further count (length bytes) into initial behind ∙ ap (λ n. drop n initial) (sym is)

-- nothing is left of the text
pub last_flushed : (symbols rest into initial new all : List ℕ) (count next : ℕ) → rest ≡ [] → next ≡ count + length (octets (map sextet symbols)) →
    new ≡ (take count into ++ octets (map sextet symbols)) ++ drop next into → drop count into ≡ drop count initial →
    take count into ++ octets (map sextet (symbols ++ filter is_symbol rest)) ≡ all → new ≡ all ++ drop next initial
last_flushed symbols rest into initial new all count next none is written behind front =
    let waiting : symbols ++ filter is_symbol rest ≡ symbols = rw none (append-nil symbols) in
    written ∙ ap (λ x. x ++ drop next into) (ap (λ s. take count into ++ octets (map sextet s)) (sym waiting) ∙ front)
    ∙ ap (λ x. all ++ x) (ap (λ n. drop n into) is ∙ further count (length (octets (map sextet symbols))) into initial behind ∙ ap (λ n. drop n initial) (sym is))
