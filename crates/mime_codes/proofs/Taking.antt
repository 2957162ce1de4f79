-- Symbols that are taken from among other bytes.
use Rattle.std.proofs.Common.{◌≡◌, ℕ, ◌+◌, ◌<◌, ◌≤◌, Bool, true, false, eqb, List, [], ◌∷◌, ◌++◌, length, take, get_or, filter, slice_index, refl, ap, sym, ◌∙◌, arith, append-nil, append_assoc}
use Rattle.std.proofs.lemmas.List.{take_more_set, take-set, take_more}
use Rattle.std.proofs.lemmas.List.Elements.{filter-append}
use Rattle.std.proofs.lemmas.Bool.{eqb-true}
use Rattle.std.proofs.Math.ListN.{set}
use Rattle.std.specs.List.{AllPass}
use Rattle.base64.specs.Tables.{all_below}
use Rattle.base64.proofs.Tables.{all_below_at}
use Rattle.mime_codes.specs.Base64.{is_symbol, symbol_count}
use Rattle.mime_codes.specs.declared.symbols.TheConstants.{COUNTS}
use Rattle.mime_codes.proofs.Groups.{one_more_passes}

abbrev is_counted : ℕ → Bool
is_counted c = eqb (slice_index COUNTS c) (symbol_count c)

each_counted : all_below is_counted 256 ≡ true
each_counted = refl

-- the table has how many symbols each byte is
pub counted : (c : ℕ) → c < 256 → slice_index COUNTS c ≡ symbol_count c
counted c lt = eqb-true (slice_index COUNTS c) (symbol_count c) (all_below_at is_counted 256 c each_counted lt)

one_by : (t : Bool) (byte n : ℕ) → is_symbol byte ≡ t → n ≡ symbol_count byte → n ≤ 1
one_by true byte n e is =
    let one : n ≡ 1 = rw e at is in
    omega (arith, one)
one_by false byte n e is =
    let none : n ≡ 0 = rw e at is in
    omega (arith, none)

pub at_most_one : (byte n : ℕ) → n ≡ symbol_count byte → n ≤ 1
at_most_one byte n is = one_by (is_symbol byte) byte n refl is

taken_by : (t : Bool) (inside : List ℕ) (len byte n : ℕ) → is_symbol byte ≡ t → n ≡ symbol_count byte → len < length inside → take (len + n) (set inside len byte) ≡ take len inside ++ filter is_symbol (byte ∷ [])
taken_by true inside len byte n e is lt =
    let one : len + n ≡ len + 1 = ap (λ k. len + k) (rw e at is) in
    rw (one, e) (take_more_set inside len byte lt)
taken_by false inside len byte n e is lt =
    let none : n ≡ 0 = rw e at is in
    let same : len + n ≡ len = omega (arith, none) in
    rw (same, e) (take-set inside len byte ∙ sym (append-nil (take len inside)))

symbols_more : (text : List ℕ) (i : ℕ) → i < length text → filter is_symbol (take (i + 1) text) ≡ filter is_symbol (take i text) ++ filter is_symbol (get_or text i 0 ∷ [])
symbols_more text i lt = rw (take_more text i 0 lt) (filter-append is_symbol (take i text) (get_or text i 0 ∷ []))

-- another byte is looked at
pub one_taken : (before inside text : List ℕ) (len i n : ℕ) → len < length inside → i < length text → n ≡ symbol_count (get_or text i 0) → take len inside ≡ before ++ filter is_symbol (take i text) →
    take (len + n) (set inside len (get_or text i 0)) ≡ before ++ filter is_symbol (take (i + 1) text)
one_taken before inside text len i n lt in_text is front =
    taken_by (is_symbol (get_or text i 0)) inside len (get_or text i 0) n refl is lt
    ∙ ap (λ s. s ++ filter is_symbol (get_or text i 0 ∷ [])) front
    ∙ append_assoc before (filter is_symbol (take i text)) (filter is_symbol (get_or text i 0 ∷ []))
    ∙ ap (λ s. before ++ s) (sym (symbols_more text i in_text))

more_by : (t : Bool) (symbols : List ℕ) (byte : ℕ) (rest : List ℕ) → is_symbol byte ≡ t → AllPass is_symbol symbols → ((s : List ℕ) → AllPass is_symbol s → AllPass is_symbol (s ++ filter is_symbol rest)) →
    AllPass is_symbol (symbols ++ filter is_symbol (byte ∷ rest))
more_by true symbols byte rest e all more = rw (e, ← append_assoc symbols (byte ∷ []) (filter is_symbol rest)) (more (symbols ++ byte ∷ []) (one_more_passes symbols byte all e))
more_by false symbols byte rest e all more = rw e (more symbols all)

pub all_taken : (text symbols : List ℕ) → AllPass is_symbol symbols → AllPass is_symbol (symbols ++ filter is_symbol text)
all_taken [] symbols all = rw (append-nil symbols) all
all_taken (byte ∷ text) symbols all = more_by (is_symbol byte) symbols byte text refl all (λ s passes. all_taken text s passes)
