-- The last symbols, filled up to a whole group.
use Rattle.std.proofs.Common.{◌≡◌, ℕ, ◌+◌, ◌-◌, ◌*◌, ◌/◌, ◌≤◌, List, ◌++◌, length, take, drop, map, refl, sym, ap, ◌∙◌, arith, length-append}
use Rattle.std.proofs.lemmas.List.{length-map, map-append, take-take, take-append-drop}
use Rattle.std.proofs.lemmas.Slice.{take-put_mid, drop-put_mid}
use borrow.Rule.Slice.PartMut.{put_mid}
use Rattle.mime_codes.specs.Base64.{sextet, octets}
use Rattle.mime_codes.proofs.Octets.{octets_filled}

-- what a part that is written leaves
pub part_written : (at n : ℕ) (into some bytes : List ℕ) → at + n ≤ length into → length some ≡ n → some ≡ bytes → put_mid at (at + n - at) into some ≡ (take at into ++ bytes) ++ drop (at + n) into
part_written at n into some bytes fits size is =
    sym (take-append-drop (at + n) (put_mid at (at + n - at) into some))
    ∙ rw (take-put_mid at (at + n - at) into some (at + n) (omega (arith, size)) (omega arith), drop-put_mid at (at + n - at) into some (at + n) (omega arith) (omega arith) (omega (arith, size)), is) refl

pub filled : (waiting fill inside whole : List ℕ) (len n : ℕ) → take len inside ≡ waiting → len ≤ length inside → n ≡ len + length fill → whole ≡ take n (put_mid len (n - len) inside fill) → whole ≡ waiting ++ fill
filled waiting fill inside whole len n is fits count e = e ∙ take-put_mid len (n - len) inside fill n count fits ∙ ap (λ x. x ++ fill) is

pub last_decoded : (waiting fill whole bytes new : List ℕ) (len : ℕ) → length waiting ≡ len → whole ≡ waiting ++ fill → length fill ≡ (len + 3) / 4 * 4 - len →
    take (length whole / 4 * 3) bytes ≡ octets (map sextet whole) → new ≡ take (len * 3 / 4) bytes → new ≡ octets (map sextet waiting)
last_decoded waiting fill whole bytes new len size is few decoded e =
    let both : length whole ≡ length waiting + length fill = ap length is ∙ length-append waiting fill in
    let fewer : len * 3 / 4 ≤ length whole / 4 * 3 = omega (arith, both, size, few) in
    let count : length (map sextet waiting) ≡ len = length-map waiting sextet ∙ size in
    let more : length (map sextet fill) ≡ length fill = length-map fill sextet in
    e ∙ sym (take-take (len * 3 / 4) (length whole / 4 * 3) bytes fewer) ∙ ap (take (len * 3 / 4)) (decoded ∙ ap (λ w. octets (map sextet w)) is ∙ ap octets (map-append sextet waiting fill))
    ∙ ap (λ n. take (n * 3 / 4) (octets (map sextet waiting ++ map sextet fill))) (sym count)
    ∙ octets_filled (map sextet waiting) (map sextet fill) (omega (arith, count, more, few)) (omega (arith, count, more, few))
