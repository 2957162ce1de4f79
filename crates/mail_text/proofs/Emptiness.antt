-- A text without characters has no bytes.
use Rattle.std.proofs.Common.{◌≡◌, ◌≤◌, ℕ, Bool, false, eqb, List, [], ◌∷◌, length, ap, sym, ◌∙◌, arith}
use Rattle.std.specs.Str.{encode_utf8_all}
use Rattle.std.proofs.lemmas.Bool.Decides.{nat_tests}
use Rattle.std.proofs.lemmas.Str.{length-le-encodes}

pub not_zero : (n : ℕ) → 1 ≤ n → eqb n 0 ≡ false
not_zero n le = grind (arith, nat_tests)

pub emptiness : (cs bytes : List ℕ) (r : Bool) → bytes ≡ encode_utf8_all cs → r ≡ eqb (length bytes) 0 → r ≡ eqb (length cs) 0
emptiness [] bytes r e is = is ∙ ap (λ b. eqb (length b) 0) e
emptiness (c ∷ cs) bytes r e is =
    let more = length-le-encodes (c ∷ cs) in
    let some : 1 ≤ length bytes = omega (arith, more, ap length e) in
    is ∙ not_zero (length bytes) some ∙ sym (not_zero (length (c ∷ cs)) (omega arith))
