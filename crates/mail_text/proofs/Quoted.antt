-- The encoding Q, byte by byte.
use Rattle.std.proofs.Common.{◌≡◌, ℕ, zero, suc, false, eqb, Some, None, List, [], ◌∷◌, ◌++◌, drop, refl, sym, ap, ◌∙◌, arith, append_assoc, append-nil}
use Rattle.std.proofs.lemmas.Bool.Decides.{nat_tests}
use Rattle.mime_codes.specs.Hexadecimal.{escaped_byte}
use Rattle.mime_codes.specs.QuotedPrintable.{with_escaped}
use Rattle.mail_text.specs.Encodings.{q_behind, q_decoded}

passed : (n : ℕ) (bytes : List ℕ) → q_behind n bytes ≡ q_behind 0 (drop n bytes)
unfolding q_behind
passed zero bytes = refl
passed (suc n) [] = refl
passed (suc n) (b ∷ rest) = passed n rest

pub space : (b : ℕ) (rest : List ℕ) → b ≡ 95 → q_decoded (b ∷ rest) ≡ 32 ∷ q_decoded rest
unfolding q_behind
space b rest e = rw e refl

after_equals : (b : ℕ) (rest : List ℕ) → b ≡ 61 → q_decoded (b ∷ rest) ≡ with_escaped (escaped_byte rest) (q_behind 2 rest) (b ∷ q_decoded rest)
unfolding q_behind
after_equals b rest e = rw e refl

pub escape : (b v : ℕ) (rest behind : List ℕ) → b ≡ 61 → escaped_byte rest ≡ Some v → behind ≡ drop 2 rest → q_decoded (b ∷ rest) ≡ v ∷ q_decoded behind
escape b v rest behind e is eb =
    after_equals b rest e ∙ ap (λ o. with_escaped o (q_behind 2 rest) (b ∷ q_decoded rest)) is ∙ ap (λ x. v ∷ x) (passed 2 rest ∙ ap (q_behind 0) (sym eb))

pub no_escape : (b : ℕ) (rest : List ℕ) → b ≡ 61 → escaped_byte rest ≡ None → q_decoded (b ∷ rest) ≡ b ∷ q_decoded rest
no_escape b rest e is = after_equals b rest e ∙ ap (λ o. with_escaped o (q_behind 2 rest) (b ∷ q_decoded rest)) is

pub other : (b : ℕ) (rest : List ℕ) → (b ≡ 95 → ⊥) → (b ≡ 61 → ⊥) → q_decoded (b ∷ rest) ≡ b ∷ q_decoded rest
unfolding q_behind
other b rest no_space no_equals =
    let a : eqb b 95 ≡ false = grind (arith, nat_tests) in
    let c : eqb b 61 ≡ false = grind (arith, nat_tests) in
    rw (a, c) refl

none_left : q_decoded [] ≡ []
unfolding q_behind
none_left = refl

pub more : (first byte : ℕ) (rest behind after old new all : List ℕ) → rest ≡ first ∷ behind → q_decoded (first ∷ behind) ≡ byte ∷ q_decoded after → new ≡ old ++ byte ∷ [] → old ++ q_decoded rest ≡ all →
    new ++ q_decoded after ≡ all
more first byte rest behind after old new all er eq ew e =
    ap (λ x. x ++ q_decoded after) ew ∙ append_assoc old (byte ∷ []) (q_decoded after) ∙ ap (λ x. old ++ x) (sym (ap q_decoded er ∙ eq)) ∙ e

pub ended : (rest old all : List ℕ) → rest ≡ [] → old ++ q_decoded rest ≡ all → old ≡ all
ended rest old all none e = sym (append-nil old) ∙ ap (λ x. old ++ x) (sym (ap q_decoded none ∙ none_left)) ∙ e
