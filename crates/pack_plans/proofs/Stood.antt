-- Which messages stand at their places, one after another.
use Rattle.std.proofs.Common.{◌≡◌, ◌≢◌, ◌<◌, ◌≤◌, ◌+◌, ◌==◌, ℕ, Bool, true, false, List, [], ◌∷◌, ◌++◌, length, drop, get_or, min, refl, sym, ap, ◌∙◌, arith, append_assoc, append-nil, ⊎_elim}
use Rattle.std.specs.Prelude.{if◌then◌else◌}
use Rattle.std.proofs.lemmas.Bool.{cases_lt}
use Rattle.std.proofs.lemmas.Bool.Decides.{nat_tests}
use Rattle.std.proofs.lemmas.List.{drop_all}
use Rattle.pack_plans.specs.Places.{staying}
use Rattle.step_plans.proofs.Rounds.{next}

abbrev with_one : Bool → ℕ → List ℕ → List ℕ
with_one b n l = if b then n ∷ l else l

both : (ns ss : List ℕ) (i n s : ℕ) → i < min (length ns) (length ss) → n ≡ get_or ns i n → s ≡ get_or ss i s → staying (drop i ns) (drop i ss) ≡ with_one (n == s) n (staying (drop (i + 1) ns) (drop (i + 1) ss))
both ns ss i n s h en es = λ j. staying (next ns i n (omega (arith, h)) en j) (next ss i s (omega (arith, h)) es j)

same : (n s : ℕ) → n ≡ s → (n == s) ≡ true
same n s e = grind (arith, nat_tests)

other : (n s : ℕ) → n ≢ s → (n == s) ≡ false
other n s e = grind (arith, nat_tests)

-- a message that stands at its place
pub one_stays : (ns ss old new : List ℕ) (i n s : ℕ) → i < min (length ns) (length ss) → n ≡ get_or ns i n → s ≡ get_or ss i s → n ≡ s → new ≡ old ++ n ∷ []
    → old ++ staying (drop i ns) (drop i ss) ≡ staying ns ss → new ++ staying (drop (i + 1) ns) (drop (i + 1) ss) ≡ staying ns ss
one_stays ns ss old new i n s h en es e put was =
    ap (λ l. l ++ staying (drop (i + 1) ns) (drop (i + 1) ss)) put ∙ append_assoc old (n ∷ []) (staying (drop (i + 1) ns) (drop (i + 1) ss))
    ∙ ap (λ l. old ++ l) (sym (both ns ss i n s h en es ∙ ap (λ b. with_one b n (staying (drop (i + 1) ns) (drop (i + 1) ss))) (same n s e))) ∙ was

-- one that does not
pub one_goes : (ns ss old : List ℕ) (i n s : ℕ) → i < min (length ns) (length ss) → n ≡ get_or ns i n → s ≡ get_or ss i s → n ≢ s
    → old ++ staying (drop i ns) (drop i ss) ≡ staying ns ss → old ++ staying (drop (i + 1) ns) (drop (i + 1) ss) ≡ staying ns ss
one_goes ns ss old i n s h en es e was = ap (λ l. old ++ l) (sym (both ns ss i n s h en es ∙ ap (λ b. with_one b n (staying (drop (i + 1) ns) (drop (i + 1) ss))) (other n s e))) ∙ was

no_places : (ns : List ℕ) → staying ns [] ≡ []
no_places [] = refl
no_places (n ∷ ns) = refl

none_left : (ns ss : List ℕ) (i : ℕ) → min (length ns) (length ss) ≤ i → staying (drop i ns) (drop i ss) ≡ []
none_left ns ss i h = ⊎_elim (λ lt. ap (staying (drop i ns)) (drop_all i ss (omega (arith, h, lt))) ∙ no_places (drop i ns)) (λ ge. ap (λ l. staying l (drop i ss)) (drop_all i ns ge)) (cases_lt i (length ns))

pub all_seen : (ns ss old : List ℕ) (i : ℕ) → min (length ns) (length ss) ≤ i → old ++ staying (drop i ns) (drop i ss) ≡ staying ns ss → old ≡ staying ns ss
all_seen ns ss old i h was = sym (append-nil old) ∙ ap (λ l. old ++ l) (sym (none_left ns ss i h)) ∙ was
