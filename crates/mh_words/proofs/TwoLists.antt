-- A word of one list as a word of two.
use Rattle.std.proofs.Common.{◌≡◌, ◌≤◌, ◌<◌, ◌+◌, ◌-◌, ℕ, List, [], ◌∷◌, ◌++◌, length, drop, sym, ◌∙◌, ap, arith, Bor}
use Rattle.std.specs.Prelude.{Option, Some, None, MatchOption}
use Rattle.std.proofs.Math.Seq.{drop-append-add}
use Rattle.std.proofs.lemmas.List.{drop-append-le}
use Rattle.mh_words.specs.Lines.{IsWordAt}

word_in_front : (front back : List (List ℕ)) (place : ℕ) (word : List ℕ) → place < length front → IsWordAt front place word → IsWordAt (front ++ back) place word
word_in_front front back place word inside e =
    let one : place ≤ length front = omega arith in
    let next : place + 1 ≤ length front = omega arith in
    drop-append-le place front back one ∙ ap (λ x. x ++ back) e ∙ ap (λ x. word ∷ x) (sym (drop-append-le (place + 1) front back next))

past_front : (front back : List (List ℕ)) (place : ℕ) → length front ≤ place → drop place (front ++ back) ≡ drop (place - length front) back
past_front front back place past =
    let e : place ≡ length front + (place - length front) = omega arith in
    ap (λ k. drop k (front ++ back)) e ∙ drop-append-add front back (place - length front)

word_in_back : (front back : List (List ℕ)) (place : ℕ) (word : List ℕ) → length front ≤ place → IsWordAt back (place - length front) word → IsWordAt (front ++ back) place word
word_in_back front back place word past e =
    let next : length front ≤ place + 1 = omega arith in
    let k : place - length front + 1 ≡ place + 1 - length front = omega arith in
    past_front front back place past ∙ e ∙ ap (λ x. word ∷ x) (ap (λ n. drop n back) k ∙ sym (past_front front back (place + 1) next))

none_in_back : (front back : List (List ℕ)) (place : ℕ) → length front ≤ place → drop (place - length front) back ≡ [] → drop place (front ++ back) ≡ []
none_in_back front back place past e = past_front front back place past ∙ e

-- what stands at a place past the front
pub in_back : (front back : List (List ℕ)) (place : ℕ) (r : Option (Bor (List ℕ))) → length front ≤ place → MatchOption r (drop (place - length front) back ≡ []) (λ w. IsWordAt back (place - length front) w.now)
    → MatchOption r (drop place (front ++ back) ≡ []) (λ w. IsWordAt (front ++ back) place w.now)
in_back front back place None past e = none_in_back front back place past e
in_back front back place (Some w) past e = word_in_back front back place w.now past e
