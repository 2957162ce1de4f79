-- What functions make of texts.
use Rattle.std.proofs.Common.{◌≡◌, ◌≤◌, ◌<◌, ◌+◌, ◌*◌, ◌-◌, ℕ, Bool, true, false, eqb, List, [], ◌∷◌, length, take, drop, get_or, drop-cons, add-one, refl, sym, ap, ◌∙◌, arith}
use Rattle.std.specs.Prelude.{min, nat_le, suc}
use Rattle.std.proofs.lemmas.Bool.Decides.{nat_tests}
use Rattle.std.proofs.lemmas.List.{take_min, drop_all}
use Rattle.format_run.specs.Texts.{number_behind, unquoted}
use Rattle.mh_base.specs.Characters.{is_digit}

pub unquoted_nothing : unquoted [] ≡ []
unfolding unquoted
unquoted_nothing = refl

pub quote_dropped : (text : List ℕ) → unquoted (34 ∷ text) ≡ unquoted text
unfolding unquoted
quote_dropped [] = refl
quote_dropped (c ∷ text) = refl

pub backslash_dropped : (c : ℕ) (text : List ℕ) → unquoted (92 ∷ c ∷ text) ≡ c ∷ unquoted text
unfolding unquoted
backslash_dropped c text = refl

pub last_backslash : unquoted (92 ∷ []) ≡ 92 ∷ []
unfolding unquoted
last_backslash = refl

pub plain_stays : (c : ℕ) (text : List ℕ) → eqb c 34 ≡ false → eqb c 92 ≡ false → unquoted (c ∷ text) ≡ c ∷ unquoted text
unfolding unquoted
plain_stays c [] q b = rw q refl
plain_stays c (d ∷ text) q b = rw (q, b) refl

-- as many bytes as there are of so many
pub front_of : (all front : List ℕ) (n k : ℕ) → front ≡ take n all → n ≡ min (length all) k → front ≡ take k all
front_of all front n k cut is =
    let same : n ≡ min k (length all) = omega arith in
    cut ∙ ap (λ m. take m all) same ∙ take_min k all

digit_read : (n c : ℕ) (text : List ℕ) → is_digit c ≡ true → number_behind n (c ∷ text) ≡ number_behind (n * 10 + (c - 48)) text
unfolding number_behind
digit_read n c text e = rw e refl

digits_end : (n c : ℕ) (text : List ℕ) → is_digit c ≡ false → number_behind n (c ∷ text) ≡ n
unfolding number_behind
digits_end n c text e = rw e refl

no_digits : (n : ℕ) → number_behind n [] ≡ n
unfolding number_behind
no_digits n = refl

greater_by : (t : Bool) (n c : ℕ) (text : List ℕ) → is_digit c ≡ t → ((m : ℕ) → m ≤ number_behind m text) → n ≤ number_behind n (c ∷ text)
greater_by true n c text e more =
    let next = more (n * 10 + (c - 48)) in
    rw (digit_read n c text e) (omega arith)
greater_by false n c text e more = rw (digits_end n c text e) (omega arith)

-- digits make a number no less
greater : (text : List ℕ) (n : ℕ) → n ≤ number_behind n text
greater [] n = rw (no_digits n) (omega arith)
greater (c ∷ text) n = greater_by (is_digit c) n c text refl (greater text)

capped_by : (a b most : ℕ) → a ≤ b → most < a → min a most ≡ min b most
capped_by a b most h over = omega arith

capped_least : (a b most : ℕ) → most ≤ a → most ≤ b → min a most ≡ min b most
capped_least a b most h over = omega arith

capped_from : (text : List ℕ) (a most : ℕ) (t : Bool) → t ≡ (nat_le a most) → min (number_behind (min a most) text) most ≡ min (number_behind a text) most
capped_from text a most true e =
    let h : a ≤ most = grind (arith, nat_tests) in
    let same : min a most ≡ a = omega arith in
    ap (λ m. min (number_behind m text) most) same
capped_from text a most false e =
    let h : most < a = grind (arith, nat_tests) in
    let same : min a most ≡ most = omega arith in
    let low = greater text most in
    let high = greater text a in
    ap (λ m. min (number_behind m text) most) same ∙ capped_least (number_behind most text) (number_behind a text) most low (omega arith)

-- a number that is no greater than the greatest goes on as the number itself
capped : (text : List ℕ) (a most : ℕ) → min (number_behind (min a most) text) most ≡ min (number_behind a text) most
capped text a most = capped_from text a most (nat_le a most) refl

at_front : (text : List ℕ) (i c d : ℕ) → i < length text → c ≡ get_or text i d → drop i text ≡ c ∷ drop (i + 1) text
at_front text i c d h e = rw (add-one, drop-cons text i d) (ap (λ x. x ∷ drop (suc i) text) (sym e))

-- one digit more
pub digit_more : (text : List ℕ) (i c n digit next most whole d0 : ℕ) → i < length text → c ≡ get_or text i d0 → is_digit c ≡ true
    → digit ≡ c - 48 → next ≡ min (n * 10 + digit) most → min (number_behind n (drop i text)) most ≡ whole
    → min (number_behind next (drop (i + 1) text)) most ≡ whole
digit_more text i c n digit next most whole d0 h e read_one d is was =
    let same : next ≡ min (n * 10 + (c - 48)) most = is ∙ ap (λ x. min (n * 10 + x) most) d in
    ap (λ m. min (number_behind m (drop (i + 1) text)) most) same ∙ capped (drop (i + 1) text) (n * 10 + (c - 48)) most
    ∙ ap (λ m. min m most) (sym (digit_read n c (drop (i + 1) text) read_one)) ∙ ap (λ t. min (number_behind n t) most) (sym (at_front text i c d0 h e)) ∙ was

-- the digits end
pub digits_stop : (text : List ℕ) (i c n most whole d0 : ℕ) → i < length text → c ≡ get_or text i d0 → is_digit c ≡ false
    → n ≤ most → min (number_behind n (drop i text)) most ≡ whole → n ≡ whole
digits_stop text i c n most whole d0 h e other low was =
    let same : number_behind n (drop i text) ≡ n = ap (number_behind n) (at_front text i c d0 h e) ∙ digits_end n c (drop (i + 1) text) other in
    omega arith

-- the text ends
pub digits_out : (text : List ℕ) (i n most whole : ℕ) → length text ≤ i → n ≤ most → min (number_behind n (drop i text)) most ≡ whole → n ≡ whole
digits_out text i n most whole h low was =
    let same : number_behind n (drop i text) ≡ n = ap (number_behind n) (drop_all i text h) ∙ no_digits n in
    omega arith

pub backslash_alone : (text : List ℕ) → length text ≡ 0 → unquoted (92 ∷ text) ≡ 92 ∷ unquoted text
unfolding unquoted
backslash_alone [] h = refl
backslash_alone (c ∷ text) h = absurd (omega arith)

pub other_stays : (c : ℕ) (text : List ℕ) → (c ≡ 34 → ⊥) → (c ≡ 92 → ⊥) → unquoted (c ∷ text) ≡ c ∷ unquoted text
other_stays c text q b = plain_stays c text (grind (arith, nat_tests)) (grind (arith, nat_tests))
