-- What composes a draft gives the message that is said of it.
use Rattle.std.proofs.Common.{◌≡◌, ◌+◌, ◌*◌, ◌-◌, ◌/◌, ◌%◌, ◌≤◌, ◌<◌, ◌++◌, ◌∷◌, [], ℕ, zero, suc, Bool, true, false, List, Result, Ok, Err, length, refl, sym, ◌∙◌, ap, arith}
use Rattle.std.specs.Prelude.{IfOk, nat_lt}
use Rattle.std.proofs.lemmas.Bool.Decides.{Decides-ltb, nat_tests}
use Rattle.std.specs.Fmt.{digit_glyph}
use Rattle.std.specs.List.{list_any}
use Rattle.std.proofs.Math.Nat.{add-mul-mod_self_left}
use Rattle.std.proofs.Math.Nat.{add-mul-div_left}
use Rattle.mh_base.specs.Numbers.{hex}
use Rattle.mh_drafts.specs.Drafted.{Drafted}
use Rattle.mh_drafts.specs.declared.item.Item.{Item}
use Rattle.mhbuild_compose.specs.declared.given.Given.{Given}
use Rattle.mhbuild_compose.specs.Eights.{flags_of}
use Rattle.mhbuild_compose.specs.Keys.{AreKeys, IsLeastFree, hyphened, node_takes, takes_any}
use Rattle.mhbuild_compose.specs.Messages.{IsComposed, opened}
use Rattle.mhbuild_compose.specs.Roots.{all_nodes}
use Rattle.mhbuild_compose.specs.Written.{written}
use Rattle.mhbuild_plans.specs.Composed.{KEYS, composed, keys_from, keys_of, least_free}

-- so many times sixteen
higher : ℕ → ℕ → ℕ
higher zero m = m
higher (suc k) m = 16 * higher k m

-- the last digits of a number go round
digits_round : (k n m : ℕ) → hex k (n + higher k m) ≡ hex k n
unfolding hex higher
digits_round zero n m = refl
digits_round (suc k) n m =
    let high : (n + 16 * higher k m) / 16 ≡ n / 16 + higher k m = add-mul-div_left n (higher k m) (omega arith) in
    let low : (n + 16 * higher k m) % 16 ≡ n % 16 = add-mul-mod_self_left n 16 (higher k m) in
    (λ i. hex k (high i) ++ digit_glyph false (low i) ∷ []) ∙ ap (λ d. d ++ digit_glyph false (n % 16) ∷ []) (digits_round k (n / 16) m)

round_keys : (k : ℕ) → hex 16 (k + KEYS) ≡ hex 16 k
unfolding higher
round_keys k = digits_round 16 k 1

-- a key that is taken is taken a round later too
taken_round : (run : ℕ) (items : List Item) (givens : List Given) (k : ℕ) → takes_any run (all_nodes items givens) (k + KEYS) ≡ takes_any run (all_nodes items givens) k
taken_round run items givens k = ap (λ d. list_any (node_takes (hyphened run) d) (all_nodes items givens)) (round_keys k)

module _ (taken : ℕ → Bool) where
  -- the first of these that isn't taken is found
  free_at : (d more from : ℕ) → d ≤ more → taken (from + d) ≡ false → ((i : ℕ) → i < d → taken (from + i) ≡ true) → least_free taken more from ≡ from + d
  unfolding least_free
  free_at zero zero from few free all = omega arith
  free_at zero (suc more) from few free all =
      let same : from ≡ from + 0 = omega arith in
      rw (ap taken same ∙ free) same
  free_at (suc d) zero from few free all = absurd (omega (arith, few))
  free_at (suc d) (suc more) from few free all =
      let same : from ≡ from + 0 = omega arith in
      let last : from + 1 + d ≡ from + suc d = omega arith in
      let first : taken from ≡ true = ap taken same ∙ all 0 (omega arith) in
      let rest : least_free taken more (from + 1) ≡ from + 1 + d =
      free_at d more (from + 1) (omega (arith, few)) (ap taken last ∙ free) (λ i low. let at_ : from + 1 + i ≡ from + (i + 1) = omega arith in ap taken at_ ∙ all (i + 1) (omega (arith, low))) in
      rw first (rest ∙ last)

  not_both : (b : Bool) → b ≡ true → b ≡ false → ⊥
  not_both true t f = cc (f)
  not_both false t f = cc (t)

  -- keys that go round have a free one within the first round, if they have one
  within_round : (from key : ℕ) → ((k : ℕ) → taken (k + KEYS) ≡ taken k) → IsLeastFree taken from key → key - from ≤ KEYS
  within_round from key round l = go (nat_lt KEYS (key - from)) refl
    where
      go : (b : Bool) → nat_lt KEYS (key - from) ≡ b → key - from ≤ KEYS
      go true e =
          let far = (Decides-ltb KEYS (key - from)).0 e in
          let before : key - KEYS + KEYS ≡ key = omega (arith, far) in
          absurd (not_both (taken key) (ap taken (sym before) ∙ (round (key - KEYS) ∙ l.least (key - KEYS) (omega (arith, far)) (omega (arith, far)))) l.free)
      go false e = grind (arith, nat_tests, e)

  found : (from key : ℕ) → ((k : ℕ) → taken (k + KEYS) ≡ taken k) → IsLeastFree taken from key → least_free taken KEYS from ≡ key
  found from key round l =
      let above = l.above in
      let there : from + (key - from) ≡ key = omega (arith, above) in
      free_at (key - from) KEYS from (within_round from key round l) (ap taken there ∙ l.free) (λ i low. l.least (from + i) (omega arith) (omega (arith, low))) ∙ there

  keys_are : (from : ℕ) (keys : List ℕ) → ((k : ℕ) → taken (k + KEYS) ≡ taken k) → AreKeys taken from keys → keys ≡ keys_from taken from (length keys)
  unfolding AreKeys keys_from
  keys_are from [] round are = refl
  keys_are from (key ∷ keys) round are =
      let same = sym (found from key round are.0) in
      ap (λ l. key ∷ l) (keys_are (key + 1) keys round are.1) ∙ (λ i. same i ∷ keys_from taken (same i + 1) (length keys))

-- the message is the one that is said
pub message_is : (run : ℕ) (d : Drafted) (givens : List Given) (message : List ℕ) → IsComposed d.fields d.items givens run message → message ≡ composed run d givens
unfolding composed
message_is run d givens message c =
    let keys : c.keys ≡ keys_of run d.items givens =
    keys_are (takes_any run (all_nodes d.items givens)) 0 c.keys (taken_round run d.items givens) c.are_keys ∙ ap (keys_from (takes_any run (all_nodes d.items givens)) 0) c.are_all in
    c.is_written ∙ ap (λ l. opened d.fields ++ written run [] (flags_of (all_nodes d.items givens)) l (all_nodes d.items givens)) keys

pub if_message : {E : Type 0} (r : Result (List ℕ) E) (run : ℕ) (d : Drafted) (givens : List Given) → IfOk r (λ m. IsComposed d.fields d.items givens run m) → IfOk r (λ m. m ≡ composed run d givens)
if_message (Ok m) run d givens c = message_is run d givens m c
if_message (Err e) run d givens c = tt
