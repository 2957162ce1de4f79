-- Keys that lines take.
use Rattle.std.proofs.Common.{is_eq, ◌≡◌, ℕ, ◌+◌, Bool, true, false, List, [], ◌∷◌, ◌++◌, length, Vec, Global, refl, sym, ◌∙◌, ap, arith, append_assoc, append-nil}
use Rattle.std.specs.Prelude.{bytes_eq, ◌||◌}
use Rattle.std.specs.List.{list_any}
use Rattle.std.specs.Ordering.{match_ordering, nat_cmp}
use Rattle.std.specs.declared.cmp.Ordering.{Ordering}
use Rattle.std.specs.declared.cmp.Ordering.TheVariants.{Less, Equal, Greater}
use Rattle.std.specs.Cmp.Lexicographic.{slice_cmp}
use Rattle.std.specs.BTreeMap.{is_at}
use Rattle.std.specs.BTreeSet.{insert_key}
use Rattle.std.proofs.lemmas.Map.Text.{is_eq-slice_cmp}
use Rattle.std.proofs.lemmas.Slice.Eq.{bytes_eq-Decides}
use Rattle.mh_base.specs.Numbers.{hex}
use Rattle.mhbuild_compose.specs.declared.keys.Keys.{Keys}
use Rattle.mhbuild_compose.specs.declared.node.Node.{Node}
use Rattle.mhbuild_compose.specs.Keys.{AreKeys, IsLeastFree, hyphened, node_takes, takes_any}
use Rattle.mhbuild_compose.specs.KeySets.{has_digits}

abbrev pub by_bytes : Vec ℕ Global → Vec ℕ Global → Ordering
by_bytes x y = slice_cmp nat_cmp x.items y.items

abbrev is_in : List ℕ → List (Vec ℕ Global) → Bool
is_in d ks = list_any (is_at (λ k. slice_cmp nat_cmp d k.items)) ks

same_key : (d : List ℕ) (k : Vec ℕ Global) → is_at (λ x. slice_cmp nat_cmp d x.items) k ≡ bytes_eq d k.items
same_key d k = is_eq-slice_cmp d k.items

or_swap : (a b : Bool) → a || b ≡ b || a
or_swap true true = refl
or_swap true false = refl
or_swap false true = refl
or_swap false false = refl

or_self : (a b : Bool) → a || b ≡ (a || b) || a
or_self true b = refl
or_self false true = refl
or_self false false = refl

or_group : (a b c : Bool) → a || (b || c) ≡ (a || b) || c
or_group true b c = refl
or_group false b c = refl

equal_items : (k x : List ℕ) → slice_cmp nat_cmp k x ≡ Equal → k ≡ x
equal_items k x e = (bytes_eq-Decides k x).0 (sym (is_eq-slice_cmp k x) ∙ ap is_eq e)

inserted : (d : List ℕ) (ks : List (Vec ℕ Global)) (k : Vec ℕ Global) → is_in d (insert_key by_bytes ks k) ≡ is_in d ks || bytes_eq d k.items
inserted d [] k = or_swap (is_at (λ x. slice_cmp nat_cmp d x.items) k) false ∙ ap (λ b. false || b) (same_key d k)
inserted d (x ∷ xs) k = by (by_bytes k x) refl (inserted d xs k)
  where
    by : (o : Ordering) → by_bytes k x ≡ o → is_in d (insert_key by_bytes xs k) ≡ is_in d xs || bytes_eq d k.items → is_in d (match_ordering o (k ∷ x ∷ xs) (x ∷ xs) (x ∷ insert_key by_bytes xs k)) ≡ is_in d (x ∷ xs) || bytes_eq d k.items
    by Less e more = or_swap (is_at (λ y. slice_cmp nat_cmp d y.items) k) (is_in d (x ∷ xs)) ∙ ap (λ b. is_in d (x ∷ xs) || b) (same_key d k)
    by Equal e more =
        let same : k.items ≡ x.items = equal_items k.items x.items e in
        let one : is_at (λ y. slice_cmp nat_cmp d y.items) x ≡ bytes_eq d k.items = same_key d x ∙ ap (bytes_eq d) (sym same) in
        or_self (is_at (λ y. slice_cmp nat_cmp d y.items) x) (is_in d xs) ∙ ap (λ b. is_in d (x ∷ xs) || b) one
    by Greater e more = ap (λ b. is_at (λ y. slice_cmp nat_cmp d y.items) x || b) more ∙ or_group (is_at (λ y. slice_cmp nat_cmp d y.items) x) (is_in d xs) (bytes_eq d k.items)

pub digits_more : (d digits : List ℕ) (old new : List (Vec ℕ Global)) (k : Vec ℕ Global) → new ≡ insert_key by_bytes old k → k.items ≡ digits → is_in d new ≡ is_in d old || bytes_eq d digits
digits_more d digits old new k put same = ap (is_in d) put ∙ inserted d old k ∙ ap (λ i. is_in d old || bytes_eq d i) same

-- what the code keeps tells what the lines take
pub least_same : (kept taken : ℕ → Bool) (from key : ℕ) → ((k : ℕ) → kept k ≡ taken k) → IsLeastFree kept from key → IsLeastFree taken from key
least_same kept taken from key same l = record { above = l.above; free = sym (same key) ∙ l.free; least = λ k a b. sym (same k) ∙ l.least k a b }

pub kept_is : (keys : Keys) (mark : List ℕ) (run : ℕ) (nodes : List Node) → mark ≡ hyphened run → ((d : List ℕ) → has_digits keys d ≡ list_any (node_takes mark d) nodes) → (k : ℕ) → has_digits keys (hex 16 k) ≡ takes_any run nodes k
kept_is keys mark run nodes m has k = has (hex 16 k) ∙ ap (λ x. list_any (node_takes x (hex 16 k)) nodes) m

-- whatever keys come next, they follow these
pub record Chosen (taken : ℕ → Bool) (from count i : ℕ) (keys : List ℕ) : Type 0 where
  pub follow : (rest : List ℕ) → AreKeys taken from rest → AreKeys taken 0 (keys ++ rest)
  pub all : length keys ≡ i

pub none_chosen : (taken : ℕ → Bool) (count : ℕ) (keys : List ℕ) → keys ≡ [] → Chosen taken 0 count 0 keys
none_chosen taken count keys e = rw e (record { follow = λ rest are. are; all = refl })

more_keys : (taken : ℕ → Bool) (from key : ℕ) (keys : List ℕ) → IsLeastFree taken from key → AreKeys taken (key + 1) keys → AreKeys taken from (key ∷ keys)
unfolding AreKeys
more_keys taken from key keys l are = (l, are)

one_longer : (keys : List ℕ) (key : ℕ) → length (keys ++ key ∷ []) ≡ length keys + 1
one_longer [] key = refl
one_longer (k ∷ keys) key = let more = one_longer keys key in omega arith

pub one_chosen : (taken : ℕ → Bool) (from count i key : ℕ) (keys new : List ℕ) → IsLeastFree taken from key → new ≡ keys ++ key ∷ [] → Chosen taken from count i keys → Chosen taken (key + 1) count (i + 1) new
one_chosen taken from count i key keys new l put c =
    let size = one_longer keys key in
    let all = c.all in
    rw put (record {
      follow = λ rest are. rw (append_assoc keys (key ∷ []) rest) (c.follow (key ∷ rest) (more_keys taken from key rest l are));
      all = omega arith;
    })

no_keys : (taken : ℕ → Bool) (from : ℕ) → AreKeys taken from []
unfolding AreKeys
no_keys taken from = tt

pub all_chosen : (taken : ℕ → Bool) (from count i : ℕ) (keys : List ℕ) → Chosen taken from count i keys → AreKeys taken 0 keys
all_chosen taken from count i keys c = rw (append-nil keys) at (c.follow [] (no_keys taken from))
