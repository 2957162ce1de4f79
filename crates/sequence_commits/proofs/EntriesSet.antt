-- Entries set one after another, and what is found among them.
use Rattle.std.proofs.Common.{◌≡◌, ℕ, zero, suc, ◌+◌, ◌<◌, ◌≤◌, Bool, true, false, Option, Some, None, List, [], ◌∷◌, length, take, get_or, filter, refl, sym, ◌∙◌, ap, subst, arith, add-one}
use Rattle.std.specs.Prelude.{◌||◌, if◌then◌else◌}
use Rattle.std.specs.List.{All}
use Rattle.mh_profile.specs.declared.named_value.NamedValue.{NamedValue}
use Rattle.mh_profile.specs.Changes.{value_of, with_entry}
use Rattle.mh_profile.specs.Names.{same_entry}
use Rattle.mh_profile.specs.Validity.{IsEntry, has_name}
use Rattle.mh_profile.proofs.Keys.{same_sym, same_as}
use Rattle.mh_sequences.proofs.Bools.{or_swap, or_group, or_nothing}
use Rattle.sequence_commits.specs.FolderEntries.{set_all}

-- a name that is found
pub none_found : (name : List ℕ) (es : List NamedValue) → value_of name es ≡ None → has_name name es ≡ false
none_found name [] e = refl
none_found name (x ∷ xs) e = by (same_entry name x.name) e (none_found name xs)
  where
    by : (b : Bool) → (if b then Some x.value else value_of name xs) ≡ None → (value_of name xs ≡ None → has_name name xs ≡ false) → b || has_name name xs ≡ false
    by true e ih = cc
    by false e ih = ih e

pub one_found : (name value : List ℕ) (es : List NamedValue) → value_of name es ≡ Some value → has_name name es ≡ true
one_found name value [] e = cc
one_found name value (x ∷ xs) e = by (same_entry name x.name) e (one_found name value xs)
  where
    by : (b : Bool) → (if b then Some x.value else value_of name xs) ≡ Some value → (value_of name xs ≡ Some value → has_name name xs ≡ true) → b || has_name name xs ≡ true
    by true e ih = refl
    by false e ih = ih e

pub has_set : (name key value : List ℕ) (es : List NamedValue) → has_name name (with_entry key value es) ≡ same_entry name key || has_name name es
has_set name key value [] = refl
has_set name key value (x ∷ xs) = by (same_entry key x.name) refl (has_set name key value xs)
  where
    again : (a b : Bool) → a || b ≡ a || (a || b)
    again true b = refl
    again false b = refl

    by : (b : Bool) → same_entry key x.name ≡ b → has_name name (with_entry key value xs) ≡ same_entry name key || has_name name xs
        → has_name name (if b then record { name = x.name; value = value } ∷ xs else x ∷ with_entry key value xs) ≡ same_entry name key || (same_entry name x.name || has_name name xs)
    by true e ih =
        let alike : same_entry name key ≡ same_entry name x.name = same_sym name key ∙ same_as key x.name name e ∙ same_sym x.name name in
        again (same_entry name x.name) (has_name name xs) ∙ ap (λ z. z || (same_entry name x.name || has_name name xs)) (sym alike)
    by false e ih = ap (λ z. same_entry name x.name || z) ih ∙ or_swap (same_entry name x.name) (same_entry name key) (has_name name xs)

has_set_all : (name : List ℕ) (es base : List NamedValue) → has_name name (set_all es base) ≡ has_name name es || has_name name base
unfolding set_all
has_set_all name [] base = refl
has_set_all name (x ∷ xs) base =
    has_set_all name xs (with_entry x.name x.value base)
    ∙ ap (λ z. has_name name xs || z) (has_set name x.name x.value base)
    ∙ or_swap (has_name name xs) (same_entry name x.name) (has_name name base)
    ∙ sym (or_group (same_entry name x.name) (has_name name xs) (has_name name base))

-- entries that were set have just the names of those that were given
pub set_names : (name : List ℕ) (es : List NamedValue) → has_name name (set_all es []) ≡ has_name name es
set_names name es = has_set_all name es [] ∙ or_nothing (has_name name es)

one_more : (es : List NamedValue) (i : ℕ) (e : NamedValue) (base : List NamedValue) → i < length es → e ≡ get_or es i e → with_entry e.name e.value (set_all (take i es) base) ≡ set_all (take (suc i) es) base
unfolding set_all
one_more [] i e base lt is = absurd (omega arith)
one_more (x ∷ xs) zero e base lt is = ap (λ (y : NamedValue). with_entry y.name y.value base) is
one_more (x ∷ xs) (suc i) e base lt is = one_more xs i e (with_entry x.name x.value base) (omega arith) is

-- one more is set
pub more_set : (es : List NamedValue) (i : ℕ) (e : NamedValue) (now new : List NamedValue) → i < length es → e ≡ get_or es i e → new ≡ with_entry e.name e.value now → now ≡ set_all (take i es) [] → new ≡ set_all (take (i + 1) es) []
more_set es i e now new lt is made was = rw add-one (made ∙ ap (with_entry e.name e.value) was ∙ one_more es i e [] lt is)

pub none_set : (es : List NamedValue) → [] ≡ set_all (take 0 es) []
unfolding set_all
none_set es = refl

whole : (es : List NamedValue) (i : ℕ) → length es ≤ i → take i es ≡ es
whole [] zero le = refl
whole [] (suc i) le = refl
whole (x ∷ xs) zero le = absurd (omega arith)
whole (x ∷ xs) (suc i) le = ap (λ l. x ∷ l) (whole xs i (omega arith))

-- all are set
pub all_set : (es : List NamedValue) (i : ℕ) (now : List NamedValue) → length es ≤ i → now ≡ set_all (take i es) [] → now ≡ set_all es []
all_set es i now le was = was ∙ ap (λ l. set_all l []) (whole es i le)

-- each of them is an entry
pub each_entry : (es : List NamedValue) (i : ℕ) (e : NamedValue) → All IsEntry es → i < length es → e ≡ get_or es i e → IsEntry e
each_entry es i e all lt is = subst IsEntry (sym is) (all i e lt)

-- tests that agree choose the same
pub filter_same : {X : Type 0} (p q : X → Bool) → ((x : X) → p x ≡ q x) → (xs : List X) → filter p xs ≡ filter q xs
filter_same p q same [] = refl
filter_same p q same (x ∷ xs) = by (p x) (q x) (same x) (filter_same p q same xs)
  where
    by : (a b : Bool) → a ≡ b → filter p xs ≡ filter q xs → Rattle.std.proofs.Common.cond a (x ∷ filter p xs) (filter p xs) ≡ Rattle.std.proofs.Common.cond b (x ∷ filter q xs) (filter q xs)
    by true true e ih = ap (λ l. x ∷ l) ih
    by true false e ih = cc
    by false true e ih = cc
    by false false e ih = ih
