-- Numbers of which none stands twice, and their names.
use Rattle.std.proofs.Common.{◌≡◌, ℕ, ◌+◌, ◌==◌, ◌||◌, Bool, true, false, List, [], ◌∷◌, ◌++◌, reverse, refl, sym, ◌∙◌, ap, subst, arith, bytes_eq}
use Rattle.std.specs.Prelude.{decimal, Result, Ok, Err}
use Rattle.std.specs.List.{list_any}
use Rattle.std.proofs.lemmas.Bool.Decides.{Decides-eqb, nat_tests}
use Rattle.std.proofs.lemmas.Slice.Eq.{bytes_eq-Decides}
use Rattle.std.proofs.lemmas.List.{reverse-append}
use Rattle.std.proofs.lemmas.List.Folds.{list_any-append}
use Rattle.mh_base.specs.Entries.{kind_of}
use Rattle.mh_base.specs.Numbers.{IsMsgNum}
use Rattle.mh_base.specs.declared.entry.Entry.TheVariants.{Number}
use Rattle.mh_sequences.specs.Runs.{numbers_of}
use Rattle.msg_ranges.specs.Selected.{every_number, united, all_united, designated, selected}
use Rattle.msg_ranges.specs.Selecting.{Folder}
use Rattle.msg_ranges.specs.declared.fault.SelectFault.{SelectFault}
use Rattle.msg_ranges.proofs.Rising.{lists, Rise, none_below, rise_filter, rise_runs}
use Rattle.msg_ranges.proofs.Selected.{every_runs}
use Rattle.file_plans.proofs.Showing.{number_kind}
use Rattle.mh_looks.specs.Scan.{ordered}

-- no number stands twice
abbrev pub AreApart : List ℕ → Type 0
AreApart [] = Unit {0}
AreApart (n ∷ ns) = (lists ns n ≡ false) × AreApart ns

pub rising_apart : (low : ℕ) (ns : List ℕ) → Rise low ns → AreApart ns
rising_apart low [] up = tt
rising_apart low (n ∷ ns) up = (none_below (n + 1) ns up.1 n (omega arith), rising_apart (n + 1) ns up.1)

number_apart : (n m : ℕ) → Number n ≡ Number m → n ≡ m
number_apart n m e = cc (e)

-- other numbers have other names
pub names_apart : (n m : ℕ) → IsMsgNum n → IsMsgNum m → (n == m) ≡ false → bytes_eq (decimal n) (decimal m) ≡ false
names_apart n m p q e = go (bytes_eq (decimal n) (decimal m)) refl
  where
    no : {X : Type 0} (b : Bool) → b ≡ true → b ≡ false → X
    no true t f = cc
    no false t f = cc

    go : (b : Bool) → bytes_eq (decimal n) (decimal m) ≡ b → b ≡ false
    go true t =
        let same : decimal n ≡ decimal m = (bytes_eq-Decides (decimal n) (decimal m)).0 t in
        let is : n ≡ m = number_apart n m (sym (number_kind n p) ∙ ap kind_of same ∙ number_kind m q) in
        no (n == m) ((Decides-eqb n m).1 is) e
    go false t = refl

or_swap : (a b : Bool) → a || (b || false) ≡ b || a
or_swap true true = refl
or_swap true false = refl
or_swap false true = refl
or_swap false false = refl

same_or_not : (n m : ℕ) → (m == n) ≡ (n == m)
same_or_not n m = let e : (m == n) ≡ (n == m) = grind (arith, nat_tests) in e

reversed : (n : ℕ) (ns : List ℕ) → reverse (n ∷ ns) ≡ reverse ns ++ n ∷ []
reversed n ns = reverse-append (n ∷ []) ns

pub lists_reverse : (ns : List ℕ) (m : ℕ) → lists (reverse ns) m ≡ lists ns m
lists_reverse [] m = refl
lists_reverse (n ∷ ns) m =
    ap (λ l. lists l m) (reversed n ns) ∙ list_any-append (λ x. x == m) (reverse ns) (n ∷ []) ∙ or_swap (lists (reverse ns) m) (n == m) ∙ ap (λ b. (n == m) || b) (lists_reverse ns m)

apart_last : (ns : List ℕ) (m : ℕ) → AreApart ns → lists ns m ≡ false → AreApart (ns ++ m ∷ [])
apart_last [] m apart none = (refl, tt)
apart_last (n ∷ ns) m apart none =
    let both = or_both (n == m) (lists ns m) none in
    (list_any-append (λ x. x == n) ns (m ∷ []) ∙ neither (lists ns n) (m == n) apart.0 (same_or_not n m ∙ both.0), apart_last ns m apart.1 both.1)
  where
    or_both : (a b : Bool) → a || b ≡ false → (a ≡ false) × (b ≡ false)
    or_both true b e = cc
    or_both false b e = (refl, e)

    neither : (a b : Bool) → a ≡ false → b ≡ false → a || (b || false) ≡ false
    neither true b e f = cc
    neither false true e f = cc
    neither false false e f = refl

apart_reverse : (ns : List ℕ) → AreApart ns → AreApart (reverse ns)
apart_reverse [] apart = tt
apart_reverse (n ∷ ns) apart = rw (reversed n ns) (apart_last (reverse ns) n (apart_reverse ns apart.1) (lists_reverse ns n ∙ apart.0))

-- in whichever order
pub apart_ordered : (b : Bool) (ns : List ℕ) → AreApart ns → AreApart (ordered b ns)
apart_ordered true ns apart = apart_reverse ns apart
apart_ordered false ns apart = apart

pub lists_ordered : (b : Bool) (ns : List ℕ) (m : ℕ) → lists (ordered b ns) m ≡ lists ns m
lists_ordered true ns m = lists_reverse ns m
lists_ordered false ns m = refl

united_apart : (sets : List (List ℕ)) → AreApart (united sets)
united_apart sets = rising_apart 1 (united sets) (rise_filter (λ n. list_any (λ xs. list_any (λ x. x == n) xs) sets) 1 (numbers_of every_number) (rise_runs 1 every_number every_runs))

-- and what words select
pub selected_apart : (f : Folder) (words : List (List ℕ)) (numbers : List ℕ) → selected f words ≡ Ok numbers → AreApart numbers
selected_apart f words numbers is = go (designated f 0 words) is
  where
    go : (r : Result (List (List ℕ)) SelectFault) → all_united r ≡ Ok numbers → AreApart numbers
    go (Ok sets) is = let same : united sets ≡ numbers = cc in subst AreApart same (united_apart sets)
    go (Err e) is = cc
