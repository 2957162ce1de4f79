-- Names of fields in a set.
use Rattle.std.proofs.Common.{◌≡◌, ℕ, Bool, true, false, List, [], ◌∷◌, Vec, Global, refl, sym, ◌∙◌, ap}
use Rattle.std.specs.Prelude.{bytes_eq, ◌||◌}
use Rattle.std.specs.List.{list_any}
use Rattle.std.specs.Ordering.{match_ordering, nat_cmp}
use Rattle.std.specs.declared.cmp.Ordering.{Ordering}
use Rattle.std.specs.declared.cmp.Ordering.TheVariants.{Less, Equal, Greater}
use Rattle.std.specs.Cmp.Lexicographic.{slice_cmp}
use Rattle.std.specs.BTreeMap.{is_at}
use Rattle.std.specs.BTreeSet.{insert_key}
use Rattle.std.proofs.lemmas.Map.Text.{is_eq-slice_cmp}
use Rattle.mail_headers.specs.Fields.{FieldText}
use Rattle.mh_sequences.specs.FieldNames.{is_name_in}
use Rattle.mh_sequences.specs.Reading.{has_field}
use Rattle.mh_sequences.proofs.Bools.{or_group, or_swap}
use Rattle.mh_sequences.proofs.Mentioning.{same_turned}
use Rattle.mh_sequences.proofs.NamePlaces.{same_by, same_is}

abbrev pub by_bytes : Vec ℕ Global → Vec ℕ Global → Ordering
by_bytes x y = slice_cmp nat_cmp x.items y.items

abbrev is_in : List ℕ → List (Vec ℕ Global) → Bool
is_in name ks = list_any (is_at (λ k. slice_cmp nat_cmp name k.items)) ks

same_key : (name : List ℕ) (k : Vec ℕ Global) → is_at (λ x. slice_cmp nat_cmp name x.items) k ≡ bytes_eq k.items name
same_key name k = is_eq-slice_cmp name k.items ∙ same_turned name k.items

or_self : (a b : Bool) → a || b ≡ a || (a || b)
or_self true b = refl
or_self false b = refl

inserted : (name : List ℕ) (ks : List (Vec ℕ Global)) (k : Vec ℕ Global) → is_in name (insert_key by_bytes ks k) ≡ bytes_eq k.items name || is_in name ks
inserted name [] k = ap (λ b. b || false) (same_key name k)
inserted name (x ∷ xs) k = by (by_bytes k x) refl (inserted name xs k)
  where
    by : (o : Ordering) → by_bytes k x ≡ o → is_in name (insert_key by_bytes xs k) ≡ bytes_eq k.items name || is_in name xs → is_in name (match_ordering o (k ∷ x ∷ xs) (x ∷ xs) (x ∷ insert_key by_bytes xs k)) ≡ bytes_eq k.items name || is_in name (x ∷ xs)
    by Less e more = ap (λ b. b || is_in name (x ∷ xs)) (same_key name k)
    by Equal e more =
        let same : k.items ≡ x.items = same_is k.items x.items (same_by k.items x.items Equal e) in
        let one : is_at (λ y. slice_cmp nat_cmp name y.items) x ≡ bytes_eq k.items name = same_key name x ∙ ap (λ i. bytes_eq i name) (sym same) in
        ap (λ b. b || is_in name xs) one ∙ or_self (bytes_eq k.items name) (is_in name xs) ∙ ap (λ b. bytes_eq k.items name || (b || is_in name xs)) (sym one)
    by Greater e more = ap (λ b. is_at (λ y. slice_cmp nat_cmp name y.items) x || b) more ∙ or_swap (is_at (λ y. slice_cmp nat_cmp name y.items) x) (bytes_eq k.items name) (is_in name xs)

-- one field more was taken
pub name_more : (name : List ℕ) (old new : List (Vec ℕ Global)) (k : Vec ℕ Global) (f : FieldText) (rest all : List FieldText) → new ≡ insert_key by_bytes old k → k.items ≡ f.name → is_name_in (record { names = record { keys = old } }) name || has_field (f ∷ rest) name ≡ has_field all name → is_name_in (record { names = record { keys = new } }) name || has_field rest name ≡ has_field all name
name_more name old new k f rest all put same is =
    ap (λ b. b || has_field rest name) (ap (is_in name) put ∙ inserted name old k ∙ ap (λ i. bytes_eq i name || is_in name old) same)
    ∙ or_group (bytes_eq f.name name) (is_in name old) (has_field rest name)
    ∙ or_swap (bytes_eq f.name name) (is_in name old) (has_field rest name)
    ∙ is
