-- The changes that write a folder's private sequences, one after another.
use Rattle.std.proofs.Common.{◌≡◌, ℕ, zero, suc, ◌+◌, ◌<◌, ◌≤◌, Bool, true, false, Option, Some, None, List, [], ◌∷◌, ◌++◌, length, map, take, get_or, filter, refl, sym, ◌∙◌, ap, subst, arith, add-one, append_assoc}
use Rattle.std.specs.Prelude.{◌&&◌, not, slice_get, is_some, MatchOption, Result, Ok, Err, IfOk}
use Rattle.std.specs.Borrow.{Bor}
use Rattle.std.specs.List.{All}
use Rattle.std.proofs.lemmas.List.{map-append}
use Rattle.std.proofs.lemmas.List.Elements.{filter-append}
use Rattle.mh_profile.specs.declared.named_value.NamedValue.{NamedValue}
use Rattle.mh_profile.specs.Changes.{value_of}
use Rattle.mh_profile.specs.Validity.{IsEntry, has_name}
use Rattle.step_plans.specs.ContextCommit.{AreChanges}
use Rattle.step_plans.specs.declared.change.ChangeEntry.{ChangeEntry}
use Rattle.sequence_commits.specs.FolderEntries.{is_of_folder, set_all}
use Rattle.sequence_commits.specs.PrivateChanges.{changes_to, entry_names, given, gone, is_left_over}
use Rattle.sequence_commits.proofs.EntriesSet.{none_found, one_found, set_names, filter_same}

-- the first so many items and one more
taken : {X : Type 0} (xs : List X) (i : ℕ) (x : X) → i < length xs → x ≡ get_or xs i x → take (suc i) xs ≡ take i xs ++ x ∷ []
taken [] i x lt is = absurd (omega arith)
taken (y ∷ ys) zero x lt is = ap (λ z. z ∷ []) (sym is)
taken (y ∷ ys) (suc i) x lt is = ap (λ l. y ∷ l) (taken ys i x (omega arith) is)

whole : {X : Type 0} (xs : List X) (i : ℕ) → length xs ≤ i → take i xs ≡ xs
whole [] zero le = refl
whole [] (suc i) le = refl
whole (x ∷ xs) zero le = absurd (omega arith)
whole (x ∷ xs) (suc i) le = ap (λ l. x ∷ l) (whole xs i (omega arith))

-- one more gets its value
pub more_given : (es : List NamedValue) (i : ℕ) (e : NamedValue) (start now new : List ChangeEntry) → i < length es → e ≡ get_or es i e → new ≡ now ++ given e ∷ [] → now ≡ start ++ map given (take i es) → new ≡ start ++ map given (take (i + 1) es)
more_given es i e start now new lt is made was =
    rw add-one (made ∙ ap (λ l. l ++ given e ∷ []) was ∙ append_assoc start (map given (take i es)) (given e ∷ [])
    ∙ ap (λ l. start ++ l) (sym (ap (map given) (taken es i e lt is) ∙ map-append given (take i es) (e ∷ []))))

pub all_given : (es : List NamedValue) (i : ℕ) (start now : List ChangeEntry) → length es ≤ i → now ≡ start ++ map given (take i es) → now ≡ start ++ map given es
all_given es i start now le was = was ∙ ap (λ l. start ++ map given l) (whole es i le)

-- whether a name is left over
pub left_unless : (ending : List ℕ) (kept : List NamedValue) (name : List ℕ) (b n : Bool) (found : Option (Bor (List ℕ))) → b ≡ is_of_folder ending name → b ≡ true
    → MatchOption found (value_of name kept ≡ None) (λ v. value_of name kept ≡ Some v.now) → is_some found ≡ not n → n ≡ is_left_over ending kept name
left_unless ending kept name b n None is t h e = turned n e ∙ sym (λ i. (sym is ∙ t) i && not (none_found name kept h i))
  where
    turned : (x : Bool) → false ≡ not x → x ≡ true
    turned true f = refl
    turned false f = cc
left_unless ending kept name b n (Some v) is t h e = turned n e ∙ sym (λ i. (sym is ∙ t) i && not (one_found name v.now kept h i))
  where
    turned : (x : Bool) → true ≡ not x → x ≡ false
    turned true f = cc
    turned false f = refl

got : (names : List (List ℕ)) (i : ℕ) (name : List ℕ) → slice_get names i ≡ Some name → (i < length names) × (name ≡ get_or names i name)
got [] i name at = cc
got (x ∷ xs) zero name at = let same : x ≡ name = cc in (omega arith, sym same)
got (x ∷ xs) (suc i) name at = let rest = got xs i name at in (omega (arith, rest.0), rest.1)

-- one more name goes, or stays
pub more_gone : (p : List ℕ → Bool) (names : List (List ℕ)) (i : ℕ) (start now new : List ChangeEntry)
    → (name : List ℕ) × (slice_get names i ≡ Some name) × (new ≡ now ++ map gone (filter p (name ∷ []))) → now ≡ start ++ map gone (filter p (take i names)) → new ≡ start ++ map gone (filter p (take (i + 1) names))
more_gone p names i start now new step was =
    let at = got names i step.0 step.1 in
    let more : filter p (take (suc i) names) ≡ filter p (take i names) ++ filter p (step.0 ∷ []) = ap (filter p) (taken names i step.0 at.0 at.1) ∙ filter-append p (take i names) (step.0 ∷ []) in
    rw add-one (step.2 ∙ ap (λ l. l ++ map gone (filter p (step.0 ∷ []))) was ∙ append_assoc start (map gone (filter p (take i names))) (map gone (filter p (step.0 ∷ [])))
    ∙ ap (λ l. start ++ l) (sym (ap (map gone) more ∙ map-append gone (filter p (take i names)) (filter p (step.0 ∷ [])))))

-- they all together
pub together : (ending : List ℕ) (kept seen : List NamedValue) (found : List NamedValue) (start given_all new : List ChangeEntry) → found ≡ set_all kept [] → start ≡ [] → given_all ≡ start ++ map given kept
    → new ≡ given_all ++ map gone (filter (is_left_over ending found) (entry_names seen)) → new ≡ changes_to ending kept seen
unfolding changes_to
together ending kept seen found start given_all new is empty puts made =
    made ∙ ap (λ l. l ++ map gone (filter (is_left_over ending found) (entry_names seen))) (puts ∙ ap (λ l. l ++ map given kept) empty)
    ∙ ap (λ l. map given kept ++ map gone l) (filter_same (is_left_over ending found) (is_left_over ending kept) (λ name. ap (λ b. is_of_folder ending name && not b) (ap (has_name name) is ∙ set_names name kept)) (entry_names seen))

-- each of them can be made
gone_changes : (names : List (List ℕ)) → AreChanges (map gone names)
gone_changes [] = tt
gone_changes (n ∷ ns) = (tt, gone_changes ns)

given_changes : (kept : List NamedValue) (rest : List ChangeEntry) → All IsEntry kept → AreChanges rest → AreChanges (map given kept ++ rest)
given_changes [] rest all more = more
given_changes (e ∷ es) rest all more =
    let first : IsEntry e = all 0 e (omega arith) in
    ((first.name, first.value), given_changes es rest (λ k d lt. all (suc k) d (omega arith)) more)

pub are_changes : (ending : List ℕ) (kept seen : List NamedValue) → All IsEntry kept → AreChanges (changes_to ending kept seen)
unfolding changes_to
are_changes ending kept seen all = given_changes kept (map gone (filter (is_left_over ending kept) (entry_names seen))) all (gone_changes (filter (is_left_over ending kept) (entry_names seen)))

-- what holds of a value holds of a result that is it
pub holds_of : {A E : Type 0} (P : A → Type 0) (a : A) (r : Result A E) → P a → IfOk r (λ x. x ≡ a) → IfOk r P
holds_of P a (Ok x) h e = subst P (sym e) h
holds_of P a (Err e) h is = tt
