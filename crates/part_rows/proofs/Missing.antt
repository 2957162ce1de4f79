-- The first of several paths that is missing.
use Rattle.std.proofs.Common.{◌≡◌, ◌<◌, ◌+◌, ℕ, suc, Bool, true, false, cond, Option, Some, None, List, ◌∷◌, length, drop, get_or, refl, ap, sym, ◌∙◌, add-one}
use Rattle.std.specs.Prelude.{is_none, is_some, not, MatchOption}
use Rattle.std.proofs.Math.Seq.{drop-cons}
use Rattle.mime_tree.specs.declared.part.Part.{Part}
use Rattle.part_rows.specs.Choices.{first_missing, is_missing}
use Rattle.part_rows.specs.PartViews.{PartView}

next : (paths : List (List ℕ)) (i : ℕ) (path : List ℕ) → i < length paths → path ≡ get_or paths i path → drop i paths ≡ path ∷ drop (i + 1) paths
next paths i path lt is = rw (add-one, drop-cons paths i path) (ap (λ p. p ∷ drop (suc i) paths) (sym is))

first_by : (parts : List PartView) (paths : List (List ℕ)) (i : ℕ) (path : List ℕ) (t : Bool) → i < length paths → path ≡ get_or paths i path → is_missing parts path ≡ t
    → first_missing (drop i paths) parts ≡ cond t (Some path) (first_missing (drop (i + 1) paths) parts)
first_by parts paths i path t lt is e = ap (λ ps. first_missing ps parts) (next paths i path lt is) ∙ ap (λ b. cond b (Some path) (first_missing (drop (i + 1) paths) parts)) e

pub missing_here : (parts : List PartView) (paths : List (List ℕ)) (i : ℕ) (path : List ℕ) (first : Option (List ℕ)) → i < length paths → path ≡ get_or paths i path → is_missing parts path ≡ true
    → first_missing (drop i paths) parts ≡ first → first ≡ Some path
missing_here parts paths i path first lt is e was = sym was ∙ first_by parts paths i path true lt is e

pub missing_later : (parts : List PartView) (paths : List (List ℕ)) (i : ℕ) (path : List ℕ) (first : Option (List ℕ)) → i < length paths → path ≡ get_or paths i path → is_missing parts path ≡ false
    → first_missing (drop i paths) parts ≡ first → first_missing (drop (i + 1) paths) parts ≡ first
missing_later parts paths i path first lt is e was = sym (first_by parts paths i path false lt is e) ∙ was

not_both : (r : Bool) → not (not r) ≡ r
not_both true = refl
not_both false = refl

-- whether there is none, where a part or none is found
pub none_found : {X : Type 0} (now : X → Part) (o : Option X) (r : Bool) (found : Option Part) → MatchOption o (found ≡ None) (λ x. found ≡ Some (now x)) → is_some o ≡ not r → is_none found ≡ r
none_found now None r found m e = ap is_none m ∙ ap not e ∙ not_both r
none_found now (Some x) r found m e = ap is_none m ∙ ap not e ∙ not_both r
