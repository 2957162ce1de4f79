-- Wrong lines, from the last line to the first.
use Rattle.std.proofs.Common.{◌≡◌, ℕ, ◌+◌, ◌<◌, ◌≤◌, Bool, true, false, Option, Some, None, List, [], ◌∷◌, length, get_or, drop, refl, sym, ◌∙◌, ap, arith, add-one}
use Rattle.std.specs.Prelude.{option_map, if◌then◌else◌, MatchOption, ⊤}
use Rattle.std.proofs.Math.Seq.{drop-cons}
use Rattle.std.proofs.lemmas.List.{drop_all}
use Rattle.mh_drafts.specs.declared.sign.Sign.{Sign}
use Rattle.mh_drafts.specs.declared.sign.Sign.TheVariants.{Nothing, Part, Begin, End, Wrong}
use Rattle.mh_drafts.specs.Behinds.{ends_behind, bare_behind, wrong_by}
use Rattle.mh_drafts.specs.Signs.{ends_in, is_bare, is_wrong, first_wrong}

-- what is known of the lines that have been passed
pub record Passed (signs : List Sign) (place ends : ℕ) (bare : Bool) (first : Option ℕ) : Type 0 where
  pub ends_are : ends ≡ ends_in (drop place signs)
  pub bare_is : bare ≡ is_bare (drop place signs)
  pub first_is : first ≡ option_map (λ n. n + place) (first_wrong (drop place signs))
  pub few : ends + place ≤ length signs
  pub inside : MatchOption first ⊤ (λ n. n < length signs)

cut_signs : (signs : List Sign) (place : ℕ) (d : Sign) → place < length signs → drop place signs ≡ get_or signs place d ∷ drop (place + 1) signs
cut_signs signs place d lt = rw (add-one, drop-cons signs place d) refl

empty_ends : ends_in [] ≡ 0
unfolding ends_in
empty_ends = refl

empty_bare : is_bare [] ≡ true
unfolding is_bare
empty_bare = refl

empty_wrong : first_wrong [] ≡ None
unfolding first_wrong
empty_wrong = refl

pub none_passed : (signs : List Sign) (place : ℕ) → place ≡ length signs → Passed signs place 0 true None
none_passed signs place e =
    let le : length signs ≤ place = omega arith in
    let none : drop place signs ≡ [] = drop_all place signs le in
    record {
      ends_are = sym (ap ends_in none ∙ empty_ends);
      bare_is = sym (ap is_bare none ∙ empty_bare);
      first_is = sym (ap (λ l. option_map (λ n. n + place) (first_wrong l)) none ∙ ap (option_map (λ n. n + place)) empty_wrong);
      few = omega arith;
      inside = tt;
    }

one_end : (s : Sign) (more : List Sign) → ends_in (s ∷ more) ≡ ends_behind s (ends_in more)
unfolding ends_in
one_end Nothing more = refl
one_end Part more = refl
one_end Begin more = refl
one_end End more = refl
one_end Wrong more = refl

one_bare : (s : Sign) (more : List Sign) → is_bare (s ∷ more) ≡ bare_behind s (is_bare more)
unfolding is_bare
one_bare Nothing more = refl
one_bare Part more = refl
one_bare Begin more = refl
one_bare End more = refl
one_bare Wrong more = refl

one_wrong : (s : Sign) (more : List Sign) → is_wrong s more ≡ wrong_by s (ends_in more) (is_bare more)
one_wrong Nothing more = refl
one_wrong Part more = refl
one_wrong Begin more = refl
one_wrong End more = refl
one_wrong Wrong more = refl

moved : (place : ℕ) (o : Option ℕ) → option_map (λ n. n + place) (option_map (λ n. n + 1) o) ≡ option_map (λ n. n + (place + 1)) o
moved place None = refl
moved place (Some n) = let e : n + 1 + place ≡ n + (place + 1) = omega arith in ap Some e

first_one : (s : Sign) (more : List Sign) (place : ℕ) (w : Bool) → is_wrong s more ≡ w
    → option_map (λ n. n + place) (first_wrong (s ∷ more)) ≡ (if w then Some place else option_map (λ n. n + (place + 1)) (first_wrong more))
unfolding first_wrong
first_one s more place true e = let zero_on : 0 + place ≡ place = omega arith in rw e (ap Some zero_on)
first_one s more place false e = rw e (moved place (first_wrong more))

inside_if : (w : Bool) (place len : ℕ) (first : Option ℕ) → place < len → MatchOption first ⊤ (λ n. n < len) → MatchOption (if w then Some place else first) ⊤ (λ n. n < len)
inside_if true place len first lt i = lt
inside_if false place len first lt i = i

-- a line more
pub passed_more : (signs : List Sign) (place before ends ends_new : ℕ) (bare bare_new wrong : Bool) (first first_new : Option ℕ) (s d : Sign) → place ≡ before + 1 → s ≡ get_or signs before d
    → wrong ≡ wrong_by s ends bare → first_new ≡ (if wrong then Some before else first) → ends_new ≡ ends_behind s ends → ends_new ≤ ends + 1 → bare_new ≡ bare_behind s bare
    → Passed signs place ends bare first → Passed signs before ends_new bare_new first_new
passed_more signs place before ends ends_new bare bare_new wrong first first_new s d at is w f e le b p =
    let few = p.few in
    let lt : before < length signs = omega arith in
    let cut : drop before signs ≡ s ∷ drop place signs = cut_signs signs before d lt ∙ ap (λ x. x ∷ drop (before + 1) signs) (sym is) ∙ ap (λ n. s ∷ drop n signs) (sym at) in
    let test : is_wrong s (drop place signs) ≡ wrong = one_wrong s (drop place signs) ∙ (λ i. wrong_by s (sym p.ends_are i) (sym p.bare_is i)) ∙ sym w in
    let firsts : option_map (λ n. n + before) (first_wrong (drop before signs)) ≡ first_new =
    ap (λ l. option_map (λ n. n + before) (first_wrong l)) cut ∙ first_one s (drop place signs) before wrong test
    ∙ ap (λ n. if wrong then Some before else option_map (λ k. k + n) (first_wrong (drop place signs))) (sym at)
    ∙ ap (λ o. if wrong then Some before else o) (sym p.first_is) ∙ sym f in
    record {
      ends_are = e ∙ ap (ends_behind s) p.ends_are ∙ sym (ap ends_in cut ∙ one_end s (drop place signs));
      bare_is = b ∙ ap (bare_behind s) p.bare_is ∙ sym (ap is_bare cut ∙ one_bare s (drop place signs));
      first_is = sym firsts;
      few = omega arith;
      inside = rw f (inside_if wrong before (length signs) first lt p.inside);
    }

no_more : (o : Option ℕ) → option_map (λ n. n + 0) o ≡ o
no_more None = refl
no_more (Some n) = let e : n + 0 ≡ n = omega arith in ap Some e

pub all_passed : (signs : List Sign) (place ends : ℕ) (bare : Bool) (first : Option ℕ) → place ≤ 0 → Passed signs place ends bare first → first ≡ first_wrong signs
all_passed signs place ends bare first le p =
    let zero : place ≡ 0 = omega arith in
    p.first_is ∙ ap (λ n. option_map (λ k. k + n) (first_wrong (drop n signs))) zero ∙ no_more (first_wrong signs)
