-- What is wrong stays wrong, whatever stands behind.
use Rattle.std.proofs.Common.{◌≡◌, ℕ, zero, suc, ◌+◌, ◌<◌, ◌≤◌, ◌==◌, ◌&&◌, not, Bool, true, false, List, [], ◌∷◌, ◌++◌, length, take, drop, Option, Some, None, Ok, Err, refl, sym, ap, ◌∙◌, subst, arith, cond, ℤ, length-drop}
use Rattle.std.specs.Prelude.{if◌then◌else◌}
use Rattle.std.specs.List.{prefix_len}
use Rattle.std.proofs.lemmas.List.{take-append-le, drop-append-le}
use Rattle.std.proofs.lemmas.List.Folds.{prefix_len-append}
use Rattle.mh_base.proofs.NumberTests.{less_test}
use Rattle.format_compiler.specs.declared.argument.Argument.{Argument}
use Rattle.format_compiler.specs.declared.argument.Argument.TheVariants.{Nothing, Literal, Number, Component}
use Rattle.format_compiler.specs.declared.call.Call.{Call}
use Rattle.format_compiler.specs.declared.function.ArgumentKind.{ArgumentKind}
use Rattle.format_compiler.specs.declared.function.ArgumentKind.TheVariants.{Nothing as TakesNothing, Literal as TakesLiteral, LiteralOrNothing as MayTakeLiteral, Number as TakesNumber, Component as TakesComponent, Source as TakesSource, SourceOrNothing as MayTakeSource}
use Rattle.format_compiler.specs.declared.function.Function.{Function}
use Rattle.format_compiler.specs.Arguments.{is_literal, literal_in, number_by, number_of, spaced_literal_in, spaced_number_in}
use Rattle.format_compiler.specs.Calls.{Around, argument_in, behind_spaces, call_in, called, closed_component_in, closed_or, component_by, fitting, Front, front_in, function_by, function_in, is_in_name, is_space, one_call, source_by, Whole, whole_by, with_around}
use Rattle.format_compiler.specs.Components.{braced, component_in, is_name_character}
use Rattle.format_compiler.specs.Functions.{function_named, has_result, kind_of}
use Rattle.format_compiler.specs.Reading.{before, Read, ◌>>=◌, then_character}

-- with more behind the text the same is read, but for what it tells of the text itself; or the text is wrong at the same
-- place; nothing is said of a text that ends too early
abbrev pub KeepsBy : {A : Type 0} → (A → A) → List ℕ → Read A → Read A → Type 0
KeepsBy grow more (Ok x) longer = longer ≡ Ok (grow x.0, x.1 ++ more)
KeepsBy grow more (Err []) longer = Unit {0}
KeepsBy grow more (Err (c ∷ left)) longer = longer ≡ Err ((c ∷ left) ++ more)

abbrev pub same : {A : Type 0} → A → A
same x = x

abbrev pub Keeps : {A : Type 0} → List ℕ → Read A → Read A → Type 0
Keeps more read longer = KeepsBy same more read longer

pub wrong_keeps : {A : Type 0} (grow : A → A) (more left : List ℕ) → KeepsBy grow more (Err left) (Err (left ++ more))
wrong_keeps grow more [] = tt
wrong_keeps grow more (c ∷ left) = refl

pub then_keeps : {A B : Type 0} (grow : A → A) (other : B → B) (more : List ℕ) (read longer : Read A) (next further : A → List ℕ → Read B) → KeepsBy grow more read longer
    → ((x : A) (behind : List ℕ) → KeepsBy other more (next x behind) (further (grow x) (behind ++ more))) → KeepsBy other more (read >>= next) (longer >>= further)
then_keeps {B = B} grow other more (Ok x) longer next further h k = subst (λ (z : Read B). KeepsBy other more (next x.0 x.1) z) (ap (λ z. z >>= further) (sym h)) (k x.0 x.1)
then_keeps grow other more (Err []) longer next further h k = tt
then_keeps grow other more (Err (c ∷ left)) longer next further h k = ap (λ z. z >>= further) h

pub either_keeps : {A : Type 0} (grow : A → A) (more : List ℕ) (b : Bool) (x y longer other : Read A) → KeepsBy grow more x longer → KeepsBy grow more y other
    → KeepsBy grow more (if b then x else y) (if b then longer else other)
either_keeps grow more true x y longer other h k = h
either_keeps grow more false x y longer other h k = k

character_keeps : {A : Type 0} (grow : A → A) (more : List ℕ) (c : ℕ) (x : A) (text : List ℕ) → KeepsBy grow more (then_character c x text) (then_character c (grow x) (text ++ more))
character_keeps grow more c x [] = tt
character_keeps grow more c x (d ∷ text) =
    elim (d == c) as (λ b. KeepsBy grow more (before x (if b then Ok text else Err (d ∷ text))) (before (grow x) (if b then Ok (text ++ more) else Err ((d ∷ text) ++ more)))) [ true ↦ refl | false ↦ refl ]

pub record FrontKeeps (p : ℕ → Bool) (text more rest : List ℕ) : Type 0 where
  pub front : take (prefix_len p (text ++ more)) (text ++ more) ≡ take (prefix_len p text) text
  pub behind : drop (prefix_len p (text ++ more)) (text ++ more) ≡ rest ++ more

shorter : (n : ℕ) (text : List ℕ) (c : ℕ) (behind : List ℕ) → drop n text ≡ c ∷ behind → n < length text
shorter n text c behind is = let e = ap length is in let d = length-drop n text in omega (arith, e, d)

-- a front whose end is seen
pub front_keeps : (p : ℕ → Bool) (text more : List ℕ) (c : ℕ) (behind : List ℕ) → drop (prefix_len p text) text ≡ c ∷ behind → FrontKeeps p text more (c ∷ behind)
front_keeps p text more c behind is =
    let lt = shorter (prefix_len p text) text c behind is in
    let within : prefix_len p text ≤ length text = omega arith in
    let n : prefix_len p (text ++ more) ≡ prefix_len p text = prefix_len-append p text more ∙ ap (λ b. cond b (length text + prefix_len p more) (prefix_len p text)) (less_test (prefix_len p text) (length text) lt) in
    record {
      front = ap (λ z. take z (text ++ more)) n ∙ take-append-le (prefix_len p text) text more within;
      behind = ap (λ z. drop z (text ++ more)) n ∙ drop-append-le (prefix_len p text) text more within ∙ ap (λ z. z ++ more) is;
    }

front_by : {A : Type 0} (grow : A → A) (p : ℕ → Bool) (text more : List ℕ) (by further : List ℕ → List ℕ → Read A) → ((front : List ℕ) → by front [] ≡ Err [])
    → ((front : List ℕ) (c : ℕ) (behind : List ℕ) → KeepsBy grow more (by front (c ∷ behind)) (further front ((c ∷ behind) ++ more)))
    → KeepsBy grow more (by (take (prefix_len p text) text) (drop (prefix_len p text) text)) (further (take (prefix_len p (text ++ more)) (text ++ more)) (drop (prefix_len p (text ++ more)) (text ++ more)))
front_by {A = A} grow p text more by further at_end at = choose (drop (prefix_len p text) text) refl
  where
    front : List ℕ
    front = take (prefix_len p text) text

    longer : Read A
    longer = further (take (prefix_len p (text ++ more)) (text ++ more)) (drop (prefix_len p (text ++ more)) (text ++ more))

    choose : (rest : List ℕ) → drop (prefix_len p text) text ≡ rest → KeepsBy grow more (by (take (prefix_len p text) text) (drop (prefix_len p text) text)) (further (take (prefix_len p (text ++ more)) (text ++ more)) (drop (prefix_len p (text ++ more)) (text ++ more)))
    choose [] e =
        subst (λ (z : Read A). KeepsBy grow more z (further (take (prefix_len p (text ++ more)) (text ++ more)) (drop (prefix_len p (text ++ more)) (text ++ more))))
        (sym (ap (by (take (prefix_len p text) text)) e ∙ at_end (take (prefix_len p text) text))) tt
    choose (c ∷ behind) e =
        let k = front_keeps p text more c behind e in
        let here = subst (λ (z : List ℕ). KeepsBy grow more (by (take (prefix_len p text) text) z) (further (take (prefix_len p text) text) ((c ∷ behind) ++ more))) (sym e) (at (take (prefix_len p text) text) c behind) in
        subst (λ (z : Read A). KeepsBy grow more (by (take (prefix_len p text) text) (drop (prefix_len p text) text)) z) (λ i. further (sym k.front i) (sym k.behind i)) here

braced_keeps : (more whole name : List ℕ) (c : ℕ) (behind : List ℕ) → Keeps more (braced whole name (c ∷ behind)) (braced (whole ++ more) name ((c ∷ behind) ++ more))
braced_keeps more whole [] c behind = wrong_keeps same more whole
braced_keeps more whole (n ∷ name) c behind = either_keeps same more (c == 125) (Ok (n ∷ name, behind)) (Err whole) (Ok (n ∷ name, behind ++ more)) (Err (whole ++ more)) refl (wrong_keeps same more whole)

pub component_keeps : (more whole text : List ℕ) → Keeps more (component_in whole text) (component_in (whole ++ more) (text ++ more))
component_keeps more whole text = front_by same is_name_character text more (braced whole) (braced (whole ++ more)) (λ name. refl) (braced_keeps more whole)

literal_keeps : (more text : List ℕ) → Keeps more (literal_in text) (literal_in (text ++ more))
literal_keeps more text = front_by same is_literal text more (then_character 41) (then_character 41) (λ front. refl) (λ front c behind. character_keeps same more 41 front (c ∷ behind))

spaced_literal_keeps : (more text : List ℕ) → Keeps more (spaced_literal_in text) (spaced_literal_in (text ++ more))
spaced_literal_keeps more [] = tt
spaced_literal_keeps more (c ∷ text) = either_keeps same more (c == 32) (literal_in text) (Err (c ∷ text)) (literal_in (text ++ more)) (Err ((c ∷ text) ++ more)) (literal_keeps more text) refl

number_keeps : (more whole behind : List ℕ) (n : Option ℤ) → Keeps more (number_by whole behind n) (number_by (whole ++ more) (behind ++ more) n)
number_keeps more whole behind None = wrong_keeps same more whole
number_keeps more whole behind (Some n) = refl

spaced_number_keeps : (more text : List ℕ) → Keeps more (spaced_number_in text) (spaced_number_in (text ++ more))
spaced_number_keeps more text =
    then_keeps same same more (spaced_literal_in text) (spaced_literal_in (text ++ more)) (λ literal behind. number_by text behind (number_of literal)) (λ literal behind. number_by (text ++ more) behind (number_of literal))
    (spaced_literal_keeps more text) (λ literal behind. number_keeps more text behind (number_of literal))

-- a front of a call with more behind the text
abbrev pub grown : List ℕ → Front → Front
grown more (Whole call) = Whole call
grown more (Around f whole) = Around f (whole ++ more)

called_keeps : {A : Type 0} (more : List ℕ) (f : Function) (argument : A → Argument) (read longer : Read A) → Keeps more read longer → KeepsBy (grown more) more (called f argument read) (called f argument longer)
called_keeps more f argument read longer h =
    then_keeps same (grown more) more read longer (λ x behind. Ok (Whole (one_call f (argument x)), behind)) (λ x behind. Ok (Whole (one_call f (argument x)), behind)) h (λ x behind. refl)

closed_component_keeps : (more whole text : List ℕ) → Keeps more (closed_component_in whole text) (closed_component_in (whole ++ more) (text ++ more))
closed_component_keeps more whole text =
    then_keeps same same more (component_in whole text) (component_in (whole ++ more) (text ++ more)) (λ name behind. then_character 41 name behind) (λ name behind. then_character 41 name behind)
    (component_keeps more whole text) (λ name behind. character_keeps same more 41 name behind)

component_by_keeps : (more whole : List ℕ) (f : Function) (c : ℕ) (text : List ℕ) → KeepsBy (grown more) more (component_by whole f (c ∷ text)) (component_by (whole ++ more) f ((c ∷ text) ++ more))
component_by_keeps more whole f c text =
    either_keeps (grown more) more (c == 123) (called f Component (closed_component_in whole text)) (Err whole) (called f Component (closed_component_in (whole ++ more) (text ++ more))) (Err (whole ++ more))
    (called_keeps more f Component (closed_component_in whole text) (closed_component_in (whole ++ more) (text ++ more)) (closed_component_keeps more whole text)) (wrong_keeps (grown more) more whole)

source_by_keeps : (more whole : List ℕ) (f : Function) (c : ℕ) (text : List ℕ) → KeepsBy (grown more) more (source_by whole f (c ∷ text)) (source_by (whole ++ more) f ((c ∷ text) ++ more))
source_by_keeps more whole f c text =
    either_keeps (grown more) more (c == 123) (called f Component (closed_component_in whole text)) (if c == 40 then Ok (Around f whole, text) else Err whole)
    (called f Component (closed_component_in (whole ++ more) (text ++ more))) (if c == 40 then Ok (Around f (whole ++ more), text ++ more) else Err (whole ++ more))
    (called_keeps more f Component (closed_component_in whole text) (closed_component_in (whole ++ more) (text ++ more)) (closed_component_keeps more whole text))
    (either_keeps (grown more) more (c == 40) (Ok (Around f whole, text)) (Err whole) (Ok (Around f (whole ++ more), text ++ more)) (Err (whole ++ more)) refl (wrong_keeps (grown more) more whole))

closed_or_keeps : (more : List ℕ) (call : Call) (other longer : Read Front) (text : List ℕ) → KeepsBy (grown more) more other longer → KeepsBy (grown more) more (closed_or call other text) (closed_or call longer (text ++ more))
closed_or_keeps more call other longer [] h = tt
closed_or_keeps more call other longer (c ∷ behind) h = either_keeps (grown more) more (c == 41) (Ok (Whole call, behind)) other (Ok (Whole call, behind ++ more)) longer refl h

source_keeps : (more : List ℕ) (f : Function) (text : List ℕ) → KeepsBy (grown more) more (source_by text f (behind_spaces text)) (source_by (text ++ more) f (behind_spaces (text ++ more)))
source_keeps more f text = front_by (grown more) is_space text more (λ front. source_by text f) (λ front. source_by (text ++ more) f) (λ front. refl) (λ front c behind. source_by_keeps more text f c behind)

argument_keeps : (more : List ℕ) (kind : ArgumentKind) (f : Function) (text : List ℕ) → KeepsBy (grown more) more (argument_in kind f text) (argument_in kind f (text ++ more))
argument_keeps more TakesNothing f text = character_keeps (grown more) more 41 (Whole (one_call f Nothing)) text
argument_keeps more TakesLiteral f text = called_keeps more f Literal (spaced_literal_in text) (spaced_literal_in (text ++ more)) (spaced_literal_keeps more text)
argument_keeps more MayTakeLiteral f text =
    closed_or_keeps more (one_call f (Literal [])) (called f Literal (spaced_literal_in text)) (called f Literal (spaced_literal_in (text ++ more))) text
    (called_keeps more f Literal (spaced_literal_in text) (spaced_literal_in (text ++ more)) (spaced_literal_keeps more text))
argument_keeps more TakesNumber f text = called_keeps more f Number (spaced_number_in text) (spaced_number_in (text ++ more)) (spaced_number_keeps more text)
argument_keeps more TakesComponent f text =
    front_by (grown more) is_space text more (λ front. component_by text f) (λ front. component_by (text ++ more) f) (λ front. refl) (λ front c behind. component_by_keeps more text f c behind)
argument_keeps more TakesSource f text = source_keeps more f text
argument_keeps more MayTakeSource f text = closed_or_keeps more (one_call f Nothing) (source_by text f (behind_spaces text)) (source_by (text ++ more) f (behind_spaces (text ++ more))) text (source_keeps more f text)

fitting_keeps : (more : List ℕ) (in_test : Bool) (text : List ℕ) (c : ℕ) (behind : List ℕ) (found : Option Function) → Keeps more (fitting in_test text (c ∷ behind) found) (fitting in_test (text ++ more) ((c ∷ behind) ++ more) found)
fitting_keeps more in_test text c behind None = wrong_keeps same more text
fitting_keeps more in_test text c behind (Some f) =
    either_keeps same more (in_test && not (has_result f)) (Err text) (Ok (f, c ∷ behind)) (Err (text ++ more)) (Ok (f, (c ∷ behind) ++ more)) (wrong_keeps same more text) refl

pub function_keeps : (more : List ℕ) (in_test : Bool) (text : List ℕ) → Keeps more (function_in in_test text) (function_in in_test (text ++ more))
function_keeps more in_test text =
    front_by same is_in_name text more (function_by in_test text) (function_by in_test (text ++ more)) (λ name. refl) (λ name c behind. fitting_keeps more in_test text c behind (function_named name))

pub front_in_keeps : (more : List ℕ) (in_test : Bool) (text : List ℕ) → KeepsBy (grown more) more (front_in in_test text) (front_in in_test (text ++ more))
front_in_keeps more in_test text =
    then_keeps same (grown more) more (function_in in_test text) (function_in in_test (text ++ more)) (λ f behind. argument_in (kind_of f) f behind) (λ f behind. argument_in (kind_of f) f behind)
    (function_keeps more in_test text) (λ f behind. argument_keeps more (kind_of f) f behind)

whole_keeps : (more : List ℕ) (inner : List ℕ → List ℕ → Read Call) → ((whole text : List ℕ) → Keeps more (inner whole text) (inner (whole ++ more) (text ++ more)))
    → (front : Front) (behind : List ℕ) → Keeps more (whole_by inner front behind) (whole_by inner (grown more front) (behind ++ more))
whole_keeps more inner h (Whole call) behind = refl
whole_keeps more inner h (Around f whole) text =
    then_keeps same same more (inner whole text) (inner (whole ++ more) (text ++ more)) (λ call behind. then_character 41 (with_around f call) behind) (λ call behind. then_character 41 (with_around f call) behind)
    (h whole text) (λ call behind. character_keeps same more 41 (with_around f call) behind)

pub call_keeps : (more : List ℕ) (room : ℕ) (in_test : Bool) (whole text : List ℕ) → Keeps more (call_in room in_test whole text) (call_in room in_test (whole ++ more) (text ++ more))
unfolding call_in
call_keeps more zero in_test whole text = wrong_keeps same more whole
call_keeps more (suc room) in_test whole text =
    then_keeps (grown more) same more (front_in in_test text) (front_in in_test (text ++ more)) (whole_by (call_in room false)) (whole_by (call_in room false)) (front_in_keeps more in_test text)
    (whole_keeps more (call_in room false) (λ w t. call_keeps more room false w t))
