-- What is read at the front of a text leaves less of it.
use Rattle.std.proofs.Common.{◌≡◌, ℕ, zero, suc, ◌≤◌, ◌<◌, ◌==◌, Bool, true, false, List, [], ◌∷◌, length, take, drop, Option, Some, None, Result, Ok, Err, refl, subst, arith}
use Rattle.std.specs.Prelude.{◌&&◌, not, ℤ, if◌then◌else◌}
use Rattle.std.specs.List.{prefix_len}
use Rattle.std.proofs.lemmas.List.{length-drop}
use Rattle.format_compiler.specs.declared.argument.Argument.{Argument}
use Rattle.format_compiler.specs.declared.argument.Argument.TheVariants.{Nothing as NoArgument, Literal, Number, Component as OfName}
use Rattle.format_compiler.specs.declared.call.Call.{Call}
use Rattle.format_compiler.specs.declared.function.ArgumentKind.{ArgumentKind}
use Rattle.format_compiler.specs.declared.function.ArgumentKind.TheVariants.{Nothing as TakesNothing, Literal as TakesLiteral, LiteralOrNothing as MayTakeLiteral, Number as TakesNumber, Component as TakesComponent, Source as TakesSource, SourceOrNothing as MayTakeSource}
use Rattle.format_compiler.specs.declared.function.Function.{Function}
use Rattle.format_compiler.specs.declared.one_test.Test.{Test}
use Rattle.format_compiler.specs.declared.one_test.Test.TheVariants.{Component as OfComponent, Call as OfCall}
use Rattle.format_compiler.specs.declared.piece.Piece.TheVariants.{Character, Component, Call as PrintsCall}
use Rattle.format_compiler.specs.declared.width.Width.{Width}
use Rattle.format_compiler.specs.declared.word.Word.{Word}
use Rattle.format_compiler.specs.declared.word.Word.TheVariants.{Nothing, Print, If, ElseIf, Else, End}
use Rattle.format_compiler.specs.Arguments.{is_literal, literal_in, number_by, number_of, spaced_literal_in, spaced_number_in}
use Rattle.format_compiler.specs.Calls.{argument_in, Around, behind_spaces, call_in, called, closed_component_in, closed_or, component_by, fitting, front_in, Front, function_by, function_in, is_in_name, is_space, one_call, source_by, Whole, whole_by, with_around}
use Rattle.format_compiler.specs.Components.{braced, component_in, is_name_character}
use Rattle.format_compiler.specs.Functions.{function_named, has_result, kind_of}
use Rattle.format_compiler.specs.Reading.{Read, ◌>>=◌, then_character}
use Rattle.format_compiler.specs.Widths.{begins_width, width_of}
use Rattle.format_compiler.specs.Words.{behind_line, call_test_in, component_test_in, else_if_in, escape_in, if_in, is_in_line, is_inside, mark_in, may_choose, Open, percent_in, printed_by, printed_call_in, printed_component_in, printed_in, room_in, sized_by, test_in, word_in}
use Rattle.mh_base.specs.Characters.{is_digit}

-- what is read leaves no more than so many characters
abbrev pub Leaves : {A : Type 0} → ℕ → Read A → Type 0
Leaves n (Ok x) = length x.1 ≤ n
Leaves n (Err wrong) = Unit {0}

either : {A : Type 0} (n : ℕ) (b : Bool) (x y : Read A) → Leaves n x → Leaves n y → Leaves n (if b then x else y)
either n true x y h k = h
either n false x y h k = k

behind : {A B : Type 0} (n : ℕ) (read : Read A) (next : A → List ℕ → Read B) → Leaves n read → ((x : A) (left : List ℕ) → length left ≤ n → Leaves n (next x left))
    → Leaves n (read >>= next)
behind n (Ok x) next h k = k x.0 x.1 h
behind n (Err wrong) next h k = tt

dropped : (n k : ℕ) (text : List ℕ) → length text ≤ n → length (drop k text) ≤ n
dropped n k text h = let l = length-drop k text in omega (arith, h, l)

closing : {A : Type 0} (n c : ℕ) (x : A) (text : List ℕ) → length text ≤ n → Leaves n (then_character c x text)
closing n c x [] h = tt
closing n c x (d ∷ text) h = closing_by (d == c)
  where
    closing_by : (b : Bool) → Leaves n (Rattle.format_compiler.specs.Reading.before x (if b then Ok text else Err (d ∷ text)))
    closing_by true = omega (arith, h)
    closing_by false = tt

literal_leaves : (n : ℕ) (text : List ℕ) → length text ≤ n → Leaves n (literal_in text)
literal_leaves n text h = closing n 41 (take (prefix_len is_literal text) text) (drop (prefix_len is_literal text) text) (dropped n (prefix_len is_literal text) text h)

spaced_leaves : (n : ℕ) (text : List ℕ) → length text ≤ n → Leaves n (spaced_literal_in text)
spaced_leaves n [] h = tt
spaced_leaves n (c ∷ text) h = either n (c == 32) (literal_in text) (Err (c ∷ text)) (literal_leaves n text (omega (arith, h))) tt

by_number : (n : ℕ) (whole left : List ℕ) (o : Option ℤ) → length left ≤ n → Leaves n (number_by whole left o)
by_number n whole left None h = tt
by_number n whole left (Some m) h = h

number_leaves : (n : ℕ) (text : List ℕ) → length text ≤ n → Leaves n (spaced_number_in text)
number_leaves n text h =
    behind n (spaced_literal_in text) (λ literal left. number_by text left (number_of literal)) (spaced_leaves n text h) (λ literal left k. by_number n text left (number_of literal) k)

braced_leaves : (n : ℕ) (whole name text : List ℕ) → length text ≤ n → Leaves n (braced whole name text)
braced_leaves n whole name [] h = tt
braced_leaves n whole [] (c ∷ text) h = tt
braced_leaves n whole (m ∷ name) (c ∷ text) h = either n (c == 125) (Ok (m ∷ name, text)) (Err whole) (omega (arith, h)) tt

component_leaves : (n : ℕ) (whole text : List ℕ) → length text ≤ n → Leaves n (component_in whole text)
component_leaves n whole text h =
    braced_leaves n whole (take (prefix_len is_name_character text) text) (drop (prefix_len is_name_character text) text) (dropped n (prefix_len is_name_character text) text h)

fitting_leaves : (n : ℕ) (in_test : Bool) (text left : List ℕ) (o : Option Function) → length left ≤ n → Leaves n (fitting in_test text left o)
fitting_leaves n in_test text left None h = tt
fitting_leaves n in_test text left (Some f) h = either n (in_test && not (has_result f)) (Err text) (Ok (f, left)) tt h

function_leaves_by : (n : ℕ) (in_test : Bool) (text name left : List ℕ) → length left ≤ n → Leaves n (function_by in_test text name left)
function_leaves_by n in_test text name [] h = tt
function_leaves_by n in_test text name (c ∷ left) h = fitting_leaves n in_test text (c ∷ left) (function_named name) h

function_leaves : (n : ℕ) (in_test : Bool) (text : List ℕ) → length text ≤ n → Leaves n (function_in in_test text)
function_leaves n in_test text h =
    function_leaves_by n in_test text (take (prefix_len is_in_name text) text) (drop (prefix_len is_in_name text) text) (dropped n (prefix_len is_in_name text) text h)

-- a front of a call leaves no more than so many characters, also behind the parenthesis of another function
abbrev pub FrontLeaves : ℕ → Read Front → Type 0
FrontLeaves n read = Leaves n read

called_leaves : {A : Type 0} (n : ℕ) (f : Function) (argument : A → Argument) (read : Read A) → Leaves n read → FrontLeaves n (called f argument read)
called_leaves n f argument read h = behind n read (λ x left. Ok (Whole (one_call f (argument x)), left)) h (λ x left k. k)

closed_component_leaves : (n : ℕ) (whole text : List ℕ) → length text ≤ n → Leaves n (closed_component_in whole text)
closed_component_leaves n whole text h =
    behind n (component_in whole text) (λ name left. then_character 41 name left) (component_leaves n whole text h) (λ name left k. closing n 41 name left k)

component_by_leaves : (n : ℕ) (whole : List ℕ) (f : Function) (text : List ℕ) → length text ≤ n → FrontLeaves n (component_by whole f text)
component_by_leaves n whole f [] h = tt
component_by_leaves n whole f (c ∷ text) h =
    either n (c == 123) (called f OfName (closed_component_in whole text)) (Err whole)
    (called_leaves n f OfName (closed_component_in whole text) (closed_component_leaves n whole text (omega (arith, h)))) tt

source_by_leaves : (n : ℕ) (whole : List ℕ) (f : Function) (text : List ℕ) → length text ≤ n → FrontLeaves n (source_by whole f text)
source_by_leaves n whole f [] h = tt
source_by_leaves n whole f (c ∷ text) h =
    either n (c == 123) (called f OfName (closed_component_in whole text)) (if c == 40 then Ok (Around f whole, text) else Err whole)
    (called_leaves n f OfName (closed_component_in whole text) (closed_component_leaves n whole text (omega (arith, h))))
    (either n (c == 40) (Ok (Around f whole, text)) (Err whole) (omega (arith, h)) tt)

closed_or_leaves : (n : ℕ) (call : Call) (other : Read Front) (text : List ℕ) → length text ≤ n → FrontLeaves n other → FrontLeaves n (closed_or call other text)
closed_or_leaves n call other [] h k = tt
closed_or_leaves n call other (c ∷ text) h k = either n (c == 41) (Ok (Whole call, text)) other (omega (arith, h)) k

spaces_left : (n : ℕ) (text : List ℕ) → length text ≤ n → length (behind_spaces text) ≤ n
spaces_left n text h = dropped n (prefix_len is_space text) text h

argument_leaves : (n : ℕ) (kind : ArgumentKind) (f : Function) (text : List ℕ) → length text ≤ n → FrontLeaves n (argument_in kind f text)
argument_leaves n TakesNothing f text h = closing n 41 (Whole (one_call f NoArgument)) text h
argument_leaves n TakesLiteral f text h = called_leaves n f Literal (spaced_literal_in text) (spaced_leaves n text h)
argument_leaves n MayTakeLiteral f text h =
    closed_or_leaves n (one_call f (Literal [])) (called f Literal (spaced_literal_in text)) text h (called_leaves n f Literal (spaced_literal_in text) (spaced_leaves n text h))
argument_leaves n TakesNumber f text h = called_leaves n f Number (spaced_number_in text) (number_leaves n text h)
argument_leaves n TakesComponent f text h = component_by_leaves n text f (behind_spaces text) (spaces_left n text h)
argument_leaves n TakesSource f text h = source_by_leaves n text f (behind_spaces text) (spaces_left n text h)
argument_leaves n MayTakeSource f text h =
    closed_or_leaves n (one_call f NoArgument) (source_by text f (behind_spaces text)) text h (source_by_leaves n text f (behind_spaces text) (spaces_left n text h))

front_leaves : (n : ℕ) (in_test : Bool) (text : List ℕ) → length text ≤ n → FrontLeaves n (front_in in_test text)
front_leaves n in_test text h =
    behind n (function_in in_test text) (λ f left. argument_in (kind_of f) f left) (function_leaves n in_test text h) (λ f left k. argument_leaves n (kind_of f) f left k)

whole_leaves : (n : ℕ) (inner : List ℕ → List ℕ → Read Call) → ((whole text : List ℕ) → length text ≤ n → Leaves n (inner whole text)) → (front : Front) (left : List ℕ)
    → length left ≤ n → Leaves n (whole_by inner front left)
whole_leaves n inner k (Whole call) left h = h
whole_leaves n inner k (Around f whole) left h =
    behind n (inner whole left) (λ call rest. then_character 41 (with_around f call) rest) (k whole left h) (λ call rest l. closing n 41 (with_around f call) rest l)

call_leaves : (n room : ℕ) (in_test : Bool) (whole text : List ℕ) → length text ≤ n → Leaves n (call_in room in_test whole text)
unfolding call_in
call_leaves n zero in_test whole text h = tt
call_leaves n (suc room) in_test whole text h =
    behind n (front_in in_test text) (whole_by (call_in room false)) (front_leaves n in_test text h)
    (λ front left k. whole_leaves n (call_in room false) (λ w t l. call_leaves n room false w t l) front left k)

test_leaves : (n room : ℕ) (text : List ℕ) → length text ≤ n → Leaves n (test_in room text)
test_leaves n room [] h = tt
test_leaves n room (c ∷ text) h =
    let less : length text ≤ n = omega (arith, h) in
    either n (c == 123) (component_test_in (c ∷ text) text) (if c == 40 then call_test_in room (c ∷ text) text else Err (c ∷ text))
    (behind n (component_in (c ∷ text) text) (λ name left. Ok (OfComponent name, left)) (component_leaves n (c ∷ text) text less) (λ name left k. k))
    (either n (c == 40) (call_test_in room (c ∷ text) text) (Err (c ∷ text))
    (behind n (call_in room true (c ∷ text) text) (λ call left. Ok (OfCall call, left)) (call_leaves n room true (c ∷ text) text less) (λ call left k. k)) tt)

if_leaves : (n room : ℕ) (whole text : List ℕ) → length text ≤ n → Leaves n (if_in room whole text)
if_leaves n zero whole text h = tt
if_leaves n (suc room) whole text h = behind n (test_in room text) (λ test left. Ok (If test, left)) (test_leaves n room text h) (λ test left k. k)

else_if_leaves : (n : ℕ) (b : Bool) (room : ℕ) (whole text : List ℕ) → length text ≤ n → Leaves n (else_if_in b room whole text)
else_if_leaves n false room whole text h = tt
else_if_leaves n true room whole text h = behind n (test_in room text) (λ test left. Ok (ElseIf test, left)) (test_leaves n room text h) (λ test left k. k)

mark_leaves : (n : ℕ) (b : Bool) (word : Word) (whole text : List ℕ) → length text ≤ n → Leaves n (mark_in b word whole text)
mark_leaves n false word whole text h = tt
mark_leaves n true word whole text h = h

printed_by_leaves : (n room : ℕ) (whole : List ℕ) (c : ℕ) (text : List ℕ) (w : Option (Option Width)) → length text ≤ n → Leaves n (printed_by room whole c text w)
printed_by_leaves n room whole c text None h = tt
printed_by_leaves n room whole c text (Some width) h =
    either n (c == 123) (printed_component_in width whole text) (if c == 40 then printed_call_in room width whole text else Err whole)
    (behind n (component_in whole text) (λ name left. Ok (Print (Component width name), left)) (component_leaves n whole text h) (λ name left k. k))
    (either n (c == 40) (printed_call_in room width whole text) (Err whole)
    (behind n (call_in room false whole text) (λ call left. Ok (Print (PrintsCall width call), left)) (call_leaves n room false whole text h) (λ call left k. k)) tt)

sized_leaves : (n room : ℕ) (whole digits text : List ℕ) → length text ≤ n → Leaves n (sized_by room whole digits text)
sized_leaves n room whole digits [] h = either n (begins_width digits) (Err []) (Err whole) tt tt
sized_leaves n room whole digits (c ∷ text) h = printed_by_leaves n room whole c text (width_of digits) (omega (arith, h))

printed_leaves : (n room : ℕ) (whole text : List ℕ) → length text ≤ n → Leaves n (printed_in room whole text)
printed_leaves n room whole text h =
    sized_leaves n room whole (take (prefix_len is_digit text) text) (drop (prefix_len is_digit text) text) (dropped n (prefix_len is_digit text) text h)

escape_leaves : (n : ℕ) (text : List ℕ) → length text ≤ n → Leaves n (escape_in text)
escape_leaves n [] h = tt
escape_leaves n (c ∷ text) h = omega (arith, h)

percent_leaves : (n : ℕ) (o : Open) (whole text : List ℕ) → length text ≤ n → Leaves n (percent_in o whole text)
percent_leaves n o whole [] h = tt
percent_leaves n o whole (c ∷ text) h =
    let less : length text ≤ n = omega (arith, h) in
    either n (c == 37) _ _ less
    (either n (c == 59) _ _ (dropped n 1 (drop (prefix_len is_in_line text) text) (dropped n (prefix_len is_in_line text) text less))
    (either n (c == 60) _ _ (if_leaves n (room_in o) whole text less)
    (either n (c == 63) _ _ (else_if_leaves n (may_choose o) (room_in o) whole text less)
    (either n (c == 124) _ _ (mark_leaves n (may_choose o) Else whole text less)
    (either n (c == 62) _ _ (mark_leaves n (is_inside o) End whole text less)
    (printed_leaves n (room_in o) whole (c ∷ text) h))))))

-- a word leaves less than there was
pub word_leaves : (o : Open) (c : ℕ) (text : List ℕ) → Leaves (length text) (word_in o (c ∷ text))
unfolding word_in
word_leaves o c text =
    let same : length text ≤ length text = omega arith in
    either (length text) (c == 37) _ _ (percent_leaves (length text) o (c ∷ text) text same)
    (either (length text) (c == 92) _ _ (escape_leaves (length text) text same) same)
