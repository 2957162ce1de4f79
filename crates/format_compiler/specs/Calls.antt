-- Calls of functions, as they are written. 32 is a space, 40 and 41 are parentheses, 123 is an opening brace.
use Rattle.std.specs.Prelude.{ℕ, zero, suc, ◌==◌, ◌&&◌, ◌||◌, not, Bool, false, List, [], ◌∷◌, ◌++◌, take, drop, Option, Some, None, Ok, Err, if◌then◌else◌}
use Rattle.std.specs.List.{prefix_len}
use Rattle.format_compiler.specs.declared.argument.Argument.{Argument}
use Rattle.format_compiler.specs.declared.argument.Argument.TheVariants.{Nothing, Literal, Number, Component}
use Rattle.format_compiler.specs.declared.call.Call.{Call}
use Rattle.format_compiler.specs.declared.function.ArgumentKind.{ArgumentKind}
use Rattle.format_compiler.specs.declared.function.ArgumentKind.TheVariants.{Nothing as TakesNothing, Literal as TakesLiteral, LiteralOrNothing as MayTakeLiteral, Number as TakesNumber, Component as TakesComponent, Source as TakesSource, SourceOrNothing as MayTakeSource}
use Rattle.format_compiler.specs.declared.function.Function.{Function}
use Rattle.format_compiler.specs.Reading.{Read, ◌>>=◌, then_character}
use Rattle.format_compiler.specs.Components.{component_in}
use Rattle.format_compiler.specs.Arguments.{spaced_literal_in, spaced_number_in}
use Rattle.format_compiler.specs.Functions.{function_named, has_result, kind_of}

-- a function's name ends at a space, a brace or a parenthesis
abbrev pub is_in_name : ℕ → Bool
is_in_name c = not (c == 32 || c == 123 || c == 40 || c == 41)

-- a test wants a function with a result
abbrev pub fitting : Bool → List ℕ → List ℕ → Option Function → Read Function
fitting in_test text behind None = Err text
fitting in_test text behind (Some f) = if in_test && not (has_result f) then Err text else Ok (f, behind)

abbrev pub function_by : Bool → List ℕ → List ℕ → List ℕ → Read Function
function_by in_test text name [] = Err []
function_by in_test text name (c ∷ behind) = fitting in_test text (c ∷ behind) (function_named name)

-- the function whose name stands here
abbrev pub function_in : Bool → List ℕ → Read Function
function_in in_test text =
    function_by in_test text (take (prefix_len is_in_name text) text) (drop (prefix_len is_in_name text) text)

-- a call with all that belongs to it; or a function whose argument is another function, which stands behind its opening
-- parenthesis, and where that argument begins
pub data Front : Type 0 where
  Whole : Call → Front
  Around : Function → List ℕ → Front

-- a function of an argument alone
abbrev pub one_call : Function → Argument → Call
one_call f a = record { function = f; argument = a; around = [] }

-- the same of what is read
abbrev pub called : {A : Type 0} → Function → (A → Argument) → Read A → Read Front
called f argument read = read >>= λ x behind. Ok (Whole (one_call f (argument x)), behind)

-- a component behind its opening brace, and the closing parenthesis
abbrev pub closed_component_in : List ℕ → List ℕ → Read (List ℕ)
closed_component_in whole text = component_in whole text >>= λ name behind. then_character 41 name behind

-- a component behind any number of spaces
abbrev pub component_by : List ℕ → Function → List ℕ → Read Front
component_by whole f [] = Err []
component_by whole f (c ∷ text) = if c == 123 then called f Component (closed_component_in whole text) else Err whole

-- a component or a function behind any number of spaces
abbrev pub source_by : List ℕ → Function → List ℕ → Read Front
source_by whole f [] = Err []
source_by whole f (c ∷ text) =
    if c == 123 then called f Component (closed_component_in whole text)
    else (if c == 40 then Ok (Around f whole, text) else Err whole)

abbrev pub is_space : ℕ → Bool
is_space c = c == 32

abbrev pub behind_spaces : List ℕ → List ℕ
behind_spaces text = drop (prefix_len is_space text) text

-- a closing parenthesis at once, or what else may stand here
abbrev pub closed_or : Call → Read Front → List ℕ → Read Front
closed_or call other [] = Err []
closed_or call other (c ∷ behind) = if c == 41 then Ok (Whole call, behind) else other

-- what stands behind a function's name that takes an argument of this kind
abbrev pub argument_in : ArgumentKind → Function → List ℕ → Read Front
argument_in TakesNothing f text = then_character 41 (Whole (one_call f Nothing)) text
argument_in TakesLiteral f text = called f Literal (spaced_literal_in text)
argument_in MayTakeLiteral f text = closed_or (one_call f (Literal [])) (called f Literal (spaced_literal_in text)) text
argument_in TakesNumber f text = called f Number (spaced_number_in text)
argument_in TakesComponent f text = component_by text f (behind_spaces text)
argument_in TakesSource f text = source_by text f (behind_spaces text)
argument_in MayTakeSource f text = closed_or (one_call f Nothing) (source_by text f (behind_spaces text)) text

-- what stands behind an opening parenthesis
abbrev pub front_in : Bool → List ℕ → Read Front
front_in in_test text = function_in in_test text >>= λ f behind. argument_in (kind_of f) f behind

-- a function around a call
abbrev pub with_around : Function → Call → Call
with_around f call = record { function = call.function; argument = call.argument; around = call.around ++ f ∷ [] }

abbrev pub whole_by : (List ℕ → List ℕ → Read Call) → Front → List ℕ → Read Call
whole_by inner (Whole call) behind = Ok (call, behind)
whole_by inner (Around f whole) text = inner whole text >>= λ call behind. then_character 41 (with_around f call) behind

-- the call that stands behind an opening parenthesis, with at most so many functions in one another; where there are
-- more, it is wrong from where the first of them that is too deep begins
unfoldable pub call_in : ℕ → Bool → List ℕ → List ℕ → Read Call
call_in zero in_test whole text = Err whole
call_in (suc room) in_test whole text = front_in in_test text >>= whole_by (call_in room false)
