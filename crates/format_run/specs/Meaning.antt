-- The meaning of formats (mh-format): the line that one gives for a message.
use Rattle.std.specs.Prelude.{ℕ, ◌-◌, ◌++◌, not, Bool, true, false, List, [], ◌∷◌, Option, None, ℤ, pos, if◌then◌else◌}
use Rattle.format_compiler.specs.declared.argument.Argument.{Argument}
use Rattle.format_compiler.specs.declared.argument.Argument.TheVariants.{Nothing, Literal, Number, Component}
use Rattle.format_compiler.specs.declared.call.Call.{Call}
use Rattle.format_compiler.specs.declared.function.ArgumentKind.{ArgumentKind}
use Rattle.format_compiler.specs.declared.function.ArgumentKind.TheVariants as kinds
use Rattle.format_compiler.specs.declared.function.Function.{Function}
use Rattle.format_compiler.specs.declared.one_test.Test.{Test}
use Rattle.format_compiler.specs.declared.one_test.Test.TheVariants as tests
use Rattle.format_compiler.specs.declared.piece.Piece.{Piece}
use Rattle.format_compiler.specs.declared.piece.Piece.TheVariants as pieces
use Rattle.format_compiler.specs.declared.width.Width.{Width}
use Rattle.format_compiler.specs.Functions.{kind_of}
use Rattle.format_compiler.specs.Grammar.{Format, Done, Then, Choice}
use Rattle.format_run.specs.declared.answer.Answer.{Answer}
use Rattle.format_run.specs.declared.answer.Answer.TheVariants as answers
use Rattle.format_run.specs.declared.answer.Outcome.{Outcome}
use Rattle.format_run.specs.declared.answer.Outcome.TheVariants as outcomes
use Rattle.format_run.specs.Viewed.{Viewed}
use Rattle.format_run.specs.Answers.{Seen, answer_of, is_empty}
use Rattle.line_rows.specs.Columns.{columns_of, fit}
use Rattle.line_rows.specs.Decimals.{printed_number}
use Rattle.format_run.specs.Numbers.{is_not_zero, truth}
use Rattle.line_rows.specs.Fields.{printed_text}
use Rattle.format_run.specs.Values.{value_of}

-- the state: a number, a text, and all that was written so far on a line of this width, of which the line shows what
-- fits
pub record Progress : Type 0 where
  pub number : ℤ
  pub text : List ℕ
  pub width : ℕ
  pub written : List ℕ

-- before anything is written
abbrev pub start_of : ℕ → Progress
start_of width = record { number = pos 0; text = []; width = width; written = [] }

-- these characters are written
abbrev pub adding : List ℕ → Progress → Progress
adding more s = record { number = s.number; text = s.text; width = s.width; written = s.written ++ more }

abbrev pub with_number : ℤ → Progress → Progress
with_number n s = record { number = n; text = s.text; width = s.width; written = s.written }

abbrev pub with_text : List ℕ → Progress → Progress
with_text text s = record { number = s.number; text = text; width = s.width; written = s.written }

-- the state behind a call, and of what kind the call's result is
pub record Evaluated : Type 0 where
  pub state : Progress
  pub outcome : Outcome

-- what is done with a function's answer: a result is kept, and what is to be printed is printed
abbrev pub settled : Answer → Progress → Evaluated
settled (answers.Number n) s = record { state = with_number n s; outcome = outcomes.Number }
settled (answers.Text text) s = record { state = with_text text s; outcome = outcomes.Text }
settled (answers.PrintText w) s = record { state = adding (printed_text w s.text) s; outcome = outcomes.Nothing }
settled (answers.PrintNumber w) s = record { state = adding (printed_number w s.number) s; outcome = outcomes.Nothing }
settled answers.PrintAll s = record { state = adding s.text s; outcome = outcomes.Nothing }
settled answers.Nothing s = record { state = s; outcome = outcomes.Nothing }

-- an argument may be a component whose value becomes the text
abbrev pub takes_source : ArgumentKind → Bool
takes_source kinds.Nothing = false
takes_source kinds.Literal = false
takes_source kinds.LiteralOrNothing = false
takes_source kinds.Number = false
takes_source kinds.Component = false
takes_source kinds.Source = true
takes_source kinds.SourceOrNothing = true

-- the text is the value of an argument that is a component
abbrev pub sourced : Viewed → Argument → Progress → Progress
sourced view Nothing s = s
sourced view (Literal text) s = s
sourced view (Number n) s = s
sourced view (Component name) s = with_text (value_of name view.message) s

-- the state in which a function of this argument answers
abbrev pub given : Viewed → Function → Argument → Progress → Progress
given view f a s = if takes_source (kind_of f) then sourced view a s else s

-- what a function sees of a state: free are the columns that what was written doesn't take
abbrev pub seen : Progress → Seen
seen s = record { number = s.number; text = s.text; width = s.width; free = s.width - columns_of s.written }

-- a function of this argument
unfoldable pub applied : Viewed → Option Width → Function → Argument → Progress → Evaluated
applied view w f a s = settled (answer_of view (seen (given view f a s)) w f a) (given view f a s)

-- the width belongs to the function that has none around it
abbrev pub width_inside : List Function → Option Width → Option Width
width_inside [] w = w
width_inside (f ∷ around) w = None

-- the functions around a call, from the inside on
abbrev pub evaluated_around : Viewed → Option Width → List Function → Evaluated → Evaluated
evaluated_around view w [] e = e
evaluated_around view w (f ∷ around) e =
    evaluated_around view w around (applied view (width_inside around w) f Nothing e.state)

-- a call
abbrev pub evaluated : Viewed → Option Width → Call → Progress → Evaluated
evaluated view w call s =
    evaluated_around view w call.around (applied view (width_inside call.around w) call.function call.argument s)

-- a call's result, printed; what has no result prints nothing more
abbrev pub with_result : Option Width → Outcome → Progress → Progress
with_result w outcomes.Number s = adding (printed_number w s.number) s
with_result w outcomes.Text s = adding (printed_text w s.text) s
with_result w outcomes.Nothing s = s

abbrev pub printed_result : Option Width → Evaluated → Progress
printed_result w e = with_result w e.outcome e.state

-- a part of a format that is printed
unfoldable pub printed : Viewed → Piece → Progress → Progress
printed view (pieces.Character c) s = adding (c ∷ []) s
printed view (pieces.Component w name) s =
    adding (printed_text w (value_of name view.message)) (with_text (value_of name view.message) s)
printed view (pieces.Call w call) s = printed_result w (evaluated view w call s)

-- the number is 1 where the text isn't empty, and else 0
abbrev pub weighed : Progress → Progress
weighed s = with_number (truth (not (is_empty s.text))) s

-- a text's truth is whether it isn't empty
abbrev pub judged : Outcome → Progress → Progress
judged outcomes.Number s = s
judged outcomes.Text s = weighed s
judged outcomes.Nothing s = s

abbrev pub judged_result : Evaluated → Progress
judged_result e = judged e.outcome e.state

-- a test
unfoldable pub tested : Viewed → Test → Progress → Progress
tested view (tests.Component name) s = weighed (with_text (value_of name view.message) s)
tested view (tests.Call call) s = judged_result (evaluated view None call s)

-- a test holds where the number that it leaves is not 0
abbrev pub holds : Progress → Bool
holds s = is_not_zero s.number

-- a format: its parts in order; of a conditional, what counts where its test holds, or else what counts where it
-- doesn't
abbrev pub meaning : Viewed → Format → Progress → Progress
meaning view Done s = s
meaning view (Then piece f) s = meaning view f (printed view piece s)
meaning view (Choice test taken other f) s =
    let after = tested view test s in
    meaning view f (if holds after then meaning view taken after else meaning view other after)

-- all that a format writes, if nothing is cut
abbrev pub written_by : Viewed → ℕ → Format → List ℕ
written_by view width f = (meaning view f (start_of width)).written

-- the line of a format, in this width: the longest front that fits of what the format writes
abbrev pub line_of : Viewed → ℕ → Format → List ℕ
line_of view width f = fit width (written_by view width f)
