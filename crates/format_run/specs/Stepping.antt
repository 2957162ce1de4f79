-- What the parts of formats do to the code's state, whose line is cut as it grows.
use Rattle.std.specs.Prelude.{ℕ, not, Bool, List, [], ◌∷◌, Option, None, ℤ, pos, if◌then◌else◌}
use Rattle.format_compiler.specs.declared.argument.Argument.{Argument}
use Rattle.format_compiler.specs.declared.argument.Argument.TheVariants.{Nothing, Literal, Number, Component}
use Rattle.format_compiler.specs.declared.call.Call.{Call}
use Rattle.format_compiler.specs.declared.function.Function.{Function}
use Rattle.format_compiler.specs.declared.one_test.Test.{Test}
use Rattle.format_compiler.specs.declared.one_test.Test.TheVariants as tests
use Rattle.format_compiler.specs.declared.piece.Piece.{Piece}
use Rattle.format_compiler.specs.declared.piece.Piece.TheVariants as pieces
use Rattle.format_compiler.specs.declared.width.Width.{Width}
use Rattle.format_compiler.specs.Functions.{kind_of}
use Rattle.format_run.specs.declared.answer.Answer.{Answer}
use Rattle.format_run.specs.declared.answer.Answer.TheVariants as answers
use Rattle.format_run.specs.declared.answer.Outcome.{Outcome}
use Rattle.format_run.specs.declared.answer.Outcome.TheVariants as outcomes
use Rattle.format_run.specs.declared.state.LineState.{LineState}
use Rattle.format_run.specs.Viewed.{Viewed}
use Rattle.format_run.specs.Answers.{Seen, answer_of, is_empty}
use Rattle.line_rows.specs.Columns.{empty_line, free, with_more}
use Rattle.line_rows.specs.Decimals.{printed_number}
use Rattle.format_run.specs.Meaning.{takes_source, width_inside}
use Rattle.format_run.specs.Numbers.{is_not_zero, truth}
use Rattle.line_rows.specs.Fields.{printed_text}
use Rattle.format_run.specs.Values.{value_of}

-- before anything is printed
abbrev pub start_of : ℕ → LineState
start_of width = record { number = pos 0; text = []; row = empty_line width }

-- these characters are added to the line, as far as they fit
abbrev pub adding : List ℕ → LineState → LineState
adding more s = record { number = s.number; text = s.text; row = with_more s.row more }

abbrev pub with_number : ℤ → LineState → LineState
with_number n s = record { number = n; text = s.text; row = s.row }

abbrev pub with_text : List ℕ → LineState → LineState
with_text text s = record { number = s.number; text = text; row = s.row }

-- the state behind a call, and of what kind the call's result is
pub record Evaluated : Type 0 where
  pub state : LineState
  pub outcome : Outcome

-- what is done with a function's answer: a result is kept, and what is to be printed is printed
abbrev pub settled : Answer → LineState → Evaluated
settled (answers.Number n) s = record { state = with_number n s; outcome = outcomes.Number }
settled (answers.Text text) s = record { state = with_text text s; outcome = outcomes.Text }
settled (answers.PrintText w) s = record { state = adding (printed_text w s.text) s; outcome = outcomes.Nothing }
settled (answers.PrintNumber w) s = record { state = adding (printed_number w s.number) s; outcome = outcomes.Nothing }
settled answers.PrintAll s = record { state = adding s.text s; outcome = outcomes.Nothing }
settled answers.Nothing s = record { state = s; outcome = outcomes.Nothing }

-- the text is the value of an argument that is a component
abbrev pub sourced : Viewed → Argument → LineState → LineState
sourced view Nothing s = s
sourced view (Literal text) s = s
sourced view (Number n) s = s
sourced view (Component name) s = with_text (value_of name view.message) s

-- the state in which a function of this argument answers
abbrev pub given : Viewed → Function → Argument → LineState → LineState
given view f a s = if takes_source (kind_of f) then sourced view a s else s

-- what a function sees of a state
abbrev pub seen : LineState → Seen
seen s = record { number = s.number; text = s.text; width = s.row.width; free = free s.row }

-- a function of this argument
unfoldable pub applied : Viewed → Option Width → Function → Argument → LineState → Evaluated
applied view w f a s = settled (answer_of view (seen (given view f a s)) w f a) (given view f a s)

-- the functions around a call, from the inside on
abbrev pub evaluated_around : Viewed → Option Width → List Function → Evaluated → Evaluated
evaluated_around view w [] e = e
evaluated_around view w (f ∷ around) e =
    evaluated_around view w around (applied view (width_inside around w) f Nothing e.state)

-- a call
abbrev pub evaluated : Viewed → Option Width → Call → LineState → Evaluated
evaluated view w call s =
    evaluated_around view w call.around (applied view (width_inside call.around w) call.function call.argument s)

-- a call's result, printed; what has no result prints nothing more
abbrev pub with_result : Option Width → Outcome → LineState → LineState
with_result w outcomes.Number s = adding (printed_number w s.number) s
with_result w outcomes.Text s = adding (printed_text w s.text) s
with_result w outcomes.Nothing s = s

abbrev pub printed_result : Option Width → Evaluated → LineState
printed_result w e = with_result w e.outcome e.state

-- a part of a format that is printed
unfoldable pub printed : Viewed → Piece → LineState → LineState
printed view (pieces.Character c) s = adding (c ∷ []) s
printed view (pieces.Component w name) s =
    adding (printed_text w (value_of name view.message)) (with_text (value_of name view.message) s)
printed view (pieces.Call w call) s = printed_result w (evaluated view w call s)

-- the number is 1 where the text isn't empty, and else 0
abbrev pub weighed : LineState → LineState
weighed s = with_number (truth (not (is_empty s.text))) s

-- a text's truth is whether it isn't empty
abbrev pub judged : Outcome → LineState → LineState
judged outcomes.Number s = s
judged outcomes.Text s = weighed s
judged outcomes.Nothing s = s

abbrev pub judged_result : Evaluated → LineState
judged_result e = judged e.outcome e.state

-- a test
unfoldable pub tested : Viewed → Test → LineState → LineState
tested view (tests.Component name) s = weighed (with_text (value_of name view.message) s)
tested view (tests.Call call) s = judged_result (evaluated view None call s)

-- a test holds where the number that it leaves is not 0
abbrev pub holds : LineState → Bool
holds s = is_not_zero s.number
