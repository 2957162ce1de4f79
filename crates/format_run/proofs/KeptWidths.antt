-- A format's line keeps its width.
use Rattle.std.proofs.Common.{◌≡◌, ℕ, zero, suc, Bool, true, false, List, [], ◌∷◌, refl, ◌∙◌}
use Rattle.std.specs.Prelude.{Option, None, if◌then◌else◌}
use Rattle.format_compiler.specs.declared.argument.Argument.{Argument}
use Rattle.format_compiler.specs.declared.argument.Argument.TheVariants.{Nothing, Literal, Number, Component}
use Rattle.format_compiler.specs.declared.function.Function.{Function}
use Rattle.format_compiler.specs.declared.instruction.Instruction.{Instruction}
use Rattle.format_compiler.specs.declared.instruction.Instruction.TheVariants.{Print, Unless, Skip}
use Rattle.format_compiler.specs.declared.one_test.Test.{Test}
use Rattle.format_compiler.specs.declared.one_test.Test.TheVariants as tests
use Rattle.format_compiler.specs.declared.piece.Piece.{Piece}
use Rattle.format_compiler.specs.declared.piece.Piece.TheVariants as pieces
use Rattle.format_compiler.specs.declared.width.Width.{Width}
use Rattle.format_compiler.specs.Functions.{kind_of}
use Rattle.format_run.specs.declared.answer.Answer.{Answer}
use Rattle.format_run.specs.declared.answer.Answer.TheVariants as answers
use Rattle.format_run.specs.declared.answer.Outcome.{Outcome}
use Rattle.format_run.specs.declared.answer.Outcome.TheVariants as outcomes
use Rattle.format_run.specs.declared.state.LineState.{LineState}
use Rattle.format_run.specs.Viewed.{Viewed}
use Rattle.format_run.specs.Answers.{answer_of}
use Rattle.format_run.specs.Meaning.{takes_source, width_inside}
use Rattle.format_run.specs.Stepping.{Evaluated, adding, applied, evaluated, evaluated_around, given, holds, judged, printed, seen, settled, sourced, tested, with_result, with_text}
use Rattle.format_run.specs.Running.{run}
use Rattle.line_rows.specs.Fields.{printed_text}
use Rattle.format_run.specs.Values.{value_of}
use Rattle.line_rows.proofs.FittingColumns.{as_wide}

abbrev wide : LineState → ℕ
wide s = s.row.width

added_wide : (more : List ℕ) (s : LineState) → wide (adding more s) ≡ wide s
added_wide more s = as_wide s.row more

settled_wide : (a : Answer) (s : LineState) → wide (settled a s).state ≡ wide s
settled_wide (answers.Number n) s = refl
settled_wide (answers.Text text) s = refl
settled_wide (answers.PrintText w) s = added_wide _ s
settled_wide (answers.PrintNumber w) s = added_wide _ s
settled_wide answers.PrintAll s = added_wide _ s
settled_wide answers.Nothing s = refl

sourced_wide : (view : Viewed) (a : Argument) (s : LineState) → wide (sourced view a s) ≡ wide s
sourced_wide view Nothing s = refl
sourced_wide view (Literal text) s = refl
sourced_wide view (Number n) s = refl
sourced_wide view (Component name) s = refl

given_by : (t : Bool) (view : Viewed) (a : Argument) (s : LineState) → wide (if t then sourced view a s else s) ≡ wide s
given_by true view a s = sourced_wide view a s
given_by false view a s = refl

applied_wide : (view : Viewed) (w : Option Width) (f : Function) (a : Argument) (s : LineState) → wide (applied view w f a s).state ≡ wide s
unfolding applied
applied_wide view w f a s = settled_wide (answer_of view (seen (given view f a s)) w f a) (given view f a s) ∙ given_by (takes_source (kind_of f)) view a s

around_wide : (view : Viewed) (w : Option Width) (around : List Function) (e : Evaluated) → wide (evaluated_around view w around e).state ≡ wide e.state
around_wide view w [] e = refl
around_wide view w (f ∷ around) e =
    around_wide view w around (applied view (width_inside around w) f Nothing e.state) ∙ applied_wide view (width_inside around w) f Nothing e.state

result_wide : (w : Option Width) (o : Outcome) (s : LineState) → wide (with_result w o s) ≡ wide s
result_wide w outcomes.Number s = added_wide _ s
result_wide w outcomes.Text s = added_wide _ s
result_wide w outcomes.Nothing s = refl

judged_wide : (o : Outcome) (s : LineState) → wide (judged o s) ≡ wide s
judged_wide outcomes.Number s = refl
judged_wide outcomes.Text s = refl
judged_wide outcomes.Nothing s = refl

printed_wide : (view : Viewed) (piece : Piece) (s : LineState) → wide (printed view piece s) ≡ wide s
unfolding printed
printed_wide view (pieces.Character c) s = added_wide _ s
printed_wide view (pieces.Component w name) s = added_wide (printed_text w (value_of name view.message)) (with_text (value_of name view.message) s)
printed_wide view (pieces.Call w call) s =
    result_wide w (evaluated view w call s).outcome (evaluated view w call s).state
    ∙ around_wide view w call.around (applied view (width_inside call.around w) call.function call.argument s)
    ∙ applied_wide view (width_inside call.around w) call.function call.argument s

tested_wide : (view : Viewed) (test : Test) (s : LineState) → wide (tested view test s) ≡ wide s
unfolding tested
tested_wide view (tests.Component name) s = refl
tested_wide view (tests.Call call) s =
    judged_wide (evaluated view None call s).outcome (evaluated view None call s).state
    ∙ around_wide view None call.around (applied view (width_inside call.around None) call.function call.argument s)
    ∙ applied_wide view (width_inside call.around None) call.function call.argument s

-- what is run keeps the width
pub run_wide : (view : Viewed) (skipped : ℕ) (code : List Instruction) (s : LineState) → wide (run view skipped code s) ≡ wide s
unfolding run
run_wide view zero [] s = refl
run_wide view (suc skipped) [] s = refl
run_wide view (suc skipped) (i ∷ code) s = run_wide view skipped code s
run_wide view zero (Print piece ∷ code) s = run_wide view 0 code (printed view piece s) ∙ printed_wide view piece s
run_wide view zero (Unless test count ∷ code) s = run_wide view (if holds (tested view test s) then 0 else count) code (tested view test s) ∙ tested_wide view test s
run_wide view zero (Skip count ∷ code) s = run_wide view count code s
