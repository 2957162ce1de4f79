-- What the code's state holds of what formats write.
use Rattle.std.proofs.Common.{◌≡◌, ℕ, Bool, true, false, List, [], ◌∷◌, refl, ap, ◌∙◌}
use Rattle.std.specs.Prelude.{Option, None, ℤ, if◌then◌else◌}
use Rattle.format_compiler.specs.declared.argument.Argument.{Argument}
use Rattle.format_compiler.specs.declared.argument.Argument.TheVariants.{Nothing, Literal, Number, Component}
use Rattle.format_compiler.specs.declared.call.Call.{Call}
use Rattle.format_compiler.specs.declared.function.Function.{Function}
use Rattle.format_compiler.specs.declared.one_test.Test.{Test}
use Rattle.format_compiler.specs.declared.one_test.Test.TheVariants as tests
use Rattle.format_compiler.specs.declared.piece.Piece.{Piece}
use Rattle.format_compiler.specs.declared.piece.Piece.TheVariants as pieces
use Rattle.format_compiler.specs.declared.width.Width.{Width}
use Rattle.format_compiler.specs.Functions.{kind_of}
use Rattle.format_run.specs.declared.answer.Answer.{Answer}
use Rattle.format_run.specs.declared.answer.Answer.TheVariants as answers
use Rattle.format_run.specs.declared.answer.Outcome.{Outcome}
use Rattle.format_run.specs.declared.answer.Outcome.TheVariants as outcomes
use Rattle.format_run.specs.declared.state.LineState.{LineState}
use Rattle.format_run.specs.Viewed.{Viewed}
use Rattle.format_run.specs.Answers.{Seen, answer_of}
use Rattle.line_rows.specs.Columns.{Kept, empty_line, free, with_more}
use Rattle.format_run.specs.Meaning.{Progress, takes_source, width_inside}
use Rattle.format_run.specs.Meaning as meant
use Rattle.format_run.specs.Stepping.{Evaluated, adding, applied, evaluated, evaluated_around, judged, printed, seen, settled, sourced, tested, with_result}
use Rattle.line_rows.specs.Fields.{printed_text}
use Rattle.format_run.specs.Values.{value_of}
use Rattle.line_rows.proofs.FittingColumns.{as_wide, more_both, row_free}

-- the code's state where this was written
abbrev pub at : Progress → LineState
at p = record { number = p.number; text = p.text; row = with_more (empty_line p.width) p.written }

abbrev ended_at : meant.Evaluated → Evaluated
ended_at e = record { state = at e.state; outcome = e.outcome }

abbrev seeing : ℤ → List ℕ → ℕ → ℕ → Seen
seeing number text width free = record { number = number; text = text; width = width; free = free }

seen_at : (p : Progress) → seen (at p) ≡ meant.seen p
seen_at p =
    ap (λ w. seeing p.number p.text w (free (with_more (empty_line p.width) p.written))) (as_wide (empty_line p.width) p.written)
    ∙ ap (seeing p.number p.text p.width) (row_free p.width p.written)

added_at : (more : List ℕ) (p : Progress) → adding more (at p) ≡ at (meant.adding more p)
added_at more p = ap (λ (r : Kept). let s : LineState = record { number = p.number; text = p.text; row = r } in s) (more_both (empty_line p.width) p.written more)

nothing_more : LineState → Evaluated
nothing_more s = record { state = s; outcome = outcomes.Nothing }

settled_at : (a : Answer) (p : Progress) → settled a (at p) ≡ ended_at (meant.settled a p)
unfolding nothing_more
settled_at (answers.Number n) p = refl
settled_at (answers.Text text) p = refl
settled_at (answers.PrintText w) p = ap nothing_more (added_at _ p)
settled_at (answers.PrintNumber w) p = ap nothing_more (added_at _ p)
settled_at answers.PrintAll p = ap nothing_more (added_at _ p)
settled_at answers.Nothing p = refl

sourced_at : (view : Viewed) (a : Argument) (p : Progress) → sourced view a (at p) ≡ at (meant.sourced view a p)
sourced_at view Nothing p = refl
sourced_at view (Literal text) p = refl
sourced_at view (Number n) p = refl
sourced_at view (Component name) p = refl

given_by : (t : Bool) (view : Viewed) (a : Argument) (p : Progress) → (if t then sourced view a (at p) else at p) ≡ at (if t then meant.sourced view a p else p)
given_by true view a p = sourced_at view a p
given_by false view a p = refl

applied_at : (view : Viewed) (w : Option Width) (f : Function) (a : Argument) (p : Progress) → applied view w f a (at p) ≡ ended_at (meant.applied view w f a p)
unfolding applied meant.applied
applied_at view w f a p =
    let before = meant.given view f a p in
    ap (λ s. settled (answer_of view (seen s) w f a) s) (given_by (takes_source (kind_of f)) view a p)
    ∙ ap (λ x. settled (answer_of view x w f a) (at before)) (seen_at before) ∙ settled_at (answer_of view (meant.seen before) w f a) before

around_at : (view : Viewed) (w : Option Width) (around : List Function) (e : meant.Evaluated)
    → evaluated_around view w around (ended_at e) ≡ ended_at (meant.evaluated_around view w around e)
around_at view w [] e = refl
around_at view w (f ∷ around) e =
    ap (evaluated_around view w around) (applied_at view (width_inside around w) f Nothing e.state)
    ∙ around_at view w around (meant.applied view (width_inside around w) f Nothing e.state)

evaluated_at : (view : Viewed) (w : Option Width) (call : Call) (p : Progress) → evaluated view w call (at p) ≡ ended_at (meant.evaluated view w call p)
evaluated_at view w call p =
    ap (evaluated_around view w call.around) (applied_at view (width_inside call.around w) call.function call.argument p)
    ∙ around_at view w call.around (meant.applied view (width_inside call.around w) call.function call.argument p)

result_at : (w : Option Width) (o : Outcome) (p : Progress) → with_result w o (at p) ≡ at (meant.with_result w o p)
result_at w outcomes.Number p = added_at _ p
result_at w outcomes.Text p = added_at _ p
result_at w outcomes.Nothing p = refl

judged_at : (o : Outcome) (p : Progress) → judged o (at p) ≡ at (meant.judged o p)
judged_at outcomes.Number p = refl
judged_at outcomes.Text p = refl
judged_at outcomes.Nothing p = refl

pub printed_at : (view : Viewed) (piece : Piece) (p : Progress) → printed view piece (at p) ≡ at (meant.printed view piece p)
unfolding printed meant.printed
printed_at view (pieces.Character c) p = added_at (c ∷ []) p
printed_at view (pieces.Component w name) p = added_at (printed_text w (value_of name view.message)) (meant.with_text (value_of name view.message) p)
printed_at view (pieces.Call w call) p =
    ap (λ (e : Evaluated). with_result w e.outcome e.state) (evaluated_at view w call p)
    ∙ result_at w (meant.evaluated view w call p).outcome (meant.evaluated view w call p).state

pub tested_at : (view : Viewed) (test : Test) (p : Progress) → tested view test (at p) ≡ at (meant.tested view test p)
unfolding tested meant.tested
tested_at view (tests.Component name) p = refl
tested_at view (tests.Call call) p =
    ap (λ (e : Evaluated). judged e.outcome e.state) (evaluated_at view None call p)
    ∙ judged_at (meant.evaluated view None call p).outcome (meant.evaluated view None call p).state
