-- The line of a format.
use Rattle.std.proofs.Common.{◌≡◌, ℕ, List, [], refl, sym, ap, ◌∙◌}
use Rattle.format_compiler.specs.Code.{code_of}
use Rattle.format_compiler.specs.Grammar.{Format}
use Rattle.format_compiler.specs.declared.instruction.Instruction.{Instruction}
use Rattle.format_run.specs.declared.state.LineState.{LineState}
use Rattle.format_run.specs.Viewed.{Viewed}
use Rattle.line_rows.specs.Columns.{Kept, empty_line, fit, with_more}
use Rattle.format_run.specs.Meaning.{Progress, line_of, meaning, start_of}
use Rattle.format_run.specs.Running.{line_by, run}
use Rattle.format_run.specs.Stepping as step
use Rattle.line_rows.proofs.FittingColumns.{as_wide, field_held, more_none}
use Rattle.format_run.proofs.RunCode.{run_code}
use Rattle.format_run.proofs.HeldStates.{at}
use Rattle.format_run.proofs.KeptWidths.{run_wide}

-- nothing was written yet
pub began : (width : ℕ) → step.start_of width ≡ at (start_of width)
began width = ap (λ (r : Kept). let s : LineState = record { number = (start_of width).number; text = []; row = r } in s) (sym (more_none (empty_line width)))

meant_from : (view : Viewed) (f : Format) (width : ℕ) → run view 0 (code_of f) (step.start_of width) ≡ at (meaning view f (start_of width))
meant_from view f width = ap (run view 0 (code_of f)) (began width) ∙ run_code view f (start_of width)

-- what a format means keeps the width
still_wide : (view : Viewed) (f : Format) (width : ℕ) → (meaning view f (start_of width)).width ≡ width
still_wide view f width =
    let end = meaning view f (start_of width) in
    sym (as_wide (empty_line end.width) end.written) ∙ ap (λ (s : LineState). s.row.width) (sym (meant_from view f width))
    ∙ run_wide view 0 (code_of f) (step.start_of width)

shown_of : (end : Progress) (width : ℕ) → end.width ≡ width → (at end).row.characters ≡ fit width end.written
shown_of end width wide = field_held end.width end.written (with_more (empty_line end.width) end.written) refl ∙ ap (λ w. fit w end.written) wide

-- what the state holds of all that the format writes is the format's line
pub shown_at : (view : Viewed) (f : Format) (width : ℕ) (text : List ℕ) (last : LineState) → last ≡ at (meaning view f (start_of width)) → text ≡ last.row.characters → text ≡ line_of view width f
shown_at view f width text last all shown =
    shown ∙ ap (λ (s : LineState). s.row.characters) all ∙ shown_of (meaning view f (start_of width)) width (still_wide view f width)

-- the code's line is the line of the format
pub line_shown : (view : Viewed) (f : Format) (width : ℕ) (text : List ℕ) (first last : LineState) (code : List Instruction)
    → first ≡ step.start_of width → code ≡ code_of f → last ≡ run view 0 code first → text ≡ last.row.characters → text ≡ line_of view width f
line_shown view f width text first last code start is ran shown =
    shown_at view f width text last (ran ∙ ap (λ c. run view 0 c first) is ∙ ap (run view 0 (code_of f)) start ∙ meant_from view f width) shown

-- and so is the line that its instructions give
pub line_meant : (view : Viewed) (width : ℕ) (f : Format) → line_by view width (code_of f) ≡ line_of view width f
line_meant view width f = shown_at view f width (line_by view width (code_of f)) (run view 0 (code_of f) (step.start_of width)) (meant_from view f width) refl
