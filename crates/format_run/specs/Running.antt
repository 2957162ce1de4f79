-- Instructions of formats, run one behind the other.
use Rattle.std.specs.Prelude.{ℕ, zero, suc, List, [], ◌∷◌, if◌then◌else◌}
use Rattle.format_compiler.specs.declared.instruction.Instruction.{Instruction}
use Rattle.format_compiler.specs.declared.instruction.Instruction.TheVariants.{Print, Unless, Skip}
use Rattle.format_run.specs.declared.state.LineState.{LineState}
use Rattle.format_run.specs.Viewed.{Viewed}
use Rattle.format_run.specs.Stepping.{holds, printed, start_of, tested}

-- the state behind these instructions, of which so many are skipped first
unfoldable pub run : Viewed → ℕ → List Instruction → LineState → LineState
run view skipped [] s = s
run view (suc skipped) (i ∷ code) s = run view skipped code s
run view zero (Print piece ∷ code) s = run view 0 code (printed view piece s)
run view zero (Unless test count ∷ code) s =
    run view (if holds (tested view test s) then 0 else count) code (tested view test s)
run view zero (Skip count ∷ code) s = run view count code s

-- the line that instructions give, in this width
abbrev pub line_by : Viewed → ℕ → List Instruction → List ℕ
line_by view width code = (run view 0 code (start_of width)).row.characters
