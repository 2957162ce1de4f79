-- The instructions of formats.
use Rattle.std.specs.Prelude.{◌≡◌, List, [], ◌∷◌, ◌++◌, length}
use Rattle.format_compiler.specs.declared.instruction.Instruction.{Instruction}
use Rattle.format_compiler.specs.declared.instruction.Instruction.TheVariants.{Print, Unless, Skip}
use Rattle.format_compiler.specs.Grammar.{Format, Done, Then, Choice}

-- a jump over these instructions, if there are any
abbrev pub jump_over : List Instruction → List Instruction
jump_over [] = []
jump_over (i ∷ code) = Skip (length (i ∷ code)) ∷ []

-- the instructions of a format: those where a test holds stand before those where it doesn't, which are jumped over
abbrev pub code_of : Format → List Instruction
code_of Done = []
code_of (Then piece f) = Print piece ∷ code_of f
code_of (Choice test taken other f) =
    Unless test (length (code_of taken ++ jump_over (code_of other)))
    ∷ (code_of taken ++ jump_over (code_of other) ++ code_of other ++ code_of f)

-- a program is the code of a format
abbrev pub IsCodeOf : List Instruction → Format → Type 0
IsCodeOf program f = program ≡ code_of f
