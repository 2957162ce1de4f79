-- Instructions and their jumps, word by word from the end.
use Rattle.std.specs.Prelude.{ℕ, zero, suc, ◌-◌, List, [], ◌∷◌, length}
use Rattle.format_compiler.specs.declared.instruction.Instruction.{Instruction}
use Rattle.format_compiler.specs.declared.instruction.Instruction.TheVariants.{Print as PrintIt, Unless, Skip}
use Rattle.format_compiler.specs.declared.linking.Target.{Target}
use Rattle.format_compiler.specs.declared.one_test.Test.{Test}
use Rattle.format_compiler.specs.declared.word.Word.{Word}
use Rattle.format_compiler.specs.declared.word.Word.TheVariants.{Nothing, Print, If, ElseIf, Else, End}

-- the instructions of the words so far, and for each conditional that they end, the innermost first, how many of the
-- instructions stand behind its end, and how many where its branch before leads if the test fails
pub record Links : Type 0 where
  pub code : List Instruction
  pub targets : List Target

abbrev pub top_of : List Target → Target
top_of [] = record { behind = 0; other = 0 }
top_of (target ∷ targets) = target

abbrev pub below_top : List Target → List Target
below_top [] = []
below_top (target ∷ targets) = targets

abbrev pub ended : Links → Links
ended s = record { code = s.code; targets = record { behind = length s.code; other = length s.code } ∷ s.targets }

-- a test, behind whose branch the other way begins
abbrev pub tested : Test → Links → Links
tested test s = record {
  code = Unless test (length s.code - (top_of s.targets).other) ∷ s.code;
  targets = top_of s.targets ∷ below_top s.targets;
}

-- a jump over so many instructions, if there are any
abbrev pub jumped : ℕ → List Instruction → List Instruction
jumped zero code = code
jumped (suc count) code = Skip (suc count) ∷ code

-- the end of a branch, behind which the other way begins
abbrev pub branched : Links → Links
branched s = record {
  code = jumped (length s.code - (top_of s.targets).behind) s.code;
  targets = record { behind = (top_of s.targets).behind; other = length s.code } ∷ below_top s.targets;
}

abbrev pub closed : Links → Links
closed s = record { code = s.code; targets = below_top s.targets }

-- one word more, before the others
abbrev pub linked : Word → Links → Links
linked Nothing s = s
linked (Print piece) s = record { code = PrintIt piece ∷ s.code; targets = s.targets }
linked (If test) s = closed (tested test s)
linked (ElseIf test) s = branched (tested test s)
linked Else s = branched s
linked End s = ended s

-- all these words, before the others
abbrev pub linked_all : List Word → Links → Links
linked_all [] s = s
linked_all (word ∷ words) s = linked word (linked_all words s)

abbrev pub no_links : Links
no_links = record { code = []; targets = [] }
