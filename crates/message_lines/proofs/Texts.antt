-- The line of a program is that of the format whose code it is.
use Rattle.std.proofs.Common.{◌≡◌, ℕ, List, ap, ◌∙◌}
use Rattle.std.specs.Str.{encode_utf8_all}
use Rattle.format_compiler.specs.declared.instruction.Instruction.{Instruction}
use Rattle.format_compiler.specs.Code.{code_of, IsCodeOf}
use Rattle.format_compiler.specs.Grammar.{Format}
use Rattle.format_run.specs.Running.{line_by}
use Rattle.format_run.proofs.FormatLines.{line_meant}
use Rattle.message_lines.specs.MessageText.{coded, formed, Sight, viewed}
use Rattle.message_lines.specs.declared.standing.Standing.{Standing}

pub text_formed : (program : List Instruction) (f : Format) (sight : Sight) (standing : Standing) (n : ℕ) (message : List ℕ) → IsCodeOf program f
    → coded program sight standing n message ≡ formed f sight standing n message
text_formed program f sight standing n message is =
    ap (λ code. encode_utf8_all (line_by (viewed sight standing n message) sight.width code)) is
    ∙ ap encode_utf8_all (line_meant (viewed sight standing n message) sight.width f)

-- so is all that it writes
pub all_formed : (program : List Instruction) (f : Format) (sight : Sight) → IsCodeOf program f → coded program sight ≡ formed f sight
all_formed program f sight is = λ i standing n message. text_formed program f sight standing n message is i
