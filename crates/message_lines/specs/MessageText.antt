-- The line of a message.
use Rattle.std.specs.Prelude.{ℕ, List, [], ◌∷◌, ◌++◌, ℤ}
use Rattle.std.specs.Str.{encode_utf8_all}
use Rattle.format_compiler.specs.declared.instruction.Instruction.{Instruction}
use Rattle.format_compiler.specs.Grammar.{Format}
use Rattle.format_run.specs.Meaning.{line_of as meant_by}
use Rattle.format_run.specs.Running.{line_by}
use Rattle.format_run.specs.Viewed.{Viewed}
use Rattle.message_lines.specs.declared.look.Look.{Look}
use Rattle.message_lines.specs.declared.standing.Standing.{Standing}

-- what is written of a message, by its number and its bytes; a line feed follows
abbrev pub Writing : Type 0
Writing = ℕ → List ℕ → List ℕ

-- the line of a message, with its line feed
abbrev pub line_of : Writing → ℕ → List ℕ → List ℕ
line_of writing n message = writing n message ++ 10 ∷ []

-- in how many columns, when and by whom messages are looked at
pub record Sight : Type 0 where
  pub width : ℕ
  pub moment : ℤ
  pub user : List ℕ

abbrev pub sight_of : Look → Sight
sight_of look = record { width = look.width; moment = look.moment; user = look.user }

-- a message of this number, which stands so
abbrev pub viewed : Sight → Standing → ℕ → List ℕ → Viewed
viewed sight standing n message = record {
  number = n;
  current = standing.current;
  unseen = standing.unseen;
  message = message;
  moment = sight.moment;
  user = sight.user;
}

-- what a format makes of a message that stands so
abbrev pub formed : Format → Sight → Standing → Writing
formed f sight standing n message = encode_utf8_all (meant_by (viewed sight standing n message) sight.width f)

-- and what a program makes of it
abbrev pub coded : List Instruction → Sight → Standing → Writing
coded program sight standing n message = encode_utf8_all (line_by (viewed sight standing n message) sight.width program)
