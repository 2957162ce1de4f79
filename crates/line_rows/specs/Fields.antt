-- Texts as they are printed.
use Rattle.std.specs.Prelude.{ℕ, ◌-◌, List, ◌++◌, replicate, Option, Some, None}
use Rattle.mail_text.specs.Stripping.{stripped}
use Rattle.format_compiler.specs.declared.width.Width.{Width}
use Rattle.line_rows.specs.Columns.{columns_of, fit}

-- the longest front of a text that fits into a field, and spaces behind it
abbrev pub field : ℕ → List ℕ → List ℕ
field columns text = fit columns text ++ replicate (columns - columns_of (fit columns text)) 32

-- a text as it is printed: stripped, and with a width as a field of it
abbrev pub printed_text : Option Width → List ℕ → List ℕ
printed_text None text = stripped text
printed_text (Some w) text = field w.columns (stripped text)
