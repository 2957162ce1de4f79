-- The words of formats, as they are written. 37 is a percent sign, 92 a backslash, 10 a line feed.
use Rattle.std.specs.Prelude.{ℕ, zero, suc, ◌-◌, ◌==◌, not, Bool, true, false, List, [], ◌∷◌, length, take, drop, Option, Some, None, Ok, Err, if◌then◌else◌}
use Rattle.std.specs.List.{prefix_len}
use Rattle.format_compiler.specs.declared.one_test.Test.{Test}
use Rattle.format_compiler.specs.declared.one_test.Test.TheVariants.{Component as OfComponent, Call as OfCall}
use Rattle.format_compiler.specs.declared.piece.Piece.TheVariants.{Character, Component, Call}
use Rattle.format_compiler.specs.declared.width.Width.{Width}
use Rattle.format_compiler.specs.declared.word.Word.{Word}
use Rattle.format_compiler.specs.declared.word.Word.TheVariants.{Nothing, Print, If, ElseIf, Else, End}
use Rattle.format_compiler.specs.Reading.{Read, ◌>>=◌}
use Rattle.format_compiler.specs.Components.{component_in}
use Rattle.format_compiler.specs.Calls.{call_in}
use Rattle.format_compiler.specs.Widths.{begins_width, width_of}
use Rattle.mh_base.specs.Characters.{is_digit}

-- the conditionals that are open, the innermost first: whether its `%|` was passed
abbrev pub Open : Type 0
Open = List Bool

-- how many conditionals and functions may still be opened
abbrev pub room_in : Open → ℕ
room_in open_ones = 64 - length open_ones

-- a conditional is open whose `%|` was not passed
abbrev pub may_choose : Open → Bool
may_choose [] = false
may_choose (passed ∷ around) = not passed

abbrev pub is_inside : Open → Bool
is_inside [] = false
is_inside (passed ∷ around) = true

-- the character that a backslash and this one stand for
abbrev pub escaped : ℕ → ℕ
escaped c = if c == 110 then 10 else (if c == 116 then 9 else (if c == 114 then 13 else (if c == 98 then 8
    else (if c == 102 then 12 else c))))

-- what stands behind a backslash: a line's end vanishes with it
abbrev pub escape_in : List ℕ → Read Word
escape_in [] = Err []
escape_in (c ∷ text) = Ok (if c == 10 then Nothing else Print (Character (escaped c)), text)

abbrev pub is_in_line : ℕ → Bool
is_in_line c = not (c == 10)

-- what stands behind the line feed of this line
abbrev pub behind_line : List ℕ → List ℕ
behind_line text = drop 1 (drop (prefix_len is_in_line text) text)

-- the test of the component behind an opening brace
abbrev pub component_test_in : List ℕ → List ℕ → Read Test
component_test_in whole text = component_in whole text >>= λ name behind. Ok (OfComponent name, behind)

-- the test of the call behind an opening parenthesis
abbrev pub call_test_in : ℕ → List ℕ → List ℕ → Read Test
call_test_in room whole text = call_in room true whole text >>= λ call behind. Ok (OfCall call, behind)

-- a test: a component or a function that has a result, of which at most so many may be in one another
abbrev pub test_in : ℕ → List ℕ → Read Test
test_in room [] = Err []
test_in room (c ∷ text) = if c == 123 then component_test_in (c ∷ text) text
    else (if c == 40 then call_test_in room (c ∷ text) text else Err (c ∷ text))

-- a conditional with its first test, if it may be opened
abbrev pub if_in : ℕ → List ℕ → List ℕ → Read Word
if_in zero whole text = Err whole
if_in (suc room) whole text = test_in room text >>= λ test behind. Ok (If test, behind)

-- a further test of a conditional, if there may be one
abbrev pub else_if_in : Bool → ℕ → List ℕ → List ℕ → Read Word
else_if_in false room whole text = Err whole
else_if_in true room whole text = test_in room text >>= λ test behind. Ok (ElseIf test, behind)

-- a word that is a mark alone, if it can stand here
abbrev pub mark_in : Bool → Word → List ℕ → List ℕ → Read Word
mark_in false word whole text = Err whole
mark_in true word whole text = Ok (word, text)

-- the component behind an opening brace, printed with this width
abbrev pub printed_component_in : Option Width → List ℕ → List ℕ → Read Word
printed_component_in width whole text =
    component_in whole text >>= λ name behind. Ok (Print (Component width name), behind)

-- the call behind an opening parenthesis, printed with this width
abbrev pub printed_call_in : ℕ → Option Width → List ℕ → List ℕ → Read Word
printed_call_in room width whole text =
    call_in room false whole text >>= λ call behind. Ok (Print (Call width call), behind)

-- a component or a function, printed with this width, if it is one
abbrev pub printed_by : ℕ → List ℕ → ℕ → List ℕ → Option (Option Width) → Read Word
printed_by room whole c text None = Err whole
printed_by room whole c text (Some width) = if c == 123 then printed_component_in width whole text
    else (if c == 40 then printed_call_in room width whole text else Err whole)

abbrev pub sized_by : ℕ → List ℕ → List ℕ → List ℕ → Read Word
sized_by room whole digits [] = if begins_width digits then Err [] else Err whole
sized_by room whole digits (c ∷ text) = printed_by room whole c text (width_of digits)

-- what is printed behind a percent sign, with its width
abbrev pub printed_in : ℕ → List ℕ → List ℕ → Read Word
printed_in room whole text =
    sized_by room whole (take (prefix_len is_digit text) text) (drop (prefix_len is_digit text) text)

-- the word that a percent sign begins: 59 is a semicolon, 60 and 62 are angle brackets, 63 is a question mark and 124 a
-- bar
abbrev pub percent_in : Open → List ℕ → List ℕ → Read Word
percent_in open_ones whole [] = Err []
percent_in open_ones whole (c ∷ text) =
    if c == 37 then Ok (Print (Character 37), text)
    else (if c == 59 then Ok (Nothing, behind_line text)
    else (if c == 60 then if_in (room_in open_ones) whole text
    else (if c == 63 then else_if_in (may_choose open_ones) (room_in open_ones) whole text
    else (if c == 124 then mark_in (may_choose open_ones) Else whole text
    else (if c == 62 then mark_in (is_inside open_ones) End whole text
    else printed_in (room_in open_ones) whole (c ∷ text))))))

-- the word at the front of a text, where these conditionals are open
unfoldable pub word_in : Open → List ℕ → Read Word
word_in open_ones [] = Err []
word_in open_ones (c ∷ text) =
    if c == 37 then percent_in open_ones (c ∷ text) text
    else (if c == 92 then escape_in text
    else Ok (Print (Character c), text))

-- the conditionals that are open behind a word that may stand
abbrev pub behind_word : Word → Open → Open
behind_word Nothing open_ones = open_ones
behind_word (Print piece) open_ones = open_ones
behind_word (If test) open_ones = false ∷ open_ones
behind_word (ElseIf test) open_ones = open_ones
behind_word Else open_ones = true ∷ drop 1 open_ones
behind_word End open_ones = drop 1 open_ones
