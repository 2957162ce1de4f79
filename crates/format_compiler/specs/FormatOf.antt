-- The format of a text, word by word; or the byte at which the text is wrong.
use Rattle.std.specs.Prelude.{◌≡◌, ℕ, zero, suc, Bool, true, false, List, [], ◌∷◌, length, Result, Ok, Err, if◌then◌else◌}
use Rattle.std.specs.Str.{is_utf8}
use Rattle.format_compiler.specs.declared.fault.FormatFault.{FormatFault}
use Rattle.format_compiler.specs.declared.fault.FormatFault.TheVariants.{Bad, Memory}
use Rattle.format_compiler.specs.declared.instruction.Instruction.{Instruction}
use Rattle.format_compiler.specs.declared.word.Word.{Word}
use Rattle.format_compiler.specs.declared.word.Word.TheVariants.{Nothing, Print, If, ElseIf, Else, End}
use Rattle.format_compiler.specs.Code.{IsCodeOf}
use Rattle.format_compiler.specs.Grammar.{Choice, Done, Format, Then}
use Rattle.format_compiler.specs.Reading.{Read, ◌>>=◌}
use Rattle.format_compiler.specs.Texts.{characters_in, place_of, without_feed}
use Rattle.format_compiler.specs.Words.{behind_word, is_inside, Open, word_in}

-- the words of a text, of which there are so many at most, where these conditionals are open; at its end none may be
-- open
unfoldable pub words_within : ℕ → Open → List ℕ → Read (List Word)
words_within most o [] = if is_inside o then Err [] else Ok ([], [])
words_within zero o (c ∷ text) = Err (c ∷ text)
words_within (suc most) o (c ∷ text) =
    word_in o (c ∷ text) >>= λ word behind.
    words_within most (behind_word word o) behind >>= λ words left. Ok (word ∷ words, left)

-- the words of characters: no more than there are characters
abbrev pub words_of : List ℕ → Read (List Word)
words_of characters = words_within (length characters) [] characters

-- what a conditional has behind a part of it: what counts where the part's test fails, and what stands behind the end
pub record Ways : Type 0 where
  pub other : Format
  pub behind : Format

-- the items that stand at the front of words, and the ways of the conditionals that end behind them, the innermost
-- first
pub record Items : Type 0 where
  pub here : Format
  pub around : List Ways

abbrev pub top_of : List Ways → Ways
top_of [] = record { other = Done; behind = Done }
top_of (ways ∷ around) = ways

abbrev pub below_top : List Ways → List Ways
below_top [] = []
below_top (ways ∷ around) = around

-- the part of a conditional that begins here counts where the test before it fails
abbrev pub begun : Format → Items → Items
begun other s =
    record { here = Done; around = record { other = other; behind = (top_of s.around).behind } ∷ below_top s.around }

-- one word before others
abbrev pub before : Word → Items → Items
before Nothing s = s
before (Print piece) s = record { here = Then piece s.here; around = s.around }
before (If test) s =
    record { here = Choice test s.here (top_of s.around).other (top_of s.around).behind; around = below_top s.around }
before (ElseIf test) s = begun (Choice test s.here (top_of s.around).other Done) s
before Else s = begun s.here s
before End s = record { here = Done; around = record { other = Done; behind = s.here } ∷ s.around }

abbrev pub items_of : List Word → Items
items_of [] = record { here = Done; around = [] }
items_of (word ∷ words) = before word (items_of words)

-- the place where this is left of characters; or their format, if all of the text is UTF-8
abbrev pub format_by : List ℕ → Bool → Read (List Word) → Result Format ℕ
format_by characters utf8 (Err left) = Err (place_of characters left)
format_by characters true (Ok words) = Ok (items_of words.0).here
format_by characters false (Ok words) = Err (place_of characters [])

-- the format of a text, or the byte at which the text is wrong; a line feed at its end doesn't count
abbrev pub format_of : List ℕ → Result Format ℕ
format_of text =
    format_by (characters_in (without_feed text)) (is_utf8 (without_feed text))
    (words_of (characters_in (without_feed text)))

-- a program is the code of this format, or the text is refused at this byte; or there was not enough memory
abbrev pub IsRead : Result Format ℕ → Result (List Instruction) FormatFault → Type 0
IsRead (Ok f) (Ok program) = IsCodeOf program f
IsRead (Ok f) (Err (Bad at)) = ⊥
IsRead (Err place) (Ok program) = ⊥
IsRead (Err place) (Err (Bad at)) = at ≡ place
IsRead value (Err Memory) = Unit {0}
