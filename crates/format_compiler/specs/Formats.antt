-- The formats that texts denote, and where texts that denote none are wrong.
use Rattle.std.specs.Prelude.{◌≡◌, ◌≢◌, ◌⊎◌, ℕ, ◌<◌, List, [], ◌∷◌, ◌++◌, length, Ok, Err}
use Rattle.std.specs.Str.{encode_utf8_all, IsUtf8}
use Rattle.format_compiler.specs.declared.fault.FormatFault.{FormatFault}
use Rattle.format_compiler.specs.declared.fault.FormatFault.TheVariants.{Bad, Memory}
use Rattle.format_compiler.specs.declared.instruction.Instruction.{Instruction}
use Rattle.format_compiler.specs.declared.stop.Stop.{Stop}
use Rattle.format_compiler.specs.declared.stop.Stop.TheVariants.{Wrong, Memory as NoMemory}
use Rattle.format_compiler.specs.declared.word.Word.{Word}
use Rattle.format_compiler.specs.Code.{IsCodeOf}
use Rattle.format_compiler.specs.Grammar.{Format, IsFormat}
use Rattle.format_compiler.specs.Texts.{characters_in, place_of, without_feed}
use Rattle.format_compiler.specs.Unfinished.{WordEndsInNone}
use Rattle.format_compiler.specs.Words.{behind_word, Open, word_in}

-- these words stand at the front of a text where these conditionals are open; behind them those are open and that is
-- left
abbrev pub Stand : List Word → Open → List ℕ → Open → List ℕ → Type 0
Stand [] open_ones text after left = (open_ones ≡ after) × (text ≡ left)
Stand (word ∷ words) open_ones text after left =
    (behind : List ℕ) × (word_in open_ones text ≡ Ok (word, behind))
    × Stand words (behind_word word open_ones) behind after left

-- the characters are words that are this format
abbrev pub Denote : List ℕ → Format → Type 0
Denote characters f = (words : List Word) × Stand words [] characters [] [] × IsFormat words f

-- a format's text is UTF-8, and its characters without a line feed at the end denote the format
abbrev pub Denotes : List ℕ → Format → Type 0
Denotes text f = IsUtf8 (without_feed text) × Denote (characters_in (without_feed text)) f

-- behind the words that stand the next is wrong, or the text ends too early
abbrev pub IsStuck : Open → List ℕ → List ℕ → Type 0
IsStuck open_ones [] left = (open_ones ≢ []) × (left ≡ [])
IsStuck open_ones (c ∷ text) left = word_in open_ones (c ∷ text) ≡ Err left

-- the characters are wrong where these are left
pub record AreWrongAt (characters left : List ℕ) : Type 0 where
  pub words : List Word
  pub after : Open
  pub text : List ℕ
  pub stand : Stand words [] characters after text
  pub stuck : IsStuck after text left

-- a program is the code of the format that characters denote
pub record IsProgramOf (characters : List ℕ) (program : List Instruction) : Type 0 where
  pub format : Format
  pub denoted : Denote characters format
  pub code : IsCodeOf program format

-- and of the format that a text denotes
pub record IsCompiledTo (text : List ℕ) (program : List Instruction) : Type 0 where
  pub format : Format
  pub denoted : Denotes text format
  pub code : IsCodeOf program format

-- what is no UTF-8 stands behind characters that denote a format, and nothing is left of them
pub record AreCutOff (Utf8 : Type 0) (characters left : List ℕ) : Type 0 where
  pub other : Utf8 → ⊥
  pub format : Format
  pub denoted : Denote characters format
  pub nothing : left ≡ []

-- characters are refused at their first wrong token, or at their end where they end too early or are cut off
pub record AreRefusedAt (Utf8 : Type 0) (characters : List ℕ) (at : ℕ) : Type 0 where
  pub left : List ℕ
  pub place : at ≡ place_of characters left
  pub wrong : AreWrongAt characters left ⊎ AreCutOff Utf8 characters left

abbrev pub AreRefused : Type 0 → List ℕ → FormatFault → Type 0
AreRefused Utf8 characters (Bad at) = AreRefusedAt Utf8 characters at
AreRefused Utf8 characters Memory = Unit {0}

-- a text is refused as its characters are
abbrev pub IsRefusedAt : List ℕ → ℕ → Type 0
IsRefusedAt text at = AreRefusedAt (IsUtf8 (without_feed text)) (characters_in (without_feed text)) at

-- nothing is said of want of memory
abbrev pub IsRefused : List ℕ → FormatFault → Type 0
IsRefused text (Bad at) = IsRefusedAt text at
IsRefused text Memory = Unit {0}

-- a text that is refused denotes no format
abbrev pub DenotesNone : List ℕ → FormatFault → Type 0
DenotesNone text (Bad at) = (f : Format) → Denotes text f → ⊥
DenotesNone text Memory = Unit {0}

-- a text that is refused before the end of its characters begins no format: nothing behind them makes them one
abbrev pub BeginsNone : List ℕ → FormatFault → Type 0
BeginsNone text (Bad at) = at < length (encode_utf8_all (characters_in (without_feed text)))
    → (more : List ℕ) (f : Format) → Denote (characters_in (without_feed text) ++ more) f → ⊥
BeginsNone text Memory = Unit {0}

-- something behind these characters makes them a format
pub record BeginSome (front : List ℕ) : Type 0 where
  pub more : List ℕ
  pub format : Format
  pub denoted : Denote (front ++ more) format

-- in the word behind those that stand the characters end, within a function's name, or a number, that none begins with;
-- so nothing is left of them, and nothing behind them makes them a format
pub record EndInNone (characters left : List ℕ) : Type 0 where
  pub words : List Word
  pub after : Open
  pub text : List ℕ
  pub stand : Stand words [] characters after text
  pub ends : WordEndsInNone text
  pub none : (more : List ℕ) (f : Format) → Denote (characters ++ more) f → ⊥
  pub nothing : left ≡ []

-- the characters before this place begin a format, or else it is the end of characters that end so
pub record FrontBegins (characters : List ℕ) (at : ℕ) : Type 0 where
  pub front : List ℕ
  pub left : List ℕ
  pub parts : front ++ left ≡ characters
  pub place : at ≡ length (encode_utf8_all front)
  pub begins : BeginSome front ⊎ EndInNone characters left

-- what stands before the place of a refusal begins a format: something behind it makes them one; but a text that ends
-- within a function's name, or a number, is refused at its end also where no name and no number begins so
abbrev pub FrontBeginsSome : List ℕ → FormatFault → Type 0
FrontBeginsSome text (Bad at) = FrontBegins (characters_in (without_feed text)) at
FrontBeginsSome text Memory = Unit {0}

-- where reading stops
abbrev pub StopsAt : List ℕ → Stop → Type 0
StopsAt characters (Wrong left) = AreWrongAt characters left.now
StopsAt characters NoMemory = Unit {0}

abbrev pub IsBadAt : ℕ → FormatFault → Type 0
IsBadAt place (Bad at) = at ≡ place
IsBadAt place Memory = Unit {0}
