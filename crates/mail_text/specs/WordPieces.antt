-- A text with encoded words, piece by piece (RFC 2047, sections 2 and 6.2).
use Rattle.std.specs.Prelude.{◌≡◌, ◌⊎◌, ℕ, true, List, [], ◌∷◌, ◌++◌, Some, codes}
use Rattle.std.specs.List.{list_all, flat_map}
use Rattle.mail_text.specs.EncodedWords.{WordText, is_inner, is_text, charset_named, encoding_of, characters_of}
use Rattle.mh_base.specs.Characters.{is_blank}

-- a text begins with this word: =?charset?encoding?text?=, and then stands what is behind it
pub record BeginsWith (w : WordText) (text : List ℕ) : Type 0 where
  pub name : List ℕ
  pub letter : ℕ
  pub spelled : text ≡ codes "=?"
      ++ (name ++ (codes "?" ++ (letter ∷ (codes "?" ++ (w.text ++ (codes "?=" ++ w.behind))))))
  pub charset : charset_named name ≡ Some w.charset
  pub encoding : encoding_of letter ≡ Some w.encoding
  pub name_whole : list_all is_inner name ≡ true
  pub text_whole : list_all is_text w.text ≡ true

-- no word begins a text
abbrev pub BeginsWithNone : List ℕ → Type 0
BeginsWithNone text = (w : WordText) → BeginsWith w text → ⊥

-- blanks and then another word stand behind a word
pub record IsGapBefore (w : WordText) (gap rest behind : List ℕ) : Type 0 where
  pub parts : behind ≡ gap ++ rest
  pub blank : list_all is_blank gap ≡ true
  pub word : BeginsWith w rest

-- where a text goes on behind a word: at another word, behind the blanks between the two; or else at once
abbrev pub GoesOnAt : List ℕ → List ℕ → Type 0
GoesOnAt rest behind =
    ((w : WordText) × (gap : List ℕ) × IsGapBefore w gap rest behind)
    ⊎ ((rest ≡ behind) × ((w : WordText) (gap more : List ℕ) → IsGapBefore w gap more behind → ⊥))

-- a character that begins no word, or a word
pub data Piece : Type 0 where
  Plain : ℕ → Piece
  Word : WordText → Piece

-- what a piece shows
abbrev pub shown_of : Piece → List ℕ
shown_of (Plain c) = c ∷ []
shown_of (Word w) = characters_of w

-- the text is these pieces, one behind the other, without the gaps between words
abbrev pub ArePieces : List Piece → List ℕ → Type 0
ArePieces [] text = text ≡ []
ArePieces (Plain c ∷ ps) text = (rest : List ℕ) × (text ≡ c ∷ rest) × BeginsWithNone text × ArePieces ps rest
ArePieces (Word w ∷ ps) text = (rest : List ℕ) × BeginsWith w text × GoesOnAt rest w.behind × ArePieces ps rest

-- the text is decoded as this line
abbrev pub IsDecodedAs : List ℕ → List ℕ → Type 0
IsDecodedAs text line = (pieces : List Piece) × ArePieces pieces text × (line ≡ flat_map shown_of pieces)

-- and as no other
abbrev pub AsNoOther : List ℕ → List ℕ → Type 0
AsNoOther text line = (other : List ℕ) → IsDecodedAs text other → other ≡ line
