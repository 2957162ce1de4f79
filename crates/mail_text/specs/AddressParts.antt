-- The value of an address field, part by part (RFC 5322, sections 3.2 and 3.4).
use Rattle.std.specs.Prelude.{◌≡◌, ℕ, ◌==◌, ◌||◌, not, Bool, true, false, Option, Some, None, is_some, List, [], ◌∷◌, ◌++◌, if◌then◌else◌}
use Rattle.std.specs.List.{flat_map, before_first, list_all, list_any}
use Rattle.mail_text.specs.Addresses.{trimmed, mbox_in, host_in}
use Rattle.mail_text.specs.declared.address.Shown.{Shown}

-- a character with which no quotes, comment or brackets begin
abbrev pub is_plain : ℕ → Bool
is_plain c = not (c == 34 || c == 40 || c == 60)

-- a character of quotes: no quote mark and no backslash
abbrev pub is_quoted : ℕ → Bool
is_quoted c = not (c == 34 || c == 92)

-- a character of a comment: no parenthesis and no backslash
abbrev pub is_commented : ℕ → Bool
is_commented c = not (c == 40 || c == 41 || c == 92)

-- a character of an address in brackets
abbrev pub is_bracketed : ℕ → Bool
is_bracketed c = not (c == 62)

-- in quotes stand characters, and backslashes with the one that each protects
pub data QuotedItem : Type 0 where
  Character : (c : ℕ) → is_quoted c ≡ true → QuotedItem
  Protected : ℕ → QuotedItem

-- in a comment stand these too, and comments
pub data CommentText : Type 0 where
  Ends : CommentText
  HasCharacter : (c : ℕ) → is_commented c ≡ true → CommentText → CommentText
  HasProtected : ℕ → CommentText → CommentText
  HasComment : CommentText → CommentText → CommentText

-- a text stops behind whole items, or behind a backslash that protects nothing
pub data Stop : Type 0 where
  AtItem : Stop
  AtBackslash : Stop

-- in an unclosed comment the text stops, or an unclosed comment begins
pub data UnclosedText : Type 0 where
  Stops : CommentText → Stop → UnclosedText
  StopsInComment : CommentText → UnclosedText → UnclosedText

-- a value is made of plain characters, quotes, comments and addresses in brackets; what is unclosed reaches the end of
-- the text
pub data Part : Type 0 where
  Plain : (c : ℕ) → is_plain c ≡ true → Part
  Quoted : List QuotedItem → Part
  UnclosedQuoted : List QuotedItem → Stop → Part
  Comment : CommentText → Part
  UnclosedComment : UnclosedText → Part
  Bracketed : (address : List ℕ) → list_all is_bracketed address ≡ true → Part
  UnclosedBracketed : (address : List ℕ) → list_all is_bracketed address ≡ true → Part

-- how an item of quotes is spelled
abbrev pub item_text : QuotedItem → List ℕ
item_text (Character c free) = c ∷ []
item_text (Protected c) = 92 ∷ c ∷ []

-- what stands there where a text stops
abbrev pub stop_text : Stop → List ℕ
stop_text AtItem = []
stop_text AtBackslash = 92 ∷ []

-- how the inside of a comment is spelled
abbrev pub comment_text : CommentText → List ℕ
comment_text Ends = []
comment_text (HasCharacter c free more) = c ∷ comment_text more
comment_text (HasProtected c more) = 92 ∷ c ∷ comment_text more
comment_text (HasComment inner more) = 40 ∷ comment_text inner ++ 41 ∷ comment_text more

-- and that of an unclosed one
abbrev pub unclosed_text : UnclosedText → List ℕ
unclosed_text (Stops front stop) = comment_text front ++ stop_text stop
unclosed_text (StopsInComment front inner) = comment_text front ++ 40 ∷ unclosed_text inner

-- how a part is spelled
abbrev pub spelled : Part → List ℕ
spelled (Plain c free) = c ∷ []
spelled (Quoted items) = 34 ∷ flat_map item_text items ++ 34 ∷ []
spelled (UnclosedQuoted items stop) = 34 ∷ flat_map item_text items ++ stop_text stop
spelled (Comment inside) = 40 ∷ comment_text inside ++ 41 ∷ []
spelled (UnclosedComment inside) = 40 ∷ unclosed_text inside
spelled (Bracketed address free) = 60 ∷ address ++ 62 ∷ []
spelled (UnclosedBracketed address free) = 60 ∷ address

-- the text holds no end of it
abbrev pub is_unclosed : Part → Bool
is_unclosed (UnclosedQuoted items stop) = true
is_unclosed (UnclosedComment inside) = true
is_unclosed (UnclosedBracketed address free) = true
is_unclosed other = false

-- behind an unclosed part stands none
abbrev pub UnclosedIsLast : List Part → Type 0
UnclosedIsLast [] = Unit {0}
UnclosedIsLast (p ∷ ps) = (is_unclosed p ≡ true → ps ≡ []) × UnclosedIsLast ps

-- the text is these parts, one behind the other
abbrev pub AreParts : List Part → List ℕ → Type 0
AreParts parts text = (text ≡ flat_map spelled parts) × UnclosedIsLast parts

-- a comma that ends an address
abbrev pub is_comma : Part → Bool
is_comma (Plain c free) = c == 44
is_comma other = false

-- the inside of a comment, with the comments in it and every backslash
abbrev pub comment_in : Part → Option (List ℕ)
comment_in (Comment inside) = Some (comment_text inside)
comment_in (UnclosedComment inside) = Some (unclosed_text inside)
comment_in other = None

-- the inside of brackets
abbrev pub address_in : Part → Option (List ℕ)
address_in (Bracketed address free) = Some address
address_in (UnclosedBracketed address free) = Some address
address_in other = None

-- a part as it is spelled, but nothing for a comment
abbrev pub without_comment : Part → List ℕ
without_comment (Comment inside) = []
without_comment (UnclosedComment inside) = []
without_comment other = spelled other

-- the same without the quote marks round quotes; every backslash stays
abbrev pub name_in : Part → List ℕ
name_in (Quoted items) = flat_map item_text items
name_in (UnclosedQuoted items stop) = flat_map item_text items ++ stop_text stop
name_in other = without_comment other

-- a text, or another where there is none
abbrev pub text_or : Option (List ℕ) → List ℕ → List ℕ
text_or None other = other
text_or (Some text) other = text

-- the first text that a part gives, or nothing where none does
abbrev pub in_first : (Part → Option (List ℕ)) → List Part → List ℕ
in_first given [] = []
in_first given (p ∷ ps) = text_or (given p) (in_first given ps)

-- it is an address in brackets
abbrev pub has_brackets : Part → Bool
has_brackets p = is_some (address_in p)

-- the inside of the first comment
abbrev pub note_in : List Part → List ℕ
note_in parts = trimmed (in_first comment_in parts)

-- what stands before the first brackets, without comments and quote marks; nothing where there are none
abbrev pub pers_in : List Part → List ℕ
pers_in parts =
    if list_any has_brackets parts then trimmed (flat_map name_in (before_first has_brackets parts)) else []

-- the inside of the first brackets, or where there are none, all but comments
abbrev pub addr_in : List Part → List ℕ
addr_in parts =
    if list_any has_brackets parts then in_first address_in parts else trimmed (flat_map without_comment parts)

-- what the parts before the first comma show
abbrev pub shown_by : List Part → Shown
shown_by parts =
    let first = before_first is_comma parts in
    record {
      pers = pers_in first;
      mbox = mbox_in (addr_in first);
      host = host_in (addr_in first);
      note = note_in first;
    }

-- a text of such parts shows this
abbrev pub Shows : List ℕ → Shown → Type 0
Shows text shown = (parts : List Part) × AreParts parts text × (shown ≡ shown_by parts)

-- and nothing else
abbrev pub ShowsNoOther : List ℕ → Shown → Type 0
ShowsNoOther text shown = (other : Shown) → Shows text other → other ≡ shown
