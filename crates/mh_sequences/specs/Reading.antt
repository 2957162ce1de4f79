-- What a folder's text and the context say of its sequences.
use Rattle.std.specs.Prelude.{◌≡◌, ℕ, ◌/◌, ◌%◌, ◌≤◌, ◌==◌, ◌&&◌, ◌||◌, ◌⊎◌, length, slice_get, Bool, true, false, not, nat_le, bytes_eq, IsTrue, Option, None, Some, List, [], ◌∷◌, ◌++◌, codes, if◌then◌else◌}
use Rattle.std.specs.List.{All, list_any, flat_map, find}
use Rattle.std.specs.Borrow.{Bor}
use Rattle.std.specs.Fmt.{digit_glyph}
use Rattle.std.specs.Str.{encode_utf8_all}
use Rattle.mail_headers.specs.Fields.{FieldText, fields_of}
use Rattle.mail_headers.specs.Unfolding.{unfolded}
use Rattle.mh_base.specs.Numbers.{number_of}
use Rattle.mh_profile.specs.declared.named_value.NamedValue.{NamedValue}
use Rattle.mh_sequences.specs.Lists.{items, is_listed, lists}
use Rattle.mh_sequences.specs.Names.{is_seq_name}
use Rattle.mh_sequences.specs.declared.mention.Mention.{Mention}
use Rattle.mh_sequences.specs.Mentions.{given, IsMention, IsMentioned}
use Rattle.mh_sequences.specs.Sequences.{AreSequences, Marked, Sequence, member, public_of}

-- a field of this name, byte for byte, lists the number
abbrev pub lists_public : List FieldText → List ℕ → ℕ → Bool
lists_public fields name n = list_any (λ f. bytes_eq f.name name && lists (unfolded f.value) n) fields

-- there is a field of this name
abbrev pub has_field : List FieldText → List ℕ → Bool
has_field fields name = list_any (λ f. bytes_eq f.name name) fields

-- a byte that stands as it is: printable ASCII, no colon and no per cent sign
abbrev pub is_plain : ℕ → Bool
is_plain b = nat_le 33 b && nat_le b 126 && not (b == 58) && not (b == 37)

-- any other is a per cent sign and two upper-case hexadecimal digits
abbrev pub escape : ℕ → List ℕ
escape b = if is_plain b then b ∷ [] else 37 ∷ digit_glyph true (b / 16 % 16) ∷ digit_glyph true (b % 16) ∷ []

-- a folder's name, escaped, behind a dash
unfoldable pub suffix : List ℕ → List ℕ
suffix folder = 45 ∷ flat_map escape (encode_utf8_all folder)

-- the name of the entry of a private sequence
abbrev pub attribute : List ℕ → List ℕ → List ℕ
attribute ending name = codes "atr-" ++ (name ++ ending)

-- an entry of this sequence and this folder lists the number
abbrev pub lists_private : List NamedValue → List ℕ → List ℕ → ℕ → Bool
lists_private entries ending name n = list_any (λ e. bytes_eq e.name (attribute ending name) && lists e.value n) entries

-- the number that the item is, or else what is said later
abbrev pub first_or : Option (List ℕ) → Option ℕ → Option ℕ
first_or None later = later
first_or (Some item) later = number_of item

-- the current message: the first listed item of the fields `cur`, where it is a single number
abbrev pub cur_in : List FieldText → Option ℕ
cur_in [] = None
cur_in (f ∷ fs) =
    if bytes_eq f.name (codes "cur") then first_or (find is_listed (items (unfolded f.value))) (cur_in fs)
    else cur_in fs

-- what a text and a context's entries say of the sequences of a folder: the numbers of both, and public are those that
-- the text has
pub record IsReading (text : List ℕ) (context : List NamedValue) (folder : List ℕ) (read : Marked) : Type 0 where
  pub numbers : (name : List ℕ) (n : ℕ)
      → member read.users name n
      ≡ (is_seq_name name && (lists_public (fields_of text) name n || lists_private context (suffix folder) name n))
  pub public : (name : List ℕ) (n : ℕ) → IsTrue (member read.users name n)
      → public_of read.users name ≡ has_field (fields_of text) name
  pub cur : read.cur ≡ cur_in (fields_of text)

-- what the fields of a text give sequences was noted
pub record IsPublicPart (fields : List FieldText) (mentions : List Mention) : Type 0 where
  pub valid : All IsMention mentions
  pub given : (name : List ℕ) (n : ℕ) → given mentions name n ≡ (is_seq_name name && lists_public fields name n)

-- the sequences of a text's fields and of the context's entries
pub record AreBothParts (fields : List FieldText) (entries : List NamedValue) (ending : List ℕ)
    (users : List Sequence) : Type 0 where
  pub valid : AreSequences users
  pub numbers : (name : List ℕ) (n : ℕ)
      → member users name n ≡ (is_seq_name name && (lists_public fields name n || lists_private entries ending name n))
  pub public : (name : List ℕ) (n : ℕ) → IsTrue (member users name n) → public_of users name ≡ has_field fields name

-- the name stands between `atr-` and the ending
abbrev pub IsPrivateName : List ℕ → List ℕ → Option (Bor (List ℕ)) → Type 0
IsPrivateName name ending None = (s : List ℕ) → bytes_eq name (attribute ending s) ≡ false
IsPrivateName name ending (Some x) = (s : List ℕ) → bytes_eq name (attribute ending s) ≡ bytes_eq x.now s

-- this is the entry at the place
abbrev pub IsEntryAt : List NamedValue → ℕ → Option (Bor (List ℕ) × Bor (List ℕ)) → Type 0
IsEntryAt entries i None = length entries ≤ i
IsEntryAt entries i (Some p) = slice_get entries i ≡ Some (record { name = p.0.now; value = p.1.now })

-- an entry was noted, where it is a private sequence's
abbrev pub IsEntryNoted : List ℕ → List ℕ → List ℕ → List Mention → List Mention → Type 0
IsEntryNoted name list ending old new =
    ((x : List ℕ) × ((s : List ℕ) → bytes_eq name (attribute ending s) ≡ bytes_eq x s) × IsMentioned x list old new)
    ⊎ (((s : List ℕ) → bytes_eq name (attribute ending s) ≡ false) × (new ≡ old))

abbrev pub IsPlaceNoted : List NamedValue → ℕ → List ℕ → List Mention → List Mention → Type 0
IsPlaceNoted entries i ending old new =
    (e : NamedValue) × (slice_get entries i ≡ Some e) × IsEntryNoted e.name e.value ending old new

-- what the entries give private sequences was noted besides
pub record IsContextNoted (entries : List NamedValue) (ending : List ℕ) (old new : List Mention) : Type 0 where
  pub valid : All IsMention new
  pub given : (name : List ℕ) (n : ℕ)
      → given new name n ≡ (given old name n || (is_seq_name name && lists_private entries ending name n))
