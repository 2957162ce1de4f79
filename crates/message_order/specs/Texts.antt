-- Texts of fields, as they are compared. 9 is a tab and 32 a space.
use Rattle.std.specs.Prelude.{◌≡◌, ℕ, Bool, true, false, List, take, drop, map, codes}
use Rattle.std.specs.Char.{is_ascii_alphanumeric, to_ascii_lowercase}
use Rattle.std.specs.List.{filter, prefix_len}
use Rattle.mail_headers.specs.Fields.{same_name}
use Rattle.mh_base.specs.Characters.{is_blank}

-- an ASCII letter or digit
abbrev pub counts : ℕ → Bool
counts b = is_ascii_alphanumeric b

-- a text's letters, in lower case, and digits
abbrev pub key_of : List ℕ → List ℕ
key_of text = map to_ascii_lowercase (filter counts text)

-- a reply's mark stands at the front, in whatever case
abbrev pub begins_reply : List ℕ → Bool
begins_reply text = same_name (take 3 text) (codes "re:")

-- what stands behind the mark and the blanks after it
abbrev pub behind_mark : List ℕ → List ℕ
behind_mark text = drop (prefix_len is_blank (drop 3 text)) (drop 3 text)

-- what is left of a text where each mark at the front is left out
pub data IsBehindReplies : List ℕ → List ℕ → Type 0 where
  none : {text : List ℕ} → begins_reply text ≡ false → IsBehindReplies text text
  one : {text rest : List ℕ} → begins_reply text ≡ true → IsBehindReplies (behind_mark text) rest
      → IsBehindReplies text rest
