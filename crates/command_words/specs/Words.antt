-- The words that the profile adds to a command's.
use Rattle.std.specs.Prelude.{ℕ, List, [], map, unwrap_or}
use Rattle.mail_text.specs.ShownBytes.{shown}
use Rattle.mh_profile.specs.declared.named_value.NamedValue.{NamedValue}
use Rattle.mh_profile.specs.Changes.{value_of}
use Rattle.mh_base.specs.Characters.{words_in}

-- the words that the entry of this name adds, each as the characters that its bytes show
abbrev pub profile_words : List ℕ → List NamedValue → List (List ℕ)
profile_words name profile = map shown (words_in (unwrap_or (value_of name profile) []))
