-- What the words of `mhbuild` say.
use Rattle.std.specs.Prelude.{◌++◌, codes, ℕ, Bool, bytes_eq, List, length, Option, Some, None, Result, Ok, Err, if◌then◌else◌}
use Rattle.std.specs.Str.{encode_utf8_all}
use Rattle.mh_base.specs.declared.word.WordWhy.TheVariants.{BadValue, Missing, Unknown}
use Rattle.mh_words.specs.Whole.{Wrong}
use Rattle.mh_profile.specs.declared.named_value.NamedValue.{NamedValue}
use Rattle.command_stages.specs.Chosen.{word_at}
use Rattle.command_words.specs.BadValues.{earliest, first_of, second_of}
use Rattle.command_words.specs.Ended.{wrong_at}
use Rattle.command_words.specs.Words.{profile_words}
use Rattle.command_words.specs.declared.ended.Ended.{Ended}
use Rattle.draft_files.specs.DraftNames.{is_draft_name}
use Rattle.build_words.specs.Sorts.{least, places}
use Rattle.build_words.specs.declared.sort.Sort.TheVariants.{Switch, Folder, Name}
use Rattle.build_words.specs.declared.words.BuildWords.{BuildWords}
use Rattle.command_words.specs.MessagePlaces.{extra}

-- the lone dash, which is the input
abbrev pub is_input : List ℕ → Bool
is_input word = bytes_eq word (codes "-")

abbrev pub by_name : List ℕ → Option BuildWords
by_name word = if is_draft_name word then Some (record { draft = Some word }) else None

-- the draft that a word names, if it names one
abbrev pub draft_named : List ℕ → Option BuildWords
draft_named word =
    if is_input (encode_utf8_all word) then Some (record { draft = None }) else by_name (encode_utf8_all word)

-- the earliest word that is too many: a folder, or a second name
abbrev pub extra_in : List (List ℕ) → Option ℕ
extra_in words = least (first_of (places Folder 0 words)) (second_of (places Name 0 words))

-- a name at this place, beside a word that is too many: where the name is none the earlier of the two is wrong
abbrev pub named_beside : ℕ → Option BuildWords → Option ℕ → Result BuildWords Wrong
named_beside place (Some said) None = Ok said
named_beside place (Some said) (Some other) = Err (extra other)
named_beside place None None = Err (record { place = place; why = BadValue })
named_beside place None (Some other) = Err (earliest (Some place) (extra other))

-- no name: a word is missing behind the last, where none is too many
abbrev pub none_named : List (List ℕ) → Option ℕ → Result BuildWords Wrong
none_named words None = Err (record { place = length words; why = Missing })
none_named words (Some other) = Err (extra other)

abbrev pub names_said : List (List ℕ) → Option ℕ → Result BuildWords Wrong
names_said words (Some place) = named_beside place (draft_named (word_at words place)) (extra_in words)
names_said words None = none_named words (extra_in words)

-- there are no switches, so each is unknown, before anything else is wrong
abbrev pub unless_switch : List (List ℕ) → Option ℕ → Result BuildWords Wrong
unless_switch words (Some place) = Err (record { place = place; why = Unknown })
unless_switch words None = names_said words (first_of (places Name 0 words))

abbrev pub or_wrong : List (List ℕ) → Result BuildWords Wrong → Result BuildWords Ended
or_wrong words (Ok said) = Ok said
or_wrong words (Err wrong) = Err (wrong_at words wrong)

abbrev pub line_said : List (List ℕ) → Result BuildWords Ended
line_said words = or_wrong words (unless_switch words (first_of (places Switch 0 words)))

-- what the words of `mhbuild` say, those of the profile first: the one draft, or the refusal; of a switch, and then of
-- the earliest word that is too many, that is missing, or that is no draft's name
abbrev pub build_said : List NamedValue → List (List ℕ) → Result BuildWords Ended
build_said profile words = line_said (profile_words (codes "mhbuild") profile ++ words)
