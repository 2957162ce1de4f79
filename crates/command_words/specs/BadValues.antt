-- Values that are wrong.
use Rattle.std.specs.Prelude.{ℕ, nat_lt, List, [], ◌∷◌, Option, None, Some, Result, Ok, Err, if◌then◌else◌}
use Rattle.mh_base.specs.declared.word.WordWhy.TheVariants.{BadValue}
use Rattle.mh_words.specs.Whole.{Wrong}

-- the first of these places
abbrev pub first_of : List ℕ → Option ℕ
first_of [] = None
first_of (place ∷ places) = Some place

-- the second of these places
abbrev pub second_of : List ℕ → Option ℕ
second_of [] = None
second_of (place ∷ places) = first_of places

-- a word that is too many, or before it the first value that is wrong, at this place
abbrev pub earliest : Option ℕ → Wrong → Wrong
earliest None wrong = wrong
earliest (Some place) wrong = if nat_lt place wrong.place then record { place = place; why = BadValue } else wrong

-- where a value is wrong, the words are
abbrev pub unless_bad : Option ℕ → Result (Option (List ℕ)) Wrong → Result (Option (List ℕ)) Wrong
unless_bad bad (Err wrong) = Err (earliest bad wrong)
unless_bad None (Ok word) = Ok word
unless_bad (Some place) (Ok word) = Err (record { place = place; why = BadValue })
