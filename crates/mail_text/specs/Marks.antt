-- Where the characters of an address stand.
use Rattle.std.specs.Prelude.{ℕ, ◌+◌, ◌-◌, ◌==◌, Bool, true, false, List, [], ◌∷◌, if◌then◌else◌}
use Rattle.mail_text.specs.declared.marks.Inside.{Inside}
use Rattle.mail_text.specs.declared.marks.Inside.TheVariants.{Nothing, Quotes, ProtectedInQuotes, Comments, ProtectedInComments, Brackets}
use Rattle.mail_text.specs.declared.marks.Mark.{Mark}
use Rattle.mail_text.specs.declared.marks.Surrounding.{Surrounding}
use Rattle.mail_text.specs.declared.marks.Surrounding.TheVariants.{Outside, InQuotes, Comment, WithinComment, Elsewhere}

-- where the character behind this one stands: quotes, comments and angle brackets begin outside each other; a backslash
-- protects the character behind it in quotes and comments; comments nest, here in so many others (RFC 5322, section
-- 3.2)
abbrev pub inside_behind : Inside → ℕ → Inside
inside_behind Nothing c =
    if c == 34 then Quotes else (if c == 40 then Comments 0 else (if c == 60 then Brackets else Nothing))
inside_behind Quotes c = if c == 34 then Nothing else (if c == 92 then ProtectedInQuotes else Quotes)
inside_behind ProtectedInQuotes c = Quotes
inside_behind (Comments depth) c =
    if c == 92 then ProtectedInComments depth
    else (if c == 40 then Comments (depth + 1)
    else (if c == 41 then (if depth == 0 then Nothing else Comments (depth - 1)) else Comments depth))
inside_behind (ProtectedInComments depth) c = Comments depth
inside_behind Brackets c = if c == 62 then Nothing else Brackets

-- what is kept of it
abbrev pub place_of : Inside → Surrounding
place_of Nothing = Outside
place_of Quotes = InQuotes
place_of ProtectedInQuotes = Elsewhere
place_of (Comments depth) = if depth == 0 then Comment else WithinComment
place_of (ProtectedInComments depth) = WithinComment
place_of Brackets = Elsewhere

-- each character of a text that begins there, with where it stands
unfoldable pub marks_from : Inside → List ℕ → List Mark
marks_from inside [] = []
marks_from inside (c ∷ rest) = record { place = place_of inside; c = c } ∷ marks_from (inside_behind inside c) rest

abbrev pub marks : List ℕ → List Mark
marks text = marks_from Nothing text

-- it stands in no quotes, comments or brackets
abbrev pub is_outside : Surrounding → Bool
is_outside Outside = true
is_outside InQuotes = false
is_outside Comment = false
is_outside WithinComment = false
is_outside Elsewhere = false

-- it stands in quotes, and isn't protected
abbrev pub is_in_quotes : Surrounding → Bool
is_in_quotes Outside = false
is_in_quotes InQuotes = true
is_in_quotes Comment = false
is_in_quotes WithinComment = false
is_in_quotes Elsewhere = false

-- it stands in a comment
abbrev pub is_in_comment : Surrounding → Bool
is_in_comment Outside = false
is_in_comment InQuotes = false
is_in_comment Comment = true
is_in_comment WithinComment = true
is_in_comment Elsewhere = false

-- it stands in one comment only, and isn't protected
abbrev pub is_in_one_comment : Surrounding → Bool
is_in_one_comment Outside = false
is_in_one_comment InQuotes = false
is_in_one_comment Comment = true
is_in_one_comment WithinComment = false
is_in_one_comment Elsewhere = false

-- in how many other comments it stands
abbrev pub depth_of : Inside → ℕ
depth_of Nothing = 0
depth_of Quotes = 0
depth_of ProtectedInQuotes = 0
depth_of (Comments depth) = depth
depth_of (ProtectedInComments depth) = depth
depth_of Brackets = 0
