-- The line that tells of a folder.
use Rattle.std.specs.Prelude.{ℕ, ◌-◌, ◌==◌, List, [], ◌++◌, length, codes, decimal, slice_get, Option, None, Some, if◌then◌else◌}

-- so many messages
abbrev pub counted : ℕ → List ℕ
counted k = decimal k ++ (if k == 1 then codes " message" else codes " messages")

-- the current message, where one is set
abbrev pub current_part : Option ℕ → List ℕ
current_part None = []
current_part (Some n) = codes "; cur=" ++ decimal n

-- by the first and the last of so many numbers
abbrev pub summary_by : List ℕ → ℕ → Option ℕ → Option ℕ → Option ℕ → List ℕ
summary_by name k (Some least) (Some greatest) cur =
    name ++ codes "+ has " ++ counted k ++ codes " (" ++ decimal least ++ codes "-" ++ decimal greatest ++ codes ")"
    ++ current_part cur ++ codes ".\n"
summary_by name k (Some least) None cur = name ++ codes "+ has no messages.\n"
summary_by name k None greatest cur = name ++ codes "+ has no messages.\n"

-- the line of the folder of this name, in bytes, whose messages have these numbers, ascending; of an empty one no
-- current message is told
unfoldable pub summary : List ℕ → List ℕ → Option ℕ → List ℕ
summary name numbers cur =
    summary_by name (length numbers) (slice_get numbers 0) (slice_get numbers (length numbers - 1)) cur
