-- Lists of numbers as text.
use Rattle.std.specs.Prelude.{ℕ, ◌==◌, Bool, false, not, nat_le, Option, None, Some, is_some, List, [], ◌∷◌, take, drop, if◌then◌else◌}
use Rattle.std.specs.List.{list_any, prefix_len, slice_split}
use Rattle.mh_base.specs.Numbers.{number_of}
use Rattle.mh_sequences.specs.declared.run.Run.{Run}
use Rattle.mh_sequences.specs.Runs.{inside}
use Rattle.mh_base.specs.Characters.{is_blank}

-- what stands between spaces and tabs
abbrev pub items : List ℕ → List (List ℕ)
items text = slice_split is_blank text

-- two numbers in order
abbrev pub between : Option ℕ → Option ℕ → Option Run
between (Some a) (Some b) = if nat_le a b then Some (record { from = a; to = b }) else None
between (Some a) None = None
between None b = None

-- a number and, behind a dash, another
abbrev pub up_to : Option ℕ → List ℕ → Option Run
up_to from [] = None
up_to from (dash ∷ to) = between from (number_of to)

-- a number alone, or else the other
abbrev pub alone_or : Option ℕ → Option Run → Option Run
alone_or (Some n) other = Some (record { from = n; to = n })
alone_or None other = other

-- a byte that is no dash
abbrev pub is_no_dash : ℕ → Bool
is_no_dash b = not (b == 45)

-- the run that an item names: a number, or two with a dash between, of which the first is at most the second
unfoldable pub run_in : List ℕ → Option Run
run_in item =
    alone_or (number_of item)
    (up_to (number_of (take (prefix_len is_no_dash item) item)) (drop (prefix_len is_no_dash item) item))

abbrev pub is_listed : List ℕ → Bool
is_listed item = is_some (run_in item)

abbrev pub run_has : Option Run → ℕ → Bool
run_has None n = false
run_has (Some r) n = inside r n

-- an item of the list names the number, or a run with it
abbrev pub lists : List ℕ → ℕ → Bool
lists text n = list_any (λ item. run_has (run_in item) n) (items text)
