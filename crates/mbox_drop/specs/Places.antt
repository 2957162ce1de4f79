-- How a reader goes on, byte by byte.
use Rattle.std.specs.Prelude.{ℕ, ◌==◌, Bool, true, false, if◌then◌else◌}
use Rattle.mbox_drop.specs.declared.place.Match.{Match}
use Rattle.mbox_drop.specs.declared.place.Match.TheVariants.{Nothing, F, Fr, Fro, From}
use Rattle.mbox_drop.specs.declared.place.Growth.{Growth}
use Rattle.mbox_drop.specs.declared.place.Growth.TheVariants.{More, Whole, Broken}
use Rattle.mbox_drop.specs.declared.place.DropState.{DropState}
use Rattle.mbox_drop.specs.declared.place.DropState.TheVariants.{First, Lost, Separator, Start, Return, Middle, Blank}
use Rattle.mbox_drop.specs.declared.place.Stage.{Stage}
use Rattle.mbox_drop.specs.declared.place.Stage.TheVariants.{Unread, NoDrop, Begun}
use Rattle.mbox_drop.specs.declared.place.Turn.{Turn}
use Rattle.mbox_drop.specs.declared.place.Turn.TheVariants.{Joins, Empties, Begins, Passes}

abbrev pub grown : Match → ℕ → Growth
grown Nothing b = if b == 70 then More F else Broken
grown F b = if b == 114 then More Fr else Broken
grown Fr b = if b == 111 then More Fro else Broken
grown Fro b = if b == 109 then More From else Broken
grown From b = if b == 32 then Whole else Broken

-- in the first line
abbrev pub first_turn : Growth → Turn
first_turn (More m) = Passes (First m)
first_turn Whole = Passes Separator
first_turn Broken = Passes Lost

-- at the start of a line of a message
abbrev pub start_turn : ℕ → Turn
start_turn b = if b == 10 then Empties (Blank Nothing) else if b == 13 then Empties Return else Joins Middle

-- in a line of a message that is no separator and not empty
abbrev pub middle_turn : ℕ → Turn
middle_turn b = if b == 10 then Joins Start else Joins Middle

-- where the beginning of a separator is broken
abbrev pub broken_turn : Match → ℕ → Turn
broken_turn Nothing b = start_turn b
broken_turn F b = middle_turn b
broken_turn Fr b = middle_turn b
broken_turn Fro b = middle_turn b
broken_turn From b = middle_turn b

-- after an empty line
abbrev pub blank_turn : Match → ℕ → Growth → Turn
blank_turn m b (More n) = Joins (Blank n)
blank_turn m b Whole = Begins
blank_turn m b Broken = broken_turn m b

abbrev pub turn : DropState → ℕ → Turn
turn (First m) b = first_turn (grown m b)
turn Lost b = Passes Lost
turn Separator b = if b == 10 then Passes Start else Passes Separator
turn Start b = start_turn b
turn Return b = if b == 10 then Joins (Blank Nothing) else Joins Middle
turn Middle b = middle_turn b
turn (Blank m) b = blank_turn m b (grown m b)

-- in a message
abbrev pub is_inside : DropState → Bool
is_inside (First m) = false
is_inside Lost = false
is_inside Separator = false
is_inside Start = true
is_inside Return = true
is_inside Middle = true
is_inside (Blank m) = true

abbrev pub first_stage : Match → Stage
first_stage Nothing = Unread
first_stage F = NoDrop
first_stage Fr = NoDrop
first_stage Fro = NoDrop
first_stage From = NoDrop

-- what the bytes so far are
abbrev pub stage_of : DropState → Stage
stage_of (First m) = first_stage m
stage_of Lost = NoDrop
stage_of Separator = Begun
stage_of Start = Begun
stage_of Return = Begun
stage_of Middle = Begun
stage_of (Blank m) = Begun

abbrev pub is_middle : DropState → Bool
is_middle (First m) = false
is_middle Lost = false
is_middle Separator = false
is_middle Start = false
is_middle Return = false
is_middle Middle = true
is_middle (Blank m) = false

abbrev pub is_lost : DropState → Bool
is_lost (First m) = false
is_lost Lost = true
is_lost Separator = false
is_lost Start = false
is_lost Return = false
is_lost Middle = false
is_lost (Blank m) = false

abbrev pub place_after : Turn → DropState
place_after (Joins place) = place
place_after (Empties place) = place
place_after Begins = Separator
place_after (Passes place) = place

-- of what stands before the last empty line and the whole, that which is the message if the bytes end here
abbrev pub ended : {A : Type 0} → DropState → A → A → A
ended (First m) body whole = whole
ended Lost body whole = whole
ended Separator body whole = whole
ended Start body whole = whole
ended Return body whole = whole
ended Middle body whole = whole
ended (Blank Nothing) body whole = body
ended (Blank F) body whole = whole
ended (Blank Fr) body whole = whole
ended (Blank Fro) body whole = whole
ended (Blank From) body whole = whole
