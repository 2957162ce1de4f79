-- The plan of the first pass over a drop: it is read from its begin, and its messages are counted.
use Rattle.std.specs.Prelude.{◌≡◌, ◌≤◌, ◌-◌, ◌++◌, ◌==◌, ℕ, zero, suc, Bool, true, false, List, length, min, nat_lt, Option, None, Some, Result, Ok, Err, if◌then◌else◌}
use Rattle.mbox_drop.specs.Drops.{is_drop, messages}
use Rattle.mbox_drop.specs.Long.{first_long}
use Rattle.folder_files.specs.declared.place.FilePath.{FilePath}
use Rattle.folder_files.specs.declared.refusal.Refusal.TheVariants as refusal
use Rattle.file_plans.specs.Asking.{read_drop}
use Rattle.file_plans.specs.Plan.{Return, lifted, ◌>>=◌}
use Rattle.file_plans.specs.declared.answers.DropPiece.{DropPiece}
use Rattle.file_plans.specs.declared.answers.DropPiece.TheVariants as drop_piece
use Rattle.step_plans.specs.CommandFaults.{of_stop}
use Rattle.step_plans.specs.declared.command_fault.CommandFault.{CommandFault}
use Rattle.step_plans.specs.declared.command_fault.CommandFault.TheVariants as fault
use Rattle.command_stages.specs.Texts.{Commanded}
use Rattle.inc_plans.specs.declared.size.DropSize.{DropSize}
use Rattle.inc_plans.specs.declared.drop_head.Head.{Head}

-- how many bytes are asked for at once, the longest drop, and the longest message
abbrev pub PIECE : ℕ
PIECE = 65536

abbrev pub LONGEST : ℕ
LONGEST = 268435456

abbrev pub LIMIT : ℕ
LIMIT = 67108864

-- just so many bytes; else the drop was changed
abbrev pub whole_if : Bool → List ℕ → Commanded (List ℕ)
whole_if true bytes = Return (Ok bytes)
whole_if false bytes = Return (Err (fault.Refused refusal.DropChanged))

abbrev pub piece_by : ℕ → DropPiece → Commanded (List ℕ)
piece_by asked (drop_piece.Piece bytes l) = whole_if (length bytes == asked) bytes
piece_by asked drop_piece.Gone = Return (Err (fault.Refused refusal.DropChanged))

unfoldable pub piece_read : FilePath → ℕ → ℕ → Commanded (List ℕ)
piece_read path from asked = do
  piece ← lifted of_stop (read_drop path from asked)
  piece_by asked piece

-- a drop of this length, with its first piece
abbrev pub head_if : Bool → ℕ → List ℕ → Commanded Head
head_if true l bytes = Return (Ok (record { length = l; bytes = bytes }))
head_if false l bytes = Return (Err (fault.Refused refusal.DropChanged))

-- one that is not too long
abbrev pub long_if : Bool → ℕ → List ℕ → Commanded Head
long_if true l bytes = Return (Err (fault.Refused (refusal.TooLarge l LONGEST)))
long_if false l bytes = head_if (length bytes == min l PIECE) l bytes

-- nor empty
abbrev pub empty_if : Bool → ℕ → List ℕ → Commanded Head
empty_if true l bytes = Return (Err (fault.Refused refusal.NoMail))
empty_if false l bytes = long_if (nat_lt LONGEST l) l bytes

abbrev pub head_of : ℕ → List ℕ → Commanded Head
head_of l bytes = empty_if (l == 0) l bytes

abbrev pub head_by : DropPiece → Commanded Head
head_by (drop_piece.Piece bytes l) = head_of l bytes
head_by drop_piece.Gone = Return (Err (fault.Refused refusal.NoMail))

unfoldable pub head_read : FilePath → Commanded Head
head_read path = do
  piece ← lifted of_stop (read_drop path 0 PIECE)
  head_by piece

-- what is so of each drop that has a first piece
pub record IsHead (head : Head) : Type 0 where
  pub whole : length head.bytes ≡ min head.length PIECE
  pub few : head.length ≤ LONGEST

-- the rest of a drop of this length, of which these bytes were read, in so many pieces at most
unfoldable pub rest_read : FilePath → ℕ → ℕ → List ℕ → Commanded (List ℕ)
rest_read path l zero d = Return (Ok d)
rest_read path l (suc fuel) d =
    if nat_lt (length d) l
    then piece_read path (length d) (min (l - length d) PIECE) >>= (λ bytes. rest_read path l fuel (d ++ bytes))
    else Return (Ok d)

-- all of it
unfoldable pub drop_read : FilePath → Commanded (List ℕ)
drop_read path = do
  head ← head_read path
  rest_read path head.length head.length head.bytes

-- the messages of a drop are counted, where it is one and none is too long
abbrev pub size_if : Bool → Option ℕ → List ℕ → Result DropSize CommandFault
size_if false long d = Err (fault.Refused refusal.NotADrop)
size_if true (Some l) d = Err (fault.Refused (refusal.TooLarge l LIMIT))
size_if true None d = Ok (record { length = length d; messages = length (messages d) })

abbrev pub counted_by : List ℕ → Result DropSize CommandFault
counted_by d = size_if (is_drop d) (first_long (messages d)) d

unfoldable pub drop_counted : FilePath → Commanded DropSize
drop_counted path = do
  d ← drop_read path
  Return (counted_by d)
