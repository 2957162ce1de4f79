-- The plan of the second pass over a drop: it is read again from its begin, and each message is taken in that a piece
-- finishes.
use Rattle.std.specs.Prelude.{◌-◌, ◌++◌, ◌∷◌, [], ◌==◌, ℕ, zero, suc, Bool, true, false, List, length, min, nat_lt, Option, None, Some, Ok, Err, if◌then◌else◌}
use Rattle.folder_files.specs.declared.place.FilePath.{FilePath}
use Rattle.folder_files.specs.declared.place.Place.{Place}
use Rattle.file_plans.specs.Plan.{Return, ◌>>=◌}
use Rattle.command_stages.specs.Texts.{Commanded}
use Rattle.inc_plans.specs.Counting.{PIECE, piece_read}
use Rattle.inc_plans.specs.Cutting.{changed, given_by, last_by}
use Rattle.inc_plans.specs.Intake.{all_taken}
use Rattle.inc_plans.specs.Taking.{Telling}
use Rattle.inc_plans.specs.declared.taken.Taken.{Taken}

-- the bytes that were read, and what was taken in of them
pub record Read : Type 0 where
  pub bytes : List ℕ
  pub taken : Taken

-- where messages go: the run, the folder and its place, and what is written of them
pub record Where : Type 0 where
  pub run : ℕ
  pub folder : List ℕ
  pub place : Place
  pub telling : Telling

abbrev pub where_of : ℕ → List ℕ → Place → Telling → Where
where_of run folder p telling = record { run = run; folder = folder; place = p; telling = telling }

abbrev pub into : Where → Taken → List (List ℕ) → Commanded Taken
into w taken messages = all_taken w.run w.folder w.place w.telling taken messages

-- a piece is read, and the messages that it finishes are taken in
unfoldable pub piece_taken : Where → FilePath → ℕ → List ℕ → Taken → Commanded Read
piece_taken w path l d taken = do
  bytes ← piece_read path (length d) (min (l - length d) PIECE)
  given ← Return (given_by d bytes)
  more ← into w taken given
  Return (Ok (record { bytes = d ++ bytes; taken = more }))

-- the rest of a drop of this length, in so many pieces at most
unfoldable pub rest_taken : Where → FilePath → ℕ → ℕ → Read → Commanded Read
rest_taken w path l zero s = Return (Ok s)
rest_taken w path l (suc fuel) s =
    if nat_lt (length s.bytes) l then piece_taken w path l s.bytes s.taken >>= (λ more. rest_taken w path l fuel more)
    else Return (Ok s)

abbrev pub listed : Option (List ℕ) → List (List ℕ)
listed None = []
listed (Some message) = message ∷ []

-- where these are as many as were counted
abbrev pub as_counted : Bool → Taken → Commanded Taken
as_counted true taken = Return (Ok taken)
as_counted false taken = Return (Err changed)

-- and the last message
unfoldable pub ended_taken : Where → Read → Commanded Taken
ended_taken w s = do
  last ← Return (last_by s.bytes)
  into w s.taken (listed last)

-- all of it, in which so many messages were counted; after the highest number of the folder
unfoldable pub drop_taken : Where → FilePath → ℕ → ℕ → ℕ → Commanded Taken
drop_taken w path l count top = do
  s ← rest_taken w path l l (record { bytes = []; taken = record { numbers = []; highest = top } })
  taken ← ended_taken w s
  as_counted (length taken.numbers == count) taken
