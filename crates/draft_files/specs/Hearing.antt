-- The input, as a command reads it whole.
use Rattle.std.specs.Prelude.{ℕ, zero, suc, List, [], ◌∷◌, ◌++◌, length, Ok, Err}
use Rattle.mh_base.specs.declared.streams.SourceFault.{SourceFault}
use Rattle.mh_base.specs.declared.streams.SourceFault.TheVariants as source
use Rattle.folder_files.specs.declared.refusal.Which.TheVariants.{Source}
use Rattle.file_plans.specs.Plan.{Return, hear, lifted, ◌>>=◌}
use Rattle.step_plans.specs.declared.command_fault.CommandFault.{CommandFault}
use Rattle.step_plans.specs.declared.command_fault.CommandFault.TheVariants as fault
use Rattle.command_stages.specs.Texts.{Commanded, too_large}
use Rattle.draft_files.specs.Limits.{within_limit}

-- the greatest piece that is asked for, in bytes
abbrev pub PIECE_BYTES : ℕ
PIECE_BYTES = 65536

abbrev pub of_source : SourceFault → CommandFault
of_source source.Failed = fault.Faulted Source
of_source source.Memory = fault.Memory

unfoldable pub piece_heard : Commanded (List ℕ)
piece_heard = lifted of_source (hear PIECE_BYTES)

-- a piece behind these bytes, with which it goes on unless they are too many now: the empty one ends the input
abbrev pub heard_by : (List ℕ → Commanded (List ℕ)) → List ℕ → List ℕ → Commanded (List ℕ)
heard_by next bytes [] = Return (Ok bytes)
heard_by next bytes (c ∷ piece) = Return (within_limit (bytes ++ c ∷ piece)) >>= next

-- so many pieces may come behind these bytes
unfoldable pub heard_behind : ℕ → List ℕ → Commanded (List ℕ)
heard_behind zero bytes = Return (Err (too_large (length bytes)))
heard_behind (suc pieces) bytes = do
  piece ← piece_heard
  heard_by (λ more. heard_behind pieces more) bytes piece

-- more pieces than the limit has bytes: each but the last has one, so these are never all asked for
abbrev pub PIECES : ℕ
PIECES = 67108866

-- the input to its end, or to the first piece that makes it too long
unfoldable pub all_heard : Commanded (List ℕ)
all_heard = heard_behind PIECES []
