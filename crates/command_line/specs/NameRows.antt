-- Commands by rows of names.
use Rattle.std.specs.Prelude.{ℕ, List, [], ◌∷◌, Option, None, Some, bytes_eq, if◌then◌else◌}
use Rattle.std.specs.Borrow.{Bor}
use Rattle.command_plans.specs.declared.name.CommandName.{CommandName}

-- the command of the first row with this name
abbrev pub found : List ℕ → List (Bor (List ℕ) × CommandName) → Option CommandName
found word [] = None
found word (row ∷ rows) = if bytes_eq word row.0.now then Some row.1 else found word rows
