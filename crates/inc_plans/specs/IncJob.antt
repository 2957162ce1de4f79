-- What `inc` is to do, as plans see it.
use Rattle.std.specs.Prelude.{ℕ, Bool, List}
use Rattle.folder_files.specs.declared.place.FilePath.{FilePath}
use Rattle.message_lines.specs.MessageText.{Writing}
use Rattle.message_lines.specs.declared.standing.Standing.{Standing}

-- the folder; the drop; whether this is cut to nothing at last; whether nothing is written; whether the first new
-- message becomes the current one; the sequences to which the new messages come; and what is written of a message that
-- stands so
pub record IncJob : Type 0 where
  pub folder : List ℕ
  pub drop : FilePath
  pub truncate : Bool
  pub silent : Bool
  pub change_cur : Bool
  pub unseen : List (List ℕ)
  pub spoken : Standing → Writing
