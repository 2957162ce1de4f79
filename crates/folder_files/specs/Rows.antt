-- Which answers each step may have.
use Rattle.std.specs.Prelude.{ℕ, ◌≤◌, length}
use Rattle.folder_files.specs.declared.step.Step.{Step}
use Rattle.folder_files.specs.declared.step.Step.TheVariants as step
use Rattle.folder_files.specs.declared.step.Answer.{Answer}
use Rattle.folder_files.specs.declared.step.Answer.TheVariants.{Done, Names, Content, Piece, Long, Gone, Exists, Busy, Grown, Failed}

-- the names, or no such directory; or failed
abbrev pub IsNamesRow : Answer → Type 0
IsNamesRow (Names ns) = Unit {0}
IsNamesRow Gone = Unit {0}
IsNamesRow Failed = Unit {0}
IsNamesRow other = ⊥

-- the bytes, or the length of a longer file, or no such file; or failed
abbrev pub IsReadRow : Answer → Type 0
IsReadRow (Content b) = Unit {0}
IsReadRow (Long l) = Unit {0}
IsReadRow Gone = Unit {0}
IsReadRow Failed = Unit {0}
IsReadRow other = ⊥

-- made, or there already; or failed
abbrev pub IsMakeRow : Answer → Type 0
IsMakeRow Done = Unit {0}
IsMakeRow Exists = Unit {0}
IsMakeRow Failed = Unit {0}
IsMakeRow other = ⊥

-- made, or the name is taken, or no such name or directory; or failed
abbrev pub IsNewRow : Answer → Type 0
IsNewRow Done = Unit {0}
IsNewRow Gone = Unit {0}
IsNewRow Exists = Unit {0}
IsNewRow Failed = Unit {0}
IsNewRow other = ⊥

-- done, or no such name or directory; or failed
abbrev pub IsOldRow : Answer → Type 0
IsOldRow Done = Unit {0}
IsOldRow Gone = Unit {0}
IsOldRow Failed = Unit {0}
IsOldRow other = ⊥

-- held, or held by another run, or no such directory; or failed
abbrev pub IsLockRow : Answer → Type 0
IsLockRow Done = Unit {0}
IsLockRow Gone = Unit {0}
IsLockRow Busy = Unit {0}
IsLockRow Failed = Unit {0}
IsLockRow other = ⊥

-- let go; or failed
abbrev pub IsUnlockRow : Answer → Type 0
IsUnlockRow Done = Unit {0}
IsUnlockRow Failed = Unit {0}
IsUnlockRow other = ⊥

-- cut, or of another length, or no such file; or failed
abbrev pub IsCutRow : Answer → Type 0
IsCutRow Done = Unit {0}
IsCutRow Gone = Unit {0}
IsCutRow Grown = Unit {0}
IsCutRow Failed = Unit {0}
IsCutRow other = ⊥

-- a piece of at most so many bytes, or no such file; or failed
abbrev pub IsPieceRow : ℕ → Answer → Type 0
IsPieceRow most (Piece b l) = length b ≤ most
IsPieceRow most Gone = Unit {0}
IsPieceRow most Failed = Unit {0}
IsPieceRow most other = ⊥

-- an answer that this step may have
abbrev pub IsAnswerOf : Step → Answer → Type 0
IsAnswerOf (step.List place) a = IsNamesRow a
IsAnswerOf (step.Read place name limit) a = IsReadRow a
IsAnswerOf (step.MakeFolder place) a = IsMakeRow a
IsAnswerOf (step.Create place name bytes) a = IsNewRow a
IsAnswerOf (step.SyncFile place name) a = IsOldRow a
IsAnswerOf (step.SyncFolder place) a = IsOldRow a
IsAnswerOf (step.Link place from to) a = IsNewRow a
IsAnswerOf (step.Rename place from to) a = IsOldRow a
IsAnswerOf (step.Unlink place name) a = IsOldRow a
IsAnswerOf (step.Lock place) a = IsLockRow a
IsAnswerOf (step.Unlock place) a = IsUnlockRow a
IsAnswerOf (step.ReadFile path limit) a = IsReadRow a
IsAnswerOf (step.ReadDrop path from most) a = IsPieceRow most a
IsAnswerOf (step.CutDrop path length_) a = IsCutRow a
