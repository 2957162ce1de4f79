-- What a run did with messages that got lines in front, by its own deeds, the newest first.
use Rattle.std.specs.Prelude.{◌≡◌, ◌++◌, ◌∷◌, ℕ, List}
use Rattle.mh_base.specs.Entries.{entry_text}
use Rattle.mh_base.specs.declared.entry.Entry.TheVariants.{Held}
use Rattle.folder_files.specs.Careful.{IsRead, WasTaken}
use Rattle.folder_files.specs.Deeds.{Deed, Once, did}
use Rattle.folder_files.specs.declared.place.Place.{Place}
use Rattle.folder_files.specs.declared.step.Answer.TheVariants.{Done}
use Rattle.folder_files.specs.declared.step.Step.TheVariants.{SyncFolder, Unlink}
use Rattle.message_puts.specs.Stored.{HasStoredAt}

-- it read what stands under this name, and since then it stored these lines, and behind them just what it had read, at
-- this number of the same folder: it put a new file there, and made the folder safe
pub record HasPutAnew (run : ℕ) (p : Place) (name lines : List ℕ) (own : List Deed) : Type 0 where
  pub bytes : List ℕ
  pub number : ℕ
  pub since : List Deed
  pub reading : Deed
  pub before : List Deed
  pub deeds : own ≡ since ++ reading ∷ before
  pub is_reading : IsRead p name bytes reading
  pub stored : HasStoredAt run p number (lines ++ bytes) since

-- the deed let the message of this number go, which the run had held aside and put anew so
pub record IsLetGo (run : ℕ) (p : Place) (n : ℕ) (lines : List ℕ) (d : Deed) (older : List Deed) : Type 0 where
  pub gone : d ≡ did (Unlink p (entry_text (Held run n))) Done
  pub anew : HasPutAnew run p (entry_text (Held run n)) lines older
  pub taken : WasTaken run p (entry_text (Held run n)) anew.before

-- it put the message of this number anew with these lines in front, and made the folder safe after that
abbrev pub HasNoted : ℕ → Place → ℕ → List ℕ → List Deed → Type 0
HasNoted run p n lines own = Once (λ d older. (d ≡ did (SyncFolder p) Done) × Once (IsLetGo run p n lines) older) own
