-- What a run did with messages that go to other folders, by its own deeds, the newest first.
use Rattle.std.specs.Prelude.{◌≡◌, ◌++◌, ◌∷◌, ℕ, List, Contains}
use Rattle.mh_base.specs.Entries.{entry_text}
use Rattle.mh_base.specs.declared.entry.Entry.TheVariants.{Held}
use Rattle.folder_files.specs.Careful.{IsRead, WasTaken}
use Rattle.folder_files.specs.Deeds.{Deed, Once, did}
use Rattle.folder_files.specs.declared.place.Place.{Place}
use Rattle.folder_files.specs.declared.step.Answer.TheVariants.{Done}
use Rattle.folder_files.specs.declared.step.Step.TheVariants.{SyncFolder, Unlink}
use Rattle.message_puts.specs.Stored.{HasStoredAt}

-- it read what stands under this name, and since then it stored a message with just these bytes in each of these
-- folders: it put a new file at a number there, and made the folder safe
pub record HasCopied (run : ℕ) (p : Place) (name : List ℕ) (folders : List Place) (own : List Deed) : Type 0 where
  pub bytes : List ℕ
  pub since : List Deed
  pub reading : Deed
  pub before : List Deed
  pub deeds : own ≡ since ++ reading ∷ before
  pub is_reading : IsRead p name bytes reading
  pub stored : (q : Place) → Contains folders q → (m : ℕ) × HasStoredAt run q m bytes since

-- the deed let the message of this number go, which the run had held aside and then copied so
pub record IsLetGo (run : ℕ) (p : Place) (n : ℕ) (folders : List Place) (d : Deed) (older : List Deed) : Type 0 where
  pub gone : d ≡ did (Unlink p (entry_text (Held run n))) Done
  pub copied : HasCopied run p (entry_text (Held run n)) folders older
  pub taken : WasTaken run p (entry_text (Held run n)) copied.before

-- it refiled the message of this number to these folders, and made its own folder safe after that
abbrev pub HasRefiled : ℕ → Place → ℕ → List Place → List Deed → Type 0
HasRefiled run p n folders own =
    Once (λ d older. (d ≡ did (SyncFolder p) Done) × Once (IsLetGo run p n folders) older) own
