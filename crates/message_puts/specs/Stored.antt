-- Messages that a run put at a number, by its own deeds, the newest first.
use Rattle.std.specs.Prelude.{◌≡◌, ◌⊎◌, ℕ, true, List, decimal}
use Rattle.mh_base.specs.Entries.{kind_of}
use Rattle.folder_files.specs.Careful.{WasReady}
use Rattle.folder_files.specs.Deeds.{Deed, did, Once}
use Rattle.folder_files.specs.Named.{is_number, is_temp_of}
use Rattle.folder_files.specs.declared.place.Place.{Place}
use Rattle.folder_files.specs.declared.step.Answer.TheVariants.{Done, Exists}
use Rattle.folder_files.specs.declared.step.Step.TheVariants.{Link, SyncFolder}

-- the deed linked a file of the run to this number, which it had made with these bytes and made safe
pub record IsPutAt (run : ℕ) (p : Place) (number : ℕ) (bytes : List ℕ) (d : Deed) (older : List Deed) : Type 0 where
  pub temp : List ℕ
  pub linked : d ≡ did (Link p temp (decimal number)) Done
  pub is_own : is_temp_of run (kind_of temp) ≡ true
  pub at_number : is_number (kind_of (decimal number)) ≡ true
  pub ready : WasReady p temp bytes older

-- the run put a message with these bytes at this number
abbrev pub HasPutAt : ℕ → Place → ℕ → List ℕ → List Deed → Type 0
HasPutAt run p number bytes own = Once (IsPutAt run p number bytes) own

-- and then made the directory safe
abbrev pub HasStoredAt : ℕ → Place → ℕ → List ℕ → List Deed → Type 0
HasStoredAt run p number bytes own =
    Once (λ d older. (d ≡ did (SyncFolder p) Done) × HasPutAt run p number bytes older) own

-- the run linked a file to this number, or met one there
abbrev pub HasMetAt : Place → ℕ → List Deed → Type 0
HasMetAt p number own =
    Once
    (λ d older. (temp : List ℕ)
    × ((d ≡ did (Link p temp (decimal number)) Done) ⊎ (d ≡ did (Link p temp (decimal number)) Exists))) own
