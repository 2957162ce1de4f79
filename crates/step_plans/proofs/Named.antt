-- The temporary names of a run.
use Rattle.std.proofs.Common.{◌≡◌, ℕ, ◌<◌, ◌^◌, true, refl, nat_lt}
use Rattle.std.proofs.lemmas.Bool.Decides.{Decides-ltb}
use Rattle.mh_base.specs.Entries.{kind_of}
use Rattle.mh_base.specs.declared.entry.Entry.TheVariants.{Temp}
use Rattle.mh_base.proofs.EntryKinds.{kind_of-entry_text}
use Rattle.folder_files.specs.Named.{is_temp}
use Rattle.step_plans.specs.Hands.{temp_name}

pub temp_kind : (run k : ℕ) → run < 2 ^ 128 → k < 2 ^ 64 → kind_of (temp_name run k) ≡ Temp run k
temp_kind run k few low = kind_of-entry_text (Temp run k) (few, low)

pub temp_is : (run k : ℕ) → run < 2 ^ 128 → nat_lt k (2 ^ 64) ≡ true → is_temp (kind_of (temp_name run k)) ≡ true
temp_is run k few low = rw (temp_kind run k few ((Decides-ltb k (2 ^ 64)).0 low)) refl
