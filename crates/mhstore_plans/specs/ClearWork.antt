-- A current directory in which a run can store files.
use Rattle.std.specs.Prelude.{◌≡◌, ◌<◌, ◌^◌, ℕ, true, None}
use Rattle.folder_files.specs.declared.place.Place.TheVariants.{Work}
use Rattle.file_plans.specs.Contents.{Contents}
use Rattle.step_plans.specs.Hands.{temp_name}

-- it is there, and no file of it has a temporary name of the run
pub record HasClearWork (run : ℕ) (c : Contents) : Type 0 where
  pub there : c.there Work ≡ true
  pub free : (k : ℕ) → k < 2 ^ 64 → c.texts Work (temp_name run k) ≡ None
