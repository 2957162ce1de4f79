-- Held names whose file was given a number.
use Rattle.std.specs.Prelude.{◌≡◌, ℕ, true, List, ◌∷◌, None}
use Rattle.mh_base.specs.Entries.{kind_of}
use Rattle.folder_files.specs.Directory.{now_in}
use Rattle.folder_files.specs.Histories.{world_after}
use Rattle.folder_files.specs.Named.{is_number, is_held}
use Rattle.folder_files.specs.declared.event.After.TheVariants.{Made}
use Rattle.folder_files.specs.declared.event.Event.{Event}
use Rattle.folder_files.specs.declared.event.Event.TheVariants.{Act}
use Rattle.folder_files.specs.declared.place.Place.{Place}
use Rattle.folder_files.specs.declared.step.Answer.{Answer}
use Rattle.folder_files.specs.declared.step.Step.TheVariants.{Link, SyncFolder}
use Rattle.folder_files.specs.declared.world.World.{World}
use Rattle.step_plans.specs.Moments.{Leads, IsNoCrash}

-- a held name is spent: since the last crash its file was given a free number
pub data IsSpent (start : World) (p : Place) (held : List ℕ) : List Event → Type 0 where
  now : {run f : ℕ} {number : List ℕ} {a : Answer} {past : List Event} → is_held (kind_of held) ≡ true
      → is_number (kind_of number) ≡ true
      → Leads start past p held f → now_in ((world_after start past).directories p) number ≡ None
      → IsSpent start p held (Act run (Link p held number) a Made ∷ past)
  on : {e : Event} {past : List Event} → IsNoCrash e → IsSpent start p held past → IsSpent start p held (e ∷ past)

-- a held name is clear: it was spent, and then its folder was synced, since the last crash
pub data IsClear (start : World) (p : Place) (held : List ℕ) : List Event → Type 0 where
  now : {run : ℕ} {a : Answer} {past : List Event} → IsSpent start p held past
      → IsClear start p held (Act run (SyncFolder p) a Made ∷ past)
  on : {e : Event} {past : List Event} → IsNoCrash e → IsClear start p held past → IsClear start p held (e ∷ past)
