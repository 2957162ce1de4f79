-- A message leaves its folder.
use Rattle.std.specs.Prelude.{ℕ, Bool, true, false}
use Rattle.mh_base.specs.Entries.{entry_text}
use Rattle.mh_base.specs.declared.entry.Entry.TheVariants.{Number, Backup}
use Rattle.folder_files.specs.declared.place.Place.{Place}
use Rattle.step_plans.specs.Locking.{removed}
use Rattle.step_plans.specs.PlanFaults.{Planned}
use Rattle.step_plans.specs.Replacing.{renamed}

-- the message of this number has its backup's name from now on, or none
abbrev pub message_removed : Place → ℕ → Bool → Planned Unit
message_removed p n true = renamed p (entry_text (Number n)) (entry_text (Backup n))
message_removed p n false = removed p (entry_text (Number n))
