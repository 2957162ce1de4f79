-- The moment at which a step was tried.
use Rattle.std.proofs.Common.{◌≡◌, ℕ, List, ◌∷◌, refl}
use Rattle.folder_files.specs.Histories.{world_after, own, IsLive, IsLegal, answers, fails, is_dead, crashes_within, AreCareful}
use Rattle.folder_files.specs.Steps.{made}
use Rattle.folder_files.specs.declared.event.After.{After}
use Rattle.folder_files.specs.declared.event.Event.{Event}
use Rattle.folder_files.specs.declared.event.Event.TheVariants.{Act, Crash}
use Rattle.folder_files.specs.declared.step.Answer.{Answer}
use Rattle.folder_files.specs.declared.step.Step.{Step}
use Rattle.folder_files.specs.declared.world.World.{World}
use Rattle.step_plans.specs.Moments.{IsTriedAt, live, cut}
use Rattle.step_plans.specs.Starts.{HasNoneOfTheirs}
use Rattle.folder_files.proofs.Names.{not_both}
use Rattle.step_plans.proofs.Past.{own_crash}
use Rattle.step_plans.proofs.Crashes.{ended_by}
use Rattle.step_plans.proofs.Law.{within_ended, uncrash}

-- what stood then
pub record WasTried (start : World) (r : ℕ) (moment past : List Event) : Type 0 where
  pub legal : IsLegal start moment
  pub lives : IsLive r (world_after start moment)
  pub deeds : own r past ≡ own r moment

tried_after : (start : World) (r : ℕ) {moment past : List Event} → IsLegal start past → IsTriedAt start r moment past → WasTried start r moment past
tried_after start r l (live lv) = record { legal = l; lives = lv; deeds = refl }
tried_after start r l (cut {v = v} {past = past} o lv) = record { legal = uncrash l; lives = lv; deeds = own_crash r v past }

pub tried : (start : World) (r : ℕ) (s : Step) {a : Answer} {m : After} {moment past : List Event} → IsLegal start (Act r s a m ∷ past) → IsTriedAt start r moment past → WasTried start r moment past
tried start r s (answers _ _ a l lv fits) t = tried_after start r l t
tried start r s (fails _ _ m l lv may) t = tried_after start r l t
tried start r s (is_dead _ _ l over) t = tried_after start r l t
tried start r s (crashes_within v _ _ {past = past} l lv image) (live dead) =
    absurd (not_both ((world_after start (Crash v ∷ past)).ended r) (ended_by start v past r (within_ended r v past (made (world_after start past) r s).ended image.ended)) dead)
tried start r s (crashes_within v _ _ {past = past} l lv image) (cut o alive) = record { legal = l; lives = alive; deeds = own_crash r v past }

pub careful_then : {start : World} {r : ℕ} {moment past : List Event} → IsTriedAt start r moment past → AreCareful past → AreCareful moment
careful_then (live lv) careful = careful
careful_then (cut o lv) careful = careful

pub none_then : {start : World} {r : ℕ} {moment past : List Event} → IsTriedAt start r moment past → HasNoneOfTheirs start past → HasNoneOfTheirs start moment
none_then (live lv) none = none
none_then (cut o lv) none = none
