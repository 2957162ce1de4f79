-- In a legal history each name leads to a file that is there.
use Rattle.std.proofs.Common.{ℕ, Bool, List, [], ◌∷◌, sym, ◌∙◌, subst}
use Rattle.folder_files.specs.CrashImage.{IsCrashImage}
use Rattle.folder_files.specs.Histories.{IsLegal, begins, answers, fails, is_dead, delivers, crashes, crashes_within, stops, world_after}
use Rattle.folder_files.specs.Steps.{made, unmade}
use Rattle.folder_files.specs.Worlds.{WorldMap, shown, IsStart}
use Rattle.folder_files.specs.declared.event.After.{After}
use Rattle.folder_files.specs.declared.event.After.TheVariants as after
use Rattle.folder_files.specs.declared.event.Event.{Event}
use Rattle.folder_files.specs.declared.event.Event.TheVariants.{Act, Crash}
use Rattle.folder_files.specs.declared.step.Answer.{Answer}
use Rattle.folder_files.specs.declared.step.Answer.TheVariants.{Failed}
use Rattle.folder_files.specs.declared.step.Step.{Step}
use Rattle.folder_files.specs.declared.step.Step.TheVariants as step
use Rattle.folder_files.specs.declared.world.World.{World}
use Rattle.folder_files.proofs.Beginning.{nothing_pending, all_known}
use Rattle.folder_files.proofs.Changes.{step_goes, goes_below, kept_below, next_grows}
use Rattle.folder_files.proofs.Effects.{IsNext, answered, failed, refused, left_goes, left_grows, world_next}
use Rattle.file_plans.proofs.Contents.{AreBelow}

crash_below : (w v : WorldMap) (acted : ℕ → Bool) → IsCrashImage w v acted → AreBelow w → AreBelow v
crash_below w v acted image b = λ p. record {
  safe = λ n f e. rw image.next_file (kept_below w.next_file (w.directories p).safe (w.directories p).pending (image.directories p).keep (b p).safe (b p).pending n f (sym ((image.directories p).slots n) ∙ e));
  pending = rw (image.directories p).nothing_pending tt;
}

made_below : (w : WorldMap) (r : ℕ) (s : Step) → AreBelow w → AreBelow (made w r s)
unfolding made
made_below w r s b = λ p. goes_below w.next_file _ _ (w.directories p) (next_grows w s) (step_goes w s p) (b p)

unmade_below : (w : WorldMap) (r : ℕ) (s : Step) → AreBelow w → AreBelow (unmade w r s)
unfolding made
unmade_below w r (step.Unlock p) b = b
unmade_below w r s b = b

next_below : (start : World) (past : List Event) (r : ℕ) (s : Step) (a : Answer) (m : After) → IsNext (world_after start past) r s a m → AreBelow (world_after start past) → AreBelow (world_after start (Act r s a m ∷ past))
next_below start past r s a m nx b =
    subst AreBelow (sym (world_next start r s a m past nx)) (λ p. goes_below (world_after start past).next_file _ _ ((world_after start past).directories p) (left_grows (world_after start past) s m) (left_goes (world_after start past) s m p) (b p))

within_below : (start v : World) (past : List Event) (r : ℕ) (s : Step) → AreBelow (shown v) → AreBelow (world_after start (Act r s Failed after.Before ∷ (Crash v ∷ past)))
unfolding world_after
within_below start v past r s b = unmade_below (shown v) r s b

crash_at : (start v : World) (past : List Event) → AreBelow (shown v) → AreBelow (world_after start (Crash v ∷ past))
unfolding world_after
crash_at start v past b = b

first_below : (start : World) → IsStart start → AreBelow (world_after start [])
unfolding world_after
first_below start st = λ p. record { safe = λ n f e. all_known start st p n f e; pending = rw (nothing_pending start st p) tt }

pub legal_below : (start : World) → IsStart start → (past : List Event) → IsLegal start past → AreBelow (world_after start past)
unfolding world_after
legal_below start st _ begins = first_below start st
legal_below start st _ (answers r s a {past = past} l live fits) = next_below start past r s a after.Made (answered a live fits) (legal_below start st past l)
legal_below start st _ (fails r s m {past = past} l live may) = next_below start past r s Failed m (failed m live may) (legal_below start st past l)
legal_below start st _ (is_dead r s {past = past} l dead) = next_below start past r s Failed after.Before (refused dead) (legal_below start st past l)
legal_below start st _ (delivers path piece {past = past} l) = legal_below start st past l
legal_below start st _ (crashes v {past = past} l image) = crash_at start v past (crash_below (world_after start past) (shown v) _ image (legal_below start st past l))
legal_below start st _ (crashes_within v r s {past = past} l live image) =
    within_below start v past r s (crash_below (made (world_after start past) r s) (shown v) _ image (made_below (world_after start past) r s (legal_below start st past l)))
legal_below start st _ (stops r {past = past} l) = legal_below start st past l
