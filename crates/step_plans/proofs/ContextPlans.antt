-- Branches of the plan by which changes of the context are committed.
use Rattle.std.proofs.Common.{◌≡◌, ◌<◌, ◌≤◌, ℕ, List, Bool, true, false, Result, Ok, Err, refl, sym, length}
use Rattle.std.proofs.lemmas.Bool.{lt-ltb, le-ltb}
use Rattle.folder_files.specs.Story.{FilesState}
use Rattle.folder_files.specs.declared.place.Place.{Place}
use Rattle.file_plans.specs.Plan.{Hand}
use Rattle.file_plans.specs.Follows.{State, Follows, by_hand}
use Rattle.file_plans.proofs.Following.{recalled, done, refuses}
use Rattle.step_plans.specs.ContextCommit.{LIMIT_BYTES, context_name, context_replaced, settled, committed, commit_by, commit_context}
use Rattle.step_plans.specs.PlanFaults.{plan_cause}
use Rattle.step_plans.specs.Replacing.{replaced}
use Rattle.step_plans.specs.declared.change.ChangeEntry.{ChangeEntry}
use Rattle.step_plans.specs.declared.fault.PlanFault.{PlanFault}
use Rattle.step_plans.specs.declared.fault.PlanFault.TheVariants as fault

-- a text that is too long
pub too_long : (run : ℕ) (p : Place) (text : List ℕ) (n : ℕ) {x : State} → n ≡ length text → LIMIT_BYTES < n → Follows run plan_cause (context_replaced run p text) x x (Err (fault.TooLarge n))
unfolding context_replaced
too_long run p text n e h = rw (sym e, lt-ltb LIMIT_BYTES n h) (refuses _ refl)

-- a text that is not
pub not_long : (run : ℕ) (p : Place) (text : List ℕ) (n : ℕ) {x y : State} {r : Result Unit PlanFault} → n ≡ length text → n ≤ LIMIT_BYTES → Follows run plan_cause (replaced run p context_name text) x y r → Follows run plan_cause (context_replaced run p text) x y r
unfolding context_replaced
not_long run p text n e h f = rw (sym e, le-ltb _ _ h) f

-- the entries say so already
pub settles : {run : ℕ} (p : Place) (cs : List ChangeEntry) (h : Hand) (f : FilesState) (b : Bool) → b ≡ settled cs h.context → b ≡ true → Follows run plan_cause (commit_context run p cs) (by_hand h f) (by_hand h f) (Ok tt)
unfolding commit_context
settles {run = run} p cs h f b e t = recalled (λ i. commit_by run p cs (settled cs i.context)) (rw (sym e, t) done)

-- they do not
pub commits : {run : ℕ} (p : Place) (cs : List ChangeEntry) (h : Hand) (f : FilesState) (b : Bool) {y : State} {r : Result Unit PlanFault} → b ≡ settled cs h.context → b ≡ false → Follows run plan_cause (committed run p cs) (by_hand h f) y r → Follows run plan_cause (commit_context run p cs) (by_hand h f) y r
unfolding commit_context
commits {run = run} p cs h f b e t w = recalled (λ i. commit_by run p cs (settled cs i.context)) (rw (sym e, t) w)
