-- Small parts of plans.
use Rattle.std.proofs.Common.{◌≡◌, ℕ, List, Ok}
use Rattle.folder_files.specs.Story.{FilesState}
use Rattle.file_plans.specs.Follows.{State, Follows, by_hand}
use Rattle.file_plans.specs.Runs.{Cause}
use Rattle.mh_profile.specs.declared.named_value.NamedValue.{NamedValue}
use Rattle.step_plans.specs.Hands.{known, knowing}
use Rattle.file_plans.specs.Plan.{Hand, Note, Return}
use Rattle.file_plans.proofs.Following.{done, noted, recalled}
use Rattle.step_plans.specs.PlanFaults.{plan_cause}

-- a value that is the plan's
pub done_as : {A E : Type 0} {run : ℕ} {cause : E → Cause} {a b : A} {x : State} → b ≡ a → Follows run cause (Return (Ok a)) x x (Ok b)
done_as {run = run} {cause = cause} {a = a} {x = x} e = rw e done

-- the hand knows the context's entries from here on
pub knows : {run : ℕ} (entries : List NamedValue) (h : Hand) {f : FilesState} → Follows run plan_cause (known entries) (by_hand h f) (by_hand (knowing entries h) f) (Ok tt)
unfolding known
knows entries h = recalled (λ i. Note (knowing entries i) (Return (Ok tt))) (noted (knowing entries h) done)
