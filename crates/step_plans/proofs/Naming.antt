-- The hand's next name, and the context's entries in it.
use Rattle.std.proofs.Common.{◌≡◌, ◌<◌, ◌^◌, ℕ, List, nat_lt, Result, Ok, refl}
use Rattle.std.proofs.lemmas.Bool.{lt-ltb}
use Rattle.std.specs.Prelude.{IsErr, IsErrAnd}
use Rattle.mh_profile.specs.declared.named_value.NamedValue.{NamedValue}
use Rattle.folder_files.specs.Story.{FilesState}
use Rattle.file_plans.specs.Plan.{Hand, Return, Note}
use Rattle.file_plans.specs.Follows.{Follows, by_hand}
use Rattle.file_plans.proofs.Following.{recalled, noted, no_room, done}
use Rattle.step_plans.specs.Hands.{used, knowing, temp_name, named_by, named, known}
use Rattle.step_plans.specs.PlanFaults.{plan_cause}
use Rattle.step_plans.specs.declared.fault.PlanFault.{PlanFault}
use Rattle.step_plans.specs.declared.fault.PlanFault.TheVariants as fault

pub named_memory : (run : ℕ) (h j : Hand) (f : FilesState) (r : Result (List ℕ) PlanFault) → h.next < 2 ^ 64 → j ≡ used h → IsErr r × IsErrAnd r (λ e. e ≡ fault.Memory) →
    Follows run plan_cause (named run) (by_hand h f) (by_hand j f) r
unfolding named
named_memory run h j f r lt e is = rw e (recalled (λ i. named_by run i (nat_lt i.next (2 ^ 64))) (rw (lt-ltb h.next (2 ^ 64) lt) (noted (used h) (no_room _ is refl))))

pub named_gives : (run k : ℕ) (h j : Hand) (f : FilesState) (name : List ℕ) → k ≡ h.next → h.next < 2 ^ 64 → j ≡ used h → name ≡ temp_name run k →
    Follows run plan_cause (named run) (by_hand h f) (by_hand j f) (Ok name)
unfolding named
named_gives run k h j f name is lt e n = rw (e, n, is) (recalled (λ i. named_by run i (nat_lt i.next (2 ^ 64))) (rw (lt-ltb h.next (2 ^ 64) lt) (noted (used h) done)))

pub knows : (run : ℕ) (es : List NamedValue) (h j : Hand) (f : FilesState) → j ≡ knowing es h → Follows run plan_cause (known es) (by_hand h f) (by_hand j f) (Ok tt)
unfolding known
knows run es h j f e = rw e (recalled (λ i. Note (knowing es i) (Return (Ok tt))) (noted (knowing es h) done))
