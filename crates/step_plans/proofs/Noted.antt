-- A command that changes nothing but the context keeps its pledge.
use Rattle.std.proofs.Common.{◌<◌, ◌^◌, [], ℕ, List, Result, refl}
use Rattle.folder_files.specs.Deeds.{Deed}
use Rattle.folder_files.specs.declared.place.Place.TheVariants.{Mail}
use Rattle.file_plans.specs.Follows.{State, Follows}
use Rattle.file_plans.specs.Plan.{Hand}
use Rattle.file_plans.proofs.Framing.{AnyStep}
use Rattle.step_plans.specs.declared.change.ChangeEntry.{ChangeEntry}
use Rattle.step_plans.specs.declared.fault.PlanFault.{PlanFault}
use Rattle.step_plans.specs.ContextCommit.{commit_context}
use Rattle.step_plans.specs.ContextPledge.{context_pledge}
use Rattle.step_plans.specs.PlanFaults.{plan_cause}
use Rattle.step_plans.specs.Promises.{Promises}
use Rattle.step_plans.proofs.Going.{okay, Goes}
use Rattle.step_plans.proofs.Pledged.{IsPledged, Known, Of, commit_goes}
use Rattle.step_plans.proofs.Promising.{goes_promises}
use Rattle.step_plans.proofs.Written.{Serves}

any_deeds : List Deed → Type 0
any_deeds own = Unit {0}

serves_context : (run : ℕ) (path : List ℕ) (cs : List ChangeEntry) → Serves (context_pledge run path cs) (Mail path)
serves_context run path cs = record { serves = λ own kind s k m. (k, m); make = λ own. tt; create = λ own temp bytes is. tt; clear = λ own temp is. tt }

pledges_context : (run : ℕ) (path : List ℕ) (cs : List ChangeEntry) → IsPledged (context_pledge run path cs) (Mail path) cs AnyStep any_deeds
unfolding any_deeds
pledges_context run path cs = record {
  asks = record {
    make = tt;
    lock = tt;
    list = tt;
    clear = λ temp is. tt;
    read = tt;
    create = λ temp bytes. tt;
    sync_file = λ temp. tt;
    rename = λ temp. tt;
    sync = tt;
    unlock = tt;
  };
  keeps = λ own s a any f. tt;
  may = λ later old f. (refl, refl, refl);
  lets = λ later temp f lock m. tt;
}

pub context_goes : (run : ℕ) → run < 2 ^ 128 → (path : List ℕ) (cs : List ChangeEntry) (own : List Deed) (h : Hand)
    → Goes (context_pledge run path cs) own h (commit_context run (Mail path) cs) (okay (Of (Known (context_pledge run path cs) own (Mail path) cs h)))
unfolding any_deeds
context_goes run few path cs own h = commit_goes (context_pledge run path cs) few path (serves_context run path cs) cs AnyStep any_deeds (pledges_context run path cs) own h tt

-- what a call promises that commits the context and does nothing else
pub context_promises : (run : ℕ) → run < 2 ^ 128 → (path : List ℕ) (cs : List ChangeEntry) (x y : State) (result : Result Unit PlanFault)
    → Follows run plan_cause (commit_context run (Mail path) cs) x y result → Promises (context_pledge run path cs) x y
context_promises run few path cs x y result f =
    goes_promises (context_pledge run path cs) plan_cause (commit_context run (Mail path) cs) x y result (okay (Of (Known (context_pledge run path cs) [] (Mail path) cs x.hand))) (context_goes run few path cs [] x.hand) f
