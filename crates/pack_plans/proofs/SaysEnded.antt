-- The end of a command that says a text which its own deeds tell: the lock's fall changes nothing of what was said.
use Rattle.std.proofs.Common.{◌++◌, ◌∷◌, [], ℕ, List, Result, Ok, Err, sym, subst}
use Rattle.folder_files.specs.Deeds as deeds
use Rattle.folder_files.specs.declared.place.Place.{Place}
use Rattle.folder_files.specs.declared.step.Answer.{Answer}
use Rattle.folder_files.specs.declared.step.Answer.TheVariants.{Failed}
use Rattle.folder_files.specs.declared.step.Step.TheVariants as step
use Rattle.file_plans.specs.Asking.{attempt_unlock, unlock}
use Rattle.file_plans.specs.Plan.{Hand, Return, ask, attempt, bind, lifted, ◌>>=◌}
use Rattle.file_plans.specs.Rules.{IfOkay, Keeps}
use Rattle.file_plans.specs.Runs.{Deed, Did}
use Rattle.file_plans.specs.Text.{said_of}
use Rattle.file_plans.proofs.Acting.{acts, acts_append}
use Rattle.file_plans.proofs.Framing.{AnyStep}
use Rattle.step_plans.specs.declared.command_fault.CommandFault.{CommandFault}
use Rattle.step_plans.specs.declared.command_fault.CommandFault.TheVariants as fault
use Rattle.step_plans.proofs.Lasting.{KeptBy}
use Rattle.opening_plans.specs.Ending.{ended, finished, given_up}
use Rattle.opening_plans.specs.Endings.{IsToldBy}
use Rattle.opening_plans.proofs.Speaking.{said_did, speaking, told_did}

-- at its end all that it said is such a text
abbrev pub Ends : (List ℕ → List deeds.Deed → Type 0) → List Deed → Hand → Result Unit CommandFault → Type 0
Ends T later j r = IfOkay (λ last i u. T (said_of last) (acts last)) later j r

module _ (T : List ℕ → List deeds.Deed → Type 0) (kept : (text : List ℕ) → KeptBy AnyStep (T text)) (p : Place) where
  abbrev Told : List Deed → Type 0
  Told past = IsToldBy T (said_of past) (acts past)

  pub stops : (later : List Deed) (j : Hand) (e : CommandFault) → Told later → Keeps (speaking T) later j (Return (Err e)) (Ends T)
  unfolding Keeps
  stops later j e told = (told, tt)

  unlocked : (later : List Deed) (b : Answer) → T (said_of later) (acts later) → T (said_of (later ++ Did (step.Unlock p) b ∷ [])) (acts (later ++ Did (step.Unlock p) b ∷ []))
  unlocked later b t =
      subst (λ z. T z (acts (later ++ Did (step.Unlock p) b ∷ []))) (sym (said_did later (step.Unlock p) b))
      (subst (T (said_of later)) (sym (acts_append [] later (Did (step.Unlock p) b ∷ []))) (kept (said_of later) (acts later) (step.Unlock p) b tt t))

  pub at_end : (later : List Deed) (j : Hand) (r : Result Unit CommandFault) → Told later → Ends T later j r → Keeps (speaking T) later j (ended p r) (Ends T)
  unfolding Keeps finished given_up unlock ask attempt_unlock attempt lifted bind ◌>>=◌
  at_end later j (Ok u) told s =
      (told, tt, told_did T kept later (step.Unlock p) Failed told, λ b row live. (told_did T kept later (step.Unlock p) b told, unlocked later b s))
  at_end later j (Err (fault.Refused r)) told s = (told, tt, λ b row. (told_did T kept later (step.Unlock p) b told, tt))
  at_end later j (Err (fault.Faulted which)) told s = (told, tt)
  at_end later j (Err (fault.Locked q)) told s = (told, tt, λ b row. (told_did T kept later (step.Unlock p) b told, tt))
  at_end later j (Err (fault.Meddled q x)) told s = (told, tt)
  at_end later j (Err fault.Memory) told s = (told, tt)
