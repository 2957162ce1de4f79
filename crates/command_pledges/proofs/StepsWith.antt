-- Of whose steps more is asked.
use Rattle.std.proofs.Common.{◌≡◌, ◌∷◌, [], List}
use Rattle.folder_files.specs.Deeds.{Deed}
use Rattle.folder_files.specs.declared.event.Event.{Event}
use Rattle.folder_files.specs.declared.event.Event.TheVariants.{Act, Crash, Deliver, End}
use Rattle.folder_files.specs.declared.step.Step.{Step}
use Rattle.folder_files.specs.declared.step.Step.TheVariants as step
use Rattle.step_plans.specs.Pledges.{Marks, MayAsk, Pledge}
use Rattle.step_plans.specs.Safety.{AtSteps}
use Rattle.step_plans.proofs.KeptPledges.{OwnMay}
use Rattle.opening_plans.proofs.Meeting.{may_with, with_step}

-- what may be asked with more may be asked with less
module _ (w : Pledge) (A : List Deed → Step → Type 0) where
  marked_without : (own : List Deed) (s : Step) → Marks (with_step w A) own s → Marks w own s
  marked_without own (step.Rename p temp name) m = λ is. let k = m is in record { old = k.old; new = k.new; is_base = k.is_base; created = k.created; made = k.made }
  marked_without own s m = tt

  pub may_without : (own : List Deed) (s : Step) → MayAsk (with_step w A) own s → MayAsk w own s
  may_without own s m = record { is_own = m.is_own; marks = marked_without own s m.marks; steps = λ no. (m.steps no).0 }

  -- where each own step meets this besides
  pub own_with : (past : List Event) → AtSteps (λ r. r ≡ w.run) (λ r own s. A own s) past → OwnMay w past → OwnMay (with_step w A) past
  own_with [] f g = tt
  own_with (Act r s a m ∷ past) f g = ((λ is. may_with w A _ s (g.0 is) (f.0 is)), own_with past f.1 g.1)
  own_with (Deliver path piece ∷ past) f g = own_with past f g
  own_with (Crash v ∷ past) f g = own_with past f g
  own_with (End r ∷ past) f g = own_with past f g
