-- One message after another.
use Rattle.std.proofs.Common.{◌≡◌, ℕ, ◌+◌, ◌<◌, ◌≤◌, max, List, Result, Ok, ap, drop, get_or, length}
use Rattle.std.proofs.lemmas.List.{drop_all}
use Rattle.folder_files.specs.declared.place.Place.{Place}
use Rattle.file_plans.specs.Follows.{Follows, State}
use Rattle.file_plans.specs.Plan.{◌>>=◌}
use Rattle.file_plans.proofs.Following.{done, same_plan}
use Rattle.step_plans.specs.PlanFaults.{plan_cause}
use Rattle.step_plans.specs.declared.fault.PlanFault.{PlanFault}
use Rattle.step_plans.proofs.Rounds.{next}
use Rattle.message_notes.specs.Noting.{message_noted, messages_noted}

module _ (run : ℕ) (p : Place) (lines l : List ℕ) (i : ℕ) where
  pub noted_turn : (n top : ℕ) {x y : State} {r : Result Unit PlanFault} → i < length l → n ≡ get_or l i n
      → Follows run plan_cause (message_noted run p lines n top >>= λ number. messages_noted run p lines (drop (i + 1) l) (max top number)) x y r → Follows run plan_cause (messages_noted run p lines (drop i l) top) x y r
  unfolding messages_noted
  noted_turn n top lt is f = same_plan _ _ (ap (λ ns. messages_noted run p lines ns top) (next l i n lt is)) f

  pub noted_end : (top : ℕ) {x : State} → length l ≤ i → Follows run plan_cause (messages_noted run p lines (drop i l) top) x x (Ok tt)
  unfolding messages_noted
  noted_end top le = rw (drop_all i l le) done
