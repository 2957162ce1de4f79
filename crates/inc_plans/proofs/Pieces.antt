-- A piece of a drop, and what it finishes.
use Rattle.std.proofs.Common.{◌≡◌, ◌++◌, ◌-◌, ◌+◌, ℕ, List, Result, Ok, Err, length, min, refl, sym, ◌∙◌, ap, subst}
use Rattle.std.specs.Prelude.{IsErr, IsErrAnd}
use Rattle.std.proofs.lemmas.List.{length-append}
use Rattle.mbox_drop.specs.Cutting.{HasTaken}
use Rattle.mbox_drop.specs.declared.cutter.DropCutter.{DropCutter}
use Rattle.folder_files.specs.declared.place.FilePath.{FilePath}
use Rattle.file_plans.specs.Follows.{State, Follows}
use Rattle.file_plans.proofs.Following.{done, go, stop}
use Rattle.step_plans.specs.CommandFaults.{command_cause}
use Rattle.step_plans.specs.declared.command_fault.CommandFault.{CommandFault}
use Rattle.command_stages.specs.Values.{IsErrorOf}
use Rattle.command_stages.proofs.Values.{value_off, value_on}
use Rattle.inc_plans.specs.Counting.{PIECE, piece_read}
use Rattle.inc_plans.specs.Cutting.{given_by}
use Rattle.inc_plans.specs.DropTaken.{Where, into, piece_taken}
use Rattle.inc_plans.specs.Passing.{Takes}
use Rattle.inc_plans.specs.declared.taken.Taken.{Taken}

module _ (w : Where) (path : FilePath) (l : ℕ) (d : List ℕ) (taken : Taken) (at : ℕ) (long : length d ≡ at) (asked : ℕ) (is : asked ≡ min (l - at) PIECE) where
  asked_so : (x y : State) (r : Result (List ℕ) CommandFault) → Follows w.run command_cause (piece_read path at asked) x y r → Follows w.run command_cause (piece_read path (length d) (min (l - length d) PIECE)) x y r
  asked_so x y r f = subst (λ n. Follows w.run command_cause (piece_read path n (min (l - n) PIECE)) x y r) (sym long) (subst (λ n. Follows w.run command_cause (piece_read path at n) x y r) is f)

  pub piece_goes : (x y : State) (bytes : List ℕ) → Follows w.run command_cause (piece_read path at asked) x y (Ok bytes) → length bytes ≡ asked → (given : List (List ℕ)) → given_by d bytes ≡ Ok given → (cutter : DropCutter) → HasTaken cutter (d ++ bytes)
      → (z : State) (r : Result Taken CommandFault) → Follows w.run command_cause (into w taken given) y z r → Takes w.run (piece_taken w path l d taken) x z cutter (at + min (l - at) PIECE) r
  unfolding piece_taken
  piece_goes x y bytes f whole given same cutter has z (Ok more) g =
      (d ++ bytes, has, length-append d bytes ∙ (ap (λ n. n + length bytes) long ∙ ap (λ n. at + n) (whole ∙ is)), go _ (asked_so x y (Ok bytes) f) (value_on _ (given_by d bytes) given same (go _ g done)))
  piece_goes x y bytes f whole given same cutter has z (Err e) g = go _ (asked_so x y (Ok bytes) f) (value_on _ (given_by d bytes) given same (stop _ g (refl, refl)))

  pub piece_stops : (x y : State) (e : CommandFault) → Follows w.run command_cause (piece_read path at asked) x y (Err e) → (cutter : DropCutter) (more : ℕ) (r : Result Taken CommandFault) → IsErr r × IsErrAnd r (λ k. k ≡ e)
      → Takes w.run (piece_taken w path l d taken) x y cutter more r
  unfolding piece_taken
  piece_stops x y e f cutter more (Ok t) failed = absurd (let no = failed.0 in cc (no))
  piece_stops x y e f cutter more (Err k) failed = stop _ (asked_so x y (Err e) f) failed

  pub piece_refused : (x y : State) (bytes : List ℕ) → Follows w.run command_cause (piece_read path at asked) x y (Ok bytes) → (e : CommandFault) → IsErrorOf (given_by d bytes) e → (cutter : DropCutter) (more : ℕ) (r : Result Taken CommandFault) → IsErr r × IsErrAnd r (λ k. k ≡ e)
      → Takes w.run (piece_taken w path l d taken) x y cutter more r
  unfolding piece_taken
  piece_refused x y bytes f e refused cutter more (Ok t) failed = absurd (let bad = failed.0 in cc (bad))
  piece_refused x y bytes f e refused cutter more (Err k) failed = go _ (asked_so x y (Ok bytes) f) (value_off _ (given_by d bytes) e (Err k) refused (refl, failed.1))
