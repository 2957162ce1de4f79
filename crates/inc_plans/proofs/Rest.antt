-- The pieces of a drop one after another, each with what it finishes.
use Rattle.std.proofs.Common.{◌≡◌, ◌<◌, ◌≤◌, ◌+◌, ◌-◌, [], ℕ, zero, suc, List, Result, Ok, Err, length, min, refl, sym, ◌∙◌, ap, subst, arith}
use Rattle.std.specs.Prelude.{IsErr, IsErrAnd}
use Rattle.mbox_drop.specs.Cutting.{HasTaken}
use Rattle.mbox_drop.specs.declared.cutter.DropCutter.{DropCutter}
use Rattle.folder_files.specs.declared.place.FilePath.{FilePath}
use Rattle.file_plans.specs.Plan.{◌>>=◌}
use Rattle.file_plans.specs.Follows.{State, Follows}
use Rattle.file_plans.proofs.Following.{done, go, same_plan, stop}
use Rattle.step_plans.specs.CommandFaults.{command_cause}
use Rattle.step_plans.specs.declared.command_fault.CommandFault.{CommandFault}
use Rattle.inc_plans.specs.Counting.{PIECE}
use Rattle.inc_plans.specs.DropTaken.{Read, Where, piece_taken, rest_taken}
use Rattle.inc_plans.specs.Passing.{Takes}
use Rattle.inc_plans.specs.declared.taken.Taken.{Taken}
use Rattle.inc_plans.proofs.Tests.{below, not_below}

module _ (w : Where) (path : FilePath) (l : ℕ) where
  next_is : (left : ℕ) (s : Read) → length s.bytes < l → rest_taken w path l (suc left) s ≡ piece_taken w path l s.bytes s.taken >>= (λ more. rest_taken w path l left more)
  unfolding rest_taken
  next_is left s lt = rw (below (length s.bytes) l lt) refl

  rest_done : (left : ℕ) (s : Read) {x : State} → l ≤ length s.bytes → Follows w.run command_cause (rest_taken w path l left s) x x (Ok s)
  unfolding rest_taken
  rest_done zero s le = done
  rest_done (suc left) s le = rw (not_below (length s.bytes) l le) done

  one_more_left : (at left : ℕ) → at < l → l ≤ at + left → (k : ℕ) × (left ≡ suc k)
  one_more_left at zero lt le = absurd (omega (arith, lt, le))
  one_more_left at (suc k) lt le = (k, refl)

  then_rest : (left : ℕ) (s more : Read) (x y z : State) (cutter : DropCutter) (r : Result Taken CommandFault) → length s.bytes < l → Follows w.run command_cause (piece_taken w path l s.bytes s.taken) x y (Ok more)
      → Takes w.run (rest_taken w path l left more) y z cutter l r → Takes w.run (rest_taken w path l (suc left) s) x z cutter l r
  then_rest left s more x y z cutter (Ok t) lt f g = (g.0, g.1, g.2, same_plan _ _ (next_is left s lt) (go _ f g.3))
  then_rest left s more x y z cutter (Err e) lt f g = same_plan _ _ (next_is left s lt) (go _ f g)

  abbrev so_far : List ℕ → Taken → Read
  so_far bytes taken = record { bytes = bytes; taken = taken }

  -- the cutter took so many bytes, and these messages were taken in; what completes the rest completes all
  pub record IsOn (fuel : ℕ) (s : Read) (x now : State) (cutter : DropCutter) (taken : Taken) (at : ℕ) : Type 0 where
    pub bytes : List ℕ
    pub left : ℕ
    pub has : HasTaken cutter bytes
    pub long : length bytes ≡ at
    pub enough : l ≤ at + left
    pub within : at ≤ l
    pub completes : (z : State) (new : DropCutter) (r : Result Taken CommandFault) → Takes w.run (rest_taken w path l left (so_far bytes taken)) now z new l r → Takes w.run (rest_taken w path l fuel s) x z new l r

  pub on_none : (taken : Taken) (x : State) (cutter : DropCutter) → HasTaken cutter [] → IsOn l (so_far [] taken) x x cutter taken 0
  on_none taken x cutter has = record { bytes = []; left = l; has = has; long = refl; enough = omega arith; within = omega arith; completes = λ z new r p. p }

  module _ (fuel : ℕ) (s : Read) (x now : State) (cutter : DropCutter) (taken : Taken) (at : ℕ) (h : IsOn fuel s x now cutter taken at) where
    pub on_more : at < l → (step : ℕ) → step ≡ min (l - at) PIECE → (y : State) (new : DropCutter) (t : Taken) → ((d : List ℕ) → HasTaken cutter d → length d ≡ at → Takes w.run (piece_taken w path l d taken) now y new (at + min (l - at) PIECE) (Ok t))
        → IsOn fuel s x y new t (at + step)
    on_more lt step is y new t piece =
        let p = piece h.bytes h.has h.long in
        let k = one_more_left at h.left lt h.enough in
        let le : step ≤ l - at = omega (arith, is) in
        let some : 1 ≤ step = omega (arith, is, lt) in
        let enough = h.enough in
        record {
          bytes = p.0;
          left = k.0;
          has = p.1;
          long = p.2 ∙ ap (λ n. at + n) (sym is);
          enough = (let two = k.1 in omega (arith, enough, two, some));
          within = omega (arith, le, lt);
          completes = λ z last r rest. h.completes z last r
              (subst (λ n. Takes w.run (rest_taken w path l n (so_far h.bytes taken)) now z last l r) (sym k.1) (then_rest k.0 (so_far h.bytes taken) (so_far p.0 t) now y z last r (rw h.long lt) p.3 rest));
        }

    pub on_stop : at < l → (y : State) (new : DropCutter) (e : CommandFault) → ((d : List ℕ) → HasTaken cutter d → length d ≡ at → Takes w.run (piece_taken w path l d taken) now y new (at + min (l - at) PIECE) (Err e)) → (r : Result Taken CommandFault) → IsErr r × IsErrAnd r (λ k. k ≡ e)
        → Takes w.run (rest_taken w path l fuel s) x y new l r
    on_stop lt y new e piece (Ok t) failed = absurd (let bad = failed.0 in cc (bad))
    on_stop lt y new e piece (Err k) failed =
        let n = one_more_left at h.left lt h.enough in
        h.completes y new (Err k)
        (subst (λ m. Takes w.run (rest_taken w path l m (so_far h.bytes taken)) now y new l (Err k)) (sym n.1)
        (same_plan _ _ (next_is n.0 (so_far h.bytes taken) (rw h.long lt)) (stop _ (piece h.bytes h.has h.long) failed)))

    pub on_all : l ≤ at → Takes w.run (rest_taken w path l fuel s) x now cutter l (Ok taken)
    on_all le = let within = h.within in h.completes now cutter (Ok taken) (h.bytes, h.has, h.long ∙ omega (arith, le, within), rest_done h.left (so_far h.bytes taken) (rw h.long le))
