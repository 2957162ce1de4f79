-- One piece of a drop after another.
use Rattle.std.proofs.Common.{◌≡◌, ◌<◌, ◌≤◌, ◌+◌, ◌-◌, ◌++◌, ℕ, zero, suc, Bool, true, false, List, [], Option, Some, None, Result, Ok, Err, length, min, refl, sym, ◌∙◌, ap, subst, arith}
use Rattle.std.specs.Prelude.{IsErr, IsErrAnd}
use Rattle.std.proofs.lemmas.List.{length-append}
use Rattle.mbox_drop.specs.Counting.{HasCounted}
use Rattle.mbox_drop.specs.Drops.{is_drop, messages}
use Rattle.mbox_drop.specs.Long.{first_long}
use Rattle.mbox_drop.specs.declared.counter.DropCounter.{DropCounter}
use Rattle.folder_files.specs.declared.place.FilePath.{FilePath}
use Rattle.file_plans.specs.Plan.{Return, ◌>>=◌}
use Rattle.file_plans.specs.Follows.{State, Follows}
use Rattle.file_plans.proofs.Following.{done, go, refuses, same_plan, stop}
use Rattle.step_plans.specs.CommandFaults.{command_cause}
use Rattle.step_plans.specs.declared.command_fault.CommandFault.{CommandFault}
use Rattle.inc_plans.specs.Counting.{PIECE, counted_by, drop_counted, drop_read, head_read, piece_read, rest_read, size_if, IsHead}
use Rattle.inc_plans.specs.Passing.{Passes}
use Rattle.inc_plans.specs.declared.size.DropSize.{DropSize}
use Rattle.inc_plans.specs.declared.drop_head.Head.{Head}
use Rattle.inc_plans.proofs.Tests.{below, not_below}

module _ (run : ℕ) (path : FilePath) (l : ℕ) where
  -- while something is left, the next piece and then the rest
  next_is : (left : ℕ) (d : List ℕ) → length d < l
      → rest_read path l (suc left) d ≡ piece_read path (length d) (min (l - length d) PIECE) >>= (λ bytes. rest_read path l left (d ++ bytes))
  unfolding rest_read
  next_is left d lt = rw (below (length d) l lt) refl

  passes_next : (left : ℕ) (d bytes : List ℕ) (x y z : State) (r : Result DropCounter CommandFault) → length d < l
      → Follows run command_cause (piece_read path (length d) (min (l - length d) PIECE)) x y (Ok bytes) → Passes run l (rest_read path l left (d ++ bytes)) y z r → Passes run l (rest_read path l (suc left) d) x z r
  passes_next left d bytes x y z (Ok counter) lt f g = (g.0, g.1, g.2, same_plan _ _ (next_is left d lt) (go _ f g.3))
  passes_next left d bytes x y z (Err e) lt f g = same_plan _ _ (next_is left d lt) (go _ f g)

  passes_stop : (left : ℕ) (d : List ℕ) (x y : State) (e : CommandFault) (r : Result DropCounter CommandFault) → length d < l
      → Follows run command_cause (piece_read path (length d) (min (l - length d) PIECE)) x y (Err e) → IsErr r × IsErrAnd r (λ k. k ≡ e) → Passes run l (rest_read path l (suc left) d) x y r
  passes_stop left d x y e (Ok counter) lt f is = absurd (let no = is.0 in cc (no))
  passes_stop left d x y e (Err k) lt f is = same_plan _ _ (next_is left d lt) (stop _ f (refl, is.1))

  -- where nothing is left
  rest_done : (left : ℕ) (d : List ℕ) {x : State} → l ≤ length d → Follows run command_cause (rest_read path l left d) x x (Ok d)
  unfolding rest_read
  rest_done zero d le = done
  rest_done (suc left) d le = rw (not_below (length d) l le) done

  -- something is left only where a piece is
  one_more_left : (at left : ℕ) → at < l → l ≤ at + left → (k : ℕ) × (left ≡ suc k)
  one_more_left at zero lt le = absurd (omega (arith, lt, le))
  one_more_left at (suc k) lt le = (k, refl)

  -- so many bytes were read and counted of a drop of which some were counted before; what completes the rest completes all
  pub record HasRead (fuel : ℕ) (d : List ℕ) (x now : State) (counter : DropCounter) (at : ℕ) : Type 0 where
    pub bytes : List ℕ
    pub left : ℕ
    pub counted : HasCounted counter bytes
    pub long : length bytes ≡ at
    pub enough : l ≤ at + left
    pub within : at ≤ l
    pub completes : (z : State) (r : Result DropCounter CommandFault) → Passes run l (rest_read path l left bytes) now z r → Passes run l (rest_read path l fuel d) x z r

  module _ (fuel : ℕ) (d : List ℕ) (x now : State) (counter : DropCounter) (at : ℕ) (h : HasRead fuel d x now counter at) where
    -- one piece more
    pub read_more : at < l → l ≤ 268435456 → (asked : ℕ) → asked ≡ min (l - at) PIECE → (y : State) (bytes : List ℕ) → Follows run command_cause (piece_read path at asked) now y (Ok bytes) → length bytes ≡ asked
        → (new : DropCounter) → ((e : List ℕ) → length e + length bytes ≤ 268435456 → HasCounted counter e → HasCounted new (e ++ bytes)) → HasRead fuel d x y new (at + asked)
    read_more lt small asked is y bytes f whole new fed =
        let k = one_more_left at h.left lt h.enough in
        let le : asked ≤ l - at = omega (arith, is) in
        let some : 1 ≤ asked = omega (arith, is, lt) in
        let enough = h.enough in
        record {
          bytes = h.bytes ++ bytes;
          left = k.0;
          counted = fed h.bytes (rw (h.long, whole) (omega (arith, le, lt, small))) h.counted;
          long = length-append h.bytes bytes ∙ (ap (λ n. n + length bytes) h.long ∙ ap (λ n. at + n) whole);
          enough = (let two = k.1 in omega (arith, enough, two, some));
          within = omega (arith, le, lt);
          completes = λ z r p. h.completes z r
              (subst (λ n. Passes run l (rest_read path l n h.bytes) now z r) (sym k.1)
              (passes_next k.0 h.bytes bytes now y z r (rw h.long lt)
              (subst (λ n. Follows run command_cause (piece_read path n (min (l - n) PIECE)) now y (Ok bytes)) (sym h.long) (subst (λ n. Follows run command_cause (piece_read path at n) now y (Ok bytes)) is f)) p));
        }

    -- a piece was wanting
    pub read_stops : at < l → (asked : ℕ) → asked ≡ min (l - at) PIECE → (y : State) (e : CommandFault) → Follows run command_cause (piece_read path at asked) now y (Err e) → (r : Result DropCounter CommandFault) → IsErr r × IsErrAnd r (λ k. k ≡ e)
        → Passes run l (rest_read path l fuel d) x y r
    read_stops lt asked is y e f r failed =
        let k = one_more_left at h.left lt h.enough in
        h.completes y r
        (subst (λ n. Passes run l (rest_read path l n h.bytes) now y r) (sym k.1)
        (passes_stop k.0 h.bytes now y e r (rw h.long lt)
        (subst (λ n. Follows run command_cause (piece_read path n (min (l - n) PIECE)) now y (Err e)) (sym h.long) (subst (λ n. Follows run command_cause (piece_read path at n) now y (Err e)) is f)) failed))

    -- all was read
    pub read_all : l ≤ at → Passes run l (rest_read path l fuel d) x now (Ok counter)
    read_all le =
        let within = h.within in
        h.completes now (Ok counter) (h.bytes, h.counted, h.long ∙ omega (arith, le, within), rest_done h.left h.bytes (rw h.long le))

  -- nothing was read yet
  pub read_none : (fuel : ℕ) (d : List ℕ) (x : State) (counter : DropCounter) (at : ℕ) → HasCounted counter d → length d ≡ at → l ≤ at + fuel → at ≤ l → HasRead fuel d x x counter at
  read_none fuel d x counter at counted long enough within = record { bytes = d; left = fuel; counted = counted; long = long; enough = enough; within = within; completes = λ z r p. p }

-- a whole pass
module _ (run : ℕ) (path : FilePath) where
  pub counted_all : (head : Head) (x y z : State) → Follows run command_cause (head_read path) x y (Ok head) → (counter : DropCounter) → Passes run head.length (rest_read path head.length head.length head.bytes) y z (Ok counter)
      → (s : Result DropSize CommandFault) → ((d : List ℕ) → HasCounted counter d → head.length ≡ length d → s ≡ counted_by d) → Follows run command_cause (drop_counted path) x z s
  unfolding drop_counted drop_read
  counted_all head x y z f counter g s so =
      go _ (go _ f g.3) (subst (λ t. Follows run command_cause (Return (counted_by g.0)) z z t) (sym (so g.0 g.1 (sym g.2))) (returns g.0 (is_drop g.0) (first_long (messages g.0))))
    where
      returns : (d : List ℕ) (drop : Bool) (long : Option ℕ) → Follows run command_cause (Return (size_if drop long d)) z z (size_if drop long d)
      returns d false long = refuses _ refl
      returns d true (Some l) = refuses _ refl
      returns d true None = done

  pub counting_stops : (head : Head) (x y z : State) (e : CommandFault) → Follows run command_cause (head_read path) x y (Ok head) → Passes run head.length (rest_read path head.length head.length head.bytes) y z (Err e)
      → (s : Result DropSize CommandFault) → IsErr s × IsErrAnd s (λ k. k ≡ e) → Follows run command_cause (drop_counted path) x z s
  unfolding drop_counted drop_read
  counting_stops head x y z e f g s failed = stop _ (go _ f g) failed

  pub head_stops : (x y : State) (e : CommandFault) → Follows run command_cause (head_read path) x y (Err e) → (s : Result DropSize CommandFault) → IsErr s × IsErrAnd s (λ k. k ≡ e) → Follows run command_cause (drop_counted path) x y s
  unfolding drop_counted drop_read
  head_stops x y e f s failed = stop _ (stop _ {r = Err e} f (refl, refl)) failed

-- a first piece can be counted
pub first_few : (head : Head) → IsHead head → length {A = ℕ} [] + length head.bytes ≤ 268435456
first_few head h = let w = h.whole in omega (arith, w)

pub first_enough : (head : Head) (from : ℕ) → head.length ≤ from + head.length
first_enough head from = omega arith
