use Rattle.std.proofs.Common.{[], sym}
use Rattle.inc_plans.proofs.Rounds.{counted_all, counting_stops, first_enough, first_few, head_stops}
use Rattle.inc_command.proofs.counting.count_drop.Goals as goal

pub returns-in_err-head : goal.returns-in_err-head
returns-in_err-head g c = record { plan = λ h. head_stops _ _ _ _ _ (c.in_err-head.ensures.plan h) _ c.from_residual.ensures }

pub returns-in_err-counter : goal.returns-in_err-counter
returns-in_err-counter g c = record {
  plan = λ h.
      counting_stops _ _ c.in_ok-head.head _ _ _ _ (c.in_ok-head.ensures.plan h)
      (c.in_err-counter.ensures h c.in_ok-head.head.bytes c.in_ok-head.head.length
      (rw c.as_slice.ensures at (c.feed.ensures [] (rw c.as_slice.ensures (first_few c.in_ok-head.head c.in_ok-head.ensures.head)) c.new-counter.ensures)) (sym c.len-from.ensures) (first_enough c.in_ok-head.head _)) _ c.from_residual-in_err-counter.ensures;
}

pub returns : goal.returns
returns g c = record {
  plan = λ h.
      counted_all _ _ c.in_ok-head.head _ _ _ (c.in_ok-head.ensures.plan h) c.in_ok-counter.counter
      (c.in_ok-counter.ensures h c.in_ok-head.head.bytes c.in_ok-head.head.length
      (rw c.as_slice.ensures at (c.feed.ensures [] (rw c.as_slice.ensures (first_few c.in_ok-head.head c.in_ok-head.ensures.head)) c.new-counter.ensures)) (sym c.len-from.ensures) (first_enough c.in_ok-head.head _)) _ c.size.ensures;
}
