use Rattle.std.proofs.Common.{◌≡◌, ◌≤◌, Result, drop}
use Rattle.file_plans.specs.Follows.{Follows, State, by_hand}
use Rattle.step_plans.specs.PlanFaults.{plan_cause}
use Rattle.step_plans.specs.declared.fault.PlanFault.{PlanFault}
use Rattle.message_notes.specs.Noting.{messages_noted}
use Rattle.message_notes.proofs.noting.note_messages.Given as goal

abbrev pub invariant-loop-number : goal.invariant-loop-number
invariant-loop-number g l =
    (l.hand.run ≡ l.fn.hand.run) × (l.hand.mail ≡ l.fn.hand.mail) × (l.top ≤ 999999)
    × ((z : State) (r : Result Unit PlanFault) → Follows l.fn.hand.run plan_cause (messages_noted l.fn.hand.run l.place l.lines (drop l.number-index l.numbers) l.top) (by_hand l.hand.kept (g.F.Files.state l.files)) z r
    → Follows l.fn.hand.run plan_cause (messages_noted l.fn.hand.run l.place l.lines l.numbers l.fn.highest) (by_hand l.fn.hand.kept (g.F.Files.state l.fn.files)) z r)
