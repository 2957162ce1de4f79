use Rattle.std.proofs.Common.{ℤ}
use Rattle.mail_dates.specs.Picking.{IsToday}
use Rattle.pick_expr.specs.Signs.{day_of}
use Rattle.pick_expr.proofs.ItemByItem.{IsOn}
use Rattle.pick_expr.proofs.expr.read_items.Given as goal

abbrev pub invariant-loop-item : goal.invariant-loop-item
invariant-loop-item l = (today : ℤ) → IsToday l.setting.moment l.setting.offset_minutes today → IsOn (day_of today l.setting.offset_minutes) l.items l.item-index l.progress
