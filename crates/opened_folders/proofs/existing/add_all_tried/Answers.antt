use Rattle.std.proofs.Common.{refl, sym, ◌∙◌}
use Rattle.held_messages.proofs.Upward.{below_first, below_second}
use Rattle.opening_plans.proofs.ExistingNumbers.{one_tried, all_tried}
use Rattle.opened_folders.proofs.existing.add_all_tried.Goals as goal

pub loop-at-init : goal.loop-at-init
loop-at-init c = (c.requires, λ n. refl)

pub loop-at-preserved : goal.loop-at-preserved
loop-at-preserved c = (
  c.highest_after-top.ensures.range,
  λ n.
      one_tried _ _ _ _ _ _ _ n _ _ (below_first _ _ _ _ c.min-at-end.ensures c.loop-at-test.true) (below_second _ _ _ _ c.min-at-end.ensures c.loop-at-test.true) c.index-pairs-at.is c.index-ends-at.is
      c.highest_after-top.ensures.value (c.in_ok-add_tried.ensures n)
      ∙ c.loop-at.invariant.1 n,
)

pub returns : goal.returns
returns c = λ n. sym (all_tried _ _ _ _ n _ (rw c.min-at-end.ensures at c.loop-at-test.false)) ∙ c.loop-at.invariant.1 n
