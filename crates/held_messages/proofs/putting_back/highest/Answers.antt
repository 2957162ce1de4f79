use Rattle.std.proofs.Common.{refl, ◌≡◌, ◌≤◌, subst, sym}
use Rattle.held_messages.proofs.Telling.{highest_small}
use Rattle.held_messages.proofs.Tops.{higher_on, higher_all, zero_max}
use Rattle.held_messages.proofs.putting_back.highest.Goals as goal

pub loop-name-init : goal.loop-name-init
loop-name-init c = zero_max _

pub loop-name-preserved : goal.loop-name-preserved
loop-name-preserved c = higher_on _ _ _ _ _ c.loop-name-test.true c.name-item.is c.higher-top.ensures c.loop-name.invariant

pub returns-clause-value : goal.returns-clause-value
returns-clause-value c = higher_all _ _ _ c.loop-name-test.false c.loop-name.invariant

pub returns-clause-range : goal.returns-clause-range
returns-clause-range c = subst (λ n. n ≤ 999999) (sym (higher_all _ _ _ c.loop-name-test.false c.loop-name.invariant)) (highest_small c.args.names.now)
