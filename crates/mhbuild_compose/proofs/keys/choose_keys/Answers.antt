use Rattle.std.proofs.Common.{◌∙◌}
use Rattle.mh_base.specs.Numbers.{hex}
use Rattle.mhbuild_compose.specs.KeySets.{has_digits}
use Rattle.mhbuild_compose.specs.Keys.{takes_any}
use Rattle.mhbuild_compose.proofs.Keying.{all_chosen, kept_is, least_same, one_chosen}
use Rattle.mhbuild_compose.proofs.keys.choose_keys.Goals as goal

pub loop-i-preserved : goal.loop-i-preserved
loop-i-preserved c =
    let same = kept_is c.in_ok-taken.taken c.as_slice.result.now c.args.run c.args.nodes.now (c.as_slice.ensures ∙ c.in_ok-mark.ensures) c.in_ok-taken.ensures in
    one_chosen (takes_any c.args.run c.args.nodes.now) c.loop-i.from c.begin_count-count.result c.loop-i.i c.in_ok-key.key c.loop-i.keys.items c.push.new.self.items
    (least_same (λ k. has_digits c.in_ok-taken.taken (hex 16 k)) (takes_any c.args.run c.args.nodes.now) c.loop-i.from c.in_ok-key.key same c.in_ok-key.ensures.free) c.in_ok-push.ensures.items c.loop-i.invariant

pub returns-clause-keys : goal.returns-clause-keys
returns-clause-keys c = all_chosen _ _ _ _ _ c.loop-i.invariant
