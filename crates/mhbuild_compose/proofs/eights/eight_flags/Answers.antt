use Rattle.std.proofs.Common.{◌≡◌, ◌+◌, ◌-◌, arith, refl, ◌∙◌}
use Rattle.mhbuild_compose.proofs.Passing.{all_flags, passes_eight, passes_flag, starts_eight, starts_flag}
use Rattle.mhbuild_compose.proofs.eights.eight_flags.Goals as goal

pub loop-place-init : goal.loop-place-init
loop-place-init c = record { inside = omega arith; eights = starts_eight c.args.nodes.now _ _ refl c.new.ensures; flags = starts_flag c.args.nodes.now _ _ refl c.new-2.ensures }

pub loop-place-preserved : goal.loop-place-preserved
loop-place-preserved c =
    let told = c.in_ok-add.ensures in
    let at : c.loop-place.place ≡ c.loop-place.place - 1 + 1 = omega (arith, c.loop-place-test.true) in
    let inside = c.loop-place.invariant.inside in
    record {
      inside = omega arith;
      eights = passes_eight c.args.nodes.now c.loop-place.place (c.loop-place.place - 1) c.index-nodes-place.result _ c.loop-place.passed.eights c.add.new.self.eights at inside c.index-nodes-place.is told.eights c.loop-place.invariant.eights;
      flags = passes_flag c.args.nodes.now c.loop-place.place (c.loop-place.place - 1) c.index-nodes-place.result _ c.loop-place.passed.eights c.loop-place.passed.flags c.add.new.self.flags at inside c.index-nodes-place.is told.flags c.loop-place.invariant.eights c.loop-place.invariant.flags;
    }

pub returns : goal.returns
returns c = c.into_list.ensures ∙ all_flags c.args.nodes.now c.loop-place.place c.loop-place.passed.flags c.loop-place-test.false c.loop-place.invariant.flags
