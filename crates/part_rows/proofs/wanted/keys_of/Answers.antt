use Rattle.std.proofs.Common.{◌∙◌}
use Rattle.part_rows.proofs.WantedKeys.{keys_all, keys_more, keys_none}
use Rattle.part_rows.proofs.wanted.keys_of.Goals as goal

pub loop-path-init : goal.loop-path-init
loop-path-init c = keys_none (λ k. k.now) c.new-keys.result.keys c.args.paths.now c.new-keys.ensures.empty

pub loop-path-preserved : goal.loop-path-preserved
loop-path-preserved c =
    keys_more (λ k. k.now) c.loop-path.keys.keys c.insert.new.self.keys c.args.paths.now c.loop-path.path-index c.path-item.result c.as_slice.result c.loop-path-test.true c.path-item.is (c.as_slice.ensures ∙ c.numbers.ensures) c.in_ok-insert.ensures.keys c.loop-path.invariant

pub returns : goal.returns
returns c path = keys_all (λ k. k.now) c.loop-path.keys.keys c.args.paths.now c.loop-path.path-index c.loop-path-test.false c.loop-path.invariant path
