use Rattle.std.proofs.Common.{◌∙◌, ap, refl}
use Rattle.std.specs.Prelude.{◌||◌}
use Rattle.mh_sequences.specs.Runs.{has}
use Rattle.mh_sequences.proofs.Piling.{each_run, piled_more, piled_all, run_here}
use Rattle.mh_sequences.proofs.pile.Pile.add_set.Goals as goal

pub loop-run-init : goal.loop-run-init
loop-run-init c = record { same = λ n. refl }

pub add_run-requires : goal.add_run-requires
add_run-requires c = run_here c.as_slice-run-items.result.now c.loop-run.run-index c.run-item.result (each_run c.as_slice-run-items.result.now c.as_slice-run-items.ensures.valid) c.loop-run-test.true c.run-item.is

pub loop-run-preserved : goal.loop-run-preserved
loop-run-preserved c =
    piled_more (λ n. has c.args.self.now n || has c.as_slice-run-items.result.now n) c.loop-run.self c.add_run.new.self c.as_slice-run-items.result.now c.loop-run.run-index c.run-item.result c.loop-run-test.true c.run-item.is c.in_ok-add_run.ensures c.loop-run.invariant

pub returns : goal.returns
returns c n =
    piled_all (λ n. has c.args.self.now n || has c.as_slice-run-items.result.now n) c.loop-run.self c.as_slice-run-items.result.now c.loop-run.run-index c.loop-run-test.false c.loop-run.invariant n
    ∙ ap (λ l. has c.args.self.now n || has l n) c.as_slice-run-items.ensures.value
