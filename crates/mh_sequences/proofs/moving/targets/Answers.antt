use Rattle.std.proofs.Common.{ap, ◌∙◌, ◌≡◌, ℕ}
use Rattle.std.specs.Prelude.{◌&&◌, ◌==◌}
use Rattle.std.specs.List.{list_any}
use Rattle.mh_sequences.specs.Runs.{has}
use Rattle.mh_sequences.proofs.Bools.{any_ok, if_ok_then}
use Rattle.mh_sequences.proofs.MovedPairs.{targets_all, targets_begun, targets_more}
use Rattle.mh_sequences.proofs.Piling.{each_run, run_here}
use Rattle.mh_sequences.proofs.moving.targets.Goals as goal

pub loop-run-init : goal.loop-run-init
loop-run-init c = targets_begun c.args.pairs.now c.as_slice-run-items.result.now c.new-pile.result c.new-pile.ensures

pub add_targets-requires-clause-run : goal.add_targets-requires-clause-run
add_targets-requires-clause-run c = run_here c.as_slice-run-items.result.now c.loop-run.run-index c.run-item.result (each_run c.as_slice-run-items.result.now c.as_slice-run-items.ensures.valid) c.loop-run-test.true c.run-item.is

pub loop-run-preserved : goal.loop-run-preserved
loop-run-preserved c = targets_more c.args.pairs.now c.as_slice-run-items.result.now c.loop-run.pile c.add_targets.new.pile c.loop-run.run-index c.run-item.result c.loop-run-test.true c.run-item.is c.in_ok-add_targets.ensures c.loop-run.invariant

pub returns : goal.returns
returns c =
    if_ok_then _ _ (λ s. (n : ℕ) → has s.runs n ≡ list_any (λ p. n == p.to && has c.args.numbers.now.runs p.from) c.args.pairs.now) c.into_set.result (λ s set all n. set n ∙ all n)
    c.into_set.ensures.numbers (any_ok (λ s. (n : ℕ) → has c.loop-run.pile n ≡ list_any (λ p. n == p.to && has c.args.numbers.now.runs p.from) c.args.pairs.now) c.into_set.result (λ _ n.
    targets_all c.args.pairs.now c.as_slice-run-items.result.now c.loop-run.pile c.loop-run.run-index c.loop-run-test.false c.loop-run.invariant n
    ∙ ap (λ l. list_any (λ p. n == p.to && has l p.from) c.args.pairs.now) c.as_slice-run-items.ensures.value))
