use Rattle.std.proofs.Common.{◌∙◌, ap, refl, subst, sym}
use Rattle.std.specs.List.{All}
use Rattle.std.proofs.lemmas.List.Sorted.{All-permutation}
use Rattle.mh_sequences.specs.Runs.{IsRun, has}
use Rattle.mh_sequences.proofs.Piling.{piled_none, piled_more, piled_all, reordered, run_here}
use Rattle.mh_sequences.proofs.pile.set_of.Goals as goal

pub loop-run-init : goal.loop-run-init
loop-run-init c = piled_none (has c.as_slice-run-items.result.now) c.new-set.result.runs c.as_slice-run-items.result.now c.new-set.ensures (λ n. refl)

pub insert_run-requires : goal.insert_run-requires
insert_run-requires c =
    run_here c.as_slice-run-items.result.now c.loop-run.run-index c.run-item.result
    (subst (All IsRun) (sym c.as_slice-run-items.ensures.value) (All-permutation IsRun c.args.runs.now.items c.sort_unstable_by_key.new.self.items c.sort_unstable_by_key.ensures.permutation c.requires)) c.loop-run-test.true c.run-item.is

pub returns-in_err-insert_run-clause-valid : goal.returns-in_err-insert_run-clause-valid
returns-in_err-insert_run-clause-valid c = All-permutation IsRun c.args.runs.now.items c.sort_unstable_by_key.new.self.items c.sort_unstable_by_key.ensures.permutation c.requires

pub loop-run-preserved : goal.loop-run-preserved
loop-run-preserved c = piled_more (has c.as_slice-run-items.result.now) c.loop-run.set.runs c.insert_run.new.self.runs c.as_slice-run-items.result.now c.loop-run.run-index c.run-item.result c.loop-run-test.true c.run-item.is c.in_ok-insert_run.ensures.ok c.loop-run.invariant

pub returns-clause-set : goal.returns-clause-set
returns-clause-set c n =
    piled_all (has c.as_slice-run-items.result.now) c.loop-run.set.runs c.as_slice-run-items.result.now c.loop-run.run-index c.loop-run-test.false c.loop-run.invariant n
    ∙ ap (λ l. has l n) c.as_slice-run-items.ensures.value
    ∙ reordered c.args.runs.now.items c.sort_unstable_by_key.new.self.items c.sort_unstable_by_key.ensures.permutation n

pub returns-clause-valid : goal.returns-clause-valid
returns-clause-valid c = All-permutation IsRun c.args.runs.now.items c.sort_unstable_by_key.new.self.items c.sort_unstable_by_key.ensures.permutation c.requires
