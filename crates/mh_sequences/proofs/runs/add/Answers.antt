use Rattle.std.proofs.Common.{◌≡◌, ◌-◌, ◌∷◌, nat_lt, drop, arith, subst, sym, ◌∙◌}
use Rattle.std.specs.List.{prefix_len}
use Rattle.mh_sequences.specs.Runs.{AreRuns, Numbers}
use Rattle.mh_sequences.specs.Edits.{grown}
use Rattle.mh_sequences.proofs.Adding.{placed, placed_runs}
use Rattle.mh_sequences.proofs.Bools.{ok_then, settled}
use Rattle.mh_sequences.proofs.runs.add.Goals as goal

start_at : (c : goal.After-replace) → c.before-start.result ≡ prefix_len (λ r. nat_lt r.to (c.args.run.from - 1)) c.args.runs.now.runs
start_at c = rw (← c.as_slice.ensures, ← c.ends-from.ensures.value.0) c.before-start.ensures.value

grows : (c : goal.After-replace) → grown c.args.run (drop c.before-start.result c.args.runs.now.runs) ≡ c.absorb-whole.result.0 ∷ drop c.absorb-whole.result.1 (drop c.before-start.result c.args.runs.now.runs)
grows c = rw (← c.as_slice-2.ensures, ← c.split_at.ensures.back) c.absorb-whole.ensures.value

pub returns-clause-ok : goal.returns-clause-ok
returns-clause-ok c =
    ok_then _ _ c.replace.result (λ e. e ∙ placed c.args.run c.absorb-whole.result.0 c.args.runs.now.runs c.before-start.result c.absorb-whole.result.1 (start_at c) (grows c)) c.replace.ensures.ok

pub returns-clause-valid : goal.returns-clause-valid
returns-clause-valid c =
    settled _ _ _ c.replace.result c.replace.ensures.ok c.replace.ensures.err
    (λ e. subst AreRuns (sym e) (placed_runs c.args.run c.absorb-whole.result.0 c.args.runs.now.runs c.before-start.result c.absorb-whole.result.1 c.requires.runs (omega arith) c.requires.run (omega arith) (start_at c) (grows c)))
    (λ e. subst (λ (v : Numbers). AreRuns v.runs) (sym e) c.requires.runs)
