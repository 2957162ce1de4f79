use Rattle.std.proofs.Common.{arith, subst, sym, ◌∙◌}
use Rattle.mh_sequences.specs.Runs.{AreRuns, Numbers}
use Rattle.mh_sequences.proofs.Removing.{removed_runs}
use Rattle.mh_sequences.proofs.Stretches.{reaches, out_of_gap, out_of_none, out_of_run}
use Rattle.mh_sequences.proofs.Bools.{ok_then, settled}
use Rattle.mh_sequences.proofs.runs.take_out.Goals as goal

pub split-requires-clause-to : goal.split-requires-clause-to
split-requires-clause-to c =
    reaches c.args.runs.now.runs c.requires c.args.n c.ahead-at.result.0 (rw (← c.as_slice.ensures) c.ahead-at.ensures.place) c.in-Some.run'
    (rw (← c.as_slice.ensures) (sym c.ahead-at.ensures.run ∙ c.in-Some.is))

pub returns-in-Some-clause-ok : goal.returns-in-Some-clause-ok
returns-in-Some-clause-ok c =
    ok_then _ _ c.split.result
    (λ e. e ∙ out_of_run c.args.runs.now.runs c.requires c.args.n c.ahead-at.result.0 (rw (← c.as_slice.ensures) c.ahead-at.ensures.place) c.in-Some.run'
    (rw (← c.as_slice.ensures) (sym c.ahead-at.ensures.run ∙ c.in-Some.is)) (omega arith)) c.split.ensures.ok

pub returns-in-Some-clause-valid : goal.returns-in-Some-clause-valid
returns-in-Some-clause-valid c =
    settled _ _ _ c.split.result (returns-in-Some-clause-ok c) c.split.ensures.err
    (λ e. subst AreRuns (sym e) (removed_runs 1 c.args.runs.now.runs c.requires c.args.n))
    (λ e. subst (λ (v : Numbers). AreRuns v.runs) (sym e) c.requires)

pub returns-in_default-clause-ok : goal.returns-in_default-clause-ok
returns-in_default-clause-ok c =
    out_of_gap c.args.runs.now.runs c.requires c.args.n c.ahead-at.result.0 (rw (← c.as_slice.ensures) c.ahead-at.ensures.place) c.in-Some.run'
    (rw (← c.as_slice.ensures) (sym c.ahead-at.ensures.run ∙ c.in-Some.is)) (omega arith)

pub returns-in_default-2-clause-ok : goal.returns-in_default-2-clause-ok
returns-in_default-2-clause-ok c =
    out_of_none c.args.runs.now.runs c.requires c.args.n c.ahead-at.result.0 (rw (← c.as_slice.ensures) c.ahead-at.ensures.place)
    (rw (← c.as_slice.ensures) (sym c.ahead-at.ensures.run ∙ c.in_default.is))
