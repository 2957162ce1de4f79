use Rattle.std.proofs.Common.{refl, subst}
use Rattle.mh_sequences.specs.Mentions.{AreNoted}
use Rattle.mh_sequences.proofs.Mentioning.{run_noted, all_noted}
use Rattle.mh_sequences.proofs.reading.note_runs.Goals as goal

pub loop-run-init : goal.loop-run-init
loop-run-init c = record { valid = c.requires.mentions; given = λ s n. refl }

pub loop-run-preserved : goal.loop-run-preserved
loop-run-preserved c =
    run_noted (record { name = c.args.name; run = c.run-item.result }) c.as_slice-run-items.result.now c.loop-run.run-index c.args.mentions.now c.loop-run.mentions c.push.new.self c.as_slice-run-items.ensures.valid c.requires.name c.loop-run-test.true c.run-item.is c.in_ok-push.ensures.ok c.loop-run.invariant

pub returns : goal.returns
returns c =
    subst (λ rs. AreNoted c.args.name.now rs c.args.mentions.now c.loop-run.mentions) c.as_slice-run-items.ensures.value
    (all_noted c.args.name.now c.as_slice-run-items.result.now c.loop-run.run-index c.args.mentions.now c.loop-run.mentions c.loop-run-test.false c.loop-run.invariant)
