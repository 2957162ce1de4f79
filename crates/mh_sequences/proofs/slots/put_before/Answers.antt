use Rattle.std.proofs.Common.{◌+◌, ◌-◌, refl, arith}
use Rattle.mh_sequences.proofs.SlotRuns.{put_ahead}
use Rattle.mh_sequences.proofs.slots.put_before.Goals as goal

pub returns-clause-runs : goal.returns-clause-runs
returns-clause-runs c =
    put_ahead c.args.start (c.args.start - 1) c.args.at c.args.at (c.args.start - 1 + c.args.at) c.args.slots.now.items c.copy_within.new.self.items c.args.run
    (omega arith) refl refl (omega arith) c.copy_within.ensures.items (omega arith)
