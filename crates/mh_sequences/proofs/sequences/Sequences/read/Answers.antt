use Rattle.std.proofs.Common.{◌≡◌}
use Rattle.mh_sequences.specs.Reading.{IsReading}
use Rattle.mh_sequences.specs.Sequences.{AreSequences, Marked}
use Rattle.mh_sequences.proofs.Bools.{if_ok_then}
use Rattle.mh_sequences.proofs.Same.{one_reading}
use Rattle.mh_sequences.proofs.sequences.Sequences.read.Goals as goal

pub returns-clause-alone : goal.returns-clause-alone
returns-clause-alone c =
    if_ok_then _ _ (λ s. (other : Marked) → AreSequences other.users → IsReading c.args.public.now c.args.context.now c.args.folder.now other → other ≡ s) c.read_all.result
    (λ s reading valid other ok is. one_reading c.args.public.now c.args.context.now c.args.folder.now other s ok valid is reading)
    c.read_all.ensures.reading c.read_all.ensures.valid
