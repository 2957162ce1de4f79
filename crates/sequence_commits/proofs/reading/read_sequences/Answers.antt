use Rattle.std.proofs.Common.{◌≡◌}
use Rattle.mh_sequences.proofs.Bools.{if_ok_then}
use Rattle.sequence_commits.specs.Reading.{sequences_in}
use Rattle.sequence_commits.proofs.ReadOnce.{reads}
use Rattle.sequence_commits.proofs.reading.read_sequences.Goals as goal

pub returns : goal.returns
returns c =
    if_ok_then _ _ (λ s. s ≡ sequences_in c.args.text.now c.args.context.now c.args.folder.now) c.read.result
    (λ s reading valid. reads c.args.text.now c.args.context.now c.args.folder.now s valid reading)
    c.read.ensures.reading c.read.ensures.valid
