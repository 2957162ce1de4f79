use Rattle.std.proofs.Common.{refl}
use Rattle.sequence_marks.proofs.Silence.{public_silent, public_committed}
use Rattle.sequence_marks.proofs.laws.public_sequences_mark.Goals as goal

pub returns : goal.returns
returns c = record { folder = λ mail folder sequence. refl; committed = public_committed; silent = λ mail folder sequence. public_silent sequence }
