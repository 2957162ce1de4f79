use Rattle.std.proofs.Common.{refl}
use Rattle.sequence_marks.proofs.Silence.{private_silent, private_committed}
use Rattle.sequence_marks.proofs.laws.private_sequences_mark.Goals as goal

pub returns : goal.returns
returns c = record { folder = λ mail folder sequence. refl; committed = private_committed; silent = λ mail folder sequence. private_silent folder sequence }
