use Rattle.command_words.proofs.SequenceNames.{AreRead}
use Rattle.command_words.proofs.seq_names.sequence_names.Given as goal

abbrev pub invariant-loop-word : goal.invariant-loop-word
invariant-loop-word l = AreRead l.word-items l.word-index l.names
