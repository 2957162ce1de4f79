use Rattle.std.proofs.Common.{◌≡◌, ◌++◌, drop}
use Rattle.command_words.specs.SequenceNames.{known_names}
use Rattle.command_words.proofs.seq_names.known_sequences.Given as goal

abbrev pub invariant-loop-word : goal.invariant-loop-word
invariant-loop-word l = l.names ++ known_names (drop l.word-index l.word-items) ≡ known_names l.word-items
