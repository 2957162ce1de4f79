use Rattle.std.proofs.Common.{◌-◌, length}
use Rattle.mh_words.specs.Lines.{words_of}
use Rattle.mh_words.proofs.OneOutcome.{CompletesReads, CompletesFails}
use Rattle.mh_words.proofs.reading.read_line.Given as goal

-- whatever completes the rest completes the whole
abbrev pub invariant-loop-word : goal.invariant-loop-word
invariant-loop-word l = record {
  reads : CompletesReads l.table (words_of l.line) l.place l.items;
  fails : CompletesFails l.table (words_of l.line) l.place;
}

abbrev pub decreases-loop-word : goal.decreases-loop-word
decreases-loop-word l = length (words_of l.line) - l.place
