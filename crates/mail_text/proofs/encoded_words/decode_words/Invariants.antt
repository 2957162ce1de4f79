use Rattle.std.proofs.Common.{◌≡◌, ◌++◌, length}
use Rattle.mail_text.specs.EncodedWords.{decoded}
use Rattle.mail_text.proofs.encoded_words.decode_words.Given as goal

abbrev pub invariant-loop-c : goal.invariant-loop-c
invariant-loop-c l = l.line ++ decoded l.rest ≡ decoded l.text

abbrev pub decreases-loop-c : goal.decreases-loop-c
decreases-loop-c l = length l.rest
