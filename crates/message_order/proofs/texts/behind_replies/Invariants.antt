use Rattle.std.proofs.Common.{List, ℕ, length}
use Rattle.message_order.specs.Texts.{IsBehindReplies}
use Rattle.message_order.proofs.texts.behind_replies.Given as goal

abbrev pub invariant-loop-rest : goal.invariant-loop-rest
invariant-loop-rest l = (last : List ℕ) → IsBehindReplies l.rest last → IsBehindReplies l.text last

abbrev pub decreases-loop-rest : goal.decreases-loop-rest
decreases-loop-rest l = length l.rest
