use Rattle.std.proofs.Common.{◌≡◌, ℕ, List, length, ◌++◌, ◌∷◌}
use Rattle.mail_dates.specs.Words.{is_separator}
use Rattle.mail_dates.specs.WordView.{view_of}
use Rattle.mail_dates.specs.Left.{left}
use Rattle.mail_dates.proofs.Cutting.{IsToken}
use Rattle.mail_dates.proofs.word.next_word.Given as goal
use Rattle.mh_base.specs.Characters.{words}

abbrev pub invariant-loop-byte : goal.invariant-loop-byte
invariant-loop-byte l = (token : List ℕ) × (l.word ≡ view_of token) × IsToken is_separator token × (words is_separator (token ++ left l.text) ≡ words is_separator (l.first ∷ left l.initial.text))

abbrev pub decreases-loop-byte : goal.decreases-loop-byte
decreases-loop-byte l = length (left l.text)
