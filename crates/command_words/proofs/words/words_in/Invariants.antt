use Rattle.std.proofs.Common.{◌≡◌, map}
use Rattle.std.specs.Prelude.{filter}
use Rattle.mail_text.specs.ShownBytes.{shown}
use Rattle.command_words.proofs.words.words_in.Given as goal
use Rattle.mh_base.specs.Characters.{is_some_text}

abbrev pub invariant-loop-part : goal.invariant-loop-part
invariant-loop-part l = l.words ≡ map shown (filter is_some_text (map (λ i. i.now) l.yielded))
