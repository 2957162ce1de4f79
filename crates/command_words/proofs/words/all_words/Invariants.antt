use Rattle.std.proofs.Common.{◌≡◌, ◌++◌, drop, map}
use Rattle.std.specs.Str.{chars}
use Rattle.std.specs.String.{string_bytes}
use Rattle.command_words.specs.Words.{profile_words}
use Rattle.command_words.proofs.words.all_words.Given as goal

abbrev pub invariant-loop-word : goal.invariant-loop-word
invariant-loop-word l = l.all ++ map (λ w. chars (string_bytes w)) (drop l.word-index l.words) ≡ profile_words l.fn.name l.fn.profile ++ map (λ w. chars (string_bytes w)) l.words
