use Rattle.std.proofs.Common.{ap, sym, ◌∙◌, ◌++◌}
use Rattle.std.specs.Str.{chars}
use Rattle.std.specs.String.{string_bytes}
use Rattle.std.proofs.lemmas.Simd.{map-map}
use Rattle.command_words.specs.Words.{profile_words}
use Rattle.command_words.proofs.Items.{words_all}
use Rattle.command_words.proofs.words.all_words.Goals as goal

pub returns : goal.returns
returns c =
    words_all (λ w. chars (string_bytes w)) c.args.words.now c.loop-word.word-index c.loop-word.all _ c.loop-word-test.false c.loop-word.invariant
    ∙ ap (λ l. profile_words c.args.name.now c.args.profile.now ++ l) (sym (map-map chars string_bytes c.args.words.now))
