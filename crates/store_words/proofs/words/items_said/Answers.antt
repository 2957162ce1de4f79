use Rattle.std.proofs.Common.{◌≡◌, None, sym, ◌∙◌}
use Rattle.command_words.specs.BadValues.{first_of}
use Rattle.command_words.proofs.Said.{word_is}
use Rattle.store_words.specs.Values.{wrong_values}
use Rattle.store_words.proofs.words.items_said.Goals as goal

pub returns-in_default : goal.returns-in_default
returns-in_default c =
    let none : first_of (wrong_values c.args.items.now) ≡ None = sym c.in_ok-wrong.ensures ∙ c.in_default.is in
    rw (none, word_is _ c.in-Ok.word c.in-Ok.ensures) c.word_said.ensures
