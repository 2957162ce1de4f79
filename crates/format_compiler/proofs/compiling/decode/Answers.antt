use Rattle.std.proofs.Common.{sym, ◌∙◌, ap}
use Rattle.std.specs.Str.{chars}
use Rattle.format_compiler.proofs.TextPrograms.{all_characters}
use Rattle.format_compiler.proofs.compiling.decode.Goals as goal

pub returns-in_ok-characters_of-in-Ok-clause-characters : goal.returns-in_ok-characters_of-in-Ok-clause-characters
returns-in_ok-characters_of-in-Ok-clause-characters c =
    c.in_ok-characters_of-in-Ok.ensures ∙ ap chars c.in-Ok.ensures.cases.0 ∙ sym (all_characters c.args.text.now c.in-Ok.ensures.cases.1)
