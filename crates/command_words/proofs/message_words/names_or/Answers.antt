use Rattle.std.proofs.Common.{sym, ◌∙◌, ◌∷◌, []}
use Rattle.std.specs.Str.{chars}
use Rattle.command_words.proofs.Texts.{if_names, names_some, names_none}
use Rattle.command_words.proofs.message_words.names_or.Goals as goal

pub returns-then-len-eq0 : goal.returns-then-len-eq0
returns-then-len-eq0 c = if_names c.one_name.result (chars c.args.default.now ∷ []) _ (sym (names_none (chars c.args.default.now) c.args.names (sym c.len.ensures ∙ c.if-len-eq0.true))) c.one_name.ensures

pub returns-else-len-eq0 : goal.returns-else-len-eq0
returns-else-len-eq0 c = names_some (chars c.args.default.now) c.args.names (λ none. c.if-len-eq0.false (c.len.ensures ∙ none))
