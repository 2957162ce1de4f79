use Rattle.std.proofs.Common.{ap, ◌∙◌}
use Rattle.format_compiler.specs.Texts.{characters_in}
use Rattle.format_compiler.proofs.TextPrograms.{beyond, none, refused}
use Rattle.format_compiler.proofs.CompletingTexts.{front_begins}
use Rattle.format_compiler.proofs.Denoting.{compiled, is_read}
use Rattle.format_compiler.proofs.compiling.compile.Goals as goal

pub returns-clause-refused : goal.returns-clause-refused
returns-clause-refused c =
    refused c.args.text.now c.as_slice.result.now c.in_ok-text.text.utf8 c.compile_characters.result
    (c.as_slice.ensures.value ∙ c.in_ok-text.ensures.characters ∙ ap characters_in c.without_feed.ensures)
    (rw c.without_feed.ensures at c.in_ok-text.ensures.utf8) c.compile_characters.ensures.refused

pub returns-clause-none : goal.returns-clause-none
returns-clause-none c = none c.args.text.now c.compile_characters.result (returns-clause-refused c)

pub returns-clause-beyond : goal.returns-clause-beyond
returns-clause-beyond c = beyond c.args.text.now c.compile_characters.result (returns-clause-refused c)

pub returns-clause-front : goal.returns-clause-front
returns-clause-front c = front_begins c.args.text.now c.compile_characters.result (returns-clause-refused c)

pub returns-clause-read : goal.returns-clause-read
returns-clause-read c =
    is_read c.args.text.now c.compile_characters.result
    (compiled c.args.text.now c.as_slice.result.now c.in_ok-text.text.utf8 c.compile_characters.result
    (c.as_slice.ensures.value ∙ c.in_ok-text.ensures.characters ∙ ap characters_in c.without_feed.ensures)
    (rw c.without_feed.ensures at c.in_ok-text.ensures.utf8) c.compile_characters.ensures.utf8 c.compile_characters.ensures.whole)
    (returns-clause-refused c)
