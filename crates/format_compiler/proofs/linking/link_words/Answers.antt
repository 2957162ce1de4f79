use Rattle.std.proofs.Common.{arith, ◌∙◌, ap}
use Rattle.format_compiler.specs.Linkers.{links_of}
use Rattle.format_compiler.specs.Linking.{linked_all, no_links}
use Rattle.format_compiler.proofs.LinkedWords.{all_linked, one_linked}
use Rattle.format_compiler.proofs.linking.link_words.Goals as goal

pub loop-word-preserved : goal.loop-word-preserved
loop-word-preserved c =
    one_linked c.loop-word.words.items c.pop.new.self.items c.into_vec-words.result.items c.in-Some.word (links_of c.loop-word.linker) (links_of c.link.new.self) no_links
    c.in-Some.ensures.items c.in_ok-link.ensures c.loop-word.invariant

pub returns : goal.returns
returns c = λ f is.
    all_linked c.loop-word.words.items c.args.words (links_of c.loop-word.linker) f c.into_list.result (omega (arith, c.in_default.ensures.cases.0, c.loop-word.words.ok))
    (c.loop-word.invariant ∙ ap (λ z. linked_all z no_links) c.into_vec-words.ensures) is c.into_list.ensures
