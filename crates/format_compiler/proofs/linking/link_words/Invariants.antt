use Rattle.std.proofs.Common.{◌≡◌, vec_len}
use Rattle.format_compiler.specs.Linkers.{links_of}
use Rattle.format_compiler.specs.Linking.{linked_all, no_links}
use Rattle.format_compiler.proofs.linking.link_words.Given as goal

abbrev pub invariant-loop-word : goal.invariant-loop-word
invariant-loop-word l = linked_all l.words.items (links_of l.linker) ≡ linked_all l.initial.words.items no_links

abbrev pub decreases-loop-word : goal.decreases-loop-word
decreases-loop-word l = vec_len l.words
