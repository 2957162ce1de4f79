-- The directive that makes messages parts.
use Rattle.std.specs.Prelude.{ℕ, List, map, take, drop, Option, Some, None, if◌then◌else◌}
use Rattle.mail_text.specs.ShownBytes.{shown}
use Rattle.mh_drafts.specs.declared.directive.Directive.{Directive}
use Rattle.mh_drafts.specs.declared.directive.Directive.TheVariants.{Part}
use Rattle.mh_drafts.specs.declared.item.Leaf.TheVariants.{Messages as message_leaf}
use Rattle.mh_drafts.specs.declared.want.Want.TheVariants.{Messages as message_want}
use Rattle.mh_drafts.specs.Blanks.{behind_blanks, is_led, word_len}
use Rattle.mh_base.specs.Characters.{words_in}

-- the messages that these words name, of this folder
abbrev pub forwarded : Option (List ℕ) → List ℕ → Directive
forwarded folder text = Part message_leaf (message_want folder (map shown (words_in text)))

-- the folder's word, and the words behind it
abbrev pub named_messages : List ℕ → Directive
named_messages text = forwarded (Some (shown (take (word_len text) text))) (drop (word_len text) text)

-- the first word names the folder where it begins with a plus sign
abbrev pub messages_in : List ℕ → Directive
messages_in text =
    let words = behind_blanks text in if is_led 43 words then named_messages words else forwarded None words
