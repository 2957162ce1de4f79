use Rattle.std.proofs.Common.{◌≡◌, take}
use Rattle.message_order.specs.Texts.{key_of}
use Rattle.message_order.proofs.texts.text_key.Given as goal

abbrev pub invariant-loop-byte : goal.invariant-loop-byte
invariant-loop-byte l = l.key.items ≡ key_of (take l.byte-index l.text)
