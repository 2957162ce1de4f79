use Rattle.std.proofs.Common.{ap, ◌∙◌, take_all}
use Rattle.message_order.specs.Texts.{key_of}
use Rattle.message_order.proofs.texts.text_key.Goals as goal

pub returns : goal.returns
returns c = c.loop-byte.invariant ∙ ap key_of (take_all c.loop-byte.byte-index c.args.text.now c.loop-byte-test.false)
