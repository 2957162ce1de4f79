use Rattle.mime_tree.specs.ContentTypes.{is_digest}
use Rattle.part_rows.proofs.message.MessageParts.cut.Goals as goal

pub invariant_of-result : goal.invariant_of-result
unfolding is_digest
invariant_of-result c = (c.in_ok-tree.ensures.bytes, c.in_ok-tree.ensures.tree)
