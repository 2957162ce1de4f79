use Rattle.mhbuild_compose.proofs.Walking.{attributes_end, attributes_more}
use Rattle.mhbuild_compose.proofs.head.put_attributes.Goals as goal

pub loop-attribute-preserved : goal.loop-attribute-preserved
loop-attribute-preserved c = attributes_more c.args.attributes.now c.loop-attribute.out c.put_attribute.new.out _ c.loop-attribute.attribute-index _ _ c.loop-attribute-test.true c.attribute-item.is c.in_ok-put_attribute.ensures c.loop-attribute.invariant

pub returns : goal.returns
returns c = attributes_end c.args.attributes.now c.loop-attribute.out _ c.loop-attribute.attribute-index c.loop-attribute-test.false c.loop-attribute.invariant
