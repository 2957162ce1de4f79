use Rattle.std.proofs.Common.{sym, ◌∙◌}
use Rattle.mh_drafts.specs.RawAttributes.{taken_of}
use Rattle.mh_drafts.proofs.Attributing.{attributes_end, attributes_fail, attributes_go, attributes_start}
use Rattle.mh_drafts.proofs.attributes.read_attributes.Goals as goal

pub loop-alloc-init : goal.loop-alloc-init
loop-alloc-init c = attributes_start _ _ c.new-list.ensures

pub returns-in_default : goal.returns-in_default
returns-in_default c =
    attributes_fail c.loop-alloc.rest.now c.loop-alloc.list _ (sym c.is_led_by.ensures ∙ c.loop-alloc-test.true) c.in_default.ensures.value c.loop-alloc.invariant

pub loop-alloc-preserved : goal.loop-alloc-preserved
loop-alloc-preserved c =
    attributes_go c.loop-alloc.rest.now c.loop-alloc.list c.push.new.self (taken_of c.in-Some.raw) c.in_ok-own_attribute.field-0 _ (sym c.is_led_by.ensures ∙ c.loop-alloc-test.true) c.in-Some.ensures.value c.in_ok-own_attribute.ensures c.in_ok-push.ensures.ok c.loop-alloc.invariant

pub returns : goal.returns
returns c = attributes_end c.loop-alloc.rest.now c.loop-alloc.list _ (sym c.is_led_by.ensures ∙ c.loop-alloc-test.false) c.loop-alloc.invariant
