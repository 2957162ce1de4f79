use Rattle.std.proofs.Common.{sym, ◌∙◌}
use Rattle.mime_tree.proofs.Naming.{named_here, named_later, named_none}
use Rattle.mime_tree.proofs.content_type.first_value.Goals as goal

pub returns-then-is_named : goal.returns-then-is_named
returns-then-is_named c =
    let same = c.as_slice-param-items.ensures in
    named_here c.args.name.now c.args.params.now c.loop-param.param-index c.param-item.result _ (rw same at c.loop-param-test.true) (rw same at c.param-item.is) (sym c.is_named.ensures ∙ c.if-is_named.true) c.loop-param.invariant

pub loop-param-preserved : goal.loop-param-preserved
loop-param-preserved c =
    let same = c.as_slice-param-items.ensures in
    named_later c.args.name.now c.args.params.now c.loop-param.param-index c.param-item.result _ (rw same at c.loop-param-test.true) (rw same at c.param-item.is) (sym c.is_named.ensures ∙ c.if-is_named.false) c.loop-param.invariant

pub returns : goal.returns
returns c =
    let same = c.as_slice-param-items.ensures in
    named_none c.args.name.now c.args.params.now c.loop-param.param-index _ (rw same at c.loop-param-test.false) c.loop-param.invariant
