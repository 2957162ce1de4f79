use Rattle.pick_expr.specs.Picks.{picks}
use Rattle.pick_expr.proofs.WordValues.{result_holds}
use Rattle.pick_expr.proofs.truth.holds.Goals as goal

pub returns-clause-tree : goal.returns-clause-tree
returns-clause-tree c =
    result_holds c.args.message.now c.cut.result c.args.expr.now.words c.as_slice.result.now c.words_value.result c.cut.ensures.bytes c.as_slice.ensures c.words_value.ensures

pub returns-clause-value : goal.returns-clause-value
unfolding picks
returns-clause-value c = rw (c.cut.ensures.bytes, c.as_slice.ensures) at c.words_value.ensures
