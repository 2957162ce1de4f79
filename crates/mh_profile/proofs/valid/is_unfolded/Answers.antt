use Rattle.mh_profile.proofs.OneLineValues.{last_test, some_edge, some_feed}
use Rattle.mh_profile.proofs.valid.is_unfolded.Goals as goal

pub returns-then-not-is_one_line : goal.returns-then-not-is_one_line
returns-then-not-is_one_line c = some_feed c.args.value.now c.is_one_line.result c.is_one_line.ensures c.if-not-is_one_line.true

pub returns-then-not-is_bare_in_front : goal.returns-then-not-is_bare_in_front
returns-then-not-is_bare_in_front c = some_edge c.args.value.now c.is_bare_in_front.result c.is_bare_in_front.ensures c.if-not-is_bare_in_front.true

pub returns : goal.returns
returns c =
    last_test c.args.value.now c.is_one_line.result c.is_bare_in_front.result c.is_bare_behind.result c.is_one_line.ensures c.if-not-is_one_line.false c.is_bare_in_front.ensures c.if-not-is_bare_in_front.false c.is_bare_behind.ensures
