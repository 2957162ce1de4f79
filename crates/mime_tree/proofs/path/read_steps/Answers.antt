use Rattle.std.proofs.Common.{sym, ◌∙◌}
use Rattle.mime_tree.proofs.Stepping.{starts, stops, ends, goes, too_long}
use Rattle.mime_tree.proofs.path.read_steps.Goals as goal

pub loop-i-init : goal.loop-i-init
loop-i-init c = starts _ _ c.new-numbers.ensures

pub returns-in_default : goal.returns-in_default
returns-in_default c =
    stops _ _ _ _ c.loop-i._i c.loop-i-test.true c.word_len.ensures.value c.split_at.ensures.front (sym c.read_step.ensures ∙ c.in_default.is) c.loop-i.invariant

pub returns-in-None : goal.returns-in-None
returns-in-None c =
    ends _ _ _ _ _ _ _ c.loop-i._i c.loop-i-test.true c.word_len.ensures.value c.split_at.ensures.front c.split_at.ensures.back (sym c.read_step.ensures ∙ c.in-Some.is) c.in_ok-push.ensures.ok c.in-None.ensures.cases c.loop-i.invariant

pub loop-i-preserved : goal.loop-i-preserved
loop-i-preserved c =
    goes _ _ _ _ _ _ _ _ _ c.loop-i._i c.loop-i-test.true c.word_len.ensures.value c.split_at.ensures.front c.split_at.ensures.back (sym c.read_step.ensures ∙ c.in-Some.is) c.in_ok-push.ensures.ok c.in-Some-split_first.ensures.cases.0 c.loop-i.invariant

pub returns : goal.returns
returns c = too_long _ _ _ c.loop-i._i c.loop-i-test.false c.loop-i.invariant
