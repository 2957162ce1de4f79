use Rattle.part_rows.specs.Chosen.{chooses}
use Rattle.part_rows.proofs.Walking.{all_chosen, first_chosen, more_chosen}
use Rattle.part_rows.proofs.walk.+push_chosen.Goals as goal

pub loop-kid-init : goal.loop-kid-init
loop-kid-init t c = λ levels bytes fallback path span is. first_chosen (chooses c.args.choice.now) levels bytes fallback path span c.args.part.now is _ _ (c.in_ok-push_one.ensures bytes)

pub loop-kid-preserved : goal.loop-kid-preserved
loop-kid-preserved t c = λ levels bytes fallback path span is.
    more_chosen (chooses c.args.choice.now) levels bytes fallback path span c.args.part.now is c.as_slice-kid-items.result.now c.loop-kid.kid-index _ c.kid-item.result _ _ _
    c.as_slice-kid-items.ensures.value c.loop-kid-test.true c.kid-item.is (λ below inner kid_path kid_span kid_is. c.in_ok-push_chosen.ensures below bytes inner kid_path kid_span kid_is)
    (c.loop-kid.invariant levels bytes fallback path span is)

pub returns : goal.returns
returns t c = λ levels bytes fallback path span is.
    all_chosen (chooses c.args.choice.now) levels bytes fallback path span c.args.part.now is c.as_slice-kid-items.result.now c.loop-kid.kid-index _ _ c.as_slice-kid-items.ensures.value c.loop-kid-test.false
    (c.loop-kid.invariant levels bytes fallback path span is)
