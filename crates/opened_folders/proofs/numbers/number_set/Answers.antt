use Rattle.opening_plans.proofs.Sets.{made_from}
use Rattle.mh_base.proofs.NumberTests.{is_one}
use Rattle.opened_folders.proofs.numbers.number_set.Goals as goal
use Rattle.command_stages.proofs.Adding.{all_added, one_added}

pub loop-number-preserved : goal.loop-number-preserved
loop-number-preserved c = one_added _ _ _ _ _ c.loop-number-test.true c.number-item.is c.in_ok-add_run.ensures c.loop-number.invariant

pub returns : goal.returns
returns c = made_from (λ n. is_one n c.args.numbers.now) c.loop-number.pile c.into_set.result (all_added _ _ _ c.loop-number-test.false c.loop-number.invariant) c.into_set.ensures.numbers c.into_set.ensures.valid
