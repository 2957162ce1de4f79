use Rattle.std.proofs.Common.{[], refl, ◌∙◌}
use Rattle.file_plans.specs.Follows.{by_hand}
use Rattle.step_plans.specs.declared.command_fault.CommandFault.TheVariants as fault
use Rattle.refile_plans.proofs.Gathered.{all_were, for_fault, no_more_room, none_more, one_begun}
use Rattle.refile_command.proofs.gathering.begin_all.Goals as goal

pub returns-in_err-one-clause-plan : goal.returns-in_err-one-clause-plan
returns-in_err-one-clause-plan g c =
    let i = c.loop-name.invariant in
    λ later z s ends. i.2 later z s (none_more _ _ later _ _ _ _ c.loop-name-test.true c.name-item.is _ (rw (i.0, i.1) at c.in_err-one.ensures.plan) (for_fault _ [] later _ _ _ (by_hand c.open_made.new.hand.kept (g.F.Files.state c.open_made.new.files)) z s c.from_residual.ensures ends))

pub returns-in_err-push-clause-plan : goal.returns-in_err-push-clause-plan
returns-in_err-push-clause-plan g c =
    let i = c.loop-name.invariant in
    λ later z s ends. i.2 later z s
    (no_more_room _ _ later _ _ _ _ c.loop-name-test.true c.name-item.is _ (rw (i.0, i.1) at c.in_ok-one.ensures.plan) (for_fault _ [] later _ fault.Memory _ (by_hand c.open_made.new.hand.kept (g.F.Files.state c.open_made.new.files)) z s c.from_residual-in_err-push.ensures ends))

pub loop-name-preserved : goal.loop-name-preserved
loop-name-preserved g c =
    let i = c.loop-name.invariant in (
      c.in_ok-one.ensures.run ∙ i.0,
      c.in_ok-one.ensures.mail ∙ i.1,
      λ later z r f. i.2 later z r (one_begun _ _ later _ _ _ _ c.loop-name-test.true c.name-item.is _ (rw (i.0, i.1) at c.in_ok-one.ensures.plan) (rw (← c.in_ok-push.ensures.ok) f)),
    )

pub returns-clause-plan : goal.returns-clause-plan
returns-clause-plan g c = λ later z s f. c.loop-name.invariant.2 later z s (all_were _ _ later _ _ _ c.loop-name-test.false f)
