use Rattle.std.proofs.Common.{◌∷◌, ◌+◌, [], List, ℕ, drop, subst, sym}
use Rattle.refile_plans.specs.Targets.{with_target}
use Rattle.refile_plans.proofs.NamedTargets.{IsOnWay, all_gathered, begins_empty, next_at, next_name}
use Rattle.refile_command.proofs.targets.other_targets.Goals as goal

pub loop-name-init : goal.loop-name-init
loop-name-init c =
    let source = c.args.job.now.source in
    let all = c.args.job.now.target ∷ c.args.job.now.others in
    subst (λ l. IsOnWay source all c.add_target.new.names l) (sym c.as_slice-name-items.ensures)
    (subst (λ names. IsOnWay source all names c.args.job.now.others) (sym (rw c.new-names.ensures at c.in_ok-add_target.ensures))
    (next_name source all [] c.args.job.now.target c.args.job.now.others (begins_empty source all)))

pub loop-name-preserved : goal.loop-name-preserved
loop-name-preserved c =
    let source = c.args.job.now.source in
    let all = c.args.job.now.target ∷ c.args.job.now.others in
    subst (λ names. IsOnWay source all names (drop (c.loop-name.name-index + 1) c.as_slice-name-items.result.now)) (sym c.in_ok-add_target-2.ensures)
    (next_at source all c.loop-name.names c.as_slice-name-items.result.now c.loop-name.name-index _ c.loop-name-test.true c.name-item.is c.loop-name.invariant)

pub returns : goal.returns
returns c = all_gathered c.args.job.now.source (c.args.job.now.target ∷ c.args.job.now.others) _ _ _ c.loop-name-test.false c.loop-name.invariant
