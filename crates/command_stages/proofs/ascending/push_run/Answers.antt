use Rattle.std.proofs.Common.{rules, ◌≡◌, ◌++◌, ◌∷◌, [], ◌∙◌, inr, arith}
use Rattle.command_stages.proofs.Counting.{one_counted}
use Rattle.command_stages.proofs.ascending.push_run.Goals as goal

pub loop-number-preserved : goal.loop-number-preserved
loop-number-preserved c =
    let pushed : c.push.new.self.items ≡ c.loop-number.numbers.items ++ c.loop-number.number ∷ [] = search rules in
    let below = c.loop-number-test.true in
    let from = c.loop-number.invariant.from in
    record { items = pushed ∙ one_counted _ _ _ _ from c.loop-number.invariant.items; from = omega (arith, from); to = inr (omega (arith, below)) }
