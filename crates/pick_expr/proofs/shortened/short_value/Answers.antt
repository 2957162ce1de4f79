use Rattle.std.proofs.Common.{[], arith}
use Rattle.std.specs.Prelude.{Some}
use Rattle.pick_expr.specs.Skipping.{value_behind}
use Rattle.pick_expr.specs.Values.{fresh, value_of}
use Rattle.pick_expr.proofs.Skipping.{gives_end, gives_turn}
use Rattle.pick_expr.proofs.shortened.short_value.Goals as goal

pub loop-word-preserved : goal.loop-word-preserved
loop-word-preserved c = (
  gives_turn (Some (value_of c.args.message.now c.args.words.now fresh []))
      (λ rest. value_behind c.args.message.now c.loop-word.shortened.skipped rest c.loop-word.shortened.evaluation.frame c.loop-word.shortened.evaluation.around)
      (λ rest. value_behind c.args.message.now c.pass.new.self.skipped rest c.pass.new.self.evaluation.frame c.pass.new.self.evaluation.around) c.args.words.now c.loop-word.word-index c.word-item.result c.loop-word-test.true c.word-item.is
      c.in_ok-pass.ensures.gives c.loop-word.invariant.0,
  let more : _ = c.in_ok-pass.ensures.few in let before : _ = c.loop-word.invariant.1 in omega arith,
)

pub returns : goal.returns
returns c =
    gives_end (Some (value_of c.args.message.now c.args.words.now fresh []))
    (λ rest. value_behind c.args.message.now c.loop-word.shortened.skipped rest c.loop-word.shortened.evaluation.frame c.loop-word.shortened.evaluation.around) c.args.words.now c.loop-word.word-index c.end.result c.loop-word-test.false
    (c.end.ensures c.args.message.now) c.loop-word.invariant.0
