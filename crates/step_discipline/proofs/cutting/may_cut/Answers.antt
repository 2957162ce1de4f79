use Rattle.std.proofs.Common.{rules}
use Rattle.std.proofs.lemmas.Result.{IfOk-weaker}
use Rattle.step_discipline.specs.Seen.{seen_all}
use Rattle.step_discipline.proofs.Cuts.{cut_there, cut_none, cut_not}
use Rattle.step_discipline.proofs.cutting.may_cut.Goals as goal

pub returns-in-None : goal.returns-in-None
returns-in-None c = cut_none c.args.run c.args.path.now c.args.length (seen_all c.args.own.now) _ (search rules) (search rules)

pub returns-then-is_whole : goal.returns-then-is_whole
returns-then-is_whole c =
    IfOk-weaker c.is_drop_stored.result _ _ (λ b e. cut_there c.args.run c.args.path.now c.args.length c.in-Some.bytes (seen_all c.args.own.now) _ (search rules) (search rules) e) (search rules)

pub returns : goal.returns
returns c = cut_not c.args.run c.args.path.now c.args.length c.in-Some.bytes (seen_all c.args.own.now) _ (search rules) (search rules) (search rules)
