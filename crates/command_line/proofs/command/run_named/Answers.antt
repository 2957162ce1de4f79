use Rattle.std.proofs.Common.{refl, rules, map}
use Rattle.std.specs.Prelude.{None}
use Rattle.std.specs.String.{string_bytes}
use Rattle.file_plans.specs.Plan.{fresh}
use Rattle.command_plans.proofs.Plans.{input_some, named_none, named_some, none_unsourced}
use Rattle.command_line.proofs.command.run_named.Goals as goal

pub returns-in-None-clause-plan : goal.returns-in-None-clause-plan
returns-in-None-clause-plan g c = (fresh, named_none c.args.caller.now c.args.profile.now string_bytes c.args.words.now _ c.in-None.ensures.cases c.no_command.ensures)

pub returns-in-Some-clause-plan : goal.returns-in-Some-clause-plan
returns-in-Some-clause-plan g c =
    let f = c.run_word.ensures.plan in
    (f.0, named_some c.args.caller.now c.args.profile.now (map string_bytes c.args.words.now) (map string_bytes c.in-Some.rest.now) c.as_str.result.now (search rules) f.1)

pub returns-in-Some-clause-input : goal.returns-in-Some-clause-input
returns-in-Some-clause-input g c = input_some (map string_bytes c.args.words.now) (map string_bytes c.in-Some.rest.now) c.as_str.result.now _ _ _ (search rules) c.run_word.ensures.input

pub returns-in-None-clause-input : goal.returns-in-None-clause-input
returns-in-None-clause-input g c = λ other. (refl, none_unsourced _ None c.no_command.ensures)
