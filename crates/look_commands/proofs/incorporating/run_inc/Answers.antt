use Rattle.std.proofs.Common.{refl, map}
use Rattle.std.specs.Str.{chars}
use Rattle.std.specs.String.{string_bytes}
use Rattle.file_plans.specs.Plan.{fresh}
use Rattle.file_plans.proofs.Following.{no_room, lift_ok}
use Rattle.step_plans.specs.CommandFaults.{command_cause}
use Rattle.command_words.specs.Ended.{plain, ended_cause}
use Rattle.look_words.specs.IncWords.{inc_said}
use Rattle.command_plans.specs.Command.{by_words, inc_begun}
use Rattle.command_plans.specs.Incorporating.{job_by}
use Rattle.command_plans.specs.Profile.{path_of}
use Rattle.command_plans.proofs.Plans.{ends_off, plain_same, refused_words, words_on}
use Rattle.command_plans.proofs.Refusals.{job_refuses}
use Rattle.look_commands.proofs.incorporating.run_inc.Goals as goal
use Rattle.look_commands.specs.Asked.{inc_asked_of}

pub returns-in_err-asked : goal.returns-in_err-asked
returns-in_err-asked g c = (
  fresh,
  refused_words (by_words (inc_begun c.args.run (path_of c.args.profile.now))) (job_by c.args.caller.now c.args.profile.now (inc_said c.args.profile.now (map chars (map string_bytes c.args.words.now)))) _ _ (λ f. refl)
      (λ f is. job_refuses c.args.caller.now c.args.profile.now (map chars (map string_bytes c.args.words.now)) f is) c.in_err-asked.ensures c.from_residual.ensures,
)

pub returns-in_err-path : goal.returns-in_err-path
returns-in_err-path g c = (fresh, no_room _ c.from_residual-in_err-path.ensures refl)

pub returns-in_err-begin_inc : goal.returns-in_err-begin_inc
returns-in_err-begin_inc g c = (
  c.begin_inc.new.hand.kept,
  words_on (by_words (inc_begun c.args.run (path_of c.args.profile.now))) (job_by c.args.caller.now c.args.profile.now (inc_said c.args.profile.now (map chars (map string_bytes c.args.words.now)))) (inc_asked_of c.args.caller.now c.in_ok-asked.asked) c.in_ok-asked.ensures
      (ends_off plain _ plain_same (rw (c.new-hand.ensures.run, c.new-hand.ensures.kept, c.new-hand.ensures.mail, c.in_ok-path.ensures) at c.in_err-begin_inc.ensures) c.from_residual-in_err-begin_inc.ensures),
)

pub returns : goal.returns
returns g c = (
  c.begin_inc.new.hand.kept,
  words_on (by_words (inc_begun c.args.run (path_of c.args.profile.now))) (job_by c.args.caller.now c.args.profile.now (inc_said c.args.profile.now (map chars (map string_bytes c.args.words.now)))) (inc_asked_of c.args.caller.now c.in_ok-asked.asked) c.in_ok-asked.ensures
      (lift_ok c.args.run command_cause ended_cause plain (inc_begun c.args.run (path_of c.args.profile.now) (inc_asked_of c.args.caller.now c.in_ok-asked.asked)) _ _ tt (rw (c.new-hand.ensures.run, c.new-hand.ensures.kept, c.new-hand.ensures.mail, c.in_ok-path.ensures) at c.in_ok-begin_inc.ensures)),
)
