use Rattle.std.proofs.Common.{refl, map}
use Rattle.std.specs.Str.{chars}
use Rattle.std.specs.String.{string_bytes}
use Rattle.file_plans.specs.Plan.{fresh}
use Rattle.file_plans.proofs.Following.{no_room, lift_ok}
use Rattle.step_plans.specs.CommandFaults.{command_cause}
use Rattle.command_words.specs.Ended.{plain, ended_cause}
use Rattle.look_words.specs.ScanWords.{scan_said}
use Rattle.command_plans.specs.Command.{by_words, scan_begun}
use Rattle.command_plans.specs.Looking.{scan_asked}
use Rattle.command_plans.proofs.Plans.{ends_off, plain_same, refused_words, words_on}
use Rattle.command_plans.proofs.Refusals.{asked_refuses}
use Rattle.look_commands.proofs.scanning.run_scan.Goals as goal
use Rattle.look_commands.specs.Asked.{asked_of}

pub returns-in_err-asked : goal.returns-in_err-asked
returns-in_err-asked g c = (
  fresh,
  refused_words (by_words (scan_begun c.args.run c.args.profile.now)) (scan_asked c.args.caller.now (scan_said c.args.profile.now (map chars (map string_bytes c.args.words.now)))) _ _ (λ f. refl)
      (λ f is. asked_refuses c.args.caller.now c.args.profile.now (map chars (map string_bytes c.args.words.now)) f is) c.in_err-asked.ensures c.from_residual.ensures,
)

pub returns-in_err-path : goal.returns-in_err-path
returns-in_err-path g c = (fresh, no_room _ c.from_residual-in_err-path.ensures refl)

pub returns-in_err-begin_scan : goal.returns-in_err-begin_scan
returns-in_err-begin_scan g c = (
  c.begin_scan.new.hand.kept,
  words_on (by_words (scan_begun c.args.run c.args.profile.now)) (scan_asked c.args.caller.now (scan_said c.args.profile.now (map chars (map string_bytes c.args.words.now)))) (asked_of c.args.caller.now c.in_ok-asked.asked) c.in_ok-asked.ensures
      (ends_off plain _ plain_same (rw (c.new-hand.ensures.run, c.new-hand.ensures.kept) at c.in_err-begin_scan.ensures) c.from_residual-in_err-begin_scan.ensures),
)

pub returns : goal.returns
returns g c = (
  c.begin_scan.new.hand.kept,
  words_on (by_words (scan_begun c.args.run c.args.profile.now)) (scan_asked c.args.caller.now (scan_said c.args.profile.now (map chars (map string_bytes c.args.words.now)))) (asked_of c.args.caller.now c.in_ok-asked.asked) c.in_ok-asked.ensures
      (lift_ok c.args.run command_cause ended_cause plain (scan_begun c.args.run c.args.profile.now (asked_of c.args.caller.now c.in_ok-asked.asked)) _ _ tt (rw (c.new-hand.ensures.run, c.new-hand.ensures.kept) at c.in_ok-begin_scan.ensures)),
)
