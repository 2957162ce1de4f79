use Rattle.std.proofs.Common.{refl, map}
use Rattle.std.specs.Str.{chars}
use Rattle.std.specs.String.{string_bytes}
use Rattle.file_plans.specs.Plan.{fresh}
use Rattle.file_plans.proofs.Following.{no_room, lift_ok}
use Rattle.step_plans.specs.CommandFaults.{command_cause}
use Rattle.command_words.specs.Ended.{plain, ended_cause}
use Rattle.build_words.specs.BuildWords.{build_said}
use Rattle.command_plans.specs.Command.{build_begun, by_words}
use Rattle.command_plans.proofs.Plans.{ends_off, plain_same, refused_words, words_on}
use Rattle.build_words.proofs.Said.{build_refuses}
use Rattle.command_line.proofs.building.run_mhbuild.Goals as goal

pub returns-in_err-words : goal.returns-in_err-words
returns-in_err-words g c = (
  fresh,
  refused_words (by_words (build_begun c.args.run c.args.profile.now)) (build_said c.args.profile.now (map chars (map string_bytes c.args.words.now))) _ _ (λ f. refl)
      (λ f is. build_refuses c.args.profile.now (map chars (map string_bytes c.args.words.now)) f is) c.in_err-words.ensures c.from_residual.ensures,
)

pub returns-in_err-path : goal.returns-in_err-path
returns-in_err-path g c = (fresh, no_room _ c.from_residual-in_err-path.ensures refl)

pub returns-in_err-begin_mhbuild : goal.returns-in_err-begin_mhbuild
returns-in_err-begin_mhbuild g c = (
  c.begin_mhbuild.new.hand.kept,
  words_on (by_words (build_begun c.args.run c.args.profile.now)) (build_said c.args.profile.now (map chars (map string_bytes c.args.words.now))) c.in_ok-words.words c.in_ok-words.ensures
      (ends_off plain _ plain_same (rw (c.new-hand.ensures.run, c.new-hand.ensures.kept) at c.in_err-begin_mhbuild.ensures) c.from_residual-in_err-begin_mhbuild.ensures),
)

pub returns : goal.returns
returns g c = (
  c.begin_mhbuild.new.hand.kept,
  words_on (by_words (build_begun c.args.run c.args.profile.now)) (build_said c.args.profile.now (map chars (map string_bytes c.args.words.now))) c.in_ok-words.words c.in_ok-words.ensures
      (lift_ok c.args.run command_cause ended_cause plain (build_begun c.args.run c.args.profile.now c.in_ok-words.words) _ _ tt (rw (c.new-hand.ensures.run, c.new-hand.ensures.kept) at c.in_ok-begin_mhbuild.ensures)),
)
