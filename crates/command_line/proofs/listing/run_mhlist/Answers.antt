use Rattle.std.proofs.Common.{refl, map}
use Rattle.std.specs.Str.{chars}
use Rattle.std.specs.String.{string_bytes}
use Rattle.file_plans.specs.Plan.{fresh}
use Rattle.file_plans.proofs.Following.{no_room, lift_ok}
use Rattle.step_plans.specs.CommandFaults.{command_cause}
use Rattle.command_words.specs.Ended.{plain, ended_cause}
use Rattle.list_words.specs.ListWords.{list_said}
use Rattle.command_plans.specs.Command.{by_words, list_begun}
use Rattle.command_plans.proofs.Plans.{ends_off, plain_same, refused_words, words_on}
use Rattle.list_words.proofs.Said.{list_refuses}
use Rattle.command_line.proofs.listing.run_mhlist.Goals as goal

pub returns-in_err-words : goal.returns-in_err-words
returns-in_err-words g c = (
  fresh,
  refused_words (by_words (list_begun c.args.run c.args.profile.now)) (list_said c.args.profile.now (map chars (map string_bytes c.args.words.now))) _ _ (λ f. refl)
      (λ f is. list_refuses c.args.profile.now (map chars (map string_bytes c.args.words.now)) f is) c.in_err-words.ensures c.from_residual.ensures,
)

pub returns-in_err-path : goal.returns-in_err-path
returns-in_err-path g c = (fresh, no_room _ c.from_residual-in_err-path.ensures refl)

pub returns-in_err-begin_mhlist : goal.returns-in_err-begin_mhlist
returns-in_err-begin_mhlist g c = (
  c.begin_mhlist.new.hand.kept,
  words_on (by_words (list_begun c.args.run c.args.profile.now)) (list_said c.args.profile.now (map chars (map string_bytes c.args.words.now))) c.in_ok-words.words c.in_ok-words.ensures
      (ends_off plain _ plain_same (rw (c.new-hand.ensures.run, c.new-hand.ensures.kept) at c.in_err-begin_mhlist.ensures) c.from_residual-in_err-begin_mhlist.ensures),
)

pub returns : goal.returns
returns g c = (
  c.begin_mhlist.new.hand.kept,
  words_on (by_words (list_begun c.args.run c.args.profile.now)) (list_said c.args.profile.now (map chars (map string_bytes c.args.words.now))) c.in_ok-words.words c.in_ok-words.ensures
      (lift_ok c.args.run command_cause ended_cause plain (list_begun c.args.run c.args.profile.now c.in_ok-words.words) _ _ tt (rw (c.new-hand.ensures.run, c.new-hand.ensures.kept) at c.in_ok-begin_mhlist.ensures)),
)
