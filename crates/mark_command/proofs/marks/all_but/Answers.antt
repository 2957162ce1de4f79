use Rattle.std.specs.Prelude.{◌&&◌, not}
use Rattle.mh_sequences.specs.Runs.{has}
use Rattle.opening_plans.proofs.Sets.{made_by}
use Rattle.mark_command.proofs.marks.all_but.Goals as goal

pub returns : goal.returns
returns c = made_by (λ n. has c.args.listing.now.runs n && not (has c.args.chosen.now.runs n)) c.join.result c.join.ensures.numbers c.join.ensures.valid
