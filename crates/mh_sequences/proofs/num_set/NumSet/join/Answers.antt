use Rattle.std.proofs.Common.{◌∙◌, subst, sym}
use Rattle.mh_sequences.specs.Runs.{AreRuns, has}
use Rattle.mh_sequences.specs.Joins.{joins}
use Rattle.mh_sequences.proofs.Joining.{start, whole}
use Rattle.mh_sequences.proofs.num_set.NumSet.join.Goals as goal

pub loop-from-init : goal.loop-from-init
loop-from-init c = (subst AreRuns (sym c.new-joined.ensures) tt, start c.args.how c.self.inside.runs.runs c.other.inside.runs.runs c.self.invariant.0 c.other.invariant.0 c.new-joined.result.runs c.new-joined.ensures)

pub returns-clause-numbers : goal.returns-clause-numbers
returns-clause-numbers c n =
    whole c.args.how c.self.inside.runs.runs c.other.inside.runs.runs c.self.invariant.0 c.other.invariant.0 c.loop-from.joined.runs c.loop-from.from c.loop-from.invariant.1 c.loop-from-test.false n
    ∙ (λ i. joins c.args.how (has (c.self.view_is i).runs n) (has (c.other.view_is i).runs n))
