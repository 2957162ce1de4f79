use Rattle.std.proofs.Common.{arith, ◌∙◌}
use Rattle.std.proofs.lemmas.Option.{slice_get_within}
use Rattle.mh_sequences.proofs.Removing.{without_first, without_last, without_inner}
use Rattle.mh_sequences.proofs.runs.split.Goals as goal

pub prove-unreachable-requires : goal.prove-unreachable-requires
prove-unreachable-requires c = let lt = slice_get_within c.args.runs.now.runs c.args.at c.args.run c.requires.is in omega (arith, lt)

pub returns-then-from-n-clause-ok : goal.returns-then-from-n-clause-ok
returns-then-from-n-clause-ok c = c.set.ensures.runs ∙ without_first c.args.runs.now.runs c.args.at c.args.run c.args.n c.number.result c.requires.is (omega arith) (omega arith) (omega arith)

pub returns-then-to-n-clause-ok : goal.returns-then-to-n-clause-ok
returns-then-to-n-clause-ok c = c.set-then-to-n.ensures.runs ∙ without_last c.args.runs.now.runs c.args.at c.args.run c.args.n c.number-then-to-n.result c.requires.is (omega arith) (omega arith) (omega arith)

pub returns-in_ok-put-clause-ok : goal.returns-in_ok-put-clause-ok
returns-in_ok-put-clause-ok c =
    c.set-else-to-n.ensures.runs
    ∙ without_inner c.args.runs.now.runs c.put.new.self.runs c.args.at c.args.run c.args.n c.number-else-to-n-2.result c.number-else-to-n.result c.requires.is
    (omega arith) (omega arith) (omega arith) (omega arith) c.in_ok-put.ensures.ok
