use Rattle.std.proofs.Common.{map, ap, subst, sym, ◌∙◌}
use Rattle.mh_sequences.specs.Sequences.{AreSequences, told_entry}
use Rattle.mh_sequences.proofs.NamedEntries.{inserted, removed_empty}
use Rattle.mh_sequences.proofs.Placing.{placed_valid}
use Rattle.mh_sequences.proofs.user_map.put.Goals as goal

pub returns-then-is_empty-clause-ok : goal.returns-then-is_empty-clause-ok
returns-then-is_empty-clause-ok c =
    ap (map told_entry) c.remove.ensures.entries
    ∙ removed_empty c.args.name c.args.user.public c.args.user.numbers.runs c.args.users.now.entries c.requires.users (sym c.is_empty.ensures.value ∙ c.if-is_empty.true)

pub returns-then-is_empty-clause-valid : goal.returns-then-is_empty-clause-valid
returns-then-is_empty-clause-valid c =
    subst AreSequences (sym (returns-then-is_empty-clause-ok c))
    (placed_valid c.args.name c.args.user.public c.args.user.numbers.runs (map told_entry c.args.users.now.entries) c.requires.name c.is_empty.ensures.valid c.requires.users)

pub returns-clause-ok : goal.returns-clause-ok
returns-clause-ok c =
    ap (map told_entry) c.in_ok-insert.ensures.entries
    ∙ inserted c.args.name c.args.user c.args.users.now.entries (sym c.is_empty.ensures.value ∙ c.if-is_empty.false)

pub returns-clause-valid : goal.returns-clause-valid
returns-clause-valid c =
    subst AreSequences (sym (returns-clause-ok c))
    (placed_valid c.args.name c.args.user.public c.args.user.numbers.runs (map told_entry c.args.users.now.entries) c.requires.name c.is_empty.ensures.valid c.requires.users)
