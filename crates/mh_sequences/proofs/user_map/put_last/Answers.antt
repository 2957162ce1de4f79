use Rattle.std.proofs.Common.{[], ◌∷◌, map, ◌∙◌}
use Rattle.mh_sequences.specs.Sequences.{told, told_entry}
use Rattle.mh_sequences.proofs.Bools.{ok_then}
use Rattle.mh_sequences.proofs.NamedEntries.{front_valid, placed_last}
use Rattle.mh_sequences.proofs.user_map.put_last.Goals as goal

pub put-requires-clause-users : goal.put-requires-clause-users
put-requires-clause-users c = front_valid (map told_entry c.args.users.now.entries) (told c.args.user ∷ []) c.requires

pub returns : goal.returns
returns c = ok_then _ _ c.put.result (λ e. e ∙ placed_last (map told_entry c.args.users.now.entries) (told c.args.user) c.requires) c.put.ensures.ok
