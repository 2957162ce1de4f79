use Rattle.std.proofs.Common.{drop, map}
use Rattle.mh_sequences.specs.FieldNames.{is_name_in}
use Rattle.mh_sequences.specs.Sequences.{told}
use Rattle.mh_sequences.proofs.Gathered.{IsGatheredSoFar}
use Rattle.mh_sequences.proofs.gathering.gather.Given as goal

abbrev pub invariant-loop-mention : goal.invariant-loop-mention
invariant-loop-mention l = IsGatheredSoFar (is_name_in l.names) l.mention-items (drop l.mention-index l.mention-items) (map told l.users.items)
