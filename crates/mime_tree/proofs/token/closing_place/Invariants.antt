use Rattle.std.proofs.Common.{◌≡◌, ◌+◌, false, drop}
use Rattle.std.specs.Prelude.{option_map}
use Rattle.mime_tree.specs.Tokens.{closing}
use Rattle.mime_tree.proofs.token.closing_place.Given as goal

abbrev pub invariant-loop-i : goal.invariant-loop-i
invariant-loop-i l = option_map (λ n. n + l.i) (closing l.protected (drop l.i l.text)) ≡ closing false l.text
