use Rattle.std.proofs.Common.{◌≡◌, ◌++◌, false, drop}
use Rattle.mime_tree.specs.Tokens.{unprotected_at}
use Rattle.mime_tree.proofs.token.unprotected.Given as goal

abbrev pub invariant-loop-byte : goal.invariant-loop-byte
invariant-loop-byte l = l.bytes.items ++ unprotected_at l.protected (drop l.byte-index l.text) ≡ unprotected_at false l.text
