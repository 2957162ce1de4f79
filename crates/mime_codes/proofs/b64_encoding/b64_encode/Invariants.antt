use Rattle.std.proofs.Common.{◌≡◌, ◌++◌, length}
use Rattle.mime_codes.specs.Base64.{b64_encoded}
use Rattle.mime_codes.proofs.b64_encoding.b64_encode.Given as goal

abbrev pub invariant-loop-rest : goal.invariant-loop-rest
invariant-loop-rest l = l.text.items ++ b64_encoded l.rest ≡ b64_encoded l.from

abbrev pub decreases-loop-rest : goal.decreases-loop-rest
decreases-loop-rest l = length l.rest
