use Rattle.std.proofs.Common.{◌≡◌, length}
use Rattle.mail_headers.specs.Message.{rest_of}
use Rattle.mail_headers.proofs.message.behind_fields.Given as goal

abbrev pub invariant-loop : goal.invariant-loop
invariant-loop l = rest_of l.fields.rest.now ≡ rest_of l.bytes

abbrev pub decreases-loop : goal.decreases-loop
decreases-loop l = length l.fields.rest.now
