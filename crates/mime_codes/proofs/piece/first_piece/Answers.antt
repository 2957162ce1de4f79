use Rattle.std.proofs.Common.{sym}
use Rattle.mime_codes.proofs.Reading.{byte_stays}
use Rattle.mime_codes.proofs.piece.first_piece.Goals as goal

pub returns-else-is_blank : goal.returns-else-is_blank
returns-else-is_blank c = byte_stays c.in_ok-byte.byte.now c.in_ok-byte.behind.now c.args.text.now c.in_ok-byte.ensures.cases.0 c.if-byte-eq61.false (sym c.if-is_blank.ensures)
