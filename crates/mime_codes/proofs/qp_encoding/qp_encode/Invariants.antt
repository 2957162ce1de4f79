use Rattle.std.proofs.Common.{◌≡◌, ◌≤◌, ◌++◌, drop}
use Rattle.mime_codes.specs.QuotedPrintable.{encoded_from}
use Rattle.mime_codes.proofs.qp_encoding.qp_encode.Given as goal

abbrev pub invariant-loop-i : goal.invariant-loop-i
invariant-loop-i l = record {
  fits : l.column ≤ 76;
  text : l.text.items ++ encoded_from l.column (drop l.i l.from) ≡ encoded_from 0 l.from;
}
