use Rattle.std.proofs.Common.{◌≡◌, ◌+◌, ◌≤◌, ◌++◌, length, take, drop}
use Rattle.mime_codes.specs.QuotedPrintable.{qp_decoded}
use Rattle.mime_codes.proofs.qp_decoding.qp_decode.Given as goal

abbrev pub invariant-loop-piece : goal.invariant-loop-piece
invariant-loop-piece l = record {
  fits : l.count + length l.rest ≤ length l.into;
  front : take l.count l.into ++ qp_decoded l.rest ≡ qp_decoded l.from;
  behind : drop l.count l.into ≡ drop l.count l.initial.into;
}

abbrev pub decreases-loop-piece : goal.decreases-loop-piece
decreases-loop-piece l = length l.rest
