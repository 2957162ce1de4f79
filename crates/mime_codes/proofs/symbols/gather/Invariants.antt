use Rattle.std.proofs.Common.{◌≡◌, ◌+◌, ◌≤◌, ◌++◌, take, filter}
use Rattle.mime_codes.specs.Base64.{is_symbol}
use Rattle.mime_codes.proofs.symbols.gather.Given as goal

abbrev pub invariant-loop-byte : goal.invariant-loop-byte
invariant-loop-byte l = record {
  bound : l.len ≤ l.fn.len + l.byte-index;
  front : take l.len l.bytes ≡ take l.fn.len l.initial.bytes ++ filter is_symbol (take l.byte-index l.text);
}
