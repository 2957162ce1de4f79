use Rattle.std.proofs.Common.{◌≡◌, ◌+◌, ◌*◌, ◌<◌, ◌≤◌, ◌++◌, length, take, drop, map, filter}
use Rattle.mime_codes.specs.Base64.{is_symbol, sextet, octets, b64_decoded}
use Rattle.mime_codes.proofs.b64_decoding.b64_decode.Given as goal

abbrev pub invariant-loop-rest : goal.invariant-loop-rest
invariant-loop-rest l = record {
  room : length l.symbols < 1024;
  fits : 4 * l.count + 3 * length l.symbols + 3 * length l.rest ≤ 3 * length l.into;
  front : take l.count l.into ++ octets (map sextet (l.symbols ++ filter is_symbol l.rest)) ≡ b64_decoded l.from;
  behind : drop l.count l.into ≡ drop l.count l.initial.into;
}

abbrev pub decreases-loop-rest : goal.decreases-loop-rest
decreases-loop-rest l = length l.rest
