use Rattle.std.proofs.Common.{◌≡◌, drop}
use Rattle.mhbuild_compose.specs.Encodings.{fits_line}
use Rattle.mhbuild_compose.proofs.encoding.is_seven.Given as goal

abbrev pub invariant-loop-byte : goal.invariant-loop-byte
invariant-loop-byte l = fits_line l.column (drop l.byte-index l.text) ≡ fits_line 0 l.text
