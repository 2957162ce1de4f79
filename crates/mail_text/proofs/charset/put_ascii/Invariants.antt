use Rattle.std.proofs.Common.{◌≡◌, ◌++◌, map, take}
use Rattle.mail_text.specs.Charsets.{ascii_character}
use Rattle.mail_text.proofs.charset.put_ascii.Given as goal

abbrev pub invariant-loop-byte : goal.invariant-loop-byte
invariant-loop-byte l = l.text ≡ l.initial.text ++ map ascii_character (take l.byte-index l.bytes)
