use Rattle.std.proofs.Common.{◌≡◌, ◌∷◌, take, true}
use Rattle.std.specs.List.{flat_map, list_all}
use Rattle.mail_headers.specs.Lines.{is_name_byte}
use Rattle.mh_sequences.specs.Reading.{escape}
use Rattle.mh_sequences.proofs.escape.suffix_of.Given as goal

abbrev pub invariant-loop-byte : goal.invariant-loop-byte
invariant-loop-byte l = record {
  text : l.text ≡ 45 ∷ flat_map escape (take l.byte-index l.byte-items);
  clean : list_all is_name_byte l.text ≡ true;
}
