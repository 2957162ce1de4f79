use Rattle.mime_codes.proofs.Groups.{never_fails, groups_written}
use Rattle.mime_codes.proofs.symbols.decode_groups.Goals as goal

pub unreachable-requires : goal.unreachable-requires
unreachable-requires c = never_fails c.args.symbols.now c.in_default.field-0 c.requires.symbols c.requires.whole c.in_default.ensures.err

pub returns : goal.returns
returns c = groups_written c.args.symbols.now c.args.bytes.now c.decode_slice_unchecked.new.output c.in-Ok.field-0 c.requires.symbols c.requires.whole c.decode_slice_unchecked.auto.output c.in-Ok.ensures.ok
