use Rattle.std.proofs.Common.{◌∙◌, ap, slice_index, arith}
use Rattle.mime_codes.specs.declared.symbols.TheConstants.{COUNTS}
use Rattle.mime_codes.proofs.Taking.{counted}
use Rattle.mime_codes.proofs.symbols.count_of.Goals as goal

pub returns : goal.returns
returns c = c.from-2.ensures ∙ ap (slice_index COUNTS) c.from.ensures ∙ counted c.args.byte (omega (arith, c.ranges.byte))
